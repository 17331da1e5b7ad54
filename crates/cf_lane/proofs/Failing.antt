-- What stands after a line failed.
use Rattle.cf_lane.specs.Caller.{caller_at}
use Rattle.cf_lane.specs.Fate.{HasFateBy}
use Rattle.cf_lane.specs.Item.{Took, placed}
use Rattle.cf_lane.specs.Parts.{part}
use Rattle.cf_lane.specs.Rings.{IsRulesOf, says_by}
use Rattle.cf_lane.specs.Site.{place_for}
use Rattle.cf_lane.specs.declared.rules.Rules.{Rules}
use Rattle.cf_lane.proofs.Parting.{ended_part}
use Rattle.cf_lane.proofs.Saying.{says_same}
use Rattle.cf_lane.proofs.Units.{adus, begins_by}
use Rattle.cf_lane.specs.Handled.{IsFated, MayHaveMore, Misses, MissesCommand, State, judged}
use Rattle.cf_lane.specs.Log.{admission_lines, is_some_bytes, item_lines, line_about, lines_by, refusal_line, unit_lines}
use Rattle.cf_lane.specs.Modbus.{HasCommandFate, adu_reply}
use Rattle.cf_lane.specs.Judged.{fate_cut, has_ended}
use Rattle.cf_lane.specs.Rates.{Says}
use Rattle.cf_lane.specs.Unit.{Adu}
use Rattle.cf_lane.specs.declared.fate.Admission.{Admission}
use Rattle.cf_lane.specs.declared.fate.Fate.{Fate}
use Rattle.cf_lane.specs.declared.fate.Refusal.{Refusal}
use Rattle.cf_modbus.specs.Adu.{AduValue, SpellsAdu, spelling}
use Rattle.std.proofs.lemmas.List.{append-nil}
use Rattle.cf_policy.specs.Site.{SiteValue, asset_of}
use Rattle.cf_view.specs.Framing.{Begins}
use Rattle.cf_view.specs.declared.Side.{Side}
use Rattle.std.proofs.Common.{Bool, Err, List, None, Ok, Option, Some, [], ap, refl, slice_get, subst, sym, ◌∙◌, ℕ, ◌∷◌, ◌≡◌}
use Rattle.std.specs.Prelude.{OnErr}
use Rattle.std.specs.declared.result.Result.{Result}
use Rattle.cf_lane.specs.declared.fate.Fate.TheVariants as fate
use Rattle.cf_policy.specs.declared.Protocol.TheVariants as protocol
use Rattle.cf_view.specs.declared.Side.TheVariants as side

pub on_err : {A E : Type 0} (r : Result A E) (P : Type 0) → P → OnErr r P
on_err (Ok x) P p = tt
on_err (Err e) P p = p

-- a command whose line failed
module _ (site : SiteValue) (place moment : ℕ) (a : AduValue) (here : place ≡ place_for site side.Client (Adu a)) (old : State) (log : Option (List (List ℕ))) (part_ : List ℕ)
    (own : Rules) (at : slice_get old.lane.rules place ≡ Some own) (of : IsRulesOf (asset_of site place) old.lane.client.address own) where
  abbrev fated : (f : Fate) → HasCommandFate (asset_of site place) (says_by (asset_of site place) old.lane.client.address own moment) a f → IsFated site moment old side.Client (Adu a) f
  fated f has past earlier before knows =
      subst (λ k. HasFateBy site k (caller_at old.lane.client.address past) earlier (placed moment (Took side.Client (Adu a))) f) here
      (subst (λ (x : Says). HasCommandFate (asset_of site place) x a f)
      (says_same (asset_of site place) old.lane.client.address (past place) own (part site place earlier) moment of (knows.rules place own at)) has)

  pub misses_by : (f : Fate) → fate_cut f ≡ None → HasCommandFate (asset_of site place) (says_by (asset_of site place) old.lane.client.address own moment) a f →
      (more : List (List ℕ)) →
      ((b : Bool) → b ≡ old.to_client.ended → unit_lines (asset_of site place) old.lane.client moment (is_some_bytes (adu_reply b f a)) side.Client (spelling a) f ≡ more) →
      MayHaveMore more old.lines log part_ → MissesCommand site moment a old log part_
  misses_by f uncut has more are either = record {
    fate = f;
    uncut = uncut;
    has = fated f has;
    more = more;
    are_more = λ past earlier before knows.
        append-nil (item_lines site old.lane.client earlier (judged moment (Took side.Client (Adu a)) f) (Took side.Client (Adu a)))
        ∙ ap (λ k. lines_by site k old.lane.client earlier (judged moment (Took side.Client (Adu a)) f) side.Client (Adu a)) (sym here)
        ∙ are (has_ended side.Controller (part site place earlier)) (ended_part site place side.Controller earlier ∙ sym knows.client_ended);
    line = either;
  }

  pub misses_refused : (r : Refusal) → HasCommandFate (asset_of site place) (says_by (asset_of site place) old.lane.client.address own moment) a (fate.Refused r) →
      (line : List ℕ) →
      line ≡ line_about (asset_of site place) old.lane.client moment (refusal_line (asset_of site place) r (is_some_bytes (adu_reply old.to_client.ended (fate.Refused r) a)) (spelling a)) →
      MayHaveMore (line ∷ []) old.lines log part_ → MissesCommand site moment a old log part_
  misses_refused r has line is either =
      misses_by (fate.Refused r) refl has (line ∷ [])
      (λ b e. ap (λ c. line_about (asset_of site place) old.lane.client moment (refusal_line (asset_of site place) r (is_some_bytes (adu_reply c (fate.Refused r) a)) (spelling a)) ∷ []) e
      ∙ ap (λ l. l ∷ []) (sym is))
      either

  pub misses_admitted : (admitted : Admission) → HasCommandFate (asset_of site place) (says_by (asset_of site place) old.lane.client.address own moment) a (fate.Admitted admitted) →
      MayHaveMore (admission_lines (asset_of site place) old.lane.client moment (spelling a) admitted) old.lines log part_ → MissesCommand site moment a old log part_
  misses_admitted admitted has either =
      misses_by (fate.Admitted admitted) refl has (admission_lines (asset_of site place) old.lane.client moment (spelling a) admitted) (λ b e. refl) either

-- a unit whose command's line failed
pub misses_unit : (site : SiteValue) → site.first.protocol ≡ protocol.Modbus → (moment : ℕ) (s : Side) → s ≡ side.Client → (bytes : List ℕ) (a : AduValue) (n : ℕ) (old : State)
    (log : Option (List (List ℕ))) (part : List ℕ) → Begins SpellsAdu bytes a n → MissesCommand site moment a old log part → Misses site moment s bytes old log part
misses_unit site modbus moment s is bytes a n old log part b m = subst (λ (s : Side). Misses site moment s bytes old log part) (sym is) (record {
  used = n;
  unit = Adu a;
  begins = begins_by (adus site.first.protocol modbus) bytes a n b;
  fate = m.fate;
  uncut = m.uncut;
  has = m.has;
  more = m.more;
  are_more = m.are_more;
  line = m.line;
})

pub misses_rest : (site : SiteValue) (moment : ℕ) (s : Side) (xs ys : List ℕ) (old : State) (log : Option (List (List ℕ))) (part : List ℕ) → xs ≡ ys →
    Misses site moment s xs old log part → Misses site moment s ys old log part
misses_rest site moment s xs ys old log part is m = subst (λ zs. Misses site moment s zs old log part) is m
