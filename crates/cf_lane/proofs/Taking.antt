-- Laws of one unit, and of what a queue grows by.
use Rattle.cf_lane.specs.Caller.{RateMoments, own_at}
use Rattle.cf_lane.proofs.Earlier.{no_debt}
use Rattle.cf_lane.proofs.Handling.{adu_handled, push-nothing, with_lines-nothing}
use Rattle.cf_lane.proofs.Units.{adus, begins_by}
use Rattle.cf_lane.specs.Handled.{Grows, HasRoom, IsLaneOf, IsOpen, LaneValue, State, TakesCommand, TakesUnit, debt}
use Rattle.cf_lane.specs.Log.{admission_lines, is_some_bytes, line_about, refusal_line, with_lines}
use Rattle.cf_lane.specs.Judged.{Judged}
use Rattle.cf_lane.specs.Modbus.{HasAduFate, HasCommandFate, adu_reply}
use Rattle.cf_lane.specs.Rates.{Says, says_at}
use Rattle.cf_lane.specs.Parts.{part}
use Rattle.cf_lane.specs.Rings.{AllGoOn, IsRulesOf, KnowsRules, says_by}
use Rattle.cf_lane.specs.Site.{place_for}
use Rattle.cf_lane.specs.declared.rules.Rules.{Rules}
use Rattle.cf_lane.specs.declared.fate.Admission.{Admission}
use Rattle.cf_lane.specs.declared.fate.Fate.{Fate}
use Rattle.cf_lane.proofs.Saying.{all_stay, says_same}
use Rattle.cf_lane.specs.Unit.{Adu}
use Rattle.cf_lane.specs.declared.fate.Refusal.{Refusal}
use Rattle.cf_modbus.proofs.Framing.{own_length, own_octets}
use Rattle.cf_modbus.specs.Adu.{AduValue, SpellsAdu, spelling}
use Rattle.cf_outq.specs.SendQueue.{Queue, after_push}
use Rattle.cf_policy.specs.Site.{SiteValue, asset_of}
use Rattle.cf_view.specs.Framing.{Begins}
use Rattle.cf_view.specs.declared.Side.{Side}
use Rattle.std.proofs.Common.{Bool, List, None, Some, [], ap, arith, false, length, refl, slice_get, subst, sym, true, ℕ, ◌*◌, ◌+◌, ◌∙◌, ◌∷◌, ◌≡◌, ◌≤◌}
use Rattle.std.proofs.lemmas.List.{length-append, length-take}
use Rattle.std.specs.Prelude.{if◌then◌else◌}
use Rattle.cf_lane.specs.declared.fate.Fate.TheVariants as fate
use Rattle.cf_policy.specs.declared.Protocol.TheVariants as protocol
use Rattle.cf_view.specs.declared.Side.TheVariants as side

-- an admitted command has no reply
admitted_reply : (b : Bool) (used : Admission) (a : AduValue) → adu_reply b (fate.Admitted used) a ≡ []
admitted_reply true used a = refl
admitted_reply false used a = refl

module _ (site : SiteValue) (place moment : ℕ) (a : AduValue) (here : place ≡ place_for site side.Client (Adu a)) (old new : State) (client : new.lane.client ≡ old.lane.client)
    (wire : new.lane.wire ≡ old.lane.wire) (own : Rules) (at : slice_get old.lane.rules place ≡ Some own) (of : IsRulesOf (asset_of site place) old.lane.client.address own) where
  -- what the rules in memory say
  abbrev pub says : Says
  says = says_by (asset_of site place) old.lane.client.address own moment

  pub has_fate : (f : Fate) → HasCommandFate (asset_of site place) says a f → (past : RateMoments) (earlier : List Judged) → KnowsRules site past old.lane.rules earlier →
      HasAduFate (asset_of site place) (says_at (asset_of site place) (own_at old.lane.client.address (past place)) (part site place earlier) moment) side.Client a f
  has_fate f has past earlier know =
      subst (λ (x : Says). HasCommandFate (asset_of site place) x a f)
      (says_same (asset_of site place) old.lane.client.address (past place) own (part site place earlier) moment of (know place own at)) has

  -- an admitted command goes on, and nothing else does
  pub takes_admitted : (used : Admission) → old.to_controller.ended ≡ false → HasCommandFate (asset_of site place) says a (fate.Admitted used) →
      AllGoOn place (fate.Admitted used) moment old.lane.rules new.lane.rules →
      new.lane.admitted ≡ old.lane.admitted + 1 → new.lane.refused ≡ old.lane.refused →
      new.to_client ≡ old.to_client → new.to_controller ≡ after_push old.to_controller (spelling a) →
      new.lines ≡ with_lines old.lines (admission_lines (asset_of site place) old.lane.client moment (spelling a) used) →
      TakesCommand site moment a old new
  takes_admitted used goes has rules admitted refused c s t = record {
    fate = fate.Admitted used;
    uncut = refl;
    handled = adu_handled site place moment side.Client a here (fate.Admitted used) old new (has_fate (fate.Admitted used) has) rules client wire admitted (refused ∙ omega arith)
        (c ∙ sym (push-nothing old.to_client) ∙ ap (after_push old.to_client) (sym (admitted_reply old.to_client.ended used a)))
        s t (λ e. admitted_reply old.to_client.ended used a) (λ e. cc (e, goes));
  }

  -- a refused command has its reply, where one may still go out, and its line
  abbrev pub takes_refused : (r : Refusal) → HasCommandFate (asset_of site place) says a (fate.Refused r) → new.lane.rules ≡ old.lane.rules →
      new.lane.admitted ≡ old.lane.admitted → new.lane.refused ≡ old.lane.refused + 1 →
      new.to_client ≡ after_push old.to_client (adu_reply old.to_client.ended (fate.Refused r) a) → new.to_controller ≡ old.to_controller →
      new.lines ≡ with_lines old.lines (line_about (asset_of site place) old.lane.client moment
      (refusal_line (asset_of site place) r (is_some_bytes (adu_reply old.to_client.ended (fate.Refused r) a)) (spelling a)) ∷ []) →
      TakesCommand site moment a old new
  takes_refused r has rules admitted refused c s t = record {
    fate = fate.Refused r;
    uncut = refl;
    handled = adu_handled site place moment side.Client a here (fate.Refused r) old new (has_fate (fate.Refused r) has)
        (all_stay place (fate.Refused r) moment old.lane.rules new.lane.rules refl rules) client wire (admitted ∙ omega arith) refused
        c (s ∙ sym (push-nothing old.to_controller)) t (λ e. ap (λ b. adu_reply b (fate.Refused r) a) e) (λ e. refl);
  }

-- no more than so many is no more than more
pub grows_more : (m n d e : ℕ) (p q : Queue) → m ≤ n → Grows m d e p q → Grows n d e p q
grows_more m n d e p q l g = record { kept = omega (arith, g.kept, l); pushed = omega (arith, g.pushed, l); rest = g.rest }

-- a queue that stays as it was
pub grows_same : (n d : ℕ) (q : Queue) → Grows n d d q q
grows_same n d q = record { kept = omega arith; pushed = omega arith; rest = refl }

-- one of both queues has the octets, or neither of them
pub grows_passed : (b : Bool) (d : ℕ) (q r : Queue) (xs : List ℕ) → r ≡ after_push q (if b then [] else xs) → Grows (2 * length xs) d d q r
grows_passed b d q r xs is = subst (Grows (2 * length xs) d d q) (sym is) (by b) where
  by : (b : Bool) → Grows (2 * length xs) d d q (after_push q (if b then [] else xs))
  by true = record { kept = omega (arith, length-append q.kept []); pushed = omega arith; rest = refl }
  by false = record { kept = omega (arith, length-append q.kept xs); pushed = omega arith; rest = refl }

pub grows_push : (n : ℕ) (q : Queue) (xs : List ℕ) → length xs ≤ n → Grows n 0 0 q (after_push q xs)
grows_push n q xs l = record { kept = omega (arith, length-append q.kept xs, l); pushed = omega (arith, l); rest = refl }

pub grows_pushed : (q r : Queue) (xs ys : List ℕ) → r ≡ after_push q xs → xs ≡ ys → Grows (length ys) 0 0 q r
grows_pushed q r xs ys is same = subst (λ (p : Queue). Grows (length ys) 0 0 q p) (sym (is ∙ ap (after_push q) same)) (grows_push (length ys) q ys (omega arith))

pub grows_both : (m n c d e : ℕ) (p q r : Queue) → Grows m c d p q → Grows n d e q r → Grows (m + n) c e p r
grows_both m n c d e p q r a b = record {
  kept = omega (arith, a.kept, b.kept);
  pushed = omega (arith, a.pushed, b.pushed);
  rest = b.rest ∙ ap (λ (x : Queue). record x { kept = r.kept; pushed = r.pushed }) a.rest;
}

pub room_less : (m n : ℕ) (q : Queue) → n ≤ m → HasRoom m q → HasRoom n q
room_less m n q l r = record { room = omega (arith, r.room, l); limit = omega (arith, r.limit, l) }

-- a lane of Modbus has no debt, before a unit and after it
pub grows_modbus : (site : SiteValue) → site.first.protocol ≡ protocol.Modbus → (old new : LaneValue) → IsLaneOf site old → IsLaneOf site new → (m : ℕ) (p q : Queue) →
    Grows m 0 0 p q → Grows m (debt old) (debt new) p q
grows_modbus site modbus old new a b m p q g = rw (no_debt site old modbus a, no_debt site new modbus b) g

-- the room that is left once a queue grew
pub room_left : (m n d e : ℕ) (p q : Queue) → HasRoom (d + (m + n)) p → Grows m d e p q → HasRoom (e + n) q
room_left m n d e p q r g = record { room = omega (arith, r.room, g.kept); limit = omega (arith, r.limit, g.pushed) }

module _ (a : AduValue) (xs : List ℕ) (n : ℕ) (b : Begins SpellsAdu xs a n) where
  pub adu_length : length (spelling a) ≡ n
  adu_length = sym (ap length (own_octets a xs n b)) ∙ omega (arith, length-take n xs, b.inside)

  pub adu_least : 8 ≤ n
  adu_least = omega (arith, own_length a xs n b, b.spells.at_least)

module _ (site : SiteValue) (modbus : site.first.protocol ≡ protocol.Modbus) (moment : ℕ) (bytes : List ℕ) where
  -- a client's ADU is taken as a command
  abbrev pub takes_client : (a : AduValue) (n : ℕ) (old new : State) → Begins SpellsAdu bytes a n → TakesCommand site moment a old new →
      TakesUnit site moment side.Client bytes n None old new
  takes_client a n old new b t = record {
    unit = Adu a;
    begins = begins_by (adus site.first.protocol modbus) bytes a n b;
    some_bytes = omega (arith, adu_least a bytes n b);
    fate = t.fate;
    is_cut = t.uncut;
    handled = t.handled;
  }

  -- the same of the side that it is
  pub takes_of_client : (s : Side) → s ≡ side.Client → (a : AduValue) (n : ℕ) (old new : State) → Begins SpellsAdu bytes a n → TakesCommand site moment a old new →
      TakesUnit site moment s bytes n None old new
  takes_of_client s is a n old new b t = subst (λ (s : Side). TakesUnit site moment s bytes n None old new) (sym is) (takes_client a n old new b t)

  -- a controller's ADU goes on
  pub takes_of_controller : (s : Side) → s ≡ side.Controller → (a : AduValue) (n : ℕ) (old new : State) → IsOpen s old.to_client old.to_controller → new.lane ≡ old.lane →
      new.to_client ≡ after_push old.to_client (spelling a) → new.to_controller ≡ old.to_controller → new.lines ≡ old.lines →
      Begins SpellsAdu bytes a n → TakesUnit site moment s bytes n None old new
  takes_of_controller s is a n old new goes lane c q t b =
      let unended : old.to_client.ended ≡ false = subst (λ (s : Side). IsOpen s old.to_client old.to_controller) is goes in
      subst (λ (s : Side). TakesUnit site moment s bytes n None old new) (sym is) (record {
        unit = Adu a;
        begins = begins_by (adus site.first.protocol modbus) bytes a n b;
        some_bytes = omega (arith, adu_least a bytes n b);
        fate = fate.Carried;
        is_cut = refl;
        handled = adu_handled site (place_for site side.Controller (Adu a)) moment side.Controller a refl fate.Carried old new (λ past earlier know. refl)
            (all_stay (place_for site side.Controller (Adu a)) fate.Carried moment old.lane.rules new.lane.rules refl (ap (λ l. l.rules) lane)) (ap (λ l. l.client) lane) (ap (λ l. l.wire) lane)
            (ap (λ l. l.admitted) lane ∙ omega arith) (ap (λ l. l.refused) lane ∙ omega arith)
            c (q ∙ sym (push-nothing old.to_controller)) (t ∙ sym (with_lines-nothing old.lines)) (λ e. cc (e, unended)) (λ e. refl);
      })
