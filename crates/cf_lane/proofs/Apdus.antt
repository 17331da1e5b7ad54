-- One APDU among the items: `apdu_handled`.
use Rattle.cf_lane.proofs.Saying.{says_same}
use Rattle.cf_lane.specs.Rates.{Says}
use Rattle.cf_lane.specs.Caller.{caller_at}
use Rattle.cf_lane.specs.Fate.{HasFateBy}
use Rattle.cf_lane.specs.Parts.{part}
use Rattle.cf_lane.specs.Rings.{AllGoOn, IsRulesOf, says_by}
use Rattle.cf_lane.specs.Site.{place_for}
use Rattle.cf_apci.specs.Apdu.{ApduValue, SpellsApdu, spelling}
use Rattle.cf_audit.specs.declared.line.CutReason.{CutReason}
use Rattle.cf_lane.proofs.Earlier.{cut_of-append, events_of-more, first_none}
use Rattle.cf_lane.proofs.Handling.{unit_handled}
use Rattle.cf_lane.proofs.Taking.{grows_more}
use Rattle.cf_lane.proofs.Units.{apdus, begins_by}
use Rattle.cf_lane.specs.Handled.{FrontsOf, Grows, Handled, MissesOf, Outlets, State, judged, lane_at, letters_in, state, step_by}
use Rattle.cf_lane.specs.Iec104.{fate_of_apdu}
use Rattle.cf_lane.specs.Item.{Took, placed}
use Rattle.cf_lane.specs.Judged.{Judged, fate_cut, is_admitted, is_refused, one_if}
use Rattle.cf_lane.specs.Kept.{KnowsWire}
use Rattle.cf_lane.specs.Log.{item_lines, lines_by}
use Rattle.cf_lane.specs.Renumbered.{MissesApdu, Numbered, TakesApdu, numbered, unless_cut, unless_cut_by}
use Rattle.cf_lane.specs.Unit.{Apdu}
use Rattle.cf_lane.specs.declared.fate.Fate.{Fate}
use Rattle.cf_lane.specs.declared.rules.Rules.{Rules}
use Rattle.cf_outq.specs.SendQueue.{Queue}
use Rattle.cf_policy.specs.Site.{SiteValue, asset_of}
use Rattle.cf_policy.specs.declared.Asset.{Asset}
use Rattle.cf_renumber.specs.Numbers.{IsNumbersOf, NumbersValue}
use Rattle.cf_view.specs.Framing.{Begins}
use Rattle.cf_view.specs.declared.Endpoint.{Endpoint}
use Rattle.cf_view.specs.declared.Side.{Side}
use Rattle.std.proofs.Common.{List, None, Option, Some, [], ap, arith, length, refl, slice_get, subst, sym, ℕ, ◌*◌, ◌++◌, ◌+◌, ◌∙◌, ◌∷◌, ◌≡◌, ◌≤◌}
use Rattle.std.proofs.lemmas.List.{append-nil, length-take}
use Rattle.cf_lane.specs.declared.wire.Wire.TheVariants as wire
use Rattle.cf_policy.specs.declared.Protocol.TheVariants as protocol
use Rattle.cf_view.specs.declared.base.Framed.TheVariants as framed

-- what a lane of IEC 104 has of its numbers
abbrev pub numbers_of : NumbersValue → State → Numbered
numbers_of numbers s = numbered numbers s.to_client s.to_controller s.lines

module _ (site : SiteValue) (place moment : ℕ) (s : Side) (a : ApduValue) (here : place ≡ place_for site s (Apdu a)) (f : Fate) (old new : State) (before after : NumbersValue)
    (was : old.lane.wire ≡ wire.Iec104 before) (is : new.lane.wire ≡ wire.Iec104 after) (client : new.lane.client ≡ old.lane.client)
    (admitted : new.lane.admitted ≡ old.lane.admitted + one_if (is_admitted f)) (refused : new.lane.refused ≡ old.lane.refused + one_if (is_refused f))
    (own : Rules) (at : slice_get old.lane.rules place ≡ Some own) (of : IsRulesOf (asset_of site place) old.lane.client.address own)
    (rules : AllGoOn place f moment old.lane.rules new.lane.rules)
    (takes : TakesApdu (asset_of site place) (says_by (asset_of site place) old.lane.client.address own moment) old.lane.client moment s a f (numbers_of before old) (numbers_of after new)) where
  -- one APDU was handled
  pub apdu_handled : Handled site (judged moment (Took s (Apdu a)) f ∷ []) old new
  apdu_handled = unit_handled site place moment s (Apdu a) here f old new client admitted refused rules (λ past earlier uncut knows.
      (let j : Judged = judged moment (Took s (Apdu a)) f in
      let does = takes earlier (subst (λ w. KnowsWire site w earlier) was (knows.wire uncut)) knows.client_ended in
      record {
        fate = subst (λ (says : Says). f ≡ fate_of_apdu (asset_of site place) says s earlier a)
            (says_same (asset_of site place) old.lane.client.address (past place) own (part site place earlier) moment of (knows.rules place own at)) does.fate;
        of_client = does.of_client;
        of_controller = does.of_controller;
        of_lines = does.of_lines;
        client_quiet = does.client_quiet;
        controller_quiet = does.controller_quiet;
        wire = λ goes. subst (λ w. KnowsWire site w (earlier ++ j ∷ [])) (sym is)
            (subst (IsNumbersOf after) (sym (events_of-more earlier j)) (does.numbers ((first_none (fate_cut f) None (sym (cut_of-append earlier (j ∷ []) uncut) ∙ goes)).0)));
      }))

module _ (bytes : List ℕ) (a : ApduValue) (n : ℕ) (begins : Begins SpellsApdu bytes a n) where
  pub apdu_length : length (spelling a) ≡ n
  apdu_length = ap length (sym begins.spells.spelled) ∙ omega (arith, length-take n bytes, begins.inside)

module _ (site : SiteValue) (iec104 : site.first.protocol ≡ protocol.Iec104) (client : Endpoint) (rules : List Rules) (place : ℕ) (own : Rules) (at : slice_get rules place ≡ Some own)
    (of : IsRulesOf (asset_of site place) client.address own) (moment : ℕ) (s : Side)
    (bytes : List ℕ) (a : ApduValue) (here : place ≡ place_for site s (Apdu a)) (n : ℕ) (b : Begins SpellsApdu bytes a n) (before : NumbersValue) (old : Outlets) where
  -- an APDU that was taken stands at the front
  abbrev pub apdu_front : (f : Fate) (after : NumbersValue) (new : Outlets) →
      TakesApdu (asset_of site place) (says_by (asset_of site place) client.address own moment) client moment s a f (numbered before old.to_client old.to_controller old.lines)
      (numbered after new.to_client new.to_controller new.lines) →
      FrontsOf site client rules moment s bytes (wire.Iec104 before) (wire.Iec104 after) old new (framed.Unit (record { place = place; fate = f }) n)
  apdu_front f after new takes admitted refused = record {
    unit = Apdu a;
    begins = begins_by (apdus site.first.protocol iec104) bytes a n b;
    some_bytes = omega (arith, apdu_length bytes a n b);
    cuts = λ reason e. iec104;
    handled = λ lane counts.
        apdu_handled site place moment s a here f (lane_at client rules (wire.Iec104 before) admitted refused old) (state lane new.to_client new.to_controller new.lines)
        before after refl counts.wire counts.client counts.admitted counts.refused own at of counts.rules takes;
  }

  -- one whose line failed
  pub apdu_misses : (log : Option (List (List ℕ))) (part_ : List ℕ) →
      MissesApdu (asset_of site place) (says_by (asset_of site place) client.address own moment) client moment s a (numbered before old.to_client old.to_controller old.lines) log part_ →
      MissesOf site client rules moment s bytes (wire.Iec104 before) old log part_
  apdu_misses log part_ m admitted refused = record {
    used = n;
    unit = Apdu a;
    begins = begins_by (apdus site.first.protocol iec104) bytes a n b;
    fate = m.fate;
    uncut = m.uncut;
    has = λ past earlier uncut knows.
        subst (λ k. HasFateBy site k (caller_at client.address past) earlier (placed moment (Took s (Apdu a))) m.fate) here
        (subst (λ (x : Says). m.fate ≡ fate_of_apdu (asset_of site place) x s earlier a)
        (says_same (asset_of site place) client.address (past place) own (part site place earlier) moment of (knows.rules place own at))
        (m.takes earlier (knows.wire uncut) knows.client_ended).fate);
    more = m.more;
    are_more = λ past earlier uncut knows.
        append-nil (item_lines site client earlier (judged moment (Took s (Apdu a)) m.fate) (Took s (Apdu a)))
        ∙ ap (λ k. lines_by site k client earlier (judged moment (Took s (Apdu a)) m.fate) s (Apdu a)) (sym here)
        ∙ m.are_more earlier (knows.wire uncut) knows.client_ended;
    line = m.line;
  }

-- what a step takes no more of than twice its octets
pub letters_by : (cut : Option CutReason) (n : ℕ) → unless_cut_by cut n ≤ 2 * letters_in (step_by cut n)
letters_by None n = omega arith
letters_by (Some reason) n = omega arith

-- the same of the side and the APDU that it is
pub takes_same : (asset : Asset) (says : Says) (client : Endpoint) (moment : ℕ) (s t : Side) (a b : ApduValue) (f : Fate) (old new : Numbered) → t ≡ s → b ≡ a →
    TakesApdu asset says client moment s a f old new → TakesApdu asset says client moment t b f old new
takes_same asset says client moment s t a b f old new side value takes =
    subst (λ (u : Side). TakesApdu asset says client moment u b f old new) (sym side) (subst (λ (x : ApduValue). TakesApdu asset says client moment s x f old new) (sym value) takes)

-- a queue grows by no more than twice the octets of an APDU that does not cut
pub grows_apdu : (f : Fate) (len n : ℕ) → len ≡ n → (p q : Queue) → Grows (unless_cut f len) 0 0 p q → Grows (2 * letters_in (step_by (fate_cut f) n)) 0 0 p q
grows_apdu f len n size p q g =
    grows_more (unless_cut f len) (2 * letters_in (step_by (fate_cut f) n)) 0 0 p q (omega (arith, letters_by (fate_cut f) n, ap (unless_cut_by (fate_cut f)) size)) g

-- what is said of a side and an APDU is said of those that they are
module _ (s t : Side) (a b : ApduValue) (side : t ≡ s) (value : b ≡ a) where
  pub of_both : (P : Side → ApduValue → Type 0) → P s a → P t b
  of_both P p = subst (λ (u : Side). P u b) (sym side) (subst (P s) (sym value) p)
