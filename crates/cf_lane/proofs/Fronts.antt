-- What stands at the front of a side's bytes, once the lane has counted it: `steps_counted` and `misses_front`.
use Rattle.cf_audit.specs.declared.line.CutReason.{CutReason}
use Rattle.cf_lane.proofs.Saying.{lane_on}
use Rattle.cf_lane.specs.Handled.{Counts, CountsBy, CountsFront, Fronts, FrontsOf, Grows, HasRoom, IsLaneOf, LaneValue, Misses, MissesOf, Outlets, State, Steps, TakesUncounted, TakesUnit, debt, lane_at, letters_in, most_counted, state, step_at, step_by, taken_in}
use Rattle.cf_lane.specs.Judged.{fate_cut, is_admitted, is_refused, one_if}
use Rattle.cf_lane.specs.Kept.{AreAllFragments, IsWireOf, wire_debt}
use Rattle.cf_lane.specs.Rings.{AreRulesOf, HasFewAt}
use Rattle.cf_lane.specs.declared.fate.Fate.{Fate}
use Rattle.cf_lane.specs.declared.lane.Decided.{Decided}
use Rattle.cf_lane.specs.declared.lane.Step.{Step}
use Rattle.cf_lane.specs.declared.rules.Rules.{Rules}
use Rattle.cf_lane.specs.declared.wire.Fragments.{Fragments}
use Rattle.cf_lane.specs.declared.wire.Wire.{Wire}
use Rattle.cf_outq.specs.SendQueue.{Queue}
use Rattle.cf_policy.specs.Site.{SiteValue, assets_of}
use Rattle.cf_policy.specs.declared.Protocol.{Protocol}
use Rattle.cf_renumber.specs.Numbers.{NumbersValue}
use Rattle.cf_view.specs.declared.Endpoint.{Endpoint}
use Rattle.cf_view.specs.declared.Side.{Side}
use Rattle.cf_view.specs.declared.base.Framed.{Framed}
use Rattle.std.proofs.Common.{List, None, Option, Some, ap, arith, inl, inr, length, refl, subst, sym, ℕ, ◌*◌, ◌+◌, ◌<◌, ◌∙◌, ◌≡◌, ◌≤◌}
use Rattle.cf_lane.specs.declared.fate.Fate.TheVariants as fates
use Rattle.cf_view.specs.declared.base.Framed.TheVariants as framed
use Rattle.cf_lane.specs.declared.wire.Wire.TheVariants as wire
use Rattle.cf_policy.specs.declared.Protocol.TheVariants as protocol

module _ (site : SiteValue) (moment : ℕ) (s : Side) (bytes : List ℕ) (n place : ℕ) (f : Fate) (old mid : State) (t : TakesUncounted site moment s bytes n place f old mid) where
  abbrev takes_by : (lane : LaneValue) → Counts place f moment mid.lane lane → (cut : Option CutReason) → fate_cut f ≡ cut →
      TakesUnit site moment s bytes n cut old (state lane mid.to_client mid.to_controller mid.lines)
  takes_by lane counts cut is = record {
    unit = t.unit;
    begins = t.begins;
    some_bytes = t.some_bytes;
    fate = f;
    is_cut = is;
    handled = t.handled lane counts;
  }

  steps_by : (lane : LaneValue) → Counts place f moment mid.lane lane → (cut : Option CutReason) → fate_cut f ≡ cut →
      Steps site moment s bytes old (state lane mid.to_client mid.to_controller mid.lines) (step_by cut n)
  steps_by lane counts None is = takes_by lane counts None is
  steps_by lane counts (Some reason) is = inr (t.cuts reason is, (n, takes_by lane counts (Some reason) is))

  -- a unit that was taken and counted is a step by its fate
  steps_front : (lane : LaneValue) → Counts place f moment mid.lane lane → (st : Step) → st ≡ step_by (fate_cut f) n →
      Steps site moment s bytes old (state lane mid.to_client mid.to_controller mid.lines) st
  steps_front lane counts st is =
      subst (Steps site moment s bytes old (state lane mid.to_client mid.to_controller mid.lines)) (sym is) (steps_by lane counts (fate_cut f) refl)

-- how much of a unit goes on
letters_most : (cut : Option CutReason) (n : ℕ) → letters_in (step_by cut n) ≤ n
letters_most None n = omega arith
letters_most (Some reason) n = omega arith

-- a command is counted once, and a cut counts none
counts_by : (f : Fate) (n : ℕ) → 0 < n → one_if (is_admitted f) + one_if (is_refused f) ≤ letters_in (step_by (fate_cut f) n)
counts_by fates.Carried n some = omega arith
counts_by f n some = omega arith

-- the numbers of commands rise by one at most
counts_front : (f : Fate) (st : Step) (n : ℕ) → 0 < n → st ≡ step_by (fate_cut f) n → (old new : LaneValue) →
    new.admitted ≡ old.admitted + one_if (is_admitted f) → new.refused ≡ old.refused + one_if (is_refused f) → CountsBy (letters_in st) old new
counts_front f st n some is old new admitted refused = omega (arith, counts_by f n some, ap letters_in is, admitted, refused)

-- what stands at the front is a step, once the lane has counted it
pub steps_counted : (site : SiteValue) (moment : ℕ) (s : Side) (bytes : List ℕ) (old : State) (mid : LaneValue) (q r : Queue) (lines : Option (List (List ℕ))) (answer : Framed Decided) →
    Fronts site moment s bytes old (state mid q r lines) answer → (new : LaneValue) → CountsFront answer moment mid new → (st : Step) → st ≡ step_at s answer →
    Steps site moment s bytes old (state new q r lines) st
steps_counted site moment s bytes old mid q r lines (framed.Unit d n) front new counts st is =
    steps_front site moment s bytes n d.place d.fate old (state mid q r lines) front new counts st is
steps_counted site moment s bytes old mid q r lines framed.More front new counts st is =
    subst (Steps site moment s bytes old (state new q r lines)) (sym is) (front.0, ap (λ (l : LaneValue). state l q r lines) counts ∙ front.1)
steps_counted site moment s bytes old mid q r lines (framed.Broken reason) front new counts st is =
    subst (Steps site moment s bytes old (state new q r lines)) (sym is) (inl (front.0, ap (λ (l : LaneValue). state l q r lines) counts ∙ front.1))

-- a queue grew by what stands at the front, and counting it changed nothing of it
pub grows_counted : (s : Side) (moment : ℕ) (answer : Framed Decided) (mid new : LaneValue) → CountsFront answer moment mid new → (st : Step) → st ≡ step_at s answer → (d : ℕ) (p q : Queue) →
    Grows (2 * taken_in answer) d (debt mid) p q → Grows (2 * letters_in st) d (debt new) p q
grows_counted s moment (framed.Unit u n) mid new counts st is d p q g =
    subst (λ m. Grows (2 * m) d (debt new) p q) (sym (ap letters_in is)) (subst (λ e. Grows (2 * taken_in (framed.Unit u n)) d e p q) (sym (ap wire_debt counts.wire)) g)
grows_counted s moment answer mid new counts st is d p q g =
    subst (λ m. Grows (2 * m) d (debt new) p q) (sym (ap letters_in is)) (subst (λ e. Grows (2 * taken_in answer) d e p q) (sym (ap debt counts)) g)

-- the numbers of commands rise by one at most
pub counts_counted : (site : SiteValue) (moment : ℕ) (s : Side) (bytes : List ℕ) (old mid : State) (answer : Framed Decided) → Fronts site moment s bytes old mid answer → (new : LaneValue) →
    CountsFront answer moment mid.lane new → (st : Step) → st ≡ step_at s answer → CountsBy (letters_in st) mid.lane new
counts_counted site moment s bytes old mid (framed.Unit d n) front new counts st is = counts_front d.fate st n front.some_bytes is mid.lane new counts.admitted counts.refused
counts_counted site moment s bytes old mid answer front new counts st is =
    omega (arith, ap (λ (l : LaneValue). l.admitted) counts, ap (λ (l : LaneValue). l.refused) counts)

-- no more is counted than octets are there, and no more goes on
pub counted_most : (site : SiteValue) (moment : ℕ) (s : Side) (bytes : List ℕ) (old mid : State) (answer : Framed Decided) → Fronts site moment s bytes old mid answer → most_counted answer ≤ length bytes
counted_most site moment s bytes old mid (framed.Unit d n) front = omega (arith, front.some_bytes, front.begins.inside)
counted_most site moment s bytes old mid answer front = omega arith

pub inside_counted : (site : SiteValue) (moment : ℕ) (s : Side) (bytes : List ℕ) (old mid : State) (answer : Framed Decided) → Fronts site moment s bytes old mid answer → (st : Step) → st ≡ step_at s answer →
    letters_in st ≤ length bytes
inside_counted site moment s bytes old mid (framed.Unit d n) front st is = omega (arith, letters_most (fate_cut d.fate) n, ap letters_in is, front.begins.inside)
inside_counted site moment s bytes old mid answer front st is = omega (arith, ap letters_in is)

-- a lane that counted what stands at the front is one of the site still
pub lane_counted : (site : SiteValue) (moment : ℕ) (answer : Framed Decided) (mid new : LaneValue) → IsLaneOf site mid → CountsFront answer moment mid new → IsLaneOf site new
lane_counted site moment (framed.Unit d n) mid new of counts = lane_on site d.place d.fate moment mid new of counts.client counts.rules counts.wire
lane_counted site moment answer mid new of counts = subst (IsLaneOf site) (sym counts) of

-- the asset of what stands at the front has rules
pub few_at : (site : SiteValue) (client place : ℕ) (rules : List Rules) → AreRulesOf site client rules → place < length rules → HasFewAt place rules
few_at site client place rules of inside = record { inside = inside; few = λ own at. (of.each place own at).few }

-- what is kept for a protocol tells which one it is
pub is_dnp3 : (p : Protocol) (n : ℕ) (all : List Fragments) → IsWireOf p n (wire.Dnp3 all) → p ≡ protocol.Dnp3
is_dnp3 protocol.Dnp3 n all is = refl
is_dnp3 p n all is = absurd is

pub is_modbus : (p : Protocol) (n : ℕ) → IsWireOf p n wire.Modbus → p ≡ protocol.Modbus
is_modbus protocol.Modbus n is = refl
is_modbus p n is = absurd is

pub is_iec104 : (p : Protocol) (n : ℕ) (numbers : NumbersValue) → IsWireOf p n (wire.Iec104 numbers) → p ≡ protocol.Iec104
is_iec104 protocol.Iec104 n numbers is = refl
is_iec104 p n numbers is = absurd is

pub is_idle : (p : Protocol) (n : ℕ) (numbers : NumbersValue) → IsWireOf p n (wire.Iec104 numbers) → numbers.owed ≡ None
is_idle protocol.Iec104 n numbers is = is
is_idle p n numbers is = absurd is

pub dnp3_wire : (p : Protocol) (n : ℕ) (all : List Fragments) → p ≡ protocol.Dnp3 → AreAllFragments n all → IsWireOf p n (wire.Dnp3 all)
dnp3_wire p n all is are = subst (λ q. IsWireOf q n (wire.Dnp3 all)) (sym is) are

pub are_all : (p : Protocol) (n : ℕ) (all : List Fragments) → IsWireOf p n (wire.Dnp3 all) → AreAllFragments n all
are_all protocol.Dnp3 n all is = is
are_all p n all is = absurd is

pub iec104_wire : (p : Protocol) (n : ℕ) (numbers : NumbersValue) → p ≡ protocol.Iec104 → numbers.owed ≡ None → IsWireOf p n (wire.Iec104 numbers)
iec104_wire p n numbers is idle = subst (λ q. IsWireOf q n (wire.Iec104 numbers)) (sym is) idle

-- a lane by its parts
abbrev pub lane_of : Endpoint → (admitted refused : ℕ) → List Rules → Wire → LaneValue
lane_of client admitted refused rules w = record { client = client; admitted = admitted; refused = refused; rules = rules; wire = w }

-- what is said of the parts of a lane, which keeps this for its protocol, is said of the lane
module _ (site : SiteValue) (client : Endpoint) (admitted refused : ℕ) (rules : List Rules) (kept before : Wire) (lane : LaneValue)
    (is : lane_of client admitted refused rules kept ≡ lane) (same : kept ≡ before) where
  pub wire_in : IsLaneOf site lane → IsWireOf site.first.protocol (length (assets_of site)) before
  wire_in of = subst (IsWireOf site.first.protocol (length (assets_of site))) (sym (ap (λ (l : LaneValue). l.wire) is) ∙ same) of.wire

  pub lane_in : (after : Wire) → IsWireOf site.first.protocol (length (assets_of site)) after → IsLaneOf site lane → IsLaneOf site (lane_of client admitted refused rules after)
  lane_in after w of = record { rules = subst (λ (l : LaneValue). AreRulesOf site l.client.address l.rules) (sym is) of.rules; wire = w }

  pub grows_in : (m d : ℕ) (p q : Queue) → Grows m (wire_debt before) d p q → Grows m (debt lane) d p q
  grows_in m d p q g = subst (λ e. Grows m e d p q) (sym (ap wire_debt same) ∙ ap debt is) g

  pub room_in : (n : ℕ) (q : Queue) → HasRoom (debt lane + n) q → HasRoom (wire_debt before + n) q
  room_in n q r = subst (λ e. HasRoom (e + n) q) (sym (sym (ap wire_debt same) ∙ ap debt is)) r

  pub rules_in : (given : List Rules) → given ≡ rules → IsLaneOf site lane → AreRulesOf site client.address given
  rules_in given given_is of = subst (AreRulesOf site client.address) (sym given_is) (subst (λ (l : LaneValue). AreRulesOf site l.client.address l.rules) (sym is) of.rules)

  module _ (moment : ℕ) (s : Side) (bytes : List ℕ) (old : Outlets) where
    pub misses_in : (log : Option (List (List ℕ))) (part : List ℕ) (given : List Rules) → given ≡ rules → MissesOf site client given moment s bytes before old log part →
        Misses site moment s bytes (state lane old.to_client old.to_controller old.lines) log part
    misses_in log part given given_is m =
        let f = subst (λ rs. MissesOf site client rs moment s bytes before old log part) given_is m in
        subst (λ (l : LaneValue). Misses site moment s bytes (state l old.to_client old.to_controller old.lines) log part) is
        (subst (λ (w : Wire). Misses site moment s bytes (lane_at client rules w admitted refused old) log part) (sym same) (f admitted refused))

    pub fronts_in : (after : Wire) (new : Outlets) (answer : Framed Decided) (given : List Rules) → given ≡ rules → FrontsOf site client given moment s bytes before after old new answer →
        Fronts site moment s bytes (state lane old.to_client old.to_controller old.lines)
        (state (lane_of client admitted refused rules after) new.to_client new.to_controller new.lines) answer
    fronts_in after new answer given given_is g =
        let f = subst (λ rs. FrontsOf site client rs moment s bytes before after old new answer) given_is g in
        let mid = state (lane_of client admitted refused rules after) new.to_client new.to_controller new.lines in
        subst (λ (l : LaneValue). Fronts site moment s bytes (state l old.to_client old.to_controller old.lines) mid answer) is
        (subst (λ (w : Wire). Fronts site moment s bytes (lane_at client rules w admitted refused old) mid answer) (sym same) (f admitted refused))
