-- What counts no more may be forgotten: rings that are over say that nothing of what was used counts, then and later.
use Rattle.cf_lane.specs.Caller.{OwnMoments, RateMoments}
use Rattle.cf_lane.specs.Over.{are_over, is_over, own_are_over}
use Rattle.cf_lane.specs.Rates.{and_rated, rated_from}
use Rattle.cf_lane.specs.Ring.{IsRingOf, RingValue, ring_rate}
use Rattle.cf_lane.specs.Rings.{AreOwnRings, AreRingsOf, KnowOwnRings, KnowRings}
use Rattle.cf_policy.specs.Within.{HasRateWithin, IsAssetWithin, IsRuleWithin}
use Rattle.cf_policy.specs.declared.policy.Action.{Action}
use Rattle.cf_policy.specs.declared.policy.Action.TheVariants.{Allow, Refuse}
use Rattle.cf_policy.specs.Site.{IsSiteWithin, SiteValue, assets_of}
use Rattle.cf_policy.specs.declared.policy.Asset.{Asset}
use Rattle.cf_policy.specs.declared.policy.Rate.{Rate}
use Rattle.cf_policy.specs.declared.policy.Rule.{Rule}
use Rattle.cf_serve.specs.Kept.{IsForgotten, IsOverAt, IsOwnOverAt}
use Rattle.cf_serve.specs.Lending.{Has, IsDropped, IsFree, KeptRings, Lent, Stored}
use Rattle.cf_serve.specs.Rounds.{TurnOf}
use Rattle.std.proofs.Common.{Bool, List, None, Option, Some, [], ap, arith, cond, count_by, false, inl, inr, length, map, min, nat_eq, nat_le, nat_lt, refl, slice_get, subst, suc, sym, true, zero, ℕ, ◌*◌, ◌++◌, ◌+◌, ◌-◌, ◌∙◌, ◌∷◌, ◌≡◌, ◌≤◌, ◌⊎◌}
use Rattle.std.proofs.Math.Path.{fun_ext}
use Rattle.std.proofs.lemmas.Bool.{and_parts}
use Rattle.std.proofs.lemmas.Bool.Decides.{nat_tests}
use Rattle.std.proofs.lemmas.List.Elements.{All-head, All-tail}
use Rattle.std.proofs.lemmas.List.Sums.{sum_by-cons}
use Rattle.std.proofs.lemmas.Option.{get_or_from_slice_get, same_Some, slice_get_cases, slice_get_within}
use Rattle.std.specs.List.{All, list_all}
use Rattle.std.specs.Prelude.{if◌then◌else◌}

-- ---- a rate lets something through

some_of : (a : Action) (o : Option Rate) (rate : Rate) → o ≡ Some rate → HasRateWithin a o → 1 ≤ rate.most
some_of Allow (Some own) rate e h = let same : own ≡ rate = cc e in subst (λ (r : Rate). 1 ≤ r.most) same h.some
some_of Allow None rate e h = cc e
some_of Refuse (Some own) rate e h = absurd h
some_of Refuse None rate e h = cc e

rated_here : (n place number : ℕ) (r : Rule) (o : Option Rate) (rate : Rate) (later : List (ℕ × Rate)) → r.rate ≡ o → HasRateWithin r.action r.rate →
    ((p : ℕ) → slice_get later p ≡ Some (number, rate) → 1 ≤ rate.most) → slice_get (and_rated n o later) place ≡ Some (number, rate) → 1 ≤ rate.most
rated_here n place number r None rate later e h rest at = rest place at
rated_here n zero number r (Some own) rate later e h rest at = let pair : (n, own) ≡ (number, rate) = cc at in let same : own ≡ rate = ap (λ (p : ℕ × Rate). p.1) pair in some_of r.action r.rate rate (e ∙ ap Some same) h
rated_here n (suc place) number r (Some own) rate later e h rest at = rest place at

rated_some : (n place number : ℕ) (rules : List Rule) (rate : Rate) → All IsRuleWithin rules → slice_get (rated_from n rules) place ≡ Some (number, rate) → 1 ≤ rate.most
rated_some n place number [] rate each at = cc at
rated_some n place number (r ∷ rules) rate each at =
    rated_here n place number r r.rate rate (rated_from (n + 1) rules) refl (All-head IsRuleWithin r rules each).rate
    (λ p behind. rated_some (n + 1) p number rules rate (All-tail IsRuleWithin r rules each) behind) at

-- ---- a ring that is over

near : (moment time t : ℕ) → nat_lt moment (t + time) ≡ nat_le (moment + 1 - time) t
near moment time t = grind (arith, nat_tests)

none_of_all : (most kept all : ℕ) → 1 ≤ most → kept ≡ min most all → nat_eq kept 0 ≡ true → nat_eq all 0 ≡ true
none_of_all most kept all some is none = grind (arith, nat_tests)

ring_over : (rate : Rate) (moment : ℕ) (kept all : List ℕ) → 1 ≤ rate.most → IsRingOf rate.most kept all → is_over rate moment kept ≡ true → is_over rate moment all ≡ true
ring_over rate moment kept all some is over =
    let time = rate.seconds * 1000000 in
    let near_all : (λ t. nat_lt moment (t + time)) ≡ nat_le (moment + 1 - time) = fun_ext (near moment time) in
    let bound = moment + 1 - time in
    ap (λ p. nat_eq (count_by p all) 0) near_all
    ∙ none_of_all rate.most (count_by (nat_le bound) kept) (count_by (nat_le bound) all) some (is bound)
    (sym (ap (λ p. nat_eq (count_by p kept) 0) near_all) ∙ over)

ring_at : (rings : List RingValue) (place number : ℕ) (rate : Rate) → slice_get (map ring_rate rings) place ≡ Some (number, rate) →
    (r : RingValue) × (slice_get rings place ≡ Some r) × (r.rate ≡ rate)
ring_at [] place number rate at = cc at
ring_at (r ∷ rings) zero number rate at = let pair : ring_rate r ≡ (number, rate) = cc at in (r, refl, ap (λ (p : ℕ × Rate). p.1) pair)
ring_at (r ∷ rings) (suc place) number rate at = ring_at rings place number rate at

all_there : {X : Type 0} (p : X → Bool) (xs : List X) (i : ℕ) (x : X) → list_all p xs ≡ true → slice_get xs i ≡ Some x → p x ≡ true
all_there p [] i x all at = cc at
all_there p (y ∷ xs) zero x all at = ap p (sym (same_Some y x at)) ∙ (and_parts (p y) (list_all p xs) all).0
all_there p (y ∷ xs) (suc i) x all at = all_there p xs i x (and_parts (p y) (list_all p xs) all).1 at

-- where the rings of an asset that know it are over, nothing of what was used of its rules counts any more
over_own : (asset : Asset) (rings : List RingValue) (used : OwnMoments) (moment : ℕ) → IsAssetWithin asset → AreOwnRings asset rings → KnowOwnRings rings used →
    own_are_over moment rings ≡ true → IsOwnOverAt asset used moment
over_own asset rings used moment within of know over place number rate at =
    let r = ring_at rings place number rate (ap (λ ps. slice_get ps place) of ∙ at) in
    let ring = r.0 in
    let some : 1 ≤ ring.rate.most = subst (λ (z : Rate). 1 ≤ z.most) (sym r.2) (rated_some 0 place number asset.rules rate within.rules.each at) in
    ap (λ (z : Rate). is_over z moment (used place)) (sym r.2)
    ∙ ring_over ring.rate moment ring.moments (used place) some (know place ring r.1) (all_there (λ (z : RingValue). is_over z.rate moment z.moments) rings place ring over r.1)

-- ---- each asset of a site

within_at : (assets : List Asset) (k : ℕ) (a : Asset) → All IsAssetWithin assets → slice_get assets k ≡ Some a → IsAssetWithin a
within_at [] k a each at = cc at
within_at (x ∷ assets) zero a each at = subst IsAssetWithin (same_Some x a at) (All-head IsAssetWithin x assets each)
within_at (x ∷ assets) (suc k) a each at = within_at assets k a (All-tail IsAssetWithin x assets each) at

-- of two lists of one length the second has an element where the first has one
beside : {X Y : Type 0} (xs : List X) (ys : List Y) (k : ℕ) (x : X) → length ys ≡ length xs → slice_get xs k ≡ Some x → (y : Y) × (slice_get ys k ≡ Some y)
beside xs ys k x same at = elim (slice_get_cases ys k).1 [
  | inl there ↦ (there.0, there.2)
  | inr past ↦ absurd (omega (arith, past.0, same, slice_get_within xs k x at))
]

-- where the rings of a site that know it are over, nothing of what was used counts any more, of any asset
pub over_at : (site : SiteValue) (all : List (List RingValue)) (used : RateMoments) (moment : ℕ) → IsSiteWithin site → AreRingsOf site all → KnowRings all used →
    are_over moment all ≡ true → IsOverAt site used moment
over_at site all used moment within of know over k asset at =
    let rings = beside (assets_of site) all k asset of.one_each at in
    over_own asset rings.0 (used k) moment (within_at (assets_of site) k asset within.each at)
    (subst (λ (a : Asset). AreOwnRings a rings.0) (get_or_from_slice_get (assets_of site) k asset site.first at) (of.each k rings.0 rings.1))
    (know k rings.0 rings.1) (all_there (own_are_over moment) all k rings.0 over rings.1)

-- ---- later

fewer : (a b : Bool) (n m : ℕ) → (b ≡ true → a ≡ true) → m ≤ n → cond b 1 0 + m ≤ cond a 1 0 + n
fewer a false n m h le = omega (arith, le)
fewer true true n m h le = omega (arith, le)
fewer false true n m h le = cc (h refl)

nearer : (moment later time t : ℕ) → moment ≤ later → nat_lt later (t + time) ≡ true → nat_lt moment (t + time) ≡ true
nearer moment later time t le h = grind (arith, nat_tests)

fewer_near : (moment later time : ℕ) (ts : List ℕ) → moment ≤ later → count_by (λ t. nat_lt later (t + time)) ts ≤ count_by (λ t. nat_lt moment (t + time)) ts
fewer_near moment later time [] le = omega arith
fewer_near moment later time (t ∷ ts) le =
    let one = fewer (nat_lt moment (t + time)) (nat_lt later (t + time)) (count_by (λ t. nat_lt moment (t + time)) ts) (count_by (λ t. nat_lt later (t + time)) ts)
    (nearer moment later time t le) (fewer_near moment later time ts le) in
    omega (arith, one, sum_by-cons (λ t. cond (nat_lt later (t + time)) 1 0) t ts, sum_by-cons (λ t. cond (nat_lt moment (t + time)) 1 0) t ts)

none_later : (n m : ℕ) → m ≤ n → nat_eq n 0 ≡ true → nat_eq m 0 ≡ true
none_later n m le h = grind (arith, nat_tests)

own_later : (asset : Asset) (used : OwnMoments) (moment later : ℕ) → moment ≤ later → IsOwnOverAt asset used moment → IsOwnOverAt asset used later
own_later asset used moment later le over place number rate at =
    none_later (count_by (λ t. nat_lt moment (t + rate.seconds * 1000000)) (used place)) (count_by (λ t. nat_lt later (t + rate.seconds * 1000000)) (used place))
    (fewer_near moment later (rate.seconds * 1000000) (used place) le) (over place number rate at)

pub over_later : (site : SiteValue) (used : RateMoments) (moment later : ℕ) → moment ≤ later → IsOverAt site used moment → IsOverAt site used later
over_later site used moment later le over k asset at = own_later asset (used k) moment later le (over k asset at)

-- ---- turns

pub forgotten_more : (site : SiteValue) (used : RateMoments) (past more : List TurnOf) → IsForgotten site used past → IsForgotten site used (past ++ more)
forgotten_more site used [] more f = absurd f
forgotten_more site used (t ∷ past) more (inl here) = inl here
forgotten_more site used (t ∷ past) more (inr behind) = inr (forgotten_more site used past more behind)

pub forgotten_now : (site : SiteValue) (used : RateMoments) (past : List TurnOf) (t : TurnOf) → IsOverAt site used t.moment → IsForgotten site used (past ++ t ∷ [])
forgotten_now site used [] t over = inl over
forgotten_now site used (x ∷ past) t over = inr (forgotten_now site used past t over)

-- ---- what is kept behind one more turn

pub stored_more : (site : SiteValue) (past : List TurnOf) (t : TurnOf) (left : RateMoments) (kept : Option KeptRings) → Stored site past left kept → Stored site (past ++ t ∷ []) left kept
stored_more site past t left None (inl none) = inl none
stored_more site past t left None (inr forgotten) = inr (forgotten_more site left past (t ∷ []) forgotten)
stored_more site past t left (Some (Has rings)) know = know
stored_more site past t left (Some (Lent session)) lent = tt

stored_dropped : (site : SiteValue) (past : List TurnOf) (t : TurnOf) (left : RateMoments) (kept : Option KeptRings) → IsSiteWithin site →
    ((rings : List (List RingValue)) → kept ≡ Some (Has rings) → AreRingsOf site rings) → Stored site past left kept → IsDropped t.moment kept → Stored site (past ++ t ∷ []) left None
stored_dropped site past t left None within fits stored dropped = absurd dropped
stored_dropped site past t left (Some (Has rings)) within fits know over =
    inr (forgotten_now site left past t (over_at site rings left t.moment within (fits rings refl) know over))
stored_dropped site past t left (Some (Lent session)) within fits stored dropped = absurd dropped

-- the same, nothing where it counted no more, or the session has it
pub stored_lends : (site : SiteValue) (past : List TurnOf) (t : TurnOf) (left : RateMoments) (session : ℕ) (old new : Option KeptRings) → IsSiteWithin site →
    ((rings : List (List RingValue)) → old ≡ Some (Has rings) → AreRingsOf site rings) → Stored site past left old →
    (new ≡ old) ⊎ ((IsDropped t.moment old × (new ≡ None)) ⊎ (IsFree old × (new ≡ Some (Lent session)))) → Stored site (past ++ t ∷ []) left new
stored_lends site past t left session old new within fits stored (inl same) = subst (Stored site (past ++ t ∷ []) left) (sym same) (stored_more site past t left old stored)
stored_lends site past t left session old new within fits stored (inr (inl dropped)) =
    subst (Stored site (past ++ t ∷ []) left) (sym dropped.1) (stored_dropped site past t left old within fits stored dropped.0)
stored_lends site past t left session old new within fits stored (inr (inr lent)) = subst (Stored site (past ++ t ∷ []) left) (sym lent.1) tt

back_by : (site : SiteValue) (past : List TurnOf) (t : TurnOf) (left : RateMoments) (rings : List (List RingValue)) (over : Bool) → IsSiteWithin site → AreRingsOf site rings →
    KnowRings rings left → are_over t.moment rings ≡ over → Stored site (past ++ t ∷ []) left (if over then None else Some (Has rings))
back_by site past t left rings true within of know is = inr (forgotten_now site left past t (over_at site rings left t.moment within of know is))
back_by site past t left rings false within of know is = know

-- what a session gave back that ended in this turn
pub stored_back : (site : SiteValue) (past : List TurnOf) (t : TurnOf) (left : RateMoments) (rings : List (List RingValue)) (new : Option KeptRings) → IsSiteWithin site →
    AreRingsOf site rings → KnowRings rings left → new ≡ (if are_over t.moment rings then None else Some (Has rings)) → Stored site (past ++ t ∷ []) left new
stored_back site past t left rings new within of know is =
    subst (Stored site (past ++ t ∷ []) left) (sym is) (back_by site past t left rings (are_over t.moment rings) within of know refl)
