-- Rates of each asset of a site: what was used of its rules by the commands that are for it, as far as it counts.
use Rattle.cf_lane.specs.Caller.{Caller, OwnMoments, RateMoments, caller_at, none_before, own}
use Rattle.cf_lane.specs.Fate.{HasItemFate, HaveFates}
use Rattle.cf_lane.specs.Item.{Broke, Ended, Item, Took}
use Rattle.cf_lane.specs.Judged.{Judged}
use Rattle.cf_lane.specs.Parts.{bears, concerns, part, with_if}
use Rattle.cf_lane.specs.Rates.{KeepsOwnRates, Says, and_rated, moments_of, own_used_at, rated, rated_from, says_at, uses}
use Rattle.cf_lane.specs.Site.{find_place, is_for, item_place, or_first, place_for}
use Rattle.cf_lane.specs.SiteRates.{KeepsRates, used_at}
use Rattle.cf_lane.specs.Unit.{UnitValue}
use Rattle.cf_lane.specs.declared.fate.Fate.{Fate}
use Rattle.cf_policy.specs.Site.{SiteValue, asset_of, assets_of}
use Rattle.cf_policy.specs.declared.policy.Asset.{Asset}
use Rattle.cf_policy.specs.declared.policy.Rate.{Rate}
use Rattle.cf_policy.specs.declared.policy.Rule.{Rule}
use Rattle.cf_relay.specs.Answers.{client_of}
use Rattle.cf_view.specs.declared.Side.{Side}
use Rattle.cf_serve.proofs.Forgetting.{over_later}
use Rattle.cf_serve.specs.Kept.{Begins, IsForgotten, before_in}
use Rattle.cf_serve.specs.Laws.{AreSessionsOf}
use Rattle.cf_serve.specs.Rounds.{TurnOf, answers_in, has_own_rates, has_rates}
use Rattle.std.proofs.Common.{Bool, List, None, Option, Some, [], ap, append_assoc, arith, cond, count_by, false, inl, inr, is_some, length, nat_lt, refl, slice_get, subst, suc, sym, true, zero, ℕ, ◌*◌, ◌++◌, ◌+◌, ◌<◌, ◌∙◌, ◌∷◌, ◌≡◌, ◌≤◌, ◌⊎◌, ◌||◌}
use Rattle.std.proofs.lemmas.Bool.{eqb-true}
use Rattle.std.proofs.lemmas.Grind.{flat_map-append}
use Rattle.std.proofs.lemmas.List.Sums.{sum_by-append}
use Rattle.std.proofs.lemmas.Option.{get_or_from_slice_get, same_Some, slice_get_cases}
use Rattle.std.specs.List.{AllByRecursion, flat_map, list_any}
use Rattle.std.specs.Prelude.{if◌then◌else◌, nat_eq, option_map}

-- ---- what counts at a moment

-- how many of these moments count at a moment
abbrev near : Rate → (moment : ℕ) → List ℕ → ℕ
near rate moment ts = count_by (λ t. nat_lt moment (t + rate.seconds * 1000000)) ts

near_both : (rate : Rate) (moment : ℕ) (xs ys : List ℕ) → near rate moment (xs ++ ys) ≡ near rate moment xs + near rate moment ys
near_both rate moment xs ys = sum_by-append (λ t. cond (nat_lt moment (t + rate.seconds * 1000000)) 1 0) xs ys

-- the moment is no earlier than these turns
abbrev pub IsAfter : List TurnOf → (moment : ℕ) → Type 0
IsAfter turns moment = AllByRecursion (λ (t : TurnOf). t.moment ≤ moment) turns

after_front : (turns more : List TurnOf) (moment : ℕ) → IsAfter (turns ++ more) moment → IsAfter turns moment
after_front [] more moment a = tt
after_front (t ∷ turns) more moment (here, behind) = (here, after_front turns more moment behind)

-- what was used of an asset's rules, as far as it counts from then on
abbrev CountsOwn : Asset → List TurnOf → (used other : OwnMoments) → Type 0
CountsOwn asset turns used other =
    (place number : ℕ) (rate : Rate) → slice_get (rated asset.rules) place ≡ Some (number, rate) → (moment : ℕ) → IsAfter turns moment
    → near rate moment (used place) ≡ near rate moment (other place)

-- so it is of each asset of a site
abbrev pub CountsAs : SiteValue → List TurnOf → (used other : RateMoments) → Type 0
CountsAs site turns used other = (k : ℕ) (asset : Asset) → slice_get (assets_of site) k ≡ Some asset → CountsOwn asset turns (used k) (other k)

pub counts_none : (site : SiteValue) → CountsAs site [] none_before none_before
counts_none site k asset is place number rate at moment after = refl

own_later : (asset : Asset) (turns more : List TurnOf) (used other : OwnMoments) → CountsOwn asset turns used other → CountsOwn asset (turns ++ more) used other
own_later asset turns more used other c place number rate at moment after = c place number rate at moment (after_front turns more moment after)

pub counts_later : (site : SiteValue) (turns more : List TurnOf) (used other : RateMoments) → CountsAs site turns used other → CountsAs site (turns ++ more) used other
counts_later site turns more used other c k asset is = own_later asset turns more (used k) (other k) (c k asset is)

own_counts : (asset : Asset) (turns : List TurnOf) (used other : OwnMoments) (js : List Judged) → CountsOwn asset turns used other → CountsOwn asset turns (own_used_at used js) (own_used_at other js)
own_counts asset turns used other js c place number rate at moment after =
    near_both rate moment (used place) (moments_of place js)
    ∙ ap (λ n. n + near rate moment (moments_of place js)) (c place number rate at moment after)
    ∙ sym (near_both rate moment (other place) (moments_of place js))

pub counts_used : (site : SiteValue) (turns : List TurnOf) (used other : RateMoments) (js : List Judged) → CountsAs site turns used other →
    CountsAs site turns (used_at site used js) (used_at site other js)
counts_used site turns used other js c k asset is = own_counts asset turns (used k) (other k) (part site k js) (c k asset is)

none_near : (n : ℕ) → nat_eq n 0 ≡ true → 0 ≡ n
none_near n e = sym (eqb-true n 0 e)

-- what is forgotten counts no more from then on
forgotten_none : (site : SiteValue) (left : RateMoments) (turns : List TurnOf) → IsForgotten site left turns → CountsAs site turns none_before left
forgotten_none site left [] f = absurd f
forgotten_none site left (t ∷ turns) (inl over) =
    λ k asset is place number rate at moment after. none_near (near rate moment (left k place)) (over_later site left t.moment moment after.0 over k asset is place number rate at)
forgotten_none site left (t ∷ turns) (inr f) = λ k asset is place number rate at moment after. forgotten_none site left turns f k asset is place number rate at moment after.1

pub begins_as : (site : SiteValue) (left used b : RateMoments) (past : List TurnOf) (t : TurnOf) → Begins site left (past ++ t ∷ []) b → CountsAs site past left used → CountsAs site (past ++ t ∷ []) b used
begins_as site left used b past t (inl same) c = subst (λ (u : RateMoments). CountsAs site (past ++ t ∷ []) u used) (sym same) (counts_later site past (t ∷ []) left used c)
begins_as site left used b past t (inr none) c =
    subst (λ (u : RateMoments). CountsAs site (past ++ t ∷ []) u used) (sym none.0)
    (λ k asset is place number rate at moment after.
    forgotten_none site left (past ++ t ∷ []) none.1 k asset is place number rate at moment after
    ∙ c k asset is place number rate at moment (after_front past (t ∷ []) moment after))

-- ---- the items that concern an asset

with_both : (b : Bool) (j : Judged) (xs ys zs : List Judged) → zs ≡ xs ++ ys → with_if b j zs ≡ with_if b j xs ++ ys
with_both true j xs ys zs e = ap (λ us. j ∷ us) e
with_both false j xs ys zs e = e

part_both : (site : SiteValue) (k : ℕ) (js rest : List Judged) → part site k (js ++ rest) ≡ part site k js ++ part site k rest
part_both site k [] rest = refl
part_both site k (j ∷ js) rest = with_both (concerns site k j.item) j (part site k js) (part site k rest) (part site k (js ++ rest)) (part_both site k js rest)

with_all : (P : Judged → Type 0) (b : Bool) (j : Judged) (js : List Judged) → (b ≡ true → P j) → AllByRecursion P js → AllByRecursion P (with_if b j js)
with_all P true j js here all = (here refl, all)
with_all P false j js here all = all

part_all : (P : Judged → Type 0) (site : SiteValue) (k : ℕ) (js : List Judged) → AllByRecursion P js → AllByRecursion P (part site k js)
part_all P site k [] all = tt
part_all P site k (j ∷ js) (here, behind) = with_all P (concerns site k j.item) j (part site k js) (λ its. here) (part_all P site k js behind)

one_at : (P : Judged → Type 0) (js earlier later : List Judged) (j : Judged) → js ≡ earlier ++ j ∷ later → AllByRecursion P js → P j
one_at P [] [] later j e all = cc e
one_at P [] (x ∷ earlier) later j e all = cc e
one_at P (x ∷ js) [] later j e (here, behind) = let same : x ≡ j = cc e in subst P same here
one_at P (x ∷ js) (y ∷ earlier) later j e (here, behind) = let rest : js ≡ earlier ++ j ∷ later = cc e in one_at P js earlier later j rest behind

-- ---- rates of sessions, one behind the other

-- an item of two lists stands in the first, or in the second behind all of the first
in_either : (js rest earlier later : List Judged) (j : Judged) → js ++ rest ≡ earlier ++ j ∷ later →
    ((more : List Judged) × (js ≡ earlier ++ j ∷ more)) ⊎ ((front : List Judged) × (earlier ≡ js ++ front) × (rest ≡ front ++ j ∷ later))
in_either [] rest earlier later j e = inr (earlier, refl, e)
in_either (x ∷ js) rest [] later j e = let same : x ≡ j = cc e in inl (js, ap (λ y. y ∷ js) same)
in_either (x ∷ js) rest (y ∷ earlier) later j e =
    let same : x ≡ y = cc e in
    let behind : js ++ rest ≡ earlier ++ j ∷ later = cc e in
    elim (in_either js rest earlier later j behind) [
      | inl m ↦ inl (m.0, ap (λ z. z ∷ js) same ∙ ap (λ zs. y ∷ zs) m.1)
      | inr m ↦ inr (m.0, ap (λ zs. y ∷ zs) m.1 ∙ ap (λ z. z ∷ (js ++ m.0)) (sym same), m.2)
    ]

used_behind : (before : OwnMoments) (js front : List Judged) (place : ℕ) → own_used_at before (js ++ front) place ≡ own_used_at (own_used_at before js) front place
used_behind before js front place =
    ap (λ xs. before place ++ xs) (flat_map-append (λ (j : Judged). if uses place j.fate then j.moment ∷ [] else []) js front)
    ∙ sym (append_assoc (before place) (moments_of place js) (moments_of place front))

own_both : (asset : Asset) (before : OwnMoments) (js rest : List Judged) → KeepsOwnRates asset before js → KeepsOwnRates asset (own_used_at before js) rest → KeepsOwnRates asset before (js ++ rest)
own_both asset before js rest a b earlier later j place number rate is at used =
    elim (in_either js rest earlier later j is) [
      | inl m ↦ a earlier m.0 j place number rate m.1 at used
      | inr m ↦
          let all : own_used_at before earlier place ≡ own_used_at (own_used_at before js) m.0 place = ap (λ xs. own_used_at before xs place) m.1 ∙ used_behind before js m.0 place in
          subst (λ n. n < rate.most) (sym (ap (near rate j.moment) all)) (b m.0 later j place number rate m.2 at used)
    ]

own_none : (asset : Asset) (before : OwnMoments) → KeepsOwnRates asset before []
own_none asset before [] later j place number rate is at used = cc is
own_none asset before (x ∷ earlier) later j place number rate is at used = cc is

own_as : (asset : Asset) (turns : List TurnOf) (b used : OwnMoments) (js : List Judged) → CountsOwn asset turns b used →
    AllByRecursion (λ (j : Judged). IsAfter turns j.moment) js → KeepsOwnRates asset b js → KeepsOwnRates asset used js
own_as asset turns b used js c after keeps earlier later j place number rate is at its =
    let here : IsAfter turns j.moment = one_at (λ (i : Judged). IsAfter turns i.moment) js earlier later j is after in
    let same : near rate j.moment (own_used_at b earlier place) ≡ near rate j.moment (own_used_at used earlier place) =
    own_counts asset turns b used earlier c place number rate at j.moment here in
    subst (λ n. n < rate.most) same (keeps earlier later j place number rate is at its)

-- each asset of a site keeps the rates of its rules
abbrev pub KeepsEach : SiteValue → (before : RateMoments) → List Judged → Type 0
KeepsEach site before js = (k : ℕ) (asset : Asset) → slice_get (assets_of site) k ≡ Some asset → KeepsOwnRates asset (before k) (part site k js)

pub keeps_both : (site : SiteValue) (before : RateMoments) (js rest : List Judged) → KeepsEach site before js → KeepsEach site (used_at site before js) rest → KeepsEach site before (js ++ rest)
keeps_both site before js rest a b k asset is =
    subst (KeepsOwnRates asset (before k)) (sym (part_both site k js rest)) (own_both asset (before k) (part site k js) (part site k rest) (a k asset is) (b k asset is))

pub keeps_none : (site : SiteValue) (before : RateMoments) → KeepsEach site before []
keeps_none site before k asset is = own_none asset (before k)

-- a session keeps to what counts as much as what it began with
pub keeps_as : (site : SiteValue) (turns : List TurnOf) (b used : RateMoments) (js : List Judged) → CountsAs site turns b used →
    AllByRecursion (λ (j : Judged). IsAfter turns j.moment) js → KeepsRates site b js → KeepsEach site used js
keeps_as site turns b used js c after keeps k asset is =
    own_as asset turns (b k) (used k) (part site k js) (c k asset is) (part_all (λ (j : Judged). IsAfter turns j.moment) site k js after)
    (subst (λ (a : Asset). KeepsOwnRates a (b k) (part site k js)) (get_or_from_slice_get (assets_of site) k asset site.first is) (keeps k))

or_none : (a b : Bool) → a || b ≡ false → (a ≡ false) × (b ≡ false)
or_none true b e = cc e
or_none false b e = (refl, e)

-- an asset without rates lets everything through that it allows
unrated_here : (n : ℕ) (o : Option Rate) (later : List (ℕ × Rate)) → is_some o ≡ false → later ≡ [] → and_rated n o later ≡ []
unrated_here n None later e is = is
unrated_here n (Some rate) later e is = cc e

unrated : (n : ℕ) (rules : List Rule) → list_any (λ (r : Rule). is_some r.rate) rules ≡ false → rated_from n rules ≡ []
unrated n [] e = refl
unrated n (r ∷ rules) e =
    let parts = or_none (is_some r.rate) (list_any (λ (x : Rule). is_some x.rate) rules) e in
    unrated_here n r.rate (rated_from (n + 1) rules) parts.0 (unrated (n + 1) rules parts.1)

own_unrated : (asset : Asset) (before : OwnMoments) (js : List Judged) → has_own_rates asset ≡ false → KeepsOwnRates asset before js
own_unrated asset before js none earlier later j place number rate is at used = let no : slice_get (rated asset.rules) place ≡ None = ap (λ ps. slice_get ps place) (unrated 0 asset.rules none) in cc (sym no ∙ at)

-- where no asset passes, that of a place does not
pub none_any : (p : Asset → Bool) (assets : List Asset) (k : ℕ) (a : Asset) → list_any p assets ≡ false → slice_get assets k ≡ Some a → p a ≡ false
none_any p [] k a none at = cc at
none_any p (x ∷ assets) zero a none at = ap p (sym (same_Some x a at)) ∙ (or_none (p x) (list_any p assets) none).0
none_any p (x ∷ assets) (suc k) a none at = none_any p assets k a (or_none (p x) (list_any p assets) none).1 at

pub keeps_unrated : (site : SiteValue) (before : RateMoments) (js : List Judged) → has_rates site ≡ false → KeepsEach site before js
keeps_unrated site before js none k asset is = own_unrated asset (before k) (part site k js) (none_any has_own_rates (assets_of site) k asset none is)

-- ---- behind the last asset there is none that a unit is for

found_at : (passes : Bool) (o : Option ℕ) (n k : ℕ) → ((j : ℕ) → o ≡ Some j → j < n) → (if passes then Some 0 else option_map suc o) ≡ Some k → k < suc n
found_at true o n k below e = let same : 0 ≡ k = cc e in omega (arith, same)
found_at false None n k below e = cc e
found_at false (Some j) n k below e = let same : suc j ≡ k = cc e in omega (arith, same, below j refl)

found_in : (passes : Asset → Bool) (assets : List Asset) (k : ℕ) → find_place passes assets ≡ Some k → k < length assets
found_in passes [] k e = cc e
found_in passes (a ∷ assets) k e = found_at (passes a) (find_place passes assets) (length assets) k (found_in passes assets) e

first_in : (o : Option ℕ) (n : ℕ) → 0 < n → ((k : ℕ) → o ≡ Some k → k < n) → or_first o < n
first_in None n some below = some
first_in (Some k) n some below = below k refl

place_in : (site : SiteValue) (s : Side) (u : UnitValue) → place_for site s u < length (assets_of site)
place_in site s u = first_in (find_place (is_for s u) (assets_of site)) (length (assets_of site)) (omega arith) (found_in (is_for s u) (assets_of site))

-- an End and a break use no rule
abbrev IsUnused : Item → Fate → Type 0
IsUnused (Took s u) f = Unit {0}
IsUnused (Ended s rest) f = (place : ℕ) → uses place f ≡ false
IsUnused (Broke s because) f = (place : ℕ) → uses place f ≡ false

unused_by : (asset : Asset) (says : Says) (earlier : List Judged) (item : Item) (f : Fate) → HasItemFate asset says earlier item f → IsUnused item f
unused_by asset says earlier (Took s u) f has = tt
unused_by asset says earlier (Ended s rest) f has = λ place. ap (uses place) has
unused_by asset says earlier (Broke s because) f has = λ place. ap (uses place) has

abbrev AreUnused : List Judged → Type 0
AreUnused js = AllByRecursion (λ (j : Judged). IsUnused j.item j.fate) js

fates_unused : (site : SiteValue) (client : Caller) (earlier js : List Judged) → HaveFates site client earlier js → AreUnused js
fates_unused site client earlier [] h = tt
fates_unused site client earlier (j ∷ js) (here, behind) =
    let k = item_place site j.item in (
      unused_by (asset_of site k) (says_at (asset_of site k) (own k client) (part site k earlier) j.moment) (bears j.item earlier (part site k earlier)) j.item j.fate here,
      fates_unused site client (earlier ++ j ∷ []) js behind,
    )

both_unused : (js rest : List Judged) → AreUnused js → AreUnused rest → AreUnused (js ++ rest)
both_unused [] rest all more = more
both_unused (j ∷ js) rest (here, behind) more = (here, both_unused js rest behind more)

pub sessions_unused : (site : SiteValue) (turns : List TurnOf) (ks : List ℕ) (sessions : List (List Judged)) → AreSessionsOf site turns ks sessions → AreUnused (flat_map (λ js. js) sessions)
sessions_unused site turns [] [] of = tt
sessions_unused site turns [] (js ∷ more) of = absurd of
sessions_unused site turns (k ∷ ks) [] of = absurd of
sessions_unused site turns (k ∷ ks) (js ∷ more) (one, rest) =
    both_unused js (flat_map (λ js. js) more)
    (fates_unused site (caller_at (client_of (answers_in k turns)).address (before_in k turns)) [] js one.items.fates)
    (sessions_unused site turns ks more rest)

unit_unused : (site : SiteValue) (k : ℕ) (item : Item) (f : Fate) → slice_get (assets_of site) k ≡ None → concerns site k item ≡ true → IsUnused item f → (place : ℕ) → uses place f ≡ false
unit_unused site k (Took s u) f none its by place =
    elim (slice_get_cases (assets_of site) k).1 [
      | inl there ↦ cc (sym none ∙ there.2)
      | inr past ↦ absurd (omega (arith, past.0, eqb-true (place_for site s u) k its, place_in site s u))
    ]
unit_unused site k (Ended s rest) f none its by place = by place
unit_unused site k (Broke s because) f none its by place = by place

part_unused : (site : SiteValue) (k : ℕ) (js : List Judged) → slice_get (assets_of site) k ≡ None → AreUnused js → AllByRecursion (λ (j : Judged). (place : ℕ) → uses place j.fate ≡ false) (part site k js)
part_unused site k [] none all = tt
part_unused site k (j ∷ js) none (here, behind) =
    with_all (λ (i : Judged). (place : ℕ) → uses place i.fate ≡ false) (concerns site k j.item) j (part site k js) (λ its. unit_unused site k j.item j.fate none its here) (part_unused site k js none behind)

own_unused : (asset : Asset) (before : OwnMoments) (js : List Judged) → AllByRecursion (λ (j : Judged). (place : ℕ) → uses place j.fate ≡ false) js → KeepsOwnRates asset before js
own_unused asset before js none earlier later j place number rate is at used =
    cc (sym (one_at (λ (i : Judged). (p : ℕ) → uses p i.fate ≡ false) js earlier later j is none place) ∙ used)

keeps_at : (site : SiteValue) (before : RateMoments) (js : List Judged) (k : ℕ) → KeepsEach site before js → AreUnused js → (o : Option Asset) → slice_get (assets_of site) k ≡ o →
    KeepsOwnRates (asset_of site k) (before k) (part site k js)
keeps_at site before js k each quiet None is = own_unused (asset_of site k) (before k) (part site k js) (part_unused site k js is quiet)
keeps_at site before js k each quiet (Some asset) is =
    subst (λ (a : Asset). KeepsOwnRates a (before k) (part site k js)) (sym (get_or_from_slice_get (assets_of site) k asset site.first is)) (each k asset is)

-- where each asset keeps them, so it is of any place
pub keeps_all_places : (site : SiteValue) (before : RateMoments) (js : List Judged) → KeepsEach site before js → AreUnused js → KeepsRates site before js
keeps_all_places site before js each quiet k = keeps_at site before js k each quiet (slice_get (assets_of site) k) refl
