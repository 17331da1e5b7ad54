-- Over sessions of a client, one after the other, no rule lets more through than its rate: `rates_last`.
use Rattle.cf_lane.specs.Caller.{OwnMoments, RateMoments, caller_at, none_before}
use Rattle.cf_lane.proofs.Parting.{part-append}
use Rattle.cf_lane.specs.Parts.{part}
use Rattle.cf_lane.specs.SiteRates.{KeepsRates, used_at}
use Rattle.cf_lane.specs.Judged.{Judged}
use Rattle.cf_lane.proofs.Holding.{rates_hold}
use Rattle.cf_lane.specs.Laws.{AreInTurn, RatesLast}
use Rattle.cf_lane.specs.Rates.{KeepsOwnRates, moments_of, own_used_at, uses}
use Rattle.cf_policy.specs.Site.{SiteValue, asset_of}
use Rattle.cf_policy.specs.declared.Asset.{Asset}
use Rattle.std.proofs.Common.{List, [], ap, append_assoc, count_by, inl, inr, nat_lt, refl, subst, sym, ℕ, ◌*◌, ◌++◌, ◌+◌, ◌<◌, ◌∙◌, ◌∷◌, ◌≡◌, ◌⊎◌}
use Rattle.std.proofs.lemmas.Grind.{flat_map-append}
use Rattle.std.specs.List.{flat_map}
use Rattle.std.specs.Prelude.{if◌then◌else◌}

-- an item of two lists stands in the first, or in the second behind all of the first
split : (js rest earlier later : List Judged) (j : Judged) → js ++ rest ≡ earlier ++ j ∷ later →
    ((more : List Judged) × (js ≡ earlier ++ j ∷ more)) ⊎ ((front : List Judged) × (earlier ≡ js ++ front) × (rest ≡ front ++ j ∷ later))
split [] rest earlier later j e = inr (earlier, refl, e)
split (x ∷ js) rest [] later j e = let same : x ≡ j = cc in inl (js, ap (λ y. y ∷ js) same)
split (x ∷ js) rest (y ∷ earlier) later j e =
    let same : x ≡ y = cc in
    let behind : js ++ rest ≡ earlier ++ j ∷ later = cc in
    elim (split js rest earlier later j behind) [
      | inl m ↦ inl (m.0, ap (λ z. z ∷ js) same ∙ ap (λ zs. y ∷ zs) m.1)
      | inr m ↦ inr (m.0, ap (λ zs. y ∷ zs) m.1 ∙ ap (λ z. z ∷ (js ++ m.0)) (sym same), m.2)
    ]

-- what was used up to a place behind other items
used_behind : (before : OwnMoments) (js front : List Judged) (place : ℕ) → own_used_at before (js ++ front) place ≡ own_used_at (own_used_at before js) front place
used_behind before js front place =
    ap (λ xs. before place ++ xs) (flat_map-append (λ (j : Judged). if uses place j.fate then j.moment ∷ [] else []) js front)
    ∙ sym (append_assoc (before place) (moments_of place js) (moments_of place front))

keeps_own_both : (asset : Asset) (before : OwnMoments) (js rest : List Judged) → KeepsOwnRates asset before js → KeepsOwnRates asset (own_used_at before js) rest → KeepsOwnRates asset before (js ++ rest)
keeps_own_both asset before js rest a b earlier later j place number rate is at used =
    let near : List ℕ → ℕ = count_by (λ t. nat_lt j.moment (t + rate.seconds * 1000000)) in
    elim (split js rest earlier later j is) [
      | inl m ↦ a earlier m.0 j place number rate m.1 at used
      | inr m ↦
          let all : own_used_at before earlier place ≡ own_used_at (own_used_at before js) m.0 place = ap (λ xs. own_used_at before xs place) m.1 ∙ used_behind before js m.0 place in
          subst (λ n. n < rate.most) (sym (ap near all)) (b m.0 later j place number rate m.2 at used)
    ]

keeps_both : (site : SiteValue) (before : RateMoments) (js rest : List Judged) → KeepsRates site before js → KeepsRates site (used_at site before js) rest → KeepsRates site before (js ++ rest)
keeps_both site before js rest a b k =
    subst (KeepsOwnRates (asset_of site k) (before k)) (sym (part-append site k js rest)) (keeps_own_both (asset_of site k) (before k) (part site k js) (part site k rest) (a k) (b k))

keeps_none : (asset : Asset) (before : OwnMoments) → KeepsOwnRates asset before []
keeps_none asset before [] later j place number rate is at used = cc
keeps_none asset before (x ∷ earlier) later j place number rate is at used = cc

keeps_all : (site : SiteValue) (address : ℕ) (before : RateMoments) (sessions : List (List Judged)) → AreInTurn site address before sessions → KeepsRates site before (flat_map (λ js. js) sessions)
keeps_all site address before [] h = λ k. keeps_none (asset_of site k) (before k)
keeps_all site address before (js ∷ later) h =
    keeps_both site before js (flat_map (λ js. js) later) (rates_hold site (caller_at address before) h.0.0 js h.0.1) (keeps_all site address (used_at site before js) later h.1)

pub rates_last : RatesLast
rates_last site address sessions h = keeps_all site address none_before sessions h
