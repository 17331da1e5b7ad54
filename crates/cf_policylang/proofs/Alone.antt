-- An asset whose endpoint no earlier one has is read by its own table alone.
use Rattle.std.proofs.Common.{◌≡◌, ◌∙◌, ℕ, ◌+◌, nat_eq, nat_le, Bool, false, not, cond, List, [], ◌∷◌, Ok, Err, ap, refl, arith}
use Rattle.std.proofs.lemmas.Bool.{or_parts}
use Rattle.std.proofs.lemmas.List.Sums.{sum_by-append}
use Rattle.cf_view.specs.declared.base.Endpoint.{Endpoint}
use Rattle.cf_view.specs.Endpoints.{same_endpoint}
use Rattle.cf_policy.specs.AtEndpoint.{count_at, has_asset_at}
use Rattle.cf_policy.specs.declared.policy.Asset.{Asset}
use Rattle.cf_policy.specs.declared.policy.Protocol.{Protocol}
use Rattle.cf_policy.specs.declared.policy.Protocol.TheVariants.{Modbus, Dnp3, Iec104}
use Rattle.cf_policy.specs.Within.{highest_station, lowest_station, most_at_site}
use Rattle.cf_policylang.specs.Assets.{number_at, stated_protocol}
use Rattle.cf_policylang.specs.declared.refusal.Key.TheVariants as key
use Rattle.cf_policylang.specs.Laws.{LoneAssetsAreReadAlone}
use Rattle.cf_policylang.specs.Sites.{same_protocol, some_at}
use Rattle.cf_policylang.specs.Tested.{Tested, and_then}
use Rattle.cf_policylang.proofs.SitesBack.{none_at}
use Rattle.cf_policylang.proofs.SitesKept.{apart_by}

-- a test that passes each value changes nothing
passes_all : {A : Type 0} (t : Tested A) (next : A → Tested A) → ((x : A) → next x ≡ Ok x) → and_then t next ≡ t
passes_all (Ok x) next h = h x
passes_all (Err r) next h = refl

module _ (seen : List Asset) (own : Endpoint) (free : has_asset_at seen own ≡ false) where
  none_has : (test : Asset → Bool) → some_at seen own test ≡ false
  none_has test = none_at seen own test (λ i d lt is. absurd (apart_by seen own free i d lt is))

count_none : (seen : List Asset) (own : Endpoint) → has_asset_at seen own ≡ false → count_at seen own ≡ 0
count_none [] own free = refl
count_none (a ∷ seen) own free =
    let one : Asset → ℕ = λ (b : Asset). cond (same_endpoint b.endpoint own) 1 0 in
    let parts = or_parts (same_endpoint a.endpoint own) (has_asset_at seen own) free in
    let both : count_at (a ∷ seen) own ≡ (0 + cond (same_endpoint a.endpoint own) 1 0) + count_at seen own = sum_by-append one (a ∷ []) seen in
    let rest : count_at seen own ≡ 0 = count_none seen own parts.1 in
    both ∙ (ap (λ b. (0 + cond b 1 0) + count_at seen own) parts.0 ∙ (let sum : 0 + 0 + count_at seen own ≡ 0 = omega (arith, rest) in sum))

has_some_room : (p : Protocol) → nat_le (most_at_site p) 0 ≡ false
has_some_room Modbus = refl
has_some_room Dnp3 = refl
has_some_room Iec104 = refl

pub lone_alone : LoneAssetsAreReadAlone
lone_alone place seen own members free = (
  passes_all (stated_protocol place members) _
      (λ p. rw (none_has seen own free (λ (a : Asset). not (same_protocol a.protocol p)), count_none seen own free, has_some_room p) refl),
  λ p. passes_all (number_at key.Station (lowest_station p) (highest_station p) place members) _
      (λ n. rw (none_has seen own free (λ (a : Asset). nat_eq a.station n)) refl),
)
