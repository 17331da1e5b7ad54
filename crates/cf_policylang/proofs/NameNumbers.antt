-- A name that an earlier rule has: its number is among theirs.
use Rattle.std.proofs.Common.{◌≡◌, ℕ, false, List, [], ◌∷◌, map, refl, arith}
use Rattle.std.specs.Prelude.{bytes_eq, ◌==◌}
use Rattle.std.specs.List.{list_any}
use Rattle.std.proofs.lemmas.Slice.Eq.{bytes_eq-Decides}
use Rattle.std.proofs.lemmas.Grind.{common_steps}
use Rattle.cf_policy.specs.declared.policy.Rule.{Rule}
use Rattle.cf_policylang.specs.NameNumbers.{name_number}

-- where the number of a name is not among those of the rules, none of them has the name
pub lacks_name : (name : List ℕ) (rules : List Rule) → list_any (λ n. n == name_number name) (map (λ r. name_number r.name) rules) ≡ false
    → list_any (λ r. bytes_eq r.name name) rules ≡ false
lacks_name name [] none = refl
lacks_name name (r ∷ rules) none = grind (arith, common_steps, bytes_eq-Decides, lacks_name name rules)
