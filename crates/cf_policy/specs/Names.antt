-- Which texts are names of assets and rules: is_name; and what names a decider: name_of.
use Rattle.std.specs.Prelude.{ℕ, Bool, not, ◌&&◌, ◌||◌, ◌==◌, nat_le, List, [], ◌∷◌, length, codes, bytes_eq, slice_get}
use Rattle.std.specs.List.{list_any, list_all}
use Rattle.std.specs.Option.{option_map_or}
use Rattle.cf_policy.specs.declared.policy.Rule.{Rule}
use Rattle.cf_policy.specs.declared.policy.Decider.{Decider}
use Rattle.cf_policy.specs.declared.policy.Decider.TheVariants as decider
use Rattle.cf_policy.specs.Verdict.{is_empty}
use Rattle.cf_policy.specs.declared.limits.TheConstants.{LONGEST_NAME}

-- an octet of a name: a to z, 0 to 9, `_` and `-`
abbrev pub is_name_byte : ℕ → Bool
is_name_byte b =
    ((nat_le 97 b && nat_le b 122) || (nat_le 48 b && nat_le b 57)) || ((b == 95) || (b == 45))

-- a name: one of them or more, and not too many
abbrev pub is_name : List ℕ → Bool
is_name text = not (is_empty text) && (nat_le (length text) LONGEST_NAME && list_all is_name_byte text)

-- a name that no rule may have, since it stands for another decider
abbrev pub is_reserved : List ℕ → Bool
is_reserved text =
    list_any (λ word. bytes_eq text word) (codes "default" ∷ codes "station" ∷ codes "form" ∷ [])

-- the deciding rule's name, that of a spent one too, or the word for what else decided
abbrev pub name_of : List Rule → Decider → List ℕ
name_of rules (decider.Rule n) = option_map_or (λ r. r.name) (slice_get rules n) []
name_of rules decider.Default = codes "default"
name_of rules decider.Station = codes "station"
name_of rules decider.Form = codes "form"
name_of rules (decider.Spent n) = option_map_or (λ r. r.name) (slice_get rules n) []
