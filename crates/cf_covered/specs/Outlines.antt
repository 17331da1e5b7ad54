-- Beside the proof: what a look at the rules before one needs of each, `HasHull`, and what it tells, `IsTold`. Warnings go by it.
use Rattle.std.specs.Prelude.{◌≡◌, ℕ, ◌<◌, Bool, true, ◌&&◌, List, Some, None, All, filter, map, position, slice_get, take}
use Rattle.cf_policy.specs.declared.policy.Rule.{Rule}
use Rattle.cf_policy.specs.declared.policy.Span.{Span}
use Rattle.cf_policy.specs.Verdict.{covers, is_empty}
use Rattle.cf_covered.specs.declared.including.Earlier.{Earlier}
use Rattle.cf_covered.specs.declared.including.Earlier.TheVariants.{Covering, Common}
use Rattle.cf_covered.specs.declared.outline.Outline.{Outline}
use Rattle.cf_covered.specs.declared.outline.TheConstants.{EVERY_NUMBER}
use Rattle.cf_covered.specs.Common.{have_common, overlap}
use Rattle.cf_covered.specs.Including.{NeverDecides, first_including, includes_rule}

-- both ends of the second span are in the first
abbrev pub has_ends : Span → Span → Bool
has_ends hull s = covers hull s.low && covers hull s.high

-- the hull of spans: both ends of each span, or every number where there are no spans
pub record IsHull (hull : Span) (spans : List Span) : Type 0 where
  pub stated : All (λ s. has_ends hull s ≡ true) spans
  pub unstated : is_empty spans ≡ true → hull ≡ EVERY_NUMBER
  pub within : overlap EVERY_NUMBER hull ≡ true

-- an outline's span is a hull of the points that its rule states
abbrev pub HasHull : Outline → Type 0
HasHull o = IsHull o.hull o.rule.now.points

-- the rules of outlines
abbrev pub rules_of : List Outline → List Rule
rules_of outlines = map (λ o. o.rule.now) outlines

-- the first of some rules that includes this one; or none does, and these are all that may have something in common with it
abbrev pub Tells : List Rule → Rule → Earlier → Type 0
Tells rules rule (Covering first) = position (λ r. includes_rule r rule) rules ≡ Some first
Tells rules rule (Common others) =
    (position (λ r. includes_rule r rule) rules ≡ None) × (map (λ r. r.now) others.items ≡ filter (λ r. have_common r rule) rules)

-- what is told of the rules before that of a number, which never decides where one of them includes it
abbrev pub IsTold : List Rule → ℕ → Earlier → Type 0
IsTold rules number (Covering first) =
    (first < number) × NeverDecides rules number
    × ((rule : Rule) → slice_get rules number ≡ Some rule → first_including rules number rule ≡ Some first)
IsTold rules number (Common others) =
    (rule : Rule) → slice_get rules number ≡ Some rule
    → (first_including rules number rule ≡ None) × (map (λ r. r.now) others.items ≡ filter (λ r. have_common r rule) (take number rules))
