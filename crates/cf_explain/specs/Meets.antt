-- Beside the proof: whether the lists of a rule have a number of a kind of acts each: `meets`. Warnings go by it.
use Rattle.std.specs.Prelude.{Bool, ◌&&◌, ◌||◌, List, Option, Some, None}
use Rattle.cf_policy.specs.declared.policy.Span.{Span}
use Rattle.cf_policy.specs.declared.policy.Rule.{Rule}
use Rattle.cf_policy.specs.Verdict.{is_empty}
use Rattle.cf_acts.specs.declared.Groups.{Groups}
use Rattle.cf_acts.specs.declared.Groups.TheVariants as groups
use Rattle.cf_acts.specs.declared.Kind.{Kind}
use Rattle.cf_acts.specs.Acts.{between}
use Rattle.cf_covered.specs.Common.{some_overlap}

-- a list that is stated has a number of the span, and one that is not stated has every number
abbrev pub reaches : List Span → Span → Bool
reaches spans s = is_empty spans || some_overlap spans s

-- a list of groups has one of these
abbrev pub reaches_groups : List Span → Groups → Bool
reaches_groups spans (groups.Span s) = reaches spans s
reaches_groups spans groups.Causes = reaches spans (between 5 5) || (reaches spans (between 6 6) || reaches spans (between 8 8))

-- values that are stated have one of these, and none where acts have no value
abbrev pub reaches_values : List Span → Option Span → Bool
reaches_values spans None = is_empty spans
reaches_values spans (Some s) = reaches spans s

-- each list of the rule but those of clients and codes has a number of the kind
abbrev pub meets : Rule → Kind → Bool
meets r k = reaches_groups r.groups k.groups && (reaches r.points k.points && reaches_values r.values k.values)
