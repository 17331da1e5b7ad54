-- Beside the proof: whether the lists of two rules but those of codes have a number in common each: `have_common`. Warnings go by it.
use Rattle.std.specs.Prelude.{int_le, Bool, ◌&&◌, ◌||◌, List}
use Rattle.std.specs.List.{list_any}
use Rattle.cf_policy.specs.declared.policy.Span.{Span}
use Rattle.cf_policy.specs.declared.policy.Rule.{Rule}
use Rattle.cf_policy.specs.Verdict.{is_empty}

-- the spans have a number in common
abbrev pub overlap : Span → Span → Bool
overlap a b = int_le a.low b.high && int_le b.low a.high

-- whether one of the spans has a number in common with this one
abbrev pub some_overlap : List Span → Span → Bool
some_overlap spans s = list_any (λ t. overlap t s) spans

-- some span of each list has one in common with the other, or a list is not stated
abbrev pub lists_overlap : List Span → List Span → Bool
lists_overlap a b = is_empty a || (is_empty b || list_any (λ s. some_overlap b s) a)

-- each list of the one and that of the other do
abbrev pub have_common : Rule → Rule → Bool
have_common a b =
    lists_overlap a.clients b.clients && (lists_overlap a.codes b.codes
    && (lists_overlap a.groups b.groups && (lists_overlap a.values b.values && lists_overlap a.points b.points)))
