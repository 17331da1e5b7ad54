-- The rules that are learned from what was seen: AreLearnedFrom. Read from the end.
use Rattle.std.specs.Prelude.{◌≡◌, ◌<◌, ℕ, ◌+◌, ◌==◌, nat_lt, ℤ, pos, Bool, ◌&&◌, ◌||◌, if◌then◌else◌, List, [], ◌∷◌, ◌++◌, length, codes, false}
use Rattle.std.specs.Prelude.{decimal, Option, Some, None, IsPermutation, IsSorted}
use Rattle.std.specs.Ordering.{nat_cmp, int_cmp, ordering_then}
use Rattle.std.specs.declared.cmp.Ordering.{Ordering}
use Rattle.std.specs.declared.cmp.Ordering.TheVariants.{Less, Equal, Greater}
use Rattle.cf_policy.specs.declared.Span.{Span}
use Rattle.cf_policy.specs.declared.Rule.{Rule}
use Rattle.cf_policy.specs.declared.Action.TheVariants.{Allow}
use Rattle.cf_learn.specs.declared.seen.Kind.{Kind}
use Rattle.cf_learn.specs.declared.seen.Seen.{Seen}
use Rattle.cf_learn.specs.declared.runs.Run.{Run}
use Rattle.cf_learn.specs.declared.limit.TheConstants.{MOST_LEARNED, MOST_RUNS}
use Rattle.cf_learn.specs.Seen.{is_same_kind}

-- no value stands before numbers
abbrev pub value_cmp : Option ℤ → Option ℤ → Ordering
value_cmp None None = Equal
value_cmp None (Some n) = Less
value_cmp (Some m) None = Greater
value_cmp (Some m) (Some n) = int_cmp m n

-- the order of kinds: by client, code, group and value
abbrev pub kind_cmp : Kind → Kind → Ordering
kind_cmp a b = ordering_then (nat_cmp a.client b.client)
    (ordering_then (nat_cmp a.code b.code) (ordering_then (nat_cmp a.group b.group) (value_cmp a.value b.value)))

-- the order of what is seen: by kind, and then by point
abbrev pub seen_cmp : Seen → Seen → Ordering
seen_cmp s t = ordering_then (kind_cmp s.kind t.kind) (nat_cmp s.point t.point)

-- what is gathered of items that stand together: an item that goes in adds to what is held, another begins anew
unfoldable pub gathered : {A B : Type 0} → (B → A → Bool) → (B → A → B) → (A → B) → B → List A → List B
gathered goes_in with_one begun held [] = held ∷ []
gathered goes_in with_one begun held (x ∷ xs) =
    if goes_in held x then gathered goes_in with_one begun (with_one held x) xs else held ∷ gathered goes_in with_one begun (begun x) xs

-- what is gathered from the first item on; nothing of no items
abbrev pub all_gathered : {A B : Type 0} → (B → A → Bool) → (B → A → B) → (A → B) → List A → List B
all_gathered goes_in with_one begun [] = []
all_gathered goes_in with_one begun (x ∷ xs) = gathered goes_in with_one begun (begun x) xs

-- the next item of a run: of its kind, with its last point once more or the next
abbrev pub is_next : Run → Seen → Bool
is_next run s = is_same_kind run.kind s.kind && ((s.point == run.high) || (s.point == run.high + 1))

-- the run up to the point of what was seen
abbrev pub longer_run : Run → Seen → Run
longer_run run s = record run { high = s.point }

-- the run of one point
abbrev pub run_of : Seen → Run
run_of s = record { kind = s.kind; low = s.point; high = s.point }

-- the greatest runs of consecutive points of each kind, of what was seen in its order
abbrev pub runs_of : List Seen → List Run
runs_of = all_gathered is_next longer_run run_of

-- a run as a span of a rule
abbrev pub span_of : Run → Span
span_of run = record { low = pos run.low; high = pos run.high }

-- what one rule states: a kind, and the runs of its points
pub record Part : Type 0 where
  pub kind : Kind
  pub points : List Span

-- a run that goes into a part: of its kind, and there is room
abbrev pub goes_in : Part → Run → Bool
goes_in part run = is_same_kind part.kind run.kind && nat_lt (length part.points) MOST_RUNS

-- the part with one run more
abbrev pub longer_part : Part → Run → Part
longer_part part run = record part { points = part.points ++ span_of run ∷ [] }

-- the part of one run
abbrev pub part_of : Run → Part
part_of run = record { kind = run.kind; points = span_of run ∷ [] }

-- the parts of runs in their order, each as full as it may be
abbrev pub parts_of : List Run → List Part
parts_of = all_gathered goes_in longer_part part_of

-- the span of one number
abbrev pub whole_span : ℤ → Span
whole_span n = record { low = n; high = n }

-- the spans of a value: none without one
abbrev pub value_spans : Option ℤ → List Span
value_spans None = []
value_spans (Some n) = whole_span n ∷ []

-- the name of the rule of a number: r1, r2 and so on
abbrev pub rule_name : ℕ → List ℕ
rule_name number = codes "r" ++ decimal number

-- the rule of a number that allows what a part states
abbrev pub rule_of : ℕ → Part → Rule
rule_of number part = record {
  name = rule_name number;
  action = Allow;
  clients = whole_span (pos part.kind.client) ∷ [];
  codes = whole_span (pos part.kind.code) ∷ [];
  groups = whole_span (pos part.kind.group) ∷ [];
  points = part.points;
  values = value_spans part.kind.value;
  rate = None;
  log = false;
}

-- the rules of parts, numbered on from this number
unfoldable pub numbered_rules : ℕ → List Part → List Rule
numbered_rules number [] = []
numbered_rules number (part ∷ parts) = rule_of (number + 1) part ∷ numbered_rules (number + 1) parts

-- the rules of runs, numbered from 1
abbrev pub rules_of_runs : List Run → List Rule
rules_of_runs runs = numbered_rules 0 (parts_of runs)

-- the rules of what was seen, in this order
abbrev pub learned_rules : List Seen → List Rule
learned_rules seen = rules_of_runs (runs_of seen)

-- the rules of what was seen, in its order by client, code, group, value and point
pub record AreLearnedFrom (seen : List Seen) (rules : List Rule) : Type 0 where
  pub sorted : List Seen
  pub same : IsPermutation seen sorted
  pub ascends : IsSorted seen_cmp sorted
  pub are : rules ≡ learned_rules sorted

-- what was seen would make more rules than a policy may have
pub record MakesTooMany (seen : List Seen) : Type 0 where
  pub sorted : List Seen
  pub same : IsPermutation seen sorted
  pub ascends : IsSorted seen_cmp sorted
  pub many : MOST_LEARNED < length (learned_rules sorted)
