-- What the points of a rule and of a set keep: each number in its range.
use Rattle.std.proofs.Common.{ℕ, suc, ◌+◌, nat_lt, pos, true, false, if◌then◌else◌, List, [], ◌∷◌, ◌++◌, length, Option, Some, None, IfSome, option_map, find, IfOk, bytes_eq, arith}
use Rattle.std.specs.List.{All}
use Rattle.std.proofs.lemmas.Bool.Decides.{nat_tests}
use Rattle.std.proofs.lemmas.List.Elements.{All-nil, All-push, All-append, All-cons}
use Rattle.std.proofs.lemmas.Result.{IfOk-weaker}
use Rattle.toml.specs.Data.{Data, Items, no_items, item, Members}
use Rattle.cf_policy.specs.declared.policy.Span.{Span}
use Rattle.cf_policy.specs.Names.{is_name}
use Rattle.cf_policy.specs.Within.{IsSpanWithin, highest_point}
use Rattle.cf_policylang.specs.declared.fields.Kind.TheVariants as kind
use Rattle.cf_policylang.specs.declared.lists.Entries.TheVariants as entries
use Rattle.cf_policylang.specs.declared.refusal.Key.TheVariants as key
use Rattle.cf_policylang.specs.declared.refusal.Cause.TheVariants as cause
use Rattle.cf_policylang.specs.declared.refusal.Place.{Place}
use Rattle.cf_policylang.specs.declared.sets.Named.{Named}
use Rattle.cf_policylang.specs.declared.sets.PointSet.{PointSet}
use Rattle.cf_policylang.specs.Fields.{as_table, as_text, has_other, required, stated}
use Rattle.cf_policylang.specs.Lists.{listed}
use Rattle.cf_policylang.specs.Numbers.{number_span}
use Rattle.cf_policylang.specs.Sets.{entry_spans, named_in, own_span, point_entry, points_from, points_if_any, points_named, rule_points, set, set_items, set_keys, set_name, set_points, set_spans, sets, sets_from}
use Rattle.cf_policylang.specs.Tested.{or_refused, at_document, at_set}
use Rattle.cf_policylang.proofs.Ranges.{and_then_if, and_then_any, unless_if, when_if, or_refused_if, number_span_if, number_entry_if, spans_if, AreRead}

abbrev IsPoint : Span → Type 0
IsPoint = IsSpanWithin (pos 0) highest_point

-- every point of a set is in its range
abbrev pub IsSetWithin : PointSet → Type 0
IsSetWithin s = All IsPoint s.points

-- ---- the sets

set_points_if : (p : Place) (ms : Members) → IfOk (set_points p ms) (All IsPoint)
set_points_if p ms =
    and_then_any (All IsPoint) (required key.Points p ms) _
    (λ d. IfOk-weaker _ (AreRead IsPoint 1) (All IsPoint) (λ ss h. h.each)
    (spans_if IsPoint (entries.Numbers (pos 0) highest_point) key.Points p (number_entry_if (pos 0) highest_point key.Points p) d))

set_if : (p : Place) (seen : List PointSet) (ms : Members) → IfOk (set p seen ms) IsSetWithin
set_if p seen ms =
    unless_if IsSetWithin (has_other set_keys ms) _ _
    (λ _. and_then_any IsSetWithin (set_name p seen ms) _
    (λ own_name. and_then_if (All IsPoint) IsSetWithin (set_points p ms) _ (set_points_if p ms)
    (λ own_points h. h)))

sets_from_if : (n : ℕ) (ds : Items) (seen : List PointSet) → All IsSetWithin seen → IfOk (sets_from n ds seen) (All IsSetWithin)
sets_from_if n no_items seen h = h
sets_from_if n (item d ds) seen h =
    and_then_any (All IsSetWithin) (as_table key.Set at_document d) _
    (λ ms. and_then_if IsSetWithin (All IsSetWithin) (set (at_set (n + 1)) seen ms) _ (set_if (at_set (n + 1)) seen ms)
    (λ s own. sets_from_if (n + 1) ds (seen ++ s ∷ []) (All-push IsSetWithin seen s h own)))

pub sets_if : (ms : Members) → IfOk (sets ms) (All IsSetWithin)
sets_if ms = and_then_any (All IsSetWithin) (set_items (stated key.Set ms)) _ (λ ds. sets_from_if 0 ds [] (All-nil IsSetWithin))

-- ---- the points of a rule

module _ (named : Named) (kept : All IsSetWithin named.sets) (p : Place) where
  points_named_if : (text : List ℕ) → IfSome (points_named named.sets text) (All IsPoint)
  points_named_if text = found named.sets kept
    where
      found : (ss : List PointSet) → All IsSetWithin ss → IfSome (points_named ss text) (All IsPoint)
      found [] h = tt
      found (s ∷ ss) h =
          elim (bytes_eq s.name text) as (λ b. IfSome (option_map (λ t. t.points) (if b then Some s else find (λ t. bytes_eq t.name text) ss)) (All IsPoint))
          [ true ↦ h 0 s (omega arith) | false ↦ found ss (λ i d lt. h (suc i) d (omega (arith, lt))) ]

  set_spans_if : (text : List ℕ) → IfOk (set_spans named.sets p text) (All IsPoint)
  set_spans_if text =
      when_if (All IsPoint) (is_name text) _ _
      (or_refused_if (All IsPoint) cause.UnknownSet key.Points p (points_named named.sets text) (points_named_if text))

  own_span_if : (text : List ℕ) → IfOk (own_span p text) (All IsPoint)
  own_span_if text =
      and_then_if IsPoint (All IsPoint) (or_refused cause.BadRange key.Points p (number_span (pos 0) highest_point text)) _
      (or_refused_if IsPoint cause.BadRange key.Points p (number_span (pos 0) highest_point text) (number_span_if (pos 0) highest_point text))
      (λ s h. All-cons IsPoint s [] h (All-nil IsPoint))

  entry_spans_if : (text : List ℕ) (o : Option (List ℕ)) → IfOk (entry_spans named.sets p text o) (All IsPoint)
  entry_spans_if text None = own_span_if text
  entry_spans_if text (Some set) = set_spans_if set

  point_entry_if : (d : Data) → IfOk (point_entry named p d) (All IsPoint)
  point_entry_if d = and_then_any (All IsPoint) (as_text key.Points p d) _ (λ text. entry_spans_if text (named_in named.edition text))

  points_from_if : (ds : Items) (seen : List Span) → All IsPoint seen → IfOk (points_from named p ds seen) (All IsPoint)
  points_from_if no_items seen h = h
  points_from_if (item d ds) seen h =
      and_then_if (All IsPoint) (All IsPoint) (point_entry named p d) _ (point_entry_if d)
      (λ own g. points_from_if ds (seen ++ own) (All-append IsPoint seen own h g))

  points_if_any_if : (o : Option Data) → IfOk (points_if_any named p o) (AreRead IsPoint 0)
  points_if_any_if None = record { count = omega arith; some = omega arith; each = All-nil IsPoint }
  points_if_any_if (Some d) =
      and_then_any (AreRead IsPoint 0) (listed kind.Text key.Points p d) _
      (λ ds. and_then_if (All IsPoint) (AreRead IsPoint 0) (points_from named p ds []) _ (points_from_if ds [] (All-nil IsPoint))
      (λ own h. unless_if (AreRead IsPoint 0) (nat_lt 64 (length own)) _ _
      (λ few. record { count = grind (arith, nat_tests); some = omega arith; each = h })))

  pub rule_points_if : (ms : Members) → IfOk (rule_points named p ms) (AreRead IsPoint 0)
  rule_points_if ms = points_if_any_if (stated key.Points ms)
