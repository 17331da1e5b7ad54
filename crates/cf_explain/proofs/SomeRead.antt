-- A rule within its ranges that names the reads of function 23, and has them, has one.
use Rattle.std.proofs.Common.{◌≡◌, ℕ, ◌<◌, ℤ, pos, negsuc, ◌≤ℤ◌, int_le, ◌⊎◌, inl, inr, ◌||◌, true, false, List, [], ◌∷◌, Some, None, refl, sym, subst, arith}
use Rattle.std.specs.List.{list_any}
use Rattle.std.proofs.lemmas.Int.{ints}
use Rattle.std.proofs.lemmas.Bool.{and_from, and_parts, or_cases, or_left, true≢false}
use Rattle.std.proofs.lemmas.List.Elements.{All-get_or}
use Rattle.std.proofs.lemmas.List.Folds.{Any-from_list_any, list_any-from_Any}
use Rattle.cf_policy.specs.Verdict.{covers, takes}
use Rattle.cf_policy.specs.Within.{AreSpansWithin, IsRuleWithin, IsSpanWithin}
use Rattle.cf_policy.specs.declared.policy.Asset.{Asset}
use Rattle.cf_policy.specs.declared.policy.Protocol.TheVariants.{Modbus}
use Rattle.cf_policy.specs.declared.policy.Rule.{Rule}
use Rattle.cf_policy.specs.declared.policy.Span.{Span}
use Rattle.cf_acts.specs.Acts.{between, kind, kinds, modbus_kind, up_to}
use Rattle.cf_acts.specs.declared.Groups.TheVariants as groups
use Rattle.cf_acts.specs.declared.Kind.{Kind}
use Rattle.cf_covered.specs.Common.{overlap}
use Rattle.cf_explain.specs.Meets.{meets, reaches, reaches_groups, reaches_values}
use Rattle.cf_explain.specs.Reads.{HasSomeRead, NamesReads}
use Rattle.cf_explain.specs.Rules.{IsSound}

natural : (z : ℤ) → pos 0 ≤ℤ z → (n : ℕ) × (z ≡ pos n)
natural (pos n) h = (n, refl)
natural (negsuc n) h = absurd (omega (arith, h))

covers_low : (s : Span) (n : ℕ) → s.low ≡ pos n → s.low ≤ℤ s.high → covers s (pos n) ≡ true
covers_low s n e h = and_from (int_le s.low (pos n)) (int_le (pos n) s.high) (grind (arith, ints, e)) (grind (arith, ints, e, h))

-- a list within its range has a number
some_number : (spans : List Span) (high : ℤ) → AreSpansWithin (pos 0) high spans → (n : ℕ) × (takes spans (pos n) ≡ true)
some_number [] high w = (0, refl)
some_number (s ∷ ss) high w =
    let here = All-get_or (IsSpanWithin (pos 0) high) (s ∷ ss) 0 s (omega arith) w.each in
    let low = natural s.low here.above in
    let has = covers_low s low.0 low.1 here.ordered in
    (low.0, or_left (covers s (pos low.0)) (list_any (λ t. covers t (pos low.0)) ss) has)

-- and where it reaches an address, one below 65,536
some_place : (spans : List Span) (high : ℤ) → AreSpansWithin (pos 0) high spans → reaches spans (up_to 65535) ≡ true → (n : ℕ) × (takes spans (pos n) ≡ true) × (n < 65536)
some_place [] high w h = (0, refl, omega arith)
some_place (s ∷ ss) high w h =
    let found = Any-from_list_any (λ t. overlap t (up_to 65535)) (s ∷ ss) h in
    let here = subst (IsSpanWithin (pos 0) high) found.3 (All-get_or (IsSpanWithin (pos 0) high) (s ∷ ss) found.0 found.1 found.2 w.each) in
    let low = natural found.1.low here.above in
    let ends = and_parts (int_le found.1.low (pos 65535)) (int_le (pos 0) found.1.high) found.4 in
    let small : low.0 < 65536 = grind (arith, ints, ends.0, low.1) in
    (low.0, list_any-from_Any (λ t. covers t (pos low.0)) (s ∷ ss) (found.0, found.1, found.2, found.3, covers_low found.1 low.0 low.1 here.ordered), small)

-- a kind of acts that a rule meets has a point of the rule's
point_met : (rule : Rule) (k : Kind) → meets rule k ≡ true → reaches rule.points k.points ≡ true
point_met rule k h = (and_parts (reaches rule.points k.points) (reaches_values rule.values k.values) (and_parts (reaches_groups rule.groups k.groups) _ h).1).0

-- of two kinds with the same points one meets it
one_of : (rule : Rule) (j k : Kind) → j.points ≡ k.points → (meets rule j || (meets rule k || false)) ≡ true → reaches rule.points k.points ≡ true
one_of rule j k same h = by (or_cases (meets rule j) (meets rule k || false) h)
  where
    last : (meets rule k ≡ true) ⊎ (false ≡ true) → reaches rule.points k.points ≡ true
    last (inl read) = point_met rule k read
    last (inr none) = absurd (true≢false (sym none))

    by : (meets rule j ≡ true) ⊎ ((meets rule k || false) ≡ true) → reaches rule.points k.points ≡ true
    by (inl write) = subst (λ p. reaches rule.points p ≡ true) same (point_met rule j write)
    by (inr others) = last (or_cases (meets rule k) false others)

pub some_read : (asset : Asset) (number : ℕ) (rule : Rule) → IsRuleWithin rule → IsSound asset number rule → NamesReads asset.protocol rule → HasSomeRead rule
some_read asset number rule w sound names =
    let met = sound.0 23 (omega arith) names.1 in
    let of_modbus : list_any (meets rule) (kinds Modbus 23) ≡ true = subst (λ p. list_any (meets rule) (kinds p 23) ≡ true) names.0 met in
    let place : reaches rule.points (up_to 65535) ≡ true =
    one_of rule (kind (groups.Span (between 1 1)) (up_to 65535) (Some (up_to 65535))) (modbus_kind 0 None) refl of_modbus in
    let point = some_place rule.points _ w.points place in
    let client = some_number rule.clients _ w.clients in
    record { client = client.0; point = point.0; read = sound.1 names client.0 point.0 client.1 point.1 point.2 }
