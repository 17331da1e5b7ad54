-- The records that remarks are of.
use Rattle.std.proofs.Common.{◌≡◌, ◌+◌, ◌-◌, ◌<◌, ◌≤◌, ◌∙◌, ℕ, ℤ, Bool, true, List, [], ◌++◌, All, Option, None, Some, refl, drop, get_or, length, map, sym, ap, subst, arith, append_assoc}
use Rattle.std.proofs.lemmas.List.{get_or-drop, length-drop, map-append}
use Rattle.std.proofs.lemmas.List.Elements.{All-append, All-cons, All-map, All-nil, All-weaker}
use Rattle.cf_watch.specs.FlowValue.{FlowValue}
use Rattle.cf_review.specs.Follow.{AddsOf}
use Rattle.cf_review.specs.Remark.{Gap, RemarkValue, remark_value}
use Rattle.cf_review.specs.Review.{gap_remarks, remark_on}
use Rattle.cf_review.specs.declared.remark.Remark.{Remark}

-- of the records of remarks this holds
abbrev pub AreKnownAt : (known : ℕ → Bool) → List Remark → Type 0
AreKnownAt known remarks = All (λ r. known r.at_record ≡ true) (map remark_value remarks)

-- remarks of a known record were added
pub told_on : (known : ℕ → Bool) (number : ℕ) (old new : List Remark) → AddsOf number old new → known number ≡ true → AreKnownAt known old → AreKnownAt known new
told_on known number old new a is olds =
    let P : RemarkValue → Type 0 = λ r. known r.at_record ≡ true in
    let more = All-map P remark_value a.more (All-weaker (λ (r : Remark). r.at_record ≡ number) (λ (r : Remark). P (remark_value r)) (λ r at. ap known at ∙ is) a.more a.each) in
    subst (λ xs. AreKnownAt known xs) (sym a.are)
    (subst (All P) (sym (map-append remark_value old a.more)) (All-append P (map remark_value old) (map remark_value a.more) olds more))

-- the record of a byte behind a place is known where those behind it are
pub known_at : (known : ℕ → Bool) (born : List ℕ) (first place number : ℕ) → All (λ n. known n ≡ true) (drop first born) → first ≤ place → place < length born → number ≡ get_or born place 0 →
    known number ≡ true
known_at known born first place number all behind inside is =
    let there : first + (place - first) ≡ place = omega (arith, behind) in
    let same : get_or (drop first born) (place - first) 0 ≡ number = get_or-drop first born (place - first) 0 ∙ ap (λ n. get_or born n 0) there ∙ sym is in
    ap known (sym same) ∙ all (place - first) 0 (omega (arith, behind, inside, length-drop first born))

-- remarks were only added
pub adds_on : (number : ℕ) (first old new : List Remark) → ((more : List Remark) × (old ≡ first ++ more)) → AddsOf number old new → (more : List Remark) × (new ≡ first ++ more)
adds_on number first old new (more, are) a = (more ++ a.more, a.are ∙ ap (λ xs. xs ++ a.more) are ∙ append_assoc first more a.more)

-- the record of a gap is that with which reading goes on
pub gap_known : (known : ℕ → Bool) (f : FlowValue) (gap : Option ℤ) (begins : Option ℕ) → ((number : ℕ) → begins ≡ Some number → known number ≡ true) →
    All (λ r. known r.at_record ≡ true) (gap_remarks f gap begins)
gap_known known f None begins is = All-nil (λ (r : RemarkValue). known r.at_record ≡ true)
gap_known known f (Some position) None is = All-nil (λ (r : RemarkValue). known r.at_record ≡ true)
gap_known known f (Some position) (Some number) is =
    All-cons (λ (r : RemarkValue). known r.at_record ≡ true) (remark_on f number 0 (Gap position)) [] (is number refl) (All-nil (λ (r : RemarkValue). known r.at_record ≡ true))
