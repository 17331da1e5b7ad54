-- What a segment does to the fragment that is put together.
use Rattle.std.proofs.Common.{◌≡◌, ℕ, ◌+◌, ◌%◌, ◌<◌, ◌≤◌, ◌==◌, ◌&&◌, Bool, true, false, not, if◌then◌else◌, List, [], ◌∷◌, ◌++◌, length, drop, Option, Some, None, inl, inr, refl, sym, ◌∙◌, ap, arith, length-append}
use Rattle.std.proofs.lemmas.Bool.{cases_Bool, cases_lt}
use Rattle.std.proofs.lemmas.Bool.Decides.{nat_tests}
use Rattle.cf_dnptrans.specs.declared.assembly.SegmentAnswer.{SegmentAnswer}
use Rattle.cf_dnptrans.specs.Transport.{is_final, is_first, sequence, since_first, octets_of, is_linked, fitting, made_of, left_of, sequence_of, last_fragment, unfinished, last_sequence, answer_of, answer_to}
use Rattle.cf_dnptrans.specs.AssemblyValue.{AssemblyValue, open_of, IsAssemblyOf, continuing, makes, leaves, Steps}

-- what fits is no longer than what it begins
fitting-longer : (xs ys : List ℕ) → 2048 < length xs → fitting (xs ++ ys) ≡ None
fitting-longer xs ys h = grind (arith, nat_tests, length-append {A = ℕ})

pub fits : (xs : List ℕ) → length xs ≤ 2048 → fitting xs ≡ Some xs
fits xs h = grind (arith, nat_tests)

fits_not : (xs : List ℕ) → 2048 < length xs → fitting xs ≡ None
fits_not xs h = grind (arith, nat_tests)

if_same : {A : Type 0} (b : Bool) (x : A) → (if b then x else x) ≡ x
if_same true x = refl
if_same false x = refl

module _ (last : ℕ) (xs s : List ℕ) where
  -- a link after those that fit, and after those that do not
  joined_true : (b : Bool) → sequence s == (last + 1) % 64 ≡ b → (if b && true then fitting (xs ++ drop 1 s) else None) ≡ continuing (fitting xs) last s
  joined_true b e =
      elim (cases_lt 2048 (length xs)) [
        | inl v ↦ (let n = fits_not xs v in let m = fitting-longer xs (drop 1 s) v in rw (n, m) (if_same (b && true) None))
        | inr v ↦ (let n = fits xs v in rw (n, e) (elim b as (λ c. (if c && true then fitting (xs ++ drop 1 s) else None) ≡ (if c then fitting (xs ++ drop 1 s) else None)) [ true ↦ refl | false ↦ refl ]))
      ]

  joined : (final linked : Bool) → (if not final && ((sequence s == (last + 1) % 64) && linked) then fitting (xs ++ drop 1 s) else None) ≡ continuing (if final then None else (if linked then fitting xs else None)) last s
  joined true linked = refl
  joined false false = elim (sequence s == (last + 1) % 64) as (λ b. (if b && false then fitting (xs ++ drop 1 s) else None) ≡ None) [ true ↦ refl | false ↦ refl ]
  joined false true = joined_true (sequence s == (last + 1) % 64) refl

-- a segment with no FIR after linked ones
linked_next : (s : List ℕ) (run : List (List ℕ)) → is_first s ≡ false → made_of (s ∷ run) ≡ continuing (left_of run) (sequence_of run) s
linked_next s [] h = rw h refl
linked_next s (t ∷ run) h = joined (sequence t) (octets_of (t ∷ run)) s (is_final t) (is_linked (t ∷ run))

-- the fragment that a segment is of
pub begun_next : (o : ℕ) (os : List ℕ) (es : List (List ℕ)) → last_fragment ((o ∷ os) ∷ es) ≡ makes (unfinished es) (last_sequence es) (o ∷ os)
begun_next o os es =
    elim (cases_Bool (is_first (o ∷ os))) [
      | inl v ↦ rw (v, v) refl
      | inr v ↦ rw v (linked_next (o ∷ os) (since_first es) v)
    ]

pub unfinished_next : (s : List ℕ) (es : List (List ℕ)) → unfinished (s ∷ es) ≡ leaves (unfinished es) (last_sequence es) s
unfinished_next [] es = refl
unfinished_next (o ∷ os) es =
    elim (cases_Bool (is_first (o ∷ os))) [
      | inl v ↦ rw (v, v) refl
      | inr v ↦ rw v (ap (λ (x : Option (List ℕ)). if is_final (o ∷ os) then None else x) (linked_next (o ∷ os) (since_first es) v))
    ]

pub last_next : (o : ℕ) (os : List ℕ) (es : List (List ℕ)) → last_sequence ((o ∷ os) ∷ es) ≡ sequence (o ∷ os)
last_next o os es = elim (cases_Bool (is_first (o ∷ os))) [ inl v ↦ rw v refl | inr v ↦ rw v refl ]

-- with nothing unfinished the last sequence does not matter
answer_none : (k l : ℕ) (s : List ℕ) → answer_of None k s ≡ answer_of None l s
answer_none k l [] = refl
answer_none k l (o ∷ os) = refl

makes_none : (k l : ℕ) (s : List ℕ) → makes None k s ≡ makes None l s
makes_none k l s = refl

leaves_none : (k l : ℕ) (s : List ℕ) → leaves None k s ≡ leaves None l s
leaves_none k l [] = refl
leaves_none k l (o ∷ os) = refl

module _ (v : AssemblyValue) (es : List (List ℕ)) (h : IsAssemblyOf v es) where
  same : {A : Type 0} (f : Option (List ℕ) → ℕ → A) → ((k l : ℕ) → f None k ≡ f None l) → f (open_of v) v.last ≡ f (unfinished es) (last_sequence es)
  same f none =
      elim (cases_Bool v.begun) [
        | inl t ↦ (let l = h.last_is t in rw (h.opened, l) refl)
        | inr n ↦ (let u : unfinished es ≡ None = sym h.opened ∙ rw n refl in rw (h.opened, u) (none v.last (last_sequence es)))
      ]

module _ (old new : AssemblyValue) (s : List ℕ) (answer : SegmentAnswer) (t : Steps old s answer new) (es : List (List ℕ)) (h : IsAssemblyOf old es) where
  pub answer_stands : answer ≡ answer_to es s
  answer_stands = t.answer_is ∙ same old es h (λ o l. answer_of o l s) (λ k l. answer_none k l s)

  opened_after : open_of new ≡ unfinished (s ∷ es)
  opened_after = t.opened ∙ same old es h (λ o l. leaves o l s) (λ k l. leaves_none k l s) ∙ sym (unfinished_next s es)

begun_of : (v w : AssemblyValue) → open_of v ≡ open_of w → v.begun ≡ true → w.begun ≡ true
begun_of v w e b = elim (cases_Bool w.begun) [ inl t ↦ t | inr n ↦ (let x = rw (b, n) at e in cc) ]

pub stands_after : (old new : AssemblyValue) (s : List ℕ) (answer : SegmentAnswer) (t : Steps old s answer new) (es : List (List ℕ)) (h : IsAssemblyOf old es) → IsAssemblyOf new (s ∷ es)
stands_after old new [] answer t es h = record {
  opened = opened_after old new [] answer t es h;
  last_is = λ b. t.last_is b ∙ h.last_is (begun_of new old t.opened b);
  whole_is = λ w. (let a = t.whole w in let e = t.answer_is in cc);
}
stands_after old new (o ∷ os) answer t es h = record {
  opened = opened_after old new (o ∷ os) answer t es h;
  last_is = λ b. t.last_is b ∙ sym (last_next o os es);
  whole_is = λ w. begun_next o os es ∙ sym (same old es h (λ x l. makes x l (o ∷ os)) (λ k l. makes_none k l (o ∷ os))) ∙ (t.octets (t.whole w)).1;
}
