-- Segments of one fragment.
use Rattle.std.proofs.Common.{◌≡◌, ℕ, zero, suc, ◌+◌, ◌-◌, ◌*◌, ◌%◌, ◌<◌, ◌≤◌, ◌==◌, true, false, if◌then◌else◌, List, ◌∷◌, ◌++◌, length, take, drop, Some, refl, sym, ◌∙◌, ap, arith}
use Rattle.std.proofs.Math.Seq.{take-add}
use Rattle.std.proofs.lemmas.List.{take_all, length-take}
use Rattle.std.proofs.lemmas.Bool.Decides.{nat_tests}
use Rattle.cf_dnptrans.specs.declared.assembly.SegmentAnswer.TheVariants as answer_
use Rattle.cf_dnptrans.specs.Segments.{count_of, segment_of, first_segments, segments_of}
use Rattle.cf_dnptrans.specs.Transport.{is_final, is_first, sequence, since_first, octets_of, is_linked, made_of, last_fragment, unfinished, last_sequence, added, answer_to}
use Rattle.cf_dnptrans.proofs.History.{fits}

module _ (f : List ℕ) (start : ℕ) where
  first_is : is_first (segment_of f start 0) ≡ true
  first_is = grind (arith, nat_tests)

  first_not : (i : ℕ) → is_first (segment_of f start (suc i)) ≡ false
  first_not i = grind (arith, nat_tests)

  pub final_not : (i : ℕ) → i + 1 < count_of (length f) → is_final (segment_of f start i) ≡ false
  final_not i h = grind (arith, nat_tests)

  pub final_is : (i : ℕ) → i + 1 ≡ count_of (length f) → is_final (segment_of f start i) ≡ true
  final_is i h = grind (arith, nat_tests)

  sequence_is : (i : ℕ) → sequence (segment_of f start i) ≡ (start + i) % 64
  sequence_is i = grind (arith, nat_tests)

  follows : (i : ℕ) → (sequence (segment_of f start (suc i)) == (sequence (segment_of f start i) + 1) % 64) ≡ true
  follows i = (let a = sequence_is i in let b = sequence_is (suc i) in grind (arith, nat_tests))

  pub since : (i : ℕ) (earlier : List (List ℕ)) → since_first (first_segments f start (suc i) ++ earlier) ≡ first_segments f start (suc i)
  since zero earlier = rw first_is refl
  since (suc i) earlier = rw (first_not i) (ap (λ (run : List (List ℕ)). segment_of f start (suc i) ∷ run) (since i earlier))

  linked : (i : ℕ) → i < count_of (length f) → is_linked (first_segments f start (suc i)) ≡ true
  linked zero h = first_is
  linked (suc i) h =
      let n = final_not i (omega arith) in
      let l = linked i (omega arith) in
      rw (n, follows i, l) refl

  octets : (i : ℕ) → octets_of (first_segments f start i) ≡ take (249 * i) f
  octets zero = refl
  octets (suc i) =
      let e : 249 * i + 249 ≡ 249 * suc i = omega arith in
      ap (λ (xs : List ℕ). xs ++ take 249 (drop (249 * i) f)) (octets i) ∙ sym (take-add (249 * i) 249 f) ∙ ap (λ (n : ℕ). take n f) e

  pub made : (i : ℕ) → i < count_of (length f) → length f ≤ 2048 → made_of (first_segments f start (suc i)) ≡ Some (take (249 * suc i) f)
  made i h l =
      let o = octets (suc i) in
      let n : length (take (249 * suc i) f) ≤ 2048 = omega (arith, length-take (249 * suc i) f) in
      rw (linked i h, o) (fits (take (249 * suc i) f) n)

  pub same : (earlier : List (List ℕ)) → 0 < length f → length f ≤ 2048 → (n : ℕ) → suc n ≡ count_of (length f) → last_fragment (first_segments f start (suc n) ++ earlier) ≡ Some f
  same earlier h l n e =
      let all : take (249 * suc n) f ≡ f = take_all (249 * suc n) f (omega arith) in
      rw (since n earlier) (made n (omega arith) l ∙ ap Some all)

  added_is : (xs s : List ℕ) → length xs ≤ 2048 → added xs s ≡ (if is_final s then answer_.Whole else answer_.More)
  added_is xs s h = grind (arith, nat_tests)

  answer : (i : ℕ) (earlier : List (List ℕ)) → i < count_of (length f) → length f ≤ 2048 → answer_to (first_segments f start i ++ earlier) (segment_of f start i) ≡ (if is_final (segment_of f start i) then answer_.Whole else answer_.More)
  answer zero earlier h l = rw first_is (added_is (take 249 (drop (249 * 0) f)) (segment_of f start 0) (omega (arith, length-take 249 (drop (249 * 0) f))))
  answer (suc i) earlier h l =
      let s = since i earlier in
      let n = final_not i (omega arith) in
      let m = made i (omega arith) l in
      let u : unfinished (first_segments f start (suc i) ++ earlier) ≡ Some (take (249 * suc i) f) = rw (s, n) m in
      let q : last_sequence (first_segments f start (suc i) ++ earlier) ≡ sequence (segment_of f start i) = rw s refl in
      let short : length (take (249 * suc i) f ++ take 249 (drop (249 * suc i) f)) ≤ 2048 = rw (← take-add (249 * suc i) 249 f) (omega (arith, length-take (249 * suc i + 249) f)) in
      rw (first_not i, u, q, follows i) (added_is _ (segment_of f start (suc i)) short)

  pub more : (i : ℕ) (earlier : List (List ℕ)) → length f ≤ 2048 → i + 1 < count_of (length f) → answer_to (first_segments f start i ++ earlier) (segment_of f start i) ≡ answer_.More
  more i earlier l h = (let n = final_not i h in answer i earlier (omega arith) l ∙ rw n refl)

  pub whole : (i : ℕ) (earlier : List (List ℕ)) → length f ≤ 2048 → i + 1 ≡ count_of (length f) → answer_to (first_segments f start i ++ earlier) (segment_of f start i) ≡ answer_.Whole
  whole i earlier l h = (let n = final_is i h in answer i earlier (omega arith) l ∙ rw n refl)

pub same_fragment : (f : List ℕ) (start : ℕ) (earlier : List (List ℕ)) → 0 < length f → length f ≤ 2048 → last_fragment (segments_of f start ++ earlier) ≡ Some f
same_fragment f start earlier h l =
    let n = count_of (length f) - 1 in
    let e : suc n ≡ count_of (length f) = omega arith in
    rw (← e) (same f start earlier h l n e)
