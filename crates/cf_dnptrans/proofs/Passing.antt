-- The first of the segments of fragments that go out one after the other.
use Rattle.std.proofs.Common.{◌≡◌, ℕ, zero, suc, ◌+◌, ◌-◌, ◌*◌, ◌<◌, ◌≤◌, List, [], ◌∷◌, ◌++◌, length, take, reverse, replicate, Some, None, inl, inr, refl, sym, ◌∙◌, ap, subst, arith, length-append, append_assoc}
use Rattle.std.specs.List.{flat_map, AllByRecursion}
use Rattle.std.proofs.lemmas.List.{append-nil, reverse-append, reverse-reverse, length-reverse}
use Rattle.std.proofs.lemmas.List.Concat.{flat_map-cons}
use Rattle.std.proofs.lemmas.Grind.{replicate_next}
use Rattle.std.proofs.lemmas.Bool.{cases_lt}
use Rattle.cf_dnptrans.specs.declared.assembly.SegmentAnswer.{SegmentAnswer}
use Rattle.cf_dnptrans.specs.declared.assembly.SegmentAnswer.TheVariants as answer_
use Rattle.cf_dnptrans.specs.Segments.{count_of, segment_of, first_segments, segments_of}
use Rattle.cf_dnptrans.specs.Transport.{answer_to, last_fragment, unfinished}
use Rattle.cf_dnptrans.specs.Passing.{IsSent, all_segments, answers_to, completed, fragments_of, answers_for, AreOfNext, held, PutTogether}
use Rattle.cf_dnptrans.proofs.Seams.{split_front}
use Rattle.cf_dnptrans.proofs.Segments.{more, whole, same, since, made, final_is, final_not}

pub reverse-cons : {A : Type 0} (x : A) (xs : List A) → reverse (x ∷ xs) ≡ reverse xs ++ x ∷ []
reverse-cons x xs = reverse-append (x ∷ []) xs

-- the newest first again, after one more
pub turned : {A : Type 0} (x : A) (xs earlier : List A) → reverse (x ∷ xs) ++ earlier ≡ reverse xs ++ (x ∷ earlier)
turned x xs earlier = ap (λ ys. ys ++ earlier) (reverse-cons x xs) ∙ append_assoc (reverse xs) (x ∷ []) earlier

answers_to-append : (xs ys earlier : List (List ℕ)) → answers_to earlier (xs ++ ys) ≡ answers_to earlier xs ++ answers_to (reverse xs ++ earlier) ys
answers_to-append [] ys earlier = refl
answers_to-append (x ∷ xs) ys earlier =
    ap (λ zs. answer_to earlier x ∷ zs) (answers_to-append xs ys (x ∷ earlier)
    ∙ ap (λ es. answers_to (x ∷ earlier) xs ++ answers_to es ys) (sym (turned x xs earlier)))

fragments_of-append : (xs ys earlier : List (List ℕ)) → fragments_of earlier (xs ++ ys) ≡ fragments_of earlier xs ++ fragments_of (reverse xs ++ earlier) ys
fragments_of-append [] ys earlier = refl
fragments_of-append (x ∷ xs) ys earlier =
    let now = completed (answer_to earlier x) (last_fragment (x ∷ earlier)) in
    ap (λ fs. now ++ fs) (fragments_of-append xs ys (x ∷ earlier)
    ∙ ap (λ es. fragments_of (x ∷ earlier) xs ++ fragments_of es ys) (sym (turned x xs earlier)))
    ∙ sym (append_assoc now (fragments_of (x ∷ earlier) xs) (fragments_of (reverse (x ∷ xs) ++ earlier) ys))

pub length-segments : (f : List ℕ) (start n : ℕ) → length (first_segments f start n) ≡ n
length-segments f start zero = refl
length-segments f start (suc n) = ap suc (length-segments f start n)

-- the first m of n segments
older : (f : List ℕ) (start m n : ℕ) → m ≤ n → (ys : List (List ℕ)) × (first_segments f start n ≡ ys ++ first_segments f start m)
older f start m zero h = ([], (let e : 0 ≡ m = omega (arith, h) in ap (first_segments f start) e))
older f start m (suc n) h =
    elim (cases_lt m (suc n)) [
      | inl v ↦ (let r = older f start m n (omega (arith, v)) in (segment_of f start n ∷ r.0, ap (λ zs. segment_of f start n ∷ zs) r.1))
      | inr v ↦ ([], (let e : suc n ≡ m = omega (arith, h, v) in ap (first_segments f start) e))
    ]

nothing : {A : Type 0} (xs : List A) → length xs ≡ 0 → xs ≡ []
nothing [] h = refl
nothing (x ∷ xs) h = absurd (omega (arith, h))

-- what begins the first n segments of a fragment is some first of them
pub fewer : (f : List ℕ) (start n : ℕ) (xs more : List (List ℕ)) → reverse (first_segments f start n) ≡ xs ++ more → xs ≡ reverse (first_segments f start (length xs))
fewer f start n xs more e =
    let m = length xs in
    let long : n ≡ m + length more = sym (length-segments f start n) ∙ sym (length-reverse (first_segments f start n)) ∙ ap length e ∙ length-append xs more in
    let r = older f start m n (omega (arith, long)) in
    let both : xs ++ more ≡ reverse (first_segments f start m) ++ reverse r.0 =
    sym e ∙ ap reverse r.1 ∙ reverse-append r.0 (first_segments f start m) in
    let size : length (reverse (first_segments f start m)) ≡ m = length-reverse (first_segments f start m) ∙ length-segments f start m in
    let s = split_front xs more (reverse (first_segments f start m)) (reverse r.0) (omega (arith, size)) both in
    let none : s.0 ≡ [] = nothing s.0 (omega (arith, ap length s.1, length-append xs s.0, size)) in
    sym (s.1 ∙ ap (λ zs. xs ++ zs) none ∙ append-nil xs)

module _ (f : List ℕ) (start : ℕ) (earlier : List (List ℕ)) (l : length f ≤ 2048) where
  -- one more segment, and the answer to it
  answers_more : (i : ℕ) (a : SegmentAnswer) → answer_to (first_segments f start i ++ earlier) (segment_of f start i) ≡ a →
      answers_to earlier (reverse (first_segments f start (suc i))) ≡ answers_to earlier (reverse (first_segments f start i)) ++ a ∷ []
  answers_more i a e =
      let s = first_segments f start i in
      ap (answers_to earlier) (reverse-cons (segment_of f start i) s)
      ∙ answers_to-append (reverse s) (segment_of f start i ∷ []) earlier
      ∙ ap (λ zs. answers_to earlier (reverse s) ++ answers_to (zs ++ earlier) (segment_of f start i ∷ [])) (reverse-reverse s)
      ∙ ap (λ b. answers_to earlier (reverse s) ++ b ∷ []) e

  answers_first : (i : ℕ) → i < count_of (length f) → answers_to earlier (reverse (first_segments f start i)) ≡ replicate i answer_.More
  answers_first zero h = refl
  answers_first (suc i) h =
      let n : i + 1 ≡ suc i = omega arith in
      answers_more i answer_.More (more f start i earlier l (omega arith))
      ∙ ap (λ zs. zs ++ answer_.More ∷ []) (answers_first i (omega arith))
      ∙ sym (replicate_next i answer_.More) ∙ ap (λ k. replicate k answer_.More) n

  answers_whole : (i : ℕ) → suc i ≡ count_of (length f) → answers_to earlier (reverse (first_segments f start (suc i))) ≡ replicate i answer_.More ++ answer_.Whole ∷ []
  answers_whole i h =
      answers_more i answer_.Whole (whole f start i earlier l (omega arith))
      ∙ ap (λ zs. zs ++ answer_.Whole ∷ []) (answers_first i (omega arith))

  fragments_more : (i : ℕ) (a : SegmentAnswer) → answer_to (first_segments f start i ++ earlier) (segment_of f start i) ≡ a →
      fragments_of earlier (reverse (first_segments f start (suc i))) ≡ fragments_of earlier (reverse (first_segments f start i)) ++ completed a (last_fragment (first_segments f start (suc i) ++ earlier))
  fragments_more i a e =
      let s = first_segments f start i in
      let c : SegmentAnswer → List (List ℕ) = λ b. completed b (last_fragment (segment_of f start i ∷ s ++ earlier)) in
      ap (fragments_of earlier) (reverse-cons (segment_of f start i) s)
      ∙ fragments_of-append (reverse s) (segment_of f start i ∷ []) earlier
      ∙ ap (λ zs. fragments_of earlier (reverse s) ++ fragments_of (zs ++ earlier) (segment_of f start i ∷ [])) (reverse-reverse s)
      ∙ ap (λ b. fragments_of earlier (reverse s) ++ (c b ++ [])) e
      ∙ ap (λ zs. fragments_of earlier (reverse s) ++ zs) (append-nil (c a))

  pub fragments_first : (i : ℕ) → i < count_of (length f) → fragments_of earlier (reverse (first_segments f start i)) ≡ []
  fragments_first zero h = refl
  fragments_first (suc i) h =
      fragments_more i answer_.More (more f start i earlier l (omega arith))
      ∙ ap (λ zs. zs ++ []) (fragments_first i (omega arith))

  pub fragments_whole : (i : ℕ) → 0 < length f → suc i ≡ count_of (length f) → fragments_of earlier (reverse (first_segments f start (suc i))) ≡ f ∷ []
  fragments_whole i some h =
      fragments_more i answer_.Whole (whole f start i earlier l (omega arith))
      ∙ ap (λ zs. zs ++ completed answer_.Whole (last_fragment (first_segments f start (suc i) ++ earlier))) (fragments_first i (omega arith))
      ∙ ap (completed answer_.Whole) (same f start earlier some l i h)

  unfinished_first : (i : ℕ) → suc i < count_of (length f) → unfinished (first_segments f start (suc i) ++ earlier) ≡ Some (take (249 * suc i) f)
  unfinished_first i h =
      let s = since f start i earlier in
      let n = final_not f start i (omega arith) in
      rw (s, n) (made f start i (omega arith) l)

  unfinished_whole : (i : ℕ) → suc i ≡ count_of (length f) → unfinished (first_segments f start (suc i) ++ earlier) ≡ None
  unfinished_whole i h =
      let s = since f start i earlier in
      let n = final_is f start i (omega arith) in
      rw (s, n) refl

pub left_first : (f : List ℕ) (later : List (List ℕ)) (start : ℕ) (earlier : List (List ℕ)) → unfinished earlier ≡ None → length f ≤ 2048 → (n : ℕ) → n < count_of (length f) →
    unfinished (first_segments f start n ++ earlier) ≡ held n (f ∷ later)
left_first f later start earlier none l zero h = none
left_first f later start earlier none l (suc n) h = unfinished_first f start earlier l n h

pub fragment_whole : (f : List ℕ) (start : ℕ) (earlier : List (List ℕ)) → IsSent f → fragments_of earlier (reverse (segments_of f start)) ≡ f ∷ []
fragment_whole f start earlier sent =
    let n = count_of (length f) - 1 in
    let e : suc n ≡ count_of (length f) = omega (arith, sent.0) in
    rw (← e) (fragments_whole f start earlier sent.1 n (omega (arith, sent.0)) e)

-- some first segments of the first fragment
begins_next : (f : List ℕ) (later : List (List ℕ)) (start : ℕ) (earlier segments : List (List ℕ)) → unfinished earlier ≡ None → IsSent f →
    length segments < count_of (length f) → segments ≡ reverse (first_segments f start (length segments)) → PutTogether earlier start (f ∷ later) segments
begins_next f later start earlier segments none sent short is =
    let n = length segments in
    let zero_on : start + 0 ≡ start = omega arith in
    record {
      whole = [];
      later = f ∷ later;
      first = refl;
      count = n;
      some = segments;
      are = refl;
      next = (short, is ∙ ap (λ k. reverse (first_segments f k n)) (sym zero_on));
      answered = ap (answers_to earlier) is ∙ answers_first f start earlier sent.1 n short;
      makes = ap (fragments_of earlier) is ∙ fragments_first f start earlier sent.1 n short;
      leaves = ap (λ zs. unfinished (reverse zs ++ earlier)) is ∙ ap (λ zs. unfinished (zs ++ earlier)) (reverse-reverse (first_segments f start n)) ∙ left_first f later start earlier none sent.1 n short;
    }

-- all segments of the first fragment, and then some
goes_past : (f : List ℕ) (later : List (List ℕ)) (start : ℕ) (earlier segments : List (List ℕ)) → IsSent f →
    PutTogether (segments_of f start ++ earlier) (start + count_of (length f)) later segments → PutTogether earlier start (f ∷ later) (reverse (segments_of f start) ++ segments)
goes_past f later start earlier segments sent m =
    let n = count_of (length f) - 1 in
    let e : suc n ≡ count_of (length f) = omega (arith, sent.0) in
    let s = reverse (segments_of f start) in
    let back = reverse-reverse (segments_of f start) in
    let long : length s ≡ count_of (length f) = length-reverse (segments_of f start) ∙ length-segments f start (count_of (length f)) in
    let place : start + count_of (length f) + length (all_segments (start + count_of (length f)) m.whole) ≡ start + length (s ++ all_segments (start + count_of (length f)) m.whole) =
    omega (arith, long, length-append s (all_segments (start + count_of (length f)) m.whole)) in
    let answered : answers_to earlier s ≡ answers_for f = ap (λ k. answers_to earlier (reverse (first_segments f start k))) (sym e) ∙ answers_whole f start earlier sent.1 n e in
    let fragment = fragment_whole f start earlier sent in
    record {
      whole = f ∷ m.whole;
      later = m.later;
      first = ap (λ zs. f ∷ zs) m.first;
      count = m.count;
      some = m.some;
      are = ap (λ zs. s ++ zs) m.are ∙ sym (append_assoc s (all_segments (start + count_of (length f)) m.whole) m.some);
      next = subst (λ k. AreOfNext k m.later m.count m.some) place m.next;
      answered = answers_to-append s segments earlier
          ∙ ap (λ zs. answers_to earlier s ++ answers_to (zs ++ earlier) segments) back
          ∙ ap (λ zs. zs ++ answers_to (segments_of f start ++ earlier) segments) answered
          ∙ ap (λ zs. answers_for f ++ zs) m.answered
          ∙ sym (append_assoc (answers_for f) (flat_map answers_for m.whole) (replicate m.count answer_.More))
          ∙ ap (λ zs. zs ++ replicate m.count answer_.More) (sym (flat_map-cons answers_for f m.whole));
      makes = fragments_of-append s segments earlier
          ∙ ap (λ zs. fragments_of earlier s ++ fragments_of (zs ++ earlier) segments) back
          ∙ ap (λ zs. zs ++ fragments_of (segments_of f start ++ earlier) segments) fragment
          ∙ ap (λ zs. f ∷ zs) m.makes;
      leaves = ap (λ zs. unfinished (zs ++ earlier)) (reverse-append s segments)
          ∙ ap unfinished (append_assoc (reverse segments) (reverse s) earlier)
          ∙ ap (λ zs. unfinished (reverse segments ++ (zs ++ earlier))) back
          ∙ m.leaves;
    }

pub none_after : (f : List ℕ) (start : ℕ) (earlier : List (List ℕ)) → IsSent f → unfinished (segments_of f start ++ earlier) ≡ None
none_after f start earlier sent =
    let n = count_of (length f) - 1 in
    let e : suc n ≡ count_of (length f) = omega (arith, sent.0) in
    rw (← e) (unfinished_whole f start earlier sent.1 n e)

pub put_together : (earlier : List (List ℕ)) (start : ℕ) (fragments segments more : List (List ℕ)) → unfinished earlier ≡ None → AllByRecursion IsSent fragments →
    all_segments start fragments ≡ segments ++ more → PutTogether earlier start fragments segments
put_together earlier start [] [] more none sent e = record {
  whole = [];
  later = [];
  first = refl;
  count = 0;
  some = [];
  are = refl;
  next = (refl, refl);
  answered = refl;
  makes = refl;
  leaves = none;
}
put_together earlier start [] (s ∷ segments) more none sent e = cc
put_together earlier start (f ∷ later) segments more none sent e =
    let s = reverse (segments_of f start) in
    let behind = all_segments (start + count_of (length f)) later in
    let long : length s ≡ count_of (length f) = length-reverse (segments_of f start) ∙ length-segments f start (count_of (length f)) in
    elim (cases_lt (length segments) (count_of (length f))) [
      | inl short ↦
          (let r = split_front segments more s behind (omega (arith, long)) (sym e) in
          begins_next f later start earlier segments none sent.0 short (fewer f start (count_of (length f)) segments r.0 r.1))
      | inr past ↦
          (let r = split_front s behind segments more (omega (arith, long)) e in
          let m = put_together (segments_of f start ++ earlier) (start + count_of (length f)) later r.0 more (none_after f start earlier sent.0) sent.1 r.2 in
          subst (PutTogether earlier start (f ∷ later)) (sym r.1) (goes_past f later start earlier r.0 sent.0 m))
    ]
