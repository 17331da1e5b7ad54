-- Where no packet of a flow has a conflict, all that is put together of its packets is a beginning of what is taken of first copies.
use Rattle.std.proofs.Common.{◌≡◌, ◌≢◌, ◌+◌, ◌-◌, ◌<◌, ◌≤◌, ◌∙◌, ◌⊎◌, ◌+ℤ◌, ◌<ℤ◌, ◌==◌, ◌&&◌, if◌then◌else◌, ℕ, ℤ, zero, suc, pos, negsuc, Bool, true, false, List, [], ◌∷◌, ◌++◌, length, map, get_or, nat_lt, slice_get, Option, None, Some, option_map, refl, sym, ap, inl, inr, arith}
use Rattle.cf_unobjected.proofs.Common.{Carried, HasConflict, HasLetter, Letter, Stream, and_parts, cases_Bool, cases_lt, copy_of, false≢true, letter_at, letter_count, nat_tests, none-some, offer_of, option_or, part_of, same_Some, slice_get-get_or, true≢false}
use Rattle.std.proofs.lemmas.Bool.{cases_eq, cases_order, eqb-true}
use Rattle.std.proofs.lemmas.Int.{ints}
use Rattle.std.proofs.lemmas.Option.{slice_get-map, slice_get_within}
use Rattle.cf_session.specs.Laws.{IsFront, IsReassembly, Part}
use Rattle.cf_stream.proofs.PlaceOrZero.{place_or_zero_from}
use Rattle.cf_stream.specs.FirstCopy.{IsTaken, offered}
use Rattle.cf_stream.specs.Position.{place_or_zero}
use Rattle.cf_stream.specs.Stream.{Byte, End, letter_from, letters}
use Rattle.cf_watch.specs.Carried.{Differs, end_after, end_of, letter_of}

-- ---- letters

abbrev pub is_end : Letter → Bool
is_end (Byte b) = false
is_end End = true

abbrev pub byte_of : Letter → ℕ
byte_of (Byte b) = b
byte_of End = 0

-- two letters are the same, or they are not
cases_letter : (a b : Letter) → (a ≡ b) ⊎ (a ≢ b)
cases_letter (Byte a) (Byte b) = elim (cases_eq a b) [ inl e ↦ inl (ap Byte e) | inr d ↦ inr (λ e. d (ap byte_of e)) ]
cases_letter (Byte a) End = inr (λ e. false≢true (ap is_end e))
cases_letter End (Byte b) = inr (λ e. true≢false (ap is_end e))
cases_letter End End = inl refl

-- ---- a packet offers all of its letters

inside_by : (bytes : List ℕ) (ended : Bool) (k : ℕ) (l : Letter) → letter_at (record { bytes = bytes; ended = ended }) k ≡ Some l → k < letter_count (record { bytes = bytes; ended = ended })
inside_by bytes ended k l e =
    elim (cases_lt k (letter_count (record { bytes = bytes; ended = ended }))) [
      | inl v ↦ v
      | inr v ↦ absurd (none-some l (sym (none_past bytes ended k v) ∙ e))
    ] where
      none_past : (xs : List ℕ) (ends : Bool) (k : ℕ) → letter_count (record { bytes = xs; ended = ends }) ≤ k → letter_at (record { bytes = xs; ended = ends }) k ≡ None
      none_past xs true k h = grind (arith, nat_tests, h)
      none_past xs false k h = grind (arith, nat_tests, h)

inside : (s : Stream) (k : ℕ) (l : Letter) → letter_at s k ≡ Some l → k < letter_count s
inside s k l e = inside_by s.bytes s.ended k l e

after : (z : ℤ) (n p : ℕ) → 0 < n → pos p <ℤ (z +ℤ pos n) → p < end_after z n
after z n p some h =
    let many : (n == 0) ≡ false = grind (arith, nat_tests, some) in
    let e : (z +ℤ pos n) ≡ pos (place_or_zero (z +ℤ pos n)) = place_or_zero_from 0 (z +ℤ pos n) (omega (arith, ints, h)) in
    rw many (omega (arith, ints, e, h))

-- where so many letters stand from a place on, what is in them is before their end
before_end : (z : ℤ) (s : Stream) (p : ℕ) (l : Letter) → letter_from z s p ≡ Some l → p < end_after z (letter_count s)
before_end (pos a) s p l e =
    elim (cases_lt p a) [
      | inl v ↦ (let below : nat_lt p a ≡ true = grind (arith, nat_tests, v) in absurd (none-some l (rw below at e)))
      | inr v ↦
          (let above : nat_lt p a ≡ false = grind (arith, nat_tests, v) in
          let at : p - a < letter_count s = inside s (p - a) l (rw above at e) in
          after (pos a) (letter_count s) p (omega (arith, at)) (omega (arith, ints, at, v)))
    ]
before_end (negsuc a) s p l e =
    let at : p + suc a < letter_count s = inside s (p + suc a) l e in
    after (negsuc a) (letter_count s) p (omega (arith, at)) (omega (arith, ints, at))

pub all_offered : (c : Carried) (p : ℕ) (l : Letter) → letter_of c p ≡ Some l → offered (offer_of c) p ≡ Some l
all_offered c p l e = let below : nat_lt p (end_of c) ≡ true = (let h = before_end c.at c.text p l e in grind (arith, nat_tests, h)) in rw below e

-- ---- one letter a place

-- what the older packets have at a place stays, and where they have none the newest gives its own
copy_more : (o m : Option Letter) (l : Letter) → m ≡ Some l → ((k : Letter) → o ≡ Some k → k ≡ l) → option_or o m ≡ Some l
copy_more None m l e same = e
copy_more (Some k) m l e same = ap Some (same k refl)

newest_same : (earlier : List Carried) (c : Carried) (p : ℕ) (l : Letter) → ((q : ℕ) → Differs (copy_of earlier) c q → ⊥) → letter_of c p ≡ Some l → (k : Letter) → copy_of earlier p ≡ Some k → k ≡ l
newest_same earlier c p l never has k was =
    elim (cases_letter l k) [
      | inl e ↦ sym e
      | inr d ↦ absurd (never p (record { first = k; other = l; was = was; is = has; differ = d }))
    ]

-- where there is no conflict, each letter that a packet carries is the first copy at its place
pub one_letter : (carried : List Carried) → HasConflict carried None → (i : ℕ) (c : Carried) (p : ℕ) (l : Letter) → slice_get carried i ≡ Some c → letter_of c p ≡ Some l → copy_of carried p ≡ Some l
one_letter [] h i c p l is has = absurd (none-some c is)
one_letter (d ∷ earlier) (Some k, had, after) i c p l is has = absurd (none-some k after)
one_letter (d ∷ earlier) (None, had, never) zero c p l is has =
    let here : letter_of d p ≡ Some l = ap (λ x. letter_of x p) (same_Some d c is) ∙ has in
    copy_more (copy_of earlier p) (offered (offer_of d) p) l (all_offered d p l here) (newest_same earlier d p l never here)
one_letter (d ∷ earlier) (None, had, never) (suc i) c p l is has = ap (λ o. option_or o (offered (offer_of d) p)) (one_letter earlier had i c p l is has)

-- so it is of the parts
letter_by : (carried : List Carried) → HasConflict carried None → (p : ℕ) (l : Letter) → HasLetter (map part_of carried) p l → copy_of carried p ≡ Some l
letter_by carried h p l has = by (slice_get carried has.index) refl where
  by : (o : Option Carried) → slice_get carried has.index ≡ o → copy_of carried p ≡ Some l
  by None e = absurd (none-some has.part (sym (slice_get-map part_of carried has.index ∙ ap (option_map part_of) e) ∙ has.is))
  by (Some c) e =
      let same : part_of c ≡ has.part = same_Some (part_of c) has.part (sym (slice_get-map part_of carried has.index ∙ ap (option_map part_of) e) ∙ has.is) in
      one_letter carried h has.index c p l e (ap (λ (x : Part). letter_from x.at x.text p) same ∙ has.has)

-- ---- what is taken

module _ (copy : ℕ → Option Letter) (whole : Stream) (taken : IsTaken copy whole) (xs : List Letter) (each : (p : ℕ) (l : Letter) → slice_get xs p ≡ Some l → copy p ≡ Some l)
    (ends : (p : ℕ) → slice_get xs p ≡ Some End → length xs ≡ p + 1) where
  -- no letter stands behind what is taken
  none_behind : (p : ℕ) (l : Letter) → slice_get xs p ≡ Some l → length whole.bytes < p → ⊥
  none_behind p l e h =
      let size = length whole.bytes in
      let within : p < length xs = slice_get_within xs p l e in
      let there = slice_get-get_or xs size End (omega (arith, within, h)) in
      elim (cases_Bool whole.ended) [
        | inl b ↦
            (let is : get_or xs size End ≡ End = same_Some _ _ (sym (each size _ there) ∙ taken.ended b) in
            let last = ends size (there ∙ ap Some is) in
            omega (arith, last, within, h))
        | inr b ↦ none-some _ (sym (taken.unfinished b) ∙ each size _ there)
      ]

  at_end : (p : ℕ) (l : Letter) → slice_get xs p ≡ Some l → p ≡ length whole.bytes → letter_at whole p ≡ Some l
  at_end p l e h =
      let here : copy (length whole.bytes) ≡ Some l = ap copy (sym h) ∙ each p l e in
      let past : nat_lt p (length whole.bytes) ≡ false = grind (arith, nat_tests, h) in
      let at : (p == length whole.bytes) ≡ true = grind (arith, nat_tests, h) in
      elim (cases_Bool whole.ended) [
        | inl b ↦ rw (past, at, b) (sym (taken.ended b) ∙ here)
        | inr b ↦ absurd (none-some l (sym (taken.unfinished b) ∙ here))
      ]

  in_bytes : (p : ℕ) (l : Letter) → slice_get xs p ≡ Some l → p < length whole.bytes → letter_at whole p ≡ Some l
  in_bytes p l e h = let below : nat_lt p (length whole.bytes) ≡ true = grind (arith, nat_tests, h) in rw below (sym (taken.bytes p h) ∙ each p l e)

  each_taken : (p : ℕ) (l : Letter) → slice_get xs p ≡ Some l → letter_at whole p ≡ Some l
  each_taken p l e =
      elim (cases_order p (length whole.bytes)) [
        | inl same ↦ at_end p l e same
        | inr (inl below) ↦ in_bytes p l e below
        | inr (inr past) ↦ absurd (none_behind p l e past)
      ]

begins_by_place : (xs ys : List Letter) → ((p : ℕ) (x : Letter) → slice_get xs p ≡ Some x → slice_get ys p ≡ Some x) → (more : List Letter) × (ys ≡ xs ++ more)
begins_by_place [] ys h = (ys, refl)
begins_by_place (x ∷ xs) [] h = absurd (none-some x (h 0 x refl))
begins_by_place (x ∷ xs) (y ∷ ys) h =
    let rest = begins_by_place xs ys (λ p z g. h (suc p) z g) in
    (rest.0, ap (λ z. z ∷ ys) (same_Some y x (h 0 x refl)) ∙ ap (λ zs. x ∷ zs) rest.1)

-- what is put together of packets without a conflict is a beginning of what is taken
pub is_front : ((s : Stream) (p : ℕ) → slice_get (letters s) p ≡ letter_at s p) → (carried : List Carried) → HasConflict carried None → (whole : Stream) → IsTaken (copy_of carried) whole → (xs : List Letter) →
    IsReassembly (map part_of carried) xs → IsFront whole xs
is_front in_order carried h whole taken xs re =
    let b = begins_by_place xs (letters whole)
    (λ p l e. in_order whole p ∙ each_taken (copy_of carried) whole taken xs (λ q m is. letter_by carried h q m (re.each q m is)) re.end p l e) in
    record { more = b.0; is = b.1 }

-- ---- what is taken is put together

offered_letter : (c : Carried) (p : ℕ) (l : Letter) → offered (offer_of c) p ≡ Some l → letter_of c p ≡ Some l
offered_letter c p l e =
    elim (cases_lt p (end_of c)) [
      | inl v ↦ (let below : nat_lt p (end_of c) ≡ true = grind (arith, nat_tests, v) in rw below at e)
      | inr v ↦ (let above : nat_lt p (end_of c) ≡ false = grind (arith, nat_tests, v) in absurd (none-some l (rw above at e)))
    ]

-- some packet carried each first copy
some_carried : (carried : List Carried) (p : ℕ) (l : Letter) → copy_of carried p ≡ Some l → HasLetter (map part_of carried) p l
some_carried [] p l e = absurd (none-some l e)
some_carried (c ∷ earlier) p l e = by (copy_of earlier p) refl (some_carried earlier p l) where
  by : (o : Option Letter) → copy_of earlier p ≡ o → (copy_of earlier p ≡ Some l → HasLetter (map part_of earlier) p l) → HasLetter (map part_of (c ∷ earlier)) p l
  by None is before = record { index = 0; part = part_of c; is = refl; has = offered_letter c p l (ap (λ o. option_or o (offered (offer_of c) p)) (sym is) ∙ e) }
  by (Some k) is before =
      let m = before (is ∙ ap (λ o. option_or o (offered (offer_of c) p)) (sym is) ∙ e) in
      record { index = suc m.index; part = m.part; is = m.is; has = m.has }

end_last : (s : Stream) (p : ℕ) → letter_at s p ≡ Some End → letter_count s ≡ p + 1
end_last s p e =
    elim (cases_lt p (length s.bytes)) [
      | inl v ↦ (let below : nat_lt p (length s.bytes) ≡ true = grind (arith, nat_tests, v) in absurd (false≢true (ap is_end (same_Some _ End (rw below at e)))))
      | inr v ↦
          (let above : nat_lt p (length s.bytes) ≡ false = grind (arith, nat_tests, v) in
          by ((p == length s.bytes) && s.ended) refl (rw above at e))
    ] where
      by : (b : Bool) → ((p == length s.bytes) && s.ended) ≡ b → (if (p == length s.bytes) && s.ended then Some End else None) ≡ Some End → letter_count s ≡ p + 1
      by true is f =
          let both = and_parts (p == length s.bytes) s.ended is in
          let at = eqb-true p (length s.bytes) both.0 in
          rw both.1 (omega (arith, at))
      by false is f = absurd (none-some End (ap (λ b. if b then Some End else None) (sym is) ∙ f))

pub taken_is_put :
    ((s : Stream) (p : ℕ) → slice_get (letters s) p ≡ letter_at s p) → ((s : Stream) → length (letters s) ≡ letter_count s) →
    ((copy : ℕ → Option Letter) (s : Stream) (p : ℕ) (l : Letter) → IsTaken copy s → letter_at s p ≡ Some l → copy p ≡ Some l) →
    (carried : List Carried) (whole : Stream) → IsTaken (copy_of carried) whole → IsReassembly (map part_of carried) (letters whole)
taken_is_put in_order size copies carried whole taken = record {
  each = λ p l e. some_carried carried p l (copies (copy_of carried) whole p l taken (sym (in_order whole p) ∙ e));
  end = λ p e. size whole ∙ end_last whole p (sym (in_order whole p) ∙ e);
}
