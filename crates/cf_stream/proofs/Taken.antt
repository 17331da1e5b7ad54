-- What is taken of letters at places.
use Rattle.std.proofs.Common.{◌≡◌, ℕ, zero, suc, ◌+◌, ◌<◌, ◌≤◌, ◌⊎◌, inl, inr, Bool, true, false, List, [], ◌∷◌, ◌++◌, length, get_or, take, drop, Option, Some, None, refl, sym, ◌∙◌, ap, arith, add-one, below_more}
use Rattle.std.proofs.lemmas.List.{same_lists, take-append-drop, length_push, get_or_push, get_or_append_left, get_or_default, get_or-take, length-take-le, take_all}
use Rattle.std.proofs.lemmas.Bool.{cases_lt, cases_Bool, true≢false, false≢true}
use Rattle.cf_stream.specs.Stream.{Stream, Letter, Byte, End, Extends}
use Rattle.cf_stream.specs.FirstCopy.{Offer, first_copy, IsTaken}
use Rattle.cf_stream.proofs.FirstCopy.{highest, first_copy_past}

pub same_stream : (s t : Stream) → s.bytes ≡ t.bytes → s.ended ≡ t.ended → s ≡ t
same_stream s t e f =
    ap (λ (xs : List ℕ). let r : Stream = record { bytes = xs; ended = s.ended } in r) e
    ∙ ap (λ (b : Bool). let r : Stream = record { bytes = t.bytes; ended = b } in r) f

-- two streams are taken, of copies and of more copies that keep the former
module _ (copy more : ℕ → Option Letter) (kept : (p : ℕ) (l : Letter) → copy p ≡ Some l → more p ≡ Some l) (s t : Stream) (h : IsTaken copy s) (g : IsTaken more t) where
  taken_length : length s.bytes ≤ length t.bytes
  taken_length =
      elim (cases_lt (length t.bytes) (length s.bytes)) [
        | inl v ↦ (let e = kept (length t.bytes) _ (h.bytes (length t.bytes) v) in
            elim (cases_Bool t.ended) [ inl b ↦ (let f = g.ended b in cc) | inr b ↦ (let f = g.unfinished b in cc) ])
        | inr v ↦ v
      ]

  taken_byte : (p : ℕ) → p < length s.bytes → get_or s.bytes p 0 ≡ get_or t.bytes p 0
  taken_byte p l =
      let e = kept p _ (h.bytes p l) in
      let below : p < length t.bytes = omega (arith, taken_length) in
      let f = g.bytes p below in
      cc

  taken_end : s.ended ≡ true → length t.bytes ≤ length s.bytes
  taken_end e =
      elim (cases_lt (length s.bytes) (length t.bytes)) [
        | inl v ↦ (let a = kept (length s.bytes) _ (h.ended e) in let b = g.bytes (length s.bytes) v in cc)
        | inr v ↦ v
      ]

  taken_front : take (length s.bytes) t.bytes ≡ s.bytes
  taken_front =
      let n = taken_length in
      let e = length-take-le (length s.bytes) t.bytes n in
      same_lists (take (length s.bytes) t.bytes) s.bytes e
      (λ k d l.
      let below : k < length s.bytes = omega (arith, e) in
      let within : k < length t.bytes = omega (arith, n) in
      get_or-take (length s.bytes) t.bytes k d below ∙ get_or_default t.bytes k d 0 within
      ∙ sym (taken_byte k below) ∙ get_or_default s.bytes k 0 d below)

  taken_same : s.ended ≡ true → t ≡ s
  taken_same e =
      let n = taken_length in
      let m = taken_end e in
      let size : length s.bytes ≡ length t.bytes = omega arith in
      same_stream t s
      (sym (take_all (length s.bytes) t.bytes m) ∙ taken_front)
      (elim (cases_Bool t.ended) [
        | inl b ↦ b ∙ sym e
        | inr b ↦ (let f = kept (length s.bytes) _ (h.ended e) in let u = g.unfinished b in let v = ap more size in cc)
      ])

  pub taken_extends : Extends s t
  taken_extends = record {
    more = drop (length s.bytes) t.bytes;
    bytes = sym (ap (λ (xs : List ℕ). xs ++ drop (length s.bytes) t.bytes) (sym taken_front) ∙ take-append-drop (length s.bytes) t.bytes);
    ended = taken_same;
  }

-- of the same copies one stream is taken
pub same_taken : (copy : ℕ → Option Letter) (s t : Stream) → IsTaken copy s → IsTaken copy t → s ≡ t
same_taken copy s t h g =
    let keep = λ (p : ℕ) (l : Letter) (e : copy p ≡ Some l). e in
    elim (cases_Bool s.ended) [
      | inl b ↦ sym (taken_same copy copy keep s t h g b)
      | inr b ↦
          elim (cases_Bool t.ended) [
            | inl d ↦ taken_same copy copy keep t s g h d
            | inr d ↦
                (let m = taken_length copy copy keep t s g h in
                same_stream s t
                (sym (taken_front copy copy keep s t h g) ∙ take_all (length s.bytes) t.bytes m)
                (b ∙ sym d))
          ]
    ]

-- the first n places have bytes
record Begins (copy : ℕ → Option Letter) (n : ℕ) : Type 0 where
  bytes : List ℕ
  size : length bytes ≡ n
  has : (p : ℕ) → p < n → copy p ≡ Some (Byte (get_or bytes p 0))

module _ (copy : ℕ → Option Letter) where
  -- they are all that is taken, where no byte follows
  taken_so_far : (n : ℕ) (b : Begins copy n) (ended : Bool) → (ended ≡ true → copy n ≡ Some End) → (ended ≡ false → copy n ≡ None) → (s : Stream) × IsTaken copy s
  taken_so_far n b ended e f =
      let s : Stream = record { bytes = b.bytes; ended = ended } in
      (s, record { bytes = λ p l. b.has p (omega (arith, b.size)); ended = λ d. ap copy b.size ∙ e d; unfinished = λ d. ap copy b.size ∙ f d })

  begins_more : (n : ℕ) (b : Begins copy n) (x : ℕ) → copy n ≡ Some (Byte x) → Begins copy (n + 1)
  begins_more n b x e = record {
    bytes = b.bytes ++ x ∷ [];
    size = length_push b.bytes x ∙ ap (λ (k : ℕ). k + 1) b.size;
    has = below_more (λ (p : ℕ). copy p ≡ Some (Byte (get_or (b.bytes ++ x ∷ []) p 0))) n
        (λ p l. let within : p < length b.bytes = omega (arith, b.size) in
        b.has p l ∙ ap (λ (y : ℕ). Some (Byte y)) (sym (get_or_append_left b.bytes (x ∷ []) 0 p within)))
        (e ∙ ap (λ (y : ℕ). Some (Byte y)) (sym (get_or_push b.bytes x 0 n b.size)));
  }

  taken_next : (n : ℕ) (b : Begins copy n) (o : Option Letter) → copy n ≡ o → ((s : Stream) × IsTaken copy s) ⊎ Begins copy (n + 1)
  taken_next n b (Some (Byte x)) e = inr (begins_more n b x e)
  taken_next n b (Some End) e = inl (taken_so_far n b true (λ _. e) (λ d. absurd (true≢false d)))
  taken_next n b None e = inl (taken_so_far n b false (λ d. absurd (false≢true d)) (λ _. e))

  taken_up_to : (n : ℕ) → ((s : Stream) × IsTaken copy s) ⊎ Begins copy n
  taken_up_to zero = inr (record { bytes = []; size = refl; has = λ p l. absurd (omega arith) })
  taken_up_to (suc n) = rw (← add-one)
      (elim (taken_up_to n) [ inl s ↦ inl s | inr b ↦ taken_next n b (copy n) refl ])

pub some_taken : (offers : List Offer) → (s : Stream) × IsTaken (first_copy offers) s
some_taken offers =
    let n = highest offers in
    elim (taken_up_to (first_copy offers) n) [
      | inl s ↦ s
      | inr b ↦ taken_so_far (first_copy offers) n b false (λ d. absurd (false≢true d)) (λ _. first_copy_past offers n (omega arith))
    ]
