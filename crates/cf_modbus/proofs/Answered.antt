-- Each PDU has an answer: it is a request of its code's form or none is, and its points have addresses or not.
use Rattle.std.proofs.Common.{◌≡◌, ℕ, ◌+◌, ◌*◌, ◌/◌, ◌%◌, ◌<◌, ◌≤◌, ◌^◌, ◌⊎◌, List, [], ◌∷◌, ◌++◌, length, get_or, drop, refl, sym, ap, ◌∙◌, subst, inl, inr, arith, length-drop, Result, Ok, Err}
use Rattle.std.proofs.Math.ListN.{drop_of_length-le}
use Rattle.std.proofs.lemmas.Bool.{cases_lt}
use Rattle.cf_view.specs.Octets.{IsOctets, u16_be_at, u16_be_octets}
use Rattle.cf_view.proofs.OctetLists.{IsOctets-drop, octet_split, u16_be_split}
use Rattle.cf_modbus.specs.Request.{RequestValue, form_of, IsQuantity, HasForm, body_of, SpellsRequest, Reads}
use Rattle.cf_modbus.specs.declared.form.Form.{Form}
use Rattle.cf_modbus.specs.declared.form.Form.TheVariants as form
use Rattle.cf_modbus.specs.declared.request.RequestRefusal.{RequestRefusal}
use Rattle.cf_modbus.specs.declared.request.RequestRefusal.TheVariants as refusal
use Rattle.cf_modbus.proofs.Layouts.{counted_pdu, read_write_spelled, registers_spelled, spells_by}
use Rattle.cf_modbus.proofs.Reading.{first_octet}

-- it is so or not
abbrev Decided : Type 0 → Type 0
Decided A = A ⊎ (A → ⊥)

both : (A B : Type 0) → Decided A → Decided B → Decided (A × B)
both A B (inl a) (inl b) = inl (a, b)
both A B (inl a) (inr n) = inr (λ h. n h.1)
both A B (inr n) b = inr (λ h. n h.0)

at_most : (m n : ℕ) → Decided (m ≤ n)
at_most m n = elim (cases_lt n m) [ inl above ↦ inr (λ h. omega (arith, h, above)) | inr h ↦ inl h ]

equal : (m n : ℕ) → Decided (m ≡ n)
equal m n =
    elim (both (m ≤ n) (n ≤ m) (at_most m n) (at_most n m)) [ inl h ↦ inl (omega (arith, h.0, h.1)) | inr differ ↦ inr (λ e. differ (omega (arith, e), omega (arith, e))) ]

one_or_other : (A B : Type 0) → Decided A → Decided B → Decided (A ⊎ B)
one_or_other A B (inl a) b = inl (inl a)
one_or_other A B (inr n) (inl b) = inl (inr b)
one_or_other A B (inr n) (inr m) = inr (λ h. elim h [ inl a ↦ n a | inr b ↦ m b ])

quantity_decided : (quantity limit : ℕ) → Decided (IsQuantity quantity limit)
quantity_decided quantity limit = both (1 ≤ quantity) (quantity ≤ limit) (at_most 1 quantity) (at_most quantity limit)

module _ (xs : List ℕ) (o : IsOctets xs) where
  abbrev code : ℕ
  code = get_or xs 0 0

  -- some request is spelled
  abbrev IsSome : Type 0
  IsSome = (r : RequestValue) × SpellsRequest r xs

  -- the parts of a request that is spelled, by the form of the code
  form_is : (f : Form) → form_of code ≡ f → (r : RequestValue) → SpellsRequest r xs → HasForm f r × (xs ≡ r.code ∷ body_of f r)
  form_is f is r s =
      let e : form_of r.code ≡ f = ap form_of (sym (first_octet r xs s)) ∙ is in
      (subst (λ g. HasForm g r) e s.form, subst (λ g. xs ≡ r.code ∷ body_of g r) e s.spelled)

  by_test : (A : Type 0) → Decided A → (A → IsSome) → ((r : RequestValue) → SpellsRequest r xs → A) → Decided IsSome
  by_test A (inl a) found must = inl (found a)
  by_test A (inr none) found must = inr (λ s. none (must s.0 s.1))

  abbrev one_part : ℕ → List ℕ → RequestValue
  one_part quantity values = record { code = code; start = u16_be_at xs 1; quantity = quantity; second = 0; second_quantity = 0; values = values }

  start_fits : u16_be_at xs 1 < 2 ^ 16
  start_fits = omega (arith, o 1, o 2)

  -- the start and what follows it
  started : 3 ≤ length xs → xs ≡ code ∷ (u16_be_octets (u16_be_at xs 1) ++ drop 3 xs)
  started h = octet_split xs 0 (omega arith) ∙ ap (λ ys. code ∷ ys) (u16_be_split xs 1 o (omega arith))

  -- ---- reads

  read_found : (limit : ℕ) → form_of code ≡ form.Read limit → (length xs ≡ 5) × IsQuantity (u16_be_at xs 3) limit → IsSome
  read_found limit is (size, within) =
      let rest : drop 3 xs ≡ u16_be_octets (u16_be_at xs 3) = u16_be_split xs 3 o (omega (arith, size)) ∙ ap (λ ys. u16_be_octets (u16_be_at xs 3) ++ ys) (drop_of_length-le xs {i = 5} (omega (arith, size))) in (
        one_part (u16_be_at xs 3) [],
        spells_by (form.Read limit) (one_part (u16_be_at xs 3) []) xs is (within, (refl, refl), refl) start_fits (omega arith) (λ i. omega arith)
            (started (omega (arith, size)) ∙ ap (λ ys. code ∷ (u16_be_octets (u16_be_at xs 1) ++ ys)) rest),
      )

  read_must : (limit : ℕ) → form_of code ≡ form.Read limit → (r : RequestValue) → SpellsRequest r xs → (length xs ≡ 5) × IsQuantity (u16_be_at xs 3) limit
  read_must limit is r s =
      let h = form_is (form.Read limit) is r s in
      let high : get_or xs 3 0 ≡ r.quantity / 256 = ap (λ ys. get_or ys 3 0) h.1 in
      let low : get_or xs 4 0 ≡ r.quantity % 256 = ap (λ ys. get_or ys 4 0) h.1 in
      let same : u16_be_at xs 3 ≡ r.quantity = omega (arith, high, low) in
      (ap length h.1, (omega (arith, same, h.0.0.0), omega (arith, same, h.0.0.1)))

  -- ---- one coil, one register, and a mask

  rest_found : (f : Form) (n : ℕ) (values : List ℕ) → form_of code ≡ f → HasForm f (one_part 1 values) → (body_of f (one_part 1 values) ≡ u16_be_octets (u16_be_at xs 1) ++ values) →
      length xs ≡ n → 3 ≤ n → drop 3 xs ≡ values → IsSome
  rest_found f n values is has body size least rest = (
    one_part 1 values,
    spells_by f (one_part 1 values) xs is has start_fits (omega arith) (subst IsOctets rest (IsOctets-drop xs 3 o))
        (started (omega (arith, size, least)) ∙ ap (λ ys. code ∷ (u16_be_octets (u16_be_at xs 1) ++ ys)) rest ∙ ap (λ ys. code ∷ ys) (sym body)),
  )

  coil_found : form_of code ≡ form.WriteCoil → (length xs ≡ 5) × ((get_or xs 4 0 ≡ 0) × ((get_or xs 3 0 ≡ 0) ⊎ (get_or xs 3 0 ≡ 255))) → IsSome
  coil_found is (size, (low, high)) =
      let two : drop 3 xs ≡ get_or xs 3 0 ∷ get_or xs 4 0 ∷ [] =
      octet_split xs 3 (omega (arith, size)) ∙ ap (λ ys. get_or xs 3 0 ∷ ys) (octet_split xs 4 (omega (arith, size)) ∙ ap (λ ys. get_or xs 4 0 ∷ ys) (drop_of_length-le xs {i = 5} (omega (arith, size)))) in
      let values : drop 3 xs ≡ get_or xs 3 0 ∷ 0 ∷ [] = two ∙ ap (λ n. get_or xs 3 0 ∷ n ∷ []) low in
      elim high [
        | inl off ↦ rest_found form.WriteCoil 5 (0 ∷ 0 ∷ []) is (refl, (refl, refl), inl refl) refl size (omega arith) (values ∙ ap (λ n. n ∷ 0 ∷ []) off)
        | inr on ↦ rest_found form.WriteCoil 5 (255 ∷ 0 ∷ []) is (refl, (refl, refl), inr refl) refl size (omega arith) (values ∙ ap (λ n. n ∷ 0 ∷ []) on)
      ]

  coil_values : (r : RequestValue) (values : List ℕ) → xs ≡ r.code ∷ (u16_be_octets r.start ++ values) → (high : ℕ) → values ≡ high ∷ 0 ∷ [] → (length xs ≡ 5) × ((get_or xs 4 0 ≡ 0) × (get_or xs 3 0 ≡ high))
  coil_values r values is high e =
      let all : xs ≡ r.code ∷ (u16_be_octets r.start ++ (high ∷ 0 ∷ [])) = is ∙ ap (λ ys. r.code ∷ (u16_be_octets r.start ++ ys)) e in
      (ap length all, (ap (λ ys. get_or ys 4 0) all, ap (λ ys. get_or ys 3 0) all))

  coil_must : form_of code ≡ form.WriteCoil → (r : RequestValue) → SpellsRequest r xs → (length xs ≡ 5) × ((get_or xs 4 0 ≡ 0) × ((get_or xs 3 0 ≡ 0) ⊎ (get_or xs 3 0 ≡ 255)))
  coil_must is r s =
      let h = form_is form.WriteCoil is r s in
      elim h.0.2 [
        | inl off ↦ (let v = coil_values r r.values h.1 0 off in (v.0, (v.1.0, inl v.1.1)))
        | inr on ↦ (let v = coil_values r r.values h.1 255 on in (v.0, (v.1.0, inr v.1.1)))
      ]

  register_found : form_of code ≡ form.WriteRegister → length xs ≡ 5 → IsSome
  register_found is size = rest_found form.WriteRegister 5 (drop 3 xs) is (refl, (refl, refl), omega (arith, length-drop 3 xs, size)) refl size (omega arith) refl

  register_must : form_of code ≡ form.WriteRegister → (r : RequestValue) → SpellsRequest r xs → length xs ≡ 5
  register_must is r s = let h = form_is form.WriteRegister is r s in omega (arith, ap length h.1, h.0.2)

  mask_found : form_of code ≡ form.MaskRegister → length xs ≡ 7 → IsSome
  mask_found is size = rest_found form.MaskRegister 7 (drop 3 xs) is (refl, (refl, refl), omega (arith, length-drop 3 xs, size)) refl size (omega arith) refl

  mask_must : form_of code ≡ form.MaskRegister → (r : RequestValue) → SpellsRequest r xs → length xs ≡ 7
  mask_must is r s = let h = form_is form.MaskRegister is r s in omega (arith, ap length h.1, h.0.2)

  -- ---- several coils and registers

  abbrev IsCounted : (limit : ℕ) → (ℕ → ℕ) → Type 0
  IsCounted limit count = IsQuantity (u16_be_at xs 3) limit × ((get_or xs 5 0 ≡ count (u16_be_at xs 3)) × (length xs ≡ 6 + get_or xs 5 0))

  counted_decided : (limit : ℕ) (count : ℕ → ℕ) → Decided (IsCounted limit count)
  counted_decided limit count =
      both _ _ (quantity_decided (u16_be_at xs 3) limit) (both _ _ (equal (get_or xs 5 0) (count (u16_be_at xs 3))) (equal (length xs) (6 + get_or xs 5 0)))

  counted_must : (limit : ℕ) (count : ℕ → ℕ) (r : RequestValue) → IsQuantity r.quantity limit → length r.values ≡ count r.quantity →
      xs ≡ r.code ∷ (u16_be_octets r.start ++ u16_be_octets r.quantity ++ length r.values ∷ r.values) → IsCounted limit count
  counted_must limit count r within long is =
      let high : get_or xs 3 0 ≡ r.quantity / 256 = ap (λ ys. get_or ys 3 0) is in
      let low : get_or xs 4 0 ≡ r.quantity % 256 = ap (λ ys. get_or ys 4 0) is in
      let octet : get_or xs 5 0 ≡ length r.values = ap (λ ys. get_or ys 5 0) is in
      let same : u16_be_at xs 3 ≡ r.quantity = omega (arith, high, low) in
      let size : length xs ≡ 6 + length r.values = omega (arith, ap length is) in
      ((omega (arith, same, within.0), omega (arith, same, within.1)), (octet ∙ long ∙ ap count (sym same), omega (arith, size, octet)))

  coils_found : form_of code ≡ form.WriteCoils → IsCounted 1968 (λ q. (q + 7) / 8) → IsSome
  coils_found is (within, (count, size)) =
      let values : length (drop 6 xs) ≡ get_or xs 5 0 = omega (arith, length-drop 6 xs, size) in (
        one_part (u16_be_at xs 3) (drop 6 xs),
        spells_by form.WriteCoils (one_part (u16_be_at xs 3) (drop 6 xs)) xs is (within, (refl, refl), values ∙ count) start_fits (omega arith) (IsOctets-drop xs 6 o)
            (counted_pdu xs o (omega (arith, size)) ∙ ap (λ n. code ∷ (u16_be_octets (u16_be_at xs 1) ++ (u16_be_octets (u16_be_at xs 3) ++ n ∷ drop 6 xs))) (sym values)),
      )

  abbrev IsTwoPart : Type 0
  IsTwoPart = (10 ≤ length xs) × (IsQuantity (u16_be_at xs 3) 125 × (IsQuantity (u16_be_at xs 7) 121 × ((get_or xs 9 0 ≡ 2 * u16_be_at xs 7) × (length xs ≡ 10 + get_or xs 9 0))))

  two_part_decided : Decided IsTwoPart
  two_part_decided =
      both _ _ (at_most 10 (length xs)) (both _ _ (quantity_decided (u16_be_at xs 3) 125) (both _ _ (quantity_decided (u16_be_at xs 7) 121) (both _ _ (equal (get_or xs 9 0) (2 * u16_be_at xs 7)) (equal (length xs) (10 + get_or xs 9 0)))))

  two_part_must : form_of code ≡ form.ReadWrite → (r : RequestValue) → SpellsRequest r xs → IsTwoPart
  two_part_must is r s =
      let h = form_is form.ReadWrite is r s in
      let a : get_or xs 3 0 ≡ r.second_quantity / 256 = ap (λ ys. get_or ys 3 0) h.1 in
      let b : get_or xs 4 0 ≡ r.second_quantity % 256 = ap (λ ys. get_or ys 4 0) h.1 in
      let c : get_or xs 7 0 ≡ r.quantity / 256 = ap (λ ys. get_or ys 7 0) h.1 in
      let d : get_or xs 8 0 ≡ r.quantity % 256 = ap (λ ys. get_or ys 8 0) h.1 in
      let octet : get_or xs 9 0 ≡ length r.values = ap (λ ys. get_or ys 9 0) h.1 in
      let second : u16_be_at xs 3 ≡ r.second_quantity = omega (arith, a, b) in
      let first : u16_be_at xs 7 ≡ r.quantity = omega (arith, c, d) in
      let size : length xs ≡ 10 + length r.values = omega (arith, ap length h.1) in
      (omega (arith, size), ((omega (arith, second, h.0.1.0), omega (arith, second, h.0.1.1)), ((omega (arith, first, h.0.0.0), omega (arith, first, h.0.0.1)), (omega (arith, octet, h.0.2, first), omega (arith, size, octet)))))

  -- ---- all forms

  formed : (f : Form) → form_of code ≡ f → Decided IsSome
  formed (form.Read limit) is = by_test _ (both _ _ (equal (length xs) 5) (quantity_decided (u16_be_at xs 3) limit)) (read_found limit is) (read_must limit is)
  formed form.WriteCoil is =
      by_test _ (both _ _ (equal (length xs) 5) (both _ _ (equal (get_or xs 4 0) 0) (one_or_other _ _ (equal (get_or xs 3 0) 0) (equal (get_or xs 3 0) 255)))) (coil_found is) (coil_must is)
  formed form.WriteRegister is = by_test _ (equal (length xs) 5) (register_found is) (register_must is)
  formed form.MaskRegister is = by_test _ (equal (length xs) 7) (mask_found is) (mask_must is)
  formed form.WriteCoils is =
      by_test _ (counted_decided 1968 (λ q. (q + 7) / 8)) (coils_found is)
      (λ r s. let h = form_is form.WriteCoils is r s in counted_must 1968 (λ q. (q + 7) / 8) r h.0.0 h.0.2 h.1)
  formed form.WriteRegisters is =
      by_test _ (counted_decided 123 (λ q. 2 * q)) (λ h. (_, registers_spelled xs _ o is h.0 h.1.0 h.1.1 refl))
      (λ r s. let h = form_is form.WriteRegisters is r s in counted_must 123 (λ q. 2 * q) r h.0.0 h.0.2 h.1)
  formed form.ReadWrite is = by_test _ two_part_decided (λ h. (_, read_write_spelled xs _ o is h.1.0 h.1.1.0 h.1.1.1.0 h.1.1.1.1 refl)) (two_part_must is)
  formed form.Unserved is = inr (λ s. (form_is form.Unserved is s.0 s.1).0)

  placed : (r : RequestValue) → SpellsRequest r xs → (answer : Result RequestValue RequestRefusal) × Reads answer xs
  placed r s =
      elim (at_most (r.start + r.quantity) 65536) [
        | inr far ↦ (Err refusal.Address, (r, s, inl (elim (cases_lt 65536 (r.start + r.quantity)) [ inl h ↦ h | inr h ↦ absurd (far h) ])))
        | inl near ↦ elim (at_most (r.second + r.second_quantity) 65536) [
          | inr far ↦ (Err refusal.Address, (r, s, inr (elim (cases_lt 65536 (r.second + r.second_quantity)) [ inl h ↦ h | inr h ↦ absurd (far h) ])))
          | inl both_near ↦ (Ok r, (s, (near, both_near)))
        ]
      ]

  served_by : (f : Form) → form_of code ≡ f → (f ≡ form.Unserved → ⊥) → (answer : Result RequestValue RequestRefusal) × Reads answer xs
  served_by f is served =
      elim (formed f is) [
        | inl s ↦ placed s.0 s.1
        | inr none ↦ (Err refusal.Value, (λ e. served (sym is ∙ e), λ r s. none (r, s)))
      ]

  answered_by : (f : Form) → form_of code ≡ f → (answer : Result RequestValue RequestRefusal) × Reads answer xs
  answered_by (form.Read limit) is = served_by (form.Read limit) is (λ e. cc)
  answered_by form.WriteCoil is = served_by form.WriteCoil is (λ e. cc)
  answered_by form.WriteRegister is = served_by form.WriteRegister is (λ e. cc)
  answered_by form.MaskRegister is = served_by form.MaskRegister is (λ e. cc)
  answered_by form.WriteCoils is = served_by form.WriteCoils is (λ e. cc)
  answered_by form.WriteRegisters is = served_by form.WriteRegisters is (λ e. cc)
  answered_by form.ReadWrite is = served_by form.ReadWrite is (λ e. cc)
  answered_by form.Unserved is = (Err refusal.Function, is)

  pub has_answer : (answer : Result RequestValue RequestRefusal) × Reads answer xs
  has_answer = answered_by (form_of code) refl
