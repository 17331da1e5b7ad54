-- The PDUs that write one coil or one register, and the one act of each.
use Rattle.std.proofs.Common.{◌≡◌, ℕ, ◌+◌, ◌<◌, ◌^◌, List, [], ◌∷◌, ◌++◌, length, get_or, drop, refl, sym, ap, ◌∙◌, inl, inr, arith, length-drop, Some, pos}
use Rattle.std.proofs.lemmas.List.{get_or-drop, drop_all}
use Rattle.cf_view.specs.declared.Act.{Act}
use Rattle.cf_view.specs.Octets.{IsOctets, u16_be_at, u16_be_octets}
use Rattle.cf_view.proofs.OctetLists.{IsOctets-drop, octet_split, u16_be_split}
use Rattle.cf_modbus.specs.Acts.{acts, coil_of, IsRequestOf}
use Rattle.cf_modbus.specs.Request.{RequestValue, HasForm}
use Rattle.cf_modbus.specs.declared.form.Form.TheVariants as form
use Rattle.cf_modbus.proofs.Layouts.{spells_by}

-- the request of a PDU that writes one point
abbrev written : ℕ → List ℕ → RequestValue
written code xs = record { code = code; start = u16_be_at xs 1; quantity = 1; second = 0; second_quantity = 0; values = drop 3 xs }

-- its octets: the code, the address and the value
parts : (code : ℕ) (xs : List ℕ) → IsOctets xs → length xs ≡ 5 → get_or xs 0 0 ≡ code → xs ≡ code ∷ (u16_be_octets (u16_be_at xs 1) ++ drop 3 xs)
parts code xs o size is =
    octet_split xs 0 (omega (arith, size)) ∙ ap (λ n. n ∷ drop 1 xs) is
    ∙ ap (λ ys. code ∷ ys) (u16_be_split xs 1 o (omega (arith, size)))

-- the two octets of the value
value_octets : (xs : List ℕ) → IsOctets xs → length xs ≡ 5 → drop 3 xs ≡ u16_be_octets (u16_be_at xs 3)
value_octets xs o size =
    u16_be_split xs 3 o (omega (arith, size)) ∙ ap (λ ys. u16_be_octets (u16_be_at xs 3) ++ ys) (drop_all 5 xs (omega (arith, size)))

start_fits : (xs : List ℕ) → IsOctets xs → u16_be_at xs 1 < 2 ^ 16
start_fits xs o = omega (arith, o 1, o 2)

-- the act of a register
register_act : (xs : List ℕ) → acts (written 6 xs) ≡ record { code = 6; group = 0; point = u16_be_at xs 1 + 0; value = Some (pos (u16_be_at (drop 3 xs) 0)) } ∷ []
unfolding acts
register_act xs = refl

first_point : (n : ℕ) → n + 0 ≡ n
first_point n = omega arith

register_value : (xs : List ℕ) → u16_be_at (drop 3 xs) 0 ≡ u16_be_at xs 3
register_value xs = cc (get_or-drop 3 xs 0 0, get_or-drop 3 xs 1 0)

pub register_written : (xs : List ℕ) (act : Act) → IsOctets xs → length xs ≡ 5 → get_or xs 0 0 ≡ 6
    → act ≡ record { code = 6; group = 0; point = u16_be_at xs 1; value = Some (pos (u16_be_at xs 3)) } → IsRequestOf xs act
register_written xs act o size is e =
    let r = written 6 xs in
    let fits = start_fits xs o in (
      r,
      (
        spells_by form.WriteRegister r xs refl (refl, (refl, refl), omega (arith, length-drop 3 xs, size)) fits (omega arith) (IsOctets-drop xs 3 o) (parts 6 xs o size is),
        (omega (arith, fits), omega arith),
      ),
      register_act xs ∙ ap (λ n. record { code = 6; group = 0; point = n; value = Some (pos (u16_be_at (drop 3 xs) 0)) } ∷ []) (first_point (u16_be_at xs 1))
          ∙ ap (λ v. record { code = 6; group = 0; point = u16_be_at xs 1; value = Some (pos v) } ∷ []) (register_value xs) ∙ ap (λ a. a ∷ []) (sym e),
    )

-- the act of a coil
coil_act : (xs : List ℕ) → acts (written 5 xs) ≡ record { code = 5; group = 0; point = u16_be_at xs 1 + 0; value = Some (pos (coil_of (drop 3 xs))) } ∷ []
unfolding acts
coil_act xs = refl

coil_by : (xs : List ℕ) (act : Act) (on : ℕ) → IsOctets xs → length xs ≡ 5 → get_or xs 0 0 ≡ 5
    → HasForm form.WriteCoil (written 5 xs) → coil_of (drop 3 xs) ≡ on
    → act ≡ record { code = 5; group = 0; point = u16_be_at xs 1; value = Some (pos on) } → IsRequestOf xs act
coil_by xs act on o size is has coil e =
    let r = written 5 xs in
    let fits = start_fits xs o in (
      r,
      (
        spells_by form.WriteCoil r xs refl has fits (omega arith) (IsOctets-drop xs 3 o) (parts 5 xs o size is),
        (omega (arith, fits), omega arith),
      ),
      coil_act xs ∙ ap (λ n. record { code = 5; group = 0; point = n; value = Some (pos (coil_of (drop 3 xs))) } ∷ []) (first_point (u16_be_at xs 1))
          ∙ ap (λ v. record { code = 5; group = 0; point = u16_be_at xs 1; value = Some (pos v) } ∷ []) coil ∙ ap (λ a. a ∷ []) (sym e),
    )

pub coil_off : (xs : List ℕ) (act : Act) → IsOctets xs → length xs ≡ 5 → get_or xs 0 0 ≡ 5 → u16_be_at xs 3 ≡ 0
    → act ≡ record { code = 5; group = 0; point = u16_be_at xs 1; value = Some (pos 0) } → IsRequestOf xs act
coil_off xs act o size is value e =
    let octets : drop 3 xs ≡ 0 ∷ 0 ∷ [] = value_octets xs o size ∙ ap u16_be_octets value in
    coil_by xs act 0 o size is (refl, (refl, refl), inl octets) (ap coil_of octets) e

pub coil_on : (xs : List ℕ) (act : Act) → IsOctets xs → length xs ≡ 5 → get_or xs 0 0 ≡ 5 → u16_be_at xs 3 ≡ 0xff00
    → act ≡ record { code = 5; group = 0; point = u16_be_at xs 1; value = Some (pos 1) } → IsRequestOf xs act
coil_on xs act o size is value e =
    let octets : drop 3 xs ≡ 0xff ∷ 0 ∷ [] = value_octets xs o size ∙ ap u16_be_octets value in
    coil_by xs act 1 o size is (refl, (refl, refl), inr octets) (ap coil_of octets) e
