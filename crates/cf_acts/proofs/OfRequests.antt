-- Each act of a request of Modbus that is read is in the table.
use Rattle.std.proofs.Common.{◌≡◌, ℕ, ◌+◌, ◌-◌, ◌*◌, ◌<◌, ◌≤◌, true, List, [], ◌∷◌, Some, None, refl, sym, subst, ◌∙◌, arith}
use mathlib.Core.Logic.{⊎_elim}
use Rattle.std.specs.List.{list_any}
use Rattle.std.proofs.lemmas.Bool.{cases_lt}
use Rattle.std.proofs.lemmas.Bool.Decides.{nat_tests}
use Rattle.std.proofs.lemmas.Option.{slice_get_within}
use Rattle.cf_view.specs.declared.base.Act.{Act}
use Rattle.cf_view.specs.Octets.{IsOctets, u16_be_at}
use Rattle.cf_policy.specs.declared.policy.Protocol.TheVariants.{Modbus}
use Rattle.cf_modbus.specs.Request.{RequestValue, form_of, HasForm}
use Rattle.cf_modbus.specs.Acts.{acts, coil_of, bit_of, value_of, group_of}
use Rattle.cf_modbus.proofs.ActLists.{count_of_acts, first_act, second_act}
use Rattle.cf_acts.specs.declared.acts.Groups.TheVariants as groups
use Rattle.cf_acts.specs.declared.acts.Kind.{Kind}
use Rattle.cf_acts.specs.Acts.{between, up_to, kind, modbus_kind, modbus_kinds, is_of_kind, can_have}
use Rattle.cf_acts.specs.Commands.{IsOfRequest}
use Rattle.cf_acts.proofs.Tables.{at_first, at_second, in_up_to, some_is, split}

coil_low : (octets : List ℕ) → coil_of octets ≤ 1
coil_low octets = grind (arith, nat_tests)

bit_low : (octets : List ℕ) (i : ℕ) → bit_of octets i ≤ 1
bit_low octets i = omega arith

register_low : (octets : List ℕ) (i : ℕ) → IsOctets octets → u16_be_at octets i ≤ 65535
register_low octets i are = omega (arith, are i, are (i + 1))

-- the act on a point of number i of the first ones, and of the others
abbrev first_of : ℕ → RequestValue → ℕ → Act
first_of code r i = record { code = code; group = group_of (form_of code); point = r.start + i; value = value_of (form_of code) r.values i }

abbrev second_of : ℕ → RequestValue → ℕ → Act
second_of code r j = record { code = code; group = 0; point = r.second + j; value = None }

-- the writes of function 23
abbrev write_part : Kind
write_part = kind (groups.Span (between 1 1)) (up_to 65535) (Some (up_to 65535))

abbrev FirstIn : RequestValue → ℕ → ℕ → Type 0
FirstIn r i code = HasForm (form_of code) r → list_any (is_of_kind (first_of code r i)) (modbus_kinds code) ≡ true

first_in : (r : RequestValue) (i code : ℕ) → IsOctets r.values → r.start + i ≤ 65535 → FirstIn r i code
first_in r i code o p =
    split (FirstIn r i) 1 code (λ h. at_first (first_of 1 r i) (modbus_kind 0 None) [] refl (in_up_to 65535 (r.start + i) p) refl) (λ e1.
    split (FirstIn r i) 2 code (λ h. at_first (first_of 2 r i) (modbus_kind 0 None) [] refl (in_up_to 65535 (r.start + i) p) refl) (λ e2.
    split (FirstIn r i) 3 code (λ h. at_first (first_of 3 r i) (modbus_kind 0 None) [] refl (in_up_to 65535 (r.start + i) p) refl) (λ e3.
    split (FirstIn r i) 4 code (λ h. at_first (first_of 4 r i) (modbus_kind 0 None) [] refl (in_up_to 65535 (r.start + i) p) refl) (λ e4.
    split (FirstIn r i) 5 code (λ h. at_first (first_of 5 r i) (modbus_kind 0 (Some (up_to 1))) [] refl (in_up_to 65535 (r.start + i) p) (in_up_to 1 (coil_of r.values) (coil_low r.values))) (λ e5.
    split (FirstIn r i) 6 code (λ h. at_first (first_of 6 r i) (modbus_kind 0 (Some (up_to 65535))) [] refl (in_up_to 65535 (r.start + i) p) (in_up_to 65535 (u16_be_at r.values 0) (register_low r.values 0 o))) (λ e6.
    split (FirstIn r i) 15 code (λ h. at_first (first_of 15 r i) (modbus_kind 0 (Some (up_to 1))) [] refl (in_up_to 65535 (r.start + i) p) (in_up_to 1 (bit_of r.values i) (bit_low r.values i))) (λ e15.
    split (FirstIn r i) 16 code (λ h. at_first (first_of 16 r i) (modbus_kind 0 (Some (up_to 65535))) [] refl (in_up_to 65535 (r.start + i) p) (in_up_to 65535 (u16_be_at r.values (2 * i)) (register_low r.values (2 * i) o))) (λ e16.
    split (FirstIn r i) 22 code (λ h. at_first (first_of 22 r i) (modbus_kind 0 None) [] refl (in_up_to 65535 (r.start + i) p) refl) (λ e22.
    split (FirstIn r i) 23 code (λ h. at_first (first_of 23 r i) write_part (modbus_kind 0 None ∷ []) refl (in_up_to 65535 (r.start + i) p) (in_up_to 65535 (u16_be_at r.values (2 * i)) (register_low r.values (2 * i) o))) (λ e23.
    λ h. absurd (let none : ⊥ = rw (e1, e2, e3, e4, e5, e6, e15, e16, e22, e23) at h in none)))))))))))

abbrev SecondIn : RequestValue → ℕ → ℕ → Type 0
SecondIn r j code = HasForm (form_of code) r → list_any (is_of_kind (second_of code r j)) (modbus_kinds code) ≡ true

second_in : (r : RequestValue) (j code : ℕ) → j < r.second_quantity → r.second + j ≤ 65535 → SecondIn r j code
second_in r j code lt p =
    split (SecondIn r j) 1 code (λ h. absurd (omega (arith, h.1.1, lt))) (λ e1.
    split (SecondIn r j) 2 code (λ h. absurd (omega (arith, h.1.1, lt))) (λ e2.
    split (SecondIn r j) 3 code (λ h. absurd (omega (arith, h.1.1, lt))) (λ e3.
    split (SecondIn r j) 4 code (λ h. absurd (omega (arith, h.1.1, lt))) (λ e4.
    split (SecondIn r j) 5 code (λ h. absurd (omega (arith, h.1.1, lt))) (λ e5.
    split (SecondIn r j) 6 code (λ h. absurd (omega (arith, h.1.1, lt))) (λ e6.
    split (SecondIn r j) 15 code (λ h. absurd (omega (arith, h.1.1, lt))) (λ e15.
    split (SecondIn r j) 16 code (λ h. absurd (omega (arith, h.1.1, lt))) (λ e16.
    split (SecondIn r j) 22 code (λ h. absurd (omega (arith, h.1.1, lt))) (λ e22.
    split (SecondIn r j) 23 code (λ h. at_second (second_of 23 r j) write_part (modbus_kind 0 None) [] refl (in_up_to 65535 (r.second + j) p) refl) (λ e23.
    λ h. absurd (let none : ⊥ = rw (e1, e2, e3, e4, e5, e6, e15, e16, e22, e23) at h in none)))))))))))

pub request_acts_in : (act : Act) → IsOfRequest act → can_have Modbus act ≡ true
request_acts_in act (r, (pdu, spells, place), i, here) =
    let inside = slice_get_within (acts r) i act here in
    ⊎_elim
    (λ early. subst (λ a. can_have Modbus a ≡ true) (some_is (first_of r.code r i) act (sym (first_act r i early) ∙ here))
    (first_in r i r.code spells.octets (omega (arith, place.0, early)) spells.form))
    (λ late.
    let lt : i < r.quantity + r.second_quantity = omega (arith, inside, count_of_acts r) in
    subst (λ a. can_have Modbus a ≡ true) (some_is (second_of r.code r (i - r.quantity)) act (sym (second_act r i late lt) ∙ here))
    (second_in r (i - r.quantity) r.code (omega (arith, late, lt)) (omega (arith, place.1, late, lt)) spells.form))
    (cases_lt i r.quantity)
