-- Each act of an ASDU of IEC 60870-5-104 that is read is in the table.
use Rattle.std.proofs.Common.{◌≡◌, ℕ, ◌+◌, ◌*◌, ◌%◌, ◌<◌, ◌≤◌, ◌==◌, ◌||◌, not, if◌then◌else◌, ℤ, pos, Bool, true, false, List, [], ◌∷◌, map, slice_index, slice_get, Option, Some, None, is_some, refl, sym, subst, ap, ◌∙◌, arith}
use mathlib.Core.Logic.{⊎_elim}
use Rattle.std.specs.List.{list_any, range_with_len}
use Rattle.std.proofs.lemmas.Int.{ints}
use Rattle.std.proofs.lemmas.Bool.{or_left, or_right, or_cases, eqb-true}
use Rattle.std.proofs.lemmas.Bool.Decides.{nat_tests}
use Rattle.std.proofs.lemmas.List.FromFn.{length-map-range_with_len, get_or-map-range_with_len}
use Rattle.std.proofs.lemmas.Option.{slice_get_within, slice_get-get_or}
use Rattle.cf_view.specs.declared.base.Act.{Act}
use Rattle.cf_view.specs.Octets.{IsOctets, u16_le_at, u24_le_at, u32_le_at}
use Rattle.cf_policy.specs.declared.policy.Protocol.TheVariants.{Iec104}
use Rattle.cf_policy.specs.declared.policy.Span.{Span}
use Rattle.cf_policy.specs.Verdict.{covers}
use Rattle.cf_asdu.specs.declared.asdu.AsduRefusal.{AsduRefusal}
use Rattle.cf_asdu.specs.declared.asdu.AsduRefusal.TheVariants as refusals
use Rattle.cf_asdu.specs.Asdu.{AsduValue, has_objects, is_command_cause}
use Rattle.cf_asdu.specs.Acts.{acts, acts_by}
use Rattle.cf_asdu.specs.Types.{element_of, signed}
use Rattle.cf_acts.specs.declared.acts.Groups.TheVariants as groups
use Rattle.cf_acts.specs.Acts as tables
use Rattle.cf_acts.specs.Acts.{between, up_to, object_kind, iec104_kinds, has_group, has_value, is_of_kind, can_have}
use Rattle.cf_acts.specs.Commands.{IsOfAsdu}
use Rattle.cf_acts.proofs.Tables.{at_first, in_between, in_up_to, some_is, split}

causes : (n : ℕ) → ((n == 5) || ((n == 6) || (n == 8))) ≡ true → has_group groups.Causes (pos n) ≡ true
causes n h = ⊎_elim
    (λ five. or_left _ _ (in_between 5 5 n (omega (arith, eqb-true n 5 five)) (omega (arith, eqb-true n 5 five))))
    (λ others. or_right (covers (between 5 5) (pos n)) _ (⊎_elim
    (λ six. or_left _ _ (in_between 6 6 n (omega (arith, eqb-true n 6 six)) (omega (arith, eqb-true n 6 six))))
    (λ eight. or_right (covers (between 6 6) (pos n)) _ (in_between 8 8 n (omega (arith, eqb-true n 8 eight)) (omega (arith, eqb-true n 8 eight))))
    (or_cases (n == 6) (n == 8) others)))
    (or_cases (n == 5) _ h)

signed_range : (n : ℕ) → n ≤ 65535 → covers (tables.signed 32768) (signed n) ≡ true
signed_range n high = grind (arith, ints, nat_tests)

point_in : (octets : List ℕ) (place : ℕ) → IsOctets octets → covers (up_to 16777215) (pos (u24_le_at octets place)) ≡ true
point_in octets place o = in_up_to 16777215 (u24_le_at octets place) (omega (arith, o place, o (place + 1), o (place + 2)))

-- the numbers of elements, by their octets and their place
abbrev bit_at : List ℕ → ℕ → Option ℤ
bit_at octets place = Some (pos (slice_index octets place % 2))

abbrev two_at : List ℕ → ℕ → Option ℤ
two_at octets place = Some (pos (slice_index octets place % 4))

abbrev octet_at : List ℕ → ℕ → Option ℤ
octet_at octets place = Some (pos (slice_index octets place))

abbrev signed_at : List ℕ → ℕ → Option ℤ
signed_at octets place = Some (signed (u16_le_at octets place))

abbrev unsigned_at : List ℕ → ℕ → Option ℤ
unsigned_at octets place = Some (pos (u32_le_at octets place))

abbrev absent_at : List ℕ → ℕ → Option ℤ
absent_at octets place = None

-- the acts of objects with elements of so many octets, and of their number
abbrev act_like : AsduValue → ℕ → (List ℕ → ℕ → Option ℤ) → ℕ → Act
act_like a size value i = record {
  code = a.kind;
  group = a.cause % 64;
  point = u24_le_at a.objects (i * (3 + size));
  value = value a.objects (i * (3 + size) + 3);
}

abbrev acts_like : AsduValue → ℕ → (List ℕ → ℕ → Option ℤ) → List Act
acts_like a size value = map (act_like a size value) (range_with_len 0 a.number)

like_at : (a : AsduValue) (size : ℕ) (value : List ℕ → ℕ → Option ℤ) (i : ℕ) (act : Act) → slice_get (acts_like a size value) i ≡ Some act → act_like a size value i ≡ act
like_at a size value i act here =
    let f = act_like a size value in
    let inside = slice_get_within (acts_like a size value) i act here in
    let lt : i < a.number = omega (arith, inside, length-map-range_with_len (act_like a size value) 0 a.number) in
    some_is (act_like a size value i) act (sym (slice_get-get_or (acts_like a size value) i (act_like a size value i) inside
    ∙ ap Some (get_or-map-range_with_len (act_like a size value) 0 a.number i i (act_like a size value i) lt (omega arith))) ∙ here)

in_like : (a : AsduValue) (size : ℕ) (value : List ℕ → ℕ → Option ℤ) (range : Option Span) (i : ℕ) (act : Act) → IsOctets a.objects → is_command_cause a.cause ≡ true
    → ((octets : List ℕ) (place : ℕ) → IsOctets octets → has_value range (value octets place) ≡ true)
    → slice_get (acts_like a size value) i ≡ Some act → list_any (is_of_kind act) (object_kind range ∷ []) ≡ true
in_like a size value range i act o cause fits here =
    subst (λ b. list_any (is_of_kind b) (object_kind range ∷ []) ≡ true) (like_at a size value i act here)
    (at_first (act_like a size value i) (object_kind range) [] (causes (a.cause % 64) cause) (point_in a.objects (i * (3 + size)) o)
    (fits a.objects (i * (3 + size) + 3) o))

bit_in : (a : AsduValue) (size i : ℕ) (act : Act) → IsOctets a.objects → is_command_cause a.cause ≡ true → slice_get (acts_like a size bit_at) i ≡ Some act
    → list_any (is_of_kind act) (object_kind (Some (up_to 1)) ∷ []) ≡ true
bit_in a size i act o cause here = in_like a size bit_at (Some (up_to 1)) i act o cause (λ octets place o. in_up_to 1 (slice_index octets place % 2) (omega arith)) here

two_in : (a : AsduValue) (size i : ℕ) (act : Act) → IsOctets a.objects → is_command_cause a.cause ≡ true → slice_get (acts_like a size two_at) i ≡ Some act
    → list_any (is_of_kind act) (object_kind (Some (up_to 3)) ∷ []) ≡ true
two_in a size i act o cause here = in_like a size two_at (Some (up_to 3)) i act o cause (λ octets place o. in_up_to 3 (slice_index octets place % 4) (omega arith)) here

octet_in : (a : AsduValue) (size i : ℕ) (act : Act) → IsOctets a.objects → is_command_cause a.cause ≡ true → slice_get (acts_like a size octet_at) i ≡ Some act
    → list_any (is_of_kind act) (object_kind (Some (up_to 255)) ∷ []) ≡ true
octet_in a size i act o cause here = in_like a size octet_at (Some (up_to 255)) i act o cause (λ octets place o. in_up_to 255 (slice_index octets place) (omega (arith, o place))) here

signed_in : (a : AsduValue) (size i : ℕ) (act : Act) → IsOctets a.objects → is_command_cause a.cause ≡ true → slice_get (acts_like a size signed_at) i ≡ Some act
    → list_any (is_of_kind act) (object_kind (Some (tables.signed 32768)) ∷ []) ≡ true
signed_in a size i act o cause here = in_like a size signed_at (Some (tables.signed 32768)) i act o cause (λ octets place o. signed_range (u16_le_at octets place) (omega (arith, o place, o (place + 1)))) here

unsigned_in : (a : AsduValue) (size i : ℕ) (act : Act) → IsOctets a.objects → is_command_cause a.cause ≡ true → slice_get (acts_like a size unsigned_at) i ≡ Some act
    → list_any (is_of_kind act) (object_kind (Some (up_to 4294967295)) ∷ []) ≡ true
unsigned_in a size i act o cause here = in_like a size unsigned_at (Some (up_to 4294967295)) i act o cause (λ octets place o. in_up_to 4294967295 (u32_le_at octets place) (omega (arith, o place, o (place + 1), o (place + 2), o (place + 2 + 1)))) here

absent_in : (a : AsduValue) (size i : ℕ) (act : Act) → IsOctets a.objects → is_command_cause a.cause ≡ true → slice_get (acts_like a size absent_at) i ≡ Some act
    → list_any (is_of_kind act) (object_kind (None) ∷ []) ≡ true
absent_in a size i act o cause here = in_like a size absent_at (None) i act o cause (λ octets place o. refl) here

abbrev AsduIn : AsduValue → ℕ → Act → ℕ → Type 0
AsduIn a i act code = slice_get (acts_by (element_of code) a) i ≡ Some act → list_any (is_of_kind act) (iec104_kinds code) ≡ true

asdu_in : (a : AsduValue) (i : ℕ) (act : Act) (code : ℕ) → IsOctets a.objects → is_command_cause a.cause ≡ true → AsduIn a i act code
asdu_in a i act code octets cause =
    split (AsduIn a i act) 45 code (bit_in a 1 i act octets cause) (λ e45.
    split (AsduIn a i act) 46 code (two_in a 1 i act octets cause) (λ e46.
    split (AsduIn a i act) 47 code (two_in a 1 i act octets cause) (λ e47.
    split (AsduIn a i act) 48 code (signed_in a 3 i act octets cause) (λ e48.
    split (AsduIn a i act) 49 code (signed_in a 3 i act octets cause) (λ e49.
    split (AsduIn a i act) 50 code (absent_in a 5 i act octets cause) (λ e50.
    split (AsduIn a i act) 51 code (unsigned_in a 4 i act octets cause) (λ e51.
    split (AsduIn a i act) 58 code (bit_in a 8 i act octets cause) (λ e58.
    split (AsduIn a i act) 59 code (two_in a 8 i act octets cause) (λ e59.
    split (AsduIn a i act) 60 code (two_in a 8 i act octets cause) (λ e60.
    split (AsduIn a i act) 61 code (signed_in a 10 i act octets cause) (λ e61.
    split (AsduIn a i act) 62 code (signed_in a 10 i act octets cause) (λ e62.
    split (AsduIn a i act) 63 code (absent_in a 12 i act octets cause) (λ e63.
    split (AsduIn a i act) 64 code (unsigned_in a 11 i act octets cause) (λ e64.
    split (AsduIn a i act) 100 code (octet_in a 1 i act octets cause) (λ e100.
    split (AsduIn a i act) 101 code (octet_in a 1 i act octets cause) (λ e101.
    split (AsduIn a i act) 102 code (absent_in a 0 i act octets cause) (λ e102.
    split (AsduIn a i act) 103 code (absent_in a 7 i act octets cause) (λ e103.
    split (AsduIn a i act) 105 code (octet_in a 1 i act octets cause) (λ e105.
    split (AsduIn a i act) 107 code (absent_in a 9 i act octets cause) (λ e107.
    split (AsduIn a i act) 110 code (signed_in a 3 i act octets cause) (λ e110.
    split (AsduIn a i act) 111 code (signed_in a 3 i act octets cause) (λ e111.
    split (AsduIn a i act) 112 code (absent_in a 5 i act octets cause) (λ e112.
    split (AsduIn a i act) 113 code (octet_in a 1 i act octets cause) (λ e113.
    λ here. absurd (let none : slice_get [] i ≡ Some act = rw (e45, e46, e47, e48, e49, e50, e51, e58, e59, e60, e61, e62, e63, e64, e100, e101, e102, e103, e105, e107, e110, e111, e112, e113) at here in let lt = slice_get_within [] i act none in omega (arith, lt))))))))))))))))))))))))))

abbrev HasCode : AsduValue → ℕ → Act → ℕ → Type 0
HasCode a i act code = slice_get (acts_by (element_of code) a) i ≡ Some act → act.code ≡ a.kind

code_like : (a : AsduValue) (size : ℕ) (value : List ℕ → ℕ → Option ℤ) (i : ℕ) (act : Act) → slice_get (acts_like a size value) i ≡ Some act → act.code ≡ a.kind
code_like a size value i act here = ap (λ b. b.code) (sym (like_at a size value i act here))

has_code : (a : AsduValue) (i : ℕ) (act : Act) (code : ℕ) → HasCode a i act code
has_code a i act code =
    split (HasCode a i act) 45 code (code_like a 1 bit_at i act) (λ e45.
    split (HasCode a i act) 46 code (code_like a 1 two_at i act) (λ e46.
    split (HasCode a i act) 47 code (code_like a 1 two_at i act) (λ e47.
    split (HasCode a i act) 48 code (code_like a 3 signed_at i act) (λ e48.
    split (HasCode a i act) 49 code (code_like a 3 signed_at i act) (λ e49.
    split (HasCode a i act) 50 code (code_like a 5 absent_at i act) (λ e50.
    split (HasCode a i act) 51 code (code_like a 4 unsigned_at i act) (λ e51.
    split (HasCode a i act) 58 code (code_like a 8 bit_at i act) (λ e58.
    split (HasCode a i act) 59 code (code_like a 8 two_at i act) (λ e59.
    split (HasCode a i act) 60 code (code_like a 8 two_at i act) (λ e60.
    split (HasCode a i act) 61 code (code_like a 10 signed_at i act) (λ e61.
    split (HasCode a i act) 62 code (code_like a 10 signed_at i act) (λ e62.
    split (HasCode a i act) 63 code (code_like a 12 absent_at i act) (λ e63.
    split (HasCode a i act) 64 code (code_like a 11 unsigned_at i act) (λ e64.
    split (HasCode a i act) 100 code (code_like a 1 octet_at i act) (λ e100.
    split (HasCode a i act) 101 code (code_like a 1 octet_at i act) (λ e101.
    split (HasCode a i act) 102 code (code_like a 0 absent_at i act) (λ e102.
    split (HasCode a i act) 103 code (code_like a 7 absent_at i act) (λ e103.
    split (HasCode a i act) 105 code (code_like a 1 octet_at i act) (λ e105.
    split (HasCode a i act) 107 code (code_like a 9 absent_at i act) (λ e107.
    split (HasCode a i act) 110 code (code_like a 3 signed_at i act) (λ e110.
    split (HasCode a i act) 111 code (code_like a 3 signed_at i act) (λ e111.
    split (HasCode a i act) 112 code (code_like a 5 absent_at i act) (λ e112.
    split (HasCode a i act) 113 code (code_like a 1 octet_at i act) (λ e113.
    λ here. absurd (let none : slice_get [] i ≡ Some act = rw (e45, e46, e47, e48, e49, e50, e51, e58, e59, e60, e61, e62, e63, e64, e100, e101, e102, e103, e105, e107, e110, e111, e112, e113) at here in let lt = slice_get_within [] i act none in omega (arith, lt))))))))))))))))))))))))))

-- the tests, each by its truth
by_truths : Bool → Bool → Bool → Option AsduRefusal
by_truths known shape cause =
    if not known then Some refusals.Kind else (if not shape then Some refusals.Shape else (if not cause then Some refusals.Cause else None))

cause_holds : (known shape cause : Bool) → by_truths known shape cause ≡ None → cause ≡ true
unfolding by_truths
cause_holds true true true e = refl
cause_holds true true false e = cc
cause_holds true false cause e = cc
cause_holds false shape cause e = cc

pub asdu_acts_in : (act : Act) → IsOfAsdu act → can_have Iec104 act ≡ true
unfolding acts by_truths
asdu_acts_in act (a, (octets, (spells, long, tests)), i, here) =
    let cause = cause_holds (is_some (element_of a.kind)) (has_objects (element_of a.kind) a) (is_command_cause a.cause) tests in
    subst (λ k. list_any (is_of_kind act) (iec104_kinds k) ≡ true) (sym (has_code a i act a.kind here)) (asdu_in a i act a.kind spells.objects cause here)
