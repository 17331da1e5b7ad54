-- Each act of a request of DNP3 that is read is in the table.
use Rattle.std.proofs.Common.{◌≡◌, ◌≢◌, ℕ, zero, suc, ◌+◌, ◌-◌, ◌*◌, ◌<◌, ◌≤◌, ◌==◌, nat_lt, pos, Bool, true, false, List, [], ◌∷◌, ◌++◌, length, map, slice_index, slice_get, get_or, Some, None, Result, Ok, Err, inl, inr, refl, sym, subst, ap, ◌∙◌, arith, length-append}
use mathlib.Core.Logic.{⊎_elim}
use Rattle.std.specs.List.{list_any, range_with_len, flat_map, AllByRecursion, concat}
use Rattle.std.proofs.lemmas.Int.{ints}
use Rattle.std.proofs.lemmas.Bool.{and_parts, or_right, cases_lt, cases_Bool, eqb-true}
use Rattle.std.proofs.lemmas.Bool.Decides.{nat_tests}
use Rattle.std.proofs.lemmas.List.{get_or_append_left, get_or-append_right}
use Rattle.std.proofs.lemmas.List.FromFn.{length-map-range_with_len, get_or-map-range_with_len}
use Rattle.std.proofs.lemmas.Option.{slice_get_within, slice_get-get_or, get_or_from_slice_get}
use Rattle.std.proofs.Math.Seq.{take-append_seam, drop-append_seam}
use Rattle.cf_view.specs.declared.base.Act.{Act}
use Rattle.cf_view.specs.Octets.{IsOctets, u16_le_at, u32_le_at}
use Rattle.cf_view.proofs.OctetLists.{IsOctets-take, IsOctets-drop}
use Rattle.cf_policy.specs.declared.policy.Protocol.TheVariants.{Dnp3}
use Rattle.cf_policy.specs.Verdict.{covers}
use Rattle.cf_dnpobj.specs.Objects.{is_function, is_command, is_write, is_object, width}
use Rattle.cf_dnpobj.specs.Headers.{number_at, count_of, IsHeader, headers_in}
use Rattle.cf_dnpobj.specs.Fragment.{FragmentValue, SpellsRequest, takes_headers}
use Rattle.cf_dnpobj.specs.Acts.{acts_in, header_acts, object_act, object_place, plain_act, group_of, signed, value_at}
use Rattle.cf_dnpobj.proofs.Grammar.{are_headers}
use Rattle.cf_acts.specs.declared.acts.Groups.TheVariants as groups
use Rattle.cf_acts.specs.declared.acts.Kind.{Kind}
use Rattle.cf_acts.specs.Acts as tables
use Rattle.cf_acts.specs.Acts.{between, up_to, kind, control_kind, written_kind, dnp3_kinds, has_value, is_of_kind, can_have}
use Rattle.cf_acts.specs.Commands.{IsOfFragment}
use Rattle.cf_acts.proofs.Tables.{at_first, at_second, in_between, in_up_to, some_is}

-- the kinds by the code

abbrev controls : List Kind
controls =
    control_kind 12 1 1 (Some (up_to 255)) ∷ control_kind 41 1 1 (Some (tables.signed 2147483648))
    ∷ control_kind 41 2 2 (Some (tables.signed 32768)) ∷ control_kind 41 3 4 None ∷ []

abbrev named : Kind
named = kind (groups.Span (up_to 65535)) (up_to 0) None

command_kinds : (code : ℕ) → is_command code ≡ true → dnp3_kinds code ≡ controls
command_kinds code h = grind (arith, nat_tests)

named_kinds : (code : ℕ) → is_function code ≡ true → code ≢ 0 → is_command code ≡ false → is_write code ≡ false → dnp3_kinds code ≡ named ∷ []
named_kinds code f z c w = grind (arith, nat_tests)

-- the numbers of objects

number_low : (w : ℕ) (octets : List ℕ) (i : ℕ) → IsOctets octets → number_at w octets i ≤ 65535
number_low w octets i o = let a = o i in let b = o (i + 1) in grind (arith, nat_tests)

wide_range : (n : ℕ) → n ≤ 4294967295 → covers (tables.signed 2147483648) (signed 32 n) ≡ true
wide_range n high = grind (arith, ints, nat_tests)

narrow_range : (n : ℕ) → n ≤ 65535 → covers (tables.signed 32768) (signed 16 n) ≡ true
narrow_range n high = grind (arith, ints, nat_tests)

-- both numbers of an object
pair_is : (a b g v : ℕ) → is_object a b g v ≡ true → (a ≡ g) × (b ≡ v)
pair_is a b g v h = let both = and_parts (a == g) (b == v) h in (eqb-true a g both.0, eqb-true b v both.1)

-- a header has three octets at least, and an object that its code takes

abbrev test : List ℕ → ℕ → ℕ → Bool
test h g v = is_object (slice_index h 0) (slice_index h 1) g v

no_control : (code : ℕ) (h : List ℕ) → IsHeader code h → is_command code ≡ true → test h 12 1 ≡ false → test h 41 1 ≡ false → test h 41 2 ≡ false
    → test h 41 3 ≡ false → test h 41 4 ≡ false → ⊥
no_control code h e c t1 t2 t3 t4 t5 =
    elim (cases_Bool (nat_lt (length h) 3)) [
      | inl short ↦ (let f = rw short at e in cc)
      | inr long ↦ (let f = rw (long, c, t1, t2, t3, t4, t5) at e in cc)
    ]

no_written : (code : ℕ) (h : List ℕ) → IsHeader code h → is_command code ≡ false → is_write code ≡ true → test h 50 1 ≡ false → test h 50 3 ≡ false
    → test h 80 1 ≡ false → ⊥
no_written code h e c w t1 t2 t3 =
    elim (cases_Bool (nat_lt (length h) 3)) [
      | inl short ↦ (let f = rw short at e in cc)
      | inr long ↦ (let f = rw (long, c, w, t1, t2, t3) at e in cc)
    ]

-- objects of controls

at_third : (act : Act) (j k l : Kind) (ks : List Kind) → list_any (is_of_kind act) (l ∷ ks) ≡ true → list_any (is_of_kind act) (j ∷ k ∷ l ∷ ks) ≡ true
at_third act j k l ks h = or_right (is_of_kind act j) _ (or_right (is_of_kind act k) _ h)

abbrev place_of : ℕ → List ℕ → ℕ → ℕ
place_of code h j = object_place code h j + width (slice_index h 2)

point_in : (code : ℕ) (h : List ℕ) (j : ℕ) → IsOctets h → covers (up_to 65535) (pos (object_act code h j).point) ≡ true
point_in code h j o = in_up_to 65535 (object_act code h j).point (number_low (width (slice_index h 2)) h (object_place code h j) o)

group_in : (h : List ℕ) (g first last v : ℕ) → slice_index h 0 ≡ g → slice_index h 1 ≡ v → first ≤ v → v ≤ last
    → covers (between (g * 256 + first) (g * 256 + last)) (pos (group_of h)) ≡ true
group_in h g first last v a b low high = in_between (g * 256 + first) (g * 256 + last) (group_of h) (omega (arith, a, b, low)) (omega (arith, a, b, high))

-- the values of the objects, by their group and variation

relay_value : (h : List ℕ) (p : ℕ) → IsOctets h → test h 12 1 ≡ true → has_value (Some (up_to 255)) (value_at h p) ≡ true
relay_value h p o t = rw t (in_up_to 255 (slice_index h p) (omega (arith, o p)))

wide_value : (h : List ℕ) (p : ℕ) → IsOctets h → test h 12 1 ≡ false → test h 41 1 ≡ true → has_value (Some (tables.signed 2147483648)) (value_at h p) ≡ true
wide_value h p o f t = rw (f, t) (wide_range (u32_le_at h p) (omega (arith, o p, o (p + 1), o (p + 2), o (p + 2 + 1))))

narrow_value : (h : List ℕ) (p : ℕ) → IsOctets h → test h 12 1 ≡ false → test h 41 1 ≡ false → test h 41 2 ≡ true
    → has_value (Some (tables.signed 32768)) (value_at h p) ≡ true
narrow_value h p o f g t = rw (f, g, t) (narrow_range (u16_le_at h p) (omega (arith, o p, o (p + 1))))

no_value : (h : List ℕ) (p : ℕ) → test h 12 1 ≡ false → test h 41 1 ≡ false → test h 41 2 ≡ false → has_value None (value_at h p) ≡ true
no_value h p f g t = rw (f, g, t) refl

abbrev relay : Kind
relay = control_kind 12 1 1 (Some (up_to 255))

abbrev wide : Kind
wide = control_kind 41 1 1 (Some (tables.signed 2147483648))

abbrev narrow : Kind
narrow = control_kind 41 2 2 (Some (tables.signed 32768))

abbrev floats : Kind
floats = control_kind 41 3 4 None

float_in : (code : ℕ) (h : List ℕ) (j v : ℕ) → IsOctets h → has_value None (value_at h (place_of code h j)) ≡ true → 3 ≤ v → v ≤ 4 → slice_index h 0 ≡ 41
    → slice_index h 1 ≡ v → list_any (is_of_kind (object_act code h j)) (relay ∷ wide ∷ narrow ∷ floats ∷ []) ≡ true
float_in code h j v o value low high a b =
    at_third (object_act code h j) relay wide narrow (floats ∷ [])
    (at_second (object_act code h j) narrow floats [] (group_in h 41 3 4 v a b low high) (point_in code h j o) value)

control_in : (code : ℕ) (h : List ℕ) (j : ℕ) → is_command code ≡ true → IsHeader code h → IsOctets h
    → list_any (is_of_kind (object_act code h j)) (relay ∷ wide ∷ narrow ∷ floats ∷ []) ≡ true
control_in code h j c e o =
    elim (cases_Bool (test h 12 1)) [
      | inl t1 ↦
          (let n = pair_is (slice_index h 0) (slice_index h 1) 12 1 t1 in
          at_first (object_act code h j) relay (wide ∷ narrow ∷ floats ∷ []) (group_in h 12 1 1 1 n.0 n.1 (omega arith) (omega arith)) (point_in code h j o)
          (relay_value h (place_of code h j) o t1))
      | inr f1 ↦
          elim (cases_Bool (test h 41 1)) [
            | inl t2 ↦
                (let n = pair_is (slice_index h 0) (slice_index h 1) 41 1 t2 in
                at_second (object_act code h j) relay wide (narrow ∷ floats ∷ []) (group_in h 41 1 1 1 n.0 n.1 (omega arith) (omega arith)) (point_in code h j o)
                (wide_value h (place_of code h j) o f1 t2))
            | inr f2 ↦ analog_in code h j c e o f1 f2
          ]
    ]
  where
    analog_in : (code : ℕ) (h : List ℕ) (j : ℕ) → is_command code ≡ true → IsHeader code h → IsOctets h → test h 12 1 ≡ false → test h 41 1 ≡ false
        → list_any (is_of_kind (object_act code h j)) (relay ∷ wide ∷ narrow ∷ floats ∷ []) ≡ true
    analog_in code h j c e o f1 f2 =
        elim (cases_Bool (test h 41 2)) [
          | inl t3 ↦
              (let n = pair_is (slice_index h 0) (slice_index h 1) 41 2 t3 in
              at_third (object_act code h j) relay wide narrow (floats ∷ [])
              (at_first (object_act code h j) narrow (floats ∷ []) (group_in h 41 2 2 2 n.0 n.1 (omega arith) (omega arith)) (point_in code h j o)
              (narrow_value h (place_of code h j) o f1 f2 t3)))
          | inr f3 ↦
              elim (cases_Bool (test h 41 3)) [
                | inl t4 ↦
                    (let n = pair_is (slice_index h 0) (slice_index h 1) 41 3 t4 in
                    float_in code h j 3 o (no_value h (place_of code h j) f1 f2 f3) (omega arith) (omega arith) n.0 n.1)
                | inr f4 ↦
                    elim (cases_Bool (test h 41 4)) [
                      | inl t5 ↦
                          (let n = pair_is (slice_index h 0) (slice_index h 1) 41 4 t5 in
                          float_in code h j 4 o (no_value h (place_of code h j) f1 f2 f3) (omega arith) (omega arith) n.0 n.1)
                      | inr f5 ↦ absurd (no_control code h e c f1 f2 f3 f4 f5)
                    ]
              ]
        ]

-- written objects

written_in : (code : ℕ) (h : List ℕ) → is_command code ≡ false → is_write code ≡ true → IsHeader code h
    → list_any (is_of_kind (plain_act code (group_of h))) (written_kind 50 1 ∷ written_kind 50 3 ∷ written_kind 80 1 ∷ []) ≡ true
written_in code h c w e =
    elim (cases_Bool (test h 50 1)) [
      | inl t1 ↦
          (let n = pair_is (slice_index h 0) (slice_index h 1) 50 1 t1 in
          at_first (plain_act code (group_of h)) (written_kind 50 1) (written_kind 50 3 ∷ written_kind 80 1 ∷ []) (group_in h 50 1 1 1 n.0 n.1 (omega arith) (omega arith)) refl refl)
      | inr f1 ↦ elim (cases_Bool (test h 50 3)) [
        | inl t2 ↦
            (let n = pair_is (slice_index h 0) (slice_index h 1) 50 3 t2 in
            at_second (plain_act code (group_of h)) (written_kind 50 1) (written_kind 50 3) (written_kind 80 1 ∷ []) (group_in h 50 3 3 3 n.0 n.1 (omega arith) (omega arith)) refl refl)
        | inr f2 ↦ elim (cases_Bool (test h 80 1)) [
          | inl t3 ↦
              (let n = pair_is (slice_index h 0) (slice_index h 1) 80 1 t3 in
              at_third (plain_act code (group_of h)) (written_kind 50 1) (written_kind 50 3) (written_kind 80 1) []
              (at_first (plain_act code (group_of h)) (written_kind 80 1) [] (group_in h 80 1 1 1 n.0 n.1 (omega arith) (omega arith)) refl refl))
          | inr f3 ↦ absurd (no_written code h e c w f1 f2 f3)
        ]
      ]
    ]

named_in : (code group : ℕ) → group ≤ 65535 → list_any (is_of_kind (plain_act code group)) (named ∷ []) ≡ true
named_in code group low = at_first (plain_act code group) named [] (in_up_to 65535 group low) refl refl

-- one header's acts

object_is : (code : ℕ) (h : List ℕ) (j : ℕ) (act : Act) → slice_get (map (object_act code h) (range_with_len 0 (count_of h))) j ≡ Some act → object_act code h j ≡ act
object_is code h j act here =
    let inside = slice_get_within (map (object_act code h) (range_with_len 0 (count_of h))) j act here in
    let lt : j < count_of h = omega (arith, inside, length-map-range_with_len (object_act code h) 0 (count_of h)) in
    some_is (object_act code h j) act (sym (slice_get-get_or (map (object_act code h) (range_with_len 0 (count_of h))) j (object_act code h j) inside
    ∙ ap Some (get_or-map-range_with_len (object_act code h) 0 (count_of h) j j (object_act code h j) lt (omega arith))) ∙ here)

plain_is : (a : Act) (j : ℕ) (act : Act) → slice_get (a ∷ []) j ≡ Some act → a ≡ act
plain_is a zero act here = some_is a act here
plain_is a (suc j) act here = absurd (let lt = slice_get_within (a ∷ []) (suc j) act here in omega (arith, lt))

header_in : (code : ℕ) (h : List ℕ) (j : ℕ) (act : Act) → is_function code ≡ true → code ≢ 0 → IsHeader code h → IsOctets h
    → slice_get (header_acts code h) j ≡ Some act → (act.code ≡ code) × (list_any (is_of_kind act) (dnp3_kinds code) ≡ true)
header_in code h j act f z e o here =
    elim (cases_Bool (is_command code)) [
      | inl c ↦
          (let at : slice_get (map (object_act code h) (range_with_len 0 (count_of h))) j ≡ Some act = rw c at here in
          let is = object_is code h j act at in (
            ap (λ a. a.code) (sym is),
            subst (λ a. list_any (is_of_kind a) (dnp3_kinds code) ≡ true) is
                (subst (λ ks. list_any (is_of_kind (object_act code h j)) ks ≡ true) (sym (command_kinds code c)) (control_in code h j c e o)),
          ))
      | inr c ↦
          (let at : slice_get (plain_act code (group_of h) ∷ []) j ≡ Some act = rw c at here in
          let is = plain_is (plain_act code (group_of h)) j act at in (
            ap (λ a. a.code) (sym is),
            subst (λ a. list_any (is_of_kind a) (dnp3_kinds code) ≡ true) is
                (elim (cases_Bool (is_write code)) [
                  | inl w ↦ subst (λ ks. list_any (is_of_kind (plain_act code (group_of h))) ks ≡ true) (ap dnp3_kinds (sym (eqb-true code 2 w))) (written_in code h c w e)
                  | inr w ↦ subst (λ ks. list_any (is_of_kind (plain_act code (group_of h))) ks ≡ true) (sym (named_kinds code f z c w))
                      (named_in code (group_of h) (omega (arith, o 0, o 1)))
                ]),
          ))
    ]

-- all headers' acts

octets_front : (a b : List ℕ) → IsOctets (a ++ b) → IsOctets a
octets_front a b o = subst IsOctets (take-append_seam a b) (IsOctets-take (a ++ b) (length a) o)

octets_back : (a b : List ℕ) → IsOctets (a ++ b) → IsOctets b
octets_back a b o = subst IsOctets (drop-append_seam a b) (IsOctets-drop (a ++ b) (length a) o)

headers_have : (code : ℕ) (hs : List (List ℕ)) (i : ℕ) (act : Act) → is_function code ≡ true → code ≢ 0 → AllByRecursion (IsHeader code) hs → IsOctets (concat hs)
    → slice_get (flat_map (header_acts code) hs) i ≡ Some act → (act.code ≡ code) × (list_any (is_of_kind act) (dnp3_kinds code) ≡ true)
headers_have code [] i act f z are o here = absurd (let lt = slice_get_within [] i act here in omega (arith, lt))
headers_have code (h ∷ hs) i act f z are o here =
    let first = header_acts code h in
    let later = flat_map (header_acts code) hs in
    let inside = slice_get_within (header_acts code h ++ flat_map (header_acts code) hs) i act here in
    let got : get_or (header_acts code h ++ flat_map (header_acts code) hs) i act ≡ act = get_or_from_slice_get (header_acts code h ++ flat_map (header_acts code) hs) i act act here in
    ⊎_elim
    (λ early. header_in code h i act f z are.0 (octets_front h (concat hs) o)
    (slice_get-get_or (header_acts code h) i act early ∙ ap Some (sym (get_or_append_left (header_acts code h) (flat_map (header_acts code) hs) act i early) ∙ got)))
    (λ late. headers_have code hs (i - length (header_acts code h)) act f z are.1 (octets_back h (concat hs) o)
    (slice_get-get_or (flat_map (header_acts code) hs) (i - length (header_acts code h)) act (omega (arith, inside, late, length-append (header_acts code h) (flat_map (header_acts code) hs)))
    ∙ ap Some (sym (get_or-append_right (header_acts code h) (flat_map (header_acts code) hs) (length (header_acts code h)) i act refl late) ∙ got)))
    (cases_lt i (length (header_acts code h)))

-- headers that have no octets are none
no_headers : (code : ℕ) (hs : List (List ℕ)) → AllByRecursion (IsHeader code) hs → concat hs ≡ [] → length hs ≡ 0
no_headers code [] are e = refl
no_headers code ([] ∷ hs) are e = cc
no_headers code ((o ∷ h) ∷ hs) are e = cc

-- a code that may be without headers is neither a control's nor a write's
open_code : (code : ℕ) → takes_headers code 0 ≡ true → code ≢ 0 → (is_command code ≡ false) × (is_write code ≡ false)
open_code code t z = (grind (arith, nat_tests), grind (arith, nat_tests))

fragment_in : (f : FragmentValue) (octets : List ℕ) (r : Result (List (List ℕ)) _) (i : ℕ) (act : Act) → headers_in f.code f.objects ≡ r → IsOctets octets → SpellsRequest f octets
    → f.code ≢ 0 → slice_get (acts_in f.code r) i ≡ Some act → can_have Dnp3 act ≡ true
fragment_in f octets (Err x) i act e o spells z here = absurd (let lt = slice_get_within [] i act here in omega (arith, lt))
fragment_in f octets (Ok []) i act e o spells z here =
    let are = are_headers (length f.objects) f.code f.objects [] e in
    let none = no_headers f.code spells.headers spells.are (sym spells.objects ∙ sym are.0) in
    let neither = open_code f.code (subst (λ n. takes_headers f.code n ≡ true) none spells.taken) z in
    let is = plain_is (plain_act f.code 0) i act here in
    subst (λ a. can_have Dnp3 a ≡ true) is
    (subst (λ ks. list_any (is_of_kind (plain_act f.code 0)) ks ≡ true) (sym (named_kinds f.code spells.function z neither.0 neither.1)) (named_in f.code 0 (omega arith)))
fragment_in f octets (Ok (h ∷ hs)) i act e o spells z here =
    let are = are_headers (length f.objects) f.code f.objects (h ∷ hs) e in
    let mine : IsOctets f.objects = IsOctets-drop (f.control ∷ f.code ∷ f.objects) 2 (subst IsOctets spells.spelled o) in
    let has = headers_have f.code (h ∷ hs) i act spells.function z are.1 (subst IsOctets (sym are.0) mine) here in
    subst (λ c. list_any (is_of_kind act) (dnp3_kinds c) ≡ true) (sym has.0) has.1

pub fragment_acts_in : (act : Act) → IsOfFragment act → can_have Dnp3 act ≡ true
fragment_acts_in act (f, octets, o, spells, z, i, here) = fragment_in f octets (headers_in f.code f.objects) i act refl o spells z here
