-- The numbers of an act of a command, and whether it has a value, by the kinds of its code.
use Rattle.std.proofs.Common.{◌≡◌, ℕ, ◌<◌, ◌≤◌, ◌==◌, ℤ, pos, int_le, nat_le, nat_lt, ◌≤ℤ◌, Bool, true, false, ◌&&◌, ◌||◌, not, if◌then◌else◌, List, [], ◌∷◌, Option, Some, None, IfSome, is_some, refl, sym, ap, subst, ◌∙◌, arith}
use mathlib.Core.Logic.{⊎_elim}
use Rattle.std.specs.List.{AllByRecursion, list_any}
use Rattle.std.proofs.lemmas.Int.{ints}
use Rattle.std.proofs.lemmas.Bool.{true≢false, and_parts, or_cases, cases_lt}
use Rattle.std.proofs.lemmas.Bool.Decides.{nat_tests}
use Rattle.cf_view.specs.declared.base.Act.{Act}
use Rattle.cf_policy.specs.declared.policy.Protocol.{Protocol}
use Rattle.cf_policy.specs.declared.policy.Protocol.TheVariants.{Modbus, Dnp3, Iec104}
use Rattle.cf_policy.specs.declared.policy.Span.{Span}
use Rattle.cf_policy.specs.Verdict.{covers}
use Rattle.cf_policy.specs.Within.{highest_group, highest_point, lowest_value, highest_value}
use Rattle.cf_acts.specs.declared.acts.Groups.{Groups}
use Rattle.cf_acts.specs.declared.acts.Groups.TheVariants as groups
use Rattle.cf_acts.specs.declared.acts.Kind.{Kind}
use Rattle.cf_acts.specs.Acts.{between, control_kind, has_group, has_value, is_of_kind, kind, kinds, modbus_kind, object_kind, signed, up_to, written_kind}
use Rattle.cf_acts.specs.Commands.{IsOfCommand}
use Rattle.cf_acts.specs.Ranges.{IsActWithin, ValuesAreSettled}
use Rattle.cf_acts.proofs.OfCommands.{command_acts_in}
use Rattle.cf_acts.proofs.Served.{kinds_end}

-- the parts of an act of a kind
group_had : (k : Kind) (act : Act) → is_of_kind act k ≡ true → has_group k.groups (pos act.group) ≡ true
group_had k act h = (and_parts (has_group k.groups (pos act.group)) _ h).0

point_had : (k : Kind) (act : Act) → is_of_kind act k ≡ true → covers k.points (pos act.point) ≡ true
point_had k act h = (and_parts (covers k.points (pos act.point)) (has_value k.values act.value) (and_parts (has_group k.groups (pos act.group)) _ h).1).0

value_had : (k : Kind) (act : Act) → is_of_kind act k ≡ true → has_value k.values act.value ≡ true
value_had k act h = (and_parts (covers k.points (pos act.point)) (has_value k.values act.value) (and_parts (has_group k.groups (pos act.group)) _ h).1).1

above : (s : Span) (n : ℤ) → covers s n ≡ true → s.low ≤ℤ n
above s n h = let both = and_parts (int_le s.low n) (int_le n s.high) h in grind (arith, ints, both.0)

below : (s : Span) (n : ℤ) → covers s n ≡ true → n ≤ℤ s.high
below s n h = let both = and_parts (int_le s.low n) (int_le n s.high) h in grind (arith, ints, both.1)

-- a kind whose numbers are in the ranges of a policy
abbrev are_groups_within : Groups → Bool
are_groups_within (groups.Span s) = int_le s.high highest_group
are_groups_within groups.Causes = true

abbrev are_values_within : Option Span → Bool
are_values_within None = true
are_values_within (Some s) = int_le lowest_value s.low && int_le s.high highest_value

abbrev is_within : Kind → Bool
is_within k = are_groups_within k.groups && (int_le k.points.high highest_point && are_values_within k.values)

le_true : (m n : ℤ) → int_le m n ≡ true → m ≤ℤ n
le_true m n h = grind (arith, ints)

le_both : (a b c : ℤ) → a ≤ℤ b → b ≤ℤ c → a ≤ℤ c
le_both a b c h k = omega (arith, ints, h, k)

group_below : (g : Groups) (n : ℕ) → are_groups_within g ≡ true → has_group g (pos n) ≡ true → pos n ≤ℤ highest_group
group_below (groups.Span s) n w h = le_both (pos n) s.high highest_group (below s (pos n) h) (le_true s.high highest_group w)
group_below groups.Causes n w h = ⊎_elim
    (λ five. le_both (pos n) (pos 5) highest_group (below (between 5 5) (pos n) five) (omega (arith, ints)))
    (λ others. ⊎_elim
    (λ six. le_both (pos n) (pos 6) highest_group (below (between 6 6) (pos n) six) (omega (arith, ints)))
    (λ eight. le_both (pos n) (pos 8) highest_group (below (between 8 8) (pos n) eight) (omega (arith, ints)))
    (or_cases (covers (between 6 6) (pos n)) (covers (between 8 8) (pos n)) others))
    (or_cases (covers (between 5 5) (pos n)) _ h)

value_within : (o : Option Span) (v : Option ℤ) → are_values_within o ≡ true → has_value o v ≡ true → IfSome v (λ n. (lowest_value ≤ℤ n) × (n ≤ℤ highest_value))
value_within o None w h = tt
value_within None (Some n) w h = absurd (true≢false (sym h))
value_within (Some s) (Some n) w h =
    let both = and_parts (int_le lowest_value s.low) (int_le s.high highest_value) w in (
      le_both lowest_value s.low n (le_true lowest_value s.low both.0) (above s n h),
      le_both n s.high highest_value (below s n h) (le_true s.high highest_value both.1),
    )

-- the ranges of an act but for its code
record IsSoFar (act : Act) : Type 0 where
  group : pos act.group ≤ℤ highest_group
  point : pos act.point ≤ℤ highest_point
  value : IfSome act.value (λ n. (lowest_value ≤ℤ n) × (n ≤ℤ highest_value))

of_kind_within : (k : Kind) (act : Act) → is_within k ≡ true → is_of_kind act k ≡ true → IsSoFar act
of_kind_within k act w h =
    let g = and_parts (are_groups_within k.groups) _ w in
    let p = and_parts (int_le k.points.high highest_point) (are_values_within k.values) g.1 in
    record {
      group = group_below k.groups act.group g.0 (group_had k act h);
      point = le_both (pos act.point) k.points.high highest_point (below k.points (pos act.point) (point_had k act h)) (le_true k.points.high highest_point p.0);
      value = value_within k.values act.value p.1 (value_had k act h);
    }

-- what holds of each kind of a list holds of the kind that an act is of
some_kind : (P : Kind → Type 0) (act : Act) (ks : List Kind) → AllByRecursion P ks → list_any (is_of_kind act) ks ≡ true → (k : Kind) × P k × (is_of_kind act k ≡ true)
some_kind P act [] all h = absurd (true≢false (sym h))
some_kind P act (k ∷ ks) all h = ⊎_elim
    (λ first. (k, all.0, first))
    (λ later. some_kind P act ks all.1 later)
    (or_cases (is_of_kind act k) (list_any (is_of_kind act) ks) h)

-- the kinds of a code, by the truth of each test of the code
abbrev modbus_by : (reads coils registers exchanges : Bool) → List Kind
modbus_by reads coils registers exchanges =
    if reads then modbus_kind 0 None ∷ [] else
    (if coils then modbus_kind 0 (Some (up_to 1)) ∷ [] else
    (if registers then modbus_kind 0 (Some (up_to 65535)) ∷ [] else
    (if exchanges then kind (groups.Span (between 1 1)) (up_to 65535) (Some (up_to 65535)) ∷ modbus_kind 0 None ∷ [] else [])))

abbrev dnp3_by : (writes controls names : Bool) → List Kind
dnp3_by writes controls names =
    if writes then written_kind 50 1 ∷ written_kind 50 3 ∷ written_kind 80 1 ∷ [] else
    (if controls then
    control_kind 12 1 1 (Some (up_to 255)) ∷ control_kind 41 1 1 (Some (signed 2147483648))
    ∷ control_kind 41 2 2 (Some (signed 32768)) ∷ control_kind 41 3 4 None ∷ []
    else
    (if names then kind (groups.Span (up_to 65535)) (up_to 0) None ∷ [] else []))

abbrev iec104_by : (bit two signed unsigned octet absent : Bool) → List Kind
iec104_by bit two sixteen unsigned octet absent =
    if bit then object_kind (Some (up_to 1)) ∷ [] else
    (if two then object_kind (Some (up_to 3)) ∷ [] else
    (if sixteen then object_kind (Some (signed 32768)) ∷ [] else
    (if unsigned then object_kind (Some (up_to 4294967295)) ∷ [] else
    (if octet then object_kind (Some (up_to 255)) ∷ [] else
    (if absent then object_kind None ∷ [] else [])))))

-- what holds whatever the tests say holds of the kinds of each code
by_tests : (P : List Kind → Type 0) → ((a b c d : Bool) → P (modbus_by a b c d)) → ((a b c : Bool) → P (dnp3_by a b c))
    → ((a b c d e f : Bool) → P (iec104_by a b c d e f)) → (p : Protocol) (code : ℕ) → P (kinds p code)
by_tests P modbus dnp3 iec104 Modbus code = modbus
    ((nat_le 1 code && nat_le code 4) || (code == 22)) ((code == 5) || (code == 15)) ((code == 6) || (code == 16)) (code == 23)
by_tests P modbus dnp3 iec104 Dnp3 code = dnp3
    (code == 2) (nat_le 3 code && nat_le code 6)
    ((code == 1) || ((nat_le 7 code && nat_le code 10) || ((code == 13) || ((code == 14) || (nat_le 20 code && nat_le code 24)))))
by_tests P modbus dnp3 iec104 Iec104 code = iec104
    ((code == 45) || (code == 58)) ((code == 46) || ((code == 47) || ((code == 59) || (code == 60))))
    ((code == 48) || ((code == 49) || ((code == 61) || ((code == 62) || ((code == 110) || (code == 111))))))
    ((code == 51) || (code == 64)) ((code == 100) || ((code == 101) || ((code == 105) || (code == 113))))
    ((code == 50) || ((code == 63) || ((code == 102) || ((code == 103) || ((code == 107) || (code == 112))))))

abbrev Within : List Kind → Type 0
Within ks = AllByRecursion (λ k. is_within k ≡ true) ks

modbus_within : (a b c d : Bool) → Within (modbus_by a b c d)
modbus_within true b c d = (refl, tt)
modbus_within false true c d = (refl, tt)
modbus_within false false true d = (refl, tt)
modbus_within false false false true = (refl, (refl, tt))
modbus_within false false false false = tt

dnp3_within : (a b c : Bool) → Within (dnp3_by a b c)
dnp3_within true b c = (refl, (refl, (refl, tt)))
dnp3_within false true c = (refl, (refl, (refl, (refl, tt))))
dnp3_within false false true = (refl, tt)
dnp3_within false false false = tt

iec104_within : (a b c d e f : Bool) → Within (iec104_by a b c d e f)
iec104_within true b c d e f = (refl, tt)
iec104_within false true c d e f = (refl, tt)
iec104_within false false true d e f = (refl, tt)
iec104_within false false false true e f = (refl, tt)
iec104_within false false false false true f = (refl, tt)
iec104_within false false false false false true = (refl, tt)
iec104_within false false false false false false = tt

kinds_within : (p : Protocol) (code : ℕ) → Within (kinds p code)
kinds_within = by_tests Within modbus_within dnp3_within iec104_within

pub act_within : (p : Protocol) (act : Act) → IsOfCommand p act → IsActWithin act
act_within p act of =
    let had = command_acts_in p act of in
    let some = some_kind (λ k. is_within k ≡ true) act (kinds p act.code) (kinds_within p act.code) had in
    let is = of_kind_within some.0 act some.1 some.2 in
    record {
      code = ⊎_elim
          (λ low. omega (arith, ints, low))
          (λ high. absurd (true≢false (sym had ∙ ap (list_any (is_of_kind act)) (kinds_end p act.code high))))
          (cases_lt act.code 256);
      group = is.group;
      point = is.point;
      value = is.value;
    }

-- kinds of acts of which the group settles whether they have a value
abbrev Follows : (ℕ → Bool) → Kind → Type 0
Follows test k = (n : ℕ) → has_group k.groups (pos n) ≡ true → is_some k.values ≡ test n

Settled : List Kind → Type 0
Settled ks = (test : ℕ → Bool) × AllByRecursion (Follows test) ks

value_is : (o : Option Span) (v : Option ℤ) → has_value o v ≡ true → is_some v ≡ is_some o
value_is None None h = refl
value_is None (Some n) h = absurd (true≢false (sym h))
value_is (Some s) None h = absurd (true≢false (sym h))
value_is (Some s) (Some n) h = refl

by_group : (test : ℕ → Bool) (ks : List Kind) → AllByRecursion (Follows test) ks → (act : Act) → list_any (is_of_kind act) ks ≡ true → is_some act.value ≡ test act.group
by_group test ks all act h =
    let some = some_kind (Follows test) act ks all h in
    value_is some.0.values act.value (value_had some.0 act some.2) ∙ some.1 act.group (group_had some.0 act some.2)

settled : (ks : List Kind) → Settled ks → (a b : Act) → list_any (is_of_kind a) ks ≡ true → list_any (is_of_kind b) ks ≡ true → a.group ≡ b.group → is_some a.value ≡ is_some b.value
unfolding Settled
settled ks s a b h k same = by_group s.0 ks s.1 a h ∙ (ap s.0 same ∙ sym (by_group s.0 ks s.1 b k))

none : Settled []
unfolding Settled
none = (λ n. false, tt)

one : (k : Kind) → Settled (k ∷ [])
unfolding Settled
one k = ((λ n. is_some k.values), ((λ n h. refl), tt))

-- the groups of a span
group_in : (low high n : ℕ) → covers (between low high) (pos n) ≡ true → (low ≤ n) × (n ≤ high)
group_in low high n h =
    let a = above (between low high) (pos n) h in let b = below (between low high) (pos n) h in (omega (arith, ints, a), omega (arith, ints, b))

early : (low high bound n : ℕ) → high < bound → covers (between low high) (pos n) ≡ true → true ≡ nat_lt n bound
early low high bound n lt h = let i = group_in low high n h in let k = i.1 in grind (arith, nat_tests, k, lt)

late : (low high bound n : ℕ) → bound ≤ low → covers (between low high) (pos n) ≡ true → false ≡ nat_lt n bound
late low high bound n le h = let i = group_in low high n h in let k = i.0 in grind (arith, nat_tests, k, le)

-- the writes of function 23 have group 1, and its reads group 0
exchanges : Settled (modbus_by false false false true)
unfolding Settled
exchanges = ((λ n. not (nat_lt n 1)), ((λ n h. ap not (late 1 1 1 n (omega arith) h)), ((λ n h. ap not (early 0 0 1 n (omega arith) h)), tt)))

modbus_settled : (a b c d : Bool) → Settled (modbus_by a b c d)
modbus_settled true b c d = one _
modbus_settled false true c d = one _
modbus_settled false false true d = one _
modbus_settled false false false true = exchanges
modbus_settled false false false false = none

written : Settled (dnp3_by true false false)
unfolding Settled
written = ((λ n. false), ((λ n h. refl), ((λ n h. refl), ((λ n h. refl), tt))))

-- the floating-point numbers of g41v3 and g41v4 are no values
controls : Settled (dnp3_by false true false)
unfolding Settled
controls = (
  (λ n. nat_lt n 10499),
  (
    (λ n h. early 3073 3073 10499 n (omega arith) h),
    (
      (λ n h. early 10497 10497 10499 n (omega arith) h),
      ((λ n h. early 10498 10498 10499 n (omega arith) h), ((λ n h. late 10499 10500 10499 n (omega arith) h), tt)),
    ),
  ),
)

dnp3_settled : (a b c : Bool) → Settled (dnp3_by a b c)
dnp3_settled true b c = written
dnp3_settled false true c = controls
dnp3_settled false false true = one _
dnp3_settled false false false = none

iec104_settled : (a b c d e f : Bool) → Settled (iec104_by a b c d e f)
iec104_settled true b c d e f = one _
iec104_settled false true c d e f = one _
iec104_settled false false true d e f = one _
iec104_settled false false false true e f = one _
iec104_settled false false false false true f = one _
iec104_settled false false false false false true = one _
iec104_settled false false false false false false = none

kinds_settled : (p : Protocol) (code : ℕ) → Settled (kinds p code)
kinds_settled = by_tests Settled modbus_settled dnp3_settled iec104_settled

pub values_settled : ValuesAreSettled
values_settled p a b of_a of_b code group =
    settled (kinds p a.code) (kinds_settled p a.code) a b (command_acts_in p a of_a)
    (subst (λ c. list_any (is_of_kind b) (kinds p c) ≡ true) (sym code) (command_acts_in p b of_b)) group
