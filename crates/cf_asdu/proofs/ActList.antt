-- How many acts an ASDU has, and which is at each place.
use Rattle.std.proofs.Common.{◌≡◌, ℕ, ◌+◌, ◌*◌, ◌<◌, ◌≤◌, ◌==◌, not, true, false, Bool, if◌then◌else◌, length, map, Option, Some, None, refl, sym, ap, ◌∙◌, arith, slice_get}
use Rattle.std.proofs.Math.Nat.{mul-le-mul_right}
use Rattle.std.specs.List.{range_with_len}
use Rattle.std.specs.Prelude.{is_some}
use Rattle.std.proofs.lemmas.List.FromFn.{length-map-range_with_len, get_or-map-range_with_len}
use Rattle.std.proofs.lemmas.Option.{slice_get-get_or}
use Rattle.std.proofs.lemmas.Bool.{false≢true}
use Rattle.std.proofs.lemmas.Bool.Decides.{nat_tests}
use Rattle.cf_asdu.specs.declared.element.Element.{Element}
use Rattle.cf_asdu.specs.declared.element.Number.TheVariants as numbers
use Rattle.cf_asdu.specs.declared.asdu.AsduRefusal.{AsduRefusal}
use Rattle.cf_asdu.specs.declared.asdu.AsduRefusal.TheVariants as refusals
use Rattle.cf_asdu.specs.Asdu.{AsduValue, IsRead, has_objects, is_command_cause}
use Rattle.cf_asdu.specs.Acts.{acts, acts_by, act_of}
use Rattle.cf_asdu.specs.Types.{element, with_time, element_of, number_octets}

-- the tests, each by its truth
by_truths : Bool → Bool → Bool → Option AsduRefusal
by_truths known shape cause =
    if not known then Some refusals.Kind else (if not shape then Some refusals.Shape else (if not cause then Some refusals.Cause else None))

all_hold : (known shape cause : Bool) → by_truths known shape cause ≡ None → (known ≡ true) × (shape ≡ true)
unfolding by_truths
all_hold true true cause e = (refl, refl)
all_hold true false cause e = absurd (false≢true (sym (ap is_some e)))
all_hold false shape cause e = absurd (false≢true (sym (ap is_some e)))

shaped : (a : AsduValue) (e : Element) → has_objects (Some e) a ≡ true →
    (1 ≤ a.number) × (a.number ≤ 127) × (length a.objects ≡ a.number * (3 + e.octets))
shaped a e h = grind (arith, nat_tests)

pub objects_there : (a : AsduValue) → IsRead a → has_objects (element_of a.kind) a ≡ true
unfolding by_truths
objects_there a (octets, (s, l, e)) = (all_hold (is_some (element_of a.kind)) (has_objects (element_of a.kind) a) (is_command_cause a.cause) e).1

count_by_element : (o : Option Element) (a : AsduValue) → has_objects o a ≡ true → length (acts_by o a) ≡ a.number
count_by_element None a h = absurd (false≢true h)
count_by_element (Some e) a h = length-map-range_with_len (act_of a e) 0 a.number

-- there is one act for each object
pub count_of_acts : (a : AsduValue) → IsRead a → length (acts a) ≡ a.number
unfolding acts
count_of_acts a read = count_by_element (element_of a.kind) a (objects_there a read)

limits_by_element : (o : Option Element) (a : AsduValue) → has_objects o a ≡ true → (1 ≤ a.number) × (a.number ≤ 127)
limits_by_element None a h = absurd (false≢true h)
limits_by_element (Some e) a h = (let s = shaped a e h in (s.0, s.1))

pub count_limits : (a : AsduValue) → IsRead a → (1 ≤ a.number) × (a.number ≤ 127)
count_limits a read = limits_by_element (element_of a.kind) a (objects_there a read)

-- a type is known where an ASDU was read
pub no_element : (a : AsduValue) → IsRead a → element_of a.kind ≡ None → ⊥
no_element a read e =
    let h : has_objects None a ≡ true = rw e at (objects_there a read) in
    false≢true h

-- of an element that is known
pub objects_fit : (a : AsduValue) (e : Element) → IsRead a → element_of a.kind ≡ Some e → length a.objects ≡ a.number * (3 + e.octets)
objects_fit a e read known =
    let h : has_objects (Some e) a ≡ true = rw known at (objects_there a read) in
    (shaped a e h).2

pub act_there : (a : AsduValue) (e : Element) (i : ℕ) → element_of a.kind ≡ Some e → i < a.number → slice_get (acts a) i ≡ Some (act_of a e i)
unfolding acts
act_there a e i known h =
    rw known
    (slice_get-get_or (map (act_of a e) (range_with_len 0 a.number)) i (act_of a e i) (omega (arith, length-map-range_with_len (act_of a e) 0 a.number))
    ∙ ap Some (get_or-map-range_with_len (act_of a e) 0 a.number i i (act_of a e i) h (omega arith)))

-- the number of an element of a type lies in the element
Fits : Option Element → Type 0
Fits None = Unit {0}
Fits (Some e) = number_octets e.number ≤ e.octets

fits_if : (b : Bool) (o p : Option Element) → Fits o → Fits p → Fits (if b then o else p)
fits_if true o p f g = f
fits_if false o p f g = g

each_fits : (kind : ℕ) → Fits (element_of kind)
unfolding Fits
each_fits kind =
    fits_if (kind == 45) (element 1 numbers.Bit) _ (omega arith) (
    fits_if (kind == 46) (element 1 numbers.TwoBits) _ (omega arith) (
    fits_if (kind == 47) (element 1 numbers.TwoBits) _ (omega arith) (
    fits_if (kind == 48) (element 3 numbers.Signed) _ (omega arith) (
    fits_if (kind == 49) (element 3 numbers.Signed) _ (omega arith) (
    fits_if (kind == 50) (element 5 numbers.Absent) _ (omega arith) (
    fits_if (kind == 51) (element 4 numbers.Unsigned) _ (omega arith) (
    fits_if (kind == 58) (with_time 1 numbers.Bit) _ (omega arith) (
    fits_if (kind == 59) (with_time 1 numbers.TwoBits) _ (omega arith) (
    fits_if (kind == 60) (with_time 1 numbers.TwoBits) _ (omega arith) (
    fits_if (kind == 61) (with_time 3 numbers.Signed) _ (omega arith) (
    fits_if (kind == 62) (with_time 3 numbers.Signed) _ (omega arith) (
    fits_if (kind == 63) (with_time 5 numbers.Absent) _ (omega arith) (
    fits_if (kind == 64) (with_time 4 numbers.Unsigned) _ (omega arith) (
    fits_if (kind == 100) (element 1 numbers.Octet) _ (omega arith) (
    fits_if (kind == 101) (element 1 numbers.Octet) _ (omega arith) (
    fits_if (kind == 102) (element 0 numbers.Absent) _ (omega arith) (
    fits_if (kind == 103) (element 7 numbers.Absent) _ (omega arith) (
    fits_if (kind == 105) (element 1 numbers.Octet) _ (omega arith) (
    fits_if (kind == 107) (with_time 2 numbers.Absent) _ (omega arith) (
    fits_if (kind == 110) (element 3 numbers.Signed) _ (omega arith) (
    fits_if (kind == 111) (element 3 numbers.Signed) _ (omega arith) (
    fits_if (kind == 112) (element 5 numbers.Absent) _ (omega arith) (
    fits_if (kind == 113) (element 1 numbers.Octet) _ (omega arith) (
    tt))))))))))))))))))))))))

number_fits : (kind : ℕ) (e : Element) → element_of kind ≡ Some e → number_octets e.number ≤ e.octets
unfolding Fits
number_fits kind e known = rw known at (each_fits kind)

-- object i lies in the objects
pub object_inside : (a : AsduValue) (e : Element) (i : ℕ) → IsRead a → element_of a.kind ≡ Some e → i < a.number →
    i * (3 + e.octets) + 3 + e.octets ≤ length a.objects
object_inside a e i read known h =
    let fits = objects_fit a e read known in
    let more : (i + 1) * (3 + e.octets) ≤ a.number * (3 + e.octets) = mul-le-mul_right (3 + e.octets) (omega (arith, h)) in
    omega (arith, fits, more)

pub number_inside : (a : AsduValue) (e : Element) (i : ℕ) → IsRead a → element_of a.kind ≡ Some e → i < a.number →
    i * (3 + e.octets) + 3 + number_octets e.number ≤ length a.objects
number_inside a e i read known h = omega (arith, object_inside a e i read known h, number_fits a.kind e known)
