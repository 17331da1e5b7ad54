-- What a request does: `acts`. This project's own reduction to code, group and variation, index and value; the objects are those of
-- IEEE 1815-2012, annex A.
use Rattle.std.specs.Prelude.{◌≡◌, ℕ, ◌+◌, ◌-◌, ◌*◌, ◌^◌, ◌<◌, ◌≤◌, nat_lt, if◌then◌else◌, List, [], ◌∷◌, map, slice_index, Option, Some, None, Result, Ok}
use Rattle.std.specs.Prelude.{Err, ℤ, pos, ◌-ℤ◌, drop, get_or, length, slice_get}
use Rattle.std.specs.List.{flat_map, range_with_len, sum_by}
use Rattle.cf_dnpobj.specs.declared.marks.Mark.{Mark}
use Rattle.cf_view.specs.Octets.{u16_le_at, u32_le_at}
use Rattle.cf_view.specs.declared.Act.{Act}
use Rattle.cf_dnpobj.specs.declared.fragment.FragmentRefusal.{FragmentRefusal}
use Rattle.cf_dnpobj.specs.declared.object.Layout.{Layout}
use Rattle.cf_dnpobj.specs.Objects.{is_command, is_object, layout_of, width, range_size, objects_size}
use Rattle.cf_dnpobj.specs.Headers.{number_at, count_of, headers_in}
use Rattle.cf_dnpobj.specs.Fragment.{FragmentValue}

-- the octets of one object with its index
abbrev pub each_by : Option Layout → ℕ → ℕ
each_by None q = 0
each_by (Some l) q = objects_size l q 1

-- the octets of one object with its index, in a header of a request with this code
abbrev pub each : ℕ → List ℕ → ℕ
each code h = each_by (layout_of code (slice_index h 0) (slice_index h 1)) (slice_index h 2)

-- group × 256 + variation
abbrev pub group_of : List ℕ → ℕ
group_of h = slice_index h 0 * 256 + slice_index h 1

-- a number of so many bits, of two's complement
abbrev pub signed : ℕ → ℕ → ℤ
signed bits n = if nat_lt n (2 ^ (bits - 1)) then pos n else pos n -ℤ pos (2 ^ bits)

-- the value of the object at a place: the control code of g12v1, the number of g41v1 (32 bits) and g41v2 (16 bits), and none
-- of g41v3 and g41v4, which are floating-point numbers
abbrev pub value_at : List ℕ → ℕ → Option ℤ
value_at h place =
    if is_object (slice_index h 0) (slice_index h 1) 12 1 then Some (pos (slice_index h place)) else
    (if is_object (slice_index h 0) (slice_index h 1) 41 1 then Some (signed 32 (u32_le_at h place)) else
    (if is_object (slice_index h 0) (slice_index h 1) 41 2 then Some (signed 16 (u16_le_at h place)) else None))

-- the octets of this value
abbrev pub value_size : List ℕ → ℕ
value_size h =
    if is_object (slice_index h 0) (slice_index h 1) 12 1 then 1 else
    (if is_object (slice_index h 0) (slice_index h 1) 41 1 then 4 else
    (if is_object (slice_index h 0) (slice_index h 1) 41 2 then 2 else 0))

-- the place at which object i of a header begins, with its index
abbrev pub object_place : ℕ → List ℕ → ℕ → ℕ
object_place code h i = 3 + range_size (slice_index h 2) + i * each code h

-- the act of object i of a command's header: its point is the index
abbrev pub object_act : ℕ → List ℕ → ℕ → Act
object_act code h i =
    let w = width (slice_index h 2) in
    let place = object_place code h i in
    record { code = code; group = group_of h; point = number_at w h place; value = value_at h (place + w) }

-- an act without index and value
abbrev pub plain_act : ℕ → ℕ → Act
plain_act code group = record { code = code; group = group; point = 0; value = None }

-- what a header does: that of a command has an act for each object, every other one has one
abbrev pub header_acts : ℕ → List ℕ → List Act
header_acts code h =
    if is_command code then map (object_act code h) (range_with_len 0 (count_of h)) else plain_act code (group_of h) ∷ []

-- the number of these acts
abbrev pub header_count : ℕ → List ℕ → ℕ
header_count code h = if is_command code then count_of h else 1

-- what all headers do; one act where there is none
abbrev pub acts_by : ℕ → List (List ℕ) → List Act
acts_by code [] = plain_act code 0 ∷ []
acts_by code (h ∷ hs) = flat_map (header_acts code) (h ∷ hs)

-- what faulty headers do is nothing
abbrev pub acts_in : ℕ → Result (List (List ℕ)) FragmentRefusal → List Act
acts_in code (Ok hs) = acts_by code hs
acts_in code (Err e) = []

-- the acts of a request, in the order of its octets
abbrev pub acts : FragmentValue → List Act
acts f = acts_in f.code (headers_in f.code f.objects)

-- the number of the acts of headers
abbrev pub summed : ℕ → Result (List (List ℕ)) FragmentRefusal → Result ℕ FragmentRefusal
summed code (Ok hs) = Ok (sum_by (header_count code) hs)
summed code (Err e) = Err e

-- a mark of act i: where all headers are whole, those from a place on are, and act i is act left of these
abbrev pub LeavesActs : ℕ → List ℕ → ℕ → ℕ → ℕ → Type 0
LeavesActs code xs i place left =
    (headers : List (List ℕ)) → headers_in code xs ≡ Ok headers →
    (later : List (List ℕ)) × (headers_in code (drop place xs) ≡ Ok later) × (slice_get (flat_map (header_acts code) headers) i ≡ slice_get (flat_map (header_acts code) later) left)

-- a mark of act i and of each later one
abbrev pub LeavesAll : ℕ → List ℕ → ℕ → ℕ → ℕ → Type 0
LeavesAll code xs i place left = (n : ℕ) → LeavesActs code xs (i + n) place (left + n)

-- a mark at the front of the headers
abbrev pub first_mark : Mark
first_mark = record { at = 0; left = 0 }

-- a mark tells where act i stands: behind which headers, and after how many of the acts that follow these
pub record IsMark (code : ℕ) (xs : List ℕ) (i : ℕ) (m : Mark) : Type 0 where
  pub inside : m.at ≤ length xs
  pub small : m.left ≤ i
  pub leaves : LeavesAll code xs i m.at m.left

-- the first of the marks tell where each sixteenth act stands
abbrev pub AreMarksTo : ℕ → List ℕ → ℕ → List Mark → Type 0
AreMarksTo code xs count marks = (j : ℕ) → j < count → IsMark code xs (16 * j) (get_or marks j first_mark)

-- marks of a request that hold, each
abbrev pub AreMarks : FragmentValue → List Mark → Type 0
AreMarks f marks = AreMarksTo f.code f.objects 44 marks
