-- The options of a block: options_of, and what they say of the unit of time: resolution_of. draft-ietf-opsawg-pcapng,
-- section 3.5; that an option which passes the end ends the list is this project's own.
use Rattle.std.specs.Prelude.{◌≡◌, ℕ, zero, suc, ◌+◌, ◌*◌, ◌/◌, ◌==◌, ◌&&◌, nat_lt, Bool, if◌then◌else◌, List, [], ◌∷◌, length, drop}
use Rattle.std.specs.Prelude.{slice_index, slice_range, Option, Some, None}
use Rattle.cf_pcap.specs.Header.{u16_at}
use Rattle.cf_pcapng.specs.declared.options.BlockOption.{BlockOption}

-- what a contract sees of an option of a block: its code and its value
pub record BlockOptionValue : Type 0 where
  pub code : ℕ
  pub value : List ℕ

-- a number of octets, padded to whole groups of four
abbrev pub padded : ℕ → ℕ
padded count = (count + 3) / 4 * 4

-- the option that begins the octets, and how many of them it takes: its code and its length, two octets each, and its padded value.
-- There is none where its code is 0, and none where it passes the end
abbrev pub first_option : Bool → List ℕ → Option (BlockOptionValue × ℕ)
first_option big_endian octets =
    let count = u16_at big_endian octets 2 in
    let size = 4 + padded count in
    if nat_lt (length octets) 4 then None
    else if u16_at big_endian octets 0 == 0 then None
    else if nat_lt (length octets) size then None
    else Some (record { code = u16_at big_endian octets 0; value = slice_range octets 4 (4 + count) }, size)

-- an option, and those after it
abbrev pub with_first : Option (BlockOptionValue × ℕ) → (ℕ → List BlockOptionValue) → List BlockOptionValue
with_first None behind = []
with_first (Some (option, size)) behind = option ∷ behind size

-- options that follow each other from the front, and after which there is none
abbrev pub AreOptions : Bool → List ℕ → List BlockOptionValue → Type 0
AreOptions big_endian octets [] = first_option big_endian octets ≡ None
AreOptions big_endian octets (option ∷ options) =
    (size : ℕ) × (first_option big_endian octets ≡ Some (option, size)) × AreOptions big_endian (drop size octets) options

-- the options that are found from the front; octets have no more options than octets
abbrev pub options_within : (count : ℕ) → Bool → List ℕ → List BlockOptionValue
options_within zero big_endian octets = []
options_within (suc count) big_endian octets = with_first (first_option big_endian octets)
    (λ size. options_within count big_endian (drop size octets))

-- the options in these octets, up to the end of the list
abbrev pub options_of : Bool → List ℕ → List BlockOptionValue
options_of big_endian octets = options_within (length octets) big_endian octets

-- the octets have one list of options
abbrev pub HaveOneListOfOptions : Type 0
HaveOneListOfOptions =
    (big_endian : Bool) (octets : List ℕ) → AreOptions big_endian octets (options_of big_endian octets) ×
    ((options : List BlockOptionValue) → AreOptions big_endian octets options → options ≡ options_of big_endian octets)

-- what the options say of the unit of time: the octet of the first one with code 9 and a value of one octet. Without one it is 6, which
-- stands for microseconds
abbrev pub resolution_of : List BlockOptionValue → ℕ
resolution_of [] = 6
resolution_of (option ∷ options) =
    if (option.code == 9) && (length option.value == 1) then slice_index option.value 0 else resolution_of options

-- an option that was read, and how many octets it takes
abbrev pub block_option_value : BlockOption → BlockOptionValue × ℕ
block_option_value option = (record { code = option.code; value = option.value.now }, option.size)
