-- Steps of the proof: what contracts see of the answers about a block: `answer_of`, and `block_size_value` of those about its length.
use Rattle.std.specs.Prelude.{◌≡◌, ℕ, ◌+◌, ◌≤◌, ◌<◌, Bool, List, length, slice_range}
use Rattle.cf_pcapng.specs.declared.block.BlockSize.{BlockSize}
use Rattle.cf_pcapng.specs.declared.block.BlockSize.TheVariants as size
use Rattle.cf_pcapng.specs.declared.block.WholeBlock.{WholeBlock}
use Rattle.cf_pcapng.specs.declared.block.WholeBlock.TheVariants as whole
use Rattle.cf_pcapng.specs.declared.reader.BlockAnswer.{BlockAnswer}
use Rattle.cf_pcapng.specs.declared.reader.BlockAnswer.TheVariants as answer
use Rattle.cf_pcapng.specs.Block.{Block, Begins, Describes, Found, Holds, Is, Needs, Other, Refuses, kind_at, least_length, length_at}

-- what a contract sees of an answer about the length of a block
abbrev pub block_size_value : BlockSize → Found
block_size_value (size.Size used) = Is Other used
block_size_value (size.Need count) = Needs count
block_size_value (size.Refused number) = Refuses number

-- what a contract sees of what a whole block says, of so many octets
abbrev pub whole_block_value : ℕ → WholeBlock → Found
whole_block_value used (whole.Begins big_endian) = Is (Begins big_endian) used
whole_block_value used (whole.Describes interface) = Is (Describes interface) used
whole_block_value used (whole.Holds stamp link body) = Is (Holds (record { stamp = stamp; link = link; body = body.now })) used
whole_block_value used whole.Other = Is Other used
whole_block_value used (whole.Refused number) = Refuses number

-- what a contract sees of an answer about a block
abbrev pub block_answer_value : BlockAnswer → Found
block_answer_value (answer.Record stamp link body used) = Is (Holds (record { stamp = stamp; link = link; body = body.now })) used
block_answer_value (answer.Passed used) = Is Other used
block_answer_value (answer.Need count) = Needs count
block_answer_value (answer.Refused number) = Refuses number

-- what is answered of a block that is found: a section header and an interface description are passed over like any other block
abbrev pub block_answer_of : Block → Block
block_answer_of (Holds packet) = Holds packet
block_answer_of (Begins big_endian) = Other
block_answer_of (Describes interface) = Other
block_answer_of Other = Other

abbrev pub answer_of : Found → Found
answer_of (Is block used) = Is (block_answer_of block) used
answer_of (Needs count) = Needs count
answer_of (Refuses number) = Refuses number

-- a block's length passed the first three tests
pub record IsSized (big_endian : Bool) (octets : List ℕ) (used : ℕ) : Type 0 where
  pub told : used ≡ length_at big_endian octets
  pub least : least_length (kind_at big_endian octets) ≤ used
  pub most : used ≤ 16777216

abbrev pub SizesRight : Bool → List ℕ → BlockSize → Type 0
SizesRight big_endian octets (size.Size used) = IsSized big_endian octets used
SizesRight big_endian octets (size.Need count) = Unit {0}
SizesRight big_endian octets (size.Refused number) = Unit {0}

-- an interface is described only where fewer than 64 stand before it
abbrev pub HasRoom : ℕ → WholeBlock → Type 0
HasRoom count (whole.Describes interface) = count < 64
HasRoom count (whole.Begins big_endian) = Unit {0}
HasRoom count (whole.Holds stamp link body) = Unit {0}
HasRoom count whole.Other = Unit {0}
HasRoom count (whole.Refused number) = Unit {0}

-- a block takes at least 12 octets, and at most 16,777,216
abbrev pub HasLimits : BlockSize → Type 0
HasLimits (size.Size used) = (12 ≤ used) × (used ≤ 16777216)
HasLimits (size.Need count) = Unit {0}
HasLimits (size.Refused number) = Unit {0}

-- captured octets stand in their block, from its octet 28 on
abbrev pub IsPlaced : (octets body : List ℕ) → ℕ → Type 0
IsPlaced octets body used = (body ≡ slice_range octets 28 (28 + length body)) × (28 + length body ≤ used)

abbrev pub HoldsPlaced : List ℕ → ℕ → WholeBlock → Type 0
HoldsPlaced octets used (whole.Holds stamp link body) = IsPlaced octets body.now used
HoldsPlaced octets used (whole.Begins big_endian) = Unit {0}
HoldsPlaced octets used (whole.Describes interface) = Unit {0}
HoldsPlaced octets used whole.Other = Unit {0}
HoldsPlaced octets used (whole.Refused number) = Unit {0}

-- a block takes no more than the octets that are there
abbrev pub IsInside : List ℕ → BlockAnswer → Type 0
IsInside octets (answer.Record stamp link body used) = IsPlaced octets body.now used × (12 ≤ used) × (used ≤ length octets)
IsInside octets (answer.Passed used) = (12 ≤ used) × (used ≤ length octets)
IsInside octets (answer.Need count) = Unit {0}
IsInside octets (answer.Refused number) = Unit {0}
