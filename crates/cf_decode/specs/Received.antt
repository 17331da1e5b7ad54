-- What a receiver makes of units by the transport rule of DNP3: the main definition is `received`, which stands last.
-- IEEE 1815-2012, section 8.2.
use Rattle.cf_decode.specs.Units.{Addresses, Fragment, Passed, Whole, same_addresses}
use Rattle.cf_dnplink.specs.LinkFrame.{FrameValue}
use Rattle.cf_dnplink.specs.UserOctets.{user_of}
use Rattle.cf_dnptrans.specs.Passing.{completed}
use Rattle.cf_dnptrans.specs.Transport.{answer_to, last_fragment}
use Rattle.cf_lane.specs.Dnp3.{is_data}
use Rattle.cf_lane.specs.Unit.{Adu, Apdu, Frame, UnitValue}
use Rattle.std.specs.Prelude.{Bool, List, [], false, if◌then◌else◌, map, ℕ, ◌&&◌, ◌++◌, ◌∷◌}

-- a data frame of DNP3
abbrev pub has_segment : UnitValue → Bool
has_segment (Adu a) = false
has_segment (Frame f) = is_data f
has_segment (Apdu a) = false

-- the addresses of a frame from a master: DEST is the station's, and SOURCE its own
abbrev pub addresses_in : FrameValue → Addresses
addresses_in f = record { station = f.dest; master = f.source }

-- a data frame between two addresses
abbrev pub is_between : Addresses → UnitValue → Bool
is_between to (Adu a) = false
is_between to (Frame f) = is_data f && same_addresses (addresses_in f) to
is_between to (Apdu a) = false

-- the segment of a unit
abbrev pub segment_in : UnitValue → List ℕ
segment_in (Adu a) = []
segment_in (Frame f) = user_of f.blocks
segment_in (Apdu a) = []

-- the segments between two addresses in units, in their order
abbrev pub segments_in : Addresses → List UnitValue → List (List ℕ)
segments_in to [] = []
segments_in to (u ∷ later) = if is_between to u then segment_in u ∷ segments_in to later else segments_in to later

-- the fragment that a segment completes after the earlier ones, the newest first, if one
abbrev pub completed_by : List (List ℕ) → List ℕ → List (List ℕ)
completed_by earlier segment = completed (answer_to earlier segment) (last_fragment (segment ∷ earlier))

-- what is made of a unit after earlier ones, the newest first: of a data frame the fragment that its segment completes after the earlier
-- segments between its addresses, if one, and every other unit stays itself
abbrev pub made_of : List UnitValue → UnitValue → List Passed
made_of earlier (Adu a) = Whole (Adu a) ∷ []
made_of earlier (Frame f) =
    if is_data f then map (Fragment (addresses_in f)) (completed_by (segments_in (addresses_in f) earlier) (user_of f.blocks))
    else Whole (Frame f) ∷ []
made_of earlier (Apdu a) = Whole (Apdu a) ∷ []

-- what is made of units, one after the other
abbrev pub received : List UnitValue → List UnitValue → List Passed
received earlier [] = []
received earlier (u ∷ later) = made_of earlier u ++ received (u ∷ earlier) later
