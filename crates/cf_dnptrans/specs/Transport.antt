-- The transport function of DNP3, `answer_to`: the first octet of a segment has FIN 80, FIR 40 and a sequence of six bits; application
-- octets follow. IEEE 1815-2012, section 8.2. That a repeat is dropped, and the limit of 2,048 octets, are this project's own.
--
-- The segments of a side so far are a list, the newest first. Each is the list of its octets. The main definitions are
-- `answer_to` (what becomes of the next segment), `last_fragment` and `unfinished`.
use Rattle.std.specs.Prelude.{ℕ, ◌+◌, ◌/◌, ◌%◌, ◌==◌, ◌&&◌, nat_le, Bool, false, not, if◌then◌else◌, List, [], ◌∷◌, ◌++◌, length, drop}
use Rattle.std.specs.Prelude.{slice_index, Option, Some, None}
use Rattle.cf_dnptrans.specs.declared.assembly.SegmentAnswer.{SegmentAnswer}
use Rattle.cf_dnptrans.specs.declared.assembly.SegmentAnswer.TheVariants as answer_
use Rattle.cf_dnptrans.specs.declared.assembly.DropReason.TheVariants as drop_

-- FIN, FIR and the sequence
abbrev pub is_final : List ℕ → Bool
is_final s = nat_le 128 (slice_index s 0)

-- the bit FIR of a segment
abbrev pub is_first : List ℕ → Bool
is_first s = slice_index s 0 / 64 % 2 == 1

-- the sequence number of a segment, from 0 to 63
abbrev pub sequence : List ℕ → ℕ
sequence s = slice_index s 0 % 64

-- the segments from the last one with FIR on, without those that have no octet
abbrev pub since_first : List (List ℕ) → List (List ℕ)
since_first [] = []
since_first ([] ∷ earlier) = since_first earlier
since_first ((o ∷ os) ∷ earlier) = if is_first (o ∷ os) then (o ∷ os) ∷ [] else (o ∷ os) ∷ since_first earlier

-- the application octets of segments, in the order in which they came
abbrev pub octets_of : List (List ℕ) → List ℕ
octets_of [] = []
octets_of (s ∷ earlier) = octets_of earlier ++ drop 1 s

-- the oldest one has FIR, each later one the next sequence, modulo 64, and no earlier one FIN
abbrev pub is_linked : List (List ℕ) → Bool
is_linked [] = false
is_linked (s ∷ []) = is_first s
is_linked (s ∷ t ∷ earlier) = not (is_final t) && ((sequence s == (sequence t + 1) % 64) && is_linked (t ∷ earlier))

-- a fragment of at most 2,048 octets
abbrev pub fitting : List ℕ → Option (List ℕ)
fitting octets = if nat_le (length octets) 2048 then Some octets else None

-- the fragment that linked segments make, whole or not; and the one that they make and that is not whole
abbrev pub made_of : List (List ℕ) → Option (List ℕ)
made_of run = if is_linked run then fitting (octets_of run) else None

-- the fragment that they make where the newest one has no FIN, so that it is not whole
abbrev pub left_of : List (List ℕ) → Option (List ℕ)
left_of [] = None
left_of (s ∷ run) = if is_final s then None else made_of (s ∷ run)

-- the sequence number of the newest segment of a run
abbrev pub sequence_of : List (List ℕ) → ℕ
sequence_of [] = 0
sequence_of (s ∷ run) = sequence s

-- the fragment that the last segment is of, whole or not
abbrev pub last_fragment : List (List ℕ) → Option (List ℕ)
last_fragment segments = made_of (since_first segments)

-- the fragment that is begun and not whole
abbrev pub unfinished : List (List ℕ) → Option (List ℕ)
unfinished segments = left_of (since_first segments)

-- the sequence of the last segment that has an octet
abbrev pub last_sequence : List (List ℕ) → ℕ
last_sequence segments = sequence_of (since_first segments)

-- a segment whose fragment then has these octets
abbrev pub added : List ℕ → List ℕ → SegmentAnswer
added octets s =
    if nat_le (length octets) 2048 then (if is_final s then answer_.Whole else answer_.More)
    else answer_.Dropped drop_.TooLong

-- a segment with no FIR, after what is unfinished and its last sequence
abbrev pub continued : Option (List ℕ) → ℕ → List ℕ → SegmentAnswer
continued None last s = answer_.Dropped drop_.NoFirst
continued (Some octets) last s =
    if sequence s == (last + 1) % 64 then added (octets ++ drop 1 s) s else answer_.Dropped drop_.Order

-- what becomes of a segment
abbrev pub answer_of : Option (List ℕ) → ℕ → List ℕ → SegmentAnswer
answer_of before last [] = answer_.Dropped drop_.Empty
answer_of before last (o ∷ os) =
    if is_first (o ∷ os) then added os (o ∷ os) else continued before last (o ∷ os)

-- what becomes of a segment after the earlier ones
abbrev pub answer_to : List (List ℕ) → List ℕ → SegmentAnswer
answer_to earlier s = answer_of (unfinished earlier) (last_sequence earlier) s
