-- A fragment in segments of at most 249 octets: `segments_of`, which stands last. IEEE 1815-2012, section 8.2.
use Rattle.std.specs.Prelude.{ℕ, zero, suc, ◌+◌, ◌*◌, ◌/◌, ◌%◌, ◌==◌, if◌then◌else◌, List, [], ◌∷◌, length, take, drop}

-- the number of segments of a fragment of len octets
abbrev pub count_of : ℕ → ℕ
count_of len = (len + 248) / 249

-- the first octet of segment i of a fragment of len octets: FIN in the last, FIR in the first, and a sequence
abbrev pub octet_of : ℕ → ℕ → ℕ → ℕ
octet_of len i seq = (if (i + 1) == count_of len then 128 else 0) + (if i == 0 then 64 else 0) + seq

-- segment i, where the sequences begin at one
abbrev pub segment_of : List ℕ → ℕ → ℕ → List ℕ
segment_of fragment start i = octet_of (length fragment) i ((start + i) % 64) ∷ take 249 (drop (249 * i) fragment)

-- the first n segments, the newest first
abbrev pub first_segments : List ℕ → ℕ → ℕ → List (List ℕ)
first_segments fragment start zero = []
first_segments fragment start (suc i) = segment_of fragment start i ∷ first_segments fragment start i

-- all segments, the newest first
abbrev pub segments_of : List ℕ → ℕ → List (List ℕ)
segments_of fragment start = first_segments fragment start (count_of (length fragment))
