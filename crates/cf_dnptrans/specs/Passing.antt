-- Fragments that are sent one after the other, and what is put together from the first of their segments: `PutTogether`, which stands last.
use Rattle.std.specs.Prelude.{◌≡◌, ℕ, zero, suc, ◌+◌, ◌-◌, ◌*◌, ◌<◌, ◌≤◌, List, [], ◌∷◌, ◌++◌, length, take, reverse, replicate, Option}
use Rattle.std.specs.Prelude.{Some, None}
use Rattle.std.specs.List.{flat_map}
use Rattle.cf_dnptrans.specs.declared.assembly.SegmentAnswer.{SegmentAnswer}
use Rattle.cf_dnptrans.specs.declared.assembly.SegmentAnswer.TheVariants as answer_
use Rattle.cf_dnptrans.specs.Segments.{count_of, first_segments, segments_of}
use Rattle.cf_dnptrans.specs.Transport.{answer_to, last_fragment, unfinished}

-- a fragment that is sent
abbrev pub IsSent : List ℕ → Type 0
IsSent fragment = (2 ≤ length fragment) × (length fragment ≤ 2048)

-- the segments of fragments in the order in which they go out; the sequences count on from one fragment to the next
abbrev pub all_segments : ℕ → List (List ℕ) → List (List ℕ)
all_segments start [] = []
all_segments start (f ∷ later) = reverse (segments_of f start) ++ all_segments (start + count_of (length f)) later

-- the answers to segments one after the other; the earlier ones are a list with the newest first
abbrev pub answers_to : List (List ℕ) → List (List ℕ) → List SegmentAnswer
answers_to earlier [] = []
answers_to earlier (s ∷ later) = answer_to earlier s ∷ answers_to (s ∷ earlier) later

-- the fragment that was completed, where the answer says that one was
abbrev pub completed : SegmentAnswer → Option (List ℕ) → List (List ℕ)
completed answer_.Whole (Some fragment) = fragment ∷ []
completed _ _ = []

-- the fragments that segments complete, in order
abbrev pub fragments_of : List (List ℕ) → List (List ℕ) → List (List ℕ)
fragments_of earlier [] = []
fragments_of earlier (s ∷ later) = completed (answer_to earlier s) (last_fragment (s ∷ earlier)) ++ fragments_of (s ∷ earlier) later

-- what a fragment's segments are answered: all but the last lengthen it
abbrev pub answers_for : List ℕ → List SegmentAnswer
answers_for f = replicate (count_of (length f) - 1) answer_.More ++ answer_.Whole ∷ []

-- the first n segments of the next fragment, without its last one
abbrev pub AreOfNext : ℕ → List (List ℕ) → ℕ → List (List ℕ) → Type 0
AreOfNext start [] n segments = (n ≡ 0) × (segments ≡ [])
AreOfNext start (f ∷ later) n segments = (n < count_of (length f)) × (segments ≡ reverse (first_segments f start n))

-- what the first n segments of the next fragment hold of it
abbrev pub held : ℕ → List (List ℕ) → Option (List ℕ)
held zero later = None
held (suc n) [] = None
held (suc n) (f ∷ later) = Some (take (249 * suc n) f)

-- After earlier ones, the first of the segments of fragments are put together to the first of these fragments, those whose
-- last segment is among them, in order. At most one more is unfinished.
pub record PutTogether (earlier : List (List ℕ)) (start : ℕ) (fragments segments : List (List ℕ)) : Type 0 where
  pub whole : List (List ℕ)
  pub later : List (List ℕ)
  pub first : fragments ≡ whole ++ later
  -- the segments are those of the whole fragments, and then some first ones of the next
  pub count : ℕ
  pub some : List (List ℕ)
  pub are : segments ≡ all_segments start whole ++ some
  pub next : AreOfNext (start + length (all_segments start whole)) later count some
  -- no other answer than for a fragment's last segment is that it is whole, and none is dropped
  pub answered : answers_to earlier segments ≡ flat_map answers_for whole ++ replicate count answer_.More
  pub makes : fragments_of earlier segments ≡ whole
  pub leaves : unfinished (reverse segments ++ earlier) ≡ held count later
