-- Which letters a receiver takes of what it was offered: first_copy and IsTaken.
--
-- RFC 9293, section 3.10.7.4, keeps of a segment what lies in the window, and of one that straddles what is old and
-- what is new only the new part. That a letter which came ahead of its turn is never replaced either is this project's
-- own choice.
use Rattle.std.specs.Prelude.{◌≡◌, ℕ, ◌<◌, nat_lt, true, false, if◌then◌else◌, List, [], ◌∷◌, length, slice_index, Option, Some, None, ℤ}
use Rattle.std.specs.Option.{option_or}
use Rattle.cf_stream.specs.Stream.{Stream, Letter, Byte, End, letter_from}

-- a text that was offered from a position on, with or without End, when letters below the edge were let in
pub record Offer : Type 0 where
  pub at : ℤ
  pub text : Stream
  pub edge : ℕ

-- the letter that it offers for place p
abbrev pub offered : Offer → ℕ → Option Letter
offered o p = if nat_lt p o.edge then letter_from o.at o.text p else None

-- the letter at place p in the earliest of the offers that has one there. The newest offer stands first
abbrev pub first_copy : List Offer → ℕ → Option Letter
first_copy [] p = None
first_copy (o ∷ earlier) p = option_or (first_copy earlier p) (offered o p)

-- the letters at 0, 1, 2 and so on, up to the first place without one, or up to and including End
pub record IsTaken (copy : ℕ → Option Letter) (s : Stream) : Type 0 where
  pub bytes : (p : ℕ) → p < length s.bytes → copy p ≡ Some (Byte (slice_index s.bytes p))
  pub ended : s.ended ≡ true → copy (length s.bytes) ≡ Some End
  pub unfinished : s.ended ≡ false → copy (length s.bytes) ≡ None
