-- What is read of a stored stream, piece by piece: `HasStream`.
use Rattle.std.specs.Prelude.{◌≡◌, ℕ, List, []}
use Rattle.cf_outside.specs.Files.{Content, untold, absent, holds}

-- the stream in a file is these bytes, as far as it is told; a file that is not there has none
abbrev pub HasStream : Content → List ℕ → Type 0
HasStream untold bytes = Unit {0}
HasStream absent bytes = bytes ≡ []
HasStream (holds all) bytes = bytes ≡ all
