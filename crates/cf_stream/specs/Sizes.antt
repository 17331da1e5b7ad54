-- How many letters of a stream may wait: `window_size`. This project's own choice.
use Rattle.std.specs.Prelude.{ℕ}

-- the number of letters that a TCP end lets in at most, its greatest window; and of those of a stream that may wait for an
-- acknowledgment, or in a queue, where its side is still to send more
abbrev pub window_size : ℕ
window_size = 16384
