-- Moments of records and of timers, in microseconds: below 2^32 seconds, as the 32 bits of seconds of a classic capture hold them.
-- The main definition is `moment_limit`.
use Rattle.std.specs.Prelude.{ℕ, ◌*◌, ◌^◌}

-- the first moment that is too late
abbrev pub moment_limit : ℕ
moment_limit = 2 ^ 32 * 1000000
