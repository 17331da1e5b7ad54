-- When a stream has grown too long: limit_cut.
use Rattle.cf_audit.specs.declared.line.CutReason.{CutReason}
use Rattle.cf_lane.specs.History.{Element, taken}
use Rattle.cf_stream.specs.Stream.{Stream, letter_count}
use Rattle.std.specs.Prelude.{Bool, List, None, Option, Some, if◌then◌else◌, nat_le, ℕ, ◌||◌}
use Rattle.cf_audit.specs.declared.line.CutReason.TheVariants as reason
use Rattle.cf_view.specs.declared.Side.TheVariants as side

-- the limit by the numbers of the letters taken of the two sides, and of those of the two streams
abbrev pub limit_by : (limit client controller to_client to_controller : ℕ) → Option CutReason
limit_by limit client controller to_client to_controller =
    if nat_le limit client || nat_le limit to_client then Some (reason.StreamLength side.Client)
    else if nat_le limit controller || nat_le limit to_controller then Some (reason.StreamLength side.Controller)
    else None

-- a stream has as many letters as the limit, End counted
abbrev pub is_full : (limit : ℕ) → Stream → Bool
is_full limit stream = nat_le limit (letter_count stream)

-- the limit of what was taken of the client and of the stream to the client, if one of them is full, or else of the controller's two
abbrev pub limit_cut : (limit : ℕ) → List Element → (to_client to_controller : Stream) → Option CutReason
limit_cut limit history to_client to_controller =
    if is_full limit (taken side.Client history) || is_full limit to_client then Some (reason.StreamLength side.Client)
    else if is_full limit (taken side.Controller history) || is_full limit to_controller then Some (reason.StreamLength side.Controller)
    else None
