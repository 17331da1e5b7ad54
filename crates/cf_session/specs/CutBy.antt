-- Steps of the proof: why a session is cut, by what it has in memory: `cut_by`.
use Rattle.std.specs.Prelude.{Bool, true, false, if◌then◌else◌, Option, None, Some}
use Rattle.std.specs.Option.{option_or}
use Rattle.cf_audit.specs.declared.CutReason.{CutReason}
use Rattle.cf_audit.specs.declared.CutReason.TheVariants as reason
use Rattle.cf_leg.specs.declared.ClockAnswer.{ClockAnswer}
use Rattle.cf_leg.specs.declared.ClockAnswer.TheVariants as clock
use Rattle.cf_view.specs.declared.Side.{Side}
use Rattle.cf_view.specs.declared.Side.TheVariants as side

-- a leg has fired for the seventh time without an answer
abbrev pub is_no_answer : ClockAnswer → Bool
is_no_answer clock.NoAnswer = true
is_no_answer _ = false

abbrev pub reset_by : Side → CutReason
reset_by side.Client = reason.ResetByClient
reset_by side.Controller = reason.ResetByController

-- whether it is closed, whether the packet of a side resets its leg, why the lane cuts, and why a full stream does
abbrev pub cut_by : (closed resets : Bool) → Side → (lane full : Option CutReason) → Option CutReason
cut_by closed resets s lane full = if closed then None else option_or (if resets then Some (reset_by s) else None) (option_or lane full)
