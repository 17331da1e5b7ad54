-- What a call that writes lines leaves of the desk: `LogsLines`, and the clauses that it stands for.
use Rattle.cf_lane.proofs.Feeding.{writes_none}
use Rattle.cf_lane.specs.Handled.{WritesLog}
use Rattle.cf_lane.specs.Logging.{LogsLines}
use Rattle.cf_outside.specs.Desk.{DeskValue}
use Rattle.cf_outside.specs.Faults.{HasCause}
use Rattle.std.proofs.Common.{Err, Ok, arith, false, true, ◌≡◌}
use Rattle.std.proofs.lemmas.Bool.{false≢true, true≢false}
use Rattle.std.specs.Prelude.{IsErr, OnOk}
use Rattle.std.specs.Result.{is_err}
use Rattle.std.specs.declared.result.Result.{Result}

-- no line was written
pub logs_none : (d : DeskValue) → d.whole ≡ true → LogsLines d d false
logs_none d w = record { whole = λ e. w; log = writes_none d; cause = record { later = omega arith; rose = λ e. absurd (false≢true e) } }

whole_by : {T E : Type 0} (r : Result T E) (P : Type 0) → OnOk r P → is_err r ≡ false → P
whole_by (Ok x) P w e = w
whole_by (Err x) P w e = absurd (true≢false e)

-- what the public call that puts a line leaves
pub logs_by : {T E : Type 0} (r : Result T E) (old new : DeskValue) → OnOk r (new.whole ≡ true) → WritesLog old new → HasCause old.faults new.faults (IsErr r) → LogsLines old new (is_err r)
logs_by r old new w l c = record { whole = whole_by r (new.whole ≡ true) w; log = l; cause = c }
