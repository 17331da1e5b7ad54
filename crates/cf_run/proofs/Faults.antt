-- A fault of an event that is told on.
use Rattle.std.proofs.Common.{◌≡◌, Err}
use Rattle.std.specs.Result.{IsErrOf}
use Rattle.cf_run.specs.declared.engine.StepFault.{StepFault}

pub same_fault : {T : Type 0} (f g : StepFault) → IsErrOf {T = T} {E = StepFault} (Err f) g → f ≡ g
same_fault f g e = cc
