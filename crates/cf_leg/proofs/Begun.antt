-- What the window of a leg counts.
use Rattle.std.proofs.Common.{◌≡◌, List, sym, ◌∙◌, ap}
use Rattle.cf_rebuild.specs.ReceiveWindow.{base_of}
use Rattle.cf_stream.proofs.Taken.{same_taken}
use Rattle.cf_stream.specs.FirstCopy.{first_copy, IsTaken}
use Rattle.cf_stream.specs.Stream.{Stream, letter_count}
use Rattle.cf_leg.proofs.Events.{taken_is}
use Rattle.cf_leg.specs.Event.{LegEvent}
use Rattle.cf_leg.specs.Heard.{offers}
use Rattle.cf_leg.specs.LegValue.{Marks, LegValue, IsLegOf}

pub base_is : (leg : LegValue) (m : Marks) (es : List LegEvent) (s : Stream) → IsLegOf leg m es → IsTaken (first_copy (offers leg.ends.role es)) s → base_of leg.window ≡ letter_count s
base_is leg m es s h t =
    sym (taken_is h)
    ∙ ap (λ (u : Stream). letter_count u) (same_taken (first_copy (offers leg.ends.role es)) h.of_window.taken s h.of_window.is_taken t)
