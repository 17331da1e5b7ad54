-- Steps of the proof: what the last line of a relay does to its desk, and what it answers: `ClosesWith` and `StopsWith`.
use Rattle.cf_audit.specs.Line.{Close, Cut}
use Rattle.cf_lane.specs.Handled.{HasAdded, MayHaveAdded}
use Rattle.cf_lane.specs.Log.{line_about, with_lines}
use Rattle.cf_outside.specs.Desk.{DeskValue}
use Rattle.cf_outside.specs.Faults.{Rose}
use Rattle.cf_policy.specs.Site.{SiteValue}
use Rattle.cf_view.specs.declared.Endpoint.{Endpoint}
use Rattle.std.specs.List.{concat}
use Rattle.std.specs.Prelude.{Err, List, Ok, Option, Result, [], drop, take, true, ℕ, ◌∷◌, ◌≡◌}
use Rattle.cf_relay.specs.Ends.{LogContents}
use Rattle.cf_relay.specs.Relaying.{RelayingValue}
use Rattle.cf_relay.specs.declared.done.RelayDone.{RelayDone}
use Rattle.cf_relay.specs.declared.done.RelayEnd.{RelayEnd}
use Rattle.cf_relay.specs.declared.done.RelayEnd.TheVariants as ends
use Rattle.cf_relay.specs.declared.done.RelayFault.{RelayFault}
use Rattle.cf_relay.specs.declared.done.RelayFault.TheVariants as fault
use Rattle.cf_relay.specs.declared.stop.Stop.{Stop}
use Rattle.cf_relay.specs.declared.stop.Stop.TheVariants as stop

-- what was done, by what is kept
abbrev pub done_by : RelayingValue → RelayEnd → RelayDone
done_by now end = record { end = end; admitted = now.lane.admitted; refused = now.lane.refused }

-- a last line was put, or it failed
abbrev pub EndsWith : (line : List ℕ) → RelayDone → (old new : DeskValue) → Result RelayDone RelayFault → Type 0
EndsWith line done old new (Ok d) = (d ≡ done) × HasAdded (line ∷ []) old new × (new.whole ≡ true)
EndsWith line done old new (Err fault.Write) = MayHaveAdded (line ∷ []) old new
EndsWith line done old new (Err fault.Link) = ⊥
EndsWith line done old new (Err fault.NoMemory) = ⊥

abbrev pub ClosesWith : SiteValue → Endpoint → RelayingValue → (old new : DeskValue) → Result RelayDone RelayFault → Type 0
ClosesWith site client now old new result =
    EndsWith (line_about site.first client now.moment (Close now.lane.admitted now.lane.refused))
    (done_by now ends.Done) old new result

-- a relay that stopped puts a line for a cut alone
abbrev pub StopsWith : SiteValue → Endpoint → RelayingValue → Stop → (old new : DeskValue) → Result RelayDone RelayFault → Type 0
StopsWith site client now stop.Idle old new result = (result ≡ Ok (done_by now ends.IdleEnd)) × (new ≡ old)
StopsWith site client now stop.Link old new result = (result ≡ Err fault.Link) × (new ≡ old)
StopsWith site client now stop.Write old new result = (result ≡ Err fault.Write) × (new ≡ old)
StopsWith site client now (stop.Cut reason) old new result =
    EndsWith (line_about site.first client now.moment (Cut reason)) (done_by now (ends.Cut reason)) old new result

-- a log has, after what it had, the first of these lines, and then a beginning of the lines that follow
abbrev pub BeginsLines : (base lines : Option (List (List ℕ))) → (part : List ℕ) → List (List ℕ) → Type 0
BeginsLines base lines part ls = (count some : ℕ) × (lines ≡ with_lines base (take count ls)) ×
    (part ≡ take some (concat (drop count ls)))

-- a log as a desk tells it, after what it had
abbrev pub desk_log : (base : Option (List (List ℕ))) → DeskValue → LogContents
desk_log base desk = record {
  Holds = λ ls. (desk.lines ≡ with_lines base ls) × (desk.whole ≡ true);
  Begins = λ ls. BeginsLines base desk.lines desk.line_part ls;
}

-- the line of a cut fails only where the count of faults rose
abbrev pub IsCutLost : Stop → (before now : ℕ) → (failed : Type 0) → Type 0
IsCutLost stop.Idle before now failed = Unit {0}
IsCutLost stop.Link before now failed = Unit {0}
IsCutLost stop.Write before now failed = Unit {0}
IsCutLost (stop.Cut reason) before now failed = failed → Rose before now
