-- How the program ends: the status of each ending, `status_of`, and what is printed, `Reports`.
use Rattle.std.specs.Prelude.{◌≡◌, ◌⊎◌, ℕ, List, ◌++◌, Option, None, Some, Result, Ok, Err, codes, decimal, take}
use Rattle.cf_audit.specs.Text.{cut_text}
use Rattle.cf_outside.specs.Faults.{Rose}
use Rattle.cf_outside.specs.Sink.{printed_with}
use Rattle.cf_policylang.specs.Keys.{refusal_text}
use Rattle.cf_run.specs.declared.summary.Summary.{Summary}
use Rattle.cf_ending.specs.Denial.{count_line, denial_text, reviewed_text}
use Rattle.cf_ending.specs.Outside.{Outside, SinkValue}
use Rattle.cf_ending.specs.declared.ending.CaptureRefusal.{CaptureRefusal}
use Rattle.cf_ending.specs.declared.ending.CaptureRefusal.TheVariants as refusal
use Rattle.cf_ending.specs.declared.ending.Done.{Done}
use Rattle.cf_ending.specs.declared.ending.Done.TheVariants as done
use Rattle.cf_ending.specs.declared.ending.Stop.{Stop}
use Rattle.cf_ending.specs.declared.ending.Stop.TheVariants as stop

-- the status of each cause
abbrev pub stop_status : Stop → ℕ
stop_status stop.ReadFault = 3
stop_status stop.WriteFault = 4
stop_status (stop.PolicyRefused r) = 5
stop_status (stop.CaptureRefused r) = 6
stop_status (stop.CaptureCut place) = 7
stop_status (stop.RunCut place summary) = 7
stop_status stop.LinkFault = 8
stop_status stop.IdleEnd = 9
stop_status stop.UnknownAsset = 10
stop_status (stop.Cut reason) = 12
stop_status stop.NoMemory = 13
stop_status (stop.Denied why) = 15
stop_status (stop.TooManyRules name) = 16
stop_status (stop.TooManyCells name) = 17

-- the status: 0 of a command that is done, and else that of its stop
abbrev pub status_of : Result Done Stop → ℕ
status_of (Ok d) = 0
status_of (Err s) = stop_status s

-- the status where the last text was not printed: work that was done and not told is a write fault, and a cause stays
abbrev pub unprinted_status : Result Done Stop → ℕ
unprinted_status (Ok d) = 4
unprinted_status (Err s) = stop_status s

-- the number of each refusal of a capture
abbrev pub capture_number : CaptureRefusal → ℕ
capture_number refusal.Short = 1
capture_number refusal.Magic = 2
capture_number refusal.Version = 3
capture_number refusal.LinkType = 4
capture_number refusal.TooLong = 5
capture_number refusal.Clock = 6
capture_number refusal.Large = 7
capture_number refusal.Long = 8
capture_number refusal.Block = 9
capture_number refusal.Section = 10
capture_number refusal.Interface = 11
capture_number refusal.Resolution = 12

-- what was counted, a line each
abbrev pub summary_text : Summary → List ℕ
summary_text s =
    count_line (codes "records ") s.records ++ (count_line (codes "dropped ") s.dropped ++ (count_line (codes "outside ") s.outside
    ++ (count_line (codes "full ") s.full ++ (count_line (codes "sessions ") s.sessions ++ (count_line (codes "admitted ") s.admitted
    ++ (count_line (codes "refused ") s.refused ++ count_line (codes "cuts ") s.cuts))))))

-- the numbers of commands admitted and refused, a line each
abbrev pub commands_text : (admitted refused : ℕ) → List ℕ
commands_text admitted refused = codes "admitted " ++ decimal admitted ++ codes "\nrefused " ++ decimal refused ++ codes "\n"

-- the numbers of flows, and of commands that the policy allows
abbrev pub unobjected_text : (flows commands : ℕ) → List ℕ
unobjected_text flows commands = codes "yes flows " ++ decimal flows ++ codes " commands " ++ decimal commands ++ codes "\n"

-- the numbers of assets and of rules of a draft, and of the assets that were widened
abbrev pub drafted_text : (assets rules widened : ℕ) → List ℕ
drafted_text assets rules widened = codes "ok " ++ decimal assets ++ codes " " ++ decimal rules ++ codes " widened " ++ decimal widened ++ codes "\n"

-- what is printed of work that was done; the lines of a listing were printed before
abbrev pub done_text : Done → Option (List ℕ)
done_text (done.Sifted admitted refused) = Some (commands_text admitted refused)
done_text (done.Relayed admitted refused) = Some (commands_text admitted refused)
done_text (done.Checked assets rules) = Some (codes "ok " ++ decimal assets ++ codes " " ++ decimal rules ++ codes "\n")
done_text (done.Drafted assets rules widened) = Some (drafted_text assets rules widened)
done_text done.Included = Some (codes "included\n")
done_text (done.Unobjected flows commands) = Some (unobjected_text flows commands)
done_text (done.Listed dropped) = None
done_text (done.Reviewed counts) = Some (reviewed_text counts)
done_text (done.Ran summary) = Some (summary_text summary)

-- what is printed of a cause: nothing of a write fault, and nothing where memory ran out
abbrev pub stop_text : Stop → Option (List ℕ)
stop_text stop.ReadFault = Some (codes "read fault\n")
stop_text stop.WriteFault = None
stop_text (stop.PolicyRefused r) = Some (codes "policy refused " ++ refusal_text r ++ codes "\n")
stop_text (stop.CaptureRefused r) = Some (codes "capture refused " ++ decimal (capture_number r) ++ codes "\n")
stop_text (stop.CaptureCut place) = Some (codes "capture cut at " ++ decimal place ++ codes "\n")
stop_text (stop.RunCut place summary) = Some (codes "capture cut at " ++ decimal place ++ codes "\n" ++ summary_text summary)
stop_text stop.LinkFault = Some (codes "link fault\n")
stop_text stop.IdleEnd = Some (codes "idle end\n")
stop_text stop.UnknownAsset = Some (codes "unknown asset\n")
stop_text (stop.Cut reason) = Some (codes "cut " ++ cut_text reason ++ codes "\n")
stop_text stop.NoMemory = None
stop_text (stop.Denied why) = Some (denial_text why)
stop_text (stop.TooManyRules name) = Some (codes "too many rules " ++ name.bytes ++ codes "\n")
stop_text (stop.TooManyCells name) = Some (codes "too many cells " ++ name.bytes ++ codes "\n")

-- what is printed at the end, if anything is
abbrev pub end_text : Result Done Stop → Option (List ℕ)
end_text (Ok d) = done_text d
end_text (Err s) = stop_text s

-- a text was put, no put failed, and the status is the first; or the put failed, a prefix was put, and the status is the second
abbrev pub Puts : List ℕ → (put failed : ℕ) → (before after : SinkValue) → (status : ℕ) → Type 0
Puts text put failed before after status =
    ((status ≡ put) × (after.text ≡ printed_with before.text text) × (after.faults ≡ before.faults))
    ⊎ ((status ≡ failed) × Rose before.faults after.faults × ((k : ℕ) × (after.text ≡ printed_with before.text (take k text))))

-- a sink to which a text was put, if there is one; without one nothing is put
abbrev pub Prints : Option (List ℕ) → (put failed : ℕ) → (before after : SinkValue) → (status : ℕ) → Type 0
Prints None put failed before after status = (status ≡ put) × (after ≡ before)
Prints (Some text) put failed before after status = Puts text put failed before after status

-- the status and what is printed are those of an ending, and nothing else changed
pub record Reports (r : Result Done Stop) (before after : Outside) (status : ℕ) : Type 0 where
  pub prints : Prints (end_text r) (status_of r) (unprinted_status r) before.sink after.sink status
  pub files : after.files ≡ before.files
  pub pair : after.pair ≡ before.pair
