-- What a unit counts for, by its fate in a lane: ruling_of. The rated rules that a command used play no part.
use Rattle.std.specs.Prelude.{◌≡◌, ℕ, Option, None, Some}
use Rattle.cf_lane.specs.Modbus.{HasCommandFate}
use Rattle.cf_lane.specs.declared.fate.Fate.{Fate}
use Rattle.cf_lane.specs.declared.fate.Fate.TheVariants as fate
use Rattle.cf_modbus.specs.Adu.{AduValue}
use Rattle.cf_policy.specs.Verdict.{verdict_of}
use Rattle.cf_policy.specs.declared.Asset.{Asset}
use Rattle.cf_judge.specs.declared.ruling.Complaint.{Complaint}
use Rattle.cf_judge.specs.declared.ruling.Complaint.TheVariants as complaint
use Rattle.cf_judge.specs.declared.ruling.Ruling.{Ruling}
use Rattle.cf_judge.specs.declared.ruling.Ruling.TheVariants as ruling

-- a command that is refused, and what is stray
abbrev pub complaint_of : Fate → Option Complaint
complaint_of (fate.Refused refusal) = Some (complaint.Refused refusal.decider refusal.reason)
complaint_of (fate.Stray because) = Some (complaint.Stray because)
complaint_of fate.Carried = None
complaint_of (fate.Admitted used) = None
complaint_of fate.Lengthens = None
complaint_of (fate.Cuts because) = None

abbrev pub ruling_of : Fate → Ruling
ruling_of (fate.Refused refusal) = ruling.Refused refusal
ruling_of (fate.Stray because) = ruling.Stray because
ruling_of (fate.Admitted used) = ruling.Allowed
ruling_of fate.Carried = ruling.Nothing
ruling_of fate.Lengthens = ruling.Nothing
ruling_of (fate.Cuts because) = ruling.Nothing

-- the ruling of the fate of an ADU
abbrev pub HasAduRuling : Asset → (client : ℕ) → AduValue → Ruling → Type 0
HasAduRuling asset client a found = (f : Fate) × HasCommandFate asset (verdict_of asset client) a f × (found ≡ ruling_of f)
