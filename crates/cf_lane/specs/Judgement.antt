-- Steps of the proof: what becomes of a command, as the fate of an item: `fate_of_judgement`.
use Rattle.cf_lane.specs.declared.fate.Fate.{Fate}
use Rattle.cf_lane.specs.declared.fate.Judgement.{Judgement}
use Rattle.std.specs.Prelude.{None, Option, Some}
use Rattle.cf_lane.specs.declared.fate.Fate.TheVariants as fate
use Rattle.cf_lane.specs.declared.fate.Judgement.TheVariants as judgement

-- a command is admitted, or it is refused
abbrev pub fate_of_judgement : Judgement → Fate
fate_of_judgement (judgement.Admitted used) = fate.Admitted used
fate_of_judgement (judgement.Refused refusal) = fate.Refused refusal

-- what is no command is carried
abbrev pub fate_or_carried : Option Judgement → Fate
fate_or_carried None = fate.Carried
fate_or_carried (Some j) = fate_of_judgement j
