-- Steps of the proof: what is known at once of a command of Modbus, without a moment: IsPlainFate. `Unknown` says nothing.
use Rattle.cf_lane.specs.Acts.{by_refusal, first_refusal, nothing_shown, unrated}
use Rattle.cf_lane.specs.Modbus.{HasCommandFate}
use Rattle.cf_lane.specs.Rates.{Says}
use Rattle.cf_lane.specs.declared.fate.Fate.{Fate}
use Rattle.cf_lane.specs.declared.fate.Judgement.{Judgement}
use Rattle.cf_lane.specs.declared.fate.Plain.{Plain}
use Rattle.cf_lane.specs.declared.fate.Shown.{Shown}
use Rattle.cf_modbus.specs.Acts.{acts}
use Rattle.cf_modbus.specs.Adu.{AduValue}
use Rattle.cf_modbus.specs.Request.{Reads, RequestValue}
use Rattle.cf_policy.specs.Verdict.{IsOneOf, verdict_of}
use Rattle.cf_policy.specs.declared.Asset.{Asset}
use Rattle.cf_policy.specs.declared.Rule.{Rule}
use Rattle.cf_view.specs.declared.Act.{Act}
use Rattle.std.specs.Prelude.{List, None, Ok, Option, Some, ℕ, ◌≡◌, ◌⊎◌}
use Rattle.cf_lane.specs.declared.fate.Fate.TheVariants as fate
use Rattle.cf_lane.specs.declared.fate.Judgement.TheVariants as judgement
use Rattle.cf_lane.specs.declared.fate.Plain.TheVariants as plain

-- an admitted command of which the log shows this
abbrev pub plain_by : Option Shown → Plain
plain_by None = plain.Admitted
plain_by (Some shown) = plain.Unknown

-- a command that is judged so where no rule has a rate
abbrev pub plain_of : Judgement → Plain
plain_of (judgement.Admitted admission) = plain_by admission.shown
plain_of (judgement.Refused refusal) = plain.Refused refusal

-- it is true of a fate
abbrev pub IsPlain : Plain → Fate → Type 0
IsPlain plain.Admitted f = fate.Admitted nothing_shown ≡ f
IsPlain (plain.Refused refusal) f = fate.Refused refusal ≡ f
IsPlain plain.Unknown f = Unit {0}

-- of a command of these acts where no rule has a rate
abbrev pub IsPlainOf : Asset → (client : ℕ) → List Act → Plain → Type 0
IsPlainOf asset client list p =
    IsPlain p (by_refusal (unrated asset.rules (verdict_of asset client) list) (first_refusal (verdict_of asset client) list))

-- of an ADU for the asset's station, by its acts
abbrev pub IsPlainForm : Asset → (client : ℕ) → AduValue → Plain → Type 0
IsPlainForm asset client a p = (p ≡ plain.Unknown) ⊎ ((r : RequestValue) × Reads (Ok r) a.pdu × IsPlainOf asset client (acts r) p)

-- of any ADU, by what is said of its acts
abbrev pub IsPlainFate : Asset → Says → AduValue → Plain → Type 0
IsPlainFate asset says a plain.Admitted = HasCommandFate asset says a (fate.Admitted nothing_shown)
IsPlainFate asset says a (plain.Refused refusal) = HasCommandFate asset says a (fate.Refused refusal)
IsPlainFate asset says a plain.Unknown = Unit {0}

-- a rule that decided is one of the rules
abbrev pub HasPlainDecider : List Rule → Plain → Type 0
HasPlainDecider rules plain.Admitted = Unit {0}
HasPlainDecider rules (plain.Refused refusal) = IsOneOf rules refusal.decider
HasPlainDecider rules plain.Unknown = Unit {0}
