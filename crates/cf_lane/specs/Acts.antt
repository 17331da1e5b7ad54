-- What a policy makes of the acts of a command: `fate_of_acts`.
use Rattle.cf_lane.specs.declared.fate.Fate.{Fate}
use Rattle.cf_lane.specs.declared.fate.Admission.{Admission}
use Rattle.cf_lane.specs.declared.fate.Refusal.{Refusal}
use Rattle.cf_lane.specs.declared.fate.Shown.{Shown}
use Rattle.cf_lane.specs.Rates.{Says, is_place, rated, rated_place}
use Rattle.cf_policy.specs.Logged.{is_logged}
use Rattle.cf_policy.specs.Within.{most_rated}
use Rattle.cf_policy.specs.declared.Rule.{Rule}
use Rattle.std.specs.Option.{option_or}
use Rattle.cf_policy.specs.declared.Rate.{Rate}
use Rattle.std.specs.List.{list_any, range_with_len}
use Rattle.cf_policy.specs.declared.Asset.{Asset}
use Rattle.cf_policy.specs.declared.Verdict.{Verdict}
use Rattle.cf_view.specs.declared.Act.{Act}
use Rattle.std.specs.Prelude.{Bool, List, None, Option, Some, [], false, if◌then◌else◌, length, map, replicate, slice_get, ℕ, ◌<◌, ◌∷◌, ◌≡◌}
use Rattle.cf_lane.specs.declared.fate.Fate.TheVariants as fate
use Rattle.cf_policy.specs.declared.Verdict.TheVariants as verdict

-- a call for a place gives the act that stands there
abbrev pub GivesActs : (ℕ → Act → Type 0) → List Act → Type 0
GivesActs gives acts = (i : ℕ) (act : Act) → i < length acts → gives i act → slice_get acts i ≡ Some act

-- what a verdict says of an act, where later acts decide if it is allowed
abbrev pub refusal_or : Act → Verdict → Option Refusal → Option Refusal
refusal_or act (verdict.Allow n) later = later
refusal_or act (verdict.Refuse d why) later = Some (record { decider = d; reason = why; act = act })

-- the first act that is not allowed
abbrev pub first_refusal : Says → List Act → Option Refusal
first_refusal says [] = None
first_refusal says (act ∷ acts) = refusal_or act (says act) (first_refusal says acts)

-- the rated rule of a place decides so
abbrev pub is_by : List (ℕ × Rate) → (place : ℕ) → Verdict → Bool
is_by all place (verdict.Allow number) = is_place place (rated_place all number)
is_by all place (verdict.Refuse d why) = false

-- a command uses a rule that decides one of its acts: for each place of a rated rule, whether it does
abbrev pub used_by : List (ℕ × Rate) → Says → List Act → List Bool
used_by all says acts = map (λ place. list_any (λ act. is_by all place (says act)) acts) (range_with_len 0 most_rated)

-- the act that the log shows by what is said of it: one that a rule with a log allows
abbrev pub shown_by : List Rule → Act → Verdict → Option Shown
shown_by rules act (verdict.Allow number) = if is_logged rules number then Some (record { rule = number; act = act }) else None
shown_by rules act (verdict.Refuse d why) = None

-- the first act that the log shows
abbrev pub first_shown : List Rule → Says → List Act → Option Shown
first_shown rules says [] = None
first_shown rules says (act ∷ acts) = option_or (shown_by rules act (says act)) (first_shown rules says acts)

-- what is known of a command that is admitted: the rated rules that it used, and what the log shows of it
abbrev pub admission : Asset → Says → List Act → Admission
admission asset says acts = record { used = used_by (rated asset.rules) says acts; shown = first_shown asset.rules says acts }

-- the admission where no rule has a rate
abbrev pub unrated : List Rule → Says → List Act → Admission
unrated rules says acts = record { used = replicate most_rated false; shown = first_shown rules says acts }

-- the admission of a command that used no rule with a rate or a log
abbrev pub nothing_shown : Admission
nothing_shown = record { used = replicate most_rated false; shown = None }

-- a command without a refusal is admitted
abbrev pub by_refusal : Admission → Option Refusal → Fate
by_refusal admitted None = fate.Admitted admitted
by_refusal admitted (Some refusal) = fate.Refused refusal

-- a command is admitted if each of its acts is allowed, and else refused by the first that is not
abbrev pub fate_of_acts : Asset → Says → List Act → Fate
fate_of_acts asset says acts = by_refusal (admission asset says acts) (first_refusal says acts)

-- a code alone, with a point
abbrev pub act_of_code : ℕ → ℕ → Act
act_of_code code point = record { code = code; group = 0; point = point; value = None }
