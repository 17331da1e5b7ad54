-- Steps of the proof: what is found in the bytes of one flow: `IsFoundIn`.
use Rattle.std.specs.Prelude.{◌≡◌, ◌+◌, ◌<◌, ℕ, List, [], None, Option, Some, IfSome}
use Rattle.std.specs.Option.{option_or}
use Rattle.cf_lane.specs.Judged.{Judged}
use Rattle.cf_policy.specs.Site.{SiteValue}
use Rattle.cf_watch.specs.FlowValue.{FlowValue}
use Rattle.cf_judge.specs.Objections.{admitted_in, first_wrong, wrong}
use Rattle.cf_judge.specs.Plain.{AreRead, Ending}
use Rattle.cf_judge.specs.declared.ruling.Complaint.TheVariants as complaint
use Rattle.cf_judge.specs.declared.ruling.Ruling.{Ruling}
use Rattle.cf_judge.specs.declared.ruling.Ruling.TheVariants as ruling
use Rattle.cf_judge.specs.declared.judging.Found.{Found}
use Rattle.cf_judge.specs.declared.judging.Wrong.{Wrong}

abbrev pub with_wrong : Found → Wrong → Found
with_wrong found w = record { commands = found.commands; first = option_or found.first (Some w) }

-- what was found, with a unit for the asset of a place that a record completed
abbrev pub with_ruling : Found → (record_number place : ℕ) → Ruling → Found
with_ruling found number place ruling.Nothing = found
with_ruling found number place ruling.Allowed = record { commands = found.commands + 1; first = found.first }
with_ruling found number place (ruling.Refused refusal) =
    with_wrong found (wrong number place (complaint.Refused refusal.decider refusal.reason))
with_ruling found number place (ruling.Stray because) = with_wrong found (wrong number place (complaint.Stray because))

-- the bytes are these units and this ending, of which so much was found
pub record IsFoundIn (site : SiteValue) (f : FlowValue) (found : Found) : Type 0 where
  pub judged : List Judged
  pub ending : Ending
  pub are_read : AreRead site f.client.address [] f.bytes f.born judged ending
  pub commands : found.commands ≡ admitted_in judged
  pub first : found.first ≡ first_wrong site judged ending

-- so they are by the site at the flow's place of the policy
abbrev pub IsFoundAt : Option SiteValue → FlowValue → Found → Type 0
IsFoundAt None f found = ⊥
IsFoundAt (Some site) f found = IsFoundIn site f found

-- the place of a flow in a policy, and that of the asset that the first wrong in it is about, are below this
abbrev pub HavePlaces : (most asset : ℕ) → Option Wrong → Type 0
HavePlaces most asset first = (asset < most) × IfSome first (λ w. asset + w.place < most)
