-- Beside the proof: rules that decide nothing, or less than they seem to: what a finding says of a rule is `Holds`. Warnings go by it.
use Rattle.std.specs.Prelude.{◌≡◌, ℕ, ◌<◌, false, List, [], ◌∷◌, Option, Some, None, pos, true}
use Rattle.std.specs.List.{list_any}
use Rattle.cf_view.specs.declared.base.Act.{Act}
use Rattle.cf_policy.specs.declared.policy.Protocol.{Protocol}
use Rattle.cf_policy.specs.declared.policy.Rule.{Rule}
use Rattle.cf_policy.specs.declared.policy.Asset.{Asset}
use Rattle.cf_policy.specs.Verdict.{takes, has_act}
use Rattle.cf_explain.specs.declared.found.What.{What}
use Rattle.cf_explain.specs.declared.found.What.TheVariants as what
use Rattle.cf_acts.specs.Acts.{kinds}
use Rattle.cf_acts.specs.Commands.{IsOfCommand}
use Rattle.cf_covered.specs.Including.{NeverDecides, first_including}
use Rattle.cf_explain.specs.Meets.{meets}
use Rattle.cf_explain.specs.Reads.{HasReads, NamesReads}

-- no act with this code that a command of the protocol has is the rule's
abbrev pub NeverHas : Protocol → Rule → ℕ → Type 0
NeverHas protocol rule code =
    (client : ℕ) (act : Act) → act.code ≡ code → IsOfCommand protocol act → has_act rule client act ≡ false

-- no act that a command of the protocol has is the rule's
abbrev pub NeverMeets : Protocol → Rule → Type 0
NeverMeets protocol rule = (client : ℕ) (act : Act) → IsOfCommand protocol act → has_act rule client act ≡ false

-- the rule has no act without a value
abbrev pub WantsValue : Rule → Type 0
WantsValue rule = (client : ℕ) (act : Act) → act.value ≡ None → has_act rule client act ≡ false

-- what is found of the rule holds
abbrev pub Holds : Asset → ℕ → Rule → What → Type 0
Holds asset number rule (what.Never code why) = NeverMeets asset.protocol rule
Holds asset number rule (what.Code code why) = NeverHas asset.protocol rule code
Holds asset number rule what.Reads = NamesReads asset.protocol rule × WantsValue rule
Holds asset number rule (what.Covered earlier) = (earlier < number) × NeverDecides asset.rules number

-- what is found, if something is, as a list
abbrev pub listed : Option What → List What
listed None = []
listed (Some found) = found ∷ []

-- some kind of acts of each of the rule's codes meets it
abbrev pub IsMet : Protocol → Rule → Type 0
IsMet protocol rule =
    (code : ℕ) → code < 256 → takes rule.codes (pos code) ≡ true → list_any (meets rule) (kinds protocol code) ≡ true

-- a rule without a finding: each code is met, it has the reads of function 23 that it names, and no earlier rule includes it
abbrev pub IsSound : Asset → ℕ → Rule → Type 0
IsSound asset number rule =
    IsMet asset.protocol rule × (NamesReads asset.protocol rule → HasReads rule) × (first_including asset.rules number rule ≡ None)
