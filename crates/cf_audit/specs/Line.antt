-- What a contract sees of a line of the log: LineValue, without where its names and octets lie in memory.
use Rattle.std.specs.Prelude.{ℕ, ◌≤◌, List, Bool, length}
use Rattle.cf_view.specs.declared.Act.{Act}
use Rattle.cf_view.specs.declared.Endpoint.{Endpoint}
use Rattle.cf_view.specs.declared.Reason.{Reason}
use Rattle.cf_view.specs.declared.Side.{Side}
use Rattle.cf_audit.specs.declared.line.TheConstants.{NAME_LIMIT}
use Rattle.cf_audit.specs.declared.line.CutReason.{CutReason}
use Rattle.cf_audit.specs.declared.line.Why.{Why}
use Rattle.cf_audit.specs.declared.line.What.{What}
use Rattle.cf_audit.specs.declared.line.What.TheVariants as what
use Rattle.cf_audit.specs.declared.line.Line.{Line}

-- what a line says happened
pub data WhatValue : Type 0 where
  Begun : WhatValue
  Refuse : (rule : List ℕ) (reason : Reason) (act : Act) (replied : Bool) (unit : List ℕ) → WhatValue
  Admit : (rule : List ℕ) (act : Act) (unit : List ℕ) → WhatValue
  Stray : Side → Why → WhatValue
  Partial : Side → (count : ℕ) → WhatValue
  Close : (admitted refused : ℕ) → WhatValue
  Cut : CutReason → WhatValue
  Listen Unreached Gone : WhatValue
  Away Stranger : (came : ℕ) → WhatValue
  Lost Silent Again : (admitted refused : ℕ) → WhatValue
  NoMemory : WhatValue
  Stands : (standing admitted refused : ℕ) → WhatValue

-- a line of the log: its moment in microseconds, the client, the name of the asset, and what happened
pub record LineValue : Type 0 where
  pub moment : ℕ
  pub client : Endpoint
  pub asset : List ℕ
  pub what : WhatValue

-- what a contract sees of a `What` and a `Line`
abbrev pub what_value : What → WhatValue
what_value what.Begun = Begun
what_value (what.Refuse rule reason act replied unit) = Refuse rule.now reason act replied unit.bytes
what_value (what.Admit rule act unit) = Admit rule.now act unit.bytes
what_value (what.Stray side why) = Stray side why
what_value (what.Partial side count) = Partial side count
what_value (what.Close admitted refused) = Close admitted refused
what_value (what.Cut reason) = Cut reason
what_value what.Listen = Listen
what_value (what.Away came) = Away came
what_value what.Unreached = Unreached
what_value what.Gone = Gone
what_value (what.Stranger came) = Stranger came
what_value (what.Lost admitted refused) = Lost admitted refused
what_value (what.Silent admitted refused) = Silent admitted refused
what_value (what.Again admitted refused) = Again admitted refused
what_value what.NoMemory = NoMemory
what_value (what.Stands standing admitted refused) = Stands standing admitted refused

abbrev pub line_value : Line → LineValue
line_value line = record { moment = line.moment; client = line.client; asset = line.asset.now; what = what_value line.what }

-- the names are short, as those of a policy
abbrev pub HasShortRule : WhatValue → Type 0
HasShortRule Begun = Unit {0}
HasShortRule (Refuse rule reason act replied unit) = length rule ≤ NAME_LIMIT
HasShortRule (Admit rule act unit) = length rule ≤ NAME_LIMIT
HasShortRule (Stray side why) = Unit {0}
HasShortRule (Partial side count) = Unit {0}
HasShortRule (Close admitted refused) = Unit {0}
HasShortRule (Cut reason) = Unit {0}
HasShortRule Listen = Unit {0}
HasShortRule (Away came) = Unit {0}
HasShortRule Unreached = Unit {0}
HasShortRule Gone = Unit {0}
HasShortRule (Stranger came) = Unit {0}
HasShortRule (Lost admitted refused) = Unit {0}
HasShortRule (Silent admitted refused) = Unit {0}
HasShortRule (Again admitted refused) = Unit {0}
HasShortRule NoMemory = Unit {0}
HasShortRule (Stands standing admitted refused) = Unit {0}

abbrev pub HasShortNames : LineValue → Type 0
HasShortNames line = (length line.asset ≤ NAME_LIMIT) × HasShortRule line.what
