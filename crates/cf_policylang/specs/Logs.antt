-- What the key of a rule's log means: log.
use Rattle.std.specs.Prelude.{Bool, false, Option, Some, None, Ok}
use Rattle.toml.specs.Data.{Data, Members}
use Rattle.cf_policy.specs.declared.policy.Action.{Action}
use Rattle.cf_policy.specs.declared.policy.Action.TheVariants.{Allow, Refuse}
use Rattle.cf_policylang.specs.declared.refusal.Key.TheVariants as key
use Rattle.cf_policylang.specs.declared.refusal.Cause.TheVariants as cause
use Rattle.cf_policylang.specs.declared.refusal.Place.{Place}
use Rattle.cf_policylang.specs.Fields.{as_flag, stated}
use Rattle.cf_policylang.specs.Tested.{Tested, refused}

-- the value of the key, if it is there: an allow rule alone has it, and it counts as unknown in another
abbrev pub log_if_any : Action → Place → Option Data → Tested Bool
log_if_any action place None = Ok false
log_if_any Allow place (Some value) = as_flag key.Log place value
log_if_any Refuse place (Some value) = refused cause.UnknownKey key.Nothing place

-- whether what a rule admits is written to the log
abbrev pub log : Action → Place → Members → Tested Bool
log action place members = log_if_any action place (stated key.Log members)
