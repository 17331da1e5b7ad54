-- `check POLICY`: a policy is read, and its assets and rules are counted: `Checks`.
use Rattle.std.specs.Prelude.{◌≡◌, ◌≢◌, ℕ, List}
use Rattle.cf_policy.specs.declared.Policy.{Policy}
use Rattle.cf_ending.specs.Outside.{Outside}
use Rattle.cf_box.specs.PolicyFile.{HasPolicy, counted}
use Rattle.cf_ending.specs.declared.Done.{Done}
use Rattle.cf_ending.specs.declared.Stop.{Stop}
use Rattle.cf_ending.specs.declared.Stop.TheVariants as stop

-- the outside, of which nothing but counts of failed reads changed
pub record ChangesNothing (before after : Outside) : Type 0 where
  pub content : after.files.content ≡ before.files.content
  pub sink : after.sink ≡ before.sink
  pub pair : after.pair ≡ before.pair

-- the numbers of assets and of all rules were counted
pub record Checks (file : List ℕ) (before after : Outside) (d : Done) : Type 0 where
  pub policy : Policy
  pub has : HasPolicy (before.files.content file) policy
  pub counts : d ≡ counted policy
  pub same : ChangesNothing before after

-- whatever stops it
pub record CheckLeaves (before after : Outside) (s : Stop) : Type 0 where
  pub unwritten : s ≢ stop.WriteFault
  pub same : ChangesNothing before after
