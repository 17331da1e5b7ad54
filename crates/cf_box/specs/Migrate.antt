-- `migrate POLICY OUT`: a policy is written as a document of version 2, or 3, that means the same: `KeepsMeaning`.
use Rattle.std.specs.Prelude.{◌≡◌, ℕ, List, [], ◌∷◌}
use Rattle.cf_outside.specs.Frames.{KeepsOtherFiles}
use Rattle.cf_policy.specs.declared.Policy.{Policy}
use Rattle.cf_box.specs.Check.{ChangesNothing}
use Rattle.cf_ending.specs.Outside.{Outside}
use Rattle.cf_box.specs.PolicyFile.{HasPolicy, HoldsPolicyPart, HoldsPolicyText, counted}
use Rattle.cf_ending.specs.declared.Done.{Done}
use Rattle.cf_ending.specs.declared.Stop.{Stop}
use Rattle.cf_ending.specs.declared.Stop.TheVariants as stop

module _ (policy out : List ℕ) (before after : Outside) where
  -- the one file was created and holds a text that means exactly what the other means
  pub record KeepsMeaning : Type 0 where
    pub meaning : Policy
    pub has : HasPolicy (before.files.content policy) meaning
    pub holds_text : HoldsPolicyText meaning (before.files.content out) (after.files.content out)

  -- so it was, its assets and rules were counted, and no other file changed
  pub record Migrates (d : Done) : Type 0 where
    pub keeps : KeepsMeaning
    pub counts : d ≡ counted keeps.meaning
    pub others : KeepsOtherFiles (out ∷ []) before.files.content after.files.content
    pub sink : after.sink ≡ before.sink
    pub pair : after.pair ≡ before.pair

  -- a write failed: the file is as it was, or has a beginning of such a text
  pub record MigratesInPart : Type 0 where
    pub meaning : Policy
    pub has : HasPolicy (before.files.content policy) meaning
    pub part : HoldsPolicyPart meaning (before.files.content out) (after.files.content out)
    pub others : KeepsOtherFiles (out ∷ []) before.files.content after.files.content
    pub sink : after.sink ≡ before.sink
    pub pair : after.pair ≡ before.pair

  -- whatever else stops it changes nothing
  abbrev pub MigrateLeaves : Stop → Type 0
  MigrateLeaves stop.WriteFault = MigratesInPart
  MigrateLeaves _ = ChangesNothing before after
