-- `learn POLICY CAPTURE OUT`: rules that allow exactly what a capture shows are written as a document: `HoldsLearned`.
-- What is watched is said in `cf_watch`, and what is learned in `cf_learn`.
use Rattle.std.specs.Prelude.{◌≡◌, ℕ, List, [], ◌∷◌, Result, Ok, Err}
use Rattle.cf_learn.specs.Assets.{AreLearned, IsFirstTooMany}
use Rattle.cf_outside.specs.Frames.{KeepsOtherFiles}
use Rattle.cf_policy.specs.Within.{IsWithin}
use Rattle.cf_policy.specs.declared.Policy.{Policy}
use Rattle.cf_watch.specs.FlowValue.{FlowValue}
use Rattle.cf_box.specs.Check.{ChangesNothing}
use Rattle.cf_ending.specs.Outside.{Outside}
use Rattle.cf_box.specs.PolicyFile.{HoldsPolicyPart, HoldsPolicyText, counted}
use Rattle.cf_box.specs.Watching.{HasWatched}
use Rattle.cf_ending.specs.declared.Done.{Done}
use Rattle.cf_ending.specs.declared.Stop.{Stop}
use Rattle.cf_ending.specs.declared.Stop.TheVariants as stop

-- ---- what flows make of a policy

-- each asset has rules that allow exactly what the flows to its site show of it, and is else as it was
abbrev pub IsLearned : Policy → List FlowValue → Policy → Type 0
IsLearned p flows learned = AreLearned flows p.assets p.assets learned.assets

-- the asset of this name is the first of which the flows show so much that it would have more rules than a policy may have
pub record ShowTooMuch (p : Policy) (flows : List FlowValue) (name : List ℕ) : Type 0 where
  pub place : ℕ
  pub first : IsFirstTooMany flows p.assets place
  pub named : name ≡ first.asset.name

-- the answer about flows
abbrev pub LearnsAs : Policy → List FlowValue → Result Policy Stop → Type 0
LearnsAs p flows (Ok learned) = IsLearned p flows learned × IsWithin learned
LearnsAs p flows (Err (stop.TooManyRules name)) = ShowTooMuch p flows name.bytes
LearnsAs p flows (Err stop.NoMemory) = Unit {0}
LearnsAs p flows (Err _) = ⊥

-- ---- of a policy and a capture

module _ (policy capture : List ℕ) (before : Outside) where
  -- this is the policy that is learned of the one that the file means and of the flows of the capture
  pub record Learns (learned : Policy) : Type 0 where
    pub known : Policy
    pub flows : List FlowValue
    pub watched : HasWatched policy capture before known flows
    pub is_learned : IsLearned known flows learned

  -- the flows of the capture show too much of the asset of this name
  abbrev pub FilesShowTooMuch : (name : List ℕ) → Type 0
  FilesShowTooMuch name = (p : Policy) × (flows : List FlowValue) × HasWatched policy capture before p flows × ShowTooMuch p flows name

  -- whatever is told of them, they do of none
  abbrev pub NeverTooMuch : Type 0
  NeverTooMuch = (name : List ℕ) → FilesShowTooMuch name → ⊥

module _ (policy capture out : List ℕ) (before after : Outside) where
  -- the one file was created and holds a text that means exactly the policy that is learned
  pub record HoldsLearned : Type 0 where
    pub learned : Policy
    pub learns : Learns policy capture before learned
    pub holds_text : HoldsPolicyText learned (before.files.content out) (after.files.content out)

  -- so it was, its assets and rules were counted, and no other file changed
  pub record WritesLearned (d : Done) : Type 0 where
    pub holds : HoldsLearned
    pub counts : d ≡ counted holds.learned
    pub others : KeepsOtherFiles (out ∷ []) before.files.content after.files.content
    pub sink : after.sink ≡ before.sink
    pub pair : after.pair ≡ before.pair

  -- a write failed: the file is as it was, or has a beginning of such a text
  pub record LearnsInPart : Type 0 where
    pub learned : Policy
    pub learns : Learns policy capture before learned
    pub part : HoldsPolicyPart learned (before.files.content out) (after.files.content out)
    pub others : KeepsOtherFiles (out ∷ []) before.files.content after.files.content
    pub sink : after.sink ≡ before.sink
    pub pair : after.pair ≡ before.pair

  -- whatever else stops it changes nothing
  abbrev pub LearnLeaves : Stop → Type 0
  LearnLeaves stop.WriteFault = LearnsInPart
  LearnLeaves _ = ChangesNothing before after
