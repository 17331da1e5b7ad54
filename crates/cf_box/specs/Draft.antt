-- `draft POLICY OUT CAPTURE..`: a first policy that allows all that captures show, which are one recording: `HoldsDraft`. What is watched is
-- said in `cf_watch`, what is read of it and what a draft allows in `cf_draft`.
use Rattle.std.specs.Prelude.{◌≡◌, ℕ, List, [], ◌∷◌, Result, Ok, Err, length, string_bytes}
use Rattle.cf_draft.specs.Draft.{AreDrafted}
use Rattle.cf_draft.specs.Parts.{AreReadAs, parts_of}
use Rattle.cf_draft.specs.declared.Draft.{Draft}
use Rattle.cf_outside.specs.Files.{Content, IsPartly, content_after_write}
use Rattle.cf_outside.specs.Frames.{KeepsOtherFiles}
use Rattle.cf_policy.specs.Within.{IsWithin}
use Rattle.cf_policy.specs.declared.Asset.{Asset}
use Rattle.cf_policy.specs.declared.Policy.{Policy}
use Rattle.cf_policylang.specs.Documents.{text_meaning}
use Rattle.cf_watch.specs.FlowValue.{FlowValue, StretchValue}
use Rattle.cf_watch.specs.Recorded.{HasRecording}
use Rattle.cf_box.specs.Check.{ChangesNothing}
use Rattle.cf_box.specs.Learn.{ShowTooMuch}
use Rattle.cf_box.specs.PolicyFile.{HasPolicy, rule_count}
use Rattle.cf_ending.specs.Outside.{Outside}
use Rattle.cf_ending.specs.declared.Done.{Done}
use Rattle.cf_ending.specs.declared.Done.TheVariants as done
use Rattle.cf_ending.specs.declared.Stop.{Stop}
use Rattle.cf_ending.specs.declared.Stop.TheVariants as stop

-- ---- what is drafted

-- a draft of a policy by what was read: a policy that allows all of it, as a text
pub record IsDraftOf (p : Policy) (flows : List FlowValue) (draft : Draft) : Type 0 where
  pub drafted : AreDrafted flows draft.widened p.assets draft.policy.assets
  pub within : IsWithin draft.policy
  pub means : text_meaning (string_bytes draft.text) ≡ Ok draft.policy

-- the answer about what was read
abbrev pub DraftsAs : Policy → List FlowValue → Result Draft Stop → Type 0
DraftsAs p flows (Ok draft) = IsDraftOf p flows draft
DraftsAs p flows (Err (stop.TooManyRules name)) = ShowTooMuch p flows name.bytes
DraftsAs p flows (Err stop.NoMemory) = Unit {0}
DraftsAs p flows (Err _) = ⊥

-- the numbers of a draft's assets and rules, and of the assets that were widened, as they are printed
abbrev pub counted_draft : Draft → Done
counted_draft draft = done.Drafted (length draft.policy.assets) (rule_count draft.policy.assets) draft.widened

-- what the writing of a draft answers
abbrev pub WritesDraftText : Draft → (before after : Content) → Result Done Stop → Type 0
WritesDraftText draft before after (Ok d) = (d ≡ counted_draft draft) × (after ≡ content_after_write before (string_bytes draft.text))
WritesDraftText draft before after (Err stop.WriteFault) = IsPartly (string_bytes draft.text) before after
WritesDraftText draft before after (Err _) = ⊥

-- this is read of the flows of captures, which are one recording, and of their other stretches
pub record IsReadOf (assets : List Asset) (content : List ℕ → Content) (captures : List (List ℕ)) (read : List FlowValue) : Type 0 where
  pub flows : List FlowValue
  pub stretches : List StretchValue
  pub stamps : List ℕ
  pub recorded : HasRecording assets content captures flows stretches stamps
  pub are_read : AreReadAs assets (parts_of flows stretches) read

module _ (policy : List ℕ) (captures : List (List ℕ)) (before : Outside) where
  -- the policy of a file means this, and this is read of the captures
  pub record HasRead (p : Policy) (read : List FlowValue) : Type 0 where
    pub has_policy : HasPolicy (before.files.content policy) p
    pub is_read : IsReadOf p.assets before.files.content captures read

  -- this is a draft of the policy of the file by what is read of the captures
  pub record Drafts (draft : Draft) : Type 0 where
    pub known : Policy
    pub read : List FlowValue
    pub has_read : HasRead known read
    pub is_draft : IsDraftOf known read draft

  -- the captures show too much of the asset of this name
  abbrev pub CapturesShowTooMuch : (name : List ℕ) → Type 0
  CapturesShowTooMuch name = (p : Policy) × (read : List FlowValue) × HasRead p read × ShowTooMuch p read name

  -- whatever is told of them, they do of none
  abbrev pub NeverShowTooMuch : Type 0
  NeverShowTooMuch = (name : List ℕ) → CapturesShowTooMuch name → ⊥

module _ (policy out : List ℕ) (captures : List (List ℕ)) (before after : Outside) where
  -- the one file was created and holds the text of a policy that allows each act that the captures show, to the same clients, and where no
  -- asset was widened no other act that commands can have
  pub record HoldsDraft : Type 0 where
    pub draft : Draft
    pub drafts : Drafts policy captures before draft
    pub in_file : after.files.content out ≡ content_after_write (before.files.content out) (string_bytes draft.text)

  -- so it was, its assets, its rules and what was widened were counted, and no other file changed
  pub record WritesDraft (d : Done) : Type 0 where
    pub holds : HoldsDraft
    pub counts : d ≡ counted_draft holds.draft
    pub others : KeepsOtherFiles (out ∷ []) before.files.content after.files.content
    pub sink : after.sink ≡ before.sink
    pub pair : after.pair ≡ before.pair

  -- a write failed: the file is as it was, or has a beginning of such a text
  pub record DraftsInPart : Type 0 where
    pub draft : Draft
    pub drafts : Drafts policy captures before draft
    pub part : IsPartly (string_bytes draft.text) (before.files.content out) (after.files.content out)
    pub others : KeepsOtherFiles (out ∷ []) before.files.content after.files.content
    pub sink : after.sink ≡ before.sink
    pub pair : after.pair ≡ before.pair

  -- whatever else stops it changes nothing
  abbrev pub DraftLeaves : Stop → Type 0
  DraftLeaves stop.WriteFault = DraftsInPart
  DraftLeaves _ = ChangesNothing before after
