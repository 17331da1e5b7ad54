-- What the making of a world leaves in its two files: MakesWorld.
use Rattle.std.specs.Prelude.{◌≡◌, ◌<◌, ◌⊎◌, ℕ, List, length, Result, Ok, Err}
use Rattle.cf_outside.specs.Files.{Content, IsPartly, content_after_write}
use Rattle.cf_records.specs.Capture.{Record}
use Rattle.cf_world.specs.Capture.{BeginsEach, IsCaptureOf}
use Rattle.cf_hosts.specs.Document.{IsDocument}
use Rattle.cf_world.specs.declared.world.TheConstants.{RECORD_LIMIT}
use Rattle.cf_world.specs.declared.world.WorldFault.{WorldFault}
use Rattle.cf_world.specs.declared.world.WorldNames.{WorldNames}

-- what a contract sees of the names of the files
pub record WorldNamesValue : Type 0 where
  pub policy : List ℕ
  pub capture : List ℕ

abbrev pub world_names_value : WorldNames → WorldNamesValue
world_names_value names = record { policy = names.policy.now; capture = names.capture.now }

-- a policy file holds a text that means the policy of the world
pub record HoldsPolicy (before after : Content) : Type 0 where
  pub text : List ℕ
  pub means : IsDocument text
  pub in_file : after ≡ content_after_write before text

-- a content that is as it was, or was created and holds a beginning of such a text
pub record HoldsPolicyPart (before after : Content) : Type 0 where
  pub text : List ℕ
  pub means : IsDocument text
  pub in_file : IsPartly text before after

-- a capture file holds a whole capture, in which each session begins if there are fewer records than the limit
pub record HoldsCapture (sessions : ℕ) (before after : Content) : Type 0 where
  pub octets : List ℕ
  pub records : List Record
  pub is_capture : IsCaptureOf records octets
  pub begins : length records < RECORD_LIMIT → BeginsEach sessions records
  pub in_file : after ≡ content_after_write before octets

-- a content that is as it was, or was created and holds a beginning of a capture
pub record HoldsCapturePart (before after : Content) : Type 0 where
  pub octets : List ℕ
  pub records : List Record
  pub is_capture : IsCaptureOf records octets
  pub in_file : IsPartly octets before after

module _ (sessions : ℕ) (names : WorldNamesValue) (before after : List ℕ → Content) where
  -- both files are whole
  pub record LeavesWorld : Type 0 where
    pub policy : HoldsPolicy (before names.policy) (after names.policy)
    pub capture : HoldsCapture sessions (before names.capture) (after names.capture)

  -- the policy may be in part and the capture is as it was
  pub record LeavesPolicyPart : Type 0 where
    pub policy : HoldsPolicyPart (before names.policy) (after names.policy)
    pub capture : after names.capture ≡ before names.capture

  -- the policy is whole and the capture may be in part
  pub record LeavesCapturePart : Type 0 where
    pub policy : HoldsPolicy (before names.policy) (after names.policy)
    pub capture : HoldsCapturePart (before names.capture) (after names.capture)

  -- what an answer leaves: after a fault nothing more was written
  abbrev pub MakesWorld : Result Unit WorldFault → Type 0
  MakesWorld (Ok _) = LeavesWorld
  MakesWorld (Err fault) = (after ≡ before) ⊎ (LeavesPolicyPart ⊎ LeavesCapturePart)
