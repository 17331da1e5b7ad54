-- What the words ask for, `Command`, and what each command needs.
use Rattle.std.specs.Prelude.{ℕ, List, [], ◌∷◌, Option, None, Some}
use Rattle.cf_run.specs.RunCapture.{RunNamesValue}
use Rattle.cf_sift.specs.Names.{SiftNamesValue}

-- a command of the program, with the names of its files and its other words
pub data Command : Type 0 where
  Check : (policy : List ℕ) → Command
  Compare : (policy other : List ℕ) → Command
  Draft : (policy out : List ℕ) (captures : List (List ℕ)) → Command
  Judge : (policy capture : List ℕ) → Command
  Learn : (policy capture out : List ℕ) → Command
  Migrate : (policy out : List ℕ) → Command
  Packets : (capture : List ℕ) → Command
  Review : (policy : List ℕ) (captures : List (List ℕ)) (log : List ℕ) → Command
  Run : (policy : List ℕ) (names : RunNamesValue) → Command
  Relay : (policy asset : List ℕ) (port idles : ℕ) (log : List ℕ) → Command
  World : (seed sessions : ℕ) (policy : List ℕ) (names : RunNamesValue) → Command
  Sift : (policy asset : List ℕ) (client : ℕ) (names : SiftNamesValue) → Command

-- the file from which a command reads its policy; a world has one that it makes itself
abbrev pub policy_file : Command → Option (List ℕ)
policy_file (Check policy) = Some policy
policy_file (Compare policy other) = Some policy
policy_file (Draft policy out captures) = Some policy
policy_file (Judge policy capture) = Some policy
policy_file (Learn policy capture out) = Some policy
policy_file (Migrate policy out) = Some policy
policy_file (Packets capture) = None
policy_file (Review policy captures log) = Some policy
policy_file (Run policy names) = Some policy
policy_file (Relay policy asset port idles log) = Some policy
policy_file (World seed sessions policy names) = None
policy_file (Sift policy asset client names) = Some policy

-- the file from which it reads a second policy, after the first
abbrev pub other_file : Command → Option (List ℕ)
other_file (Compare policy other) = Some other
other_file _ = None

-- the asset that it needs of its policy
abbrev pub asset_name : Command → Option (List ℕ)
asset_name (Check policy) = None
asset_name (Compare policy other) = None
asset_name (Draft policy out captures) = None
asset_name (Judge policy capture) = None
asset_name (Learn policy capture out) = None
asset_name (Migrate policy out) = None
asset_name (Packets capture) = None
asset_name (Review policy captures log) = None
asset_name (Run policy names) = None
asset_name (Relay policy asset port idles log) = Some asset
asset_name (World seed sessions policy names) = None
asset_name (Sift policy asset client names) = Some asset

-- the file from which it reads its one capture; a world has one that it makes itself, and what is read as one recording has a list of captures
abbrev pub capture_file : Command → Option (List ℕ)
capture_file (Check policy) = None
capture_file (Compare policy other) = None
capture_file (Draft policy out captures) = None
capture_file (Judge policy capture) = Some capture
capture_file (Learn policy capture out) = Some capture
capture_file (Migrate policy out) = None
capture_file (Packets capture) = Some capture
capture_file (Review policy captures log) = None
capture_file (Run policy names) = Some names.capture
capture_file (Relay policy asset port idles log) = None
capture_file (World seed sessions policy names) = None
capture_file (Sift policy asset client names) = None

-- the captures that it reads as one recording
abbrev pub recording_files : Command → List (List ℕ)
recording_files (Draft policy out captures) = captures
recording_files (Review policy captures log) = captures
recording_files _ = []

-- the files that it reads: POLICY, the second policy, CAPTURE and STREAM
abbrev pub input_files : Command → List (List ℕ)
input_files (Check policy) = policy ∷ []
input_files (Compare policy other) = policy ∷ other ∷ []
input_files (Draft policy out captures) = policy ∷ captures
input_files (Judge policy capture) = policy ∷ capture ∷ []
input_files (Learn policy capture out) = policy ∷ capture ∷ []
input_files (Migrate policy out) = policy ∷ []
input_files (Packets capture) = capture ∷ []
input_files (Review policy captures log) = policy ∷ captures
input_files (Run policy names) = policy ∷ names.capture ∷ []
input_files (Relay policy asset port idles log) = policy ∷ []
input_files (World seed sessions policy names) = policy ∷ names.capture ∷ []
input_files (Sift policy asset client names) = policy ∷ names.stream ∷ []

-- the files that it may write
abbrev pub output_files : Command → List (List ℕ)
output_files (Check policy) = []
output_files (Compare policy other) = []
output_files (Draft policy out captures) = out ∷ []
output_files (Judge policy capture) = []
output_files (Learn policy capture out) = out ∷ []
output_files (Migrate policy out) = out ∷ []
output_files (Packets capture) = []
output_files (Review policy captures log) = log ∷ []
output_files (Run policy names) = names.out ∷ names.log ∷ []
output_files (Relay policy asset port idles log) = log ∷ []
output_files (World seed sessions policy names) = policy ∷ names.capture ∷ names.out ∷ names.log ∷ []
output_files (Sift policy asset client names) = names.out ∷ names.replies ∷ names.log ∷ []

-- a command that asks the pair of streams for something
abbrev pub AsksPair : Command → Type 0
AsksPair (Relay policy asset port idles log) = Unit {0}
AsksPair _ = ⊥
