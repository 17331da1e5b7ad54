-- The words behind the name of each command, and the command that they are: `check_of` and its like.
use Rattle.std.specs.Prelude.{◌≢◌, ℕ, ◌-◌, ◌^◌, ◌≤◌, ◌&&◌, nat_le, Bool, List, [], ◌∷◌, length, Option, None, Some, if◌then◌else◌, option_and_then, option_map}
use Rattle.cf_policylang.specs.Numbers.{address}
use Rattle.cf_run.specs.RunCapture.{AreApart, RunNamesValue}
use Rattle.cf_sift.specs.Names.{SiftNamesValue}
use Rattle.cf_words.specs.Command.{Command, Check, Compare, Draft, Judge, Learn, Migrate, Packets, Relay, Review, Run, Sift, World}
use Rattle.cf_words.specs.Names.{are_names, printed_number_in}

-- the words after `check`: the name of a policy
abbrev pub check_of : List (List ℕ) → Option Command
check_of (policy ∷ []) = if are_names (policy ∷ []) then Some (Check policy) else None
check_of _ = None

-- the words after `compare`: the names of two policies
abbrev pub compare_of : List (List ℕ) → Option Command
compare_of (policy ∷ other ∷ []) = if are_names (policy ∷ other ∷ []) then Some (Compare policy other) else None
compare_of _ = None

-- one to 64 captures
abbrev pub are_few : List (List ℕ) → Bool
are_few captures = nat_le 1 (length captures) && nat_le (length captures) 64

-- the words after `draft`: the names of a policy, of the policy that is written, and of one to 64 captures
abbrev pub draft_of : List (List ℕ) → Option Command
draft_of (policy ∷ out ∷ captures) = if are_few captures && are_names (policy ∷ out ∷ captures) then Some (Draft policy out captures) else None
draft_of _ = None

-- the words after `judge`: the names of a policy and of a capture
abbrev pub judge_of : List (List ℕ) → Option Command
judge_of (policy ∷ capture ∷ []) = if are_names (policy ∷ capture ∷ []) then Some (Judge policy capture) else None
judge_of _ = None

-- the words after `learn`: the names of a policy, of a capture and of the policy that is written
abbrev pub learn_of : List (List ℕ) → Option Command
learn_of (policy ∷ capture ∷ out ∷ []) = if are_names (policy ∷ capture ∷ out ∷ []) then Some (Learn policy capture out) else None
learn_of _ = None

-- the words after `migrate`: the name of a policy and that of the policy that is written
abbrev pub migrate_of : List (List ℕ) → Option Command
migrate_of (policy ∷ out ∷ []) = if are_names (policy ∷ out ∷ []) then Some (Migrate policy out) else None
migrate_of _ = None

-- the words after `packets`: the name of a capture
abbrev pub packets_of : List (List ℕ) → Option Command
packets_of (capture ∷ []) = if are_names (capture ∷ []) then Some (Packets capture) else None
packets_of _ = None

-- the port is from 1 to 65,535, and the number of idle turns from 1 to 1,000,000
abbrev pub relay_of : List (List ℕ) → Option Command
relay_of (policy ∷ asset ∷ port ∷ idles ∷ log ∷ []) =
    if are_names (policy ∷ log ∷ []) then
    option_and_then (λ p. option_map (λ n. Relay policy asset p n log) (printed_number_in 1 1000000 idles)) (printed_number_in 1 65535 port)
    else None
relay_of _ = None

-- of a word and those behind it the last one, and those before that
abbrev pub last_word : (word : List ℕ) → (behind : List (List ℕ)) → List ℕ
last_word word [] = word
last_word word (next ∷ behind) = last_word next behind

abbrev pub words_before : (word : List ℕ) → (behind : List (List ℕ)) → List (List ℕ)
words_before word [] = []
words_before word (next ∷ behind) = word ∷ words_before next behind

-- a review of these captures, where each word is the name of a file
abbrev pub review_command : (policy : List ℕ) → (captures : List (List ℕ)) → (log : List ℕ) → (words : List (List ℕ)) → Option Command
review_command policy captures log words = if are_few captures && are_names words then Some (Review policy captures log) else None

-- the words after `review`: the names of a policy, of one to 64 captures, and last of a log
abbrev pub review_of : List (List ℕ) → Option Command
review_of (policy ∷ word ∷ behind) = review_command policy (words_before word behind) (last_word word behind) (policy ∷ word ∷ behind)
review_of _ = None

-- a run of these files, where each word is the name of one
abbrev pub run_command : (policy capture out log : List ℕ) → Option Command
run_command policy capture out log =
    if are_names (policy ∷ capture ∷ out ∷ log ∷ []) then Some (Run policy (record { capture = capture; out = out; log = log })) else None

-- the words after `run`: the names of a policy, of a capture and of two outputs
abbrev pub run_of : List (List ℕ) → Option Command
run_of (policy ∷ capture ∷ out ∷ log ∷ []) = run_command policy capture out log
run_of _ = None

-- CLIENT is an address, and the names of the files differ
abbrev pub sift_command : (policy asset client : List ℕ) → SiftNamesValue → Option Command
sift_command policy asset client names =
    if are_names (policy ∷ names.stream ∷ names.out ∷ names.replies ∷ names.log ∷ []) then
    option_map (λ c. Sift policy asset c names) (address client)
    else None

-- the words that name the stream and the three outputs
abbrev pub sift_names_of : List (List ℕ) → Option SiftNamesValue
sift_names_of (stream ∷ out ∷ replies ∷ log ∷ []) = Some (record { stream = stream; out = out; replies = replies; log = log })
sift_names_of _ = None

-- the words after `sift`: a policy, an asset, the address of a client, and the four files
abbrev pub sift_of : List (List ℕ) → Option Command
sift_of (policy ∷ asset ∷ client ∷ files) = option_and_then (sift_command policy asset client) (sift_names_of files)
sift_of _ = None

-- the seed has 64 bits, and the number of sessions is from 1 to 200
abbrev pub world_of : List (List ℕ) → Option Command
world_of (seed ∷ sessions ∷ policy ∷ capture ∷ out ∷ log ∷ []) =
    if are_names (policy ∷ capture ∷ out ∷ log ∷ []) then
    option_and_then (λ s. option_map (λ n. World s n policy (record { capture = capture; out = out; log = log }))
    (printed_number_in 1 200 sessions))
    (printed_number_in 0 (2 ^ 64 - 1) seed)
    else None
world_of _ = None

-- what the reader of the words has tested: the number of sessions, and that all four names differ
pub record IsFitWorld (sessions : ℕ) (policy : List ℕ) (names : RunNamesValue) : Type 0 where
  pub some : 1 ≤ sessions
  pub few : sessions ≤ 200
  pub apart : AreApart names
  pub policy_capture : policy ≢ names.capture
  pub policy_out : policy ≢ names.out
  pub policy_log : policy ≢ names.log
