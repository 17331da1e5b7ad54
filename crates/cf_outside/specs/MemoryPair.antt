-- Beside the proof: what a pair in memory holds, `MemoryPairValue`, and what the calls do to it: `MemoryMeets`, `MemoryTellsMoment`,
-- `MemoryTakes`, `MemoryGives` and `MemoryFinishes`, one for each call.
use Rattle.std.specs.Prelude.{◌≡◌, ◌⊎◌, ◌≤◌, ℕ, ◌+◌, min, Bool, false, IsTrue, None, IsSome}
use Rattle.std.specs.Prelude.{List, [], ◌∷◌, ◌++◌, length, take, drop, map}
use Rattle.cf_view.specs.declared.Endpoint.{Endpoint}
use Rattle.cf_view.specs.declared.Side.{Side}
use Rattle.cf_view.specs.declared.Side.TheVariants as side
use Rattle.cf_outside.specs.Faults.{counted}
use Rattle.cf_outside.specs.Memory.{Counts, next_fail, after_call, after_fault, after_lack, move_limit, names_call, moment_at}
use Rattle.cf_outside.specs.Pair.{Entry, Met, Moment, Got, Took, Ended, Idle, Finished, met_at}
use Rattle.cf_outside.specs.declared.files.WriteAnswer.{WriteAnswer}
use Rattle.cf_outside.specs.declared.files.WriteAnswer.TheVariants as write
use Rattle.cf_outside.specs.declared.pair.MeetAnswer.{MeetAnswer}
use Rattle.cf_outside.specs.declared.pair.MeetAnswer.TheVariants as met
use Rattle.cf_outside.specs.declared.pair.MomentAnswer.{MomentAnswer}
use Rattle.cf_outside.specs.declared.pair.MomentAnswer.TheVariants as moment
use Rattle.cf_outside.specs.declared.pair.TakeAnswer.{TakeAnswer}
use Rattle.cf_outside.specs.declared.pair.TakeAnswer.TheVariants as taken
use Rattle.cf_outside.specs.declared.pair.GiveAnswer.{GiveAnswer}
use Rattle.cf_outside.specs.declared.pair.GiveAnswer.TheVariants as given
use Rattle.cf_outside.specs.declared.pair.Told.{Told}
use Rattle.cf_outside.specs.declared.pair.Told.TheVariants as told
use Rattle.cf_outside.specs.declared.memory_pair.MemoryPair.{MemoryPair}
use Rattle.cf_outside.specs.declared.memory_pair.Move.{Move}
use Rattle.cf_outside.specs.declared.memory_pair.Move.TheVariants as move

-- an answer that was kept, with its bytes as a list
abbrev pub entry_value : Told → Entry
entry_value (told.Met meeting) = Met meeting
entry_value (told.Moment now) = Moment now
entry_value (told.Got side bytes) = Got side bytes.items
entry_value (told.Took side bytes) = Took side bytes.items
entry_value (told.End side) = Ended side
entry_value (told.Idle side) = Idle side
entry_value (told.Finished side) = Finished side

-- the answers that were kept
abbrev pub entry_values : List Told → List Entry
entry_values = map entry_value

-- the fields of a pair in memory, with lists in place of vectors
pub record MemoryPairValue : Type 0 where
  pub client : Endpoint
  pub from_client : List ℕ
  pub from_controller : List ℕ
  pub pieces : List ℕ
  pub moments : List ℕ
  pub idle : List ℕ
  pub entries : List Entry
  pub idles : ℕ
  pub client_taken : ℕ
  pub controller_taken : ℕ
  pub moves : ℕ
  pub moments_told : ℕ
  pub counts : Counts

abbrev pub memory_pair_value : MemoryPair → MemoryPairValue
memory_pair_value pair = record {
  client = pair.client;
  from_client = pair.from_client.items;
  from_controller = pair.from_controller.items;
  pieces = pair.pieces.items;
  moments = pair.moments.items;
  idle = pair.idle.items;
  entries = entry_values pair.told.items;
  idles = pair.idles;
  client_taken = pair.client_taken;
  controller_taken = pair.controller_taken;
  moves = pair.moves;
  moments_told = pair.moments_told;
  counts = record { fails = pair.fails.items; calls = pair.calls; faults = pair.faults; lacks = pair.lacks };
}

-- a client at 0.0.0.0:0, nothing to take, no script, and every count 0
abbrev pub empty_pair : MemoryPairValue
empty_pair = record {
  client = record { address = 0; port = 0 };
  from_client = [];
  from_controller = [];
  pieces = [];
  moments = [];
  idle = [];
  entries = [];
  idles = 0;
  client_taken = 0;
  controller_taken = 0;
  moves = 0;
  moments_told = 0;
  counts = record { fails = []; calls = 0; faults = 0; lacks = 0 };
}

-- what a side sends and was not taken
abbrev pub left_of : MemoryPairValue → Side → List ℕ
left_of pair side.Client = drop pair.client_taken pair.from_client
left_of pair side.Controller = drop pair.controller_taken pair.from_controller

-- a pair of which so many bytes more were taken
abbrev pub with_taken : Side → ℕ → MemoryPairValue → MemoryPairValue
with_taken side.Client n pair = record pair { client_taken = pair.client_taken + n }
with_taken side.Controller n pair = record pair { controller_taken = pair.controller_taken + n }

-- a pair that counts one move more
abbrev pub with_move : MemoryPairValue → MemoryPairValue
with_move pair = record pair { moves = counted pair.moves }

-- a pair that counts a failure for want of memory, in a call that is counted
abbrev pub with_lack : MemoryPairValue → MemoryPairValue
with_lack pair = record pair {
  counts = record {
    fails = pair.counts.fails;
    calls = pair.counts.calls;
    faults = counted pair.counts.faults;
    lacks = counted
        pair.counts.lacks;
  };
}

-- a pair that counts one idle answer more
abbrev pub with_idle : MemoryPairValue → MemoryPairValue
with_idle pair = record pair { idles = counted pair.idles }

-- a pair that counts one moment more
abbrev pub with_moment : MemoryPairValue → MemoryPairValue
with_moment pair = record pair { moments_told = counted pair.moments_told }

-- a pair after a call that was answered
abbrev pub with_answer : Entry → MemoryPairValue → MemoryPairValue
with_answer entry pair = record pair { entries = pair.entries ++ entry ∷ []; counts = after_call pair.counts }

-- a call that fails: its number is scripted, or else memory ran out; nothing was told, taken or given
abbrev pub MemoryFails : MemoryPairValue → MemoryPairValue → Type 0
MemoryFails old new =
    (IsSome (next_fail old.counts) × (new ≡ record old { counts = after_fault old.counts }))
    ⊎ ((next_fail old.counts ≡ None) × (new ≡ record old { counts = after_lack old.counts }))

-- whether the script has the next call answer that nothing came or went
abbrev pub is_idle : MemoryPairValue → Bool
is_idle pair = names_call pair.idle (counted pair.counts.calls)

-- a take or a give before it moves a byte: it fails or is idle, or it is counted and goes on
abbrev pub BeginsMove : Side → MemoryPair → MemoryPair → Move → Type 0
BeginsMove side old new move.Fails = MemoryFails (with_move (memory_pair_value old)) (memory_pair_value new)
BeginsMove side old new move.Idles =
    (next_fail (memory_pair_value old).counts ≡ None) × IsTrue (is_idle (memory_pair_value old))
    × (memory_pair_value new ≡ with_answer (Idle side) (with_idle (with_move (memory_pair_value old))))
BeginsMove side old new move.Goes =
    (next_fail (memory_pair_value old).counts ≡ None) × (is_idle (memory_pair_value old) ≡ false)
    × (new ≡ record old { calls = counted old.calls; moves = counted old.moves })

-- the client is met, whatever the port and the peer
abbrev pub MemoryMeets : (listen : ℕ) → (peer : Endpoint) → MemoryPairValue → MemoryPairValue → MeetAnswer → Type 0
MemoryMeets listen peer old new (met.Met client) =
    (next_fail old.counts ≡ None) × (client ≡ old.client) × (new ≡ with_answer (met_at listen peer client) old)
MemoryMeets listen peer old new met.Failed = MemoryFails old new

-- the next moment is told; one that could not be told is told again
abbrev pub MemoryTellsMoment : MemoryPairValue → MemoryPairValue → MomentAnswer → Type 0
MemoryTellsMoment old new (moment.Told now) =
    (next_fail old.counts ≡ None) × (now ≡ moment_at old.moments old.moments_told) × (new ≡ with_answer (Moment now) (with_moment old))
MemoryTellsMoment old new moment.Failed = MemoryFails old new

-- the bytes that a move moves of so many, at most
abbrev pub moved_of : MemoryPairValue → ℕ → ℕ
moved_of pair count = min count (move_limit pair.pieces (counted pair.moves))

-- the next bytes of a side are taken into the front of a buffer, which keeps what stood after them
abbrev pub MemoryTakes : Side → List ℕ → List ℕ → MemoryPairValue → MemoryPairValue → TakeAnswer → Type 0
MemoryTakes side before after old new (taken.Got n) =
    (next_fail old.counts ≡ None) × (is_idle old ≡ false) × (1 ≤ n) × (n ≡ moved_of old (min (length (left_of old side)) (length before)))
    × (after ≡ take n (left_of old side) ++ drop n before)
    × (new ≡ with_answer (Got side (take n (left_of old side))) (with_taken side n (with_move old)))
MemoryTakes side before after old new taken.Idle =
    (next_fail old.counts ≡ None) × IsTrue (is_idle old) × (after ≡ before) × (new ≡ with_answer (Idle side) (with_idle (with_move old)))
MemoryTakes side before after old new taken.End =
    (next_fail old.counts ≡ None) × (is_idle old ≡ false) × (left_of old side ≡ []) × (after ≡ before)
    × (new ≡ with_answer (Ended side) (with_move old))
MemoryTakes side before after old new taken.Failed = (after ≡ before) × MemoryFails (with_move old) new

-- a pair with one answer more, in a call that is counted already
abbrev pub with_told : Entry → MemoryPairValue → MemoryPairValue
with_told entry pair = record pair { entries = pair.entries ++ entry ∷ [] }

-- a take in a call that is counted already, and neither fails by the script nor is idle
abbrev pub TakesLeft : Side → List ℕ → List ℕ → MemoryPairValue → MemoryPairValue → TakeAnswer → Type 0
TakesLeft side before after old new (taken.Got n) =
    (1 ≤ n) × (n ≡ min (min (length (left_of old side)) (length before)) (move_limit old.pieces old.moves))
    × (after ≡ take n (left_of old side) ++ drop n before)
    × (new ≡ with_told (Got side (take n (left_of old side))) (with_taken side n old))
TakesLeft side before after old new taken.Idle = ⊥
TakesLeft side before after old new taken.End = (left_of old side ≡ []) × (after ≡ before) × (new ≡ with_told (Ended side) old)
TakesLeft side before after old new taken.Failed = (after ≡ before) × (new ≡ with_lack old)

-- the first bytes of what is given go out
abbrev pub MemoryGives : Side → List ℕ → MemoryPairValue → MemoryPairValue → GiveAnswer → Type 0
MemoryGives side bytes old new (given.Took n) =
    (next_fail old.counts ≡ None) × (is_idle old ≡ false) × (1 ≤ n) × (n ≡ moved_of old (length bytes))
    × (new ≡ with_answer (Took side (take n bytes)) (with_move old))
MemoryGives side bytes old new given.Idle =
    (next_fail old.counts ≡ None) × IsTrue (is_idle old) × (new ≡ with_answer (Idle side) (with_idle (with_move old)))
MemoryGives side bytes old new given.Failed = MemoryFails (with_move old) new

-- a side is closed for sending
abbrev pub MemoryFinishes : Side → MemoryPairValue → MemoryPairValue → WriteAnswer → Type 0
MemoryFinishes side old new write.Done = (next_fail old.counts ≡ None) × (new ≡ with_answer (Finished side) old)
MemoryFinishes side old new write.Failed = MemoryFails old new
