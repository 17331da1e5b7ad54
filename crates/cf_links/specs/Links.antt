-- What links tell: one list of the answers of all sessions, in their order; and the part of it that is one session's. The main
-- definitions are `LinksEntry`, `answers_of`, and one relation for each call on a session. This project's own.
use Rattle.std.specs.Prelude.{◌≡◌, ◌≤◌, ◌==◌, ℕ, Bool, List, [], ◌∷◌, ◌++◌, Option, if◌then◌else◌, length, map, option_map, take}
use Rattle.std.specs.Borrow.{GName}
use Rattle.std.specs.List.{flat_map}
use Rattle.cf_outside.specs.Pair.{Ended, Entry, Finished, Got, Idle, Moment, Took, met_at}
use Rattle.cf_view.specs.declared.Endpoint.{Endpoint}
use Rattle.cf_view.specs.declared.Side.{Side}
use Rattle.cf_outside.specs.declared.files.WriteAnswer.{WriteAnswer}
use Rattle.cf_outside.specs.declared.files.WriteAnswer.TheVariants as write
use Rattle.cf_outside.specs.declared.pair.MomentAnswer.{MomentAnswer}
use Rattle.cf_outside.specs.declared.pair.MomentAnswer.TheVariants as moment
use Rattle.cf_outside.specs.declared.pair.TakeAnswer.{TakeAnswer}
use Rattle.cf_outside.specs.declared.pair.TakeAnswer.TheVariants as taken
use Rattle.cf_outside.specs.declared.pair.GiveAnswer.{GiveAnswer}
use Rattle.cf_outside.specs.declared.pair.GiveAnswer.TheVariants as given
use Rattle.cf_links.specs.declared.links.ReachAnswer.{ReachAnswer}
use Rattle.cf_links.specs.declared.links.ReachAnswer.TheVariants as reach

-- one answer: of the service as a whole, or of a session, named by its number
pub data LinksEntry : Type 0 where
  -- this machine listens at the place of this number, since a moment in microseconds
  Opened : (place moment : ℕ) → LinksEntry
  -- a wait is over, at a moment in microseconds: a round begins
  Woke : (moment : ℕ) → LinksEntry
  -- a client came to the listening place of this number, and is the session of that number from here on
  Came : (session place : ℕ) → (client : Endpoint) → LinksEntry
  -- something can move for a session, or a second has passed since its last turn
  Ready : (session : ℕ) → LinksEntry
  -- an answer of a session
  Of : (session : ℕ) → Entry → LinksEntry
  -- both connections of a session were closed
  Left : (session : ℕ) → LinksEntry

-- what it is to a session
abbrev pub answer_in : (session : ℕ) → LinksEntry → List Entry
answer_in session (Opened place moment) = []
answer_in session (Woke moment) = []
answer_in session (Came other place client) = []
answer_in session (Ready other) = []
answer_in session (Of other entry) = if other == session then entry ∷ [] else []
answer_in session (Left other) = []

-- the answers of one session, out of those of all
abbrev pub answers_of : (session : ℕ) → List LinksEntry → List Entry
answers_of session es = flat_map (answer_in session) es

-- what no call on a session changes: the sessions that the object has, the reference through which it reaches what is lent to it,
-- and how often a call that is of no session failed
pub record LinksPlace : Type 0 where
  pub serves : ℕ → Bool
  pub lender : Option GName
  pub round_faults : ℕ

-- the whole list, where it is told, as a session adds to it
pub record SessionTold : Type 0 where
  pub session : ℕ
  pub list : Option (List LinksEntry)

-- what a session told, with one answer more
abbrev pub with_entry : SessionTold → Entry → SessionTold
with_entry told entry = record { session = told.session; list = option_map (λ es. es ++ Of told.session entry ∷ []) told.list }

-- what a session told, with more answers
abbrev pub with_answers : SessionTold → List Entry → SessionTold
with_answers told answers = record { session = told.session; list = option_map (λ es. es ++ map (Of told.session) answers) told.list }

-- the controller is reached, for a client; until then nothing is told
abbrev pub Reaches : (listen : ℕ) → (peer : Endpoint) → SessionTold → SessionTold → ReachAnswer → Type 0
Reaches listen peer old new (reach.Met client) = new ≡ with_entry old (met_at listen peer client)
Reaches listen peer old new reach.Waiting = new ≡ old
Reaches listen peer old new reach.Gone = new ≡ old
Reaches listen peer old new reach.Failed = new ≡ old

-- the moment is told
abbrev pub TellsMoment : SessionTold → SessionTold → MomentAnswer → Type 0
TellsMoment old new (moment.Told now) = new ≡ with_entry old (Moment now)
TellsMoment old new moment.Failed = new ≡ old

-- what came stands at the front of the buffer
abbrev pub Takes : Side → List ℕ → SessionTold → SessionTold → TakeAnswer → Type 0
Takes side buffer old new (taken.Got n) = (1 ≤ n) × (n ≤ length buffer) × (new ≡ with_entry old (Got side (take n buffer)))
Takes side buffer old new taken.Idle = new ≡ with_entry old (Idle side)
Takes side buffer old new taken.End = new ≡ with_entry old (Ended side)
Takes side buffer old new taken.Failed = new ≡ old

-- the first bytes of what was handed went out
abbrev pub Gives : Side → List ℕ → SessionTold → SessionTold → GiveAnswer → Type 0
Gives side bytes old new (given.Took n) = (1 ≤ n) × (n ≤ length bytes) × (new ≡ with_entry old (Took side (take n bytes)))
Gives side bytes old new given.Idle = new ≡ with_entry old (Idle side)
Gives side bytes old new given.Failed = new ≡ old

-- a side is closed for sending
abbrev pub Finishes : Side → SessionTold → SessionTold → WriteAnswer → Type 0
Finishes side old new write.Done = new ≡ with_entry old (Finished side)
Finishes side old new write.Failed = new ≡ old
