-- What the list of a pair's answers says, oldest first: the history, `history_of`; the client, the moments, what was given to a side,
-- which sides were closed, and how many answers Idle stand at its end.
use Rattle.cf_lane.specs.History.{Element, bytes_at, end_at, is_side}
use Rattle.cf_outside.specs.Pair.{Ended, Entry, Finished, Got, Idle, Met, Moment, Took}
use Rattle.cf_view.specs.declared.Endpoint.{Endpoint}
use Rattle.cf_view.specs.declared.Side.{Side}
use Rattle.std.specs.List.{flat_map, list_any}
use Rattle.std.specs.Prelude.{Bool, List, Option, [], false, if◌then◌else◌, max, option_map, suc, ℕ, ◌&&◌, ◌++◌, ◌∷◌}
use Rattle.cf_view.specs.declared.Side.TheVariants as side

-- the list with more answers, where it is told
abbrev pub with_answers : Option (List Entry) → List Entry → Option (List Entry)
with_answers told answers = option_map (λ entries. entries ++ answers) told

-- the clients met
abbrev pub met_in : Entry → List Endpoint
met_in (Met meeting) = meeting.client ∷ []
met_in (Moment moment) = []
met_in (Got s bytes) = []
met_in (Took s bytes) = []
met_in (Ended s) = []
met_in (Idle s) = []
met_in (Finished s) = []

-- nobody, before the meeting
abbrev pub first_of : List Endpoint → Endpoint
first_of [] = record { address = 0; port = 0 }
first_of (client ∷ clients) = client

-- the client of a list of answers: the first that was met
abbrev pub client_of : List Entry → Endpoint
client_of es = first_of (flat_map met_in es)

-- the moments told, in microseconds
abbrev pub told_in : Entry → List ℕ
told_in (Met meeting) = []
told_in (Moment moment) = moment ∷ []
told_in (Got s bytes) = []
told_in (Took s bytes) = []
told_in (Ended s) = []
told_in (Idle s) = []
told_in (Finished s) = []

-- the moments told by a list of answers
abbrev pub moments : List Entry → List ℕ
moments es = flat_map told_in es

-- the greatest of some moments, 0 where there is none
abbrev pub greatest : List ℕ → ℕ
greatest [] = 0
greatest (m ∷ ms) = max m (greatest ms)

-- the greatest moment told
abbrev pub moment_of : List Entry → ℕ
moment_of es = greatest (moments es)

-- the history: one element for each Got and each End, at the greatest moment told before it
abbrev pub element_of : (moment : ℕ) → Entry → List Element
element_of moment (Met meeting) = []
element_of moment (Moment other) = []
element_of moment (Got s bytes) = bytes_at moment s bytes ∷ []
element_of moment (Took s bytes) = []
element_of moment (Ended s) = end_at moment s ∷ []
element_of moment (Idle s) = []
element_of moment (Finished s) = []

-- the history of the later answers, after the earlier ones
abbrev pub history_after : (earlier later : List Entry) → List Element
history_after earlier [] = []
history_after earlier (e ∷ es) = element_of (moment_of earlier) e ++ history_after (earlier ++ e ∷ []) es

-- the history of a list of answers
abbrev pub history_of : List Entry → List Element
history_of es = history_after [] es

-- the bytes given to a side
abbrev pub given_in : Side → Entry → List ℕ
given_in s (Met meeting) = []
given_in s (Moment moment) = []
given_in s (Got of bytes) = []
given_in s (Took of bytes) = if is_side s of then bytes else []
given_in s (Ended of) = []
given_in s (Idle of) = []
given_in s (Finished of) = []

-- all bytes that were given to a side, in their order
abbrev pub given : Side → List Entry → List ℕ
given s es = flat_map (given_in s) es

-- the side was closed for sending
abbrev pub closes : Side → Entry → Bool
closes s (Met meeting) = false
closes s (Moment moment) = false
closes s (Got of bytes) = false
closes s (Took of bytes) = false
closes s (Ended of) = false
closes s (Idle of) = false
closes s (Finished of) = is_side s of

-- the side was closed for sending in the list
abbrev pub is_finished : Side → List Entry → Bool
is_finished s es = list_any (closes s) es

-- both sides were closed
abbrev pub are_finished : List Entry → Bool
are_finished es = is_finished side.Client es && is_finished side.Controller es

-- the number of answers Idle since the last Got, Took or End
abbrev pub idle_after : ℕ → Entry → ℕ
idle_after run (Met meeting) = run
idle_after run (Moment moment) = run
idle_after run (Got of bytes) = 0
idle_after run (Took of bytes) = 0
idle_after run (Ended of) = 0
idle_after run (Idle of) = suc run
idle_after run (Finished of) = run

-- that number after more answers
abbrev pub idles_after : ℕ → List Entry → ℕ
idles_after run [] = run
idles_after run (e ∷ es) = idles_after (idle_after run e) es

-- that number at the end of a list
abbrev pub idle_run : List Entry → ℕ
idle_run es = idles_after 0 es
