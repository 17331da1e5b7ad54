-- What the events of a session send and log, half by half. The main definitions are `sent_first`, `sent_second`, `logged_first` and
-- `logged_second`.
use Rattle.std.specs.Prelude.{ℕ, Bool, not, ◌&&◌, if◌then◌else◌, List, [], ◌∷◌, ◌++◌, length, drop, map, Option, None, Some}
use Rattle.cf_audit.specs.Line.{Begun, Close, Cut as CutLine, WhatValue}
use Rattle.cf_audit.specs.declared.CutReason.{CutReason}
use Rattle.cf_lane.specs.Log.{line_about}
use Rattle.cf_leg.specs.Event.{LegEvent, greeted_by, is_idle, moment, said_by}
use Rattle.cf_packet.specs.Packet.{PacketValue}
use Rattle.cf_session.specs.Session.{Flow, SessionEvent, client_of, is_closed, was_closed, work_of}

-- a packet that goes out, and its moment in microseconds
pub record Sent : Type 0 where
  pub moment : ℕ
  pub packet : PacketValue

-- packets that go out at a moment
abbrev pub at : (now : ℕ) → List PacketValue → List Sent
at now packets = map (λ p. record { moment = now; packet = p }) packets

-- an event in which nothing came: it has its first half alone, in which a cut of it then falls
abbrev pub is_first_half : SessionEvent → Bool
is_first_half event = is_idle event.controller.came && is_idle event.client.came

-- ---- packets. What ends the event of a leg goes out in the event's last half

-- the segments of an end in the first half; `first` says that the event has no other half
abbrev pub early : (first : Bool) → LegEvent → List PacketValue
early first event = event.fired ++ (if first then said_by event.ending else [])

-- the segments of an end in the second half
abbrev pub late : (first : Bool) → LegEvent → List PacketValue
late first event = greeted_by event.came ++ (if first then [] else said_by event.ending)

-- the segments of each half, of which the controller's stand before the client's
abbrev pub sent_first : SessionEvent → List Sent
sent_first event = at event.client.tick (early (is_first_half event) event.controller ++ early (is_first_half event) event.client)

-- what the second half sends
abbrev pub sent_second : SessionEvent → List Sent
sent_second event = at (moment event.client) (late (is_first_half event) event.controller ++ late (is_first_half event) event.client)

-- ---- lines

-- a line that names the client and the first asset of the site
abbrev pub line : Flow → (now : ℕ) → WhatValue → List ℕ
line flow now what = line_about flow.site.first (client_of flow) now what

-- the line of a cut, if there is one
abbrev pub cut_line : Flow → (now : ℕ) → Option CutReason → List (List ℕ)
cut_line flow now None = []
cut_line flow now (Some because) = line flow now (CutLine because) ∷ []

-- the line of a cut of the first half
abbrev pub logged_first : Flow → SessionEvent → List (List ℕ)
logged_first flow event = if is_first_half event then cut_line flow event.client.tick event.cut else []

-- the lines of the items that the event completed
abbrev pub new_lines : (earlier : List SessionEvent) → SessionEvent → List (List ℕ)
new_lines earlier event = drop (length (work_of earlier).log) event.work.log

-- the line of a cut of the second half, or that of the closing
abbrev pub last_line : Flow → (earlier : List SessionEvent) → SessionEvent → Option CutReason → List (List ℕ)
last_line flow earlier event (Some because) = if is_first_half event then [] else line flow (moment event.client) (CutLine because) ∷ []
last_line flow earlier event None =
    if is_closed flow (event ∷ earlier) && not (was_closed flow earlier)
    then line flow (moment event.client) (Close event.work.admitted event.work.refused) ∷ [] else []

-- the line of the beginning
abbrev pub first_line : Flow → (earlier : List SessionEvent) → SessionEvent → List (List ℕ)
first_line flow [] event = line flow (moment event.client) Begun ∷ []
first_line flow (before ∷ earlier) event = []

-- the lines of the second half: that of the beginning, those of its items, and the last one
abbrev pub logged_second : Flow → (earlier : List SessionEvent) → SessionEvent → List (List ℕ)
logged_second flow earlier event = first_line flow earlier event ++ new_lines earlier event ++ last_line flow earlier event event.cut
