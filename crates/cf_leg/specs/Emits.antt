-- What a TCP end sends, `IsRight` of one event: its segments, given the events before it.
use Rattle.std.specs.Prelude.{MatchBool, ◌≡◌, ℕ, ◌+◌, ◌-◌, ◌%◌, ◌^◌, ◌<◌, ◌≤◌, ◌==◌, min, max, nat_lt, not, Bool, true, false, ◌&&◌, ◌||◌}
use Rattle.std.specs.Prelude.{if◌then◌else◌, List, [], ◌∷◌, length, Option, Some, None}
use Rattle.cf_packet.specs.Packet.{PacketValue}
use Rattle.cf_stream.specs.FirstCopy.{first_copy, IsTaken}
use Rattle.cf_stream.specs.Position.{sequence_number}
use Rattle.cf_stream.specs.Sizes.{window_size}
use Rattle.cf_stream.specs.Stream.{Stream, no_letters, letter_count, part}
use Rattle.cf_leg.specs.Event.{Came, Greeting, Ending, Unspoken, Spoke, Cut, LegEvent, is_settled, stream_after}
use Rattle.cf_leg.specs.Heard.{opened, owed, acked, shown, offers}
use Rattle.cf_leg.specs.Segment.{letters_of, segment}
use Rattle.cf_leg.specs.Timer.{fires, tries}
use Rattle.cf_leg.specs.Told.{greeting, is_greeted, own_number, peer_number, syn_ack, told, told_at, letters_sent, letters_sent_at}
use Rattle.cf_leg.specs.declared.ends.Ends.{Ends}
use Rattle.cf_leg.specs.declared.ends.Advertised.{Advertised}
use Rattle.cf_leg.specs.declared.ends.Way.{Way}
use Rattle.cf_leg.specs.declared.ends.Role.{Role}
use Rattle.cf_leg.specs.declared.ends.Role.TheVariants as role

-- the greatest text of a segment: the peer's maximum segment size, not below 64 and not above 1,460, and 536 where it
-- told none. RFC 9293, section 3.7.1; the bounds are this project's own
abbrev pub send_mss : Option ℕ → ℕ
send_mss None = 536
send_mss (Some mss) = min 1460 (max 64 mss)

-- the maximum segment size that a packet tells, if it does
abbrev pub mss_in : Option PacketValue → Option ℕ
mss_in None = None
mss_in (Some p) = p.mss

-- the maximum segment size that the peer told, if it did
abbrev pub peer_mss : Role → List LegEvent → Option ℕ
peer_mss (role.Active own) es = mss_in (syn_ack own es)
peer_mss (role.Passive other mss) es = mss

-- the endpoints of the end's segments, and the sequence numbers of both SYNs
abbrev pub way_of : Ends → List LegEvent → Way
way_of ends es = record { source = ends.own; dest = ends.peer; own = own_number ends.role es; other = peer_number ends.role es }

-- ---- greetings: the SYN of an active leg, the SYN ACK of a passive one

-- the SYN of an end, with a sequence number
abbrev pub syn : Ends → ℕ → PacketValue
syn ends number = record {
  source = ends.own;
  dest = ends.peer;
  seq = number;
  ack = 0;
  flags = 2;
  window = window_size;
  mss = Some 1460;
  text = [];
}

-- the SYN ACK of an end for a peer's SYN with the first number, with the second as its own
abbrev pub syn_ack_for : Ends → ℕ → ℕ → PacketValue
syn_ack_for ends other number = record {
  source = ends.own;
  dest = ends.peer;
  seq = number;
  ack = sequence_number other 0;
  flags = 18;
  window = window_size;
  mss = Some 1460;
  text = [];
}

-- the packet is the greeting of an end with this role: its SYN, or a SYN ACK with any number of its own
abbrev pub IsGreeting : Ends → Role → PacketValue → Type 0
IsGreeting ends (role.Active own) p = p ≡ syn ends own
IsGreeting ends (role.Passive other mss) p = p ≡ syn_ack_for ends other p.seq

-- ---- new letters

-- the letters of one segment: from a place on, below an edge, at most mss bytes, and End where it follows them below the
-- edge
abbrev pub piece : Stream → ℕ → ℕ → ℕ → Stream
piece whole mss edge from =
    let n = min mss (min edge (length whole.bytes) - from) in
    part whole from n (whole.ended && (((from + n) == length whole.bytes) && nat_lt (length whole.bytes) edge))

-- the segments carry the letters from a place on in pieces, until none below the edge is left
abbrev pub Pieces : Way → Advertised → Stream → ℕ → ℕ → ℕ → List PacketValue → Type 0
Pieces way t whole mss edge from [] = min edge (letter_count whole) ≤ from
Pieces way t whole mss edge from (p ∷ ps) =
    (from < min edge (letter_count whole))
    × (p ≡ segment way t (sequence_number way.own from) (piece whole mss edge from))
    × Pieces way t whole mss edge (from + letter_count (piece whole mss edge from)) ps

-- ---- the speech

-- what is to be told, once so many letters are taken
abbrev pub to_tell : Advertised → ℕ → Bool → Advertised
to_tell before count roomy = record { base = count; edge = if roomy then count + window_size else before.edge }

-- another base or another edge was told
abbrev pub differs : Advertised → Advertised → Bool
differs t u = not (t.base == u.base) || not (t.edge == u.edge)

-- an open leg sends every letter that the peer lets in; or, if there is none, an acknowledgment where one is owed or
-- something new is to be told
abbrev pub SaysIf : Way → Advertised → Bool → Stream → ℕ → ℕ → ℕ → List PacketValue → Type 0
SaysIf way t due whole mss edge from outs =
    MatchBool (nat_lt from (min edge (letter_count whole)))
    (Pieces way t whole mss edge from outs)
    (outs ≡ (if due then segment way t (sequence_number way.own from) no_letters ∷ [] else []))

-- what an end says, where an acknowledgment is due if one is owed, or if the base or the edge differs from what was told
abbrev pub Says : Way → Advertised → Advertised → Bool → Stream → ℕ → ℕ → ℕ → List PacketValue → Type 0
Says way before t owes whole mss edge from outs = SaysIf way t (owes || differs before t) whole mss edge from outs

-- what an open end says, after the letters that it has taken
pub record SpeaksOpen (ends : Ends) (es : List LegEvent) (e : LegEvent) (whole : Stream) (roomy : Bool) (outs : List PacketValue) : Type 0
  where
    -- the letters taken, those of the event included
    pub taken : Stream
    pub is_taken : IsTaken (first_copy (offers ends.role (e ∷ es))) taken
    pub says : Says (way_of ends (e ∷ es)) (told_at ends.role es e) (to_tell (told_at ends.role es e) (letter_count taken) roomy)
        (owed ends.role es e)
        whole (send_mss (peer_mss ends.role (e ∷ es))) (shown ends.role (e ∷ es)) (letters_sent_at ends.role es e) outs

-- an open end says so, and one that is not open sends nothing
abbrev pub Speaks : Ends → List LegEvent → LegEvent → Stream → Bool → List PacketValue → Type 0
Speaks ends es e whole roomy outs =
    MatchBool (opened ends.role (e ∷ es)) (SpeaksOpen ends es e whole roomy outs) (outs ≡ [])

-- ---- repeats

-- the segment that goes out at a firing: the SYN or the SYN ACK again; or the oldest letters that are not acknowledged,
-- of those that were sent; or, where all are, none with the number before the oldest one
abbrev pub again : Option PacketValue → List PacketValue
again None = []
again (Some p) = p ∷ []

-- the segment that an open end repeats
abbrev pub repeat_open : Ends → List LegEvent → PacketValue
repeat_open ends es =
    let from = acked ends.role es in
    let sent = letters_sent ends.role es in
    if nat_lt from sent
    then segment (way_of ends es) (told ends.role es) (sequence_number (own_number ends.role es) from)
    (piece (stream_after es) (send_mss (peer_mss ends.role es)) sent from)
    else segment (way_of ends es) (told ends.role es) ((own_number ends.role es + from) % 2 ^ 32) no_letters

-- the segments that an end repeats: one, or none where it has sent no greeting
abbrev pub repeats : Ends → List LegEvent → List PacketValue
repeats ends es = if opened ends.role es then repeat_open ends es ∷ [] else again (greeting es)

-- the packets of the first six firings since an answer
abbrev pub fired_at : Ends → List LegEvent → LegEvent → List PacketValue
fired_at ends es e = if fires ends.role es e && nat_lt (tries ends.role es) 6 then repeats ends es else []

-- ---- the RST of a cut

-- an RST with this sequence number, acknowledgment number and control bits
abbrev pub rst : Ends → ℕ → ℕ → ℕ → PacketValue
rst ends number ack flags = record {
  source = ends.own;
  dest = ends.peer;
  seq = number;
  ack = ack;
  flags = flags;
  window = 0;
  mss = None;
  text = [];
}

-- the packet of a cut: before a SYN ACK went out it answers the peer's SYN, and before one came it takes back the own SYN
abbrev pub cut_packet : Ends → List LegEvent → ℕ → ℕ → Role → PacketValue
cut_packet ends es from count (role.Active own) =
    if opened ends.role es then rst ends (sequence_number own from) (sequence_number (peer_number ends.role es) count) 20
    else rst ends (sequence_number own 0) 0 4
cut_packet ends es from count (role.Passive other mss) =
    if is_greeted es then rst ends (sequence_number (own_number ends.role es) from) (sequence_number other count) 20
    else rst ends 0 (sequence_number other 0) 20

-- the packet that tells the letters taken, those of the event included
pub record Cuts (ends : Ends) (es : List LegEvent) (e : LegEvent) (p : PacketValue) : Type 0 where
  pub taken : Stream
  pub is_taken : IsTaken (first_copy (offers ends.role (e ∷ es))) taken
  pub rst : p ≡ cut_packet ends (e ∷ es) (letters_sent_at ends.role es e) (letter_count taken) ends.role

-- ---- segments without letters

-- the number of letters of some segments, and of those of them that have none
abbrev pub letters_of_all : List PacketValue → ℕ
letters_of_all [] = 0
letters_of_all (p ∷ ps) = letters_of p + letters_of_all ps

abbrev pub empties : List PacketValue → ℕ
empties [] = 0
empties (p ∷ ps) = (if letters_of p == 0 then 1 else 0) + empties ps

-- ---- all of an event

-- a greeting is the one of the end's role, and the end has sent none before
abbrev pub Greets : Ends → List LegEvent → Came → Type 0
Greets ends es (Greeting p) = IsGreeting ends ends.role p × (is_greeted es ≡ false)
Greets ends es _ = Unit {0}

-- the end of an event: nothing is asked of one that is not over
abbrev pub EndsBy : Ends → List LegEvent → LegEvent → Ending → Type 0
EndsBy ends es e Unspoken = Unit {0}
EndsBy ends es e (Spoke whole roomy outs) = Speaks ends es e whole roomy outs
EndsBy ends es e (Cut p) = Cuts ends es e p

-- the events before are over, the clock call sent what is due, and the packet half did
pub record IsRight (ends : Ends) (es : List LegEvent) (e : LegEvent) : Type 0 where
  pub over : is_settled es ≡ true
  pub fired : e.fired ≡ fired_at ends es e
  pub came : Greets ends es e.came
  pub ending : EndsBy ends es e e.ending

-- every event is right after those before it
abbrev pub AllRight : Ends → List LegEvent → Type 0
AllRight ends [] = Unit {0}
AllRight ends (e ∷ es) = IsRight ends es e × AllRight ends es
