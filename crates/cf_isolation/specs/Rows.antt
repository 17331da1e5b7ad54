-- Beside the proof: a run of two clients worked by hand, evaluated, a check of the definitions alone: `RowsHold`. Of 10.0.0.5 a session
-- begins, its SYN goes out again, its client resets it, and another one begins; of 10.0.0.6 one goes on beside them. The packets are those
-- of RFC 9293, sections 3.5 and 3.10.7, with the wait of RFC 6298, section 5; the lines those of docs/LOG.md. That a run has such events is
-- what it proves of itself; here stands what the laws say of them.
use Rattle.cf_audit.specs.declared.CutReason.TheVariants as cut
use Rattle.cf_isolation.specs.Isolated.{HaveOneTime, NextEvent, began_at, seen_until, sent_in_time, sent_last}
use Rattle.cf_isolation.specs.Lines.{lines_naming, moment_in, names_of}
use Rattle.cf_isolation.specs.Lives.{HasLife, lines_in_life, own_logged, own_sent, records_in_life, sent_in_life}
use Rattle.cf_isolation.specs.Logged.{logged_in_time, logged_last}
use Rattle.cf_isolation.specs.Records.{records_between, sent_between}
use Rattle.cf_lane.specs.Rows.{modbus_asset}
use Rattle.cf_leg.specs.Event.{Cut, Greeting, Packet, Spoke, begun, clocked}
use Rattle.cf_packet.specs.Packet.{PacketValue}
use Rattle.cf_policy.specs.Site.{alone as site_alone}
use Rattle.cf_packet.specs.declared.PacketRefusal.TheVariants as refusal
use Rattle.cf_isolation.specs.ReadBack.{record_by}
use Rattle.cf_records.specs.Capture.{Record}
use Rattle.cf_run.specs.Isolation.{AreMatchedAlike, HasSession, session_logged, session_sent}
use Rattle.cf_run.specs.Sessions.{AreAlike, sessions_of}
use Rattle.cf_run.specs.Table.{Session}
use Rattle.cf_run.specs.Trace.{Begun, Dropped, RunEvent, Went, logged, sent, tick_of}
use Rattle.cf_session.specs.Sent.{Sent}
use Rattle.cf_session.specs.Session.{Flow, SessionEvent, client_of}
use Rattle.cf_session.specs.Work.{no_work}
use Rattle.cf_stream.specs.Stream.{no_letters}
use Rattle.cf_view.specs.declared.Endpoint.{Endpoint}
use Rattle.cf_view.specs.declared.LinkKind.TheVariants as link
use Rattle.std.specs.Prelude.{Err, List, None, Ok, Option, Some, [], codes, map, set, true, ℕ, ◌++◌, ◌-◌, ◌∷◌, ◌≡◌}

-- ---- packets

-- two clients, and the pump at 10.0.0.9:502
abbrev pub one : Endpoint
one = record { address = 0x0a000005; port = 49152 }

-- the client beside it
abbrev pub other : Endpoint
other = record { address = 0x0a000006; port = 49153 }

-- the end of the pump
abbrev pub pump : Endpoint
pump = modbus_asset.endpoint

-- a segment without text
abbrev pub segment : (source dest : Endpoint) → (seq ack flags window : ℕ) → (mss : Option ℕ) → PacketValue
segment source dest seq ack flags window mss = record {
  source = source;
  dest = dest;
  seq = seq;
  ack = ack;
  flags = flags;
  window = window;
  mss = mss;
  text = [];
}

-- the SYN of a client, and that of the box in its place
abbrev pub asks : Endpoint → (number : ℕ) → PacketValue
asks client number = segment client pump number 0 2 64240 None

-- the SYN of the box in the place of a client
abbrev pub greets : Endpoint → (number : ℕ) → PacketValue
greets client number = segment client pump number 0 2 16384 (Some 1460)

-- the RST of the client at the number behind its SYN, and those of the box to both sides, which answers a SYN with ACK
abbrev pub reset : PacketValue
reset = segment one pump 1001 0 4 0 None

-- the RST of the box to the client
abbrev pub reset_back : PacketValue
reset_back = segment pump one 0 1001 20 0 None

-- ---- events

-- the flow that a SYN of a client begins
abbrev pub flow : Endpoint → (number : ℕ) → Flow
flow client number = record { site = site_alone modbus_asset; syn = asks client number }

-- a session begins; it waits, and its SYN may go out again; its client resets it
abbrev pub begins : Endpoint → (number tick : ℕ) → SessionEvent
begins client number tick = record {
  controller = record (begun tick) { came = Greeting (greets client number); ending = Spoke no_letters true [] };
  client = begun tick;
  fed = [];
  work = no_work;
  cut = None;
}

-- a first half, in which the SYN may go out again
abbrev pub waits : (tick : ℕ) → (fired : List PacketValue) → SessionEvent
waits tick fired = record { controller = clocked tick fired; client = clocked tick []; fed = []; work = no_work; cut = None }

-- the event of the reset
abbrev pub resets : (tick : ℕ) → (fired : List PacketValue) → SessionEvent
resets tick fired = record {
  controller = record (clocked tick fired) { ending = Cut reset };
  client = record (clocked tick []) { came = Packet reset; ending = Cut reset_back };
  fed = [];
  work = no_work;
  cut = Some cut.ResetByClient;
}

-- a client's SYN begins a session, where each of the others has its first half
abbrev pub begun_by : Endpoint → (number moment : ℕ) → (ticks : List SessionEvent) → RunEvent
begun_by client number moment ticks =
    record {
      input = record { moment = moment; packet = Ok (asks client number) };
      ticks = ticks;
      received = Begun (flow client number) (begins client number (moment - 1));
    }

-- the event in which the first session begins
abbrev pub first : RunEvent
first = begun_by one 1000 1000000 []

-- the event in which that of the other client begins
abbrev pub second : RunEvent
second = begun_by other 2000 2000000 (waits 1999999 [] ∷ [])

-- the reset goes to the first session; its SYN, sent at 1.000000, went out again before it
abbrev pub third_with : (others : List SessionEvent) → RunEvent
third_with others = record {
  input = record { moment = 3000000; packet = Ok reset };
  ticks = waits 2999999 (greets one 1000 ∷ []) ∷ others;
  received = Went 0 (resets 2999999 (greets one 1000 ∷ []));
}

-- the event of the reset, beside the other session
abbrev pub third : RunEvent
third = third_with (waits 2999999 [] ∷ [])

-- the event in which the one client begins anew
abbrev pub fourth : RunEvent
fourth = begun_by one 5000 4000000 (waits 3999999 (greets other 2000 ∷ []) ∷ [])

-- all events, the newest first
abbrev pub events : List RunEvent
events = fourth ∷ third ∷ second ∷ first ∷ []

-- the same run without the other client: in the place of its SYN stands a record that is no packet
abbrev pub dropped : RunEvent
dropped = record {
  input = record { moment = 2000000; packet = Err refusal.NotTcp };
  ticks = waits 1999999 [] ∷ [];
  received = Dropped;
}

-- the events of that run
abbrev pub alone : List RunEvent
alone = begun_by one 5000 4000000 [] ∷ third_with [] ∷ dropped ∷ first ∷ []

-- ---- what goes out

-- a packet that goes out at a moment
abbrev pub at : ℕ → PacketValue → Sent
at moment packet = record { moment = moment; packet = packet }

-- of the first session of the one client, up to the reset and whole; of its second session; and of the other client
abbrev pub of_first_half : List Sent
of_first_half = at 1000000 (greets one 1000) ∷ []

-- packets of the first session
abbrev pub of_first : List Sent
of_first =
    at 1000000 (greets one 1000) ∷ at 2999999 (greets one 1000) ∷ at 3000000 reset ∷ at 3000000 reset_back ∷ []

-- packets of the second session of the one client
abbrev pub of_next : List Sent
of_next = at 4000000 (greets one 5000) ∷ []

-- packets of the other client
abbrev pub of_other : List Sent
of_other = at 2000000 (greets other 2000) ∷ at 3999999 (greets other 2000) ∷ []

-- lines of the first session
abbrev pub first_lines : List (List ℕ)
first_lines = codes "1.000000 10.0.0.5:49152 pump open\n" ∷ codes "3.000000 10.0.0.5:49152 pump cut client reset\n" ∷ []

-- the line of the second one
abbrev pub next_lines : List (List ℕ)
next_lines = codes "4.000000 10.0.0.5:49152 pump open\n" ∷ []

-- the line of the other client
abbrev pub other_lines : List (List ℕ)
other_lines = codes "2.000000 10.0.0.6:49153 pump open\n" ∷ []

-- the records of the output capture
abbrev pub records : List Record
records = map record_by (sent events)

-- the first record, octet by octet
abbrev pub first_octets : List ℕ
first_octets =
    0x45 ∷ 0x00 ∷ 0x00 ∷ 0x2c ∷ 0x00 ∷ 0x00 ∷ 0x40 ∷ 0x00 ∷ 0x40 ∷ 0x06 ∷ 0x26 ∷ 0xbf ∷ 0x0a ∷ 0x00 ∷ 0x00 ∷ 0x05 ∷ 0x0a ∷ 0x00 ∷ 0x00 ∷ 0x09 ∷ 0xc0 ∷ 0x00 ∷ 0x01 ∷ 0xf6 ∷ 0x00 ∷ 0x00
    ∷ 0x03 ∷ 0xe8 ∷ 0x00 ∷ 0x00 ∷ 0x00 ∷ 0x00 ∷ 0x60 ∷ 0x02 ∷ 0x40 ∷ 0x00 ∷ 0x7e ∷ 0x3a ∷ 0x00 ∷ 0x00 ∷ 0x02 ∷ 0x04 ∷ 0x05 ∷ 0xb4 ∷ []

-- ---- rows

-- a session, of which some events are considered: what was sent and logged in its time is its own
pub record Shows (flow : Flow) (seen : ℕ) (own : List Sent) (own_lines : List (List ℕ)) : Type 0 where
  pub has : HasSession flow events
  pub seen_is : seen_until has ≡ seen
  pub sent_is : sent_in_time flow has ≡ own
  pub own_is : session_sent flow has ≡ own
  pub records_are : records_between (client_of flow) pump (began_at has) (seen_until has) records ≡ map record_by own
  pub lines_are : logged_in_time flow has ≡ own_lines
  pub own_lines_are : session_logged flow has ≡ own_lines

-- the same up to the first half of the next event
pub record ShowsNext (flow : Flow) (own last : List Sent) (own_lines last_lines : List (List ℕ)) : Type 0 where
  pub has : HasSession flow events
  pub behind : NextEvent has
  pub own_is : session_sent flow has ≡ own
  pub last_is : sent_last flow has behind ≡ last
  pub sent_is : sent_between (client_of flow) pump (began_at has) (tick_of behind.next.input) (sent events) ≡ own ++ last
  pub own_lines_are : session_logged flow has ≡ own_lines
  pub last_lines_are : logged_last flow has behind ≡ last_lines
  pub lines_are :
      lines_naming (client_of flow) (names_of flow.site) (began_at has) (tick_of behind.next.input) (logged events) ≡ own_lines ++ last_lines

-- a session in its whole life
pub record Lives (session : Session) (own : List Sent) (own_lines : List (List ℕ)) : Type 0 where
  pub life : HasLife session events
  pub sent_is : sent_in_life session life ≡ own
  pub own_is : own_sent session.events ≡ own
  pub records_are : records_in_life session life records ≡ map record_by own
  pub lines_are : lines_in_life session life ≡ own_lines
  pub own_lines_are : own_logged session.flow session.events ≡ own_lines

-- a session of both runs, which has one time in them and is matched alike, so that the same is sent and logged
pub record ShowsBoth (flow : Flow) : Type 0 where
  pub one : HasSession flow events
  pub other : HasSession flow alone
  pub one_time : HaveOneTime flow one other
  pub alike : AreMatchedAlike (modbus_asset ∷ []) flow one other
  pub sent_is : sent_in_time flow one ≡ of_first
  pub other_is : sent_in_time flow other ≡ of_first
  pub lines_are : logged_in_time flow one ≡ first_lines
  pub other_lines_are : logged_in_time flow other ≡ first_lines

-- the three sessions, in the order in which they left, or stand in the table
abbrev pub first_session : Session
first_session = record { flow = flow one 1000; events = resets 2999999 (greets one 1000 ∷ []) ∷ waits 1999999 [] ∷ begins one 1000 999999 ∷ [] }

-- the session of the other client
abbrev pub other_session : Session
other_session = record {
  flow = flow other 2000;
  events = waits 3999999 (greets other 2000 ∷ []) ∷ waits 2999999 [] ∷ begins other 2000 1999999 ∷ [];
}

-- the second session of the one client
abbrev pub next_session : Session
next_session = record { flow = flow one 5000; events = begins one 5000 3999999 ∷ [] }

pub record RowsHold : Type 0 where
  -- all that is sent and logged, in the order of the moments
  pub all_sent :
      sent events
      ≡ at 1000000 (greets one 1000) ∷ at 2000000 (greets other 2000) ∷ at 2999999 (greets one 1000) ∷ at 3000000 reset
      ∷ at 3000000 reset_back ∷ at 3999999 (greets other 2000) ∷ at 4000000 (greets one 5000) ∷ []
  pub all_logged :
      logged events
      ≡ codes "1.000000 10.0.0.5:49152 pump open\n" ∷ codes "2.000000 10.0.0.6:49153 pump open\n"
      ∷ codes "3.000000 10.0.0.5:49152 pump cut client reset\n" ∷ codes "4.000000 10.0.0.5:49152 pump open\n" ∷ []
  -- each session has its own part of both, and no other's
  pub shows_first : Shows (flow one 1000) 3000000 of_first first_lines
  pub shows_other : Shows (flow other 2000) 4000000 of_other other_lines
  pub shows_next : Shows (flow one 5000) 4000000 of_next next_lines
  -- up to the first half of the event of the reset: the SYN that goes out again is in it
  pub shows_to_the_next :
      ShowsNext (flow one 1000) of_first_half (at 2999999 (greets one 1000) ∷ []) (codes "1.000000 10.0.0.5:49152 pump open\n" ∷ []) []
  -- the sessions and their lives
  pub sessions : sessions_of events ≡ first_session ∷ other_session ∷ next_session ∷ []
  pub first_lives : Lives first_session of_first first_lines
  pub other_lives : Lives other_session of_other other_lines
  pub next_lives : Lives next_session of_next next_lines
  -- the other run has the first session alike, where the client resets it there too, and not where it does not
  pub shows_both : ShowsBoth (flow one 1000)
  pub alike_sessions : AreAlike first_session first_session
  pub unlike_sessions : AreAlike first_session next_session → ⊥
  -- the first record, octet by octet; with another octet it is no packet of theirs
  pub first_record : records_between one pump 0 1000000 records ≡ record { stamp = 1000000; link = link.RawIp; body = first_octets } ∷ []
  pub changed : records_between one pump 0 1000000 (record { stamp = 1000000; link = link.RawIp; body = set first_octets 27 233 } ∷ []) ≡ []
  -- a line's moment, and lines of another port, another asset or another time
  pub moment : moment_in (codes "1.000002 10.0.0.5:49152 pump open\n") ≡ 1000002
  pub other_port : lines_naming (record one { port = 4915 }) (codes "pump" ∷ []) 0 5000000 (logged events) ≡ []
  pub other_asset : lines_naming one (codes "pum" ∷ []) 0 5000000 (logged events) ≡ []
  pub other_names : lines_naming one (codes "pum" ∷ codes "pump" ∷ []) 0 2000000 (logged events) ≡ codes "1.000000 10.0.0.5:49152 pump open\n" ∷ []
  pub other_time : lines_naming one (codes "pump" ∷ []) 1000001 2999999 (logged events) ≡ []
