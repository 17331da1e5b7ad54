-- Steps of the proof: what comes next in a capture: `IsNext`.
use Rattle.std.specs.Prelude.{◌≡◌, ◌≤◌, ◌<◌, ◌⊎◌, ℕ, ◌+◌, ◌*◌, List, length}
use Rattle.cf_pcap.specs.Header.{output_header}
use Rattle.cf_records.specs.Capture.{Record}
use Rattle.cf_hosts.specs.Sessions.{HasPacket, IsSyn}
use Rattle.cf_hosts.specs.declared.next.Next.{Next}
use Rattle.cf_hosts.specs.declared.next.Next.TheVariants as next
use Rattle.cf_hosts.specs.declared.next.TheConstants.{MOST_LOSSES}
use Rattle.cf_hosts.specs.declared.sending.Chance.{Chance}
use Rattle.cf_hosts.specs.declared.sending.Chance.TheVariants as chances

-- the record of a packet at a moment: its link kind is that of the header
abbrev pub made_record : (moment : ℕ) → (packet : List ℕ) → Record
made_record moment packet = record { stamp = moment; link = output_header.link; body = packet }

-- a packet that is sent after a moment, with which so many of the sessions have begun
pub record IsSent (begun sessions last moment after : ℕ) (packet : List ℕ) : Type 0 where
  pub later : last + 2000 ≤ moment
  pub soon : moment ≤ last + 10000000
  pub short : length packet ≤ 1500
  pub has : HasPacket (made_record moment packet)
  pub few : after ≤ sessions
  pub near : 20000 * after ≤ moment + 9000000
  pub begins : (session : ℕ) → session < after → (session < begun) ⊎ IsSyn session (made_record moment packet)

-- what comes of a host: a packet at that moment, with which no session begins, or one that may be lost
abbrev pub Speaks : (moment begun : ℕ) → (chance : Chance) → (packet : List ℕ) → Next → Type 0
Speaks moment begun chance packet (next.Sends at after) =
    (at ≡ moment) × (after ≡ begun) × (length packet ≤ 1500) × HasPacket (made_record moment packet)
Speaks moment begun chance packet next.Loses = chance ≡ chances.MayLose
Speaks moment begun chance packet next.Ends = ⊥

-- what comes next, where so many sessions have begun
abbrev pub IsNext : (begun sessions last losses : ℕ) → (packet : List ℕ) → Next → Type 0
IsNext begun sessions last losses packet (next.Sends moment after) = IsSent begun sessions last moment after packet
IsNext begun sessions last losses packet next.Loses = losses < MOST_LOSSES
IsNext begun sessions last losses packet next.Ends = sessions ≤ begun
