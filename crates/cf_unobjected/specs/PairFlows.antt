-- Steps of the proof: the watched flows of one client and one site, by the packets that go from the one to the other, `pairs_on`; and
-- by the sessions whose packets these are, `sessions_on`.
use Rattle.std.specs.Prelude.{◌≡◌, ◌||◌, ℕ, Bool, false, true, List, [], ◌∷◌, map, if◌then◌else◌}
use Rattle.std.specs.List.{AllByRecursion}
use Rattle.cf_leg.specs.Emits.{syn}
use Rattle.cf_leg.specs.Segment.{has_ack, has_syn, letters_of, is_opening}
use Rattle.cf_packet.specs.Packet.{PacketValue}
use Rattle.cf_session.specs.Session.{Flow, controller_ends}
use Rattle.cf_stream.specs.Stream.{letter_count}
use Rattle.cf_watch.specs.Carried.{Carried}
use Rattle.cf_watch.specs.Watched.{Watched, begins_anew, begun_by, with_packet}
use Rattle.cf_unobjected.specs.OneFlow.{Numbered, carried_on}

-- a packet from the one end for the other; where it has SYN, it is the session's SYN, and without ACK it has no letters
pub record GoesTo (flow : Flow) (p : PacketValue) : Type 0 where
  pub source : p.source ≡ flow.syn.source
  pub dest : p.dest ≡ flow.site.first.endpoint
  pub greets : has_syn p ≡ true → p ≡ syn (controller_ends flow) flow.syn.seq
  pub answers : has_ack p ≡ false → letters_of p ≡ 0

-- the flows of a client and a site, the newest first, after one more packet of theirs
abbrev pub pair_on : (number asset : ℕ) → PacketValue → List Watched → List Watched
pair_on number asset p [] = if is_opening p then begun_by number asset p ∷ [] else []
pair_on number asset p (f ∷ fs) = if begins_anew p f then begun_by number asset p ∷ f ∷ fs else with_packet number p f ∷ fs

abbrev pub pairs_on : (asset : ℕ) → List Numbered → List Watched → List Watched
pairs_on asset [] fs = fs
pairs_on asset (n ∷ ns) fs = pairs_on asset ns (pair_on n.number asset n.packet fs)

-- no SYN comes after a packet with ACK
abbrev pub SynsFirst : (answered : Bool) → List PacketValue → Type 0
SynsFirst answered [] = Unit {0}
SynsFirst answered (p ∷ ps) = (has_syn p ≡ true → answered ≡ false) × SynsFirst (answered || has_ack p) ps

-- what a session sent to its controller: its SYN first, and no SYN after a packet with ACK
pub record Spoken : Type 0 where
  pub flow : Flow
  pub first : Numbered
  pub rest : List Numbered

pub record IsSpoken (s : Spoken) : Type 0 where
  pub greets : s.first.packet ≡ syn (controller_ends s.flow) s.flow.syn.seq
  pub goes : AllByRecursion (λ n. GoesTo s.flow n.packet) (s.first ∷ s.rest)
  pub order : SynsFirst false (map (λ n. n.packet) (s.first ∷ s.rest))

-- packets that were heard are what a session of this flow sent to its controller
pub record SpeaksAs (flow : Flow) (heard : List Numbered) : Type 0 where
  pub session : Spoken
  pub is_of : session.flow ≡ flow
  pub is_heard : heard ≡ session.first ∷ session.rest
  pub is_spoken : IsSpoken session

-- one session after the other
abbrev pub sessions_on : (asset : ℕ) → List Spoken → List Watched → List Watched
sessions_on asset [] fs = fs
sessions_on asset (s ∷ ss) fs = sessions_on asset ss (pairs_on asset (s.first ∷ s.rest) fs)

-- a flow carried the packets of a session of which this holds, and before them packets without letters
pub record IsOfSession (Q : Spoken → Type 0) (w : Watched) : Type 0 where
  pub session : Spoken
  pub holds : Q session
  pub silent : List Carried
  pub are_silent : AllByRecursion (λ c. letter_count c.text ≡ 0) silent
  pub is : w.carried ≡ carried_on session.flow.syn.seq silent (session.first ∷ session.rest)
