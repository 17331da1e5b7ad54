-- What a leg can always do: fire, be cut, greet and speak.
use Rattle.std.proofs.Common.{◌≡◌, ◌<◌, min, ℕ, Bool, true, false, cond, ◌||◌, List, [], ◌∷◌, Option, Some, None, refl, subst, arith}
use Rattle.std.specs.Prelude.{MatchBool, nat_lt}
use Rattle.cf_leg.proofs.Saying.{all_pieces, send_mss_some}
use Rattle.cf_leg.specs.Emits.{IsRight, Pieces, SaysIf, SpeaksOpen, cut_packet, differs, fired_at, peer_mss, send_mss, syn_ack_for, to_tell, way_of}
use Rattle.cf_leg.specs.Event.{Came, Cut, Greeting, LegEvent, Nothing, Spoke, Unspoken, clocked, is_settled}
use Rattle.cf_leg.specs.Heard.{offers, opened, owed, shown}
use Rattle.cf_leg.specs.LegValue.{LegValue}
use Rattle.cf_leg.specs.Segment.{segment}
use Rattle.cf_leg.specs.Told.{is_greeted, letters_sent_at, told_at}
use Rattle.cf_leg.specs.declared.Advertised.{Advertised}
use Rattle.cf_leg.specs.declared.Ends.{Ends}
use Rattle.cf_leg.specs.declared.Role.{Role}
use Rattle.cf_leg.specs.declared.Role.TheVariants as role
use Rattle.cf_leg.specs.declared.Way.{Way}
use Rattle.cf_outq.specs.SendQueue.{Queue}
use Rattle.cf_packet.specs.Packet.{PacketValue}
use Rattle.cf_stream.specs.FirstCopy.{IsTaken, first_copy}
use Rattle.cf_stream.specs.Position.{sequence_number}
use Rattle.cf_stream.specs.Stream.{Stream, letter_count, no_letters}
use Rattle.cf_view.specs.declared.Endpoint.{Endpoint}
use Rattle.cf_session.proofs.Legs.{right_of}
use Rattle.cf_session.specs.Parts.{IsLegBetween}
use Rattle.cf_session.specs.Session.{Flow, client_ends}
use Rattle.cf_session.specs.Turn.{MayGreet, came_greeted}

abbrev pub ends_by : Endpoint → Endpoint → Role → Ends
ends_by own peer r = record { own = own; peer = peer; role = r }

-- ---- the clock

pub can_fire : (ends : Ends) (es : List LegEvent) (now : ℕ) → is_settled es ≡ true → IsRight ends es (clocked now (fired_at ends es (clocked now [])))
can_fire ends es now settled = record { over = settled; fired = refl; came = tt; ending = tt }

-- ---- a cut

pub can_cut : (own peer : Endpoint) (r : Role) (es : List LegEvent) (e : LegEvent) (taken : Stream) → IsRight (ends_by own peer r) es (record e { ending = Unspoken }) →
    IsTaken (first_copy (offers r (record e { ending = Unspoken } ∷ es))) taken → (rst : PacketValue) × IsRight (ends_by own peer r) es (record e { ending = Cut rst })
can_cut own peer (role.Active n) es e taken h is =
    let half : LegEvent = record e { ending = Unspoken } in
    let rst : PacketValue = cut_packet (ends_by own peer (role.Active n)) (half ∷ es) (letters_sent_at (role.Active n) es half) (letter_count taken) (role.Active n) in
    (rst, record { over = h.over; fired = h.fired; came = h.came; ending = record { taken = taken; is_taken = is; rst = refl } })
can_cut own peer (role.Passive n m) es e taken h is =
    let half : LegEvent = record e { ending = Unspoken } in
    let rst : PacketValue = cut_packet (ends_by own peer (role.Passive n m)) (half ∷ es) (letters_sent_at (role.Passive n m) es half) (letter_count taken) (role.Passive n m) in
    (rst, record { over = h.over; fired = h.fired; came = h.came; ending = record { taken = taken; is_taken = is; rst = refl } })

-- ---- a greeting

pub can_greet : (f : Flow) (n : ℕ) (es : List LegEvent) (e : LegEvent) → e.came ≡ Nothing → is_greeted es ≡ false → IsRight (client_ends f) es (record e { ending = Unspoken }) →
    IsRight (client_ends f) es (record e { came = Greeting (syn_ack_for (client_ends f) f.syn.seq n); ending = Unspoken })
can_greet f n es e none early h = record { over = h.over; fired = h.fired; came = (refl, early); ending = tt }

-- the client is greeted, where it may be
pub can_hello : (f : Flow) (number : Option ℕ) (e : LegEvent) (es : List LegEvent) → MayGreet number e es → IsRight (client_ends f) es (record e { ending = Unspoken }) →
    IsRight (client_ends f) es (record e { came = came_greeted f number e.came; ending = Unspoken })
can_hello f None e es may h = h
can_hello f (Some n) e es may h = can_greet f n es e may.0 may.1 h

-- and offers nothing by that
hello_taken : (f : Flow) (r : Role) (number : Option ℕ) (e : LegEvent) (es : List LegEvent) (taken : Stream) → MayGreet number e es → IsTaken (first_copy (offers r (record e { ending = Unspoken } ∷ es))) taken →
    IsTaken (first_copy (offers r (record e { came = came_greeted f number e.came; ending = Unspoken } ∷ es))) taken
hello_taken f r None e es taken may is = is
hello_taken f r (Some n) e es taken may is = subst (λ (x : Came). IsTaken (first_copy (offers r (record e { came = x; ending = Unspoken } ∷ es))) taken) may.0 is

-- ---- a speech

module _ (way : Way) (t : Advertised) (due : Bool) (whole : Stream) (mss edge from : ℕ) (some : 0 < mss) where
  says_by : (b : Bool) → (outs : List PacketValue) × MatchBool b (Pieces way t whole mss edge from outs) (outs ≡ cond due (segment way t (sequence_number way.own from) no_letters ∷ []) [])
  says_by true = all_pieces way t whole mss edge some (min edge (letter_count whole)) from (omega arith)
  says_by false = (_, refl)

  can_say : (outs : List PacketValue) × SaysIf way t due whole mss edge from outs
  can_say = says_by (nat_lt from (min edge (letter_count whole)))

module _ (own peer : Endpoint) (es : List LegEvent) (e : LegEvent) (taken whole : Stream) (roomy : Bool) where
  abbrev half : LegEvent
  half = record e { ending = Unspoken }

  abbrev said : List PacketValue → LegEvent
  said outs = record e { ending = Spoke whole roomy outs }

  saying : (r : Role) → (outs : List PacketValue) × SaysIf (way_of (ends_by own peer r) (half ∷ es)) (to_tell (told_at r es half) (letter_count taken) roomy)
      (owed r es half || differs (told_at r es half) (to_tell (told_at r es half) (letter_count taken) roomy)) whole (send_mss (peer_mss r (half ∷ es))) (shown r (half ∷ es)) (letters_sent_at r es half) outs
  saying r = can_say _ _ _ whole (send_mss (peer_mss r (half ∷ es))) _ _ (send_mss_some (peer_mss r (half ∷ es)))

  speaks : (r : Role) → IsTaken (first_copy (offers r (half ∷ es))) taken → (b : Bool) →
      (outs : List PacketValue) × MatchBool b (SpeaksOpen (ends_by own peer r) es (said outs) whole roomy outs) (outs ≡ [])
  speaks r is false = ([], refl)
  speaks (role.Active n) is true = let x = saying (role.Active n) in (x.0, record { taken = taken; is_taken = is; says = x.1 })
  speaks (role.Passive n m) is true = let x = saying (role.Passive n m) in (x.0, record { taken = taken; is_taken = is; says = x.1 })

  pub can_speak : (r : Role) → IsRight (ends_by own peer r) es half → IsTaken (first_copy (offers r (half ∷ es))) taken →
      (outs : List PacketValue) × IsRight (ends_by own peer r) es (record e { ending = Spoke whole roomy outs })
  can_speak (role.Active n) h is =
      let x = speaks (role.Active n) is (opened (role.Active n) (half ∷ es)) in
      (x.0, record { over = h.over; fired = h.fired; came = h.came; ending = x.1 })
  can_speak (role.Passive n m) h is =
      let x = speaks (role.Passive n m) is (opened (role.Passive n m) (half ∷ es)) in
      (x.0, record { over = h.over; fired = h.fired; came = h.came; ending = x.1 })

-- ---- a leg that stands for its events

-- its events are right, and there are letters that it has taken of its peer
taken_of : (ends : Ends) (leg : LegValue) (q : Queue) (events : List LegEvent) → IsLegBetween ends leg q events → (taken : Stream) × IsTaken (first_copy (offers ends.role events)) taken
taken_of ends leg q events s =
    (s.stands.of_window.taken, subst (λ (n : Ends). IsTaken (first_copy (offers n.role events)) s.stands.of_window.taken) s.is s.stands.of_window.is_taken)

-- where the client may be greeted, it can speak after that
pub can_answer : (f : Flow) (number : Option ℕ) (leg : LegValue) (q : Queue) (e : LegEvent) (es : List LegEvent) (whole : Stream) (roomy : Bool) → MayGreet number e es → IsLegBetween (client_ends f) leg q (record e { ending = Unspoken } ∷ es) →
    (outs : List PacketValue) × IsRight (client_ends f) es (record e { came = came_greeted f number e.came; ending = Spoke whole roomy outs })
can_answer f number leg q e es whole roomy may s =
    let ends = client_ends f in
    let t = taken_of ends leg q (record e { ending = Unspoken } ∷ es) s in
    can_speak ends.own ends.peer es (record e { came = came_greeted f number e.came }) t.0 whole roomy ends.role
    (can_hello f number e es may (right_of ends leg q (record e { ending = Unspoken }) es s)) (hello_taken f ends.role number e es t.0 may t.1)
