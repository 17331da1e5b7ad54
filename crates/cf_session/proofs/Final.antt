-- The second half of an event of a session, whole.
use Rattle.std.proofs.Common.{◌≡◌, ℕ, ◌+◌, Bool, false, cond, ◌&&◌, List, [], ◌∷◌, ◌++◌, inl, inr, Option, Some, None, refl, sym, ap, ◌∙◌, subst}
use Rattle.std.specs.Option.{is_some, option_or}
use Rattle.std.proofs.lemmas.List.{append-nil}
use Rattle.cf_audit.specs.Line.{Cut as CutLine}
use Rattle.cf_audit.specs.declared.CutReason.{CutReason}
use Rattle.cf_lane.specs.Handled.{LaneValue}
use Rattle.cf_leg.specs.Event.{Came, Cut, LegEvent, Spoke, greeted_by, is_idle, moment}
use Rattle.cf_leg.specs.Emits.{IsRight}
use Rattle.cf_leg.specs.Heard.{offers, opened}
use Rattle.cf_leg.specs.Told.{is_greeted}
use Rattle.cf_leg.specs.LegValue.{IsLegOf, LegValue, Marks}
use Rattle.cf_leg.specs.declared.LegAnswer.{LegAnswer}
use Rattle.cf_outq.specs.SendQueue.{IsQueueOf}
use Rattle.cf_outside.specs.Desk.{DeskValue}
use Rattle.cf_packet.specs.Packet.{PacketValue}
use Rattle.cf_policy.specs.Site.{SiteValue}
use Rattle.cf_rebuild.specs.ReceiveWindow.{base_of}
use Rattle.cf_stream.specs.FirstCopy.{IsTaken, first_copy}
use Rattle.cf_stream.specs.Stream.{Stream, letter_count}
use Rattle.cf_view.specs.declared.Endpoint.{Endpoint}
use Rattle.cf_view.specs.declared.Side.{Side}
use Rattle.cf_session.proofs.Assembled.{came_cut, came_due, greeted_after, greeted_before, has_packet, is_half, lines_by, may_greet, rsts_are, sent_is}
use Rattle.cf_session.proofs.Counts.{admitted_is, refused_is}
use Rattle.cf_session.proofs.Events.{heard_is_packet, is_event}
use Rattle.cf_session.proofs.Heards.{are_taken, cut_is, done_is, ended_as, full_of, room_is, tick_closed}
use Rattle.cf_session.proofs.Legs.{right_of}
use Rattle.cf_session.proofs.Telling.{then_told}
use Rattle.cf_session.specs.CutBy.{cut_by}
use Rattle.cf_session.specs.Cuts.{is_reset, packet_cut}
use Rattle.cf_session.specs.Event.{AreEvents, IsPacket, IsTick, came_controller}
use Rattle.cf_session.specs.Parts.{AreParts, IsLaneAfter, SessionValue}
use Rattle.cf_session.specs.Sent.{at, first_line, last_line, late, line, new_lines, sent_second}
use Rattle.cf_session.specs.Session.{Flow, SessionEvent, client_ends, client_of, clients, closed_at, controller_ends, controllers, is_closed, was_closed}
use Rattle.cf_session.specs.Stands.{CountsAs, Hears, HearsBy, IsSessionOf, life_by}
use Rattle.cf_session.specs.Told.{Told, with_both}
use Rattle.cf_session.specs.Turn.{RightCuts, HeardBy, IsHalf, MayGreet, MaySpeak, OnlySpeaks, SaysAmid, SaysBoth, came_first, came_greeted, closing_lines, greetings, heard_half, is_done_now, is_roomy, number_by}
use Rattle.cf_session.specs.Work.{Work, Works}

abbrev pub BaseCounts : Type 0
BaseCounts = (leg : LegValue) (m : Marks) (xs : List LegEvent) (st : Stream) → IsLegOf leg m xs → IsTaken (first_copy (offers leg.ends.role xs)) st → base_of leg.window ≡ letter_count st

pub works_of : (site : SiteValue) (client : Endpoint) (lane : LaneValue) (r : _) (h : _) (w : Work) → IsLaneAfter site client lane r h w → Works site client h w
works_of site client lane r h w l = l.works

abbrev quiet : Bool → Came → PacketValue → List PacketValue
quiet b came rst = greeted_by came ++ cond b [] (rst ∷ [])

-- a session that stood for its events has heard a packet of a side at a moment
pub record HeardAt (f : Flow) (es : List SessionEvent) (t : SessionEvent) (s0 : SessionValue) (s : Side) (p : PacketValue) (s1 : SessionValue) (given : LegAnswer) (cut : Option CutReason) (t0 t1 : Told) (now : ℕ) : Type 0 where
  pub stands : IsSessionOf f es t s0
  pub tick : IsTick f es t.client.tick t
  pub by : HeardBy f es t s p s1 given cut t0 t1
  pub same : (s1.limit ≡ s0.limit) × (s1.source ≡ s0.source) × (s1.closed ≡ s0.closed)
  pub law : BaseCounts
  pub is_now : moment t.client ≡ now

pub heard_at : {f : Flow} {es : List SessionEvent} {t : SessionEvent} {s0 : SessionValue} {s : Side} {p : PacketValue} {s1 : SessionValue} {given : LegAnswer} {cut : Option CutReason} {t0 t1 : Told} {now : ℕ} {site : SiteValue} →
    ((f : Flow) (es : List SessionEvent) (t : SessionEvent) → f.site ≡ site → IsHalf t → moment t.client ≡ now → AreParts f es t s0 → HeardBy f es t s p s1 given cut t0 t1) →
    (s1.limit ≡ s0.limit) × (s1.source ≡ s0.source) × (s1.closed ≡ s0.closed) → BaseCounts → f.site ≡ site → IsSessionOf f es t s0 → IsTick f es t.client.tick t → moment t.client ≡ now →
    HeardAt f es t s0 s p s1 given cut t0 t1 now
heard_at {f} {es} {t} {s0} hears same law is stands tick at = record {
  stands = stands;
  tick = tick;
  by = hears f es t is (is_half f es t s0 stands tick) at stands.parts;
  same = same;
  law = law;
  is_now = at;
}

-- what a speech is of any events
abbrev pub Speaks : (now : ℕ) (number : Option ℕ) (s : SessionValue) (Says : Flow → Option ℕ → LegEvent → List LegEvent → LegEvent → List LegEvent → Stream → Stream → Type 0) → Type 0
Speaks now number s Says =
    (f : Flow) (x y : LegEvent) (cs ds : List LegEvent) (w v : Stream) → now ≡ moment x → now ≡ moment y → MayGreet number y ds
    → MaySpeak f x y cs ds w v s → Says f number x cs y ds w v

module _ {f : Flow} {es : List SessionEvent} {t : SessionEvent} {s0 : SessionValue} {s : Side} {p : PacketValue} {s1 : SessionValue} {given : LegAnswer} {cut : Option CutReason} {t0 t1 : Told} {now : ℕ}
    (heard : HeardAt f es t s0 s p s1 given cut t0 t1 now) where
  open heard use {stands, tick, by as h, same, law, is_now}

  abbrev pub half_heard : SessionEvent
  half_heard = heard_half t s p h.letters h.work

  abbrev number : Option ℕ
  number = number_by s given p.seq

  closed_before : s1.closed ≡ closed_at f es
  closed_before = same.2 ∙ stands.closed ∙ tick_closed f es t tick

  pub was : is_some s1.closed ≡ was_closed f es
  was = ap is_some closed_before

  greeted_early : is_greeted (clients es) ≡ opened (controller_ends f).role (controllers es)
  greeted_early = greeted_before f es t (is_half f es t s0 stands tick) stands.greeted

  -- the client may be greeted with the number that opened the controller's leg
  may : MayGreet number half_heard.client (clients es)
  may = may_greet f es t s p given h.answer_is greeted_early

  speaks_here : (Says : Flow → Option ℕ → LegEvent → List LegEvent → LegEvent → List LegEvent → Stream → Stream → Type 0) (n : Option ℕ) → n ≡ number → Speaks now n s1 Says →
      Says f number half_heard.controller (controllers es) half_heard.client (clients es) h.work.to_client h.work.to_controller
  speaks_here Says n is says =
      subst (λ m. Says f m half_heard.controller (controllers es) half_heard.client (clients es) h.work.to_client h.work.to_controller) is
      (says f half_heard.controller half_heard.client (controllers es) (clients es) h.work.to_client h.work.to_controller (sym is_now ∙ ap (λ k. k + 1) (sym (is_half f es t s0 stands tick).one_tick)) (sym is_now)
      (subst (λ m. MayGreet m half_heard.client (clients es)) (sym is) may)
      (record { controller_stands = h.parts.controller; client_stands = h.parts.client; to_client_stands = h.parts.to_client; to_controller_stands = h.parts.to_controller }))

  pub says_here : (s2 : SessionValue) (t2 : Told) {n : Option ℕ} → n ≡ number → Speaks now n s1 (λ f m x cs y ds v u. SaysBoth f now m x cs y ds v u (is_roomy s1) s2 t1 t2) →
      SaysBoth f now number half_heard.controller (controllers es) half_heard.client (clients es) h.work.to_client h.work.to_controller (is_roomy s1) s2 t1 t2
  says_here s2 t2 {n} is says = speaks_here (λ f m x cs y ds v u. SaysBoth f now m x cs y ds v u (is_roomy s1) s2 t1 t2) n is says

  pub amid_here : (d1 d2 : DeskValue) {n : Option ℕ} → n ≡ number → Speaks now n s1 (λ f m x cs y ds v u. SaysAmid f now m x cs y ds v u (is_roomy s1) d1 d2) →
      SaysAmid f now number half_heard.controller (controllers es) half_heard.client (clients es) h.work.to_client h.work.to_controller (is_roomy s1) d1 d2
  amid_here d1 d2 {n} is says = speaks_here (λ f m x cs y ds v u. SaysAmid f now m x cs y ds v u (is_roomy s1) d1 d2) n is says

  pub lines_are : (e : SessionEvent) → e.work ≡ h.work → first_line f es e ++ new_lines es e ≡ h.lines
  lines_are e same = lines_by f s0.limit es t e h.work h.lines stands.events tick same h.log_is

  -- ---- the event cuts the session
  module _ (r : CutReason) (because : Some r ≡ cut_by (is_some s1.closed) (is_reset given) s cut (full_of s1))
      (cuts : RightCuts f (controllers es) (clients es) half_heard.controller half_heard.client) where
    loud : (is_idle (came_controller s p) && is_idle (came_first s p)) ≡ false
    loud = has_packet f s p None

    abbrev pub cut_event : SessionEvent
    cut_event = ended_as f es t s p s1 given cut t0 t1 h (Some r) None (Cut cuts.to_controller) (Cut cuts.to_client)

    cut_here : Some r ≡ packet_cut f s0.limit es cut_event
    cut_here = because ∙ cut_is f es t s p s1 given cut t0 t1 h (Some r) None (inl refl) (Cut cuts.to_controller) (Cut cuts.to_client) law s1.limit (is_some s1.closed) was
        ∙ ap (λ n. packet_cut f n es cut_event) same.0

    pub cut_packet : IsPacket f s0.limit es t s p cut_event
    cut_packet = heard_is_packet f s0.limit es t tick.fed s p h.letters h.work (Some r) (came_controller s p) (came_first s p) (Cut cuts.to_controller) (Cut cuts.to_client)
        refl (came_cut f es t s p (Cut cuts.to_controller)) cuts.controller_right cuts.client_right
        (are_taken f es t s p s1 given cut t0 t1 h (Some r) None (inl refl) (Cut cuts.to_controller) (Cut cuts.to_client)) h.unended
        (works_of f.site (client_of f) s1.lane _ _ h.work h.parts.lane) cut_here (cuts.to_controller, refl) (cuts.to_client, refl)

    pub last_cut : last_line f es cut_event (Some r) ≡ line f now (CutLine r) ∷ []
    last_cut = ap (λ b. cond b [] (line f (moment t.client) (CutLine r) ∷ [])) loud ∙ ap (λ n. line f n (CutLine r) ∷ []) is_now

    pub sent_cut : at now (cuts.to_controller ∷ cuts.to_client ∷ []) ≡ sent_second cut_event
    sent_cut =
        ap (λ n. at n (cuts.to_controller ∷ cuts.to_client ∷ [])) (sym is_now)
        ∙ ap (λ xs. at (moment t.client) xs) (sym (rsts_are t s p cuts.to_controller cuts.to_client))
        ∙ ap (λ b. at (moment t.client) (quiet b (came_controller s p) cuts.to_controller ++ quiet b (came_first s p) cuts.to_client)) (sym loud)

    pub hears_cut : (t2 : Told) → t2 ≡ with_both t1 (at now (cuts.to_controller ∷ cuts.to_client ∷ [])) (line f now (CutLine r) ∷ []) → Hears f s0.limit es t s p t0 t2 cut_event
    hears_cut t2 told = record {
      is_packet = cut_packet;
      told = then_told t0 t1 t2 [] (at now (cuts.to_controller ∷ cuts.to_client ∷ [])) h.lines (line f now (CutLine r) ∷ []) h.told told
          ∙ ap (λ xs. with_both t0 xs (h.lines ++ line f now (CutLine r) ∷ [])) sent_cut
          ∙ ap (λ xs. with_both t0 (sent_second cut_event) (xs ++ line f now (CutLine r) ∷ [])) (sym (lines_are cut_event refl))
          ∙ ap (λ xs. with_both t0 (sent_second cut_event) ((first_line f es cut_event ++ new_lines es cut_event) ++ xs)) (sym last_cut);
    }

    pub counts_cut : (y : SessionValue) → y.lane ≡ s1.lane → CountsAs cut_event y
    counts_cut y same = record {
      admitted = ap (λ (l : LaneValue). l.admitted) same ∙ admitted_is f.site (client_of f) s1.lane _ _ h.work s1.to_client s1.to_controller h.parts.lane h.parts.to_client h.parts.to_controller;
      refused = ap (λ (l : LaneValue). l.refused) same ∙ refused_is f.site (client_of f) s1.lane _ _ h.work s1.to_client s1.to_controller h.parts.lane h.parts.to_client h.parts.to_controller;
    }

  -- ---- the session goes on
  abbrev roomy : Bool
  roomy = is_roomy s1

  abbrev pub spoken_event : (outs_c outs_d : List PacketValue) → SessionEvent
  spoken_event outs_c outs_d = ended_as f es t s p s1 given cut t0 t1 h None number (Spoke h.work.to_controller roomy outs_c) (Spoke h.work.to_client roomy outs_d)

  pub spoken_packet : None ≡ cut_by (is_some s1.closed) (is_reset given) s cut (full_of s1) → (outs_c outs_d : List PacketValue) →
      IsRight (controller_ends f) (controllers es) (spoken_event outs_c outs_d).controller → IsRight (client_ends f) (clients es) (spoken_event outs_c outs_d).client → IsPacket f s0.limit es t s p (spoken_event outs_c outs_d)
  spoken_packet because outs_c outs_d right_c right_d =
      let x = Spoke h.work.to_controller roomy outs_c in
      let y = Spoke h.work.to_client roomy outs_d in
      let room = room_is f es t s p s1 given cut t0 t1 h None number (inr refl) x y in
      heard_is_packet f s0.limit es t tick.fed s p h.letters h.work None (came_controller s p) (came_greeted f number (came_first s p)) x y
      refl (came_due f es t s p given x h.answer_is) right_c right_d
      (are_taken f es t s p s1 given cut t0 t1 h None number (inr refl) x y) h.unended (works_of f.site (client_of f) s1.lane _ _ h.work h.parts.lane)
      (because ∙ cut_is f es t s p s1 given cut t0 t1 h None number (inr refl) x y law s1.limit (is_some s1.closed) was ∙ ap (λ n. packet_cut f n es (spoken_event outs_c outs_d)) same.0)
      (outs_c, ap (λ b. Spoke h.work.to_controller b outs_c) room) (outs_d, ap (λ b. Spoke h.work.to_client b outs_d) room)

  pub spoken_sent : (outs_c outs_d : List PacketValue) → at now (outs_c ++ (greetings f number ++ outs_d)) ≡ sent_second (spoken_event outs_c outs_d)
  spoken_sent outs_c outs_d =
      let e = spoken_event outs_c outs_d in
      ap (λ n. at n (outs_c ++ (greetings f number ++ outs_d))) (sym is_now) ∙ ap (at (moment t.client)) (sent_is f t s p given h.work.to_client h.work.to_controller roomy outs_c outs_d)
      ∙ ap (λ b. at (moment t.client) (late b e.controller ++ late b e.client)) (sym (has_packet f s p number))

  module _ (because : None ≡ cut_by (is_some s1.closed) (is_reset given) s cut (full_of s1)) (uncut : cut ≡ None)
      (s2 s3 : SessionValue) (t2 t3 : Told)
      (says : SaysBoth f now number half_heard.controller (controllers es) half_heard.client (clients es) h.work.to_client h.work.to_controller (is_roomy s1) s2 t1 t2)
      (only : OnlySpeaks s1 s2) (queue_c : IsQueueOf s2.to_client h.work.to_client) (queue_k : IsQueueOf s2.to_controller h.work.to_controller)
      (others : s3 ≡ record s2 { closed = s3.closed }) (closing : s3.closed ≡ option_or s2.closed (cond (is_done_now s2) (Some now) None))
      (site : SiteValue) (is : f.site ≡ site) (put : t3 ≡ with_both t2 [] (closing_lines site s2 now)) where
    abbrev pub live_event : SessionEvent
    live_event = spoken_event says.outs_c says.outs_d

    pub live_packet : IsPacket f s0.limit es t s p live_event
    live_packet = spoken_packet because says.outs_c says.outs_d
        (right_of (controller_ends f) s2.controller s2.to_controller live_event.controller (controllers es) says.controller_stands)
        (right_of (client_ends f) s2.client s2.to_client live_event.client (clients es) says.client_stands)

    -- ---- closing

    done_same : is_done_now s2 ≡ is_done_now s1
    done_same = rw (only.client_window, only.controller_window, only.to_client, only.to_controller) refl

    done_closed : is_done_now s2 ≡ is_closed f (live_event ∷ es)
    done_closed = done_same ∙ done_is f es t s p s1 given cut t0 t1 h None number (inr refl) (Spoke h.work.to_controller roomy says.outs_c) (Spoke h.work.to_client roomy says.outs_d)

    closed_two : s2.closed ≡ closed_at f es
    closed_two = ap (λ (x : SessionValue). x.closed) only.rest ∙ closed_before

    pub closed_three : s3.closed ≡ closed_at f (live_event ∷ es)
    closed_three = rw (closing, closed_two, done_closed, is_now) refl

    source_two : s2.source ≡ client_of f
    source_two = ap (λ (x : SessionValue). x.source) only.rest ∙ same.1 ∙ stands.source

    lane_two : s2.lane ≡ s1.lane
    lane_two = ap (λ (x : SessionValue). x.lane) only.rest

    pub close_line : closing_lines site s2 now ≡ last_line f es live_event None
    close_line =
        rw (
          done_closed,
          closed_two,
          ← is,
          source_two,
          ← is_now,
          lane_two,
          admitted_is f.site (client_of f) s1.lane _ _ h.work s1.to_client s1.to_controller h.parts.lane h.parts.to_client h.parts.to_controller,
          refused_is f.site (client_of f) s1.lane _ _ h.work s1.to_client s1.to_controller h.parts.lane h.parts.to_client h.parts.to_controller,
        ) refl

    -- ---- what is told

    abbrev outs : List PacketValue
    outs = says.outs_c ++ (greetings f number ++ says.outs_d)

    pub hears_live : Hears f s0.limit es t s p t0 t3 live_event
    hears_live = record {
      is_packet = live_packet;
      told = then_told t0 t1 t3 [] (at now outs ++ []) h.lines ([] ++ closing_lines site s2 now) h.told (then_told t1 t2 t3 (at now outs) [] [] (closing_lines site s2 now) says.told put)
          ∙ ap (λ xs. with_both t0 xs (h.lines ++ closing_lines site s2 now)) (append-nil (at now outs) ∙ spoken_sent says.outs_c says.outs_d)
          ∙ ap (λ xs. with_both t0 (sent_second live_event) (xs ++ closing_lines site s2 now)) (sym (lines_are live_event refl))
          ∙ ap (λ xs. with_both t0 (sent_second live_event) ((first_line f es live_event ++ new_lines es live_event) ++ xs)) close_line;
    }

    -- ---- what stands in memory

    limit_two : s2.limit ≡ s0.limit
    limit_two = ap (λ (x : SessionValue). x.limit) only.rest ∙ same.0

    pub stands_three : IsSessionOf f es live_event (record s2 { closed = s3.closed })
    stands_three = record {
      parts = record {
        client = says.client_stands;
        controller = says.controller_stands;
        lane = rw (lane_two, only.client_window, only.controller_window) h.parts.lane;
        to_client = queue_c;
        to_controller = queue_k;
        taken = are_taken f es t s p s1 given cut t0 t1 h None number (inr refl) (Spoke h.work.to_controller roomy says.outs_c) (Spoke h.work.to_client roomy says.outs_d);
      };
      events = (subst (λ n. AreEvents f n (live_event ∷ es)) (sym limit_two) (is_event f s0.limit es t s p live_event stands.events tick stands.going live_packet, stands.events.1));
      closed = closed_three;
      going = refl;
      uncut = h.cut_is ∙ uncut;
      source = source_two;
      over = record { client = refl; controller = refl; to_client = refl; to_controller = refl };
      greeted = greeted_after f es t s p given (Spoke h.work.to_controller roomy says.outs_c) (Spoke h.work.to_client roomy says.outs_d) h.answer_is greeted_early;
    }

    pub lives_three : IsSessionOf f es live_event s3
    lives_three = subst (IsSessionOf f es live_event) (sym others) stands_three

pub hears_by : (f : Flow) (limit : ℕ) (es : List SessionEvent) (t : SessionEvent) (s : Side) (p : PacketValue) (y : SessionValue) (old new : Told) (closed : Option ℕ) (e : SessionEvent) → Hears f limit es t s p old new e → IsSessionOf f es e y →
    closed ≡ closed_at f (e ∷ es) → HearsBy f limit es t s p y old new (life_by closed)
hears_by f limit es t s p y old new None e h st c = (e, h, record { stands = st; is_closed = sym (ap is_some c) })
hears_by f limit es t s p y old new (Some m) e h st c = (e, h, record { stands = st; is_closed = sym (ap is_some c) })
