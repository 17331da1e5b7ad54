-- The second half of an event of a session, where the desk failed amid it.
use Rattle.std.proofs.Common.{◌≡◌, ℕ, Bool, false, cond, List, [], ◌∷◌, ◌++◌, inl, inr, Option, Some, None, refl, sym, ap, ◌∙◌, subst, true}
use Rattle.std.specs.Option.{is_some, option_or}
use Rattle.std.proofs.lemmas.List.{append-nil}
use Rattle.cf_audit.specs.Line.{Cut as CutLine}
use Rattle.cf_audit.specs.declared.CutReason.{CutReason}
use Rattle.cf_lane.specs.History.{taken}
use Rattle.cf_lane.specs.Limit.{limit_cut}
use Rattle.cf_leg.specs.Emits.{IsRight}
use Rattle.cf_leg.specs.Event.{Cut, Ending, Spoke, Unspoken}
use Rattle.cf_leg.specs.Heard.{answer_to, end_state, offers}
use Rattle.cf_leg.specs.declared.LegAnswer.{LegAnswer}
use Rattle.cf_outq.specs.SendQueue.{IsQueueOf}
use Rattle.cf_outside.specs.Desk.{DeskValue}
use Rattle.cf_packet.specs.Packet.{PacketValue}
use Rattle.cf_policy.specs.Site.{SiteValue}
use Rattle.cf_stream.specs.FirstCopy.{IsTaken, first_copy}
use Rattle.cf_view.specs.declared.Side.{Side}
use Rattle.cf_view.specs.declared.Side.TheVariants as side
use Rattle.cf_session.proofs.Able.{can_cut, can_hello, can_speak}
use Rattle.cf_session.proofs.Amid.{amid_after, amid_as, amid_before}
use Rattle.cf_session.proofs.Assembled.{came_cut, came_due, greeted_before, is_half, lines_by, may_greet}
use Rattle.cf_session.proofs.Events.{heard_is_packet}
use Rattle.cf_session.proofs.Final.{HeardAt, close_line, cut_event, cut_packet, half_heard, last_cut, lines_are, live_event, live_packet, sent_cut, spoken_event, spoken_packet, spoken_sent}
use Rattle.cf_session.proofs.Heards.{Suits, full_of, hello_any, resets_is}
use Rattle.cf_outside.specs.Frames.{EmitsAndLogs}
use Rattle.cf_session.specs.Broken.{BreaksAmid, BreaksPacket}
use Rattle.cf_session.specs.CutBy.{cut_by}
use Rattle.cf_session.specs.Cuts.{is_reset, packet_cut}
use Rattle.cf_session.specs.Event.{IsPacket, IsTick, came_controller}
use Rattle.cf_session.specs.Parts.{SessionValue}
use Rattle.cf_session.specs.Sent.{at, first_line, last_line, line, new_lines, sent_second}
use Rattle.cf_session.specs.Session.{Flow, SessionEvent, client_ends, clients, controller_ends, controllers, has_room, history, was_closed}
use Rattle.cf_session.specs.Stands.{IsSessionOf}
use Rattle.cf_session.specs.Told.{Told, told, with_both}
use Rattle.cf_session.specs.Turn.{CutsBoth, HeardAmid, OnlySpeaks, SaysAmid, SaysBoth, came_first, came_greeted, closing_lines, ends_of, greetings, heard_event, heard_half, is_done_now, is_roomy, leg_in, legs_of, number_by}

module _ (f : Flow) (es : List SessionEvent) (t : SessionEvent) (s0 : SessionValue) (stands : IsSessionOf f es t s0) (tick : IsTick f es t.client.tick t) (s : Side) (p : PacketValue) where
  half_c : (from : Side) → IsRight (controller_ends f) (controllers es) (record t.controller { came = came_controller from p; ending = Unspoken })
  half_c side.Client = record { over = tick.right.controller.over; fired = tick.right.controller.fired; came = tt; ending = tt }
  half_c side.Controller = record { over = tick.right.controller.over; fired = tick.right.controller.fired; came = tt; ending = tt }

  half_d : (from : Side) → IsRight (client_ends f) (clients es) (record t.client { came = came_first from p; ending = Unspoken })
  half_d side.Client = record { over = tick.right.client.over; fired = tick.right.client.fired; came = tt; ending = tt }
  half_d side.Controller = record { over = tick.right.client.over; fired = tick.right.client.fired; came = tt; ending = tt }

  -- ---- amid the lines of the items

  module _ (d0 d1 : DeskValue) (h : HeardAmid f es t s p d0 d1) where
    abbrev given : LegAnswer
    given = answer_to (end_state (ends_of f s).role (legs_of s es) (leg_in s t)) p

    abbrev due : Option ℕ
    due = number_by s given p.seq

    abbrev as_ended : Option CutReason → Option ℕ → Ending → Ending → SessionEvent
    as_ended why number x y = heard_event t s h.letters h.work why (came_controller s p) (came_greeted f number (came_first s p)) x y

    abbrev half : SessionEvent
    half = heard_half t s p h.letters h.work

    cut_same : (why : Option CutReason) (number : Option ℕ) → Suits s given p.seq number → (x y : Ending) → packet_cut f s0.limit es half ≡ packet_cut f s0.limit es (as_ended why number x y)
    cut_same why number suits x y =
        ap (λ o. cond (was_closed f es) None (option_or o (option_or h.work.cut (limit_cut s0.limit (history (half ∷ es)) h.work.to_client h.work.to_controller))))
        (resets_is f es t s p h.letters h.work given None None (inl refl) Unspoken Unspoken refl ∙ sym (resets_is f es t s p h.letters h.work given why number suits x y refl))

    offers_same : (number : Option ℕ) → Suits s given p.seq number →
        offers (client_ends f).role (record t.client { came = came_greeted f number (came_first s p); ending = Unspoken } ∷ clients es) ≡ offers (client_ends f).role (clients (half ∷ es))
    offers_same number suits = hello_any (λ c. offers (client_ends f).role (record t.client { came = c; ending = Unspoken } ∷ clients es)) f s p given p.seq number suits (λ q. refl)

    taken_client : (number : Option ℕ) → Suits s given p.seq number →
        IsTaken (first_copy (offers (client_ends f).role (record t.client { came = came_greeted f number (came_first s p); ending = Unspoken } ∷ clients es))) (taken side.Client (history (half ∷ es)))
    taken_client number suits = subst (λ os. IsTaken (first_copy os) (taken side.Client (history (half ∷ es)))) (sym (offers_same number suits)) h.are_taken.client

    breaks_as : (e : SessionEvent) → e.work ≡ h.work → IsPacket f s0.limit es t s p e → BreaksPacket f s0.limit es t s p d0 d1
    breaks_as e same is = record {
      event = e;
      is_packet = is;
      amid = amid_as (sent_second e) (sent_second e) (h.lines ++ last_line f es e e.cut) _ d0 d1 refl (ap (λ xs. xs ++ last_line f es e e.cut) (sym (lines_by f s0.limit es t e h.work h.lines stands.events tick same h.log_is)))
          (amid_before [] (sent_second e) h.lines (last_line f es e e.cut) d0 d1 h.amid);
    }

    by_cut : (why : Option CutReason) → packet_cut f s0.limit es half ≡ why → BreaksPacket f s0.limit es t s p d0 d1
    by_cut (Some r) cut =
        let rc = can_cut (controller_ends f).own (controller_ends f).peer (controller_ends f).role (controllers es) half.controller (taken side.Controller (history (half ∷ es))) (half_c s) h.are_taken.controller in
        let rd = can_cut (client_ends f).own (client_ends f).peer (client_ends f).role (clients es) half.client (taken side.Client (history (half ∷ es))) (half_d s) h.are_taken.client in
        breaks_as (as_ended (Some r) None (Cut rc.0) (Cut rd.0)) refl
        (heard_is_packet f s0.limit es t tick.fed s p h.letters h.work (Some r) (came_controller s p) (came_first s p) (Cut rc.0) (Cut rd.0)
        refl (came_cut f es t s p (Cut rc.0)) rc.1 rd.1 (record { client = h.are_taken.client; controller = h.are_taken.controller }) h.unended h.works
        (sym cut ∙ cut_same (Some r) None (inl refl) (Cut rc.0) (Cut rd.0)) (rc.0, refl) (rd.0, refl))
    by_cut None cut =
        let roomy = has_room f (as_ended None due Unspoken Unspoken ∷ es) in
        let early = greeted_before f es t (is_half f es t s0 stands tick) stands.greeted in
        let hello = can_hello f due half.client (clients es) (may_greet f es t s p given refl early) (half_d s) in
        let sc = can_speak (controller_ends f).own (controller_ends f).peer (controllers es) half.controller (taken side.Controller (history (half ∷ es))) h.work.to_controller roomy (controller_ends f).role (half_c s) h.are_taken.controller in
        let sd = can_speak (client_ends f).own (client_ends f).peer (clients es) (as_ended None due Unspoken Unspoken).client (taken side.Client (history (half ∷ es))) h.work.to_client roomy (client_ends f).role hello (taken_client due (inr refl)) in
        let x = Spoke h.work.to_controller roomy sc.0 in
        let y = Spoke h.work.to_client roomy sd.0 in
        breaks_as (as_ended None due x y) refl
        (heard_is_packet f s0.limit es t tick.fed s p h.letters h.work None (came_controller s p) (came_greeted f due (came_first s p)) x y
        refl (came_due f es t s p given x refl) sc.1 sd.1 (record { client = taken_client due (inr refl); controller = h.are_taken.controller }) h.unended h.works
        (sym cut ∙ cut_same None due (inr refl) x y) (sc.0, refl) (sd.0, refl))

    pub hear_failed : BreaksPacket f s0.limit es t s p d0 d1
    hear_failed = by_cut (packet_cut f s0.limit es half) refl

-- ---- after them

module _ {f : Flow} {es : List SessionEvent} {t : SessionEvent} {s0 : SessionValue} {s : Side} {p : PacketValue} {s1 : SessionValue} {given : LegAnswer} {cut : Option CutReason} {now : ℕ}
    (d0 d1 : DeskValue) (heard : HeardAt f es t s0 s p s1 given cut (told d0) (told d1) now) (frame : EmitsAndLogs d0 d1 false) where
  open heard use {by as h}

  -- amid the RSTs and the line of a cut
  module _ (r : CutReason) (because : Some r ≡ cut_by (is_some s1.closed) (is_reset given) s cut (full_of s1))
      (d2 : DeskValue) (x : CutsBoth f (controllers es) (clients es) (half_heard heard).controller (half_heard heard).client now r d1 d2 true) where
    pub cut_failed : BreaksPacket f s0.limit es t s p d0 d2
    cut_failed =
        let rsts = at now (x.rsts.to_controller ∷ x.rsts.to_client ∷ []) in
        let put = line f now (CutLine r) ∷ [] in
        let e = cut_event heard r because x.rsts in
        record {
          event = e;
          is_packet = cut_packet heard r because x.rsts;
          amid = amid_as rsts (sent_second e) (h.lines ++ put) _ d0 d2
              (sent_cut heard r because x.rsts)
              (ap (λ xs. xs ++ put) (sym (lines_are heard e refl))
              ∙ ap (λ xs. (first_line f es e ++ new_lines es e) ++ xs) (sym (last_cut heard r because x.rsts)))
              (amid_after [] rsts h.lines put d0 d1 d2 h.told frame x.gets);
        }

  module _ (because : None ≡ cut_by (is_some s1.closed) (is_reset given) s cut (full_of s1)) (uncut : cut ≡ None) where
    abbrev number : Option ℕ
    number = number_by s given p.seq

    abbrev roomy : Bool
    roomy = is_roomy s1

    -- amid the speeches
    pub speak_failed : (d2 : DeskValue) →
        SaysAmid f now number (half_heard heard).controller (controllers es) (half_heard heard).client (clients es) h.work.to_client h.work.to_controller roomy d1 d2 →
        BreaksPacket f s0.limit es t s p d0 d2
    speak_failed d2 x =
        let e = spoken_event heard x.outs_c x.outs_d in
        let outs = x.outs_c ++ (greetings f number ++ x.outs_d) in
        record {
          event = e;
          is_packet = spoken_packet heard because x.outs_c x.outs_d x.controller_right x.client_right;
          amid = amid_as (at now outs) (sent_second e) ((h.lines ++ []) ++ last_line f es e None) _ d0 d2 (spoken_sent heard x.outs_c x.outs_d)
              (ap (λ xs. xs ++ last_line f es e None) (append-nil h.lines ∙ sym (lines_are heard e refl)))
              (amid_as (at now outs ++ []) (at now outs) _ _ d0 d2 (append-nil (at now outs)) refl
              (amid_before (at now outs) [] (h.lines ++ []) (last_line f es e None) d0 d2 (amid_after [] (at now outs) h.lines [] d0 d1 d2 h.told frame x.amid)));
        }

    -- amid the line of the closing
    module _ (s2 : SessionValue) (d2 d3 : DeskValue)
        (says : SaysBoth f now number (half_heard heard).controller (controllers es) (half_heard heard).client (clients es) h.work.to_client h.work.to_controller roomy s2 (told d1) (told d2))
        (only : OnlySpeaks s1 s2) (queue_c : IsQueueOf s2.to_client h.work.to_client) (queue_k : IsQueueOf s2.to_controller h.work.to_controller)
        (site : SiteValue) (is : f.site ≡ site) (more : EmitsAndLogs d1 d2 false) (x : BreaksAmid [] (closing_lines site s2 now) d2 d3) where
      abbrev s3 : SessionValue
      s3 = record s2 { closed = option_or s2.closed (cond (is_done_now s2) (Some now) None) }

      abbrev t3 : Told
      t3 = with_both (told d2) [] (closing_lines site s2 now)

      pub close_failed : BreaksPacket f s0.limit es t s p d0 d3
      close_failed =
          let e = live_event heard because uncut s2 s3 (told d2) t3 says only queue_c queue_k refl refl site is refl in
          let outs = at now (says.outs_c ++ (greetings f number ++ says.outs_d)) in
          record {
            event = e;
            is_packet = live_packet heard because uncut s2 s3 (told d2) t3 says only queue_c queue_k refl refl site is refl;
            amid = amid_as (outs ++ []) (sent_second e) (h.lines ++ closing_lines site s2 now) _ d0 d3
                (append-nil outs ∙ spoken_sent heard says.outs_c says.outs_d)
                (ap (λ xs. xs ++ closing_lines site s2 now) (sym (lines_are heard e refl))
                ∙ ap (λ xs. (first_line f es e ++ new_lines es e) ++ xs) (close_line heard because uncut s2 s3 (told d2) t3 says only queue_c queue_k refl refl site is refl))
                (amid_after [] (outs ++ []) h.lines (closing_lines site s2 now) d0 d1 d3 h.told frame
                (amid_after outs [] [] (closing_lines site s2 now) d1 d2 d3 says.told more x));
          }
