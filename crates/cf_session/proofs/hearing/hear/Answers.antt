use Rattle.std.proofs.Common.{◌≡◌, List, [], ◌∷◌, ◌++◌, refl, sym, ap, ◌∙◌, subst}
use Rattle.std.proofs.lemmas.List.{append-nil}
use Rattle.cf_lane.specs.Follows.{Rests, with_rest}
use Rattle.cf_lane.specs.History.{Element, taken}
use Rattle.cf_leg.specs.Event.{Packet, Unspoken}
use Rattle.cf_leg.specs.Heard.{offers}
use Rattle.cf_leg.specs.LegValue.{LegValue}
use Rattle.cf_packet.specs.Packet.{packet_value}
use Rattle.cf_stream.specs.FirstCopy.{IsTaken, first_copy}
use Rattle.cf_stream.specs.Stream.{Stream, no_letters}
use Rattle.cf_session.proofs.Hearings.{brings, newly_none, own_pushed, stands_on, took, with_own}
use Rattle.cf_session.proofs.Telling.{both_nothing}
use Rattle.cf_session.specs.Parts.{IsLaneAfter, own_queue}
use Rattle.cf_session.specs.Told.{told}
use Rattle.cf_session.proofs.Amid.{on_err}
use Rattle.cf_session.proofs.hearing.hear.Goals as goal

pub returns-clause-hears : goal.returns-clause-hears
returns-clause-hears g c = λ ends client e es r h w at legs st pend tk.
    let seg = c.take_in-answer.ensures in
    let x = took e seg.heard seg.newly seg.ends at legs in
    let b = brings seg.newly x (sym c.has_ended-had_ended.ensures.value ∙ c.if-had_ended.false) (taken c.args.side h) tk pend in
    record {
      letters = record { bytes = seg.newly.letters.bytes; ended = c.take_in-answer.new.leg.window.ended };
      answer_is = x.answer_is;
      leg_stands = stands_on ends c.take_in-answer.new.leg c.hand_over.new.leg (own_queue c.args.side c.take_in-answer.new.to_client c.take_in-answer.new.to_controller) (own_queue c.args.side c.hand_over.new.to_client c.hand_over.new.to_controller) _ x.stands (ap (λ (l : LegValue). l.ends) c.in_ok-cut.ensures.leg) c.in_ok-cut.ensures.stands
          (own_pushed c.args.side _ _ _ _ c.in_ok-cut.ensures.numbers.client_pushed c.in_ok-cut.ensures.numbers.controller_pushed);
      taken_is = b.taken_is;
      unended = b.unended;
      follows = c.in_ok-cut.ensures.follows client r h w seg.newly.letters.bytes (record { lane_stands = st.lane_stands; uncut = st.uncut; client_stands = seg.client_stands w.to_client st.client_stands; controller_stands = seg.controller_stands w.to_controller st.controller_stands }) b.pending;
    }

pub returns-then-had_ended-clause-hears : goal.returns-then-had_ended-clause-hears
returns-then-had_ended-clause-hears g c = λ ends client e es r h w at legs st pend tk.
    let seg = c.take_in-answer.ensures in
    let s = c.args.side in
    let n = seg.newly in
    let window = c.take_in-answer.new.leg.window in
    let x = took e seg.heard seg.newly seg.ends at legs in
    let ended_ = sym c.has_ended-had_ended.ensures.value ∙ c.if-had_ended.true in
    let same : r ≡ with_rest s r window.pending = sym (with_own s r) ∙ ap (with_rest s r) (pend ∙ sym (ap (λ (t : Stream). t.bytes) (seg.window.unread.ended ended_))) in
    let none = newly_none n.letters c.args.leg.now.window window (taken s h) ended_ seg.window n.pending (x.ended_same (taken s h) tk) in
    record {
      letters = no_letters;
      answer_is = x.answer_is;
      leg_stands = x.stands;
      taken_is = subst (IsTaken (first_copy (offers ends.role (record e { came = Packet (packet_value c.args.packet.now); ending = Unspoken } ∷ es)))) none (x.on (taken s h) tk);
      unended = λ en. refl;
      follows = record {
        work = w;
        lane_stands = subst (λ (xs : Rests). IsLaneAfter c.args.site.now client c.args.lane.now xs (h ++ []) w) same (subst (λ (xs : List Element). IsLaneAfter c.args.site.now client c.args.lane.now r xs w) (sym (append-nil h)) st.lane_stands);
        client_stands = seg.client_stands w.to_client st.client_stands;
        controller_stands = seg.controller_stands w.to_controller st.controller_stands;
        cut_is = st.uncut;
        lines = [];
        log_is = sym (append-nil w.log);
        told = sym (both_nothing (told (g.D.Desk.value c.args.desk.now)));
      };
    }

pub returns-in_err-cut-clause-broken : goal.returns-in_err-cut-clause-broken
returns-in_err-cut-clause-broken g c =
    on_err c.from_residual.result (λ ends client e es r h w at legs st pend tk.
    let seg = c.take_in-answer.ensures in
    let x = took e seg.heard seg.newly seg.ends at legs in
    let b = brings seg.newly x (sym c.has_ended-had_ended.ensures.value ∙ c.if-had_ended.false) (taken c.args.side h) tk pend in
    record {
      letters = record { bytes = seg.newly.letters.bytes; ended = c.take_in-answer.new.leg.window.ended };
      taken_is = b.taken_is;
      unended = b.unended;
      follows = c.in_err-cut.ensures.broken client r h w seg.newly.letters.bytes (record { lane_stands = st.lane_stands; uncut = st.uncut; client_stands = seg.client_stands w.to_client st.client_stands; controller_stands = seg.controller_stands w.to_controller st.controller_stands }) b.pending;
    })
