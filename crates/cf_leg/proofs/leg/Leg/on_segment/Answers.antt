use Rattle.std.proofs.Common.{◌∙◌, ap, sym, subst, Bool, ℕ, pos}
use Rattle.cf_leg.proofs.Newly.{ends_counted, ends_opened, newly_of}
use Rattle.std.specs.Prelude.{◌≤ℤ◌}
use Rattle.cf_outq.specs.SendQueue.{Queue}
use Rattle.cf_packet.specs.Packet.{packet_value}
use Rattle.cf_leg.proofs.Numbers.{list_kept}
use Rattle.cf_leg.proofs.Hears.{heard_of, counted_within, sent_of, window_of}
use Rattle.cf_rebuild.specs.ReceiveWindow.{Window}
use Rattle.cf_leg.specs.Calls.{Continues, Counts, KeepsList, queue_counted, leg_opened, end_state_of, queue_opened}
use Rattle.cf_leg.specs.Heard.{ack_place, answer_to, counts_as, owes_for}
use Rattle.cf_leg.specs.LegValue.{LegValue}
use Rattle.cf_leg.specs.declared.ends.EndState.{EndState}
use Rattle.cf_leg.proofs.leg.Leg.on_segment.Goals as goal

pub returns-clause-heard : goal.returns-clause-heard
returns-clause-heard c =
    let p = packet_value c.args.packet.now in
    let value = c.state-state.ensures.value in
    heard_of c.args.self.now c.open_if.new.self c.count_if.new.self _ c.args.queue.now c.open_if.new.queue c.count_if.new.queue c.args.moment (packet_value c.args.packet.now) c.answer_to-answer.result
    (c.answer_to-answer.ensures ∙ ap (λ (a : EndState). answer_to a (packet_value c.args.packet.now)) c.state-state.ensures.value)
    (c.open_if.ensures.new ∙ ap (λ (b : Bool). leg_opened b c.args.self.now (packet_value c.args.packet.now)) c.has_opened.ensures)
    (c.open_if.ensures.queue ∙ ap (λ (b : Bool). queue_opened b c.args.self.now.ends.role c.args.queue.now (packet_value c.args.packet.now)) c.has_opened.ensures)
    (subst (λ (b : Bool). Counts b (end_state_of c.args.self.now c.args.queue.now) c.args.moment (packet_value c.args.packet.now) c.open_if.new.self c.count_if.new.self c.open_if.new.queue c.count_if.new.queue)
    (c.counts.ensures ∙ ap (λ (a : EndState). counts_as a.role c.answer_to-answer.result) c.state-state.ensures.value)
    (subst (λ (a : EndState). Counts c.counts.result a c.args.moment (packet_value c.args.packet.now) c.open_if.new.self c.count_if.new.self c.open_if.new.queue c.count_if.new.queue) c.state-state.ensures.value c.count_if.ensures.counts))
    (ap (λ (l : LegValue). record l { owes = c.owes-self-inside.result }) c.self.view_is
    ∙ ap (λ (b : Bool). record c.count_if.new.self { owes = b }) (c.owes-self-inside.ensures ∙ ap (λ (a : EndState). owes_for a.role (packet_value c.args.packet.now) c.answer_to-answer.result) c.state-state.ensures.value))

pub count_if-requires-clause-acked : goal.count_if-requires-clause-acked
count_if-requires-clause-acked c = λ k.
    subst (λ (n : ℕ). ack_place c.state-state.result (packet_value c.args.packet.now) ≤ℤ pos n)
    (ap (λ (a : EndState). a.sent) c.state-state.ensures.value ∙ sym (ap (λ (q : Queue). q.sent) c.open_if.ensures.queue ∙ sent_of c.has_opened.result c.args.self.now.ends.role c.args.queue.now (packet_value c.args.packet.now)))
    (counted_within c.state-state.result (packet_value c.args.packet.now)
    (ap (λ (a : _). counts_as c.state-state.result.role a) (sym c.answer_to-answer.ensures) ∙ sym c.counts.ensures ∙ k))

pub returns-clause-window : goal.returns-clause-window
returns-clause-window c =
    subst (λ (v : Window). Continues c.args.self.now.window v) (sym (ap (λ (l : LegValue). l.window) c.self.view_is))
    (subst (λ (v : Window). Continues v c.count_if.new.self.window)
    (ap (λ (l : LegValue). l.window) c.open_if.ensures.new ∙ window_of c.has_opened.result c.args.self.now (packet_value c.args.packet.now)) c.count_if.ensures.window)

pub returns-clause-queue : goal.returns-clause-queue
returns-clause-queue c =
    subst (λ (q : Queue). KeepsList c.args.queue.now q)
    (sym (c.count_if.ensures.counts.moved ∙ ap (λ (q : Queue). queue_counted c.counts.result q (ack_place c.state-state.result (packet_value c.args.packet.now)) c.args.packet.now.window) c.open_if.ensures.queue))
    (list_kept c.has_opened.result c.counts.result c.args.self.now.ends.role c.args.queue.now (packet_value c.args.packet.now) _ _)

pub returns-clause-ends : goal.returns-clause-ends
returns-clause-ends c =
    ap (λ (l : LegValue). l.ends) c.self.view_is
    ∙ ap (λ (l : LegValue). l.ends) c.count_if.ensures.counts.leg ∙ ends_counted c.counts.result c.open_if.new.self c.count_if.new.self.window _ _ _ _
    ∙ ap (λ (l : LegValue). l.ends) c.open_if.ensures.new ∙ ends_opened c.has_opened.result c.args.self.now (packet_value c.args.packet.now)

pub returns-clause-newly : goal.returns-clause-newly
returns-clause-newly c =
    newly_of c.args.moment (packet_value c.args.packet.now) c.args.self.now _ c.args.queue.now c.count_if.new.queue c.answer_to-answer.result (returns-clause-heard c) (returns-clause-ends c) (returns-clause-window c)
