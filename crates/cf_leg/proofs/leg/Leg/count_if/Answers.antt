use Rattle.std.proofs.Common.{◌∙◌, ap, subst, arith, ℕ, ◌+◌, ◌^◌, max, Bool, cond, pos, ◌+ℤ◌}
use Rattle.cf_stream.specs.Position.{place_or_zero}
use Rattle.cf_packet.specs.Packet.{packet_value}
use Rattle.cf_leg.specs.Calls.{Continues, rises_by}
use Rattle.cf_leg.specs.Heard.{ack_place}
use Rattle.cf_leg.specs.LegValue.{LegValue}
use Rattle.cf_leg.proofs.Grows.{continues_none}
use Rattle.cf_leg.proofs.Hears.{cond_below, counts_moves}
use Rattle.cf_leg.proofs.leg.Leg.count_if.Goals as goal

pub invariant_of-self : goal.invariant_of-self
invariant_of-self c =
    let i = c.self.invariant in
    record {
      base = omega (arith, i.base, c.offer.ensures.grows);
      edge = omega (arith, i.edge, c.offer.ensures.edge);
      shown = c.shown_after-self-inside.ensures.small;
      some_mss = i.some_mss;
      mss = i.mss;
      deadline = (let b = cond_below c.rises-rises.result (c.args.moment + 1000000) c.self.inside.deadline (2 ^ 60) (omega (arith, c.requires.moment)) i.deadline in omega (arith, c.deadline_after-self-inside.ensures, b));
      fired = omega arith;
      early = λ e. c.offer.ensures.edge ∙ i.early e;
    }

pub returns-clause-counts : goal.returns-clause-counts
returns-clause-counts c =
    let deadline = c.deadline_after-self-inside.ensures
    ∙ ap (λ (b : Bool). cond b (c.args.moment + 1000000) c.self.inside.deadline) (c.rises-rises.ensures
    ∙ ap (λ (n : ℕ). rises_by n c.self.inside.shown (ack_place c.args.at.now (packet_value c.args.packet.now)) c.args.packet.now.window) c.acked_of.ensures.value) in
    counts_moves c.args.counts c.if-not-counts.false c.self.view_is
    (record {
      leg = ap (λ (n : ℕ). record { ends = c.self.inside.ends; phase = c.self.inside.phase; own = c.self.inside.own; other = c.self.inside.other; mss = c.self.inside.mss; window = c.offer.new.window; base = c.self.inside.base; shown = n; owes = c.self.inside.owes; running = c.self.inside.running; deadline = c.deadline_after-self-inside.result; fired = 0 }) c.shown_after-self-inside.ensures.value
          ∙ ap (λ (n : ℕ). record { ends = c.self.inside.ends; phase = c.self.inside.phase; own = c.self.inside.own; other = c.self.inside.other; mss = c.self.inside.mss; window = c.offer.new.window; base = c.self.inside.base; shown = max c.self.inside.shown (place_or_zero (ack_place c.args.at.now (packet_value c.args.packet.now) +ℤ pos c.args.packet.now.window)); owes = c.self.inside.owes; running = c.self.inside.running; deadline = n; fired = 0 }) deadline;
      moved = c.acknowledge.ensures.new;
      window = λ k os s. c.offer.ensures.stands os s;
      edge = c.offer.ensures.edge;
    })

pub returns-then-not-counts-clause-window : goal.returns-then-not-counts-clause-window
returns-then-not-counts-clause-window c = continues_none c.args.self.now.window

pub returns-clause-window : goal.returns-clause-window
returns-clause-window c = subst (λ (l : LegValue). Continues l.window c.offer.new.window) c.self.view_is c.offer.ensures.window
