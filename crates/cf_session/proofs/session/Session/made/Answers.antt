use Rattle.cf_lane.specs.Caller.{none_before}
use Rattle.std.proofs.Common.{arith, [], None, ap, refl, sym, subst, ◌∙◌}
use Rattle.cf_leg.specs.LegValue.{IsLegOf, marks}
use Rattle.cf_outq.specs.SendQueue.{Queue}
use Rattle.cf_packet.specs.Packet.{packet_value}
use Rattle.cf_policy.specs.Site.{alone}
use Rattle.cf_policy.specs.declared.Asset.{Asset}
use Rattle.cf_session.proofs.NewLane.{lane_begins}
use Rattle.cf_session.specs.Session.{Flow, client_ends, controller_ends}
use Rattle.cf_session.proofs.session.Session.made.Goals as goal

pub returns-clause-made : goal.returns-clause-made
returns-clause-made c =
    let flow : Asset → Flow = λ a. record { site = alone a; syn = packet_value c.args.syn.now } in
    let client = c.in_ok-client.client in
    let controller = c.in_ok-controller.controller in
    let qc = c.in_ok-to_client.to_client in
    let qk = c.in_ok-to_controller.to_controller in
    let lane = c.in_ok-lane.lane in
    let ec = c.in_ok-to_client.ensures.value in
    let ek = c.in_ok-to_controller.ensures.value in
    record {
      client = record { is = c.in_ok-client.ensures.ends ∙ ap (λ (a : Asset). client_ends (flow a)) c.first-first.ensures; stands = subst (λ (q : Queue). IsLegOf client (marks q) []) (sym ec) c.in_ok-client.ensures.stands };
      controller = record { is = c.in_ok-controller.ensures.ends ∙ ap (λ (a : Asset). controller_ends (flow a)) c.first-first.ensures; stands = subst (λ (q : Queue). IsLegOf controller (marks q) []) (sym ek) c.in_ok-controller.ensures.stands };
      client_base = c.in_ok-client.ensures.window.0;
      controller_base = c.in_ok-controller.ensures.window.0;
      client_edge = c.in_ok-client.ensures.window.1;
      controller_edge = c.in_ok-controller.ensures.window.1;
      controller_made = c.in_ok-controller.ensures.made;
      lane = lane_begins c.args.site.now c.args.syn.now.source lane qc qk c.in_ok-lane.ensures.client
          (c.in_ok-lane.ensures.follows none_before qc qk None refl c.in_ok-to_client.ensures.stands c.in_ok-to_controller.ensures.stands);
      owed = c.in_ok-lane.ensures.counts.2;
      commands = (let a = c.in_ok-lane.ensures.counts.0 in let b = c.in_ok-lane.ensures.counts.1 in omega (arith, a, b));
      to_client = ec;
      to_controller = ek;
      client_list = c.in_ok-to_client.ensures.stands;
      controller_list = c.in_ok-to_controller.ensures.stands;
      closed = refl;
      source = refl;
    }
