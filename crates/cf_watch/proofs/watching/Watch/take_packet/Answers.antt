use Rattle.std.proofs.Common.{◌≡◌, ◌∙◌, sym, subst, arith, ℕ, Some, None, Option}
use Rattle.std.proofs.lemmas.Result.{IfOk-weaker}
use Rattle.cf_packet.specs.Packet.{packet_value}
use Rattle.cf_watch.specs.Trail.{TakesRecord}
use Rattle.cf_watch.specs.Seen.{goes_from}
use Rattle.cf_watch.specs.Watched.{last_place}
use Rattle.cf_watch.proofs.Tables.{flow_at, last_inside}
use Rattle.cf_watch.proofs.watching.Watch.take_packet.Goals as goal

pub go_on-requires-clause-flow : goal.go_on-requires-clause-flow
go_on-requires-clause-flow c =
    let source = (packet_value c.args.packet.now).source in
    let (ws, hs, s) = c.requires.heard in
    let is : last_place source c.args.asset ws ≡ Some c.in-Some.place = sym (s.found source c.args.asset) ∙ sym c.get.ensures.value ∙ sym c.copied.ensures ∙ c.in-Some.is in
    let inside = last_inside source c.args.asset ws c.in-Some.place is in
    omega (arith, inside, s.flow_count)

pub go_on-requires-clause-trail : goal.go_on-requires-clause-trail
go_on-requires-clause-trail c =
    let source = (packet_value c.args.packet.now).source in
    let (ws, hs, s) = c.requires.heard in
    let is : last_place source c.args.asset ws ≡ Some c.in-Some.place = sym (s.found source c.args.asset) ∙ sym c.get.ensures.value ∙ sym c.copied.ensures ∙ c.in-Some.is in
    let inside = last_inside source c.args.asset ws c.in-Some.place is in
    omega (arith, inside, s.trail_count)

pub go_on-requires-clause-low : goal.go_on-requires-clause-low
go_on-requires-clause-low c t at =
    let source = (packet_value c.args.packet.now).source in
    let place = c.in-Some.place in
    let (ws, hs, s) = c.requires.heard in
    let is : last_place source c.args.asset ws ≡ Some place = sym (s.found source c.args.asset) ∙ sym c.get.ensures.value ∙ sym c.copied.ensures ∙ c.in-Some.is in
    let inside = last_inside source c.args.asset ws place is in
    let f = flow_at c.args.self.now.flows.items place (omega (arith, inside, s.flow_count)) in
    let w = flow_at ws place inside in
    let h = flow_at hs place (omega (arith, inside, s.heard_count)) in
    (s.low place t at, (s.each place f.0 t w.0 h.0 f.1 at w.1 h.1).may_be_gone)

pub returns-in-Some : goal.returns-in-Some
returns-in-Some c =
    let by = c.args.scope in
    let packet = packet_value c.args.packet.now in
    let new = c.go_on.new.self in
    record {
      heard = IfOk-weaker c.go_on.result _ _ (λ place on ws hs s.
          let is : Some c.in-Some.place ≡ last_place packet.source c.args.asset ws = sym c.in-Some.is ∙ c.copied.ensures ∙ c.get.ensures.value ∙ s.found packet.source c.args.asset in
          subst (λ (o : Option ℕ). TakesRecord by c.args.number place new ws (goes_from by c.args.number c.args.asset packet o ws) hs) is (on ws hs s)) c.go_on.ensures.heard;
      all = c.go_on.ensures.all;
    }

pub returns-in-None : goal.returns-in-None
returns-in-None c =
    let by = c.args.scope in
    let packet = packet_value c.args.packet.now in
    let new = c.begin_first.new.self in
    record {
      heard = IfOk-weaker c.begin_first.result _ _ (λ place on ws hs s.
          let is : None ≡ last_place packet.source c.args.asset ws = sym c.in-None.is ∙ c.copied.ensures ∙ c.get.ensures.value ∙ s.found packet.source c.args.asset in
          subst (λ (o : Option ℕ). TakesRecord by c.args.number place new ws (goes_from by c.args.number c.args.asset packet o ws) hs) is (on ws hs s)) c.begin_first.ensures.heard;
      all = c.begin_first.ensures.all;
    }
