use Rattle.std.proofs.Common.{◌≡◌, ◌∙◌, Err, List, Ok, Result, Some, ap, subst, sym}
use Rattle.std.proofs.lemmas.Result.{IfOk-weaker}
use Rattle.cf_packet.specs.Packet.{PacketValue, packet_answer, packet_value}
use Rattle.cf_packet.specs.declared.packet.PacketRefusal.{PacketRefusal}
use Rattle.cf_policy.specs.AtEndpoint.{asset_place}
use Rattle.cf_watch.specs.Seen.{packet_by, with_frame}
use Rattle.cf_watch.specs.Trail.{TakesRecord}
use Rattle.cf_watch.specs.Watched.{Watched}
use Rattle.cf_watch.proofs.Tables.{goes_on, passed_over, still_heard}
use Rattle.cf_watch.proofs.watching.Watch.take.Goals as goal

pub returns-in_default : goal.returns-in_default
returns-in_default c = record {
  heard = λ ws hs s.
      let frame = packet_by c.args.scope c.args.link.now c.args.body.now in
      let same = passed_over c.args.scope c.args.assets.now c.args.number frame ws (λ p e. sym c.in_default.is ∙ c.asset_by.ensures.place p e) in
      still_heard c.args.scope c.args.number c.args.self.now ws _ hs c.requires.number.0 same s;
  all = λ all. all;
}

pub returns-in_default-packet_by : goal.returns-in_default-packet_by
returns-in_default-packet_by c = record {
  heard = λ ws hs s.
      let frame = packet_by c.args.scope c.args.link.now c.args.body.now in
      let refused : Err c.in_default-packet_by.field-0 ≡ frame = ap packet_answer (sym c.in_default-packet_by.is) ∙ c.packet_by.ensures.answer in
      let same = ap (λ (r : Result PacketValue PacketRefusal). with_frame c.args.scope c.args.assets.now c.args.number r ws) refused in
      still_heard c.args.scope c.args.number c.args.self.now ws _ hs c.requires.number.0 same s;
  all = λ all. all;
}

pub returns : goal.returns
returns c =
    let by = c.args.scope in
    let packet = packet_value c.in-Ok.packet in
    let frame = packet_by by c.args.link.now c.args.body.now in
    let read : Ok packet ≡ frame = ap packet_answer (sym c.in-Ok.is) ∙ c.packet_by.ensures.answer in
    let at : Some c.in-Some.asset ≡ asset_place c.args.assets.now packet.dest = sym c.in-Some.is ∙ c.asset_by.ensures.place packet (sym read) in
    record {
      heard = IfOk-weaker c.take_packet.result _ _ (λ place on ws hs s.
          subst (λ (vs : List Watched). TakesRecord by c.args.number place c.take_packet.new.self ws vs hs) (goes_on by c.args.assets.now c.args.number c.in-Some.asset frame packet ws read at) (on ws hs s))
          c.take_packet.ensures.heard;
      all = c.take_packet.ensures.all;
    }
