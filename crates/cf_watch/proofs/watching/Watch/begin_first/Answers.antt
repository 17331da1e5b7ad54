use Rattle.std.proofs.Common.{◌≡◌, ◌∙◌, sym, subst, true, false, List, Some}
use Rattle.cf_packet.specs.Packet.{packet_value}
use Rattle.cf_watch.specs.Trail.{TakesRecord}
use Rattle.cf_watch.specs.Seen.{begins_amid}
use Rattle.cf_watch.specs.Watched.{Watched}
use Rattle.cf_leg.specs.Segment.{is_opening}
use Rattle.cf_watch.proofs.Tables.{begins_here, opens_here, passes_here, still_heard}
use Rattle.cf_watch.proofs.watching.Watch.begin_first.Goals as goal

pub returns-then-begins_amid : goal.returns-then-begins_amid
returns-then-begins_amid c =
    let packet = packet_value c.args.packet.now in
    let new = c.begin.new.self in
    let e : begins_amid c.args.scope packet ≡ true = sym c.begins_amid.ensures ∙ c.if-begins_amid.true in
    record {
      heard = λ ws hs s.
          subst (λ (vs : List Watched). TakesRecord c.args.scope c.args.number (Some c.in_ok-place.place) new ws vs hs) (sym (begins_here c.args.scope c.args.number c.args.asset packet ws e))
          (c.in_ok-place.ensures.heard ws hs s);
      all = c.in_ok-place.ensures.all;
    }

pub returns-then-not-is_opening : goal.returns-then-not-is_opening
returns-then-not-is_opening c =
    let packet = packet_value c.args.packet.now in
    let later : begins_amid c.args.scope packet ≡ false = sym c.begins_amid.ensures ∙ c.if-begins_amid.false in
    let e : is_opening packet ≡ false = sym c.if-not-is_opening.ensures in
    record {
      heard = λ ws hs s. still_heard c.args.scope c.args.number c.args.self.now ws _ hs c.requires.number.0 (passes_here c.args.scope c.args.number c.args.asset packet ws later e) s;
      all = λ all. all;
    }

pub returns : goal.returns
returns c =
    let packet = packet_value c.args.packet.now in
    let new = c.begin-2.new.self in
    let later : begins_amid c.args.scope packet ≡ false = sym c.begins_amid.ensures ∙ c.if-begins_amid.false in
    let e : is_opening packet ≡ true = sym c.is_opening.ensures ∙ c.if-not-is_opening.false in
    record {
      heard = λ ws hs s.
          subst (λ (vs : List Watched). TakesRecord c.args.scope c.args.number (Some c.in_ok-place-2.place) new ws vs hs) (sym (opens_here c.args.scope c.args.number c.args.asset packet ws later e))
          (c.in_ok-place-2.ensures.heard ws hs s);
      all = c.in_ok-place-2.ensures.all;
    }
