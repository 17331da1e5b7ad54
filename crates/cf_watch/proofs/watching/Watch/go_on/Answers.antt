use Rattle.std.proofs.Common.{◌≡◌, ◌+◌, ◌-◌, ◌*◌, ◌^◌, ◌≤◌, ◌<◌, ◌∙◌, inl, sym, ap, subst, refl, arith, ℕ, List, Some, length, set, slice_get, true, false}
use Rattle.std.proofs.lemmas.Option.{slice_get_read}
use Rattle.cf_packet.specs.Packet.{packet_value}
use Rattle.cf_watch.specs.Trail.{AreHeard, TakesRecord}
use Rattle.cf_watch.specs.Seen.{with_packet_by}
use Rattle.cf_watch.specs.Watched.{Watched, begins_anew}
use Rattle.cf_watch.proofs.Tables.{flow_at, get_set_other, goes_begins, goes_further, heard_more, heard_set, keeps_set, record_number}
use Rattle.cf_watch.proofs.watching.Watch.go_on.Goals as goal

pub returns-then-begins_anew : goal.returns-then-begins_anew
returns-then-begins_anew c =
    let by = c.args.scope in
    let old = c.args.self.now in
    let new = c.begin.new.self in
    let place = c.args.place in
    let packet = packet_value c.args.packet.now in
    let trail = c.index.result.now in
    let trail_at = slice_get_read old.trails.items (length old.trails.items) place trail refl c.requires.trail c.index.ensures in
    let f = flow_at old.flows.items place c.requires.flow in
    record {
      heard = λ ws hs s.
          let inside : place < length ws = omega (arith, c.requires.flow, s.flow_count) in
          let w = flow_at ws place inside in
          let h = flow_at hs place (omega (arith, inside, s.heard_count)) in
          let is = s.each place f.0 trail w.0 h.0 f.1 trail_at w.1 h.1 in
          let anew : begins_anew packet w.0 ≡ true = sym (c.begins_anew.ensures w.0 is.origin is.answered) ∙ c.if-begins_anew.true in
          subst (λ (vs : List Watched). TakesRecord by c.args.number (Some c.in_ok-at.at) new ws vs hs) (sym (goes_begins by c.args.number c.args.asset place packet ws w.0 w.1 anew))
          (c.in_ok-at.ensures.heard ws hs s);
      all = c.in_ok-at.ensures.all;
    }

pub hear-requires-clause-low : goal.hear-requires-clause-low
hear-requires-clause-low c =
    let old = c.args.self.now in
    let t = c.index_mut-2.result.now in
    let at = slice_get_read old.trails.items (length old.trails.items) c.args.place t refl c.requires.trail c.index_mut-2.ensures.value in
    let low = (c.requires.low t at).0 in
    omega (arith, low, c.requires.number.1)

pub hear-requires-clause-gone : goal.hear-requires-clause-gone
hear-requires-clause-gone c =
    let old = c.args.self.now in
    let t = c.index_mut-2.result.now in
    let at = slice_get_read old.trails.items (length old.trails.items) c.args.place t refl c.requires.trail c.index_mut-2.ensures.value in
    (c.requires.low t at).1

pub returns : goal.returns
returns c =
    let by = c.args.scope in
    let old = c.args.self.now in
    let place = c.args.place in
    let number = c.args.number in
    let packet = packet_value c.args.packet.now in
    let flow = c.index_mut.result.now in
    let trail = c.index_mut-2.result.now in
    let seen = c.index.result.now in
    let new_flows = set old.flows.items place c.hear.new.flow in
    let new_trails = set old.trails.items place c.hear.new.trail in
    let flow_is = slice_get_read old.flows.items (length old.flows.items) place flow refl c.requires.flow c.index_mut.ensures.value in
    let trail_is = slice_get_read old.trails.items (length old.trails.items) place trail refl c.requires.trail c.index_mut-2.ensures.value in
    let seen_is = slice_get_read old.trails.items (length old.trails.items) place seen refl c.requires.trail c.index.ensures in
    let low_before = (c.requires.low trail trail_is).0 in
    let low : c.hear.new.trail.top ≤ (number - 1 + 1) * 2 ^ 32 = omega (arith, c.in_ok-hear.ensures.low, low_before) in
    record {
      heard = λ ws hs s.
          let inside : place < length ws = omega (arith, c.requires.flow, s.flow_count) in
          let w = flow_at ws place inside in
          let h = flow_at hs place (omega (arith, inside, s.heard_count)) in
          let is = s.each place flow trail w.0 h.0 flow_is trail_is w.1 h.1 in
          let was = s.each place flow seen w.0 h.0 flow_is seen_is w.1 h.1 in
          let again : begins_anew packet w.0 ≡ false = sym (c.begins_anew.ensures w.0 was.origin was.answered) ∙ c.if-begins_anew.false in
          let one = with_packet_by by number packet w.0 in
          let on = c.in_ok-hear.ensures.heard w.0 h.0 is in
          let later = set hs place on.now in
          record {
            now = later;
            heard =
                subst (λ (vs : List Watched). AreHeard by number new_flows new_trails old.last vs later) (sym (goes_further by number c.args.asset place packet ws w.0 w.1 again))
                (subst (λ (n : ℕ). AreHeard by n new_flows new_trails old.last (set ws place one) later) (record_number number c.requires.number.0)
                (heard_set by (number - 1 + 1) old.flows.items old.trails.items old.last ws hs place c.hear.new.flow c.hear.new.trail w.0 one on.now
                (heard_more by (number - 1) old.flows.items old.trails.items old.last ws hs s) w.1 refl refl on.is low));
            moves = inl (h.0, on.now, h.1, on.goes_on, refl);
            others = λ i other.
                ap (λ (vs : List Watched). slice_get vs i) (goes_further by number c.args.asset place packet ws w.0 w.1 again)
                ∙ get_set_other ws place one i (λ e. other (ap Some (sym e)));
          };
      all = λ all. keeps_set old.trails.items place c.hear.new.trail all (c.in_ok-hear.ensures.base ∙ all place trail trail_is);
    }
