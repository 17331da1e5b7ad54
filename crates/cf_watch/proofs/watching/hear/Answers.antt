use Rattle.std.proofs.Common.{◌≡◌, ◌+◌, ◌≤◌, ◌^◌, ◌∙◌, ◌∷◌, ◌+ℤ◌, drop, ap, sym, subst, refl, arith, ℕ, ℤ, pos, List, max, length, Bool, ◌||◌, false, Option, to_z, of_z, w64}
use Rattle.std.proofs.lemmas.Int.{ints}
use Rattle.cf_packet.specs.Packet.{packet_value}
use Rattle.cf_stream.specs.Stream.{Stream}
use Rattle.cf_watch.specs.Carried.{Carried, copy_of, end_after, end_of, top_of}
use Rattle.cf_watch.specs.Flow.{IsFlowOf}
use Rattle.cf_watch.specs.FlowValue.{FlowValue}
use Rattle.cf_watch.specs.Kept.{Grows, IsKept, kept, known, with_gone}
use Rattle.cf_leg.specs.Segment.{has_ack}
use Rattle.cf_watch.specs.Seen.{far, near, without_first}
use Rattle.cf_watch.specs.Stretches.{first_letter, is_own}
use Rattle.cf_watch.specs.Trail.{Heard, HearsOn, IsConflictNow}
use Rattle.cf_watch.specs.declared.flow.Conflict.{Conflict}
use Rattle.cf_watch.specs.declared.watching.Trail.{Trail}
use Rattle.cf_watch.specs.Watched.{carried_by}
use Rattle.cf_watch.proofs.Near.{IsFar, end_low, near_is, near_kept, near_to, still_gone}
use Rattle.cf_watch.proofs.Standing.{all_grow, born_now, bytes_now, conflict_by, conflict_now, holds_now, knows_now}
use Rattle.cf_watch.proofs.watching.hear.Goals as goal

pub carry-requires-clause-kept : goal.carry-requires-clause-kept
carry-requires-clause-kept c =
    let trail = c.args.trail.now in
    let found = c.text_place-place.result in
    let first = c.far-first.result in
    let here : to_z w64 (of_z w64 found) ≡ found = omega (arith, ints, c.text_place-place.ensures.from, c.text_place-place.ensures.to, c.requires.low) in
    let at : to_z w64 (of_z w64 (to_z w64 (of_z w64 found) +ℤ to_z w64 first)) ≡ found +ℤ pos first =
    omega (arith, ints, here, c.text_place-place.ensures.from, c.text_place-place.ensures.to, c.far-first.ensures.few, c.requires.low) in
    let is_far : IsFar c.args.scope trail.top found first = (c.far-first.ensures.connections, λ e. c.far-first.ensures.recording e ∙ ap (far trail.top) here) in
    subst (IsKept trail.base) (sym at) (near_kept c.args.scope trail.base trail.top first found c.requires.gone is_far)

pub returns-clause-heard : goal.returns-clause-heard
returns-clause-heard c w h is =
    let by = c.args.scope in
    let number = c.args.number in
    let packet = packet_value c.args.packet.now in
    let trail = c.args.trail.now in
    let found = c.text_place-place.result in
    let first = c.far-first.result in
    let here : to_z w64 (of_z w64 found) ≡ found = omega (arith, ints, c.text_place-place.ensures.from, c.text_place-place.ensures.to, c.requires.low) in
    let at : to_z w64 (of_z w64 (to_z w64 (of_z w64 found) +ℤ to_z w64 first)) ≡ found +ℤ pos first =
    omega (arith, ints, here, c.text_place-place.ensures.from, c.text_place-place.ensures.to, c.far-first.ensures.few, c.requires.low) in
    let all = carried_by number trail.origin trail.top packet in
    let is_at : found ≡ all.at = c.text_place-place.ensures.value in
    let is_far : IsFar by trail.top all.at first = (c.far-first.ensures.connections, λ e. c.far-first.ensures.recording e ∙ ap (far trail.top) (here ∙ is_at)) in
    -- what was read of the packet
    let text : Stream = record { bytes = c.text_from-text.result.now; ended = c.ends_from-ended.result } in
    let one : Carried = record { number = number; at = to_z w64 (of_z w64 (to_z w64 (of_z w64 found) +ℤ to_z w64 first)); text = text } in
    let parts : one ≡ without_first first all =
    ap (λ (z : ℤ). let k : Carried = record { number = number; at = z; text = text } in k) (at ∙ ap (λ (z : ℤ). z +ℤ pos first) is_at)
    ∙ ap (λ (xs : List ℕ). let k : Carried = record { number = number; at = all.at +ℤ pos first; text = record { bytes = xs; ended = text.ended } } in k) c.text_from-text.ensures
    ∙ ap (λ (b : Bool). let k : Carried = record { number = number; at = all.at +ℤ pos first; text = record { bytes = drop first packet.text; ended = b } } in k) c.ends_from-ended.ensures in
    let are : one ≡ near by (top_of w.carried) (carried_by number w.origin (top_of w.carried) packet) =
    parts ∙ near_is by trail.top first all is_far ∙ ap (λ (o : ℕ). near by trail.top (carried_by number o trail.top packet)) is.origin
    ∙ ap (λ (t : ℕ). near by t (carried_by number w.origin t packet)) is.top in
    -- the flow with what is kept no more
    let old = with_gone is.gone is.gone_born c.args.flow.now in
    let mid = with_gone is.gone is.gone_born c.carry.new.flow in
    let new = with_gone is.gone is.gone_born c.advance.new.flow in
    let a = trail.ahead in
    let d = c.carry.new.ahead in
    let gone_count = is.gone_count ∙ sym is.base in
    let takes = c.in_ok-carry.ensures.takes is.gone is.gone_born gone_count in
    let after = c.in_ok-advance.ensures.advances is.gone is.gone_born gone_count in
    let knew : (p : ℕ) → known old.bytes a p ≡ copy_of w.carried p = λ p. ap (λ (v : FlowValue). known v.bytes a p) (sym is.value) ∙ is.knows p in
    let was : IsFlowOf w old = subst (IsFlowOf w) is.value is.flow in
    let held = subst (λ (v : FlowValue). (q : ℕ) → is_own (length v.bytes) q ≡ false → kept a q ≡ first_letter w.carried q) is.value is.holds in
    let grows = all_grow w.carried one old mid new a d d knew takes after.knows after.grows after.stops after.conflict in
    let top : c.top_after-trail.result ≡ max (top_of w.carried) (end_of one) =
    c.top_after-trail.ensures ∙ ap (λ (n : ℕ). max trail.top (end_after one.at n)) c.letters_in.ensures.count ∙ ap (λ (t : ℕ). max t (end_of one)) is.top in
    let higher : trail.top ≤ c.top_after-trail.result = omega (arith, c.top_after-trail.ensures) in
    let now : Heard = record { value = new; base = h.base } in
    let later : Trail = record { origin = trail.origin; answered = c.is_answered-trail.result; top = c.top_after-trail.result; base = trail.base; ahead = d } in
    subst (λ (k : Carried). HearsOn by number c.advance.new.flow later (record w { answered = w.answered || has_ack packet; carried = k ∷ w.carried }) h) are (record {
      now = now;
      is = record {
        gone = is.gone;
        gone_born = is.gone_born;
        gone_count = is.gone_count;
        born_count = is.born_count;
        value = refl;
        base = is.base;
        may_be_gone = still_gone by trail.base trail.top c.top_after-trail.result higher is.may_be_gone;
        flow = record {
          client = grows.client ∙ was.client;
          asset = grows.asset ∙ was.asset;
          midstream = grows.midstream ∙ was.midstream;
          bytes = bytes_now w.carried one old mid new a d d knew takes after.knows after.grows after.stops after.conflict;
          born = born_now w.carried one old mid new a d d knew takes after.knows after.grows after.stops after.conflict was.bytes was.born;
          conflict = conflict_now w.carried one old mid new a d d knew takes after.knows after.grows after.stops after.conflict was.conflict;
        };
        origin = is.origin;
        answered = c.is_answered-trail.ensures ∙ ap (λ (x : Bool). x || has_ack packet) is.answered;
        top = top;
        knows = knows_now w.carried one old mid new a d d knew takes after.knows after.grows after.stops after.conflict;
        holds = holds_now w.carried one old mid new a d d held takes after.grows (λ q none. refl);
      };
      goes_on = record {
        grows = subst (λ (v : FlowValue). Grows number v new) (sym is.value) grows;
        conflict = subst (λ (v : FlowValue). IsConflictNow number v.conflict new.conflict) (sym is.value)
            (subst (λ (k : Option Conflict). IsConflictNow number old.conflict k) (sym after.conflict) (conflict_by (known old.bytes a) one old.conflict mid.conflict takes.conflicts));
        base = refl;
      };
    })

pub returns-clause-low : goal.returns-clause-low
returns-clause-low c =
    let trail = c.args.trail.now in
    let found = c.text_place-place.result in
    let first = c.far-first.result in
    let count = c.letters_in.result in
    let here : to_z w64 (of_z w64 found) ≡ found = omega (arith, ints, c.text_place-place.ensures.from, c.text_place-place.ensures.to, c.requires.low) in
    let at : to_z w64 (of_z w64 (to_z w64 (of_z w64 found) +ℤ to_z w64 first)) ≡ found +ℤ pos first =
    omega (arith, ints, here, c.text_place-place.ensures.from, c.text_place-place.ensures.to, c.far-first.ensures.few, c.requires.low) in
    let is_far : IsFar c.args.scope trail.top found first = (c.far-first.ensures.connections, λ e. c.far-first.ensures.recording e ∙ ap (far trail.top) here) in
    let to = near_to c.args.scope trail.top first found is_far c.text_place-place.ensures.to in
    let low : end_after (found +ℤ pos first) count ≤ trail.top + 2 ^ 32 = end_low (found +ℤ pos first) count (trail.top + 2 ^ 32) (omega (arith, ints, to, c.letters_in.ensures.few)) in
    let top : c.top_after-trail.result ≡ max trail.top (end_after (found +ℤ pos first) count) = c.top_after-trail.ensures ∙ ap (λ (z : ℤ). max trail.top (end_after z count)) at in
    omega (arith, top, low)
