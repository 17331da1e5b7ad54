use Rattle.std.proofs.Common.{rules, ◌≡◌, ◌+◌, ◌-◌, ◌*◌, ◌^◌, ◌≤◌, ◌∙◌, ◌++◌, ◌∷◌, [], inr, sym, ap, subst, refl, arith, ℕ, List, length, slice_get, cond, Some}
use Rattle.std.specs.BTreeMap.{get}
use Rattle.std.specs.Ordering.{is_eq}
use Rattle.cf_packet.specs.Packet.{packet_value}
use Rattle.cf_view.specs.declared.Endpoint.{Endpoint}
use Rattle.cf_watch.specs.FlowValue.{FlowValue}
use Rattle.cf_watch.specs.declared.flow.Flow.{Flow}
use Rattle.cf_watch.specs.Trail.{AreHeard, key_cmp, key_of}
use Rattle.cf_watch.specs.Seen.{begun_with}
use Rattle.cf_watch.specs.Watched.{Watched}
use Rattle.cf_watch.specs.declared.watching.FlowKey.{FlowKey}
use Rattle.cf_watch.specs.declared.watching.Trail.{Trail}
use Rattle.cf_watch.proofs.Tables.{get_push_other, heard_append, heard_first, keeps_append, record_number}
use Rattle.cf_watch.proofs.watching.Watch.begin.Goals as goal

pub returns : goal.returns
returns c =
    let by = c.args.scope in
    let packet = packet_value c.args.packet.now in
    let number = c.args.number in
    let old = c.args.self.now in
    let new = c.add.new.self in
    let flow = c.hear.new.flow in
    let trail = c.hear.new.trail in
    let first : Watched = record { client = packet.source; asset = c.args.asset; origin = c.args.opening.origin; answered = c.args.opening.answered; midstream = c.args.opening.midstream; carried = [] } in
    let one = begun_with by c.args.opening number c.args.asset packet in
    let on = c.in_ok-hear.ensures.heard first _ (heard_first by _ _ packet.source c.args.asset c.args.opening.origin c.args.opening.answered c.args.opening.midstream refl refl refl c.new.ensures.items c.new-2.ensures refl refl refl refl refl c.new-3.ensures.empty) in
    let is = on.is in
    let low : trail.top ≤ (number - 1 + 1) * 2 ^ 32 = omega (arith, c.in_ok-hear.ensures.low, c.requires.number.0) in
    let updates : (q : FlowKey) → get key_cmp new.last q ≡ cond (is_eq (key_cmp (key_of one.client one.asset) q)) (Some (length old.flows.items)) (get key_cmp old.last q) =
    λ q. c.in_ok-add.ensures.last q
    ∙ ap (λ (e : Endpoint). cond (is_eq (key_cmp (key_of e flow.asset) q)) (Some (length old.flows.items)) (get key_cmp old.last q)) (sym (ap (λ (v : FlowValue). v.client) is.value) ∙ is.flow.client)
    ∙ ap (λ (a : ℕ). cond (is_eq (key_cmp (key_of one.client a) q)) (Some (length old.flows.items)) (get key_cmp old.last q)) (sym (ap (λ (v : FlowValue). v.asset) is.value) ∙ is.flow.asset) in
    record {
      heard = λ ws hs s. record {
        now = hs ++ on.now ∷ [];
        heard =
            subst (λ (n : ℕ). AreHeard by n new.flows.items new.trails.items new.last (ws ++ one ∷ []) (hs ++ on.now ∷ [])) (record_number number c.requires.number.0)
            (subst (λ (fs : List Flow). AreHeard by (number - 1 + 1) fs new.trails.items new.last (ws ++ one ∷ []) (hs ++ on.now ∷ [])) (sym c.in_ok-add.ensures.flows)
            (subst (λ (ts : List Trail). AreHeard by (number - 1 + 1) (old.flows.items ++ flow ∷ []) ts new.last (ws ++ one ∷ []) (hs ++ on.now ∷ [])) (sym c.in_ok-add.ensures.trails)
            (heard_append by (number - 1) old.flows.items old.trails.items old.last new.last ws hs flow trail one on.now s is low updates)));
        moves =
            let count : c.len-place.result ≡ length old.flows.items = search rules in
            inr (
              _,
              on.now,
              record { bytes = c.new.ensures.items; born = c.new-2.ensures; conflict = refl; midstream = c.requires.midstream; base = refl },
              on.goes_on,
              omega (arith, count, s.flow_count, s.heard_count),
              refl,
            );
        others = λ i other.
            let count : c.len-place.result ≡ length old.flows.items = search rules in
            get_push_other ws one i (λ e. other (ap Some (omega (arith, count, s.flow_count, e))));
      };
      all = λ all.
          subst (λ (ts : List Trail). (i : ℕ) (t : Trail) → slice_get ts i ≡ Some t → t.base ≡ 0) (sym c.in_ok-add.ensures.trails)
          (keeps_append old.trails.items trail all c.in_ok-hear.ensures.base);
    }
