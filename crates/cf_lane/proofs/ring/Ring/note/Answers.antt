use Rattle.std.proofs.Common.{rules, ◌≡◌, ◌<◌, ◌∷◌, ◌++◌, [], ap, arith, length, min, nat_le, count_by, sym, ◌∙◌, subst, take}
use Rattle.cf_lane.specs.Ring.{IsRingOf, RingValue}
use Rattle.cf_lane.proofs.Moments.{pushed, written}
use Rattle.std.proofs.Math.Seq.{take-length}
use Rattle.std.proofs.lemmas.List.{length-take, take_more_set}
use Rattle.cf_lane.proofs.ring.Ring.note.Goals as goal

pub returns-then-self-len-clause-moments : goal.returns-then-self-len-clause-moments
returns-then-self-len-clause-moments c = λ all is bound.
    let inside = c.self.inside in
    let room : inside.kept < length inside.moments.items = search rules in
    let behind = take_more_set inside.moments.items inside.kept c.args.moment room in
    let own = subst (λ (r : RingValue). IsRingOf r.rate.most r.moments all) (sym c.self.view_is) is in
    ap (count_by (nat_le bound)) behind
    ∙ pushed inside.rate.most (take inside.kept inside.moments.items) all c.args.moment (omega (arith, room, c.self.invariant.0, length-take inside.kept inside.moments.items)) own bound
    ∙ ap (λ (r : RingValue). min r.rate.most (count_by (nat_le bound) (all ++ c.args.moment ∷ []))) c.self.view_is

pub returns-else-self-len-clause-moments : goal.returns-else-self-len-clause-moments
returns-else-self-len-clause-moments c = λ all is bound.
    let inside = c.self.inside in
    let items = inside.moments.items in
    let whole : length items ≡ inside.rate.most = c.self.invariant.0 in
    let len : inside.moments.len ≡ length items = search rules in
    let kept : inside.kept ≡ length items = search rules in
    let size : length c.replace_least.new.moments ≡ length items = c.replace_least.ensures.length ∙ ap length c.as_mut_slice.ensures.value in
    let own = subst (λ (r : RingValue). IsRingOf r.rate.most r.moments all) (sym c.self.view_is) is in
    let mine : IsRingOf (length c.as_mut_slice.result.now) c.as_mut_slice.result.now all =
    subst (λ xs. IsRingOf (length xs) xs all) (sym c.as_mut_slice.ensures.value)
    (subst (λ n. IsRingOf n items all) (sym whole)
    (subst (λ xs. IsRingOf inside.rate.most xs all) (ap (λ k. take k items) kept ∙ take-length items) own)) in
    ap (count_by (nat_le bound)) (written inside.kept inside.moments.len c.replace_least.new.moments items (kept ∙ sym size) (len ∙ sym size))
    ∙ c.replace_least.ensures.moments all mine bound
    ∙ ap (λ n. min n (count_by (nat_le bound) (all ++ c.args.moment ∷ []))) (ap length c.as_mut_slice.ensures.value ∙ whole ∙ ap (λ (r : RingValue). r.rate.most) c.self.view_is)
