use Rattle.std.proofs.Common.{rules, ◌≡◌, ◌+◌, ◌∙◌, sym, subst, ap, Some, pos, slice_get, List, length, arith}
use Rattle.std.proofs.lemmas.Option.{slice_get-get_or}
use Rattle.cf_policy.specs.declared.index.CodePair.{CodePair}
use Rattle.cf_policy.specs.Verdict.{takes}
use Rattle.cf_policy.specs.Index.{HasPairsBelow}
use Rattle.cf_policy.proofs.Pairs.{below_none, below_more, below_skipped}
use Rattle.cf_policy.proofs.index.client_pairs.Goals as goal
use Rattle.cf_policy.proofs.index.client_pairs.Goals.{then-takes+in_ok-push_codes, else-takes}
use Rattle.std.proofs.lemmas.Grind.{common_steps}

pub loop-place-init : goal.loop-place-init
loop-place-init c = grind (arith, common_steps, below_none)

pub loop-place-preserved : goal.loop-place-preserved
loop-place-preserved c =
    let all = c.args.rules.now in
    let r = c.index-rules-place.result in
    let here : slice_get all c.loop-place.place ≡ Some r = slice_get-get_or all c.loop-place.place r c.loop-place-test.true ∙ ap Some (sym c.index-rules-place.is) in
    let test : c.takes.result ≡ takes r.clients (pos c.args.client) = search rules in
    let goal_at : List CodePair → Type 0 = λ l. HasPairsBelow (c.loop-place.place + 1) all c.args.client l in
    elim c.if-takes.branch [
      | then-takes+in_ok-push_codes w ↦ subst goal_at (sym (ap (λ v. v.items) w.pairs-is))
          (below_more all c.args.client c.loop-place.place r here c.loop-place.pairs.items w.push_codes.new.pairs.items (sym test ∙ w.if-takes.true) w.in_ok-push_codes.ensures c.loop-place.invariant)
      | else-takes w ↦ subst goal_at (sym (ap (λ v. v.items) w.pairs-is))
          (below_skipped all c.args.client c.loop-place.place r here c.loop-place.pairs.items (sym test ∙ w.if-takes.false) c.loop-place.invariant)
    ]

pub returns : goal.returns
returns c =
    let end : c.loop-place.place ≡ length c.args.rules.now = omega arith in
    subst (λ n. HasPairsBelow n c.args.rules.now c.args.client c.loop-place.pairs.items) end c.loop-place.invariant
