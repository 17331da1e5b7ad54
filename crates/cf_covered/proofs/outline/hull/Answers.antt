use Rattle.std.proofs.Common.{◌≡◌, ◌∙◌, false, sym, subst, true, rules}
use Rattle.std.specs.List.{All}
use Rattle.std.proofs.lemmas.Bool.{true≢false}
use Rattle.std.proofs.lemmas.List.{take_all}
use Rattle.cf_policy.specs.Verdict.{is_empty}
use Rattle.cf_covered.specs.Outlines.{has_ends}
use Rattle.cf_covered.proofs.OutlineLooks.{one_more_inside, still_within}
use Rattle.cf_covered.proofs.outline.hull.Goals as goal

pub loop-span-preserved : goal.loop-span-preserved
loop-span-preserved c = record {
  stated = one_more_inside c.args.spans.now c.loop-span.span-index _ c.loop-span.hull c.joined-hull.result c.loop-span-test.true
      c.loop-span.invariant.stated c.joined-hull.ensures.begins c.joined-hull.ensures.ends c.joined-hull.ensures.has;
  within = still_within c.loop-span.hull c.joined-hull.result c.joined-hull.ensures.begins c.joined-hull.ensures.ends
      c.loop-span.invariant.within;
}

pub returns : goal.returns
returns c =
    let stated : is_empty c.args.spans.now ≡ false = search rules in
    record {
      stated = subst (All (λ s. has_ends c.loop-span.hull s ≡ true)) (take_all c.loop-span.span-index c.args.spans.now c.loop-span-test.false)
          c.loop-span.invariant.stated;
      unstated = λ none. absurd (true≢false (sym none ∙ stated));
      within = c.loop-span.invariant.within;
    }
