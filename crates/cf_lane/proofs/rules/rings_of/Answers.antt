use Rattle.std.proofs.Common.{◌++◌, [], Some, sym, ap, ◌∙◌}
use Rattle.std.proofs.lemmas.Option.{slice_get-get_or}
use Rattle.cf_lane.specs.Rates.{and_rated}
use Rattle.cf_lane.proofs.Rated.{rated_next}
use Rattle.cf_lane.proofs.rules.rings_of.Goals as goal

pub loop-number-preserved : goal.loop-number-preserved
loop-number-preserved c =
    let list = c.args.rules.now in
    let n = c.loop-number.number in
    let r = c.index-rules-number.result in
    let at = slice_get-get_or list n r c.loop-number-test.true ∙ ap Some (sym c.index-rules-number.is) in
    record {
      rated = c.in_ok-push_ring.ensures.rated ∙ ap (λ ps. ps ++ and_rated n r.rate []) c.loop-number.invariant.rated ∙ sym (rated_next list n r at);
      empty = c.in_ok-push_ring.ensures.empty c.loop-number.invariant.empty;
    }
