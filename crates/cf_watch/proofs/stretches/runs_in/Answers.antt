use Rattle.std.proofs.Common.{◌∙◌, map, refl, reverse, sym, arith}
use Rattle.cf_watch.specs.Kept.{run_value}
use Rattle.cf_watch.proofs.Runs.{runs_more}
use Rattle.cf_watch.proofs.stretches.runs_in.Goals as goal

pub portions-init : goal.portions-init
portions-init c = record {
  from = 0;
  still = λ q h. refl;
  taken = λ q h. absurd (omega (arith, h));
  are_runs = rw c.new-runs.ensures.items refl;
}

pub portions-preserved : goal.portions-preserved
portions-preserved c =
    runs_more c.args.count c.args.ahead.now c.portions.ahead c.take_first.new.ahead c.in-Some.start c.in-Some.portion (reverse (map run_value c.portions.runs.items))
    (reverse (map run_value c.put_portion.new.runs.items)) c.portions.invariant c.in-Some.ensures.some c.in_ok-put_portion-in-Some.ensures

pub portions-preserved-in_ok-put_portion-in-Some : goal.portions-preserved-in_ok-put_portion-in-Some
portions-preserved-in_ok-put_portion-in-Some c =
    runs_more c.args.count c.args.ahead.now c.portions.ahead c.take_first.new.ahead c.in-Some.start c.in-Some.portion (reverse (map run_value c.portions.runs.items))
    (reverse (map run_value c.put_portion.new.runs.items)) c.portions.invariant c.in-Some.ensures.some c.in_ok-put_portion-in-Some.ensures

pub returns-in-None : goal.returns-in-None
returns-in-None c =
    let was = c.portions.invariant in
    record {
      places = was.from;
      none_behind = λ q h. sym (was.still q h) ∙ c.in-None.ensures.none refl q;
      are_runs = was.are_runs;
    }
