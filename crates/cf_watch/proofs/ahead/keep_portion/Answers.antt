use Rattle.cf_watch.proofs.Portions.{put_before, put_behind}
use Rattle.cf_watch.proofs.Ranges.{other_key}
use Rattle.cf_watch.proofs.ahead.keep_portion.Goals as goal

pub returns-in-Ok : goal.returns-in-Ok
returns-in-Ok c =
    let a = c.args.ahead.now in
    let b = c.insert.new.self in
    let place = c.args.place in
    let p = c.args.portion in
    let up = c.in-Ok.ensures.updates in
    record {
      before = λ q v. put_before a b place p up.1 (λ r d. up.2 r (other_key place r d)) q v;
      behind = λ k. put_behind a b place p up.1 (λ r d. up.2 r (other_key place r d)) c.requires.some c.requires.room k;
    }
