use Rattle.std.proofs.lemmas.Result.{on_ok_weaker}
use Rattle.cf_learn.proofs.Fragments.{put_fragment_at}
use Rattle.cf_learn.proofs.polls.Polls.put_fragment.Goals as goal

pub returns : goal.returns
returns c seen are has =
    on_ok_weaker c.fill.result
    (λ filled. record {
      requests = are.requests;
      fragments = put_fragment_at c.args.self.now.fragments.items c.args.place c.fill.new.self c.args.client c.in-Some.control c.args.octets.now.bytes c.in-Some.behind.now
          filled.0 filled.1 c.in-Some.ensures c.if-control-lt-SINGLE.false seen are.fragments has;
    })
    c.fill.ensures
