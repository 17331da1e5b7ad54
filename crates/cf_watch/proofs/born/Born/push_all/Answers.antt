use Rattle.std.proofs.Common.{◌+◌, ◌≤◌, ◌++◌, ◌∙◌, ℕ, List, length, replicate, ap, arith}
use Rattle.cf_watch.specs.Pieces.{born_of}
use Rattle.cf_watch.proofs.Pieces.{born_length, left_push}
use Rattle.cf_watch.proofs.born.Born.push_all.Goals as goal

pub returns : goal.returns
returns c =
    let gone = c.self.inside.gone in
    let old = born_of c.self.inside.pieces.items c.self.inside.count in
    let all : gone ≤ length old = omega (arith, born_length c.self.inside.pieces.items c.self.inside.count, c.self.invariant.1) in
    left_push old (born_of c.go_on.new.pieces.items (c.self.inside.count + c.args.count)) (replicate c.args.count c.args.number) gone all
    (c.in_ok-go_on.ensures.more c.args.count)
    ∙ ap (λ (ns : List ℕ). ns ++ replicate c.args.count c.args.number) c.self.view_is
