use Rattle.std.proofs.Common.{rules, ◌≡◌, ◌++◌, ◌∷◌, [], refl, subst, List}
use Rattle.cf_watch.specs.Pieces.{IsLastRecord}
use Rattle.cf_watch.specs.declared.born.Piece.{Piece}
use Rattle.cf_watch.proofs.Pieces.{on_new, on_same}
use Rattle.cf_watch.proofs.born.go_on.Goals as goal

pub returns-then-is_last-clause-more : goal.returns-then-is_last-clause-more
returns-then-is_last-clause-more c = λ more.
    let pieces = c.args.pieces.now.items in
    let last = subst (λ (xs : List Piece). IsLastRecord xs c.args.number) c.as_slice.ensures.value (c.is_last.ensures c.if-is_last.true) in
    on_same pieces c.args.count more c.args.number (record { first = 0; number = 0 }) c.requires.pieces last

pub returns-in-Ok-clause-more : goal.returns-in-Ok-clause-more
returns-in-Ok-clause-more c = λ more.
    let piece : Piece = record { first = c.args.count; number = c.args.number } in
    let pushed : c.push.new.self.items ≡ c.args.pieces.now.items ++ piece ∷ [] = search rules in
    rw pushed (on_new c.args.pieces.now.items piece c.args.count more refl)
