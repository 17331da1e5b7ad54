use Rattle.std.proofs.Common.{rules, ◌≡◌, ◌+◌, ◌-◌, ◌≤◌, ◌∙◌, List, drop, leb, length, sym, ap, subst, arith}
use Rattle.std.proofs.lemmas.List.Sorted.{IsPartitionPoint-from_clause, IsPartitionedBy-leb}
use Rattle.cf_watch.specs.declared.born.Piece.{Piece}
use Rattle.cf_watch.specs.Pieces.{ArePieces, born_of}
use Rattle.cf_watch.proofs.Pieces.{IsHalved, are_left, born_left, left_length, record_left}
use Rattle.cf_watch.proofs.born.Born.forget.Goals as goal

pub overflow_add-place : goal.overflow_add-place
overflow_add-place c =
    let size : length c.args.self.now ≡ c.self.inside.count - c.self.inside.gone = ap length (sym c.self.view_is) ∙ left_length c.self.inside.pieces.items c.self.inside.gone c.self.inside.count in
    omega (arith, size, c.requires.inside, c.self.invariant.1, c.self.invariant.2)

pub overflow_cast-self : goal.overflow_cast-self
overflow_cast-self c =
    let size : length c.args.self.now ≡ c.self.inside.count - c.self.inside.gone = ap length (sym c.self.view_is) ∙ left_length c.self.inside.pieces.items c.self.inside.gone c.self.inside.count in
    omega (arith, size, c.requires.inside, c.self.invariant.1, c.self.invariant.2)

pub invariant_of-self : goal.invariant_of-self
invariant_of-self c =
    let size : length c.args.self.now ≡ c.self.inside.count - c.self.inside.gone = ap length (sym c.self.view_is) ∙ left_length c.self.inside.pieces.items c.self.inside.gone c.self.inside.count in (
      subst (λ (xs : List Piece). ArePieces xs c.self.inside.count) (sym c.leave_from.ensures) (are_left c.self.inside.pieces.items c.saturating_sub.result c.self.inside.count c.self.invariant.0),
      omega (arith, size, c.requires.inside, c.self.invariant.1),
      c.self.invariant.2,
    )

pub returns : goal.returns
returns c =
    let pieces = c.self.inside.pieces.items in
    let count = c.self.inside.count in
    let gone = c.self.inside.gone in
    let place = gone + c.args.count in
    let behind = c.partition_point-behind.result in
    let lent = c.as_slice.ensures.value in
    let rise = subst (λ (xs : List Piece). ArePieces xs count) (sym lent) c.self.invariant.0 in
    let split = IsPartitionPoint-from_clause (λ (p : Piece). leb p.first place) _ _ c.partition_point-behind.ensures.partitioned
    (IsPartitionedBy-leb (λ (p : Piece). p.first) _ place rise.rise) (λ a r q k. search rules) in
    let bound : behind ≤ length pieces = subst (λ (xs : List Piece). behind ≤ length xs) lent c.partition_point-behind.ensures.bound in
    let half : IsHalved pieces place behind = subst (λ (xs : List Piece). IsHalved xs place behind) lent split in
    ap (λ (xs : List Piece). drop place (born_of xs count)) c.leave_from.ensures
    ∙ born_left pieces (drop c.saturating_sub.result pieces) gone c.args.count count (record_left pieces place behind c.saturating_sub.result bound c.saturating_sub.ensures half)
    ∙ ap (drop c.args.count) c.self.view_is
