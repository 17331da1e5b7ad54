use Rattle.std.proofs.Common.{◌≡◌, ◌+◌, ◌-◌, ◌<◌, ◌∙◌, ℕ, List, length, get_or, sym, ap, subst, arith}
use Rattle.std.proofs.lemmas.List.{get_or-drop}
use Rattle.cf_watch.specs.Pieces.{ArePieces, born_of, record_by}
use Rattle.cf_watch.specs.declared.born.Piece.{Piece}
use Rattle.cf_watch.proofs.Pieces.{born_at, left_length}
use Rattle.cf_watch.proofs.born.Born.record_at.Goals as goal

pub overflow_add-place : goal.overflow_add-place
overflow_add-place c =
    let size : length c.args.self.now ≡ c.self.inside.count - c.self.inside.gone = ap length (sym c.self.view_is) ∙ left_length c.self.inside.pieces.items c.self.inside.gone c.self.inside.count in
    omega (arith, size, c.requires.place, c.self.invariant.1, c.self.invariant.2)

pub returns : goal.returns
returns c =
    let pieces = c.self.inside.pieces.items in
    let count = c.self.inside.count in
    let gone = c.self.inside.gone in
    let place = c.args.place + gone in
    let lent = c.as_slice.ensures.value in
    let is : c.record_by.result ≡ record_by 0 pieces place =
    c.record_by.ensures count (subst (λ (xs : List Piece). ArePieces xs count) (sym lent) c.self.invariant.0) ∙ ap (λ (xs : List Piece). record_by 0 xs place) lent in
    let size : length c.args.self.now ≡ count - gone = ap length (sym c.self.view_is) ∙ left_length pieces gone count in
    let inside : place < count = omega (arith, c.requires.place, size) in
    let same : place ≡ gone + c.args.place = omega arith in
    c.from.ensures ∙ is ∙ sym (born_at pieces count place inside) ∙ ap (λ (p : ℕ). get_or (born_of pieces count) p 0) same
    ∙ sym (get_or-drop gone (born_of pieces count) c.args.place 0) ∙ ap (λ (xs : List ℕ). get_or xs c.args.place 0) c.self.view_is
