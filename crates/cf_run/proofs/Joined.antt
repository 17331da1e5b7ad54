-- A head and what stands behind it, in one buffer.
use Rattle.std.proofs.Common.{◌≡◌, ℕ, ◌+◌, ◌-◌, ◌≤◌, ◌++◌, List, length, take, sym, ◌∙◌, ap, arith, length-append}
use Rattle.std.proofs.Math.Seq.{take-append_seam}
use Rattle.std.proofs.lemmas.Slice.{take-put_mid}
use borrow.Rule.Slice.PartMut.{put_mid}

-- of a buffer whose first 16 octets were written, and then those behind them, the front is both
pub joined : (head behind packet : List ℕ) (size : ℕ) → length head ≡ 16 → size ≡ 16 + length packet → take size (put_mid 16 (size - 16) (head ++ behind) packet) ≡ head ++ packet
joined head behind packet size long is =
    let room : 16 ≤ length (head ++ behind) = omega (arith, long, length-append head behind) in
    take-put_mid 16 (size - 16) (head ++ behind) packet size is room
    ∙ ap (λ (xs : List ℕ). xs ++ packet) (ap (λ (n : ℕ). take n (head ++ behind)) (sym long) ∙ take-append_seam head behind)
