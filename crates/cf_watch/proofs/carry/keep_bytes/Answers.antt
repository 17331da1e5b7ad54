use Rattle.std.proofs.Common.{rules, ◌≡◌, ℕ, length, arith, subst, to_z, of_z, w64}
use Rattle.std.proofs.lemmas.Int.{ints}
use Rattle.cf_watch.specs.Kept.{IsRoom}
use Rattle.cf_watch.proofs.carry.keep_bytes.Goals as goal

pub keep_apart-requires-clause-room : goal.keep_apart-requires-clause-room
keep_apart-requires-clause-room c = λ q e.
    let here : to_z w64 (of_z w64 c.args.at) ≡ c.args.at = omega (arith, ints, c.ranges.at.sfits) in
    let n : length c.extend_from_slice.new.self.items ≡ length c.args.bytes.now = search rules in
    subst (λ (k : ℕ). IsRoom q k c.args.ahead.now) (omega (arith, n)) (c.requires.room q (omega (arith, ints, e, here)))
