use Rattle.std.proofs.Common.{◌≡◌, ℕ, ◌+◌, ◌-◌, ◌*◌, ◌/◌, ◌<◌, ◌≤◌, List, length, take, drop, get_or, inl, inr, sym, ap, ◌∙◌, arith}
use Rattle.std.proofs.lemmas.Bool.{cases_lt}
use Rattle.std.proofs.lemmas.List.{get_or-take, get_or-drop, get_or_append_left, get_or-append_right, length-take-le}
use Rattle.cf_dnplink.proofs.user.two_blocks.Goals as goal

pub returns-clause-octets : goal.returns-clause-octets
returns-clause-octets c = λ k l.
    (let a = c.pieces.result.0.now in
    let b = c.pieces.result.1.now in
    let blocks = c.args.blocks.now.bytes in
    let len = c.args.len in
    let all : length blocks ≡ length a = sym c.requires.one ∙ c.pieces.ensures.split in
    let long : len + 2 ≤ length a = omega (arith, all, c.requires.inside) in
    let front : length (take 16 a) ≡ 16 = length-take-le 16 a (omega (arith, long, c.requires.len)) in
    let place : k + k / 16 * 2 < length a = omega (arith, long, l, c.requires.len) in
    let there : get_or a (k + k / 16 * 2) 0 ≡ get_or blocks (k + k / 16 * 2) 0 =
    sym (get_or_append_left a b 0 (k + k / 16 * 2) place) ∙ ap (λ (xs : List ℕ). get_or xs (k + k / 16 * 2) 0) (sym c.pieces.ensures.bytes) in
    ap (λ (xs : List ℕ). get_or xs k 0) c.two.ensures.bytes
    ∙ elim (cases_lt k 16) [
      | inl v ↦
          (let same : k ≡ k + k / 16 * 2 = omega (arith, v) in
          get_or_append_left (take 16 a) (take (len + 2 - 18) (drop 18 a)) 0 k (omega (arith, front, v))
          ∙ get_or-take 16 a k 0 v
          ∙ ap (λ (i : ℕ). get_or a i 0) same)
      | inr v ↦
          (let same : 18 + (k - 16) ≡ k + k / 16 * 2 = omega (arith, v, l, c.requires.len) in
          get_or-append_right (take 16 a) (take (len + 2 - 18) (drop 18 a)) 16 k 0 front v
          ∙ get_or-take (len + 2 - 18) (drop 18 a) (k - 16) 0 (omega (arith, v, l, c.requires.len))
          ∙ get_or-drop 18 a (k - 16) 0
          ∙ ap (λ (i : ℕ). get_or a i 0) same)
    ]
    ∙ there)
