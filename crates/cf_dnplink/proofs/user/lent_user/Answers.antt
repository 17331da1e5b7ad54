use Rattle.std.proofs.Common.{◌≡◌, ℕ, ◌+◌, ◌-◌, ◌*◌, ◌/◌, ◌<◌, length, get_or, take, ap, ◌∙◌, arith}
use Rattle.std.proofs.lemmas.Grind.{same_number_lists}
use Rattle.std.proofs.lemmas.List.{get_or-take, length-take-le}
use Rattle.cf_dnplink.specs.LinkFrame.{frame_value}
use Rattle.cf_dnplink.specs.UserOctets.{user_of}
use Rattle.cf_dnplink.proofs.Frames.{user_sizes, user_place}
use Rattle.cf_dnplink.proofs.user.lent_user.Goals as goal

pub sub-requires-clause-inside : goal.sub-requires-clause-inside
sub-requires-clause-inside c =
    (let s = user_sizes (frame_value c.args.frame.now) c.requires in omega (arith, s.0, s.1, c.user_len-len.ensures.value))

pub two_blocks-requires-clause-inside : goal.two_blocks-requires-clause-inside
two_blocks-requires-clause-inside c =
    (let s = user_sizes (frame_value c.args.frame.now) c.requires in omega (arith, s.0, s.1, c.user_len-len.ensures.value, c.if-len-le16.false))

pub returns-then-len-le16-clause-octets : goal.returns-then-len-le16-clause-octets
returns-then-len-le16-clause-octets c =
    let f = frame_value c.args.frame.now in
    let blocks = c.args.frame.now.blocks.bytes in
    let len = c.user_len-len.result in
    let s = user_sizes f c.requires in
    let value = c.user_len-len.ensures.value in
    let test = c.if-len-le16.true in
    let size : length (take len blocks) ≡ len = length-take-le len blocks (omega (arith, s.0, s.1, value)) in
    let none : len - 0 ≡ len = omega arith in
    let cut : c.sub.result.bytes ≡ take len blocks = c.sub.ensures.bytes ∙ ap (λ (n : ℕ). take n blocks) none in
    cut ∙ same_number_lists (take len blocks) (user_of blocks) (size ∙ value) (λ k l.
    (let below : k < len = omega (arith, size, l) in
    let place : k ≡ k + k / 16 * 2 = omega (arith, below, test) in
    get_or-take len blocks k 0 below ∙ ap (λ (i : ℕ). get_or blocks i 0) place ∙ user_place f c.requires k (omega (arith, below, value))))

pub returns-clause-octets : goal.returns-clause-octets
returns-clause-octets c =
    let f = frame_value c.args.frame.now in
    let value = c.user_len-len.ensures.value in
    same_number_lists c.two_blocks.result.bytes (user_of c.args.frame.now.blocks.bytes) (c.two_blocks.ensures.len ∙ value) (λ k l.
    (let below : k < c.user_len-len.result = omega (arith, c.two_blocks.ensures.len, l) in
    c.two_blocks.ensures.octets k below ∙ user_place f c.requires k (omega (arith, below, value))))
