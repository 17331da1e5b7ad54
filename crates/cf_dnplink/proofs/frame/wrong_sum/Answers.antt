use Rattle.std.proofs.Common.{◌≡◌, ◌+◌, ◌<◌, ◌≤◌, length, slice_range, slice_index, arith, ap, sym, ◌∙◌, below_more}
use Rattle.cf_dnplink.specs.Crc.{crc_of}
use Rattle.cf_dnplink.proofs.FramePlaces.{low_right, low_wrong, high_right, high_wrong, to_sum}
use Rattle.cf_dnplink.proofs.frame.wrong_sum.Goals as goal

pub returns-then-end-stop : goal.returns-then-end-stop
returns-then-end-stop c =
    let r = c.requires in
    λ p l. to_sum c.args.bytes.now.bytes c.args.start c.args.stop c.args.end c.args.end r.inside r.block r.past.1 r.before (omega arith) (omega (arith, c.if-end-stop.true)) p (omega arith)

pub returns-then-at-sum : goal.returns-then-at-sum
returns-then-at-sum c =
    let r = c.requires in
    let xs = c.args.bytes.now.bytes in
    let start = c.args.start in
    let stop = c.args.stop in
    let sum = c.crc-sum.result in
    let is : sum ≡ crc_of (slice_range xs start stop) = c.crc-sum.ensures ∙ ap crc_of c.sub.ensures.bytes in
    let past : 2 < stop = omega (arith, r.past.0) in
    let inside : stop ≤ length xs = omega (arith, r.inside, c.if-end-stop.false) in
    let before = to_sum xs start stop c.args.end stop r.inside r.block r.past.1 r.before (omega (arith, c.if-end-stop.false)) (omega arith) in
    (omega (arith, c.if-end-stop.false), before, low_wrong xs start stop sum _ past r.ordered r.block is inside (λ e. c.if-at-sum.true (c.at.ensures.value ∙ e)))

pub returns-then-end-stop-2 : goal.returns-then-end-stop-2
returns-then-end-stop-2 c =
    let r = c.requires in
    let xs = c.args.bytes.now.bytes in
    let start = c.args.start in
    let stop = c.args.stop in
    let sum = c.crc-sum.result in
    let is : sum ≡ crc_of (slice_range xs start stop) = c.crc-sum.ensures ∙ ap crc_of c.sub.ensures.bytes in
    let past : 2 < stop = omega (arith, r.past.0) in
    let inside : stop ≤ length xs = omega (arith, r.inside, c.if-end-stop.false) in
    let before = to_sum xs start stop c.args.end stop r.inside r.block r.past.1 r.before (omega (arith, c.if-end-stop.false)) (omega arith) in
    let first = below_more _ _ before (low_right xs start stop sum (slice_index xs stop) past r.ordered r.block is inside (sym c.at.ensures.value ∙ c.if-at-sum.false)) in
    λ p l. first p (omega (arith, l, c.if-end-stop-2.true))

pub returns-then-at-sum-2 : goal.returns-then-at-sum-2
returns-then-at-sum-2 c =
    let r = c.requires in
    let xs = c.args.bytes.now.bytes in
    let start = c.args.start in
    let stop = c.args.stop in
    let sum = c.crc-sum.result in
    let is : sum ≡ crc_of (slice_range xs start stop) = c.crc-sum.ensures ∙ ap crc_of c.sub.ensures.bytes in
    let past : 2 < stop = omega (arith, r.past.0) in
    let inside : stop ≤ length xs = omega (arith, r.inside, c.if-end-stop.false) in
    let before = to_sum xs start stop c.args.end stop r.inside r.block r.past.1 r.before (omega (arith, c.if-end-stop.false)) (omega arith) in
    let first = below_more _ _ before (low_right xs start stop sum (slice_index xs stop) past r.ordered r.block is inside (sym c.at.ensures.value ∙ c.if-at-sum.false)) in
    let more : stop + 1 ≤ length xs = omega (arith, r.inside, c.if-end-stop.false, c.if-end-stop-2.false) in
    (omega (arith, c.if-end-stop.false, c.if-end-stop-2.false), first, high_wrong xs start stop sum _ past r.ordered r.block is more (λ e. c.if-at-sum-2.true (c.at-2.ensures.value ∙ e)))

pub returns : goal.returns
returns c =
    let r = c.requires in
    let xs = c.args.bytes.now.bytes in
    let start = c.args.start in
    let stop = c.args.stop in
    let sum = c.crc-sum.result in
    let is : sum ≡ crc_of (slice_range xs start stop) = c.crc-sum.ensures ∙ ap crc_of c.sub.ensures.bytes in
    let past : 2 < stop = omega (arith, r.past.0) in
    let inside : stop ≤ length xs = omega (arith, r.inside, c.if-end-stop.false) in
    let before = to_sum xs start stop c.args.end stop r.inside r.block r.past.1 r.before (omega (arith, c.if-end-stop.false)) (omega arith) in
    let first = below_more _ _ before (low_right xs start stop sum (slice_index xs stop) past r.ordered r.block is inside (sym c.at.ensures.value ∙ c.if-at-sum.false)) in
    let more : stop + 1 ≤ length xs = omega (arith, r.inside, c.if-end-stop.false, c.if-end-stop-2.false) in
    let both = below_more _ _ first (high_right xs start stop sum (slice_index xs (stop + 1)) past r.ordered r.block is more (sym c.at-2.ensures.value ∙ c.if-at-sum-2.false)) in
    λ p l. both p (omega (arith, l))
