use Rattle.std.proofs.Common.{◌≡◌, ◌<◌, length, take, sym, ap, ◌∙◌, arith, length-take}
use Rattle.cf_pcapng.specs.Block.{Begins, Needs, Refuses, block_at, kind_at, last_of}
use Rattle.cf_pcapng.specs.declared.block.TheConstants.{REFUSED_BLOCK}
use Rattle.cf_pcapng.specs.Answers.{answer_of, whole_block_value}
use Rattle.cf_pcapng.specs.declared.block.WholeBlock.{WholeBlock}
use Rattle.cf_pcapng.specs.Blocks.{after, after_found}
use Rattle.cf_pcapng.specs.Section.{Section}
use Rattle.cf_pcapng.proofs.Deciding.{block_cut, block_differs, block_stops, kept_at, one_more, told_at, whole_at}
use Rattle.cf_pcapng.proofs.reader.Reader.next_block.Goals as goal
use Rattle.cf_pcapng.proofs.reader.Reader.next_block.Goals.{After-whole_in}

pub returns-in-Need-clause-found : goal.returns-in-Need-clause-found
returns-in-Need-clause-found c =
    told_at _ c.args.self.now c.args.bytes.now c.order_in-big_endian.result c.self.view_is c.order_in-big_endian.ensures (Needs c.in-Need.count)
    (block_stops c.args.self.now.kinds c.args.self.now.interfaces c.order_in-big_endian.result c.args.bytes.now (Needs c.in-Need.count) tt (sym c.in-Need.ensures.size))

pub returns-in-Need-clause-section : goal.returns-in-Need-clause-section
returns-in-Need-clause-section c =
    kept_at _ c.args.self.now c.args.bytes.now c.order_in-big_endian.result c.self.view_is c.order_in-big_endian.ensures (Needs c.in-Need.count)
    (block_stops c.args.self.now.kinds c.args.self.now.interfaces c.order_in-big_endian.result c.args.bytes.now (Needs c.in-Need.count) tt (sym c.in-Need.ensures.size))

pub returns-in-Refused-clause-found : goal.returns-in-Refused-clause-found
returns-in-Refused-clause-found c =
    told_at _ c.args.self.now c.args.bytes.now c.order_in-big_endian.result c.self.view_is c.order_in-big_endian.ensures (Refuses c.in-Refused.number)
    (block_stops c.args.self.now.kinds c.args.self.now.interfaces c.order_in-big_endian.result c.args.bytes.now (Refuses c.in-Refused.number) tt (sym c.in-Refused.ensures.size))

pub returns-in-Refused-clause-section : goal.returns-in-Refused-clause-section
returns-in-Refused-clause-section c =
    kept_at _ c.args.self.now c.args.bytes.now c.order_in-big_endian.result c.self.view_is c.order_in-big_endian.ensures (Refuses c.in-Refused.number)
    (block_stops c.args.self.now.kinds c.args.self.now.interfaces c.order_in-big_endian.result c.args.bytes.now (Refuses c.in-Refused.number) tt (sym c.in-Refused.ensures.size))

pub returns-then-bytes-used-clause-found : goal.returns-then-bytes-used-clause-found
returns-then-bytes-used-clause-found c =
    told_at _ c.args.self.now c.args.bytes.now c.order_in-big_endian.result c.self.view_is c.order_in-big_endian.ensures (Needs c.in-Size.used)
    (block_cut c.args.self.now.kinds c.args.self.now.interfaces c.order_in-big_endian.result c.args.bytes.now c.in-Size.used (sym c.in-Size.ensures.size) c.if-bytes-used.true)

pub returns-then-bytes-used-clause-section : goal.returns-then-bytes-used-clause-section
returns-then-bytes-used-clause-section c =
    kept_at _ c.args.self.now c.args.bytes.now c.order_in-big_endian.result c.self.view_is c.order_in-big_endian.ensures (Needs c.in-Size.used)
    (block_cut c.args.self.now.kinds c.args.self.now.interfaces c.order_in-big_endian.result c.args.bytes.now c.in-Size.used (sym c.in-Size.ensures.size) c.if-bytes-used.true)

pub returns-then-differs-clause-found : goal.returns-then-differs-clause-found
returns-then-differs-clause-found c =
    told_at _ c.args.self.now c.args.bytes.now c.order_in-big_endian.result c.self.view_is c.order_in-big_endian.ensures (Refuses REFUSED_BLOCK)
    (block_differs c.args.self.now.kinds c.args.self.now.interfaces c.order_in-big_endian.result c.args.bytes.now c.in-Size.used (sym c.in-Size.ensures.size)
    c.if-bytes-used.false (sym c.differs.ensures ∙ c.if-differs.true))

pub returns-then-differs-clause-section : goal.returns-then-differs-clause-section
returns-then-differs-clause-section c =
    kept_at _ c.args.self.now c.args.bytes.now c.order_in-big_endian.result c.self.view_is c.order_in-big_endian.ensures (Refuses REFUSED_BLOCK)
    (block_differs c.args.self.now.kinds c.args.self.now.interfaces c.order_in-big_endian.result c.args.bytes.now c.in-Size.used (sym c.in-Size.ensures.size)
    c.if-bytes-used.false (sym c.differs.ensures ∙ c.if-differs.true))

-- what the whole block says
is_block : (c : After-whole_in) → whole_block_value c.in-Size.used c.whole_in.result ≡ block_at c.args.self.now c.args.bytes.now
is_block c =
    whole_at (record { kinds = c.self.inside.kinds; big_endian = c.self.inside.big_endian; interfaces = take c.self.inside.count c.self.inside.slots.items }) c.args.self.now c.args.bytes.now
    c.order_in-big_endian.result c.self.view_is c.order_in-big_endian.ensures c.in-Size.used (whole_block_value c.in-Size.used c.whole_in.result)
    c.in-Size.ensures.size c.if-bytes-used.false (sym c.differs.ensures ∙ c.if-differs.false)
    (c.whole_in.ensures.found ∙ ap (λ slots. last_of c.self.inside.kinds (take c.self.inside.count slots) c.order_in-big_endian.result c.args.bytes.now (kind_at c.order_in-big_endian.result c.args.bytes.now)) c.deref.ensures.value)

found_as : (c : After-whole_in) (whole : WholeBlock) → c.whole_in.result ≡ whole →
    answer_of (whole_block_value c.in-Size.used whole) ≡ answer_of (block_at c.args.self.now c.args.bytes.now)
found_as c whole is = ap answer_of (ap (whole_block_value c.in-Size.used) (sym is) ∙ is_block c)

kept_as : (c : After-whole_in) (whole : WholeBlock) → c.whole_in.result ≡ whole →
    after_found c.args.self.now (whole_block_value c.in-Size.used whole) ≡ after_found c.args.self.now (block_at c.args.self.now c.args.bytes.now)
kept_as c whole is = ap (after_found c.args.self.now) (ap (whole_block_value c.in-Size.used) (sym is) ∙ is_block c)

pub returns-in-Begins-clause-found : goal.returns-in-Begins-clause-found
returns-in-Begins-clause-found c = found_as (goal.at.returns-in-Begins-clause-found c).After-whole_in _ c.in-Begins.is

pub returns-in-Describes-clause-found : goal.returns-in-Describes-clause-found
returns-in-Describes-clause-found c = found_as (goal.at.returns-in-Describes-clause-found c).After-whole_in _ c.in-Describes.is

pub returns-in-Holds-clause-found : goal.returns-in-Holds-clause-found
returns-in-Holds-clause-found c = found_as (goal.at.returns-in-Holds-clause-found c).After-whole_in _ c.in-Holds.is

pub returns-in-Other-clause-found : goal.returns-in-Other-clause-found
returns-in-Other-clause-found c = found_as (goal.at.returns-in-Other-clause-found c).After-whole_in _ c.in-Other.is

pub returns-in-Refused-whole_in-clause-found : goal.returns-in-Refused-whole_in-clause-found
returns-in-Refused-whole_in-clause-found c = found_as (goal.at.returns-in-Refused-whole_in-clause-found c).After-whole_in _ c.in-Refused-whole_in.is

pub returns-in-Holds-clause-section : goal.returns-in-Holds-clause-section
returns-in-Holds-clause-section c = kept_as (goal.at.returns-in-Holds-clause-section c).After-whole_in _ c.in-Holds.is

pub returns-in-Other-clause-section : goal.returns-in-Other-clause-section
returns-in-Other-clause-section c = kept_as (goal.at.returns-in-Other-clause-section c).After-whole_in _ c.in-Other.is

pub returns-in-Refused-whole_in-clause-section : goal.returns-in-Refused-whole_in-clause-section
returns-in-Refused-whole_in-clause-section c = kept_as (goal.at.returns-in-Refused-whole_in-clause-section c).After-whole_in _ c.in-Refused-whole_in.is

pub returns-in-Begins-clause-section : goal.returns-in-Begins-clause-section
returns-in-Begins-clause-section c =
    ap (λ (s : Section). after s (Begins c.in-Begins.big_endian)) c.self.view_is
    ∙ kept_as (goal.at.returns-in-Begins-clause-section c).After-whole_in _ c.in-Begins.is

pub returns-in-Describes-clause-section : goal.returns-in-Describes-clause-section
returns-in-Describes-clause-section c =
    let at = (goal.at.returns-in-Describes-clause-section c).After-whole_in in
    let some = c.in-Describes.ensures.room in
    let long : length c.self.inside.slots.items ≡ 64 = c.self.invariant.0 in
    let room : c.self.inside.count < length c.self.inside.slots.items =
    omega (arith, some, long, length-take c.self.inside.count c.deref.result.now, ap length c.deref.ensures.value) in
    one_more c.self.inside.kinds c.self.inside.big_endian c.self.inside.slots.items c.self.inside.count c.in-Describes.interface c.args.self.now c.in-Size.used
    (block_at c.args.self.now c.args.bytes.now) room c.self.view_is (ap (whole_block_value c.in-Size.used) (sym c.in-Describes.is) ∙ is_block at)
