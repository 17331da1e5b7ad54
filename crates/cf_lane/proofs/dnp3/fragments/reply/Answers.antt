use Rattle.std.proofs.Common.{ap, arith, length, sym, ◌+◌, ◌-◌, ◌∙◌, ◌≡◌}
use Rattle.std.proofs.lemmas.List.{take_all}
use Rattle.cf_dnpobj.specs.Fragment.{wants_reply}
use Rattle.cf_dnpobj.specs.Reply.{reply}
use Rattle.cf_lane.specs.Fragments.{frames_exist}
use Rattle.cf_lane.proofs.ReplySizes.{reply_sizes}
use Rattle.cf_lane.proofs.Dnp3Segments.{recut_room, recut_grows, reply_exists, reply_put}
use Rattle.cf_view.specs.declared.Side.TheVariants as side
use Rattle.cf_lane.proofs.dnp3.fragments.reply.Goals as goal

pub push_fragment-requires-clause-room : goal.push_fragment-requires-clause-room
push_fragment-requires-clause-room c =
    let xs = c.args.octets.now.bytes in
    let whole : c.sub.result.bytes ≡ xs = c.sub.ensures.bytes ∙ take_all (c.len.result - 0) xs (omega (arith, c.len.ensures.length)) in
    let same : c.one.result.bytes ≡ reply xs c.args.refusal.now.reason =
    c.one.ensures.bytes ∙ c.as_slice.ensures.value ∙ c.reply_for.ensures ∙ ap (λ ys. reply ys c.args.refusal.now.reason) whole in
    recut_room c.args.asset.now side.Client c.args.sequence.now (length xs + 2) c.one.result.bytes c.args.to_client.now
    (omega (arith, ap length same, (reply_sizes xs c.args.refusal.now.reason c.requires.at_least).1)) c.requires.room

pub returns-clause-replied : goal.returns-clause-replied
returns-clause-replied c =
    let xs = c.args.octets.now.bytes in
    sym (ap (frames_exist c.args.asset.now side.Client c.args.sequence.now) (reply_put c.args.to_client.now.ended xs c.args.refusal.now
    (sym c.is_ended.ensures.value ∙ c.if-is_ended.false) (sym (c.wants_reply.ensures ∙ ap wants_reply c.at.ensures.value) ∙ c.if-not-wants_reply.false))
    ∙ reply_exists c.args.asset.now c.args.sequence.now xs c.args.refusal.now.reason c.requires.at_least)

pub returns-clause-grows : goal.returns-clause-grows
returns-clause-grows c =
    let xs = c.args.octets.now.bytes in
    let whole : c.sub.result.bytes ≡ xs = c.sub.ensures.bytes ∙ take_all (c.len.result - 0) xs (omega (arith, c.len.ensures.length)) in
    let same : c.one.result.bytes ≡ reply xs c.args.refusal.now.reason =
    c.one.ensures.bytes ∙ c.as_slice.ensures.value ∙ c.reply_for.ensures ∙ ap (λ ys. reply ys c.args.refusal.now.reason) whole in
    recut_grows c.args.asset.now side.Client c.args.sequence.now (length xs + 2) c.one.result.bytes c.args.to_client.now c.push_fragment.new.queue
    (omega (arith, ap length same, (reply_sizes xs c.args.refusal.now.reason c.requires.at_least).1)) c.push_fragment.ensures.queue
