use Rattle.std.proofs.Common.{inl, refl, subst, sym}
use Rattle.cf_outside.specs.PairValue.{pair_value}
use Rattle.cf_words.specs.Command.{Relay}
use Rattle.cf_box.specs.Ends.{Meets}
use Rattle.cf_ending.specs.Outside.{files_value, outside}
use Rattle.cf_box.proofs.Relaying.{relay_after}
use Rattle.cf_box.proofs.relay.relay.Goals as goal

pub returns-in-Err-clause-meets : goal.returns-in-Err-clause-meets
returns-in-Err-clause-meets g c = λ sink. (
  c.in-Err.ensures.stop (Relay c.args.policy_file.now c.args.asset_name.now c.args.port c.args.idles c.args.log.now) sink (pair_value g.P.Pair c.args.pair.now) refl,
  inl (inl c.in-Err.ensures.early, record { content = c.load_policy.ensures.only.content; sink = refl; pair = refl }),
)

pub returns-clause-meets : goal.returns-clause-meets
returns-clause-meets g c = λ sink.
    let before = outside (files_value g.F.Files c.args.files.now) sink (pair_value g.P.Pair c.args.pair.now) in
    let middle = outside (files_value g.F.Files c.load_policy.new.files) sink (pair_value g.P.Pair c.args.pair.now) in
    let after = outside (files_value g.F.Files c.relay.new.files) sink (pair_value g.P.Pair c.relay.new.pair) in
    let relayed = c.relay.ensures.ends in
    subst (Meets (Relay c.args.policy_file.now c.args.asset_name.now c.args.port c.args.idles c.args.log.now) before after) (sym c.answer_of.ensures)
    (relay_after c.args.policy_file.now c.args.asset_name.now c.args.port c.args.idles c.args.log.now before middle after c.in-Some.site
    (record { policy = c.in-Ok.policy; has = c.in-Ok.ensures.has; named = sym c.in-Some.ensures.named }) c.load_policy.ensures.only c.relay.result relayed.0 relayed.1 relayed.2
    c.relay.ensures.idle c.relay.ensures.others c.relay.ensures.link c.relay.ensures.write refl)
