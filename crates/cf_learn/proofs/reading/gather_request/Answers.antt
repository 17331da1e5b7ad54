use Rattle.std.proofs.Common.{◌++◌, ◌∙◌, ap, map, rules, subst, sym}
use Rattle.cf_modbus.specs.Acts.{acts}
use Rattle.cf_modbus.specs.Request.{request_value}
use Rattle.cf_learn.specs.Reading.{HaveSame}
use Rattle.cf_learn.specs.Seen.{seen_of}
use Rattle.cf_learn.proofs.Polled.{all_there, once_more, still}
use Rattle.cf_learn.proofs.reading.gather_request.Goals as goal

pub returns-then-has-clause-adds : goal.returns-then-has-clause-adds
returns-then-has-clause-adds c =
    let old = c.args.seen.now.sorted.items ++ c.args.seen.now.loose.items in
    once_more old c.args.client c.args.pdu.now.bytes (request_value c.args.request.now) (c.has.ensures c.if-has.true old c.requires.polls) c.requires.reads

pub returns-clause-adds : goal.returns-clause-adds
returns-clause-adds c =
    let old = c.args.seen.now.sorted.items ++ c.args.seen.now.loose.items in
    let new = c.add.new.self.sorted.items ++ c.add.new.self.loose.items in
    let more = map (seen_of c.args.client) (acts (request_value c.args.request.now)) in
    subst (λ l. HaveSame new (old ++ l))
    (c.as_slice.ensures.value
    ∙ (c.in_ok-push_acts.ensures (acts (request_value c.args.request.now)) (sym c.act_count.ensures.count) (λ i act inside gives. search rules) ∙ ap (λ l. l ++ more) c.clear.ensures.items))
    c.in_ok-add.ensures

pub returns-clause-polls : goal.returns-clause-polls
returns-clause-polls c =
    let old = c.args.seen.now.sorted.items ++ c.args.seen.now.loose.items in
    let new = c.add.new.self.sorted.items ++ c.add.new.self.loose.items in
    let more = map (seen_of c.args.client) (acts (request_value c.args.request.now)) in
    c.put.ensures new (still old more new (returns-clause-adds c) c.args.polls.now c.requires.polls)
    (all_there old new c.args.client c.args.pdu.now.bytes (request_value c.args.request.now) (returns-clause-adds c) c.requires.only)
