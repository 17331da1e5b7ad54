use Rattle.std.proofs.Common.{◌++◌, refl}
use Rattle.cf_modbus.specs.Adu.{adu_value}
use Rattle.cf_lane.proofs.Units.{adus}
use Rattle.cf_learn.proofs.Fronts.{takes_break, takes_part}
use Rattle.cf_learn.proofs.Polled.{gathers_adu, gathers_none}
use Rattle.cf_learn.proofs.reading.gather_modbus.Goals as goal

pub returns-in_ok-gather_adu-in-Unit-clause-front : goal.returns-in_ok-gather_adu-in-Unit-clause-front
returns-in_ok-gather_adu-in-Unit-clause-front c = λ earlier all assembly is same.
    gathers_adu c.args.asset.now c.args.client earlier c.all.result.bytes c.args.bytes.now.bytes (c.args.seen.now.sorted.items ++ c.args.seen.now.loose.items) all
    (c.gather_adu.new.seen.sorted.items ++ c.gather_adu.new.seen.loose.items) assembly (adu_value c.in-Unit.unit) c.in-Unit.used c.requires.modbus c.all.ensures.bytes c.in-Unit.ensures.true_answer
    c.in_ok-gather_adu-in-Unit.ensures.adds same is

pub returns-in-More-clause-front : goal.returns-in-More-clause-front
returns-in-More-clause-front c = λ earlier all assembly is same.
    gathers_none c.args.asset.now c.args.client earlier c.args.bytes.now.bytes all (c.args.seen.now.sorted.items ++ c.args.seen.now.loose.items) assembly
    (takes_part (adus c.args.asset.now.protocol c.requires.modbus) c.args.asset.now c.all.result.bytes c.args.bytes.now.bytes all refl c.all.ensures.bytes c.in-More.ensures.true_answer) same

pub returns-in-Broken-clause-front : goal.returns-in-Broken-clause-front
returns-in-Broken-clause-front c = λ earlier all assembly is same.
    gathers_none c.args.asset.now c.args.client earlier c.args.bytes.now.bytes all (c.args.seen.now.sorted.items ++ c.args.seen.now.loose.items) assembly
    (takes_break (adus c.args.asset.now.protocol c.requires.modbus) c.args.asset.now c.all.result.bytes c.args.bytes.now.bytes all c.in-Broken.ensures.true_answer.0 refl c.all.ensures.bytes
    c.in-Broken.ensures.true_answer.1) same
