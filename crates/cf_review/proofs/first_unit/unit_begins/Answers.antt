use Rattle.cf_lane.proofs.Units.{adus, apdus, frames}
use Rattle.cf_review.proofs.FirstUnits.{none_begins, one_begins}
use Rattle.cf_review.proofs.first_unit.unit_begins.Goals as goal

pub returns-in-Modbus-clause-unit : goal.returns-in-Modbus-clause-unit
returns-in-Modbus-clause-unit c is = one_begins (adus c.args.protocol.now c.in-Modbus.is) c.args.bytes.bytes (c.adu_begins.ensures.unit is)

pub returns-in-Modbus-clause-none : goal.returns-in-Modbus-clause-none
returns-in-Modbus-clause-none c is = none_begins (adus c.args.protocol.now c.in-Modbus.is) c.args.bytes.bytes (c.adu_begins.ensures.none is)

pub returns-in-Dnp3-clause-unit : goal.returns-in-Dnp3-clause-unit
returns-in-Dnp3-clause-unit c is = one_begins (frames c.args.protocol.now c.in-Dnp3.is) c.args.bytes.bytes (c.frame_begins.ensures.unit is)

pub returns-in-Dnp3-clause-none : goal.returns-in-Dnp3-clause-none
returns-in-Dnp3-clause-none c is = none_begins (frames c.args.protocol.now c.in-Dnp3.is) c.args.bytes.bytes (c.frame_begins.ensures.none is)

pub returns-in-Iec104-clause-unit : goal.returns-in-Iec104-clause-unit
returns-in-Iec104-clause-unit c is = one_begins (apdus c.args.protocol.now c.in-Iec104.is) c.args.bytes.bytes (c.apdu_begins.ensures.unit is)

pub returns-in-Iec104-clause-none : goal.returns-in-Iec104-clause-none
returns-in-Iec104-clause-none c is = none_begins (apdus c.args.protocol.now c.in-Iec104.is) c.args.bytes.bytes (c.apdu_begins.ensures.none is)
