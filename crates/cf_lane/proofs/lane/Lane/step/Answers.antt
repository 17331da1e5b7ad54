use Rattle.cf_lane.proofs.Fronts.{is_modbus, wire_in}
use Rattle.cf_lane.proofs.lane.Lane.step.Goals as goal

pub step_modbus-requires-clause-modbus : goal.step_modbus-requires-clause-modbus
step_modbus-requires-clause-modbus g c = is_modbus c.args.site.now.first.protocol _ (wire_in c.args.site.now _ _ _ _ _ _ _ c.self.view_is c.in-Modbus.is c.requires.of_site)
