use Rattle.std.proofs.Common.{ap, arith, Err}
use Rattle.cf_packet.specs.Packet.{read_record}
use Rattle.cf_session.specs.Told.{told}
use Rattle.cf_run.proofs.Stepping.{stepped}
use Rattle.cf_run.proofs.Faults.{same_fault}
use Rattle.cf_run.specs.declared.engine.StepFault.TheVariants as stepped
use Rattle.cf_run.proofs.SteppingAmid.{first_breaks, second_breaks, stops_between}
use Rattle.cf_run.proofs.engine.step_table.Goals as goal

pub returns-in-Ok-receive_record-clause-steps : goal.returns-in-Ok-receive_record-clause-steps
returns-in-Ok-receive_record-clause-steps g c =
    stepped c.args.assets.now c.args.limit c.args.moment (read_record c.args.link.now c.args.bytes.now) c.args.table.now.sessions.items c.tick_all.new.table.sessions.items
    c.receive_record.new.table.sessions.items (told (g.D.Desk.value c.args.desk.now)) (told (g.D.Desk.value c.tick_all.new.desk)) (told (g.D.Desk.value c.receive_record.new.desk))
    (record { cuts = c.in-Ok.cuts; outcome = c.in-Ok-receive_record.outcome }) c.requires.moment.0 c.in-Ok.ensures.ticks c.in-Ok-receive_record.ensures.received

pub returns-in-Err-clause-broken : goal.returns-in-Err-clause-broken
returns-in-Err-clause-broken g c = λ e before last le all.
    first_breaks c.args.assets.now c.args.limit c.args.moment (read_record c.args.link.now c.args.bytes.now) c.args.table.now.sessions.items before last le all
    (g.D.Desk.value c.args.desk.now) (g.D.Desk.value c.tick_all.new.desk) c.in-Err.ensures.broken

pub returns-in-Err-receive_record-clause-broken : goal.returns-in-Err-receive_record-clause-broken
returns-in-Err-receive_record-clause-broken g c = λ e before last le all.
    second_breaks c.args.assets.now c.args.limit c.args.moment (read_record c.args.link.now c.args.bytes.now) c.args.table.now.sessions.items before last le all (omega (arith, c.requires.moment.0)) c.tick_all.new.table.sessions.items
    (g.D.Desk.value c.args.desk.now) (g.D.Desk.value c.tick_all.new.desk) (g.D.Desk.value c.receive_record.new.desk) c.in-Ok.cuts c.in-Ok.ensures.ticks c.in-Ok.ensures.frame (c.in-Err-receive_record.ensures.broken (ap Err (same_fault c.in-Err-receive_record.fault stepped.Write e)))

pub returns-in-Err-receive_record-clause-stops : goal.returns-in-Err-receive_record-clause-stops
returns-in-Err-receive_record-clause-stops g c = λ e before last le all.
    stops_between c.args.assets.now c.args.limit c.args.moment (read_record c.args.link.now c.args.bytes.now) c.args.table.now.sessions.items before last le all (omega (arith, c.requires.moment.0)) c.tick_all.new.table.sessions.items
    (told (g.D.Desk.value c.args.desk.now)) (told (g.D.Desk.value c.tick_all.new.desk)) (told (g.D.Desk.value c.receive_record.new.desk)) c.in-Ok.cuts (ap (λ d. told (g.D.Desk.value d)) (c.in-Err-receive_record.ensures.nothing (ap Err (same_fault c.in-Err-receive_record.fault stepped.NoMemory e))))
    (c.in-Err-receive_record.ensures.beginning (ap Err (same_fault c.in-Err-receive_record.fault stepped.NoMemory e))) c.in-Ok.ensures.ticks
