use Rattle.std.proofs.Common.{◌≡◌, ◌+◌, ◌≤◌, ℕ, List, refl, sym, ap, subst, Err}
use Rattle.cf_packet.specs.Packet.{read_record}
use Rattle.cf_policy.specs.declared.Asset.{Asset}
use Rattle.cf_session.specs.Told.{told}
use Rattle.cf_run.specs.Engine.{AreAll}
use Rattle.cf_run.specs.Step.{EngineValue, IsEngineOf, Steps}
use Rattle.cf_run.specs.Table.{Session}
use Rattle.cf_run.specs.Trace.{RunEvent}
use Rattle.cf_run.proofs.Stepping.{steps_on}
use Rattle.cf_run.specs.Half.{StepBreaks, StepStops}
use Rattle.cf_run.specs.Trace.{Input, table_after}
use Rattle.cf_run.proofs.Faults.{same_fault}
use Rattle.cf_run.specs.declared.engine.StepFault.TheVariants as stepped
use Rattle.cf_run.proofs.SteppingAmid.{engine_breaks, engine_stops}
use Rattle.cf_run.proofs.engine.Engine.step.Goals as goal

pub returns-clause-steps : goal.returns-clause-steps
returns-clause-steps g c =
    let before : EngineValue = record { table = c.self.inside.table.sessions.items; due = c.self.inside.table.due; limit = c.self.inside.limit; last = c.self.inside.last; summary = c.self.inside.summary } in
    let after : EngineValue = record { table = c.step_table.new.table.sessions.items; due = c.step_table.new.table.due; limit = c.self.inside.limit; last = c.args.moment; summary = c.count.new.self } in
    let assets : List Asset = c.args.policy.now.assets in
    let now = c.args.moment in
    let packet = read_record c.args.link.now c.args.bytes.now in
    let old = told (g.D.Desk.value c.args.desk.now) in
    let new = told (g.D.Desk.value c.step_table.new.desk) in
    let P : List Asset → Type 0 = λ xs. (table : List Session) (last : ℕ) → last + 1 ≤ now → AreAll xs last before.table table →
    (event : RunEvent) × Steps xs before.limit now packet table after.table old new c.in-Ok.happened event in
    let view : c.args.self.now ≡ before = sym c.self.view_is in
    λ events h. steps_on assets now packet before after old new c.in-Ok.happened refl refl c.count.ensures
    (subst (λ (e : EngineValue). e.last + 2 ≤ now) view c.requires.later) (subst P c.as_slice.ensures c.in-Ok.ensures.steps) events
    (subst (λ (e : EngineValue). IsEngineOf assets e events) view h)

pub returns-in-Err-clause-broken : goal.returns-in-Err-clause-broken
returns-in-Err-clause-broken g c = λ e.
    let before : EngineValue = record { table = c.self.inside.table.sessions.items; due = c.self.inside.table.due; limit = c.self.inside.limit; last = c.self.inside.last; summary = c.self.inside.summary } in
    let assets : List Asset = c.args.policy.now.assets in
    let now = c.args.moment in
    let input : Input = record { moment = now; packet = read_record c.args.link.now c.args.bytes.now } in
    let d0 = g.D.Desk.value c.args.desk.now in
    let d1 = g.D.Desk.value c.step_table.new.desk in
    let P : List Asset → Type 0 = λ xs. (table : List Session) (last : ℕ) → last + 1 ≤ now → AreAll xs last before.table table → StepBreaks xs before.limit table input d0 d1 in
    let view : c.args.self.now ≡ before = sym c.self.view_is in
    λ events h. subst (λ (x : EngineValue). StepBreaks assets x.limit (table_after events) input d0 d1) (sym view)
    (engine_breaks assets now (read_record c.args.link.now c.args.bytes.now) before (subst (λ (x : EngineValue). x.last + 2 ≤ now) view c.requires.later) d0 d1
    (subst P c.as_slice.ensures (c.in-Err.ensures.broken (ap Err (same_fault c.in-Err.fault stepped.Write e)))) events (subst (λ (x : EngineValue). IsEngineOf assets x events) view h))

pub returns-in-Err-clause-stops : goal.returns-in-Err-clause-stops
returns-in-Err-clause-stops g c = λ e.
    let before : EngineValue = record { table = c.self.inside.table.sessions.items; due = c.self.inside.table.due; limit = c.self.inside.limit; last = c.self.inside.last; summary = c.self.inside.summary } in
    let assets : List Asset = c.args.policy.now.assets in
    let now = c.args.moment in
    let input : Input = record { moment = now; packet = read_record c.args.link.now c.args.bytes.now } in
    let old = told (g.D.Desk.value c.args.desk.now) in
    let new = told (g.D.Desk.value c.step_table.new.desk) in
    let P : List Asset → Type 0 = λ xs. (table : List Session) (last : ℕ) → last + 1 ≤ now → AreAll xs last before.table table → StepStops xs table input old new in
    let view : c.args.self.now ≡ before = sym c.self.view_is in
    λ events h.
    engine_stops assets now (read_record c.args.link.now c.args.bytes.now) before (subst (λ (x : EngineValue). x.last + 2 ≤ now) view c.requires.later) old new
    (subst P c.as_slice.ensures (c.in-Err.ensures.stops (ap Err (same_fault c.in-Err.fault stepped.NoMemory e)))) events (subst (λ (x : EngineValue). IsEngineOf assets x events) view h)
