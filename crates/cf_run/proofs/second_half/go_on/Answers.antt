use Rattle.std.proofs.Common.{◌≡◌, ◌+◌, ◌-◌, ℕ, List, true, false, sym, ap, ◌∙◌, subst, arith}
use Rattle.std.specs.Prelude.{slice_set}
use Rattle.std.specs.List.{remove}
use Rattle.std.specs.Option.{is_some}
use Rattle.cf_lane.specs.Judged.{one_if}
use Rattle.std.proofs.lemmas.List.{drop-set-lt, take-set}
use Rattle.cf_policy.specs.Site.{SiteValue}
use Rattle.cf_packet.specs.Packet.{packet_value}
use Rattle.cf_session.specs.Told.{told}
use Rattle.cf_session.specs.Stands.{HearsBy, IsSound}
use Rattle.cf_run.specs.Engine.{AreDueFrom, AreSound}
use Rattle.cf_run.specs.declared.entry.Entry.{Entry}
use Rattle.cf_run.proofs.Due.{due_removed, due_set, due_sooner}
use Rattle.cf_run.proofs.Soundness.{stands_at, sound_set, sound_removed, sound_after, lives}
use Rattle.cf_run.proofs.Sites.{same_site, site_inside}
use Rattle.cf_run.proofs.Timers.{removed_same}
use Rattle.cf_run.proofs.Received.{heard_as}
use Rattle.cf_session.specs.Broken.{BreaksPacket}
use Rattle.cf_run.proofs.ReceivedAmid.{going_breaks}
use Rattle.cf_run.proofs.second_half.go_on.Goals as goal

removed_set : (items : List Entry) (place : ℕ) (y : Entry) → remove (slice_set items place y) place ≡ remove items place
removed_set items place y =
    removed_same (slice_set items place y) items place (take-set items place y) (drop-set-lt (place + 1) items place y (omega arith))

pub site_at_place-site-requires : goal.site_at_place-site-requires
site_at_place-site-requires g c =
    let items = c.args.table.now.sessions.items in
    let x = c.index_mut-entry.result.now in
    let (at, one) = stands_at c.args.assets.now c.args.limit items c.args.place x c.requires.sound c.requires.inside c.index_mut-entry.ensures.value in
    site_inside c.args.assets.now x.asset one.site one.at

pub on_packet-requires-clause-sound : goal.on_packet-requires-clause-sound
on_packet-requires-clause-sound g c =
    let items = c.args.table.now.sessions.items in
    let x = c.index_mut-entry.result.now in
    let (at, one) = stands_at c.args.assets.now c.args.limit items c.args.place x c.requires.sound c.requires.inside c.index_mut-entry.ensures.value in
    let same : one.site ≡ c.site_at_place-site.result = same_site c.args.assets.now x.asset one.site c.site_at_place-site.result one.at c.site_at_place-site.ensures.site in
    subst (λ (a : SiteValue). IsSound a x.session) same one.sound

pub returns-else-not-stays-clause-sound : goal.returns-else-not-stays-clause-sound
returns-else-not-stays-clause-sound g c =
    let items = c.args.table.now.sessions.items in
    let x = c.index_mut-entry.result.now in
    let (at, one) = stands_at c.args.assets.now c.args.limit items c.args.place x c.requires.sound c.requires.inside c.index_mut-entry.ensures.value in
    sound_set c.args.assets.now c.args.limit items c.args.place _ c.requires.sound
    (sound_after c.args.assets.now c.args.limit x c.site_at_place-site.result c.on_packet.new.self one c.site_at_place-site.ensures.site
    (c.in-Ok.ensures.sound (lives c.in-Ok.life (sym c.stays.ensures ∙ c.if-not-stays.false))) c.in-Ok.ensures.same.0 c.due-due.result c.due-due.ensures)

pub returns-then-not-stays-clause-sound : goal.returns-then-not-stays-clause-sound
returns-then-not-stays-clause-sound g c =
    let items = c.args.table.now.sessions.items in
    let y : Entry = record { session = c.on_packet.new.self; asset = c.index_mut-entry.result.now.asset; due = c.due-due.result } in
    subst (AreSound c.args.assets.now c.args.limit) (sym (c.remove.ensures.items ∙ removed_set items c.args.place y))
    (sound_removed c.args.assets.now c.args.limit items c.args.place c.requires.sound)

pub returns-else-not-stays-clause-due : goal.returns-else-not-stays-clause-due
returns-else-not-stays-clause-due g c =
    let items = c.args.table.now.sessions.items in
    due_set c.min-table.result items c.args.place _ (due_sooner c.args.table.now.due c.min-table.result items (omega (arith, c.min-table.ensures)) c.requires.due) (omega (arith, c.min-table.ensures))

pub returns-then-not-stays-clause-due : goal.returns-then-not-stays-clause-due
returns-then-not-stays-clause-due g c =
    let items = c.args.table.now.sessions.items in
    let y : Entry = record { session = c.on_packet.new.self; asset = c.index_mut-entry.result.now.asset; due = c.due-due.result } in
    subst (AreDueFrom c.min-table.result) (sym (c.remove.ensures.items ∙ removed_set items c.args.place y))
    (due_removed c.min-table.result items c.args.place (due_sooner c.args.table.now.due c.min-table.result items (omega (arith, c.min-table.ensures)) c.requires.due))

pub returns-else-not-stays-clause-goes : goal.returns-else-not-stays-clause-goes
returns-else-not-stays-clause-goes g c = λ table ticked all.
    let items = c.args.table.now.sessions.items in
    let x = c.index_mut-entry.result.now in
    let (at, one) = stands_at c.args.assets.now c.args.limit items c.args.place x c.requires.sound c.requires.inside c.index_mut-entry.ensures.value in
    heard_as c.args.assets.now c.args.limit c.args.moment c.args.place c.args.side (packet_value c.args.packet.now) items table
    (told (g.D.Desk.value c.args.desk.now)) (told (g.D.Desk.value c.on_packet.new.desk)) x c.on_packet.new.self c.due-due.result c.site_at_place-site.result at c.site_at_place-site.ensures.site
    all ticked c.requires.moment.0 c.admitted-admitted.result c.refused-refused.result c.admitted-admitted.ensures.counts c.refused-refused.ensures.counts
    (λ flow earlier event s. sym c.admitted.ensures.value ∙ c.admitted.ensures.counts flow earlier event s) (λ flow earlier event s. sym c.refused.ensures.value ∙ c.refused.ensures.counts flow earlier event s)
    c.is_closed-was_closed.result (λ flow earlier event s. c.is_closed-was_closed.ensures ∙ ap is_some s.closed) c.misfit-misfit.result c.misfit-misfit.ensures.value
    c.in-Ok.life (λ flow earlier half served stands tick now.
    subst (λ n. HearsBy flow n earlier half c.args.side (packet_value c.args.packet.now) c.on_packet.new.self (told (g.D.Desk.value c.args.desk.now)) (told (g.D.Desk.value c.on_packet.new.desk)) c.in-Ok.life)
    one.limit_is (c.in-Ok.ensures.hears flow earlier half served stands tick now))
    true (sym c.stays.ensures ∙ c.if-not-stays.false) c.saturating_sub.result c.saturating_sub-2.result c.cuts.result c.closes.result c.one_if.result c.one_if-2.result
    (c.saturating_sub.ensures ∙ ap (λ n. n - c.admitted-admitted.result) c.admitted.ensures.value) (c.saturating_sub-2.ensures ∙ ap (λ n. n - c.refused-refused.result) c.refused.ensures.value) c.cuts.ensures
    c.closes.ensures (c.one_if.ensures ∙ ap one_if c.is_above.ensures) (c.one_if-2.ensures ∙ ap one_if c.is_beyond.ensures)

pub returns-then-not-stays-clause-goes : goal.returns-then-not-stays-clause-goes
returns-then-not-stays-clause-goes g c = λ table ticked all.
    let items = c.args.table.now.sessions.items in
    let x = c.index_mut-entry.result.now in
    let y : Entry = record { session = c.on_packet.new.self; asset = x.asset; due = c.due-due.result } in
    let (at, one) = stands_at c.args.assets.now c.args.limit items c.args.place x c.requires.sound c.requires.inside c.index_mut-entry.ensures.value in
    rw (c.remove.ensures.items, removed_set items c.args.place y)
    (heard_as c.args.assets.now c.args.limit c.args.moment c.args.place c.args.side (packet_value c.args.packet.now) items table
    (told (g.D.Desk.value c.args.desk.now)) (told (g.D.Desk.value c.on_packet.new.desk)) x c.on_packet.new.self c.due-due.result c.site_at_place-site.result at c.site_at_place-site.ensures.site
    all ticked c.requires.moment.0 c.admitted-admitted.result c.refused-refused.result c.admitted-admitted.ensures.counts c.refused-refused.ensures.counts
    (λ flow earlier event s. sym c.admitted.ensures.value ∙ c.admitted.ensures.counts flow earlier event s) (λ flow earlier event s. sym c.refused.ensures.value ∙ c.refused.ensures.counts flow earlier event s)
    c.is_closed-was_closed.result (λ flow earlier event s. c.is_closed-was_closed.ensures ∙ ap is_some s.closed) c.misfit-misfit.result c.misfit-misfit.ensures.value
    c.in-Ok.life (λ flow earlier half served stands tick now.
    subst (λ n. HearsBy flow n earlier half c.args.side (packet_value c.args.packet.now) c.on_packet.new.self (told (g.D.Desk.value c.args.desk.now)) (told (g.D.Desk.value c.on_packet.new.desk)) c.in-Ok.life)
    one.limit_is (c.in-Ok.ensures.hears flow earlier half served stands tick now))
    false (sym c.stays.ensures ∙ c.if-not-stays.true) c.saturating_sub.result c.saturating_sub-2.result c.cuts.result c.closes.result c.one_if.result c.one_if-2.result
    (c.saturating_sub.ensures ∙ ap (λ n. n - c.admitted-admitted.result) c.admitted.ensures.value) (c.saturating_sub-2.ensures ∙ ap (λ n. n - c.refused-refused.result) c.refused.ensures.value) c.cuts.ensures
    c.closes.ensures (c.one_if.ensures ∙ ap one_if c.is_above.ensures) (c.one_if-2.ensures ∙ ap one_if c.is_beyond.ensures))

pub returns-in-Err-clause-broken : goal.returns-in-Err-clause-broken
returns-in-Err-clause-broken g c = λ e.
    let items = c.args.table.now.sessions.items in
    let x = c.index_mut-entry.result.now in
    let d0 = g.D.Desk.value c.args.desk.now in
    let d1 = g.D.Desk.value c.on_packet.new.desk in
    let p = packet_value c.args.packet.now in
    let (at, one) = stands_at c.args.assets.now c.args.limit items c.args.place x c.requires.sound c.requires.inside c.index_mut-entry.ensures.value in
    going_breaks c.args.assets.now c.args.limit c.args.moment c.args.place c.args.side p items d0 d1 x c.site_at_place-site.result at c.site_at_place-site.ensures.site c.requires.moment.0
    (λ flow earlier half served stands tick now.
    subst (λ n. BreaksPacket flow n earlier half c.args.side p d0 d1) one.limit_is (c.in-Err.ensures.broken flow earlier half served stands tick now))
