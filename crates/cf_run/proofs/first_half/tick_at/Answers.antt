use Rattle.std.proofs.Common.{◌+◌, ◌≡◌, ◌∷◌, arith, sym, ap, ◌∙◌, subst, Some}
use Rattle.std.specs.Prelude.{slice_set}
use Rattle.std.proofs.lemmas.Option.{get_or_from_slice_get}
use Rattle.std.proofs.lemmas.List.{drop-set-lt, get_or-set_same, length-set, take-set}
use Rattle.std.specs.Prelude.{IfOk, Result, Err, Ok}
use Rattle.std.specs.Result.{IsErrAnd}
use Rattle.cf_outside.proofs.Desks.{puts_failed}
use Rattle.cf_policy.specs.Site.{SiteValue, site_from}
use Rattle.cf_session.specs.Stands.{IsSessionOf, IsSound}
use Rattle.cf_session.specs.Told.{told}
use Rattle.cf_run.specs.Engine.{TickAs}
use Rattle.cf_run.specs.Entries.{cuts_by, stays_by}
use Rattle.cf_run.specs.declared.entry.Entry.{Entry}
use Rattle.cf_run.proofs.Soundness.{stands_at, sound_set, sound_after, lives}
use Rattle.cf_run.proofs.Sites.{same_site, site_inside}
use Rattle.cf_run.proofs.Timers.{by_life}
use Rattle.cf_session.proofs.Amid.{on_err}
use Rattle.cf_run.proofs.first_half.tick_at.Goals as goal

-- what it hands on is no success
not_ok : {T E : Type 0} (Q : E → Type 0) (r : Result T E) (P : T → Type 0) → IsErrAnd r Q → IfOk r P
not_ok Q (Ok x) P is = absurd is
not_ok Q (Err e) P is = tt

pub site_at_place-site-requires : goal.site_at_place-site-requires
site_at_place-site-requires g c =
    let items = c.args.table.now.items in
    let x = c.index_mut-entry.result.now in
    let (at, one) = stands_at c.args.assets.now c.args.limit items c.args.place x c.requires.sound c.requires.inside c.index_mut-entry.ensures.value in
    site_inside c.args.assets.now x.asset one.site one.at

pub on_clock-requires-clause-sound : goal.on_clock-requires-clause-sound
on_clock-requires-clause-sound g c =
    let items = c.args.table.now.items in
    let x = c.index_mut-entry.result.now in
    let (at, one) = stands_at c.args.assets.now c.args.limit items c.args.place x c.requires.sound c.requires.inside c.index_mut-entry.ensures.value in
    let same : one.site ≡ c.site_at_place-site.result = same_site c.args.assets.now x.asset one.site c.site_at_place-site.result one.at c.site_at_place-site.ensures.site in
    subst (λ (a : SiteValue). IsSound a x.session) same one.sound

pub returns-clause-sound : goal.returns-clause-sound
returns-clause-sound g c = λ stays.
    let items = c.args.table.now.items in
    let x = c.index_mut-entry.result.now in
    let (at, one) = stands_at c.args.assets.now c.args.limit items c.args.place x c.requires.sound c.requires.inside c.index_mut-entry.ensures.value in
    sound_set c.args.assets.now c.args.limit items c.args.place _ c.requires.sound
    (sound_after c.args.assets.now c.args.limit x c.site_at_place-site.result c.on_clock.new.self one c.site_at_place-site.ensures.site
    (c.in_ok-life.ensures.sound (lives c.in_ok-life.life stays)) c.in_ok-life.ensures.same.0 c.due-entry.result c.due-entry.ensures)

pub returns-clause-ticks : goal.returns-clause-ticks
returns-clause-ticks g c = λ before after at_before at_after.
    let items = c.args.table.now.items in
    let x = c.index_mut-entry.result.now in
    let y : Entry = record { session = c.on_clock.new.self; asset = x.asset; due = c.due-entry.result } in
    let was : x ≡ before = c.index_mut-entry.ensures.value ∙ get_or_from_slice_get items c.args.place before x at_before in
    let is : y ≡ after = sym (get_or-set_same items c.args.place y y c.requires.inside) ∙ get_or_from_slice_get (slice_set items c.args.place y) c.args.place after y at_after in (
      ap (λ (e : Entry). e.asset) (sym is) ∙ ap (λ (e : Entry). e.asset) was,
      λ flow earlier event stands site.
          let here : site_from c.args.assets.now x.asset ≡ Some flow.site = ap (λ (e : Entry). site_from c.args.assets.now e.asset) was ∙ site in
          let found : flow.site ≡ c.site_at_place-site.result = same_site c.args.assets.now x.asset flow.site c.site_at_place-site.result here c.site_at_place-site.ensures.site in
          let ticks = c.in_ok-life.ensures.ticks flow earlier event found (subst (λ (e : Entry). IsSessionOf flow earlier event e.session) (sym was) stands) in
          subst (λ (e : Entry). TickAs flow (event ∷ earlier) c.args.moment e.session (told (g.D.Desk.value c.args.desk.now)) (told (g.D.Desk.value c.on_clock.new.desk)) (stays_by c.in_ok-life.life) (cuts_by c.in_ok-life.life)) is
          (by_life flow (event ∷ earlier) c.args.moment c.on_clock.new.self _ _ c.in_ok-life.life ticks),
    )

pub returns-in_err-life-clause-broken : goal.returns-in_err-life-clause-broken
returns-in_err-life-clause-broken g c =
    on_err c.from_residual.result (λ before at_before flow earlier event stands site.
    let items = c.args.table.now.items in
    let x = c.index_mut-entry.result.now in
    let was : x ≡ before = c.index_mut-entry.ensures.value ∙ get_or_from_slice_get items c.args.place before x at_before in
    let here : site_from c.args.assets.now x.asset ≡ Some flow.site = ap (λ (e : Entry). site_from c.args.assets.now e.asset) was ∙ site in
    let found : flow.site ≡ c.site_at_place-site.result = same_site c.args.assets.now x.asset flow.site c.site_at_place-site.result here c.site_at_place-site.ensures.site in
    c.in_err-life.ensures.broken flow earlier event found (subst (λ (e : Entry). IsSessionOf flow earlier event e.session) (sym was) stands))

pub returns-in_err-life-clause-before : goal.returns-in_err-life-clause-before
returns-in_err-life-clause-before g c =
    let x = c.index_mut-entry.result.now in
    let y : Entry = record { session = c.on_clock.new.self; asset = x.asset; due = x.due } in
    take-set c.args.table.now.items c.args.place y

pub returns-in_err-life-clause-after : goal.returns-in_err-life-clause-after
returns-in_err-life-clause-after g c =
    let x = c.index_mut-entry.result.now in
    let y : Entry = record { session = c.on_clock.new.self; asset = x.asset; due = x.due } in
    drop-set-lt (c.args.place + 1) c.args.table.now.items c.args.place y (omega arith)

pub returns-in_err-life-clause-length : goal.returns-in_err-life-clause-length
returns-in_err-life-clause-length g c =
    let x = c.index_mut-entry.result.now in
    let y : Entry = record { session = c.on_clock.new.self; asset = x.asset; due = x.due } in
    length-set c.args.table.now.items c.args.place y

pub returns-clause-before : goal.returns-clause-before
returns-clause-before g c =
    let x = c.index_mut-entry.result.now in
    let y : Entry = record { session = c.on_clock.new.self; asset = x.asset; due = c.due-entry.result } in
    take-set c.args.table.now.items c.args.place y

pub returns-clause-after : goal.returns-clause-after
returns-clause-after g c =
    let x = c.index_mut-entry.result.now in
    let y : Entry = record { session = c.on_clock.new.self; asset = x.asset; due = c.due-entry.result } in
    drop-set-lt (c.args.place + 1) c.args.table.now.items c.args.place y (omega arith)

pub returns-clause-length : goal.returns-clause-length
returns-clause-length g c =
    let x = c.index_mut-entry.result.now in
    let y : Entry = record { session = c.on_clock.new.self; asset = x.asset; due = c.due-entry.result } in
    length-set c.args.table.now.items c.args.place y

pub returns-in_err-life-clause-sound : goal.returns-in_err-life-clause-sound
returns-in_err-life-clause-sound g c = not_ok _ c.from_residual.result _ c.from_residual.ensures.1

pub returns-in_err-life-clause-ticks : goal.returns-in_err-life-clause-ticks
returns-in_err-life-clause-ticks g c = not_ok _ c.from_residual.result _ c.from_residual.ensures.1

pub returns-in_err-life-clause-frame : goal.returns-in_err-life-clause-frame
returns-in_err-life-clause-frame g c = puts_failed _ c.from_residual.result _ _ c.from_residual.ensures.1 c.in_err-life.ensures.frame

pub returns-clause-frame : goal.returns-clause-frame
returns-clause-frame g c = c.in_ok-life.ensures.frame
