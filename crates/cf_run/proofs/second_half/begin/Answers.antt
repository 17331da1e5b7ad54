use Rattle.std.proofs.Common.{◌≡◌, ◌+◌, ◌-◌, ◌<◌, ◌≤◌, ℕ, List, ◌∷◌, ◌++◌, [], length, sym, ap, Err, ◌∙◌, subst, Option, Some, None, true, not, cond, arith}
use Rattle.std.specs.Result.{is_ok}
use Rattle.std.specs.Option.{IfSome}
use Rattle.std.proofs.lemmas.List.{length-append}
use Rattle.cf_run.specs.Engine.{IsSoundEntry}
use Rattle.cf_run.specs.Entries.{others, without_at}
use Rattle.cf_run.specs.declared.entry.Entry.{Entry}
use Rattle.cf_policy.specs.Site.{SiteValue, site_from}
use Rattle.cf_packet.specs.Packet.{PacketValue, packet_value}
use Rattle.cf_session.specs.Session.{Flow}
use Rattle.cf_session.specs.Stands.{Begins}
use Rattle.cf_session.specs.Told.{told}
use Rattle.cf_run.proofs.Begun.{begun_last, sound_without, length_without}
use Rattle.cf_run.proofs.Due.{due_more, due_without}
use Rattle.cf_run.proofs.Sites.{same_site}
use Rattle.cf_run.proofs.Soundness.{sound_pushed}
use Rattle.cf_session.specs.Broken.{BreaksBeginning}
use Rattle.cf_run.proofs.second_half.begin.Given.{Over}
use Rattle.cf_run.proofs.second_half.begin.Goals as goal
use Rattle.cf_run.proofs.second_half.begin.Goals.{After-site_at_place-served, Else-is_err}

inside_by : (xs : List Entry) (o : Option ℕ) → IfSome o (λ place. place < length xs) → (place : ℕ) → o ≡ Some place → place < length xs
inside_by xs None h place e = cc
inside_by xs (Some p) h place e = let same : p ≡ place = cc in subst (λ n. n < length xs) same h

fewer_others : (n : ℕ) (o : Option ℕ) → others n o ≤ n
fewer_others n None = omega arith
fewer_others n (Some p) = omega arith

-- the site was found
module _ (g : Over) (c : After-site_at_place-served g) (flow : Flow) (there : site_from c.args.assets.now c.args.asset ≡ Some flow.site) (syn : flow.syn ≡ packet_value c.args.packet.now) where
  abbrev flow_of : SiteValue → PacketValue → Flow
  flow_of site packet = record { site = site; syn = packet }

  is_flow : flow_of c.site_at_place-served.result (packet_value c.args.packet.now) ≡ flow
  is_flow =
      ap (λ a. flow_of a (packet_value c.args.packet.now)) (same_site c.args.assets.now c.args.asset c.site_at_place-served.result flow.site c.site_at_place-served.ensures.site there)
      ∙ ap (λ p. flow_of flow.site p) (sym syn)

-- the session stands in the table
module _ (g : Over) (c : Else-is_err g) where
  abbrev entry : Entry
  entry = record { session = c.in-Ok.session; asset = c.args.asset; due = c.due-due.result }

  stands_last : c.push.new.self.items ≡ without_at c.args.table.now.sessions.items c.args.closed ++ entry ∷ []
  stands_last =
      let ok : is_ok c.push.result ≡ true = c.is_err.ensures.negation ∙ ap not c.if-is_err.false in
      c.push.ensures.items ∙ ap (λ b. cond b (c.make_room.new.table.items ++ entry ∷ []) c.make_room.new.table.items) ok
      ∙ ap (λ xs. xs ++ entry ∷ []) (c.make_room.ensures.same ∙ c.make_way.ensures)

pub begin-requires-clause-within : goal.begin-requires-clause-within
begin-requires-clause-within g c = c.site_at_place-served.ensures.within c.requires.within

pub returns-clause-begins : goal.returns-clause-begins
returns-clause-begins g c = λ table flow all there syn is.
    let at = (goal.at.returns-clause-begins g c).Else-is_err in
    let items = stands_last g at in
    let old = told (g.D.Desk.value c.args.desk.now) in
    let new = told (g.D.Desk.value c.begin.new.desk) in
    let begun : Begins flow (c.args.moment - 1) c.in-Ok.session old new = subst (λ (f : Flow). Begins f (c.args.moment - 1) c.in-Ok.session old new) (is_flow g (goal.at.returns-clause-begins g c).After-site_at_place-served flow there syn) c.in-Ok.ensures.begins in
    let h = begun_last c.args.assets.now c.args.moment c.args.asset c.args.closed flow table c.args.table.now.sessions.items old new c.in-Ok.session c.due-due.result c.requires.moment.0 all there is begun in
    (h.0, rw items h.1)

pub returns-clause-sound : goal.returns-clause-sound
returns-clause-sound g c =
    let at = (goal.at.returns-clause-sound g c).Else-is_err in
    let items = stands_last g at in
    let one : IsSoundEntry c.args.assets.now c.args.limit (entry g at) =
    record { site = c.site_at_place-served.result; at = c.site_at_place-served.ensures.site; sound = c.in-Ok.ensures.sound; limit_is = grind (arith, c.in-Ok.ensures.limit, c.signed.ensures, c.requires.limit); due_is = c.due-due.ensures } in
    rw items (sound_pushed c.args.assets.now c.args.limit (without_at c.args.table.now.sessions.items c.args.closed) (entry g at)
    (sound_without c.args.assets.now c.args.limit c.args.table.now.sessions.items c.args.closed c.requires.sound) one)

pub returns-clause-due : goal.returns-clause-due
returns-clause-due g c =
    let at = (goal.at.returns-clause-due g c).Else-is_err in
    let items = stands_last g at in
    rw items (due_more c.args.table.now.due c.min-table.result (without_at c.args.table.now.sessions.items c.args.closed) (entry g at)
    (due_without c.args.table.now.due c.args.table.now.sessions.items c.args.closed c.requires.due) (omega (arith, c.min-table.ensures)) (omega (arith, c.min-table.ensures)))

pub returns-clause-size : goal.returns-clause-size
returns-clause-size g c =
    let at = (goal.at.returns-clause-size g c).Else-is_err in
    let items = stands_last g at in
    let rest : length (without_at c.args.table.now.sessions.items c.args.closed) ≡ others (length c.args.table.now.sessions.items) c.args.closed =
    length_without c.args.table.now.sessions.items c.args.closed (inside_by c.args.table.now.sessions.items c.args.closed c.requires.closed) in
    let size : length c.push.new.self.items ≡ others (length c.args.table.now.sessions.items) c.args.closed + 1 =
    ap length items ∙ length-append (without_at c.args.table.now.sessions.items c.args.closed) (entry g at ∷ []) ∙ ap (λ n. n + 1) rest in
    (omega (arith, size, fewer_others (length c.args.table.now.sessions.items) c.args.closed), omega (arith, size, c.requires.room))

pub returns-in-Err-Write-clause-broken : goal.returns-in-Err-Write-clause-broken
returns-in-Err-Write-clause-broken g c = λ e flow there syn.
    let d0 = g.D.Desk.value c.args.desk.now in
    let d1 = g.D.Desk.value c.begin.new.desk in
    subst (λ (f : Flow). BreaksBeginning f (c.args.moment - 1) d0 d1) (is_flow g (goal.at.returns-in-Err-Write-clause-broken g c).After-site_at_place-served flow there syn) (c.in-Err-Write.ensures.broken (ap Err c.in-Err-Write.field-0-is))
