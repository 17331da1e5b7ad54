use Rattle.std.proofs.Common.{Bool, length, map, refl, subst, sym, ℕ, []}
use Rattle.cf_links.specs.Links.{LinksPlace}
use Rattle.cf_serve.proofs.Minuting.{round_is, round_missed, round_missed_early, round_missed_late}
use Rattle.cf_serve.proofs.Rounding.{kept_on, may_leave}
use Rattle.cf_serve.specs.Failing.{MissesRound}
use Rattle.cf_serve.specs.Minute.{last_behind}
use Rattle.cf_serve.specs.Phase.{listenings, phase_of}
use Rattle.cf_serve.specs.Table.{AreCalm, IsTable, MayLeave, RoundDoes, seats_of}
use Rattle.cf_serve.specs.declared.door.Lobby.{Lobby}
use Rattle.cf_serve.specs.declared.minute.Minutes.{Minutes}
use Rattle.cf_serve.specs.declared.table.Table.{Table}
use Rattle.cf_serve.proofs.table.Table.round.Goals as goal

pub returns-in-Err-clause-leave : goal.returns-in-Err-clause-leave
returns-in-Err-clause-leave g c =
    let ps = map phase_of c.args.self.now.sessions.items in
    let places = listenings c.args.places.now in
    let woken = subst (λ (s : ℕ → Bool). IsTable places c.args.most c.args.self.now.keeping s c.args.self.now.lobby.next ps) (sym c.in-Told.ensures.place.serves) c.requires.table in
    may_leave places c.args.most c.arrivals.new.self.keeping c.arrivals.new.self.lobby.next (LinksPlace.serves (g.L.Links.place c.arrivals.new.links)) (map phase_of c.arrivals.new.self.sessions.items)
    (c.arrivals.ensures.table c.args.most woken)

pub turns-requires-clause-table : goal.turns-requires-clause-table
turns-requires-clause-table g c =
    let ps = map phase_of c.args.self.now.sessions.items in
    let places = listenings c.args.places.now in
    let woken = subst (λ (s : ℕ → Bool). IsTable places c.args.most c.args.self.now.keeping s c.args.self.now.lobby.next ps) (sym c.in-Told.ensures.place.serves) c.requires.table in
    c.arrivals.ensures.table c.args.most woken

pub returns-in-Err-end_round-clause-leave : goal.returns-in-Err-end_round-clause-leave
returns-in-Err-end_round-clause-leave g c =
    let serves = LinksPlace.serves (g.L.Links.place c.turns.new.links) in
    subst (λ (t : Table). MayLeave serves t.lobby.next (map phase_of t.sessions.items)) (sym c.end_round.ensures.same)
    (may_leave (listenings c.args.places.now) c.args.most c.turns.new.self.keeping c.turns.new.self.lobby.next serves (map phase_of c.turns.new.self.sessions.items) c.in-Ok-turns.ensures.table)

pub returns-in-Ok-end_round-clause-table : goal.returns-in-Ok-end_round-clause-table
returns-in-Ok-end_round-clause-table g c =
    subst (λ (t : Table). IsTable (listenings c.args.places.now) c.args.most t.keeping (LinksPlace.serves (g.L.Links.place c.turns.new.links)) t.lobby.next (map phase_of t.sessions.items))
    (sym c.end_round.ensures.same) c.in-Ok-turns.ensures.table

pub returns-in-Ok-end_round-clause-does : goal.returns-in-Ok-end_round-clause-does
returns-in-Ok-end_round-clause-does g c = λ past keeps last its.
    let places = c.args.places.now in
    let ps = map phase_of c.args.self.now.sessions.items in
    let mid = map phase_of c.arrivals.new.self.sessions.items in
    let new = map phase_of c.turns.new.self.sessions.items in
    let told0 = g.L.Links.told c.args.links.now in
    let told2 = g.L.Links.told c.turns.new.links in
    let log = (g.D.Desk.value c.args.desk.now).lines in
    let log3 = (g.D.Desk.value c.end_round.new.desk).lines in
    let minutes2 = c.turns.new.self.minutes in
    let minutes3 : Minutes = record minutes2 { last = last_behind minutes2.last c.in-Told.moment } in
    let a = c.in-Ok.ensures.does c.args.most in
    let b = c.in-Ok-turns.ensures.does past (kept_on (listenings c.args.places.now) c.args.most c.args.self.now.keeping c.arrivals.new.self.keeping c.arrivals.new.self.lobby.next past mid c.arrivals.ensures.keeping (a.keeps c.args.self.now.keeping past keeps)) in
    subst (λ (t : Table). RoundDoes places c.args.most t.keeping c.args.self.now.lobby t.lobby t.minutes last past told0 told2 log log3 ps (map phase_of t.sessions.items)) (sym c.end_round.ensures.same)
    (subst (λ (n : Lobby). RoundDoes places c.args.most c.turns.new.self.keeping c.args.self.now.lobby n minutes3 last past told0 told2 log log3 ps new) (sym c.turns.ensures.lobby)
    (round_is places c.args.most c.in-Told.moment c.args.self.now.lobby c.arrivals.new.self.lobby last past told0 (g.L.Links.told c.wait.new.self) (g.L.Links.told c.arrivals.new.links)
    log (g.D.Desk.value c.arrivals.new.desk).lines [] ps mid c.in-Told.ensures.entry (length places) told2 (g.D.Desk.value c.turns.new.desk).lines new a c.turns.new.self.keeping
    c.args.self.now.minutes c.arrivals.new.self.minutes minutes2 b c.requires.few its c.arrivals.ensures.minutes c.turns.ensures.last minutes3 log3 refl c.in-Ok-end_round.ensures.lines))

pub returns-in-Err-clause-breaks : goal.returns-in-Err-clause-breaks
returns-in-Err-clause-breaks g c = λ is past keeps last its.
    let ps = map phase_of c.args.self.now.sessions.items in
    let mid = map phase_of c.arrivals.new.self.sessions.items in
    let places = listenings c.args.places.now in
    let woken = subst (λ (s : ℕ → Bool). IsTable places c.args.most c.args.self.now.keeping s c.args.self.now.lobby.next ps) (sym c.in-Told.ensures.place.serves) c.requires.table in
    round_missed_early c.args.places.now c.args.most c.in-Told.moment c.args.self.now.lobby c.arrivals.new.self.lobby last past (g.L.Links.told c.args.links.now)
    (g.L.Links.told c.wait.new.self) (g.L.Links.told c.arrivals.new.links) (g.D.Desk.value c.args.desk.now).lines (g.D.Desk.value c.arrivals.new.desk).lines
    (g.D.Desk.value c.arrivals.new.desk).line_part ps mid c.in-Told.ensures.entry c.args.self.now.keeping (LinksPlace.serves (g.L.Links.place c.arrivals.new.links))
    (c.in-Err.ensures.breaks c.args.most) (subst (λ k. IsTable places c.args.most k (LinksPlace.serves (g.L.Links.place c.arrivals.new.links)) c.arrivals.new.self.lobby.next mid) c.arrivals.ensures.keeping (c.arrivals.ensures.table c.args.most woken)) keeps

pub returns-in-Err-turns-clause-breaks : goal.returns-in-Err-turns-clause-breaks
returns-in-Err-turns-clause-breaks g c = λ is past keeps last its.
    let ps = map phase_of c.args.self.now.sessions.items in
    let mid = map phase_of c.arrivals.new.self.sessions.items in
    let new = map phase_of c.turns.new.self.sessions.items in
    let a = c.in-Ok.ensures.does c.args.most in
    round_missed c.args.places.now c.args.most c.in-Told.moment c.args.self.now.lobby c.arrivals.new.self.lobby last past (g.L.Links.told c.args.links.now)
    (g.L.Links.told c.wait.new.self) (g.L.Links.told c.arrivals.new.links) (g.D.Desk.value c.args.desk.now).lines (g.D.Desk.value c.arrivals.new.desk).lines
    (g.D.Desk.value c.turns.new.desk).line_part ps mid c.in-Told.ensures.entry (length c.args.places.now) (g.L.Links.told c.turns.new.links)
    (g.D.Desk.value c.turns.new.desk).lines new a (c.in-Err-turns.ensures.breaks past (kept_on (listenings c.args.places.now) c.args.most c.args.self.now.keeping c.arrivals.new.self.keeping c.arrivals.new.self.lobby.next past mid c.arrivals.ensures.keeping (a.keeps c.args.self.now.keeping past keeps)))

pub returns-in-Err-end_round-clause-breaks : goal.returns-in-Err-end_round-clause-breaks
returns-in-Err-end_round-clause-breaks g c = λ is past keeps last its.
    let places = c.args.places.now in
    let ps = map phase_of c.args.self.now.sessions.items in
    let mid = map phase_of c.arrivals.new.self.sessions.items in
    let new = map phase_of c.turns.new.self.sessions.items in
    let told0 = g.L.Links.told c.args.links.now in
    let told2 = g.L.Links.told c.turns.new.links in
    let log = (g.D.Desk.value c.args.desk.now).lines in
    let log3 = (g.D.Desk.value c.end_round.new.desk).lines in
    let part = (g.D.Desk.value c.end_round.new.desk).line_part in
    let serves = LinksPlace.serves (g.L.Links.place c.turns.new.links) in
    let a = c.in-Ok.ensures.does c.args.most in
    let b = c.in-Ok-turns.ensures.does past (kept_on (listenings c.args.places.now) c.args.most c.args.self.now.keeping c.arrivals.new.self.keeping c.arrivals.new.self.lobby.next past mid c.arrivals.ensures.keeping (a.keeps c.args.self.now.keeping past keeps)) in
    subst (λ (t : Table). MissesRound places c.args.most c.args.self.now.lobby last past told0 told2 log log3 part ps (map phase_of t.sessions.items)) (sym c.end_round.ensures.same)
    (round_missed_late places c.args.most c.in-Told.moment c.args.self.now.lobby c.arrivals.new.self.lobby last past told0 (g.L.Links.told c.wait.new.self) (g.L.Links.told c.arrivals.new.links)
    log (g.D.Desk.value c.arrivals.new.desk).lines part ps mid c.in-Told.ensures.entry (length places) told2 (g.D.Desk.value c.turns.new.desk).lines new a c.turns.new.self.keeping
    c.args.self.now.minutes c.arrivals.new.self.minutes c.turns.new.self.minutes b c.requires.few its c.arrivals.ensures.minutes c.turns.ensures.last serves log3
    (subst (λ (n : Lobby). IsTable (listenings places) c.args.most c.turns.new.self.keeping serves n.next new) c.turns.ensures.lobby c.in-Ok-turns.ensures.table) c.in-Err-end_round.ensures.breaks)

pub turns-requires-clause-calm : goal.turns-requires-clause-calm
turns-requires-clause-calm g c = c.arrivals.ensures.calm c.requires.calm

pub returns-in-Ok-end_round-clause-calm : goal.returns-in-Ok-end_round-clause-calm
returns-in-Ok-end_round-clause-calm g c =
    subst (λ (t : Table). AreCalm (listenings c.args.places.now) (seats_of (map phase_of t.sessions.items))) (sym c.end_round.ensures.same) c.in-Ok-turns.ensures.calm
