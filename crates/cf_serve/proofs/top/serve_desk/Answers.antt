use Rattle.std.proofs.Common.{Err, None, Option, ap, arith, map, subst, ℕ, ◌*◌}
use Rattle.cf_links.specs.Links.{LinksPlace}
use Rattle.cf_serve.proofs.Breaking.{breaks_all}
use Rattle.cf_serve.proofs.Minuting.{minute_start}
use Rattle.cf_serve.proofs.Whole.{from_start, serves_all, serves_none, whole_one, whole_two}
use Rattle.cf_serve.specs.Failing.{MissesRounds}
use Rattle.cf_serve.specs.Phase.{listenings, phase_of}
use Rattle.cf_serve.specs.Served.{HasMade}
use Rattle.cf_serve.specs.Table.{IsMinuteOf, IsTable, RoundsDo}
use Rattle.cf_serve.proofs.top.serve_desk.Goals as goal

pub returns-in-Err-open_places-clause-serves : goal.returns-in-Err-open_places-clause-serves
returns-in-Err-open_places-clause-serves g c =
    whole_one (Err c.in-Err-open_places.fault) c.in-Err-open_places.ensures.does
    (λ d. serves_none c.args.places.now (2 * c.args.seconds) (g.L.Links.told c.args.links.now) (g.L.Links.told c.open_places.new.links)
    (g.D.Desk.value c.args.desk.now).lines (g.D.Desk.value c.open_places.new.desk).lines (HasMade (Err c.in-Err-open_places.fault)) (omega arith) d.0 d.1)

pub returns-in-Err-open_places-clause-breaks : goal.returns-in-Err-open_places-clause-breaks
returns-in-Err-open_places-clause-breaks g c = λ is. c.in-Err-open_places.ensures.breaks is (2 * c.args.seconds)

pub returns-clause-serves : goal.returns-clause-serves
returns-clause-serves g c =
    let places = listenings c.args.places.now in
    let most = 2 * c.args.seconds in
    let same = ap (λ n. 2 * n) c.from-most.ensures in
    let ps = map phase_of c.rounds-ended.new.self.sessions.items in
    let lobby = c.rounds-ended.new.self.lobby in
    let serves = LinksPlace.serves (g.L.Links.place c.rounds-ended.new.links) in
    let told1 = g.L.Links.told c.open_places.new.links in
    let told2 = g.L.Links.told c.rounds-ended.new.links in
    let log1 = (g.D.Desk.value c.open_places.new.desk).lines in
    let log2 = (g.D.Desk.value c.rounds-ended.new.desk).lines in
    whole_two c.rounds-ended.result c.rounds-ended.ensures.does c.rounds-ended.ensures.table
    (λ d t. serves_all c.args.places.now most (g.L.Links.told c.args.links.now) told1 (g.D.Desk.value c.args.desk.now).lines log1
    (HasMade c.rounds-ended.result) c.rounds-ended.new.self.keeping lobby c.rounds-ended.new.self.minutes d.0 told2 (g.L.Links.told c.leave_all.new.links) log2 serves ps d.1.0 c.in-Ok-open_places.ensures.all
    (from_start places most (λ m n past q. (last : Option ℕ) → IsMinuteOf c.in-Ok.table.minutes last past →
    RoundsDo c.args.places.now m c.rounds-ended.new.self.keeping n lobby c.rounds-ended.new.self.minutes last d.0 past told1 told2 log1 log2 q ps) (2 * c.from-most.result) c.in-Ok.table.keeping c.in-Ok.table.lobby
    (map phase_of c.in-Ok.table.sessions.items) same c.in-Ok.ensures.keeping c.in-Ok.ensures.lobby (ap (map phase_of) c.in-Ok.ensures.none) d.1.1 None
    (minute_start c.in-Ok.table.minutes c.in-Ok.ensures.minutes))
    (subst (λ m. IsTable places m c.rounds-ended.new.self.keeping serves lobby.next ps) same t) c.leave_all.ensures.told)

pub returns-clause-breaks : goal.returns-clause-breaks
returns-clause-breaks g c = λ is.
    let places = listenings c.args.places.now in
    let most = 2 * c.args.seconds in
    let same = ap (λ n. 2 * n) c.from-most.ensures in
    let ps = map phase_of c.rounds-ended.new.self.sessions.items in
    let told1 = g.L.Links.told c.open_places.new.links in
    let told2 = g.L.Links.told c.rounds-ended.new.links in
    let log1 = (g.D.Desk.value c.open_places.new.desk).lines in
    let log2 = (g.D.Desk.value c.rounds-ended.new.desk).lines in
    let part = (g.D.Desk.value c.rounds-ended.new.desk).line_part in
    let d = c.rounds-ended.ensures.breaks is in
    breaks_all c.args.places.now most d.0 (g.L.Links.told c.args.links.now) told1 told2 (g.L.Links.told c.leave_all.new.links)
    (g.D.Desk.value c.args.desk.now).lines log1 log2 part ps d.1.0 c.in-Ok-open_places.ensures.all
    (from_start places most (λ m n past q. (last : Option ℕ) → IsMinuteOf c.in-Ok.table.minutes last past →
    MissesRounds c.args.places.now m n last d.0 past told1 told2 log1 log2 part q ps) (2 * c.from-most.result) c.in-Ok.table.keeping c.in-Ok.table.lobby
    (map phase_of c.in-Ok.table.sessions.items) same c.in-Ok.ensures.keeping c.in-Ok.ensures.lobby (ap (map phase_of) c.in-Ok.ensures.none) d.1.1 None
    (minute_start c.in-Ok.table.minutes c.in-Ok.ensures.minutes))
    c.leave_all.ensures.told
