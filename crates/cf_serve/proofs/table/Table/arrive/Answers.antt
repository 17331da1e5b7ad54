use Rattle.std.proofs.Common.{ap, arith, false, map, refl, subst, sym, ℕ, ◌∙◌, ◌≡◌, ◌≤◌}
use Rattle.std.proofs.lemmas.List.{length-map}
use Rattle.cf_links.specs.Links.{LinksPlace}
use Rattle.cf_serve.proofs.Arriving.{came_in, closed_missed, closed_quiet, closed_said, due, err_for_all, for_all, free_away, next_behind, none_came, not_due, table_away, table_in}
use Rattle.cf_serve.proofs.Calming.{calm_taken}
use Rattle.cf_serve.specs.Door.{came_by, has_line}
use Rattle.cf_serve.specs.Phase.{listening_at, listenings, phase_of}
use Rattle.cf_serve.specs.Table.{IsTable}
use Rattle.cf_serve.specs.declared.door.Lobby.{Lobby}
use Rattle.cf_serve.proofs.table.Table.arrive.Goals as goal

pub arrive-requires : goal.arrive-requires
arrive-requires g c = record { unused = c.requires.free c.args.self.now.lobby.next (omega arith) }

pub returns-in-Nobody-clause-table : goal.returns-in-Nobody-clause-table
returns-in-Nobody-clause-table g c = λ most table.
    subst (λ (p : LinksPlace). IsTable (listenings c.args.places.now) most c.args.self.now.keeping p.serves c.args.self.now.lobby.next (map phase_of c.args.self.now.sessions.items))
    (sym c.in-Nobody.ensures.place) table

pub returns-in-Nobody-clause-does : goal.returns-in-Nobody-clause-does
returns-in-Nobody-clause-does g c = λ most. none_came _ _ _ _ _ _ _ _ _ c.in-Nobody.ensures.entry

-- one that is closed
pub returns-in-None-clause-table : goal.returns-in-None-clause-table
returns-in-None-clause-table g c = λ most.
    table_away _ most _ c.args.self.now.lobby.next _ _ (g.L.Links.place c.args.links.now) (g.L.Links.place c.arrive.new.self) (g.L.Links.place c.leave.new.self)
    (next_behind c.in-Some.closing c.args.self.now.lobby _ c.args.place c.args.moment c.in-Came.client.address c.close.ensures.lobby)
    c.in-Came.ensures.place c.leave.ensures.place

pub returns-in-Some-close-clause-table : goal.returns-in-Some-close-clause-table
returns-in-Some-close-clause-table g c = λ most.
    table_away _ most _ c.args.self.now.lobby.next _ _ (g.L.Links.place c.args.links.now) (g.L.Links.place c.arrive.new.self) (g.L.Links.place c.leave.new.self)
    (next_behind c.in-Some.closing c.args.self.now.lobby _ c.args.place c.args.moment c.in-Came.client.address c.close.ensures.lobby)
    c.in-Came.ensures.place c.leave.ensures.place

pub returns-in-None-clause-free : goal.returns-in-None-clause-free
returns-in-None-clause-free g c =
    subst (λ n. (session : ℕ) → n ≤ session → LinksPlace.serves (g.L.Links.place c.leave.new.self) session ≡ false)
    (sym (next_behind c.in-Some.closing c.args.self.now.lobby _ c.args.place c.args.moment c.in-Came.client.address c.close.ensures.lobby))
    (free_away c.args.self.now.lobby.next (g.L.Links.place c.args.links.now) (g.L.Links.place c.arrive.new.self) (g.L.Links.place c.leave.new.self)
    c.requires.free c.in-Came.ensures.place c.leave.ensures.place)

pub returns-in-Some-close-clause-free : goal.returns-in-Some-close-clause-free
returns-in-Some-close-clause-free g c =
    subst (λ n. (session : ℕ) → n ≤ session → LinksPlace.serves (g.L.Links.place c.leave.new.self) session ≡ false)
    (sym (next_behind c.in-Some.closing c.args.self.now.lobby _ c.args.place c.args.moment c.in-Came.client.address c.close.ensures.lobby))
    (free_away c.args.self.now.lobby.next (g.L.Links.place c.args.links.now) (g.L.Links.place c.arrive.new.self) (g.L.Links.place c.leave.new.self)
    c.requires.free c.in-Came.ensures.place c.leave.ensures.place)

pub returns-in-None-clause-does : goal.returns-in-None-clause-does
returns-in-None-clause-does g c = λ most.
    let f = c.args.self.now.lobby in
    let why = c.in-Some.closing in
    closed_quiet _ most c.args.moment c.args.place f _ _ _ c.in-Came.client _ _ _ (listening_at c.place_of-at.result.now) c.place_of-at.ensures.place
    why (sym c.in-Some.is ∙ c.closing.ensures) _ c.in-Came.ensures.entry c.leave.ensures.entry c.close.ensures.lobby refl
    (not_due (has_line why f c.args.place c.args.moment c.in-Came.client.address) (came_by why f c.args.place) c.close.result c.close.ensures.says c.in-None.is)

pub returns-in-Some-close-clause-does : goal.returns-in-Some-close-clause-does
returns-in-Some-close-clause-does g c =
    let f = c.args.self.now.lobby in
    let why = c.in-Some.closing in
    let d = due (has_line why f c.args.place c.args.moment c.in-Came.client.address) (came_by why f c.args.place) c.in-Some-close.came c.close.result
    c.close.ensures.says c.in-Some-close.is in
    for_all _ c.log_line.result (λ most.
    closed_said _ most c.args.moment c.args.place f _ _ _ c.in-Came.client _ _ _ (listening_at c.place_of-at.result.now) c.place_of-at.ensures.place
    why (sym c.in-Some.is ∙ c.closing.ensures) _ c.in-Came.ensures.entry c.leave.ensures.entry c.close.ensures.lobby d.0
    c.log_line.result (rw (c.line.ensures.value, d.1) at c.log_line.ensures.lines))

pub returns-in-Some-close-clause-breaks : goal.returns-in-Some-close-clause-breaks
returns-in-Some-close-clause-breaks g c =
    let f = c.args.self.now.lobby in
    let why = c.in-Some.closing in
    let d = due (has_line why f c.args.place c.args.moment c.in-Came.client.address) (came_by why f c.args.place) c.in-Some-close.came c.close.result
    c.close.ensures.says c.in-Some-close.is in
    err_for_all _ _ c.log_line.result (λ most.
    closed_missed _ most c.args.moment c.args.place f _ _ _ c.in-Came.client _ _ _ (listening_at c.place_of-at.result.now) c.place_of-at.ensures.place
    why (sym c.in-Some.is ∙ c.closing.ensures) _ c.in-Came.ensures.entry c.leave.ensures.entry c.close.ensures.lobby d.0
    _) (rw (c.line.ensures.value, d.1) at c.log_line.ensures.fails)

-- one that is taken
pub returns-in_default-clause-table : goal.returns-in_default-clause-table
returns-in_default-clause-table g c = λ most. rw c.take_in.ensures.keeping (λ t.
    table_in _ most c.args.self.now.lobby.next c.args.place c.in-Came.client _ _ (g.L.Links.place c.args.links.now) (g.L.Links.place c.arrive.new.self) _ _
    c.take_in.ensures.items (ap (λ (f : Lobby). f.next) c.take_in.ensures.lobby) (rw length-map c.requires.place) c.in-Came.ensures.place t)

pub returns-in_default-clause-does : goal.returns-in_default-clause-does
returns-in_default-clause-does g c = λ most.
    came_in _ most c.args.moment c.args.place c.args.self.now.lobby _ _ _ c.in-Came.client _ _ _ (listening_at c.place_of-at.result.now)
    c.place_of-at.ensures.place _ c.in-Came.ensures.entry (sym c.in_default.is ∙ c.closing.ensures) c.take_in.ensures.items c.take_in.ensures.lobby refl

pub returns-in_default-clause-calm : goal.returns-in_default-clause-calm
returns-in_default-clause-calm g c =
    calm_taken (listenings c.args.places.now) (listening_at c.place_of-at.result.now) _ _ _ _ _ _ _ c.place_of-at.ensures.place c.take_in.ensures.items c.take_in.ensures.has_new
