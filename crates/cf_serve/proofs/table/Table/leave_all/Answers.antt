use Rattle.std.proofs.Common.{ap, arith, drop, length, map, subst, sym, take, ◌++◌, ◌<◌, ◌∙◌, ◌∷◌, ◌≡◌, ◌+◌, []}
use Rattle.std.specs.Prelude.{option_map}
use Rattle.std.proofs.Math.ListN.{get_or}
use Rattle.std.proofs.lemmas.List.{drop_more, take_more}
use Rattle.cf_links.specs.Links.{LinksPlace}
use Rattle.cf_serve.proofs.Rounding.{leave_one, left_more}
use Rattle.cf_serve.specs.Phase.{phase_of}
use Rattle.cf_serve.specs.Served.{left_of}
use Rattle.cf_serve.specs.Table.{MayLeave, seats_of}
use Rattle.cf_serve.proofs.table.Table.leave_all.Goals as goal

pub loop-served-preserved : goal.loop-served-preserved
loop-served-preserved g c =
    let xs = c.args.self.now.sessions.items in
    let i = c.loop-served.served-index in
    let x = c.served-item.result in
    let h : i < length xs = omega (arith, c.loop-served-test.true) in
    let e : x ≡ get_or xs i x = c.served-item.is ∙ ap (λ ys. get_or ys i x) c.deref-served-items.ensures.value in
    let rest = drop_more xs i x h ∙ ap (λ y. y ∷ drop (i + 1) xs) (sym e) in
    let front = take_more xs i x h ∙ ap (λ y. take i xs ++ y ∷ []) (sym e) in
    record {
      leave = leave_one c.args.self.now.lobby.next (g.L.Links.place c.loop-served.links) (g.L.Links.place c.leave.new.self) (phase_of x) (map phase_of (drop (i + 1) xs))
          (subst (λ ys. MayLeave (LinksPlace.serves (g.L.Links.place c.loop-served.links)) c.args.self.now.lobby.next (map phase_of ys)) rest c.loop-served.invariant.leave)
          c.leave.ensures.place;
      round = c.leave.ensures.place.round ∙ c.loop-served.invariant.round;
      told = left_more (g.L.Links.told c.args.links.now) (g.L.Links.told c.loop-served.links) (g.L.Links.told c.leave.new.self) (take i xs) x c.loop-served.invariant.told c.leave.ensures.entry
          ∙ ap (λ ys. option_map (λ es. es ++ left_of (seats_of (map phase_of ys))) (g.L.Links.told c.args.links.now)) (sym front);
    }
