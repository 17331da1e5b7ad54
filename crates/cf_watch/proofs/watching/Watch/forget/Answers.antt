use Rattle.std.proofs.Common.{◌+◌, ◌<◌, List, length, set, refl, subst, arith}
use Rattle.std.proofs.lemmas.Option.{slice_get_read}
use Rattle.cf_watch.specs.Trail.{AreHeard, Heard}
use Rattle.cf_watch.specs.Watched.{Watched}
use Rattle.cf_watch.specs.declared.scope.Scope.TheVariants as scope
use Rattle.cf_watch.specs.declared.watching.Trail.{Trail}
use Rattle.cf_watch.proofs.Tables.{flow_at, forgets_set, heard_set, heard_without, set_same}
use Rattle.cf_watch.proofs.watching.Watch.forget.Goals as goal

pub returns : goal.returns
returns c records ws hs s =
    let old = c.args.self.now in
    let place = c.args.place in
    let count = c.args.count in
    let flow = c.index_mut-flow.result.now in
    let trail = c.index_mut.result.now in
    let left = c.forget.new.self in
    let now : Trail = record trail { base = trail.base + count } in
    let flow_is = slice_get_read old.flows.items (length old.flows.items) place flow refl c.requires.flow c.index_mut-flow.ensures.value in
    let trail_is = slice_get_read old.trails.items (length old.trails.items) place trail refl c.requires.trail c.index_mut.ensures.value in
    let in_ws : place < length ws = omega (arith, c.requires.flow, s.flow_count) in
    let in_hs : place < length hs = omega (arith, in_ws, s.heard_count) in
    let w = flow_at ws place in_ws in
    let h = flow_at hs place in_hs in
    let is = s.each place flow trail w.0 h.0 flow_is trail_is w.1 h.1 in
    let (n, spare, few) = c.requires.spare in
    let without = heard_without flow left trail now w.0 h.0 count n is c.forget.ensures refl few (spare.kept flow flow_is) (c.requires.born flow flow_is) (spare.below trail trail_is) in
    let flows = set old.flows.items place left in
    let trails = set old.trails.items place now in
    let later : Heard = record h.0 { base = h.0.base + count } in
    subst (λ (gs : List Heard). AreHeard scope.Recording records flows trails old.last ws gs) (forgets_set place count hs h.0 h.1)
    (subst (λ (vs : List Watched). AreHeard scope.Recording records flows trails old.last vs (set hs place later)) (set_same ws place w.0 w.1)
    (heard_set scope.Recording records old.flows.items old.trails.items old.last ws hs place left now w.0 w.0 later s w.1 refl refl without (s.low place trail trail_is)))
