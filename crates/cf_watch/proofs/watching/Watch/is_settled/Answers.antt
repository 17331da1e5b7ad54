use Rattle.std.proofs.Common.{◌≡◌, ◌<◌, ◌∙◌, [], length, refl, sym, arith}
use Rattle.std.proofs.lemmas.Bool.Decides.{nat_tests}
use Rattle.std.proofs.lemmas.List.{nil_from_length}
use Rattle.std.proofs.lemmas.Option.{slice_get_read}
use Rattle.cf_watch.proofs.Portions.{nothing_kept}
use Rattle.cf_watch.proofs.Tables.{flow_at}
use Rattle.cf_watch.proofs.watching.Watch.is_settled.Goals as goal

pub returns : goal.returns
returns c = λ empty by records ws hs w h s at_w at_h q none.
    let trails = c.args.self.now.trails.items in
    let flows = c.args.self.now.flows.items in
    let place = c.args.place in
    let t = c.index.result.now in
    let t_is = slice_get_read trails (length trails) place t refl c.requires c.index.ensures in
    let inside : place < length flows = omega (arith, c.requires, s.trail_count, s.flow_count) in
    let f = flow_at flows place inside in
    let is = s.each place f.0 t w h f.1 t_is at_w at_h in
    let zero : length t.ahead.entries ≡ 0 = grind (arith, nat_tests, c.is_empty.ensures, empty) in
    let nothing : t.ahead.entries ≡ [] = nil_from_length t.ahead.entries zero in
    sym (is.holds q none) ∙ nothing_kept t.ahead q nothing
