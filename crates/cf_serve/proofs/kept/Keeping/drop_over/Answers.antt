use Rattle.std.proofs.Common.{ap, arith, length, rules, subst, sym, ◌∙◌, ◌≡◌}
use Rattle.std.proofs.lemmas.Fn.{filter_same}
use Rattle.std.proofs.lemmas.List.Sums.{count_by-le-length, length-filter}
use Rattle.std.specs.List.{filter}
use Rattle.cf_serve.specs.Keeping.{AreSingle}
use Rattle.cf_serve.proofs.Keyed.{single_dropped, still}
use Rattle.cf_serve.proofs.kept.Keeping.drop_over.Goals as goal

pub invariant_of-self : goal.invariant_of-self
invariant_of-self c =
    let items = c.self.inside.kept.items in
    let left : c.retain.new.self.items ≡ filter (still c.args.moment) items = filter_same _ _ _ (λ x b f' k. search rules) _ _ c.retain.ensures.filtered in (
      subst AreSingle (sym left) (single_dropped c.args.moment items c.self.invariant.0),
      omega (arith, c.self.invariant.1, ap length left, length-filter (still c.args.moment) items, count_by-le-length (still c.args.moment) items),
      omega (arith, c.self.invariant.2, c.retain.ensures.capacity),
    )

pub returns : goal.returns
returns c =
    let left : c.retain.new.self.items ≡ filter (still c.args.moment) c.self.inside.kept.items = filter_same _ _ _ (λ x b f' k. search rules) _ _ c.retain.ensures.filtered in
    left ∙ ap (filter (still c.args.moment)) c.self.view_is
