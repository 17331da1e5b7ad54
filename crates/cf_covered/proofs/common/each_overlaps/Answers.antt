use Rattle.std.proofs.Common.{◌∙◌, ap, arith, sym}
use Rattle.std.specs.Prelude.{Bool, false, ◌&&◌, ◌≡◌}
use Rattle.cf_covered.specs.Common.{lists_overlap}
use Rattle.cf_covered.proofs.common.each_overlaps.Goals as goal

last_false : (a b c d : Bool) → false ≡ (a && (b && (c && (d && false))))
last_false a b c d = grind arith

pub returns-then-not-lists_overlap : goal.returns-then-not-lists_overlap
returns-then-not-lists_overlap c =
    let a = c.args.rule.now in
    let b = c.args.other.now in
    last_false (lists_overlap a.clients b.clients) (lists_overlap a.codes b.codes) (lists_overlap a.groups b.groups) (lists_overlap a.values b.values)
    ∙ ap (λ p. lists_overlap a.clients b.clients && (lists_overlap a.codes b.codes && (lists_overlap a.groups b.groups
    && (lists_overlap a.values b.values && p)))) (sym (sym c.lists_overlap.ensures ∙ c.if-not-lists_overlap.true))
