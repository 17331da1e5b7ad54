use Rattle.std.proofs.Common.{◌∙◌, length, sym}
use Rattle.std.proofs.lemmas.Bool.{eqb-true, ltb-true}
use Rattle.cf_learn.proofs.Same.{found_at}
use Rattle.cf_learn.proofs.gathering.is_at.Goals as goal

pub returns-then-is_same_kind : goal.returns-then-is_same_kind
returns-then-is_same_kind c tested =
    found_at c.args.sorted.now c.args.place c.in-Some.other.now c.args.one.now
    (ltb-true c.args.place (length c.args.sorted.now) (sym c.in-Some.ensures.lookup.0)) c.in-Some.ensures.lookup.1
    (sym c.is_same_kind.ensures ∙ c.if-is_same_kind.true) (eqb-true c.in-Some.other.now.point c.args.one.now.point tested)
