use Rattle.std.proofs.Common.{◌≡◌, IfSome, true, int_le, subst}
use Rattle.std.specs.List.{list_all}
use Rattle.std.proofs.lemmas.Option.{IfSome_then}
use Rattle.cf_covered.proofs.Commands.{point_high}
use Rattle.cf_covered.proofs.points.highest_point.Goals as goal

pub returns : goal.returns
returns c =
    IfSome_then c.highest_of.result (subst (λ ks. IfSome c.highest_of.result (λ high. list_all (λ k. int_le k.points.high high) ks ≡ true)) c.kinds.ensures c.highest_of.ensures)
    (point_high c.args.protocol c.args.code)
