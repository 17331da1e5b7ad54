use Rattle.std.proofs.Common.{◌≡◌, ◌∙◌, ap, pos, ℤ, rules, arith}
use Rattle.std.proofs.lemmas.Int.{to_z-of_z, to_z_pos}
use mir.Syntax.{w64}
use mir.Val.{SFits, to_z}
use Rattle.cf_stream.specs.Position.{place_or_zero, position}
use Rattle.cf_leg.proofs.heard.place_of.Goals as goal

pub returns-clause-value : goal.returns-clause-value
returns-clause-value c =
    let f : SFits w64 c.position.result = search rules in
    let b : to_z w64 c.args.base ≡ pos c.args.base = to_z_pos w64 c.args.base (omega (arith, c.requires)) in
    rw (to_z-of_z w64 c.position.result f) (c.position.ensures.value ∙ ap (λ (z : ℤ). position c.args.number c.args.origin (place_or_zero z)) b)
