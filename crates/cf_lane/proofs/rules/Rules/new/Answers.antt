use Rattle.std.proofs.Common.{ap, sym, ◌∙◌}
use Rattle.std.proofs.lemmas.Option.{get_or_from_slice_get, slice_get_within}
use Rattle.cf_lane.proofs.Rated.{few_rated, nothing_kept}
use Rattle.cf_lane.specs.Rates.{rated}
use Rattle.cf_lane.specs.Ring.{RingValue}
use Rattle.cf_lane.proofs.rules.Rules.new.Goals as goal

pub returns-clause-of_asset : goal.returns-clause-of_asset
returns-clause-of_asset c =
    let rings = c.in_ok-rings.ensures.rated ∙ ap rated c.as_slice.ensures in
    record { index = c.in_ok-index.ensures.index; rings = rings; few = few_rated c.args.asset.now.rules _ rings c.requires.within.rules.rated }

pub returns-clause-knows : goal.returns-clause-knows
returns-clause-knows c = nothing_kept c.in_ok-rings.rings.items (λ place r at.
    ap (λ (x : RingValue). x.moments) (sym (get_or_from_slice_get c.in_ok-rings.rings.items place r r at))
    ∙ c.in_ok-rings.ensures.empty place r (slice_get_within c.in_ok-rings.rings.items place r at))
