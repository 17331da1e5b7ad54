use Rattle.std.proofs.Common.{◌∙◌, ℕ, Option, ap, sym}
use Rattle.std.specs.Option.{option_map_or}
use Rattle.cf_learn.proofs.assets.site_place.Goals as goal

pub returns-in-Some : goal.returns-in-Some
returns-in-Some c = ap (λ (o : Option ℕ). option_map_or (λ place. place) o 0) (sym c.in-Some.is ∙ c.first_at.ensures.place)

pub returns-in-None : goal.returns-in-None
returns-in-None c = ap (λ (o : Option ℕ). option_map_or (λ place. place) o 0) (sym c.in-None.is ∙ c.first_at.ensures.place)
