use Rattle.std.proofs.Common.{length, refl}
use Rattle.std.proofs.lemmas.Option.{slice_get_read}
use Rattle.cf_policy.specs.Site.{IsSiteWithin}
use Rattle.cf_serve.proofs.Placing.{all_at}
use Rattle.cf_serve.specs.declared.table.Place.{Place}
use Rattle.cf_serve.proofs.table.place_of.Goals as goal

pub returns-clause-within : goal.returns-clause-within
returns-clause-within c =
    all_at (λ (place : Place). IsSiteWithin place.site) c.args.places.now c.args.number c.index-places-number.result
    (slice_get_read c.args.places.now (length c.args.places.now) c.args.number c.index-places-number.result refl c.requires.number c.index-places-number.is)
    c.requires.within
