use Rattle.cf_remarks.proofs.heard.site_of.Goals as goal

pub returns : goal.returns
returns c = record { within = c.site_at_place.ensures.within c.requires }
