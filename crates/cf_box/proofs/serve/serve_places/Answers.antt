use Rattle.cf_box.proofs.Serving.{few_places, found_places, handed_on, misses_by, misses_so, places_within, stops_of}
use Rattle.cf_ending.specs.Outside.{files_value}
use Rattle.cf_box.specs.ServiceWords.{place_word_value, service_value}
use Rattle.std.proofs.Common.{ap, map, refl, subst, sym, ◌∙◌}
use Rattle.cf_box.specs.Service.{StopsService, shares_site}
use Rattle.cf_links.specs.Links.{LinksPlace}
use Rattle.cf_box.proofs.serve.serve_places.Goals as goal

pub returns-in_err-find_sites-clause-stops : goal.returns-in_err-find_sites-clause-stops
returns-in_err-find_sites-clause-stops g c =
    let told = g.L.Links.told c.args.links.now in
    let waits = LinksPlace.round_faults (g.L.Links.place c.args.links.now) in
    handed_on c.from_residual.result c.in_err-find_sites.field-0.0 _ c.from_residual.ensures.1
    (misses_so (service_value c.args.service.now) told told waits waits (files_value g.F.Files c.args.files.now) c.args.policy.now c.requires.has
    c.requires.apart c.in_err-find_sites.field-0.0
    (misses_by c.args.policy.now c.args.service.now.places.items c.as_slice.result.now c.as_slice.ensures.value c.in_err-find_sites.field-0.0 c.in_err-find_sites.ensures.misses))

pub serve-requires-clause-few : goal.serve-requires-clause-few
serve-requires-clause-few g c =
    few_places c.args.policy.now c.args.service.now.places.items c.as_slice-2.result.now c.requires.fit.1.1
    (found_places c.args.policy.now c.args.service.now.places.items c.as_slice.result.now c.as_slice.ensures.value
    c.find_sites.new.places.items c.as_slice-2.result.now c.as_slice-2.ensures.value c.in_ok-find_sites.ensures.found)

pub serve-requires-clause-within : goal.serve-requires-clause-within
serve-requires-clause-within g c =
    places_within c.args.policy.now (map place_word_value c.args.service.now.places.items) c.as_slice-2.result.now
    (found_places c.args.policy.now c.args.service.now.places.items c.as_slice.result.now c.as_slice.ensures.value
    c.find_sites.new.places.items c.as_slice-2.result.now c.as_slice-2.ensures.value c.in_ok-find_sites.ensures.found)

pub returns-clause-stops : goal.returns-clause-stops
returns-clause-stops g c =
    let w = service_value c.args.service.now in
    subst (StopsService w (files_value g.F.Files c.args.files.now) (files_value g.F.Files c.serve.new.files) (g.L.Links.told c.args.links.now)
    (g.L.Links.told c.serve.new.links) (LinksPlace.round_faults (g.L.Links.place c.args.links.now)) (LinksPlace.round_faults (g.L.Links.place c.serve.new.links)))
    (sym c.stop_of.ensures)
    (stops_of w (g.L.Links.told c.args.links.now) (g.L.Links.told c.serve.new.links) (LinksPlace.round_faults (g.L.Links.place c.args.links.now))
    (LinksPlace.round_faults (g.L.Links.place c.serve.new.links)) (files_value g.F.Files c.args.files.now) (files_value g.F.Files c.serve.new.files)
    c.args.policy.now c.as_slice-2.result.now c.requires.has c.requires.apart
    (found_places c.args.policy.now c.args.service.now.places.items c.as_slice.result.now c.as_slice.ensures.value
    c.find_sites.new.places.items c.as_slice-2.result.now c.as_slice-2.ensures.value c.in_ok-find_sites.ensures.found)
    (ap shares_site c.as_slice-2.ensures.value ∙ c.in_ok-find_sites.ensures.sites)
    c.in-Err.fault _ refl c.in-Err.ensures.serves c.in-Err.ensures.breaks c.in-Err.ensures.write c.in-Err.ensures.loops c.in-Err.ensures.memory)
