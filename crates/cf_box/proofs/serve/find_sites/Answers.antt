use Rattle.std.proofs.Common.{Err, false, map, refl, true}
use Rattle.cf_box.proofs.Serving.{found_alone, misses_place, shares_by}
use Rattle.cf_box.specs.ServiceWords.{place_word_value}
use Rattle.cf_box.proofs.serve.find_sites.Goals as goal

pub returns-in-Err-clause-misses : goal.returns-in-Err-clause-misses
returns-in-Err-clause-misses c =
    misses_place c.args.policy.now (map place_word_value c.args.words.now) (Err c.in-Err.stop) c.in-Err.ensures.lacks c.in-Err.stop refl
    c.in-Err.ensures.stops

pub returns-then-shares_site-clause-misses : goal.returns-then-shares_site-clause-misses
returns-then-shares_site-clause-misses c = (
  c.find_places.new.places.items,
  found_alone c.args.policy.now c.args.words.now c.args.places.now.items c.find_places.new.places.items c.requires.empty c.in-Ok.ensures.found,
  shares_by c.find_places.new.places.items c.as_slice.result.now true c.as_slice.ensures.value c.if-shares_site.ensures,
)

pub returns-clause-found : goal.returns-clause-found
returns-clause-found c =
    found_alone c.args.policy.now c.args.words.now c.args.places.now.items c.find_places.new.places.items c.requires.empty c.in-Ok.ensures.found

pub returns-clause-sites : goal.returns-clause-sites
returns-clause-sites c =
    shares_by c.find_places.new.places.items c.as_slice.result.now false c.as_slice.ensures.value c.if-shares_site.ensures
