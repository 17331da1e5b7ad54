use Rattle.std.specs.Prelude.{string_bytes}
use Rattle.cf_box.proofs.ServicePlaces.{put_first}
use Rattle.cf_box.proofs.service.+push_places.Goals as goal

pub returns-in-Ok-clause-all : goal.returns-in-Ok-clause-all
returns-in-Ok-clause-all t c e =
    put_first string_bytes c.args.words.now c.in-Some.rest.now c.in-Some.word.now c.in-Some.ensures.cases.0 c.as_str.result.now c.as_str.ensures.value
    c.in-Some-place_word.place c.in-Some-place_word.ensures c.args.places.now.items c.push.new.self.items c.push_places.new.places.items
    c.in-Ok.ensures.items (c.push_places.ensures.all e)
