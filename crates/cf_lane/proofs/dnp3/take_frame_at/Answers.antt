use Rattle.std.proofs.Common.{get_or, refl}
use Rattle.std.proofs.lemmas.Option.{slice_get-get_or}
use Rattle.cf_lane.proofs.Dnp3Growth.{grows_at, room_at}
use Rattle.cf_lane.proofs.Dnp3Steps.{misses_at, still_all}
use Rattle.cf_lane.proofs.Failing.{on_err}
use Rattle.cf_lane.proofs.dnp3.take_frame_at.Goals as goal

pub take_frame-requires-clause-are : goal.take_frame-requires-clause-are
take_frame-requires-clause-are g c =
    c.requires.are.each c.args.place (get_or c.args.all.now c.args.place c.index-all-place.result) (slice_get-get_or c.args.all.now c.args.place c.index-all-place.result c.requires.inside)

pub returns-clause-takes : goal.returns-clause-takes
returns-clause-takes g c = record {
  was = get_or c.args.all.now c.args.place c.index-all-place.result;
  now = c.take_frame.new.self;
  at = slice_get-get_or c.args.all.now c.args.place c.index-all-place.result c.requires.inside;
  set_is = refl;
  takes = c.in_ok-fate.ensures.takes;
}

pub returns-in_err-fate-clause-misses : goal.returns-in_err-fate-clause-misses
returns-in_err-fate-clause-misses g c =
    on_err _ _ (misses_at _ _ _ _ _ _ c.args.place c.args.all.now _ _ _ (get_or c.args.all.now c.args.place c.index-all-place.result)
    (slice_get-get_or c.args.all.now c.args.place c.index-all-place.result c.requires.inside) c.in_err-fate.ensures.misses)

pub returns-clause-are : goal.returns-clause-are
returns-clause-are g c = still_all c.args.place c.args.all.now c.take_frame.new.self c.requires.inside c.requires.are c.in_ok-fate.ensures.are

pub take_frame-requires-clause-client_room : goal.take_frame-requires-clause-client_room
take_frame-requires-clause-client_room g c = room_at c.args.all.now c.args.place c.index-all-place.result c.requires.inside _ _ c.requires.client_room

pub take_frame-requires-clause-controller_room : goal.take_frame-requires-clause-controller_room
take_frame-requires-clause-controller_room g c = room_at c.args.all.now c.args.place c.index-all-place.result c.requires.inside _ _ c.requires.controller_room

pub returns-clause-client_grows : goal.returns-clause-client_grows
returns-clause-client_grows g c = grows_at c.args.all.now c.args.place c.index-all-place.result c.requires.inside _ _ _ _ c.in_ok-fate.ensures.client_grows

pub returns-clause-controller_grows : goal.returns-clause-controller_grows
returns-clause-controller_grows g c = grows_at c.args.all.now c.args.place c.index-all-place.result c.requires.inside _ _ _ _ c.in_ok-fate.ensures.controller_grows

pub returns-clause-desk : goal.returns-clause-desk
returns-clause-desk g c = c.in_ok-fate.ensures.desk
