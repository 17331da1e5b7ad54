use Rattle.std.proofs.Common.{arith, inl, inr, refl, []}
use Rattle.cf_lane.specs.Handled.{debt}
use Rattle.cf_relay.proofs.Owing.{fed_room}
use Rattle.cf_relay.proofs.Taking.{end_answers, fed_little, got_answers, idle_link, idle_write, idles_anew, idles_stay, is_lost, may_end, no_link, no_write, takes_as, takes_idle}
use Rattle.cf_relay.proofs.Scenes.{writes_none}
use Rattle.cf_relay.proofs.Serving.{whole_any}
use Rattle.cf_relay.proofs.take.take_from.Goals as goal

pub feed-requires-clause-client_room : goal.feed-requires-clause-client_room
feed-requires-clause-client_room g c =
    (fed_room c.args.directions c.args.site.now c.args.side c.args.to_client.now c.args.to_controller.now (debt c.args.lane.now) c.in-Got.n c.args.heard.now.rest.items c.take.new.buf c.requires.within
    (c.may_take.ensures.0 c.if-not-may_take.false) c.requires.debt c.requires.little c.in-Got.ensures.entry.1 (omega (arith, c.requires.buffer)) c.requires.client_limit c.requires.controller_limit).0

pub feed-requires-clause-controller_room : goal.feed-requires-clause-controller_room
feed-requires-clause-controller_room g c =
    (fed_room c.args.directions c.args.site.now c.args.side c.args.to_client.now c.args.to_controller.now (debt c.args.lane.now) c.in-Got.n c.args.heard.now.rest.items c.take.new.buf c.requires.within
    (c.may_take.ensures.0 c.if-not-may_take.false) c.requires.debt c.requires.little c.in-Got.ensures.entry.1 (omega (arith, c.requires.buffer)) c.requires.client_limit c.requires.controller_limit).1

pub end-requires-clause-limit : goal.end-requires-clause-limit
end-requires-clause-limit g c = may_end c.args.side _ _ c.requires.client_limit c.requires.controller_limit

pub returns-in-Idle-clause-takes : goal.returns-in-Idle-clause-takes
returns-in-Idle-clause-takes g c =
    takes_idle _ _ _ c.args.most c.args.side _ _ _ _ _ _ _ (g.D.Desk.value c.args.desk.now) c.count_idle.result (c.may_take.ensures.0 c.if-not-may_take.false) c.requires.little c.requires.of_site c.requires.debt
    c.count_idle.ensures.counted c.in-Idle.ensures.entry c.count_idle.ensures.goes c.count_idle.ensures.stops c.count_idle.ensures.error

pub returns-in-Err-clause-takes : goal.returns-in-Err-clause-takes
returns-in-Err-clause-takes g c =
    let e = c.in-Got.ensures.entry in (
      c.may_take.ensures.0 c.if-not-may_take.false,
      (_, got_answers _ c.args.side _ _ _ _ _ c.in-Got.n c.take.new.buf e.0 e.1 (omega (arith, c.requires.buffer)) e.2 c.feed.ensures.letters, inl (_, refl, c.in-Err.ensures.misses)),
    )

pub returns-in-Some-clause-takes : goal.returns-in-Some-clause-takes
returns-in-Some-clause-takes g c =
    let e = c.in-Got.ensures.entry in (
      c.may_take.ensures.0 c.if-not-may_take.false,
      takes_as _ _ _ _ _ _ _ _ c.in-Some.is (got_answers _ c.args.side _ _ _ _ _ c.in-Got.n c.take.new.buf e.0 e.1 (omega (arith, c.requires.buffer)) e.2 c.feed.ensures.letters) c.in-Ok.ensures.takes,
    )

pub returns-in-None-clause-takes : goal.returns-in-None-clause-takes
returns-in-None-clause-takes g c =
    let e = c.in-Got.ensures.entry in
    inr (
      c.may_take.ensures.0 c.if-not-may_take.false,
      omega (arith, c.requires.few),
      takes_as _ _ _ _ _ _ _ _ c.in-None.is (got_answers _ c.args.side _ _ _ _ _ c.in-Got.n c.take.new.buf e.0 e.1 (omega (arith, c.requires.buffer)) e.2 c.feed.ensures.letters) c.in-Ok.ensures.takes,
    )

pub returns-in-Err-end-clause-takes : goal.returns-in-Err-end-clause-takes
returns-in-Err-end-clause-takes g c = (
  c.may_take.ensures.0 c.if-not-may_take.false,
  (_, end_answers _ c.args.side _ _ _ _ _ c.in-End.ensures.entry c.end.ensures.letters, inr (refl, c.in-Err-end.ensures.misses)),
)

pub returns-in-Ok-end-clause-takes : goal.returns-in-Ok-end-clause-takes
returns-in-Ok-end-clause-takes g c =
    inr (
      c.may_take.ensures.0 c.if-not-may_take.false,
      omega (arith, c.requires.few),
      record { answer = _; answers = end_answers _ c.args.side _ _ _ _ _ c.in-End.ensures.entry c.end.ensures.letters; hears = c.in-Ok-end.ensures.takes },
    )

pub feed-requires-clause-open : goal.feed-requires-clause-open
feed-requires-clause-open g c = (c.may_take.ensures.0 c.if-not-may_take.false).open_still

pub feed-requires-clause-counts : goal.feed-requires-clause-counts
feed-requires-clause-counts g c = fed_little _ 40 _ c.args.heard.now.rest.items c.take.new.buf c.requires.counts (omega arith) c.requires.little c.in-Got.ensures.entry.1 (omega (arith, c.requires.buffer))

pub feed-requires-clause-letters : goal.feed-requires-clause-letters
feed-requires-clause-letters g c = fed_little _ 30 _ [] c.take.new.buf c.requires.letters (omega arith) (omega arith) c.in-Got.ensures.entry.1 (omega (arith, c.requires.buffer))

pub end-requires-clause-open : goal.end-requires-clause-open
end-requires-clause-open g c = (c.may_take.ensures.0 c.if-not-may_take.false).open_still

pub end-requires-clause-letters : goal.end-requires-clause-letters
end-requires-clause-letters g c = omega (arith, c.requires.letters)

pub returns-in-Failed-clause-place : goal.returns-in-Failed-clause-place
returns-in-Failed-clause-place g c = c.take.ensures.place

pub returns-in-Failed-clause-log : goal.returns-in-Failed-clause-log
returns-in-Failed-clause-log g c = writes_none _

pub returns-in-Failed-clause-whole : goal.returns-in-Failed-clause-whole
returns-in-Failed-clause-whole g c = c.requires.whole

pub returns-in-Failed-clause-write : goal.returns-in-Failed-clause-write
returns-in-Failed-clause-write g c = no_write _ _ _ (omega arith) refl

pub returns-in-Failed-clause-link : goal.returns-in-Failed-clause-link
returns-in-Failed-clause-link g c = record { later = c.take.ensures.cause.later; rose = λ is. c.in-Failed.ensures.cause.rose refl; still = λ never. absurd (never refl) }

pub returns-in-Failed-clause-idles : goal.returns-in-Failed-clause-idles
returns-in-Failed-clause-idles g c = λ start r. idles_stay _ _ _ c.take.ensures.idle.later start r

pub returns-in-Idle-clause-place : goal.returns-in-Idle-clause-place
returns-in-Idle-clause-place g c = c.take.ensures.place

pub returns-in-Idle-clause-log : goal.returns-in-Idle-clause-log
returns-in-Idle-clause-log g c = writes_none _

pub returns-in-Idle-clause-whole : goal.returns-in-Idle-clause-whole
returns-in-Idle-clause-whole g c = whole_any _ _ c.requires.whole

pub returns-in-Idle-clause-write : goal.returns-in-Idle-clause-write
returns-in-Idle-clause-write g c = idle_write _ _ c.count_idle.ensures.error

pub returns-in-Idle-clause-link : goal.returns-in-Idle-clause-link
returns-in-Idle-clause-link g c = idle_link _ _ _ c.count_idle.result c.count_idle.ensures.error c.in-Idle.ensures.cause refl

pub returns-in-Err-clause-place : goal.returns-in-Err-clause-place
returns-in-Err-clause-place g c = c.take.ensures.place

pub returns-in-Err-clause-log : goal.returns-in-Err-clause-log
returns-in-Err-clause-log g c = c.feed.ensures.log

pub returns-in-Err-clause-whole : goal.returns-in-Err-clause-whole
returns-in-Err-clause-whole g c = tt

pub returns-in-Err-clause-write : goal.returns-in-Err-clause-write
returns-in-Err-clause-write g c = is_lost _ _ _ _ c.in-Err.ensures.cause refl

pub returns-in-Err-clause-link : goal.returns-in-Err-clause-link
returns-in-Err-clause-link g c = no_link _ _ _ _ c.in-Got.ensures.cause refl refl

pub returns-in-Err-clause-idles : goal.returns-in-Err-clause-idles
returns-in-Err-clause-idles g c = λ start r. idles_anew _ _ _ c.take.ensures.idle.later start r

pub returns-in-Some-clause-place : goal.returns-in-Some-clause-place
returns-in-Some-clause-place g c = c.take.ensures.place

pub returns-in-Some-clause-log : goal.returns-in-Some-clause-log
returns-in-Some-clause-log g c = c.feed.ensures.log

pub returns-in-Some-clause-whole : goal.returns-in-Some-clause-whole
returns-in-Some-clause-whole g c = c.in-Ok.ensures.whole

pub returns-in-Some-clause-write : goal.returns-in-Some-clause-write
returns-in-Some-clause-write g c = no_write _ _ _ c.feed.ensures.cause.later refl

pub returns-in-Some-clause-link : goal.returns-in-Some-clause-link
returns-in-Some-clause-link g c = no_link _ _ _ _ c.in-Got.ensures.cause refl refl

pub returns-in-Some-clause-idles : goal.returns-in-Some-clause-idles
returns-in-Some-clause-idles g c = λ start r. idles_anew _ _ _ c.take.ensures.idle.later start r

pub returns-in-None-clause-place : goal.returns-in-None-clause-place
returns-in-None-clause-place g c = c.take.ensures.place

pub returns-in-None-clause-log : goal.returns-in-None-clause-log
returns-in-None-clause-log g c = c.feed.ensures.log

pub returns-in-None-clause-whole : goal.returns-in-None-clause-whole
returns-in-None-clause-whole g c = c.in-Ok.ensures.whole

pub returns-in-None-clause-write : goal.returns-in-None-clause-write
returns-in-None-clause-write g c = no_write _ _ _ c.feed.ensures.cause.later refl

pub returns-in-None-clause-link : goal.returns-in-None-clause-link
returns-in-None-clause-link g c = no_link _ _ _ _ c.in-Got.ensures.cause refl refl

pub returns-in-None-clause-idles : goal.returns-in-None-clause-idles
returns-in-None-clause-idles g c = λ start r. idles_anew _ _ _ c.take.ensures.idle.later start r

pub returns-in-Err-end-clause-place : goal.returns-in-Err-end-clause-place
returns-in-Err-end-clause-place g c = c.take.ensures.place

pub returns-in-Err-end-clause-log : goal.returns-in-Err-end-clause-log
returns-in-Err-end-clause-log g c = c.end.ensures.log

pub returns-in-Err-end-clause-whole : goal.returns-in-Err-end-clause-whole
returns-in-Err-end-clause-whole g c = tt

pub returns-in-Err-end-clause-write : goal.returns-in-Err-end-clause-write
returns-in-Err-end-clause-write g c = is_lost _ _ _ _ c.in-Err-end.ensures.cause refl

pub returns-in-Err-end-clause-link : goal.returns-in-Err-end-clause-link
returns-in-Err-end-clause-link g c = no_link _ _ _ _ c.in-End.ensures.cause refl refl

pub returns-in-Err-end-clause-idles : goal.returns-in-Err-end-clause-idles
returns-in-Err-end-clause-idles g c = λ start r. idles_anew _ _ _ c.take.ensures.idle.later start r

pub returns-in-Ok-end-clause-place : goal.returns-in-Ok-end-clause-place
returns-in-Ok-end-clause-place g c = c.take.ensures.place

pub returns-in-Ok-end-clause-log : goal.returns-in-Ok-end-clause-log
returns-in-Ok-end-clause-log g c = c.end.ensures.log

pub returns-in-Ok-end-clause-whole : goal.returns-in-Ok-end-clause-whole
returns-in-Ok-end-clause-whole g c = c.in-Ok-end.ensures.whole

pub returns-in-Ok-end-clause-write : goal.returns-in-Ok-end-clause-write
returns-in-Ok-end-clause-write g c = no_write _ _ _ c.end.ensures.cause.later refl

pub returns-in-Ok-end-clause-link : goal.returns-in-Ok-end-clause-link
returns-in-Ok-end-clause-link g c = no_link _ _ _ _ c.in-End.ensures.cause refl refl

pub returns-in-Ok-end-clause-idles : goal.returns-in-Ok-end-clause-idles
returns-in-Ok-end-clause-idles g c = λ start r. idles_anew _ _ _ c.take.ensures.idle.later start r
