use Rattle.std.proofs.Common.{List, None, Some, ap, get_or, is_some, rules, ◌∙◌, ◌≡◌}
use Rattle.std.proofs.lemmas.Option.{get_or_from_slice_get}
use Rattle.std.specs.List.{position}
use Rattle.cf_policy.proofs.FirstPlace.{first_at}
use Rattle.cf_serve.specs.Keeping.{takes_entry}
use Rattle.cf_serve.specs.Lending.{KeptValue, rings_in}
use Rattle.cf_serve.proofs.Keyed.{kept_nowhere, kept_there, may_here, may_new, may_then, none_dropped}
use Rattle.cf_serve.proofs.kept.Keeping.may_lend.Goals as goal

pub returns-in-Some-clause-may : goal.returns-in-Some-clause-may
returns-in-Some-clause-may c =
    let now = c.args.self.now in
    let place : position (takes_entry c.args.place c.args.address) now ≡ Some c.in-Some.index = search rules in
    let first = first_at (takes_entry c.args.place c.args.address) now c.in-Some.index place in
    let value : c.index.result.now ≡ first.0 = c.index.ensures ∙ ap (λ (ks : List KeptValue). get_or ks c.in-Some.index c.index.result.now) c.self.view_is ∙ get_or_from_slice_get now c.in-Some.index first.0 c.index.result.now first.1.here in
    (may_here now c.args.place c.args.address first.0.kept c.is_here.result (kept_there now c.in-Some.index first.0 c.args.place c.args.address place first.1.here)
    (c.is_here.ensures ∙ ap (λ (k : KeptValue). is_some (rings_in (Some k.kept))) value)).0

pub returns-in-Some-clause-not : goal.returns-in-Some-clause-not
returns-in-Some-clause-not c =
    let now = c.args.self.now in
    let place : position (takes_entry c.args.place c.args.address) now ≡ Some c.in-Some.index = search rules in
    let first = first_at (takes_entry c.args.place c.args.address) now c.in-Some.index place in
    let value : c.index.result.now ≡ first.0 = c.index.ensures ∙ ap (λ (ks : List KeptValue). get_or ks c.in-Some.index c.index.result.now) c.self.view_is ∙ get_or_from_slice_get now c.in-Some.index first.0 c.index.result.now first.1.here in
    (may_here now c.args.place c.args.address first.0.kept c.is_here.result (kept_there now c.in-Some.index first.0 c.args.place c.args.address place first.1.here)
    (c.is_here.ensures ∙ ap (λ (k : KeptValue). is_some (rings_in (Some k.kept))) value)).1

pub returns-in-None-clause-own : goal.returns-in-None-clause-own
returns-in-None-clause-own c =
    let none : position (takes_entry c.args.place c.args.address) c.args.self.now ≡ None = search rules in
    none_dropped c.args.moment c.args.place c.args.address c.args.self.now c.has_room.new.self c.has_room.ensures.drops
    (kept_nowhere c.args.self.now c.args.place c.args.address none)

pub returns-in-None-clause-may : goal.returns-in-None-clause-may
returns-in-None-clause-may c =
    let none : position (takes_entry c.args.place c.args.address) c.args.self.now ≡ None = search rules in
    let nowhere = kept_nowhere c.args.self.now c.args.place c.args.address none in
    let left = none_dropped c.args.moment c.args.place c.args.address c.args.self.now c.has_room.new.self c.has_room.ensures.drops nowhere ∙ nowhere in
    (may_new c.has_room.new.self c.args.place c.args.address c.has_room.result left c.has_room.ensures.room c.has_room.ensures.full).0

pub returns-in-None-clause-not : goal.returns-in-None-clause-not
returns-in-None-clause-not c =
    let none : position (takes_entry c.args.place c.args.address) c.args.self.now ≡ None = search rules in
    let nowhere = kept_nowhere c.args.self.now c.args.place c.args.address none in
    let left = none_dropped c.args.moment c.args.place c.args.address c.args.self.now c.has_room.new.self c.has_room.ensures.drops nowhere ∙ nowhere in
    (may_new c.has_room.new.self c.args.place c.args.address c.has_room.result left c.has_room.ensures.room c.has_room.ensures.full).1

pub returns-in-None-clause-same : goal.returns-in-None-clause-same
returns-in-None-clause-same c = λ may.
    let none : position (takes_entry c.args.place c.args.address) c.args.self.now ≡ None = search rules in
    c.has_room.ensures.same (may_then c.args.self.now c.args.place c.args.address (kept_nowhere c.args.self.now c.args.place c.args.address none) may)
