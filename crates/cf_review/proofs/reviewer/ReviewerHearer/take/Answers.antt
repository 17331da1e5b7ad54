use Rattle.std.proofs.Common.{rules, ◌+◌, ◌-◌, ◌<◌, ◌∷◌, ℕ, List, Option, subst}
use Rattle.std.proofs.lemmas.Result.{on_ok_weaker}
use Rattle.cf_records.specs.Capture.{Record}
use Rattle.cf_watch.specs.Seen.{packet_by, with_frame}
use Rattle.cf_watch.specs.Trail.{Heard, IsWatchOf, TakesRecord}
use Rattle.cf_watch.specs.Watched.{Watched}
use Rattle.cf_review.proofs.Taking.{by_scope, passes, taken_at}
use Rattle.cf_review.proofs.reviewer.ReviewerHearer.take.Goals as goal

pub follow_at-requires : goal.follow_at-requires
follow_at-requires c =
    let (newest, is) = c.requires.heard in
    let one : Record = record { stamp = c.args.stamp; link = c.args.link.now; body = c.args.body.now } in
    let few : c.args.self.now.count < 134217728 = search rules in
    let heard = subst (λ (o : Option ℕ). (vs : List Watched) (hs : List Heard) → IsWatchOf c.args.scope (c.args.self.now.count + 1 - 1) c.args.self.now.watch vs hs →
    TakesRecord c.args.scope (c.args.self.now.count + 1) o c.take.new.self vs (with_frame c.args.scope c.args.assets.now (c.args.self.now.count + 1) (packet_by c.args.scope one.link one.body) vs) hs)
    c.in-Some.is c.in_ok-place.ensures.heard in
    record { taken = (one ∷ newest, taken_at c.args.scope c.args.assets.now newest c.args.self.now is one c.take.new.self c.in-Some.place few heard) }

pub returns-in-Some : goal.returns-in-Some
returns-in-Some c = on_ok_weaker c.follow_at.result (λ on newest is.
    let one : Record = record { stamp = c.args.stamp; link = c.args.link.now; body = c.args.body.now } in
    let few : c.args.self.now.count < 134217728 = search rules in
    let heard = subst (λ (o : Option ℕ). (vs : List Watched) (hs : List Heard) → IsWatchOf c.args.scope (c.args.self.now.count + 1 - 1) c.args.self.now.watch vs hs →
    TakesRecord c.args.scope (c.args.self.now.count + 1) o c.take.new.self vs (with_frame c.args.scope c.args.assets.now (c.args.self.now.count + 1) (packet_by c.args.scope one.link one.body) vs) hs)
    c.in-Some.is c.in_ok-place.ensures.heard in
    by_scope c.args.scope c.args.assets.now newest c.args.self.now is (one ∷ newest) c.follow_at.new.self
    (on (one ∷ newest) (taken_at c.args.scope c.args.assets.now newest c.args.self.now is one c.take.new.self c.in-Some.place few heard))) c.follow_at.ensures

pub returns-in-None : goal.returns-in-None
returns-in-None c newest is =
    let one : Record = record { stamp = c.args.stamp; link = c.args.link.now; body = c.args.body.now } in
    let few : c.args.self.now.count < 134217728 = search rules in
    let heard = subst (λ (o : Option ℕ). (vs : List Watched) (hs : List Heard) → IsWatchOf c.args.scope (c.args.self.now.count + 1 - 1) c.args.self.now.watch vs hs →
    TakesRecord c.args.scope (c.args.self.now.count + 1) o c.take.new.self vs (with_frame c.args.scope c.args.assets.now (c.args.self.now.count + 1) (packet_by c.args.scope one.link one.body) vs) hs)
    c.in-None.is c.in_ok-place.ensures.heard in
    by_scope c.args.scope c.args.assets.now newest c.args.self.now is (one ∷ newest) _ (passes c.args.scope c.args.assets.now newest c.args.self.now is one c.take.new.self few heard)
