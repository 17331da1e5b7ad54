use Rattle.std.proofs.Common.{◌++◌, List, ℕ, subst}
use Rattle.std.proofs.lemmas.Result.{on_ok_weaker}
use Rattle.cf_policy.specs.declared.Protocol.TheVariants.{Dnp3}
use Rattle.cf_learn.specs.Polls.{HasFragment}
use Rattle.cf_learn.specs.Reading.{Adds, AddsSame, HaveSame}
use Rattle.cf_learn.specs.Shown.{Fragment, HasAct}
use Rattle.cf_learn.proofs.Fragments.{gathered_now, nothing_new, now_there}
use Rattle.cf_learn.proofs.Polled.{still}
use Rattle.cf_learn.proofs.reading.gather_fragment.Goals as goal

pub returns-then-has_fragment-clause-adds : goal.returns-then-has_fragment-clause-adds
returns-then-has_fragment-clause-adds c =
    let old = c.args.seen.now.sorted.items ++ c.args.seen.now.loose.items in
    nothing_new c.args.asset.now c.args.client c.args.octets.now.bytes old c.all-octets.ensures.octets
    (subst (λ (xs : List ℕ). HasFragment old c.args.client xs) c.all-octets.ensures.bytes (c.has_fragment.ensures c.if-has_fragment.true old c.requires.polls))

pub returns-clause-polls : goal.returns-clause-polls
returns-clause-polls c =
    let old = c.args.seen.now.sorted.items ++ c.args.seen.now.loose.items in
    let new = c.add.new.self.sorted.items ++ c.add.new.self.loose.items in
    let fresh = c.push_fragment.new.seen.items in
    let same = subst (λ l. HaveSame new (old ++ l)) c.as_slice.ensures.value c.in_ok-add.ensures in
    let adds = subst (λ l. Adds Dnp3 c.args.client (HasAct c.args.asset.now (Fragment c.all-octets.result.bytes)) l fresh) c.clear.ensures.items c.in_ok-push_fragment.ensures in
    c.put_fragment.ensures new (still old fresh new same c.args.polls.now c.requires.polls)
    (now_there c.args.asset.now c.args.client c.all-octets.result.bytes old fresh new adds same)

pub returns-clause-adds : goal.returns-clause-adds
returns-clause-adds c =
    let old = c.args.seen.now.sorted.items ++ c.args.seen.now.loose.items in
    let new = c.add.new.self.sorted.items ++ c.add.new.self.loose.items in
    let fresh = c.push_fragment.new.seen.items in
    let same = subst (λ l. HaveSame new (old ++ l)) c.as_slice.ensures.value c.in_ok-add.ensures in
    let adds = subst (λ l. Adds Dnp3 c.args.client (HasAct c.args.asset.now (Fragment c.all-octets.result.bytes)) l fresh) c.clear.ensures.items c.in_ok-push_fragment.ensures in
    on_ok_weaker c.put_fragment.result
    (λ put. subst (λ (xs : List ℕ). AddsSame Dnp3 c.args.client (HasAct c.args.asset.now (Fragment xs)) old new) c.all-octets.ensures.bytes
    (gathered_now c.args.asset.now c.args.client c.all-octets.result.bytes old fresh new adds same))
    (returns-clause-polls c)
