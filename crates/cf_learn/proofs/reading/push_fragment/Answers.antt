use Rattle.std.proofs.Common.{List, ℕ, refl, rules, subst, sym}
use Rattle.std.specs.Prelude.{OnOk}
use Rattle.cf_dnpobj.specs.Acts.{acts}
use Rattle.cf_dnpobj.specs.Fragment.{fragment_value}
use Rattle.cf_policy.specs.declared.Protocol.TheVariants.{Dnp3}
use Rattle.cf_view.specs.Octets.{IsOctets}
use Rattle.cf_learn.specs.Reading.{Adds}
use Rattle.cf_learn.specs.Shown.{Fragment, HasAct}
use Rattle.std.proofs.lemmas.Result.{on_ok_weaker}
use Rattle.cf_learn.proofs.Adding.{fragment_added, no_fragment}
use Rattle.cf_learn.proofs.reading.push_fragment.Goals as goal

pub returns-else-fragment-eq-CONFIRM : goal.returns-else-fragment-eq-CONFIRM
returns-else-fragment-eq-CONFIRM c =
    subst (λ (xs : List ℕ). OnOk c.push_acts.result (Adds Dnp3 c.args.client (HasAct c.args.asset.now (Fragment xs)) c.args.seen.now.items c.push_acts.new.seen.items)) c.all.ensures.bytes
    (on_ok_weaker c.push_acts.result
    (λ is. fragment_added c.args.asset.now c.args.client c.args.seen.now.items c.push_acts.new.seen.items c.all.result.bytes (fragment_value c.in-Ok.fragment)
    (subst IsOctets (sym c.all.ensures.bytes) c.all.ensures.octets) (sym c.in-Ok.ensures.answer) c.if-fragment-eq-CONFIRM.false is)
    (c.push_acts.ensures (acts (fragment_value c.in-Ok.fragment)) (sym c.act_count.ensures) (λ i act inside gives. search rules)))

pub returns-in-Err : goal.returns-in-Err
returns-in-Err c =
    subst (λ (xs : List ℕ). Adds Dnp3 c.args.client (HasAct c.args.asset.now (Fragment xs)) c.args.seen.now.items c.args.seen.now.items) c.all.ensures.bytes
    (no_fragment c.args.asset.now c.args.client c.args.seen.now.items c.args.seen.now.items c.all.result.bytes c.in-Err.field-0 (sym c.in-Err.ensures.answer) refl)
