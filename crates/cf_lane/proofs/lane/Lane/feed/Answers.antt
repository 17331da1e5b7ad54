use Rattle.std.proofs.Common.{[], length, refl, sym, ap, subst, arith, ◌∙◌}
use Rattle.std.specs.Prelude.{IsErr}
use Rattle.std.specs.declared.result.Result.{Result}
use Rattle.cf_view.specs.declared.base.WriteFault.{WriteFault}
use Rattle.cf_lane.specs.Handled.{letters_in}
use Rattle.cf_lane.specs.declared.lane.Step.{Step}
use Rattle.std.proofs.lemmas.List.{length-drop}
use Rattle.cf_lane.proofs.Failing.{on_err, misses_rest}
use Rattle.cf_lane.proofs.Handling.{handled_none}
use Rattle.cf_lane.proofs.Earlier.{debt_most}
use Rattle.cf_lane.proofs.Units.{free_unit, nothing_unit}
use Rattle.cf_lane.proofs.Histories.{fails_apart, fails_of_whole}
use Rattle.cf_lane.proofs.Feeding.{grows_none, writes_none, writes_both, cause_after, open_stays, room_for_rest, within, along_took, some_letters, smaller, grows_took, grows_end, little_left, no_letters, same_client, apart_stop, follows_stop}
use Rattle.cf_lane.proofs.lane.Lane.feed.Goals as goal

pub units-init : goal.units-init
units-init g c = record {
  inside = omega arith;
  along = record { units = []; js = []; starts = refl; are_js = refl; uncut = refl; handled = handled_none _ _ };
  client_grows = grows_none _ _;
  controller_grows = grows_none _ _;
  counts = omega arith;
  of_site = c.requires.of_site;
  whole = c.requires.whole;
  log = writes_none _;
}

pub step-requires-clause-open : goal.step-requires-clause-open
step-requires-clause-open g c = open_stays c.args.side _ _ _ _ _ _ _ _ c.requires.«open» c.units.invariant.client_grows c.units.invariant.controller_grows

pub step-requires-clause-client_room : goal.step-requires-clause-client_room
step-requires-clause-client_room g c = room_for_rest _ _ _ _ _ _ _ c.after.ensures.bytes c.units.invariant.inside c.requires.client_room c.units.invariant.client_grows

pub step-requires-clause-controller_room : goal.step-requires-clause-controller_room
step-requires-clause-controller_room g c = room_for_rest _ _ _ _ _ _ _ c.after.ensures.bytes c.units.invariant.inside c.requires.controller_room c.units.invariant.controller_grows

pub step-requires-clause-counts : goal.step-requires-clause-counts
step-requires-clause-counts g c =
    omega (arith, c.units.invariant.counts, c.requires.counts, c.units.invariant.inside, ap length c.after.ensures.bytes, length-drop c.units.used c.args.bytes.bytes)

pub returns-in_err-step-clause-log : goal.returns-in_err-step-clause-log
returns-in_err-step-clause-log g c = writes_both _ _ _ c.units.invariant.log c.step.ensures.desk.log

pub returns-in_err-step-clause-cause : goal.returns-in_err-step-clause-cause
returns-in_err-step-clause-cause g c =
    let failed : IsErr c.step.result = subst (λ (r : Result Step WriteFault). IsErr r) (sym c.in_err-step.was) refl in
    let cause = cause_after _ _ _ _ c.units.invariant.log.keeps.later c.step.ensures.desk.cause in
    record { later = cause.later; rose = λ e. cause.rose failed }

pub units-smaller : goal.units-smaller
units-smaller g c =
    smaller c.args.site.now c.args.moment c.args.side c.args.bytes.bytes c.after.result.bytes c.units.used c.after.ensures.bytes c.units.invariant.inside c.in_ok-step.step c.in-Took.n c.in-Took.is
    (some_letters c.args.site.now c.args.moment c.args.side c.args.bytes.bytes c.after.result.bytes c.units.used c.after.ensures.bytes c.units.invariant.inside _ _ c.in_ok-step.step c.in-Took.n c.in-Took.is c.in_ok-step.ensures.steps)
    c.in_ok-step.ensures.inside

pub units-preserved : goal.units-preserved
units-preserved g c =
    let inv = c.units.invariant in
    record {
      inside = omega (arith, within c.args.site.now c.args.moment c.args.side c.args.bytes.bytes c.after.result.bytes c.units.used c.after.ensures.bytes inv.inside c.in_ok-step.step c.in_ok-step.ensures.inside, ap letters_in c.in-Took.is);
      along = along_took c.args.site.now c.args.moment c.args.side c.args.bytes.bytes c.after.result.bytes c.units.used c.after.ensures.bytes inv.inside _ _ _ c.in_ok-step.step c.in-Took.n c.in-Took.is inv.along c.in_ok-step.ensures.steps;
      client_grows = grows_took c.args.site.now c.args.moment c.args.side c.args.bytes.bytes c.after.result.bytes c.units.used c.after.ensures.bytes inv.inside _ _ _ _ _ _ c.in_ok-step.step c.in-Took.n c.in-Took.is inv.client_grows c.in_ok-step.ensures.client_grows;
      controller_grows = grows_took c.args.site.now c.args.moment c.args.side c.args.bytes.bytes c.after.result.bytes c.units.used c.after.ensures.bytes inv.inside _ _ _ _ _ _ c.in_ok-step.step c.in-Took.n c.in-Took.is inv.controller_grows c.in_ok-step.ensures.controller_grows;
      counts = omega (arith, inv.counts, c.in_ok-step.ensures.counts, ap letters_in c.in-Took.is);
      of_site = c.in_ok-step.ensures.of_site;
      whole = c.in_ok-step.ensures.desk.whole refl;
      log = writes_both _ _ _ inv.log c.step.ensures.desk.log;
    }

pub returns-in-More-clause-history : goal.returns-in-More-clause-history
returns-in-More-clause-history g c =
    rw c.cut_in.ensures (follows_stop c.args.site.now c.args.moment c.args.side c.args.bytes.bytes c.after.result.bytes c.units.used _ _ _ c.units.invariant.along c.after.ensures.bytes
    c.in_ok-step.step c.in_ok-step.ensures.steps c.after.ensures.octets c.in-More.is)

pub returns-in-More-clause-apart : goal.returns-in-More-clause-apart
returns-in-More-clause-apart g c =
    rw c.cut_in.ensures (apart_stop c.args.site.now c.args.moment c.args.side c.args.bytes.bytes c.after.result.bytes c.units.used _ _ _ c.units.invariant.along c.after.ensures.bytes
    c.in_ok-step.step c.in_ok-step.ensures.steps c.after.ensures.octets c.in-More.is)

pub returns-in-More-clause-client_grows : goal.returns-in-More-clause-client_grows
returns-in-More-clause-client_grows g c =
    grows_end c.args.site.now c.args.moment c.args.side c.args.bytes.bytes c.after.result.bytes c.units.used c.after.ensures.bytes c.units.invariant.inside _ _ _ _ _ _ c.in_ok-step.step c.in-More.is
    c.units.invariant.client_grows c.in_ok-step.ensures.client_grows

pub returns-in-More-clause-controller_grows : goal.returns-in-More-clause-controller_grows
returns-in-More-clause-controller_grows g c =
    grows_end c.args.site.now c.args.moment c.args.side c.args.bytes.bytes c.after.result.bytes c.units.used c.after.ensures.bytes c.units.invariant.inside _ _ _ _ _ _ c.in_ok-step.step c.in-More.is
    c.units.invariant.controller_grows c.in_ok-step.ensures.controller_grows

pub returns-in-More-clause-counts : goal.returns-in-More-clause-counts
returns-in-More-clause-counts g c = omega (arith, c.units.invariant.counts, c.in_ok-step.ensures.counts, no_letters _ c.in-More.is)

pub returns-in-More-clause-log : goal.returns-in-More-clause-log
returns-in-More-clause-log g c = writes_both _ _ _ c.units.invariant.log c.step.ensures.desk.log

pub returns-in-More-clause-whole : goal.returns-in-More-clause-whole
returns-in-More-clause-whole g c = c.in_ok-step.ensures.desk.whole refl

pub returns-in-More-clause-cause : goal.returns-in-More-clause-cause
returns-in-More-clause-cause g c = record { later = omega (arith, c.units.invariant.log.keeps.later, c.step.ensures.desk.log.keeps.later); rose = λ e. cc e }

pub returns-in-More-clause-left : goal.returns-in-More-clause-left
returns-in-More-clause-left g c = λ e.
    little_left c.args.site.now c.args.moment c.args.side c.args.bytes.bytes c.after.result.bytes c.units.used _ _ _ c.units.invariant.along c.after.ensures.bytes c.in_ok-step.step c.in_ok-step.ensures.steps c.in-More.is (sym c.cut_in.ensures ∙ e)

pub returns-in-More-clause-client : goal.returns-in-More-clause-client
returns-in-More-clause-client g c =
    same_client c.args.site.now c.args.moment c.args.side c.args.bytes.bytes c.after.result.bytes c.units.used _ _ _ c.units.invariant.along c.after.ensures.bytes c.in_ok-step.step c.in_ok-step.ensures.steps c.in-More.is

pub returns-in_err-step-clause-fails : goal.returns-in_err-step-clause-fails
returns-in_err-step-clause-fails g c =
    on_err _ _ (fails_of_whole _ _ _ _ _ _ _ (fails_apart c.args.site.now (free_unit c.args.site.now.first.protocol) (nothing_unit c.args.site.now.first.protocol)
    c.args.moment c.args.side c.args.bytes.bytes c.units.used _ _ _ _ c.units.invariant.along (misses_rest _ _ _ _ _ _ _ _ c.after.ensures.bytes c.in_err-step.ensures.misses)))

pub returns-in_err-step-clause-fails_apart : goal.returns-in_err-step-clause-fails_apart
returns-in_err-step-clause-fails_apart g c =
    on_err _ _ (fails_apart c.args.site.now (free_unit c.args.site.now.first.protocol) (nothing_unit c.args.site.now.first.protocol)
    c.args.moment c.args.side c.args.bytes.bytes c.units.used _ _ _ _ c.units.invariant.along (misses_rest _ _ _ _ _ _ _ _ c.after.ensures.bytes c.in_err-step.ensures.misses))

pub returns-in-More-clause-debt : goal.returns-in-More-clause-debt
returns-in-More-clause-debt g c = debt_most _ _ c.in_ok-step.ensures.of_site
