use Rattle.std.proofs.Common.{List, None, Some, ap, arith, get_or, option_map, refl, rules, subst, sym, ◌∙◌, ◌≡◌}
use Rattle.std.proofs.lemmas.Option.{get_or_from_slice_get}
use Rattle.std.specs.List.{position}
use Rattle.cf_policy.proofs.FirstPlace.{first_at}
use Rattle.cf_serve.specs.Keeping.{AreSingle, held_value, takes_entry}
use Rattle.cf_serve.specs.Lending.{KeepsOthers, KeptValue, kept_at}
use Rattle.cf_serve.proofs.Keyed.{gone_without, kept_nowhere, kept_there, others_without, single_without}
use Rattle.cf_serve.proofs.kept.Keeping.take.Goals as goal

pub returns-in_err-index-clause-held : goal.returns-in_err-index-clause-held
returns-in_err-index-clause-held c =
    let none : position (takes_entry c.args.place c.args.address) c.args.self.now ≡ None = search rules in
    let answer : c.from_residual.result ≡ None = search rules in
    ap (option_map held_value) answer ∙ sym (kept_nowhere c.args.self.now c.args.place c.args.address none)

pub returns-in_err-index-clause-gone : goal.returns-in_err-index-clause-gone
returns-in_err-index-clause-gone c =
    let none : position (takes_entry c.args.place c.args.address) c.args.self.now ≡ None = search rules in
    kept_nowhere c.args.self.now c.args.place c.args.address none

pub returns-in_err-index-clause-others : goal.returns-in_err-index-clause-others
returns-in_err-index-clause-others c = λ p a differs. refl

pub invariant_of-self : goal.invariant_of-self
invariant_of-self c =
    let items = c.self.inside.kept.items in
    let place : position (takes_entry c.args.place c.args.address) c.args.self.now ≡ Some c.in_ok-index.index = search rules in
    let first = first_at (takes_entry c.args.place c.args.address) items c.in_ok-index.index (ap (position (takes_entry c.args.place c.args.address)) c.self.view_is ∙ place) in (
      subst AreSingle (sym c.remove.ensures.items) (single_without items c.in_ok-index.index first.0 first.1.here c.self.invariant.0),
      search rules,
      omega (arith, c.self.invariant.2, c.remove.ensures.capacity),
    )

pub returns-clause-held : goal.returns-clause-held
returns-clause-held c =
    let now = c.args.self.now in
    let place : position (takes_entry c.args.place c.args.address) now ≡ Some c.in_ok-index.index = search rules in
    let first = first_at (takes_entry c.args.place c.args.address) now c.in_ok-index.index place in
    let value : c.remove.result ≡ first.0 =
    c.remove.ensures.value ∙ ap (λ (ks : List KeptValue). get_or ks c.in_ok-index.index c.remove.result) c.self.view_is ∙ get_or_from_slice_get now c.in_ok-index.index first.0 c.remove.result first.1.here in
    let answer : Some (held_value c.into_held.result) ≡ Some first.0.kept = ap Some (c.into_held.ensures ∙ ap (λ (k : KeptValue). k.kept) value) in
    let there : Some first.0.kept ≡ kept_at now c.args.place c.args.address = sym (kept_there now c.in_ok-index.index first.0 c.args.place c.args.address place first.1.here) in
    answer ∙ there

pub returns-clause-gone : goal.returns-clause-gone
returns-clause-gone c =
    let items = c.self.inside.kept.items in
    let place : position (takes_entry c.args.place c.args.address) c.args.self.now ≡ Some c.in_ok-index.index = search rules in
    let first = first_at (takes_entry c.args.place c.args.address) items c.in_ok-index.index (ap (position (takes_entry c.args.place c.args.address)) c.self.view_is ∙ place) in
    subst (λ (ks : List KeptValue). kept_at ks c.args.place c.args.address ≡ None) (sym c.remove.ensures.items)
    (gone_without items c.in_ok-index.index first.0 c.args.place c.args.address first.1.here first.1.passes c.self.invariant.0)

pub returns-clause-others : goal.returns-clause-others
returns-clause-others c =
    let items = c.self.inside.kept.items in
    let place : position (takes_entry c.args.place c.args.address) c.args.self.now ≡ Some c.in_ok-index.index = search rules in
    let first = first_at (takes_entry c.args.place c.args.address) items c.in_ok-index.index (ap (position (takes_entry c.args.place c.args.address)) c.self.view_is ∙ place) in
    subst (λ (ks : List KeptValue). KeepsOthers c.args.place c.args.address ks c.remove.new.self.items) c.self.view_is
    (subst (KeepsOthers c.args.place c.args.address items) (sym c.remove.ensures.items)
    (others_without items c.in_ok-index.index first.0 c.args.place c.args.address first.1.here first.1.passes))
