use Rattle.std.proofs.Common.{◌∙◌, ◌++◌, Ok, ap, subst, sym}
use Rattle.cf_policylang.specs.Sets.{entry_spans, named_in, set_spans}
use Rattle.cf_policylang.specs.Tested.{Answers, and_then}
use Rattle.cf_policylang.proofs.sets.push_points.Goals as goal

pub returns-in-Some : goal.returns-in-Some
returns-in-Some c =
    let named = c.args.named.now in
    let place = c.args.place in
    let entry =
    ap (λ t. and_then t (λ text. entry_spans named.sets place text (named_in named.edition text))) c.in_ok-text.ensures
    ∙ (ap (entry_spans named.sets place c.in_ok-text.text.now) (sym c.in-Some.ensures)
    ∙ ap (λ sets. set_spans sets place c.in-Some.name.now) (sym c.as_slice.ensures)) in
    subst (λ m. Answers {A = Unit {0}} (λ _. c.push_set.new.spans.items) (and_then m (λ own. Ok (c.args.spans.now.items ++ own))) c.push_set.result)
    (sym entry) c.push_set.ensures

pub returns-in-None : goal.returns-in-None
returns-in-None c =
    let named = c.args.named.now in
    let place = c.args.place in
    let entry =
    ap (λ t. and_then t (λ text. entry_spans named.sets place text (named_in named.edition text))) c.in_ok-text.ensures
    ∙ ap (entry_spans named.sets place c.in_ok-text.text.now) (sym c.in-None.ensures) in
    subst (λ m. Answers {A = Unit {0}} (λ _. c.push_span.new.spans.items) (and_then m (λ own. Ok (c.args.spans.now.items ++ own))) c.push_span.result)
    (sym entry) c.push_span.ensures
