use Rattle.std.proofs.Common.{List, [], ◌∷◌, ◌++◌, ap, subst, sym, ◌∙◌}
use Rattle.std.proofs.lemmas.List.{append-nil}
use Rattle.cf_learn.specs.Reading.{HaveSame}
use Rattle.cf_learn.specs.declared.seen.Seen.{Seen}
use Rattle.cf_learn.proofs.Same.{same_new, same_there, same_then}
use Rattle.cf_learn.proofs.gathering.Gathering.add_one.Goals as goal

pub returns-then-has : goal.returns-then-has
returns-then-has c =
    let old = c.args.self.now in
    subst (λ l. HaveSame l ((old.sorted.items ++ old.loose.items) ++ c.args.one.now ∷ []))
    (λ i. (sym c.has.ensures.sorted i).items ++ (sym c.has.ensures.loose i).items)
    (same_there old.sorted.items old.loose.items c.args.one.now (c.has.ensures.found c.if-has.true))

pub returns-else-len : goal.returns-else-len
returns-else-len c =
    let old = c.args.self.now in
    subst (λ l. HaveSame l ((old.sorted.items ++ old.loose.items) ++ c.args.one.now ∷ []))
    (λ i. (sym c.has.ensures.sorted i).items ++ ((λ j. (sym c.has.ensures.loose j).items ++ c.args.one.now ∷ []) ∙ sym c.in_ok-push.ensures.items) i)
    (same_new old.sorted.items old.loose.items c.args.one.now)

pub returns-in_ok-settle : goal.returns-in_ok-settle
returns-in_ok-settle c =
    let old = c.args.self.now in
    let one : List Seen = c.args.one.now ∷ [] in
    subst (λ l. HaveSame l ((old.sorted.items ++ old.loose.items) ++ one))
    (sym (ap (λ l. c.settle.new.self.sorted.items ++ l) c.in_ok-settle.ensures.none ∙ append-nil c.settle.new.self.sorted.items))
    (same_then c.settle.new.self.sorted.items (c.has.new.self.sorted.items ++ c.push.new.self.items) ((old.sorted.items ++ old.loose.items) ++ one)
    c.in_ok-settle.ensures.same
    (subst (λ l. HaveSame l ((old.sorted.items ++ old.loose.items) ++ one))
    (λ i. (sym c.has.ensures.sorted i).items ++ ((λ j. (sym c.has.ensures.loose j).items ++ one) ∙ sym c.in_ok-push.ensures.items) i)
    (same_new old.sorted.items old.loose.items c.args.one.now)))
