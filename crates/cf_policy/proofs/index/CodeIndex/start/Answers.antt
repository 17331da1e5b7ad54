use Rattle.std.proofs.Common.{◌≡◌, ◌<◌, ◌∙◌, arith, ap, get_or, length, ltb-true, subst, sym, Some}
use Rattle.std.proofs.lemmas.Option.{get_or_from_slice_get, slice_get-get_or}
use Rattle.cf_policy.specs.Index.{IndexValue, IsStartOf}
use Rattle.cf_policy.proofs.index.CodeIndex.start.Goals as goal

pub returns-in-Some : goal.returns-in-Some
returns-in-Some c =
    let starts = c.self.inside.starts in
    let inside : c.from.result < length starts = ltb-true c.from.result (length starts) (sym c.in-Some.ensures.lookup.0) in
    let code : c.args.code < length starts = omega (arith, inside, c.from.ensures) in
    let start : c.in-Some.start.now ≡ get_or starts c.args.code 0 =
    sym (get_or_from_slice_get starts c.args.code c.in-Some.start.now 0
    (slice_get-get_or starts c.args.code c.in-Some.start.now code ∙ ap Some (ap (λ n. get_or starts n c.in-Some.start.now) (sym c.from.ensures) ∙ sym c.in-Some.ensures.lookup.1))) in
    subst (IsStartOf c.args.code c.args.self.now.pairs) (sym start)
    (subst (λ l. IsStartOf c.args.code l (get_or starts c.args.code 0)) (ap (λ (i : IndexValue). i.pairs) c.self.view_is) (c.self.invariant c.args.code code))

pub returns-in-None : goal.returns-in-None
returns-in-None c = subst (λ l. IsStartOf c.args.code l c.start_of.result) (c.as_slice.ensures.value ∙ ap (λ (i : IndexValue). i.pairs) c.self.view_is) c.start_of.ensures
