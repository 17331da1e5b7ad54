use Rattle.std.proofs.Common.{◌≡◌, ◌∙◌, ℕ, ◌<◌, List, IfSome, Some, ap, get_or, length, map, slice_get, subst, sym, take, rules}
use Rattle.std.specs.Prelude.{IfOk}
use Rattle.std.specs.List.{filter}
use Rattle.std.proofs.lemmas.Option.{IfSome_then, get_or_from_slice_get, slice_get-get_or}
use Rattle.std.proofs.lemmas.Result.{IfOk-weaker}
use Rattle.cf_policy.specs.declared.policy.Rule.{Rule}
use Rattle.cf_covered.specs.Common.{have_common}
use Rattle.cf_covered.specs.Covered.{IsCover}
use Rattle.cf_covered.proofs.Commands.{cover_has, decides_none}
use Rattle.cf_covered.proofs.answer.cover_of.Goals as goal

read_at : (rules lent : List Rule) (number : ℕ) (rule : Rule) → lent ≡ rules → number < length rules → rule ≡ get_or lent number rule
    → slice_get rules number ≡ Some rule
read_at rules lent number rule same inside is =
    slice_get-get_or rules number rule inside ∙ ap Some (sym (is ∙ ap (λ rs. get_or rs number rule) same))

pub cover_among-requires : goal.cover_among-requires
cover_among-requires c =
    let own = c.index-rules-number.result in
    let here = read_at c.args.asset.now.rules _ c.args.number own c.as_slice-rules.ensures c.requires.inside c.index-rules-number.is in
    let common : map (λ r. r.now) c.args.others.now ≡ filter (λ r. have_common r own) (take c.args.number c.args.asset.now.rules) =
    c.requires.common own here in
    search (rules, common)

here : (c : goal.After-cover_among) → slice_get c.args.asset.now.rules c.args.number ≡ Some c.index-rules-number.result
here c = read_at c.args.asset.now.rules _ c.args.number _ c.as_slice-rules.ensures c.requires.inside c.index-rules-number.is

covers : (c : goal.After-cover_among) → IfOk c.cover_among.result (λ found. IfSome found
    (IsCover c.args.asset.now.protocol (take c.args.number c.args.asset.now.rules) c.index-rules-number.result))
covers c = search rules

pub returns-clause-never : goal.returns-clause-never
returns-clause-never c =
    let earlier = take c.args.number c.args.asset.now.rules in
    let rule = c.index-rules-number.result in
    IfOk-weaker c.cover_among.result _ _
    (λ found covered. IfSome_then found covered (λ cover is. decides_none c.args.asset.now c.args.number rule (here c)
    (cover_has c.args.asset.now.protocol earlier rule cover is)))
    (covers c)

pub returns-clause-covers : goal.returns-clause-covers
returns-clause-covers c = λ rule there.
    let own = c.index-rules-number.result in
    let same : own ≡ rule =
    sym (get_or_from_slice_get c.args.asset.now.rules c.args.number own own (here c)) ∙ get_or_from_slice_get c.args.asset.now.rules c.args.number rule own there in
    subst (λ r. IfOk c.cover_among.result (λ found. IfSome found (IsCover c.args.asset.now.protocol (take c.args.number c.args.asset.now.rules) r)))
    same (covers c)
