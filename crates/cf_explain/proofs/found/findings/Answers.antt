use Rattle.std.proofs.Common.{◌≡◌, [], All, IfOk, refl, sym, subst}
use Rattle.std.proofs.lemmas.List.Elements.{All-nil, All-push}
use Rattle.cf_explain.specs.Rules.{Holds, IsSound}
use Rattle.cf_explain.proofs.Codes.{same_rule}
use Rattle.cf_explain.proofs.found.findings.Goals as goal

pub returns-in_ok-vec-in-Some-clause-so : goal.returns-in_ok-vec-in-Some-clause-so
returns-in_ok-vec-in-Some-clause-so c = λ rule here.
    let same = same_rule c.args.asset.now.rules c.as_slice.result.now c.args.number rule c.index-as_slice-number.result c.as_slice.ensures c.index-as_slice-number.is here in
    subst (λ xs. All (Holds c.args.asset.now c.args.number rule) xs) (sym c.in_ok-vec-in-Some.ensures.items)
    (All-push (Holds c.args.asset.now c.args.number rule) [] c.in-Some.what (All-nil (Holds c.args.asset.now c.args.number rule))
    (subst (λ q. Holds c.args.asset.now c.args.number q c.in-Some.what) same (c.in-Some.ensures c.args.asset.now c.args.number refl)))

pub returns-in-None-clause-so : goal.returns-in-None-clause-so
returns-in-None-clause-so c = λ rule here.
    let same = same_rule c.args.asset.now.rules c.as_slice.result.now c.args.number rule c.index-as_slice-number.result c.as_slice.ensures c.index-as_slice-number.is here in
    subst (λ q. IfOk c.partial_findings.result (λ found. All (Holds c.args.asset.now c.args.number q) found.items)) same c.partial_findings.ensures.so

pub returns-in-None-clause-nothing : goal.returns-in-None-clause-nothing
returns-in-None-clause-nothing c = λ rule here.
    let same = same_rule c.args.asset.now.rules c.as_slice.result.now c.args.number rule c.index-as_slice-number.result c.as_slice.ensures c.index-as_slice-number.is here in
    subst (λ q. IfOk c.partial_findings.result (λ found. found.items ≡ [] → IsSound c.args.asset.now c.args.number q)) same c.partial_findings.ensures.nothing
