use Rattle.std.proofs.Common.{◌≡◌, ◌+◌, ◌++◌, ◌∷◌, [], ◌∙◌, ℕ, List, ap, sym, arith, map, append_assoc}
use Rattle.std.specs.List.{range_with_len}
use Rattle.std.proofs.lemmas.List.FromFn.{map-range_with_len_more}
use Rattle.cf_dnpobj.specs.Reply.{refused_octet}
use Rattle.cf_dnpobj.proofs.reply.push_refused_header.Goals as goal

pub loop-place-preserved : goal.loop-place-preserved
loop-place-preserved c =
    let f = refused_octet c.args.code c.args.header.now.bytes in
    let place = c.loop-place.place in
    let start = c.args.out.now.items in
    let before : List ℕ = map f (range_with_len 0 place) in
    let same : 0 + place ≡ place = omega arith in (
      c.push.ensures.items
          ∙ ap (λ (ys : List ℕ). ys ++ c.refused_octet.result ∷ []) c.loop-place.invariant.0
          ∙ append_assoc start before (c.refused_octet.result ∷ [])
          ∙ ap (λ (o : ℕ). start ++ (before ++ o ∷ [])) c.refused_octet.ensures
          ∙ ap (λ (ys : List ℕ). start ++ ys) (sym (map-range_with_len_more f 0 place place same)),
      omega (arith, c.push.ensures.len, c.loop-place.invariant.1),
    )
