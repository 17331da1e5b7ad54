use Rattle.std.proofs.Common.{◌≡◌, ◌∙◌, ℕ, ◌+◌, ◌<◌, List, [], ◌∷◌, ◌++◌, length, map, take, get_or, ap, sym}
use Rattle.std.proofs.lemmas.List.{append-nil, take_more}
use Rattle.std.proofs.lemmas.List.Concat.{flat_map-append}
use Rattle.cf_policy.specs.declared.policy.Asset.{Asset}
use Rattle.cf_policy.specs.declared.policy.Rule.{Rule}
use Rattle.cf_policylang.specs.Migrating.{all_points}
use Rattle.cf_policylang.proofs.migrate.all_points.Goals as goal

-- one asset more
points_more : (assets : List Asset) (i : ℕ) (a : Asset) → i < length assets
    → all_points (take (i + 1) assets) ≡ all_points (take i assets) ++ map (λ r. r.points) (get_or assets i a).rules
points_more assets i a inside =
    ap all_points (take_more assets i a inside)
    ∙ (flat_map-append (λ (b : Asset). map (λ (r : Rule). r.points) b.rules) (take i assets) (get_or assets i a ∷ [])
    ∙ ap (λ ps. all_points (take i assets) ++ ps) (append-nil (map (λ (r : Rule). r.points) (get_or assets i a).rules)))

pub loop-asset-preserved : goal.loop-asset-preserved
loop-asset-preserved c =
    let assets = c.args.assets.now in
    let i = c.loop-asset.asset-index in
    c.in_ok-push_points.ensures
    ∙ (ap (λ ps. ps ++ map (λ (r : Rule). r.points) c.as_slice.result.now) c.loop-asset.invariant
    ∙ (ap (λ rs. all_points (take i assets) ++ map (λ (r : Rule). r.points) rs) (c.as_slice.ensures ∙ ap (λ (a : Asset). a.rules) c.asset-item.is)
    ∙ sym (points_more assets i c.asset-item.result c.loop-asset-test.true)))
