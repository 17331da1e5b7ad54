use Rattle.std.proofs.Common.{◌≡◌, ◌<◌, ℕ, map, slice_get, Some}
use Rattle.cf_learn.specs.Shown.{site_place}
use Rattle.cf_policy.specs.declared.Asset.{Asset}
use Rattle.cf_watch.specs.FlowValue.{flow_value}
use Rattle.cf_draft.specs.Draft.{IsDraftedAsset}
use Rattle.cf_draft.proofs.drafting.are_drafted.Given as goal

-- the assets before the place are drafted
abbrev pub invariant-loop-place : goal.invariant-loop-place
invariant-loop-place l =
    (k : ℕ) → k < l.place → (asset own : Asset) → slice_get l.assets k ≡ Some asset → slice_get l.drafted k ≡ Some own → IsDraftedAsset asset (site_place l.assets asset) (map flow_value l.flows) l.widened own
