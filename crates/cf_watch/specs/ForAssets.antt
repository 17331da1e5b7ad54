-- Steps of the proof: each flow of a capture is to an asset of the policy: `AreForAssets`.
use Rattle.std.specs.Prelude.{List}
use Rattle.std.specs.List.{AllByRecursion}
use Rattle.cf_records.specs.Capture.{Record}
use Rattle.cf_policy.specs.declared.Asset.{Asset}
use Rattle.cf_watch.specs.FlowValue.{FlowValue, IsForAsset}
use Rattle.cf_watch.specs.Flow.{AreFlowsOf}
use Rattle.cf_watch.specs.Watched.{watched}

abbrev pub AreForAssets : Type 0
AreForAssets =
    (assets : List Asset) (newest : List Record) (flows : List FlowValue) → AreFlowsOf (watched assets newest) flows →
    AllByRecursion (IsForAsset assets) flows
