-- An asset in form that has its endpoint for itself is a site in form.
use Rattle.std.proofs.Common.{◌≢◌, ◌≤◌, [], arith}
use Rattle.std.specs.List.{AllPairs}
use Rattle.std.proofs.lemmas.List.Elements.{All-cons, All-nil}
use Rattle.cf_policy.specs.Site.{IsSiteWithin, alone, assets_of}
use Rattle.cf_policy.specs.Within.{IsAssetWithin, most_at_site}
use Rattle.cf_policy.specs.declared.Asset.{Asset}
use Rattle.cf_policy.specs.declared.Protocol.{Protocol}
use Rattle.cf_policy.specs.declared.Protocol.TheVariants as protocol

one_at_least : (p : Protocol) → 1 ≤ most_at_site p
one_at_least protocol.Modbus = omega arith
one_at_least protocol.Dnp3 = omega arith
one_at_least protocol.Iec104 = omega arith

apart : (asset : Asset) → AllPairs (λ a b. a.station ≢ b.station) (assets_of (alone asset))
apart asset i j d lt inside = absurd (omega (arith, lt, inside))

pub alone_within : (asset : Asset) → IsAssetWithin asset → IsSiteWithin (alone asset)
alone_within asset within = record {
  each = All-cons IsAssetWithin asset [] within (All-nil IsAssetWithin);
  endpoint = All-nil _;
  protocol = All-nil _;
  stations = apart asset;
  count = one_at_least asset.protocol;
}
