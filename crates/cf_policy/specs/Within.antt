-- What a policy keeps that was read from a text: IsWithin.
use Rattle.std.specs.Prelude.{◌≡◌, ◌≢◌, ℕ, ◌^◌, ◌<◌, ◌≤◌, ℤ, pos, ◌≤ℤ◌, true, false, List, get_or, length, All, AllPairs, Option, Some, None}
use Rattle.std.specs.Prelude.{is_some, count_by, Bool}
use Rattle.cf_policy.specs.declared.policy.Action.{Action}
use Rattle.cf_policy.specs.declared.policy.Action.TheVariants.{Allow, Refuse}
use Rattle.cf_policy.specs.declared.policy.Rate.{Rate}
use Rattle.cf_policy.specs.declared.policy.Span.{Span}
use Rattle.cf_policy.specs.declared.policy.Rule.{Rule}
use Rattle.cf_policy.specs.declared.policy.Asset.{Asset}
use Rattle.cf_policy.specs.declared.policy.Policy.{Policy}
use Rattle.cf_policy.specs.declared.policy.Protocol.{Protocol}
use Rattle.cf_policy.specs.declared.policy.Protocol.TheVariants.{Modbus, Dnp3, Iec104}
use Rattle.cf_policy.specs.declared.limits.TheConstants.{HIGHEST_ADDRESS, HIGHEST_CODE, HIGHEST_COMMON_ADDRESS, HIGHEST_GROUP}
use Rattle.cf_policy.specs.declared.limits.TheConstants.{HIGHEST_LINK_ADDRESS, HIGHEST_MOST, HIGHEST_POINT, HIGHEST_UNIT, HIGHEST_VALUE}
use Rattle.cf_policy.specs.declared.limits.TheConstants.{LONGEST_NAME, LONGEST_RATE, LOWEST_VALUE, MOST_ASSETS, MOST_AT_SITE, MOST_DNP3_AT_SITE}
use Rattle.cf_policy.specs.declared.limits.TheConstants.{MOST_RATED, MOST_RULES, MOST_SPANS}
use Rattle.cf_policy.specs.AtEndpoint.{count_at}
use Rattle.cf_policy.specs.Names.{is_name, is_reserved}

-- the limits, as the code has them, for the definitions of other crates
abbrev pub most_assets : ℕ
most_assets = MOST_ASSETS

-- the rules that an asset has at most
abbrev pub most_rules : ℕ
most_rules = MOST_RULES

-- the spans that a list of a rule has at most
abbrev pub most_spans : ℕ
most_spans = MOST_SPANS

-- the greatest address of a client
abbrev pub highest_address : ℤ
highest_address = HIGHEST_ADDRESS

-- the greatest code
abbrev pub highest_code : ℤ
highest_code = HIGHEST_CODE

-- the greatest group
abbrev pub highest_group : ℤ
highest_group = HIGHEST_GROUP

-- the greatest point
abbrev pub highest_point : ℤ
highest_point = HIGHEST_POINT

-- the least value
abbrev pub lowest_value : ℤ
lowest_value = LOWEST_VALUE

-- the greatest value
abbrev pub highest_value : ℤ
highest_value = HIGHEST_VALUE

abbrev pub longest_name : ℕ
longest_name = LONGEST_NAME

-- the commands that a rate allows at most
abbrev pub highest_most : ℕ
highest_most = HIGHEST_MOST

-- the longest time of a rate, in seconds
abbrev pub longest_rate : ℕ
longest_rate = LONGEST_RATE

-- the rules of an asset that have a rate at most
abbrev pub most_rated : ℕ
most_rated = MOST_RATED

-- the stations and masters of each protocol
abbrev pub lowest_station : Protocol → ℕ
lowest_station Modbus = 0
lowest_station Dnp3 = 0
lowest_station Iec104 = 1

-- the greatest station of a protocol
abbrev pub highest_station : Protocol → ℕ
highest_station Modbus = HIGHEST_UNIT
highest_station Dnp3 = HIGHEST_LINK_ADDRESS
highest_station Iec104 = HIGHEST_COMMON_ADDRESS

-- the greatest master of a protocol: 0 but for DNP3
abbrev pub highest_master : Protocol → ℕ
highest_master Modbus = 0
highest_master Dnp3 = HIGHEST_LINK_ADDRESS
highest_master Iec104 = 0

-- the assets of a protocol that have one endpoint at most
abbrev pub most_at_site : Protocol → ℕ
most_at_site Modbus = MOST_AT_SITE
most_at_site Dnp3 = MOST_DNP3_AT_SITE
most_at_site Iec104 = MOST_AT_SITE

-- both ends are in the range, and the first is not above the second
pub record IsSpanWithin (low high : ℤ) (s : Span) : Type 0 where
  pub above : low ≤ℤ s.low
  pub ordered : s.low ≤ℤ s.high
  pub below : s.high ≤ℤ high

-- a list as a rule states it, or the empty one of a rule that does not
pub record AreSpansWithin (low high : ℤ) (spans : List Span) : Type 0 where
  pub count : length spans ≤ most_spans
  pub each : All (IsSpanWithin low high) spans

-- both numbers of a rate are in their ranges
pub record IsRateWithin (rate : Rate) : Type 0 where
  pub some : 1 ≤ rate.most
  pub most : rate.most ≤ highest_most
  pub some_time : 1 ≤ rate.seconds
  pub seconds : rate.seconds ≤ longest_rate

-- a rate is one of an allow rule
abbrev pub HasRateWithin : Action → Option Rate → Type 0
HasRateWithin action None = Unit {0}
HasRateWithin Allow (Some rate) = IsRateWithin rate
HasRateWithin Refuse (Some rate) = ⊥

-- lines about what is admitted are those of an allow rule
abbrev pub HasLogWithin : Action → Bool → Type 0
HasLogWithin action false = Unit {0}
HasLogWithin Allow true = Unit {0}
HasLogWithin Refuse true = ⊥

-- the number of rules that have a rate
abbrev pub rated_count : List Rule → ℕ
rated_count rules = count_by (λ r. is_some r.rate) rules

-- a rule has a name of its own, some codes, each list within its range, and a rate and a log only where it allows
pub record IsRuleWithin (r : Rule) : Type 0 where
  pub name : is_name r.name ≡ true
  pub own : is_reserved r.name ≡ false
  pub clients : AreSpansWithin (pos 0) highest_address r.clients
  pub codes : AreSpansWithin (pos 0) highest_code r.codes
  pub single_codes : All (λ s. s.low ≡ s.high) r.codes
  pub some_code : 1 ≤ length r.codes
  pub groups : AreSpansWithin (pos 0) highest_group r.groups
  pub points : AreSpansWithin (pos 0) highest_point r.points
  pub values : AreSpansWithin lowest_value highest_value r.values
  pub rate : HasRateWithin r.action r.rate
  pub log : HasLogWithin r.action r.log

-- the rules of an asset: not too many, each in form, with names that differ, and not too many with a rate
pub record AreRulesWithin (rules : List Rule) : Type 0 where
  pub count : length rules ≤ most_rules
  pub each : All IsRuleWithin rules
  pub names : AllPairs (λ r s. r.name ≢ s.name) rules
  pub rated : rated_count rules ≤ most_rated

-- an asset has a name, an endpoint, and a station and a master in the ranges of its protocol
pub record IsAssetWithin (a : Asset) : Type 0 where
  pub name : is_name a.name ≡ true
  pub address : a.endpoint.address < 2 ^ 32
  pub some_port : 1 ≤ a.endpoint.port
  pub port : a.endpoint.port < 2 ^ 16
  pub station_above : lowest_station a.protocol ≤ a.station
  pub station_below : a.station ≤ highest_station a.protocol
  pub master : a.master ≤ highest_master a.protocol
  pub rules : AreRulesWithin a.rules

-- two assets that have one endpoint have one protocol, and stations that differ
abbrev pub MayShare : Asset → Asset → Type 0
MayShare a b = a.endpoint ≡ b.endpoint → (a.protocol ≡ b.protocol) × (a.station ≢ b.station)

-- assets that have one endpoint stand one behind the other
abbrev pub StandTogether : List Asset → Type 0
StandTogether assets =
    (i j k : ℕ) (d : Asset) → i < j → j < k → k < length assets
    → (get_or assets i d).endpoint ≡ (get_or assets k d).endpoint → (get_or assets j d).endpoint ≡ (get_or assets k d).endpoint

-- the assets of a policy: not too many, each in form, with names that differ; those of one endpoint are a site, and not too many either
pub record AreAssetsWithin (assets : List Asset) : Type 0 where
  pub count : length assets ≤ most_assets
  pub each : All IsAssetWithin assets
  pub names : AllPairs (λ a b. a.name ≢ b.name) assets
  pub shared : AllPairs MayShare assets
  pub together : StandTogether assets
  pub few : All (λ a. count_at assets a.endpoint ≤ most_at_site a.protocol) assets

abbrev pub IsWithin : Policy → Type 0
IsWithin p = AreAssetsWithin p.assets
