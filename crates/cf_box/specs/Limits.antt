-- The numbers of the limits that definitions cite by the names of the code's constants: HasLimits. Where no standard is named, they
-- are this project's own.
use Rattle.std.specs.Prelude.{◌≡◌, ◌-◌, ◌^◌, pos, neg_ℤ}
use Rattle.cf_lane.specs.declared.limit.TheConstants.{LETTER_LIMIT}
use Rattle.cf_pcap.specs.declared.record.TheConstants.{CAPTURED_LIMIT}
use Rattle.cf_pcapng.specs.declared.block.TheConstants.{BLOCK_LIMIT, INTERFACE_LIMIT}
use Rattle.cf_policy.specs.declared.limits.TheConstants.{HIGHEST_ADDRESS, HIGHEST_CODE, HIGHEST_COMMON_ADDRESS, HIGHEST_GROUP}
use Rattle.cf_policy.specs.declared.limits.TheConstants.{HIGHEST_LINK_ADDRESS, HIGHEST_MOST, HIGHEST_POINT, HIGHEST_UNIT, HIGHEST_VALUE}
use Rattle.cf_policy.specs.declared.limits.TheConstants.{LONGEST_NAME, LONGEST_RATE, LOWEST_VALUE, MOST_ASSETS, MOST_AT_SITE}
use Rattle.cf_policy.specs.declared.limits.TheConstants.{MOST_DNP3_AT_SITE, MOST_RATED, MOST_RULES, MOST_SPANS}
use Rattle.cf_policylang.specs.declared.documents.TheConstants.{LONGEST_TEXT}
use Rattle.cf_policylang.specs.declared.sets.TheConstants.{MOST_SETS}
use Rattle.cf_watch.specs.declared.fault.TheConstants.{CAPTURE_LIMIT}
use Rattle.cf_world.specs.declared.world.TheConstants.{RECORD_LIMIT}

-- the limits of a policy's text, in octets, and of what it says
pub record HasPolicyLimits : Type 0 where
  pub text : LONGEST_TEXT ≡ 4194304
  pub sets : MOST_SETS ≡ 64
  pub assets : MOST_ASSETS ≡ 256
  -- assets of one address and port, and those of DNP3
  pub at_site : MOST_AT_SITE ≡ 32
  pub dnp3_at_site : MOST_DNP3_AT_SITE ≡ 8
  -- rules of an asset, and those of them that have a rate
  pub rules : MOST_RULES ≡ 1024
  pub rated : MOST_RATED ≡ 16
  -- spans of a list, and octets of a name
  pub spans : MOST_SPANS ≡ 64
  pub name : LONGEST_NAME ≡ 32
  -- commands of a rate, and its seconds
  pub most : HIGHEST_MOST ≡ 64
  pub seconds : LONGEST_RATE ≡ 86400
  -- what a rule says of a client and of an act
  pub address : HIGHEST_ADDRESS ≡ pos (2 ^ 32 - 1)
  pub code : HIGHEST_CODE ≡ pos 255
  pub group : HIGHEST_GROUP ≡ pos 65535
  pub point : HIGHEST_POINT ≡ pos (2 ^ 32 - 1)
  pub lowest : LOWEST_VALUE ≡ neg_ℤ (pos (2 ^ 31))
  pub highest : HIGHEST_VALUE ≡ pos (2 ^ 32 - 1)
  -- MODBUS Application Protocol V1.1b3, section 4.1; IEEE 1815-2012, section 9.2; IEC 60870-5-101, section 7.2.4
  pub unit : HIGHEST_UNIT ≡ 255
  pub link_address : HIGHEST_LINK_ADDRESS ≡ 65519
  pub common_address : HIGHEST_COMMON_ADDRESS ≡ 65534

-- the limits that are constants of the code, as numbers
pub record HasLimits : Type 0 where
  -- letters of a stream
  pub letters : LETTER_LIMIT ≡ 2 ^ 30
  -- records of a world's capture
  pub records : RECORD_LIMIT ≡ 1000000
  -- octets of a record of a capture, and of a block of a pcapng file; interfaces of a section
  pub captured : CAPTURED_LIMIT ≡ 262144
  -- octets of a capture whose connections are watched
  pub watched : CAPTURE_LIMIT ≡ 67108864
  pub block : BLOCK_LIMIT ≡ 16777216
  pub interfaces : INTERFACE_LIMIT ≡ 64
  pub policy : HasPolicyLimits
