-- What a contract sees of a `Remark`: RemarkValue.
use Rattle.std.specs.Prelude.{ℕ, ℤ, List}
use Rattle.cf_audit.specs.declared.line.Why.{Why}
use Rattle.cf_lane.specs.declared.fate.Refusal.{Refusal}
use Rattle.cf_view.specs.declared.Break.{Break}
use Rattle.cf_view.specs.declared.Endpoint.{Endpoint}
use Rattle.cf_review.specs.declared.remark.Matter.{Matter}
use Rattle.cf_review.specs.declared.remark.Matter.TheVariants as matter
use Rattle.cf_review.specs.declared.remark.Remark.{Remark}

-- a refused command with its first octets; what is stray; an octet that no unit has there; two letters at one position; a flow that
-- begins amid its stream; the position at which the first bytes of a flow end, where it has others
pub data MatterValue : Type 0 where
  Refused : Refusal → (octets : List ℕ) → MatterValue
  Stray : Why → MatterValue
  Broken : Break → MatterValue
  Conflict : ℤ → MatterValue
  Midstream : MatterValue
  Gap : ℤ → MatterValue

-- the number of its record, its client, the place of its asset in the policy, and what is objected to
pub record RemarkValue : Type 0 where
  pub at_record : ℕ
  pub client : Endpoint
  pub asset : ℕ
  pub what : MatterValue

-- what a remark is about, without where its octets lie in memory
abbrev pub matter_value : Matter → MatterValue
matter_value (matter.Refused refusal octets) = Refused refusal octets.items
matter_value (matter.Stray because) = Stray because
matter_value (matter.Broken reason) = Broken reason
matter_value (matter.Conflict position) = Conflict position
matter_value matter.Midstream = Midstream
matter_value (matter.Gap position) = Gap position

-- a remark, without where its octets lie in memory
abbrev pub remark_value : Remark → RemarkValue
remark_value r = record { at_record = r.at_record; client = r.client; asset = r.asset; what = matter_value r.what }
