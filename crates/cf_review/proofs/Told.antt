-- What is objected to in a unit whose command is refused.
use Rattle.std.proofs.Common.{◌≡◌, ◌++◌, ◌∷◌, [], ℕ, List, refl, take}
use Rattle.cf_lane.specs.Judged.{Judged}
use Rattle.cf_lane.specs.Log.{command_octets}
use Rattle.cf_lane.specs.Parts.{part}
use Rattle.cf_lane.specs.Unit.{UnitValue}
use Rattle.cf_lane.specs.declared.fate.Fate.{Fate}
use Rattle.cf_lane.specs.declared.fate.Fate.TheVariants as fate
use Rattle.cf_lane.specs.declared.fate.Refusal.{Refusal}
use Rattle.cf_policy.specs.Site.{SiteValue, asset_of}
use Rattle.cf_view.specs.declared.Side.TheVariants as side
use Rattle.cf_watch.specs.FlowValue.{FlowValue}
use Rattle.cf_judge.specs.Plain.{completed_in}
use Rattle.cf_judge.specs.Ruling.{ruling_of}
use Rattle.cf_judge.specs.declared.ruling.Ruling.{Ruling}
use Rattle.cf_judge.specs.declared.ruling.Ruling.TheVariants as ruling
use Rattle.cf_review.specs.Remark.{Refused, RemarkValue}
use Rattle.cf_review.specs.Review.{remark_on, unit_remarks_by}
use Rattle.cf_review.specs.declared.remark.TheConstants.{SHOWN}

-- the remark has the first octets of the command
module _ (site : SiteValue) (f : FlowValue) (earlier : List Judged) (number place : ℕ) (u : UnitValue) (refusal : Refusal) where
  told_by : (r : Refusal) (octets shown : List ℕ) (old new : List RemarkValue) → refusal ≡ r → shown ≡ take SHOWN octets →
      octets ≡ command_octets (asset_of site place) (part site place earlier) side.Client u → new ≡ old ++ remark_on f number place (Refused refusal shown) ∷ [] →
      new ≡ old ++ unit_remarks_by site place f earlier (completed_in number u (fate.Refused r))
  told_by r octets shown old new same first is added = cc

  -- the fate of a command for which so much is told is that it is refused
  pub refused_told : (found : Ruling) (f_ : Fate) (octets shown : List ℕ) (old new : List RemarkValue) → found ≡ ruling.Refused refusal → found ≡ ruling_of f_ → shown ≡ take SHOWN octets →
      ((r : Refusal) → f_ ≡ fate.Refused r → octets ≡ command_octets (asset_of site place) (part site place earlier) side.Client u) →
      new ≡ old ++ remark_on f number place (Refused refusal shown) ∷ [] → new ≡ old ++ unit_remarks_by site place f earlier (completed_in number u f_)
  refused_told found (fate.Refused r) octets shown old new is counts first told added =
      let same : refusal ≡ r = cc in told_by r octets shown old new same first (told r refl) added
  refused_told found (fate.Stray because) octets shown old new is counts first told added = cc
  refused_told found (fate.Admitted used) octets shown old new is counts first told added = cc
  refused_told found fate.Carried octets shown old new is counts first told added = cc
  refused_told found fate.Lengthens octets shown old new is counts first told added = cc
  refused_told found (fate.Cuts because) octets shown old new is counts first told added = cc
