-- What it means that a judge objects to nothing in a capture: UnobjectedAreAllowed.
--
-- A receiver may put together what the packets of a flow carried as it likes: at each position it takes the letter of any packet that
-- carried one there, and it may stop after any record. Whatever it takes is a beginning of one stream of the flow, the longest that can
-- be put together so. The octets of that stream are units, in its order, that the policy lets through, and then a proper prefix of
-- another unit, which may be empty.
use Rattle.std.specs.Prelude.{◌≡◌, ◌++◌, ℕ, List, [], ◌∷◌, map, slice_get, Some, None}
use Rattle.cf_judge.specs.Plain.{HasSiteFate, completed_in}
use Rattle.cf_judge.specs.declared.Judged.{Judged as Judgement}
use Rattle.cf_lane.specs.Judged.{Judged}
use Rattle.cf_lane.specs.Unit.{AreUnits, Left, UnitValue}
use Rattle.cf_lane.specs.declared.Fate.{Fate}
use Rattle.cf_lane.specs.declared.Fate.TheVariants as fate
use Rattle.cf_policy.specs.Site.{SiteValue, site_from}
use Rattle.cf_policy.specs.declared.Asset.{Asset}
use Rattle.cf_policy.specs.declared.Protocol.{Protocol}
use Rattle.cf_policy.specs.declared.Protocol.TheVariants as protocol
use Rattle.cf_records.specs.Capture.{Record}
use Rattle.cf_session.specs.Laws.{IsFront, IsReassembly, Part}
use Rattle.cf_stream.specs.Stream.{Letter, Stream, letters}
use Rattle.cf_watch.specs.Carried.{Carried}
use Rattle.cf_watch.specs.Watched.{Watched, watched}
use Rattle.cf_unobjected.specs.OneJudgement.{IsJudgementOfRecords}

-- ---- what a stream decodes to

-- the fate of a unit that is let through: an admitted command, what is carried, and in DNP3 a whole frame that only begins or lengthens a
-- fragment
abbrev pub IsLetThrough : Protocol → Fate → Type 0
IsLetThrough of (fate.Admitted used) = Unit {0}
IsLetThrough of fate.Carried = Unit {0}
IsLetThrough of fate.Lengthens = of ≡ protocol.Dnp3
IsLetThrough of (fate.Refused refusal) = ⊥
IsLetThrough of (fate.Stray because) = ⊥
IsLetThrough of (fate.Cuts because) = ⊥

-- units of a client to a site in the order of its stream, after earlier ones: each, completed by some record, has its fate by the asset
-- that it is for, by that asset's verdict on each act and after those before it that are for the asset, and is let through
abbrev pub AreLetThrough : SiteValue → (client : ℕ) → (earlier : List Judged) → List UnitValue → Type 0
AreLetThrough site client earlier [] = Unit {0}
AreLetThrough site client earlier (u ∷ us) =
    (number : ℕ) × (f : Fate) × HasSiteFate site client earlier u f × IsLetThrough site.first.protocol f
    × AreLetThrough site client (earlier ++ completed_in number u f ∷ []) us

-- octets of a client are units that are let through, and then a proper prefix of another unit, which may be empty
pub record DecodesToAllowed (site : SiteValue) (client : ℕ) (bytes : List ℕ) : Type 0 where
  pub units : List UnitValue
  pub rest : List ℕ
  pub are_units : AreUnits site.first.protocol bytes units (Left rest)
  pub let_through : AreLetThrough site client [] units

-- ---- what the packets of a flow make

-- what a packet carried, without the number of its record
abbrev pub part_of : Carried → Part
part_of c = record { at = c.at; text = c.text }

-- the letters that a receiver took are put together of what the packets of a flow carried: each from any that carried one at its place
abbrev pub IsPutTogether : Watched → List Letter → Type 0
IsPutTogether w taken = IsReassembly (map part_of w.carried) taken

-- the flow goes on as this one: its packets carried what it had, and more after it
pub record GoesOnAs (before after : Watched) : Type 0 where
  pub client : after.client ≡ before.client
  pub asset : after.asset ≡ before.asset
  pub more : List Carried
  pub carried : after.carried ≡ more ++ before.carried

-- the flows of a capture stay in their places, whatever records follow
abbrev pub FlowsGoOn : Type 0
FlowsGoOn =
    (assets : List Asset) (newer older : List Record) (place : ℕ) (before : Watched) →
    slice_get (watched assets older) place ≡ Some before →
    (after : Watched) × (slice_get (watched assets (newer ++ older)) place ≡ Some after) × GoesOnAs before after

-- whatever is put together of the flow at a place, as it stands after each of the records, is a beginning of one stream
pub record MakesOneStream (assets : List Asset) (newest : List Record) (place : ℕ) (whole : Stream) : Type 0 where
  pub each :
      (newer older : List Record) (w : Watched) (taken : List Letter) → newest ≡ newer ++ older
      → slice_get (watched assets older) place ≡ Some w → IsPutTogether w taken → IsFront whole taken

-- the flow at a place makes one stream, which is itself put together of its packets, and that one decodes to what the policy of the assets
-- of its site lets through
pub record IsAllowedFlow (assets : List Asset) (newest : List Record) (place : ℕ) (w : Watched) : Type 0 where
  pub whole : Stream
  pub is_put : IsPutTogether w (letters whole)
  pub makes : MakesOneStream assets newest place whole
  pub site : SiteValue
  pub here : site_from assets w.asset ≡ Some site
  pub decodes : DecodesToAllowed site w.client.address whole.bytes

-- each flow that is watched in the records of a capture is allowed so
abbrev pub AreAllowedFlows : List Asset → (newest : List Record) → Type 0
AreAllowedFlows assets newest =
    (place : ℕ) (w : Watched) → slice_get (watched assets newest) place ≡ Some w → IsAllowedFlow assets newest place w

-- flows to which a judge objects in nothing are allowed so
abbrev pub UnobjectedAreAllowed : Type 0
UnobjectedAreAllowed =
    (assets : List Asset) (newest : List Record) (j : Judgement) → IsJudgementOfRecords assets newest j → j.objection ≡ None →
    AreAllowedFlows assets newest
