-- `sift POLICY ASSET CLIENT STREAM OUT REPLIES LOG`: the stored stream of one client is filtered: `Sifts`.
use Rattle.std.specs.Prelude.{◌≡◌, ◌⊎◌, ℕ, List, Option, None, Some}
use Rattle.cf_audit.specs.declared.line.CutReason.{CutReason}
use Rattle.cf_lane.specs.History.{Element}
use Rattle.cf_lane.specs.Judged.{Judged}
use Rattle.cf_outside.specs.Files.{holds, IsWhole}
use Rattle.cf_policy.specs.Site.{SiteValue}
use Rattle.cf_sift.specs.Names.{SiftNamesValue}
use Rattle.cf_sift.specs.Sifted.{IsReadUpTo, IsSifted, IsUncreated, IsWrittenUpTo}
use Rattle.cf_sift.specs.Stored.{GoesUpTo, stored_history}
use Rattle.cf_sift.specs.declared.SiftDone.{SiftDone}
use Rattle.cf_sift.specs.declared.SiftFault.{SiftFault}
use Rattle.cf_sift.specs.declared.SiftFault.TheVariants as fault
use Rattle.cf_box.specs.Check.{ChangesNothing}
use Rattle.cf_ending.specs.Outside.{Outside}
use Rattle.cf_box.specs.PolicyFile.{FindsSite, TellsSite}
use Rattle.cf_ending.specs.declared.Done.{Done}
use Rattle.cf_ending.specs.declared.Done.TheVariants as done
use Rattle.cf_ending.specs.declared.Stop.{Stop}
use Rattle.cf_ending.specs.declared.Stop.TheVariants as stop

-- why the work stops at a fault
abbrev pub sift_stop : SiftFault → Stop
sift_stop fault.NoMemory = stop.NoMemory
sift_stop fault.Read = stop.ReadFault
sift_stop fault.Write = stop.WriteFault

module _ (policy_file asset_name : List ℕ) (client : ℕ) (names : SiftNamesValue) (before after : Outside) where
  -- the stream was taken by the site of the name up to a cut, or to its end, and each output has what its items put out
  pub record TakesStream (cut : Option CutReason) : Type 0 where
    pub site : SiteValue
    pub finds : FindsSite (before.files.content policy_file) asset_name site
    pub taken : SiftDone
    pub is_cut : taken.cut ≡ cut
    pub sifted : IsSifted site client names before.files.content after.files.content taken
    pub sink : after.sink ≡ before.sink
    pub pair : after.pair ≡ before.pair

  -- the whole of it, and these are the numbers of its commands
  pub record Sifts (d : Done) : Type 0 where
    pub takes : TakesStream None
    pub counts : d ≡ done.Sifted takes.taken.admitted takes.taken.refused

  -- it was taken up to a failure, which left the files so
  pub record StopsSifting (Left : SiteValue → Type 0) : Type 0 where
    pub site : SiteValue
    pub finds : FindsSite (before.files.content policy_file) asset_name site
    pub left : Left site
    pub sink : after.sink ≡ before.sink
    pub pair : after.pair ≡ before.pair

  -- a read of the stream failed
  abbrev pub ReadsUpTo : Type 0
  ReadsUpTo = StopsSifting (λ site. IsReadUpTo site client names before.files.content after.files.content)

  -- a creation or an append failed
  abbrev pub WritesUpTo : Type 0
  WritesUpTo =
      StopsSifting (λ site. IsUncreated site client names before.files.content after.files.content
      ⊎ IsWrittenUpTo site client names before.files.content after.files.content)

  -- what stands after a stop: before the outputs are created nothing changes
  abbrev pub SiftLeaves : Stop → Type 0
  SiftLeaves stop.ReadFault = ChangesNothing before after ⊎ ReadsUpTo
  SiftLeaves stop.WriteFault = WritesUpTo
  SiftLeaves (stop.Cut reason) = TakesStream (Some reason)
  SiftLeaves s = ChangesNothing before after

-- the site was found, and its assets' rules cut the stream so
abbrev pub CutsSift : (policy_file asset_name : List ℕ) → ℕ → SiftNamesValue → Outside → CutReason → Type 0
CutsSift policy_file asset_name client names before reason =
    (site : SiteValue) × FindsSite (before.files.content policy_file) asset_name site
    × ((bytes : List ℕ) × IsWhole (before.files.content names.stream) bytes
    × ((history : List Element) × (judged : List Judged) × GoesUpTo site client (stored_history bytes) (Some reason) history judged))

-- a cut stream of bytes that are told
pub record TellsCutStream (file name : List ℕ) (client : ℕ) (names : SiftNamesValue) (before : Outside) : Type 0 where
  pub known : TellsSite (before.files.content file) name
  pub stream : List ℕ
  pub stream_told : before.files.content names.stream ≡ holds stream
  pub reason : CutReason
  pub history : List Element
  pub judged : List Judged
  pub goes : GoesUpTo known.site client (stored_history stream) (Some reason) history judged
