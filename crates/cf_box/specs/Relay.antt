-- `relay POLICY ASSET PORT IDLES LOG`: a policy between two streams. The main definitions are `HasRelayed`, and `CutsRelay` and
-- `EndsRelayIdle`, which say it of the pair's answers alone.
use Rattle.cf_lane.specs.Caller.{none_before}
use Rattle.std.specs.Prelude.{◌≡◌, ◌⊎◌, ◌*◌, ℕ, List, ◌++◌, None, Some, Result, Ok, Err}
use Rattle.cf_audit.specs.declared.line.CutReason.{CutReason}
use Rattle.cf_lane.specs.Judged.{Judged}
use Rattle.cf_outside.specs.Files.{KeepsOthers}
use Rattle.cf_outside.specs.Pair.{Entry, FaultsBy}
use Rattle.cf_outside.specs.PairValue.{PairValue}
use Rattle.cf_policy.specs.Site.{SiteValue}
use Rattle.cf_relay.specs.Answers.{idle_run, with_answers}
use Rattle.cf_relay.specs.Ends.{IdlesRose, RelayEnds, file_log}
use Rattle.cf_relay.specs.Scene.{RoseBy}
use Rattle.cf_relay.specs.Turn.{AreItemsOf, cut_at}
use Rattle.cf_relay.specs.declared.done.RelayDone.{RelayDone}
use Rattle.cf_relay.specs.declared.done.RelayEnd.{RelayEnd}
use Rattle.cf_relay.specs.declared.done.RelayEnd.TheVariants as ends
use Rattle.cf_relay.specs.declared.done.RelayFault.{RelayFault}
use Rattle.cf_relay.specs.declared.done.RelayFault.TheVariants as fault
use Rattle.cf_box.specs.Check.{ChangesNothing}
use Rattle.cf_ending.specs.Outside.{Outside}
use Rattle.cf_box.specs.PolicyFile.{FindsSite, StopsPolicy, TellsSite}
use Rattle.cf_ending.specs.declared.Done.{Done}
use Rattle.cf_ending.specs.declared.Done.TheVariants as done
use Rattle.cf_ending.specs.declared.Stop.{Stop}
use Rattle.cf_ending.specs.declared.Stop.TheVariants as stop

-- ---- what a relay did

-- the answer of the command: a relay that a cut or the idle answers ended has stopped
abbrev pub end_answer : (admitted refused : ℕ) → RelayEnd → Result Done Stop
end_answer admitted refused ends.Done = Ok (done.Relayed admitted refused)
end_answer admitted refused ends.IdleEnd = Err stop.IdleEnd
end_answer admitted refused (ends.Cut reason) = Err (stop.Cut reason)

-- the end of the command, by the answer of the relay
abbrev pub relay_answer : Result RelayDone RelayFault → Result Done Stop
relay_answer (Ok relayed) = end_answer relayed.admitted relayed.refused relayed.end
relay_answer (Err fault.NoMemory) = Err stop.NoMemory
relay_answer (Err fault.Link) = Err stop.LinkFault
relay_answer (Err fault.Write) = Err stop.WriteFault

module _ (policy_file asset_name : List ℕ) (port idles : ℕ) (log : List ℕ) (before after : Outside) where
  -- the site of the name was found, and the pair's answers were relayed for it and the port up to this answer; a call on the pair
  -- failed exactly where the answer says so; every file but the log is as it was
  pub record HasRelayed (answer : Result RelayDone RelayFault) : Type 0 where
    pub site : SiteValue
    pub finds : FindsSite (before.files.content policy_file) asset_name site
    pub answers : List Entry
    pub told : after.pair.told ≡ with_answers before.pair.told answers
    pub relayed :
        RelayEnds site port (2 * idles) (file_log (before.files.content log) (after.files.content log))
        (after.files.content log ≡ before.files.content log) answers answer
    pub idles_rose : IdlesRose (2 * idles) before.pair.idles after.pair.idles answer
    pub faults : FaultsBy before.pair.faults after.pair.faults (answer ≡ Err fault.Link)
    pub others : KeepsOthers log before.files.content after.files.content
    pub sink : after.sink ≡ before.sink

  -- both streams came to their ends
  abbrev pub Relays : Done → Type 0
  Relays d = (answer : Result RelayDone RelayFault) × HasRelayed answer × (relay_answer answer ≡ Ok d)

  -- the policy was not read or has no such asset, and nothing changed; or the relay stopped
  abbrev pub RelayLeaves : Stop → Type 0
  RelayLeaves s =
      ((StopsPolicy s ⊎ (s ≡ stop.UnknownAsset)) × ChangesNothing before after)
      ⊎ ((answer : Result RelayDone RelayFault) × HasRelayed answer × (relay_answer answer ≡ Err s))

-- ---- why a relay stops, by the answers of the pair

-- twice the number of idle turns came as answers Idle, with no byte and no end between them: by the pair's list, and by its
-- count
pub record EndsRelayIdle (before after : PairValue) (idles : ℕ) : Type 0 where
  pub answers : List Entry
  pub told : after.told ≡ with_answers before.told answers
  pub last : idle_run answers ≡ 2 * idles
  pub counted : RoseBy (2 * idles) before.idles after.idles

module _ (policy_file asset_name : List ℕ) (before : Outside) (pair : PairValue) where
  -- the site was found, and its assets' rules cut the streams that these answers make
  pub record CutsRelay (reason : CutReason) : Type 0 where
    pub site : SiteValue
    pub finds : FindsSite (before.files.content policy_file) asset_name site
    pub answers : List Entry
    pub told : pair.told ≡ with_answers before.pair.told answers
    pub judged : List Judged
    pub are_items : AreItemsOf site none_before answers judged
    pub cuts : cut_at site answers judged ≡ Some reason

  -- the policy's bytes and the pair's answers are told: the site, the answers of this relay, and their items
  pub record TellsRelay : Type 0 where
    pub known : TellsSite (before.files.content policy_file) asset_name
    pub earlier : List Entry
    pub earlier_told : before.pair.told ≡ Some earlier
    pub answers : List Entry
    pub answers_told : pair.told ≡ Some (earlier ++ answers)
    pub judged : List Judged
    pub are_items : AreItemsOf known.site none_before answers judged

  -- and they are cut
  abbrev pub TellsCutRelay : Type 0
  TellsCutRelay = (tells : TellsRelay) × ((reason : CutReason) × (cut_at tells.known.site tells.answers tells.judged ≡ Some reason))

  -- and they are not, but end in so many answers Idle
  abbrev pub TellsIdleRelay : (idles : ℕ) → Type 0
  TellsIdleRelay idles =
      (tells : TellsRelay) × (cut_at tells.known.site tells.answers tells.judged ≡ None) × (idle_run tells.answers ≡ 2 * idles)
