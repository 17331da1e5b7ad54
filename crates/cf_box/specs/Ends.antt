-- How the program ends: `Ends` says it of the words. It is read from the end.
use Rattle.std.specs.Prelude.{◌≡◌, ◌⊎◌, ℕ, List, Option, None, Some, Result, Ok, Err, codes}
use Rattle.cf_audit.specs.declared.line.CutReason.{CutReason}
use Rattle.cf_outside.specs.Faults.{Rose}
use Rattle.cf_outside.specs.Files.{untold}
use Rattle.cf_outside.specs.PairValue.{PairValue}
use Rattle.cf_policy.specs.declared.Asset.{Asset}
use Rattle.cf_policy.specs.declared.Policy.{Policy}
use Rattle.cf_policylang.specs.declared.PolicyRefusal.{PolicyRefusal}
use Rattle.cf_box.specs.Check.{CheckLeaves, Checks}
use Rattle.cf_words.specs.Command.{Command, Check, Compare, Judge, Migrate, Packets}
use Rattle.cf_words.specs.Command.{Review, Run, Relay, World, Sift, asset_name, other_file}
use Rattle.cf_words.specs.Command.{policy_file, Draft, Learn}
use Rattle.cf_box.specs.Compare.{CompareLeaves, Compares, DeniesInclusion, FilesExceed}
use Rattle.cf_box.specs.Draft.{CapturesShowTooMuch, DraftLeaves, WritesDraft}
use Rattle.cf_ending.specs.Ending.{Puts, Reports}
use Rattle.cf_box.specs.Judge.{JudgesClean, Objects}
use Rattle.cf_box.specs.Watching.{WatchCuts, WatchRefuses}
use Rattle.cf_box.specs.Learn.{FilesShowTooMuch, LearnLeaves, WritesLearned}
use Rattle.cf_box.specs.Migrate.{MigrateLeaves, Migrates}
use Rattle.cf_ending.specs.Outside.{Outside, ReadFailed, WriteFailed}
use Rattle.cf_box.specs.Packets.{ListingCuts, ListingRefuses, Lists, PacketsLeaves}
use Rattle.cf_box.specs.PolicyFile.{HasPolicy, IsRefusedBy, asset_named}
use Rattle.cf_box.specs.Relay.{CutsRelay, EndsRelayIdle, RelayLeaves, Relays}
use Rattle.cf_box.specs.Recording.{CapturesCut, CapturesRefuse}
use Rattle.cf_box.specs.Review.{DoesReview, Remarks, ReviewLeaves}
use Rattle.cf_box.specs.Run.{RunCuts, RunLeaves, RunRefuses, Runs}
use Rattle.cf_box.specs.Sift.{CutsSift, SiftLeaves, Sifts}
use Rattle.cf_box.specs.World.{MakesAndRuns, WorldLeaves}
use Rattle.cf_ending.specs.declared.Denial.{Denial}
use Rattle.cf_ending.specs.declared.CaptureRefusal.{CaptureRefusal}
use Rattle.cf_ending.specs.declared.Done.{Done}
use Rattle.cf_ending.specs.declared.Stop.{Stop}
use Rattle.cf_ending.specs.declared.Stop.TheVariants as stop

-- the policy that a command makes for itself means one: it can be refused only where its file does not tell what it holds
abbrev pub RefusesMadePolicy : Command → Outside → Type 0
RefusesMadePolicy (World seed sessions policy names) before = before.files.content policy ≡ untold
RefusesMadePolicy _ before = ⊥

-- the file of a second policy means none, where that of the first means one
abbrev pub RefusesOther : Command → Outside → PolicyRefusal → Type 0
RefusesOther c before r =
    (file first : List ℕ) × (other_file c ≡ Some file) × (policy_file c ≡ Some first)
    × ((p : Policy) × HasPolicy (before.files.content first) p × IsRefusedBy (before.files.content file) r)

-- the file from which a command reads its policy means none, or that of its second policy
abbrev pub RefusesPolicy : Command → Outside → PolicyRefusal → Type 0
RefusesPolicy c before r =
    ((file : List ℕ) × (policy_file c ≡ Some file) × IsRefusedBy (before.files.content file) r)
    ⊎ (RefusesOther c before r ⊎ RefusesMadePolicy c before)

-- the policy of a command means one that has no asset of the name that the command needs
abbrev pub LacksAsset : Command → Outside → Type 0
LacksAsset c before =
    (file name : List ℕ) × (policy_file c ≡ Some file) × (asset_name c ≡ Some name)
    × ((p : Policy) × HasPolicy (before.files.content file) p × (asset_named name p ≡ None))

-- neither of these is so
pub record PassesPolicy (c : Command) (before : Outside) : Type 0 where
  pub policy : (file : List ℕ) → policy_file c ≡ Some file → (p : Policy) × HasPolicy (before.files.content file) p
  pub other : (file : List ℕ) → other_file c ≡ Some file → (p : Policy) × HasPolicy (before.files.content file) p
  pub asset :
      (file name : List ℕ) → policy_file c ≡ Some file → asset_name c ≡ Some name →
      (p : Policy) × HasPolicy (before.files.content file) p × ((a : Asset) × (asset_named name p ≡ Some a))

-- the capture of a command is refused, or ends inside the record at a place: a line a command that reads one. One that it
-- makes for itself is in form: so it is only where the file does not tell what it holds
abbrev pub RefusesCapture : Command → Outside → CaptureRefusal → Type 0
RefusesCapture (Packets capture) before r = ListingRefuses (before.files.content capture) r
RefusesCapture (Draft policy out captures) before r = CapturesRefuse before.files.content captures r
RefusesCapture (Judge policy capture) before r = WatchRefuses (before.files.content capture) r
RefusesCapture (Learn policy capture out) before r = WatchRefuses (before.files.content capture) r
RefusesCapture (Review policy captures log) before r = CapturesRefuse before.files.content captures r
RefusesCapture (Run policy names) before r = RunRefuses (before.files.content names.capture) r
RefusesCapture (World seed sessions policy names) before r = before.files.content names.capture ≡ untold
RefusesCapture _ before r = ⊥

-- the capture of a command ends inside the record at this place: a line a command that reads one
abbrev pub CutsCapture : Command → Outside → ℕ → Type 0
CutsCapture (Packets capture) before place = ListingCuts (before.files.content capture) place
CutsCapture (Draft policy out captures) before place = CapturesCut before.files.content captures place
CutsCapture (Judge policy capture) before place = WatchCuts (before.files.content capture) place
CutsCapture (Learn policy capture out) before place = WatchCuts (before.files.content capture) place
CutsCapture (Review policy captures log) before place = CapturesCut before.files.content captures place
CutsCapture (Run policy names) before place = RunCuts (before.files.content names.capture) place
CutsCapture (World seed sessions policy names) before place = before.files.content names.capture ≡ untold
CutsCapture _ before place = ⊥

-- a run's does, and what was counted before it is told
abbrev pub CutsRun : Command → Outside → ℕ → Type 0
CutsRun (Run policy names) before place = RunCuts (before.files.content names.capture) place
CutsRun (World seed sessions policy names) before place = before.files.content names.capture ≡ untold
CutsRun _ before place = ⊥

-- a stream that a command takes is cut so, where the pair then stands so: a line a command
abbrev pub CutsStream : Command → (before : Outside) → (pair : PairValue) → CutReason → Type 0
CutsStream (Check policy) before pair reason = ⊥
CutsStream (Compare policy other) before pair reason = ⊥
CutsStream (Draft policy out captures) before pair reason = ⊥
CutsStream (Judge policy capture) before pair reason = ⊥
CutsStream (Learn policy capture out) before pair reason = ⊥
CutsStream (Migrate policy out) before pair reason = ⊥
CutsStream (Packets capture) before pair reason = ⊥
CutsStream (Review policy captures log) before pair reason = ⊥
CutsStream (Run policy names) before pair reason = ⊥
CutsStream (Relay policy asset port idles log) before pair reason = CutsRelay policy asset before pair reason
CutsStream (World seed sessions policy names) before pair reason = ⊥
CutsStream (Sift policy asset client names) before pair reason = CutsSift policy asset client names before reason

-- the answers Idle of the pair end the work of a command that asks it
abbrev pub EndsIdle : Command → (before : Outside) → (pair : PairValue) → Type 0
EndsIdle (Relay policy asset port idles log) before pair = EndsRelayIdle before.pair pair idles
EndsIdle _ before pair = ⊥

-- a call on the pair failed for a command that asks it
abbrev pub LinkFails : Command → (before : Outside) → (pair : PairValue) → Type 0
LinkFails (Relay policy asset port idles log) before pair = Rose before.pair.faults pair.faults
LinkFails _ before pair = ⊥

-- what is asked of a command's files is not so: a line a command that asks
abbrev pub Denies : Command → Outside → Denial → Type 0
Denies (Compare policy other) before why = DeniesInclusion policy other before why
Denies (Judge policy capture) before why = Objects policy capture before why
Denies (Review policy captures log) before why = Remarks policy captures before why
Denies _ before why = ⊥

-- the rules of the asset of this name make too many cells: a line a command that compares
abbrev pub ExceedsCells : Command → Outside → (name : List ℕ) → Type 0
ExceedsCells (Compare policy other) before name = FilesExceed policy other before name
ExceedsCells _ before name = ⊥

-- the capture shows so much of the asset of this name that it would have too many rules: a line a command that learns
abbrev pub ExceedsRules : Command → Outside → (name : List ℕ) → Type 0
ExceedsRules (Draft policy out captures) before name = CapturesShowTooMuch policy captures before name
ExceedsRules (Learn policy capture out) before name = FilesShowTooMuch policy capture before name
ExceedsRules _ before name = ⊥

-- why work stops: a line a cause, the same for every command. What stands later in the order of the work is no cause
-- where the policy or the asset is one
abbrev pub StopsFor : Command → (before after : Outside) → Stop → Type 0
StopsFor c before after stop.ReadFault = ReadFailed c before after
StopsFor c before after stop.WriteFault = WriteFailed before after × PassesPolicy c before
StopsFor c before after (stop.PolicyRefused r) = RefusesPolicy c before r
StopsFor c before after (stop.CaptureRefused r) = RefusesCapture c before r × PassesPolicy c before
StopsFor c before after (stop.CaptureCut place) = CutsCapture c before place × PassesPolicy c before
StopsFor c before after (stop.RunCut place summary) = CutsRun c before place × PassesPolicy c before
StopsFor c before after stop.LinkFault = LinkFails c before after.pair × PassesPolicy c before
StopsFor c before after stop.IdleEnd = EndsIdle c before after.pair × PassesPolicy c before
StopsFor c before after stop.UnknownAsset = LacksAsset c before
StopsFor c before after (stop.Cut reason) = CutsStream c before after.pair reason × PassesPolicy c before
StopsFor c before after stop.NoMemory = Unit {0}
StopsFor c before after (stop.Denied why) = Denies c before why × PassesPolicy c before
StopsFor c before after (stop.TooManyRules name) = ExceedsRules c before name.bytes × PassesPolicy c before
StopsFor c before after (stop.TooManyCells name) = ExceedsCells c before name.bytes × PassesPolicy c before

-- what work that was done means: a line a command
abbrev pub Does : Command → (before after : Outside) → Done → Type 0
Does (Check policy) before after d = Checks policy before after d
Does (Compare policy other) before after d = Compares policy other before after d
Does (Draft policy out captures) before after d = WritesDraft policy out captures before after d
Does (Judge policy capture) before after d = JudgesClean policy capture before after d
Does (Learn policy capture out) before after d = WritesLearned policy capture out before after d
Does (Migrate policy out) before after d = Migrates policy out before after d
Does (Packets capture) before after d = Lists capture before after d
Does (Review policy captures log) before after d = DoesReview policy captures log before after d
Does (Run policy names) before after d = Runs policy names before after d
Does (Relay policy asset port idles log) before after d = Relays policy asset port idles log before after d
Does (World seed sessions policy names) before after d = MakesAndRuns sessions policy names before after d
Does (Sift policy asset client names) before after d = Sifts policy asset client names before after d

-- what stands after a stop: a line a command
abbrev pub Leaves : Command → (before after : Outside) → Stop → Type 0
Leaves (Check policy) before after s = CheckLeaves before after s
Leaves (Compare policy other) before after s = CompareLeaves before after s
Leaves (Draft policy out captures) before after s = DraftLeaves policy out captures before after s
Leaves (Judge policy capture) before after s = CheckLeaves before after s
Leaves (Learn policy capture out) before after s = LearnLeaves policy capture out before after s
Leaves (Migrate policy out) before after s = MigrateLeaves policy out before after s
Leaves (Packets capture) before after s = PacketsLeaves capture before after s
Leaves (Review policy captures log) before after s = ReviewLeaves policy captures log before after s
Leaves (Run policy names) before after s = RunLeaves policy names before after s
Leaves (Relay policy asset port idles log) before after s = RelayLeaves policy asset port idles log before after s
Leaves (World seed sessions policy names) before after s = WorldLeaves sessions policy names before after s
Leaves (Sift policy asset client names) before after s = SiftLeaves policy asset client names before after s

-- the answer of a command
abbrev pub Meets : Command → (before after : Outside) → Result Done Stop → Type 0
Meets c before after (Ok d) = Does c before after d
Meets c before after (Err s) = StopsFor c before after s × Leaves c before after s

-- the words have no form, and that is printed; or they are a command, which ended so, and that is printed
abbrev pub Ends : Option Command → (before after : Outside) → (status : ℕ) → Type 0
Ends None before after status =
    Puts (codes "usage\n") 2 2 before.sink after.sink status × (after.files ≡ before.files) × (after.pair ≡ before.pair)
Ends (Some c) before after status = (r : Result Done Stop) × (middle : Outside) × Meets c before middle r × Reports r middle after status

-- how the command ended is told beside the text: the very answer that explains the files, and of which the status and the text are made;
-- nothing where the words have no form
abbrev pub TellsEnding : Option Command → (before after : Outside) → (status : ℕ) → Option (Result Done Stop) → Type 0
TellsEnding None before after status told = told ≡ None
TellsEnding (Some c) before after status told =
    (r : Result Done Stop) × (middle : Outside) × Meets c before middle r × Reports r middle after status × (told ≡ Some r)
