-- What a status tells, each by itself, and `IsExactly` and `IsComplete`: when it must be one.
use Rattle.cf_lane.specs.Caller.{newcomer, none_before}
use Rattle.std.specs.Prelude.{◌≡◌, ◌≢◌, ◌⊎◌, ℕ, List, [], length, ◌≤◌, Option, None, Some, Ok, Err}
use Rattle.cf_audit.specs.declared.line.CutReason.{CutReason}
use Rattle.cf_judge.specs.declared.Judged.{Judged as Judgement}
use Rattle.cf_judge.specs.declared.Objection.{Objection}
use Rattle.cf_lane.specs.Follows.{AreJudged}
use Rattle.cf_lane.specs.Judged.{Judged}
use Rattle.cf_lane.specs.Passes.{Passes}
use Rattle.cf_lane.specs.SiteRates.{KeepsRates}
use Rattle.cf_outside.specs.Files.{Content, holds, untold, IsWhole, content_after_write}
use Rattle.cf_outside.specs.PairValue.{PairValue}
use Rattle.cf_policy.specs.Site.{SiteValue}
use Rattle.cf_policy.specs.declared.Asset.{Asset}
use Rattle.cf_policy.specs.declared.Policy.{Policy}
use Rattle.cf_policylang.specs.Documents.{policy_meaning}
use Rattle.cf_policylang.specs.declared.PolicyRefusal.{PolicyRefusal}
use Rattle.cf_run.specs.RunCapture.{RunNamesValue}
use Rattle.cf_words.specs.Command.{Command, Check, Compare, Judge, Migrate, Packets, Review, Run, Relay, World, Sift, AsksPair, asset_name}
use Rattle.cf_words.specs.Command.{capture_file, input_files, other_file, output_files, policy_file, recording_files, Learn}
use Rattle.cf_words.specs.Command.{Draft as DraftBy}
use Rattle.cf_draft.specs.declared.Draft.{Draft}
use Rattle.cf_box.specs.Compare.{IncludesAll, IsIncluded, OfPolicies, TellsNotIncluded}
use Rattle.cf_box.specs.Draft.{Drafts, NeverShowTooMuch}
use Rattle.cf_box.specs.Ends.{CutsCapture, CutsStream, Denies, EndsIdle, ExceedsCells, LacksAsset, LinkFails, RefusesCapture, RefusesPolicy}
use Rattle.cf_box.specs.Ends.{ExceedsRules}
use Rattle.cf_box.specs.InForm.{HasRecordsToItsEnd, HasTimedRecords, TellsAll, TellsFirst}
use Rattle.cf_box.specs.Judge.{HasJudgement, IsShown, KeepsPolicy, NeverObjects}
use Rattle.cf_box.specs.Watching.{ReviewCuts, ReviewRefuses, WatchCuts, WatchRefuses}
use Rattle.cf_box.specs.Learn.{Learns, NeverTooMuch}
use Rattle.cf_ending.specs.Outside.{Outside, ReadFailed, WriteFailed}
use Rattle.cf_box.specs.Packets.{ListingCuts, ListingRefuses}
use Rattle.cf_box.specs.PolicyFile.{FindsSite, TellsPolicy, asset_named}
use Rattle.cf_box.specs.Relay.{TellsCutRelay, TellsIdleRelay}
use Rattle.cf_box.specs.Review.{NeverRemarks, NothingRemarked}
use Rattle.cf_box.specs.Run.{RunCuts, RunRefuses}
use Rattle.cf_box.specs.Sift.{TellsCutStream}
use Rattle.cf_ending.specs.declared.Denial.{Denial}
use Rattle.cf_ending.specs.declared.CaptureRefusal.{CaptureRefusal}
use Rattle.cf_ending.specs.declared.Done.{Done}
use Rattle.cf_watch.specs.declared.fault.TheConstants.{CAPTURE_LIMIT}
use Rattle.cf_sift.specs.Names.{SiftNamesValue}
use Rattle.cf_sift.specs.Stored.{stored_history}
use Rattle.cf_unobjected.specs.Allowed.{AreAllowedFlows}

-- the words are a command of which this is so
abbrev pub OfCommand : Option Command → (Command → Type 0) → Type 0
OfCommand None P = ⊥
OfCommand (Some c) P = P c

-- a policy of the command is refused
abbrev pub RefusesItsPolicy : Option Command → Outside → Type 0
RefusesItsPolicy words before = OfCommand words (λ c. (r : PolicyRefusal) × RefusesPolicy c before r)

-- a command whose policy has no asset of the name that it needs
abbrev pub LacksItsAsset : Option Command → Outside → Type 0
LacksItsAsset words before = OfCommand words (λ c. LacksAsset c before)

-- a command whose capture is refused
abbrev pub RefusesItsCapture : Option Command → Outside → Type 0
RefusesItsCapture words before = OfCommand words (λ c. (r : CaptureRefusal) × RefusesCapture c before r)

-- a command whose capture ends inside a record
abbrev pub CutsItsCapture : Option Command → Outside → Type 0
CutsItsCapture words before = OfCommand words (λ c. (place : ℕ) × CutsCapture c before place)

-- a command whose stream is cut
abbrev pub CutsItsStream : Option Command → (before after : Outside) → Type 0
CutsItsStream words before after = OfCommand words (λ c. (reason : CutReason) × CutsStream c before after.pair reason)

-- a command whose pair answered Idle too often
abbrev pub EndsItsIdles : Option Command → (before after : Outside) → Type 0
EndsItsIdles words before after = OfCommand words (λ c. EndsIdle c before after.pair)

-- what it asks is not so
abbrev pub DeniesWhatItAsks : Option Command → Outside → Type 0
DeniesWhatItAsks words before = OfCommand words (λ c. (why : Denial) × Denies c before why)

-- a command that has too much to compare
abbrev pub ExceedsItsCells : Option Command → Outside → Type 0
ExceedsItsCells words before = OfCommand words (λ c. (name : List ℕ) × ExceedsCells c before name)

-- an asset would have too many rules
abbrev pub ExceedsItsRules : Option Command → Outside → Type 0
ExceedsItsRules words before = OfCommand words (λ c. (name : List ℕ) × ExceedsRules c before name)

-- a command that asks something of the pair
abbrev pub AsksItsPair : Option Command → Type 0
AsksItsPair words = OfCommand words AsksPair

-- the first policy of a comparison allows only what the second allows
abbrev pub Includes : (policy other : List ℕ) → Outside → Type 0
Includes policy other before = OfPolicies policy other before IsIncluded

-- a clean judgement: nothing that clients sent in a capture is objected to; and whatever is put together of the packets of a flow is a
-- beginning of one stream, which decodes to what the policy lets through
abbrev pub JudgedClean : (policy capture : List ℕ) → Outside → Type 0
JudgedClean policy capture before =
    (d : Done) × (keeps : KeepsPolicy policy capture before d) × AreAllowedFlows keeps.0.assets keeps.2.has_flows.newest

-- what a sift passes: of the commands in the stream exactly those went to the output that the bytes of the policy allow, each by the rules
-- of the asset that it is for, in their spelling and at their place; and no rule of an asset let more of them through than its rate
pub record SiftPassesAllowed (policy name : List ℕ) (client : ℕ) (names : SiftNamesValue) (before after : Outside) : Type 0 where
  pub site : SiteValue
  pub finds : FindsSite (before.files.content policy) name site
  pub bytes : List ℕ
  pub whole : IsWhole (before.files.content names.stream) bytes
  pub judged : List Judged
  pub are_judged : AreJudged site (newcomer client) (stored_history bytes) judged
  pub passed : List ℕ
  pub passes : Passes site (newcomer client) [] judged passed
  pub rates : KeepsRates site none_before judged
  pub output : after.files.content names.out ≡ content_after_write (before.files.content names.out) passed

-- the capture of a command that reads one ends so
abbrev pub EndsWell : Command → List ℕ → Type 0
EndsWell (Packets capture) bytes = HasRecordsToItsEnd bytes
EndsWell (Judge policy capture) bytes = HasRecordsToItsEnd bytes × (length bytes ≤ CAPTURE_LIMIT)
EndsWell (Learn policy capture out) bytes = HasRecordsToItsEnd bytes × (length bytes ≤ CAPTURE_LIMIT)
EndsWell (Run policy names) bytes = HasTimedRecords bytes
EndsWell _ bytes = Unit {0}

-- the files that a command makes for itself, to read them, tell what they hold
abbrev pub TellsMade : Command → Outside → Type 0
TellsMade (World seed sessions policy names) before = (before.files.content policy ≢ untold) × (before.files.content names.capture ≢ untold)
TellsMade _ before = Unit {0}

-- what is asked of a command's files is so: a line a command that asks
abbrev pub HoldsWhatItAsks : Command → Outside → Type 0
HoldsWhatItAsks (Compare policy other) before = IncludesAll policy other before
HoldsWhatItAsks (DraftBy policy out captures) before = NeverShowTooMuch policy captures before
HoldsWhatItAsks (Judge policy capture) before = NeverObjects policy capture before
HoldsWhatItAsks (Learn policy capture out) before = NeverTooMuch policy capture before
HoldsWhatItAsks (Review policy captures log) before = NeverRemarks policy captures before
HoldsWhatItAsks _ before = Unit {0}

-- what a command needs is told, and in form: its policy has a meaning and the asset of the name, its capture is one whose
-- records end with the file, and so is each of a recording, its streams are not cut, the pair is not idle for too long, what it makes for itself is
-- told, its second policy has a meaning, and what it asks is so
pub record HasInput (c : Command) (before after : Outside) : Type 0 where
  pub policy :
      (file : List ℕ) → policy_file c ≡ Some file →
      (bytes : List ℕ) × (before.files.content file ≡ holds bytes) × ((p : Policy) × (policy_meaning bytes ≡ Ok p)
      × ((name : List ℕ) → asset_name c ≡ Some name → (a : Asset) × (asset_named name p ≡ Some a)))
  pub capture : (file : List ℕ) → capture_file c ≡ Some file → (bytes : List ℕ) × (before.files.content file ≡ holds bytes)
      × EndsWell c bytes
  pub recording : TellsAll before.files.content (recording_files c)
  pub stream : (reason : CutReason) → CutsStream c before after.pair reason → ⊥
  pub idle : EndsIdle c before after.pair → ⊥
  pub made : TellsMade c before
  pub other :
      (file : List ℕ) → other_file c ≡ Some file →
      (bytes : List ℕ) × (before.files.content file ≡ holds bytes) × ((p : Policy) × (policy_meaning bytes ≡ Ok p))
  pub holds : HoldsWhatItAsks c before

-- no read of a file that the command reads failed, no creation, append or put, and no call on the pair of a command that asks it
pub record NothingFails (c : Command) (before after : Outside) : Type 0 where
  pub reads : ReadFailed c before after → ⊥
  pub writes : WriteFailed before after → ⊥
  pub links : LinkFails c before after.pair → ⊥

-- work that is done where all that the words need is in form and nothing fails; or memory ran out
abbrev pub IsComplete : Option Command → (before after : Outside) → (status : ℕ) → Type 0
IsComplete words before after status =
    (c : Command) → words ≡ Some c → HasInput c before after → NothingFails c before after → (status ≡ 0) ⊎ (status ≡ 13)

-- what an exact cause yields to: a read of a file of the command that failed, and want of memory
abbrev pub Yields : Command → (before after : Outside) → (status : ℕ) → Type 0
Yields c before after status = ((status ≡ 3) × ReadFailed c before after) ⊎ (status ≡ 13)

-- a policy is told, the first or the second, and its bytes mean none
pub record TellsNoPolicy (c : Command) (before : Outside) : Type 0 where
  pub file : List ℕ
  pub needs : (policy_file c ≡ Some file) ⊎ (other_file c ≡ Some file)
  pub bytes : List ℕ
  pub told : before.files.content file ≡ holds bytes
  pub refusal : PolicyRefusal
  pub means : policy_meaning bytes ≡ Err refusal

-- the policy is told, and its bytes mean one that has no asset of the name that the command needs
pub record TellsNoAsset (c : Command) (before : Outside) : Type 0 where
  pub file : List ℕ
  pub needs : policy_file c ≡ Some file
  pub bytes : List ℕ
  pub told : before.files.content file ≡ holds bytes
  pub meaning : Policy
  pub means : policy_meaning bytes ≡ Ok meaning
  pub name : List ℕ
  pub asks : asset_name c ≡ Some name
  pub lacks : asset_named name meaning ≡ None

-- the stream of a command is told, or the answers of its pair are, and is cut: a line a command
abbrev pub TellsCut : Command → (before : Outside) → (pair : PairValue) → Type 0
TellsCut (Check file) before pair = ⊥
TellsCut (Compare file other) before pair = ⊥
TellsCut (DraftBy file out captures) before pair = ⊥
TellsCut (Judge file capture) before pair = ⊥
TellsCut (Learn file capture out) before pair = ⊥
TellsCut (Migrate file out) before pair = ⊥
TellsCut (Packets file) before pair = ⊥
TellsCut (Review file captures log) before pair = ⊥
TellsCut (Run file names) before pair = ⊥
TellsCut (Relay file asset port idles log) before pair = TellsCutRelay file asset before pair
TellsCut (World seed sessions file names) before pair = ⊥
TellsCut (Sift file asset client names) before pair = TellsCutStream file asset client names before

-- the answers of a command's pair are told, and end in as many answers Idle as end its work
abbrev pub TellsIdle : Command → (before : Outside) → (pair : PairValue) → Type 0
TellsIdle (Relay file asset port idles log) before pair = TellsIdleRelay file asset before pair idles
TellsIdle _ before pair = ⊥

-- the policy and the capture are told and in form
pub record TellsInForm (policy capture : List ℕ) (before : Outside) : Type 0 where
  pub known : TellsPolicy (before.files.content policy)
  pub bytes : List ℕ
  pub told : before.files.content capture ≡ holds bytes
  pub ends : HasRecordsToItsEnd bytes
  pub short : length bytes ≤ CAPTURE_LIMIT

-- the policy and the captures of a recording are told and in form
pub record TellsRecording (policy : List ℕ) (captures : List (List ℕ)) (before : Outside) : Type 0 where
  pub known : TellsPolicy (before.files.content policy)
  pub all : TellsAll before.files.content captures

-- so they are, and something is objected to
pub record TellsObjection (policy capture : List ℕ) (before : Outside) : Type 0 where
  pub files : TellsInForm policy capture before
  pub not_clean : (d : Done) → KeepsPolicy policy capture before d → ⊥

-- what a command asks of its files is told, and is not so: a line a command that asks
abbrev pub TellsDenial : Command → Outside → Type 0
TellsDenial (Compare policy other) before = TellsNotIncluded policy other before
TellsDenial (Judge policy capture) before = TellsObjection policy capture before
TellsDenial _ before = ⊥

-- so they are, and a review has a remark
pub record TellsRemark (policy : List ℕ) (captures : List (List ℕ)) (before : Outside) : Type 0 where
  pub files : TellsRecording policy captures before
  pub not_clean : NothingRemarked policy captures before → ⊥

-- the command is a review that has a remark, and whose files are told and in form
abbrev pub TellsRemarks : Command → Outside → Type 0
TellsRemarks (Review policy captures log) before = TellsRemark policy captures before
TellsRemarks _ before = ⊥

-- so they are, and no policy is learned of them: some asset would have too many rules
pub record TellsTooMuch (policy capture : List ℕ) (before : Outside) : Type 0 where
  pub files : TellsInForm policy capture before
  pub none_learned : (learned : Policy) → Learns policy capture before learned → ⊥

-- the policy and the captures of a recording are told and in form, and no policy is drafted by them
pub record TellsTooMuchRecorded (policy : List ℕ) (captures : List (List ℕ)) (before : Outside) : Type 0 where
  pub files : TellsRecording policy captures before
  pub none_drafted : (draft : Draft) → Drafts policy captures before draft → ⊥

-- the command is to learn or to draft by files that are told and in form, and no policy is
abbrev pub TellsTooManyRules : Command → Outside → Type 0
TellsTooManyRules (Learn policy capture out) before = TellsTooMuch policy capture before
TellsTooManyRules (DraftBy policy out captures) before = TellsTooMuchRecorded policy captures before
TellsTooManyRules _ before = ⊥

-- a file is told, and is refused as a capture so
pub record TellsRefusal (Refused : Content → CaptureRefusal → Type 0) (file : Content) : Type 0 where
  pub bytes : List ℕ
  pub told : file ≡ holds bytes
  pub refusal : CaptureRefusal
  pub refuses : Refused (holds bytes) refusal

-- a file is told, and ends as a capture inside what begins at a place
pub record TellsCutAt (Cuts : Content → ℕ → Type 0) (file : Content) : Type 0 where
  pub bytes : List ℕ
  pub told : file ≡ holds bytes
  pub place : ℕ
  pub cuts : Cuts (holds bytes) place

-- the capture of a command, or the first of its recording that is not in form, is told and refused, and a policy that it reads is told and means one: a line a command that reads a
-- capture
abbrev pub TellsRefusedCapture : Command → Outside → Type 0
TellsRefusedCapture (Packets capture) before = TellsRefusal ListingRefuses (before.files.content capture)
TellsRefusedCapture (Judge policy capture) before = TellsPolicy (before.files.content policy)
    × TellsRefusal WatchRefuses (before.files.content capture)
TellsRefusedCapture (Run policy names) before = TellsPolicy (before.files.content policy)
    × TellsRefusal RunRefuses (before.files.content names.capture)
TellsRefusedCapture (DraftBy policy out captures) before = TellsPolicy (before.files.content policy)
    × TellsFirst (TellsRefusal ReviewRefuses) before.files.content captures
TellsRefusedCapture (Review policy captures log) before = TellsPolicy (before.files.content policy)
    × TellsFirst (TellsRefusal ReviewRefuses) before.files.content captures
TellsRefusedCapture (Learn policy capture out) before = TellsPolicy (before.files.content policy)
    × TellsRefusal WatchRefuses (before.files.content capture)
TellsRefusedCapture _ before = ⊥

-- the text of a capture that is cut
abbrev pub TellsCutCapture : Command → Outside → Type 0
TellsCutCapture (Packets capture) before = TellsCutAt ListingCuts (before.files.content capture)
TellsCutCapture (Judge policy capture) before = TellsPolicy (before.files.content policy)
    × TellsCutAt WatchCuts (before.files.content capture)
TellsCutCapture (Run policy names) before = TellsPolicy (before.files.content policy)
    × TellsCutAt RunCuts (before.files.content names.capture)
TellsCutCapture (DraftBy policy out captures) before = TellsPolicy (before.files.content policy)
    × TellsFirst (TellsCutAt ReviewCuts) before.files.content captures
TellsCutCapture (Review policy captures log) before = TellsPolicy (before.files.content policy)
    × TellsFirst (TellsCutAt ReviewCuts) before.files.content captures
TellsCutCapture (Learn policy capture out) before = TellsPolicy (before.files.content policy)
    × TellsCutAt WatchCuts (before.files.content capture)
TellsCutCapture _ before = ⊥

-- what a capture, a cut stream and the idle answers yield to: these, and a write that failed
abbrev pub YieldsWritten : Command → (before after : Outside) → (status : ℕ) → Type 0
YieldsWritten c before after status = ((status ≡ 4) × WriteFailed before after) ⊎ Yields c before after status

-- What the status of a judge tells of the judgement of its files: it has no objection, and the status is 0, or 4 where that could not be
-- printed; or it has this objection, which was printed, and the status is 15; or a read failed, or memory ran out.
pub data SaysOfJudgement (c : Command) (p : Policy) (judged : Judgement) (before after : Outside) (status : ℕ) : Type 0 where
  has_none : judged.objection ≡ None → (status ≡ 0) ⊎ ((status ≡ 4) × WriteFailed before after)
      → SaysOfJudgement c p judged before after status
  has_one : (objection : Objection) → judged.objection ≡ Some objection → IsShown p objection before after status
      → SaysOfJudgement c p judged before after status
  is_not_known : Yields c before after status → SaysOfJudgement c p judged before after status

-- so it is of every judge whose files are told and in form
abbrev pub SaysItsJudgement : Command → (before after : Outside) → (status : ℕ) → Type 0
SaysItsJudgement c before after status =
    (policy capture : List ℕ) (p : Policy) (judged : Judgement) → c ≡ Judge policy capture → TellsInForm policy capture before →
    HasJudgement policy capture before p judged → SaysOfJudgement c p judged before after status

-- each of these gives its status, and nothing but a failed read or want of memory comes before it, and before a capture that is
-- refused or cut, a stream that is cut, an idle end or a remark a failed write
pub record IsExact (c : Command) (before after : Outside) (status : ℕ) : Type 0 where
  pub refused : TellsNoPolicy c before → (status ≡ 5) ⊎ Yields c before after status
  pub unknown : TellsNoAsset c before → (status ≡ 10) ⊎ Yields c before after status
  pub capture : TellsRefusedCapture c before → (status ≡ 6) ⊎ YieldsWritten c before after status
  pub capture_cut : TellsCutCapture c before → (status ≡ 7) ⊎ YieldsWritten c before after status
  pub cut : TellsCut c before after.pair → (status ≡ 12) ⊎ YieldsWritten c before after status
  pub idle : TellsIdle c before after.pair → (status ≡ 9) ⊎ YieldsWritten c before after status
  pub denied : TellsDenial c before → ((status ≡ 15) ⊎ (status ≡ 17)) ⊎ Yields c before after status
  pub rules : TellsTooManyRules c before → (status ≡ 16) ⊎ Yields c before after status
  pub remarked : TellsRemarks c before → (status ≡ 15) ⊎ YieldsWritten c before after status
  pub judgement : SaysItsJudgement c before after status

-- the status is exact for the command that the words are, if they are one
abbrev pub IsExactly : Option Command → (before after : Outside) → (status : ℕ) → Type 0
IsExactly words before after status = (c : Command) → words ≡ Some c → IsExact c before after status

-- a policy and a capture that a world made are neither refused nor cut, where its files tell what they hold
abbrev pub TakesItsOwn : Option Command → (before : Outside) → (status : ℕ) → Type 0
TakesItsOwn words before status =
    (seed sessions : ℕ) (policy : List ℕ) (names : RunNamesValue) → words ≡ Some (World seed sessions policy names) →
    TellsMade (World seed sessions policy names) before → (status ≢ 5) × (status ≢ 6) × (status ≢ 7)

-- the files that the words have read
abbrev pub inputs_of : Option Command → List (List ℕ)
inputs_of None = []
inputs_of (Some c) = input_files c

-- the files that the words may have written
abbrev pub outputs_of : Option Command → List (List ℕ)
outputs_of None = []
outputs_of (Some c) = output_files c

-- the statuses at which nothing is written: the words, the policy or the asset are at fault
abbrev pub WritesNothing : ℕ → Type 0
WritesNothing s = (s ≡ 2) ⊎ (s ≡ 5) ⊎ (s ≡ 10)

-- what the words make for themselves is told
abbrev pub TellsItsOwn : Option Command → Outside → Type 0
TellsItsOwn words before = (c : Command) → words ≡ Some c → TellsMade c before

-- the statuses that there are
abbrev pub IsStatus : ℕ → Type 0
IsStatus s =
    (s ≡ 0) ⊎ (s ≡ 2) ⊎ (s ≡ 3) ⊎ (s ≡ 4) ⊎ (s ≡ 5) ⊎ (s ≡ 6) ⊎ (s ≡ 7) ⊎ (s ≡ 8) ⊎ (s ≡ 9) ⊎ (s ≡ 10) ⊎ (s ≡ 12) ⊎ (s ≡ 13) ⊎ (s ≡ 15)
    ⊎ (s ≡ 16) ⊎ (s ≡ 17)
