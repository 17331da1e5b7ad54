-- What the answers of a relay mean, and what then stands in its log. The main definition is `RelayEnds`.
use Rattle.cf_lane.specs.Caller.{RateMoments, caller_at, none_before}
use Rattle.cf_audit.specs.Line.{Begun, Close, Cut}
use Rattle.cf_audit.specs.declared.line.CutReason.{CutReason}
use Rattle.cf_lane.specs.Follows.{AreJudged}
use Rattle.cf_lane.specs.History.{Element}
use Rattle.cf_lane.specs.Judged.{Judged}
use Rattle.cf_lane.specs.Log.{line_about, lines}
use Rattle.cf_lane.specs.Output.{outputs}
use Rattle.cf_outside.specs.Files.{Content, IsPartly, absent, content_after_write, holds, untold}
use Rattle.cf_outside.specs.Pair.{Entry, met_at}
use Rattle.cf_policy.specs.Site.{SiteValue}
use Rattle.cf_view.specs.declared.Endpoint.{Endpoint}
use Rattle.cf_view.specs.declared.Side.{Side}
use Rattle.std.specs.List.{concat}
use Rattle.std.specs.Prelude.{Err, List, None, Ok, Result, Some, [], true, ℕ, ◌++◌, ◌∷◌, ◌≡◌, ◌⊎◌}
use Rattle.cf_relay.specs.Answers.{client_of, given, history_of, idle_run, is_finished, moment_of, moments}
use Rattle.cf_relay.specs.Scene.{RoseBy}
use Rattle.cf_relay.specs.Stands.{GivenPrefixes, IsCounted, IsCutShort}
use Rattle.cf_relay.specs.Turn.{AreItemsOf, IsUnstopped, DoesStages, IsRelayed, cut_at, stages}
use Rattle.cf_relay.specs.declared.directions.Directions.{Directions}
use Rattle.cf_relay.specs.declared.directions.Directions.TheVariants as both
use Rattle.cf_relay.specs.declared.done.RelayDone.{RelayDone}
use Rattle.cf_relay.specs.declared.done.RelayEnd.{RelayEnd}
use Rattle.cf_relay.specs.declared.done.RelayEnd.TheVariants as ends
use Rattle.cf_relay.specs.declared.done.RelayFault.{RelayFault}
use Rattle.cf_relay.specs.declared.done.RelayFault.TheVariants as fault

-- the open line, once a moment was told
abbrev pub open_lines : SiteValue → Endpoint → List ℕ → List (List ℕ)
open_lines site client [] = []
open_lines site client (moment ∷ later) = line_about site.first client moment Begun ∷ []

-- the lines of a list of answers: the open line, and those of the items, each with its moment
abbrev pub log_of : SiteValue → List Entry → List Judged → List (List ℕ)
log_of site es js = open_lines site (client_of es) (moments es) ++ lines site (client_of es) [] js

-- the line of the closing, at the greatest moment told
abbrev pub close_line : SiteValue → List Entry → (admitted refused : ℕ) → List ℕ
close_line site es admitted refused = line_about site.first (client_of es) (moment_of es) (Close admitted refused)

-- the line of the cut, at the greatest moment told
abbrev pub cut_line : SiteValue → List Entry → CutReason → List ℕ
cut_line site es reason = line_about site.first (client_of es) (moment_of es) (Cut reason)

-- what a log may hold: just these lines, or a beginning of their octets
pub record LogContents : Type 1 where
  pub Holds : List (List ℕ) → Type 0
  pub Begins : List (List ℕ) → Type 0

-- each side was given the whole stream to it, and closed
pub record GivenAll (site : SiteValue) (es : List Entry) (js : List Judged) : Type 0 where
  pub bytes : (s : Side) → given s es ≡ outputs site s [] js
  pub closed : (s : Side) → is_finished s es ≡ true

-- both sides were given all that was for them, in so many turns, and a close line is the log's last
pub record IsDone (directions : Directions) (site : SiteValue) (past : RateMoments) (listen most : ℕ) (log : LogContents)
    (es : List Entry) (done : RelayDone) : Type 0 where
  pub turns : ℕ
  pub does : DoesStages site past most (stages directions listen turns) [] es
  pub goes : IsUnstopped site past most es
  pub all : GivenAll site es goes.judged
  pub counts : IsCounted goes.judged done.admitted done.refused
  pub holds_log : log.Holds (log_of site es goes.judged ++ close_line site es done.admitted done.refused ∷ [])

-- the last answer is the Idle that completes their number; nothing cuts
pub record IsIdleEnd (directions : Directions) (site : SiteValue) (past : RateMoments) (listen most : ℕ) (log : LogContents)
    (es : List Entry) (done : RelayDone) : Type 0 where
  pub judged : List Judged
  pub relayed : IsRelayed directions site past listen most es
  pub are_items : AreItemsOf site past es judged
  pub uncut : cut_at site es judged ≡ None
  pub idle : idle_run es ≡ most
  pub prefixes : GivenPrefixes site es judged
  pub counts : IsCounted judged done.admitted done.refused
  pub holds_log : log.Holds (log_of site es judged)

-- the list is cut, for this reason, and the cut line is the log's last
pub record IsCutEnd (directions : Directions) (site : SiteValue) (past : RateMoments) (listen most : ℕ) (log : LogContents)
    (es : List Entry) (done : RelayDone)
    (reason : CutReason) : Type 0 where
  pub judged : List Judged
  pub relayed : IsRelayed directions site past listen most es
  pub are_items : AreItemsOf site past es judged
  pub is_cut : cut_at site es judged ≡ Some reason
  pub prefixes : GivenPrefixes site es judged
  pub counts : IsCounted judged done.admitted done.refused
  pub holds_log : log.Holds (log_of site es judged ++ cut_line site es reason ∷ [])

-- a call on the pair failed, which adds nothing to the list
pub record IsLinkEnd (directions : Directions) (site : SiteValue) (past : RateMoments) (listen most : ℕ) (log : LogContents)
    (es : List Entry) : Type 0 where
  pub relayed : IsRelayed directions site past listen most es
  pub goes : IsUnstopped site past most es
  pub prefixes : GivenPrefixes site es goes.judged
  pub holds_log : log.Holds (log_of site es goes.judged)

-- the last line: none, the cut line, or the close line where all was given
abbrev pub IsLastLine : SiteValue → List Entry → List Judged → List (List ℕ) → Type 0
IsLastLine site es js last =
    (last ≡ []) ⊎ (((reason : CutReason) × (cut_at site es js ≡ Some reason) × (last ≡ cut_line site es reason ∷ []))
    ⊎ (GivenAll site es js × ((admitted refused : ℕ) × IsCounted js admitted refused ×
    (last ≡ close_line site es admitted refused ∷ []))))

-- a write to the log failed: it has a beginning of the lines, those of an element up to the unit whose line failed
pub record IsWriteEnd (directions : Directions) (site : SiteValue) (past : RateMoments) (listen most : ℕ) (log : LogContents)
    (es : List Entry) : Type 0 where
  pub relayed : IsRelayed directions site past listen most es
  pub history : List Element
  pub is_short : IsCutShort history (history_of es)
  pub judged : List Judged
  pub are_judged : AreJudged site (caller_at (client_of es).address past) history judged
  pub prefixes : GivenPrefixes site es judged
  pub last : List (List ℕ)
  pub is_last : IsLastLine site es judged last
  pub begins : log.Begins (log_of site es judged ++ last)

-- memory was wanting: before the log was created, or after the meeting, where the log is empty
abbrev pub IsMemoryEnd : SiteValue → (listen : ℕ) → (created same : Type 0) → List Entry → Type 0
IsMemoryEnd site listen created same es =
    ((es ≡ []) × same) ⊎ (((client : Endpoint) × (es ≡ met_at listen site.first.endpoint client ∷ [])) × created)

-- the end of a relay that no fault stopped, whose directions are together
abbrev pub EndsAs : SiteValue → (listen most : ℕ) → LogContents → List Entry → RelayDone → RelayEnd → Type 0
EndsAs site listen most log es done ends.Done = IsDone both.Together site none_before listen most log es done
EndsAs site listen most log es done ends.IdleEnd = IsIdleEnd both.Together site none_before listen most log es done
EndsAs site listen most log es done (ends.Cut reason) = IsCutEnd both.Together site none_before listen most log es done reason

-- what each answer means, of a relay of a port
abbrev pub RelayEnds : SiteValue → (listen most : ℕ) → LogContents → (same : Type 0) → List Entry → Result RelayDone RelayFault → Type 0
RelayEnds site listen most log same es (Ok done) = EndsAs site listen most log es done done.end
RelayEnds site listen most log same es (Err fault.Link) = IsLinkEnd both.Together site none_before listen most log es
RelayEnds site listen most log same es (Err fault.Write) = IsWriteEnd both.Together site none_before listen most log es
RelayEnds site listen most log same es (Err fault.NoMemory) = IsMemoryEnd site listen (log.Holds []) same es

-- a file is told
abbrev pub IsFileTold : Content → Type 0
IsFileTold untold = ⊥
IsFileTold absent = Unit {0}
IsFileTold (holds all) = Unit {0}

-- a log as a file, where it is told
abbrev pub file_log : (old new : Content) → LogContents
file_log old new = record {
  Holds = λ ls. IsFileTold old → new ≡ content_after_write old (concat ls);
  Begins = λ ls. IsFileTold old → IsPartly (concat ls) old new;
}

-- the answers Idle that the pair counted at the Idle end
abbrev pub IdlesRoseAt : (most : ℕ) → (before now : ℕ) → RelayEnd → Type 0
IdlesRoseAt most before now ends.Done = Unit {0}
IdlesRoseAt most before now ends.IdleEnd = RoseBy most before now
IdlesRoseAt most before now (ends.Cut reason) = Unit {0}

-- the pair's count of idle answers rose by as many as the answer says; of a fault nothing is said
abbrev pub IdlesRose : (most : ℕ) → (before now : ℕ) → Result RelayDone RelayFault → Type 0
IdlesRose most before now (Ok done) = IdlesRoseAt most before now done.end
IdlesRose most before now (Err fault) = Unit {0}
