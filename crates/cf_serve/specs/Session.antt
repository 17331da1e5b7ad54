-- One session of a service, by its own answers and its own lines. The main definition is `IsSession`. This project's own.
use Rattle.cf_lane.specs.Caller.{RateMoments}
use Rattle.cf_audit.specs.Line.{Again, Gone, Lost, NoMemory, Silent, Unreached}
use Rattle.cf_lane.specs.Judged.{Judged}
use Rattle.cf_lane.specs.Log.{line_about}
use Rattle.cf_outside.specs.Pair.{Entry, Moment, met_at}
use Rattle.cf_policy.specs.Site.{SiteValue}
use Rattle.cf_relay.specs.Answers.{client_of, moment_of}
use Rattle.cf_relay.specs.Ends.{IsCutEnd, IsDone, IsIdleEnd, IsLinkEnd, LogContents, log_of}
use Rattle.cf_relay.specs.Stands.{IsCounted}
use Rattle.cf_relay.specs.Turn.{AreItemsOf, DoesStages, IsUnstopped, stages}
use Rattle.cf_relay.specs.declared.directions.Directions.TheVariants as both
use Rattle.cf_relay.specs.declared.done.RelayDone.{RelayDone}
use Rattle.cf_view.specs.declared.Endpoint.{Endpoint}
use Rattle.std.specs.Prelude.{List, [], ℕ, ◌++◌, ◌∷◌, ◌≡◌, ◌⊎◌}
use Rattle.cf_serve.specs.declared.end.SessionEnd.{SessionEnd}
use Rattle.cf_serve.specs.declared.end.SessionEnd.TheVariants as end

-- a site that is served, and the port at which its clients come
pub record Listening : Type 0 where
  pub site : SiteValue
  pub port : ℕ

-- the last line of a session that went silent, and of one whose connection failed: the greatest moment that it told, and its
-- numbers of commands
abbrev pub silent_line : SiteValue → List Entry → (admitted refused : ℕ) → List ℕ
silent_line site es admitted refused = line_about site.first (client_of es) (moment_of es) (Silent admitted refused)

abbrev pub lost_line : SiteValue → List Entry → (admitted refused : ℕ) → List ℕ
lost_line site es admitted refused = line_about site.first (client_of es) (moment_of es) (Lost admitted refused)

-- a session's own lines are just these
abbrev pub own_log : (own : List (List ℕ)) → LogContents
own_log own = record { Holds = λ all. own ≡ all; Begins = λ all. all ≡ own }

-- lines that are these and one more
abbrev pub with_last : (own : List (List ℕ)) → (last : List ℕ) → LogContents
with_last own last = record { Holds = λ all. own ≡ all ++ last ∷ []; Begins = λ all. all ≡ own }

-- a session that stands, of a client whose earlier sessions used what is given as before: its controller is not reached yet, or it has
-- made so many turns, and its lines are those of their items
abbrev pub StandsSo : Listening → (before : RateMoments) → (most : ℕ) → List Entry → (own : List (List ℕ)) → Type 0
StandsSo at before most es own =
    ((es ≡ []) × (own ≡ []))
    ⊎ ((turns : ℕ) × (DoesStages at.site before most (stages both.Separate at.port turns) [] es
    × ((goes : IsUnstopped at.site before most es) × (own ≡ log_of at.site es goes.judged))))

-- a connection failed, which adds nothing to the answers, or the client that was met has another address; the line of it is the last
pub record IsLostEnd (at : Listening) (before : RateMoments) (most : ℕ) (es : List Entry) (own : List (List ℕ)) : Type 0 where
  pub admitted : ℕ
  pub refused : ℕ
  pub ended : IsLinkEnd both.Separate at.site before at.port most (with_last own (lost_line at.site es admitted refused)) es
  pub counts : IsCounted ended.goes.judged admitted refused

-- the session stood, and its client came again; the line of it is the last
pub record IsAgainEnd (at : Listening) (before : RateMoments) (most : ℕ) (client : Endpoint) (es : List Entry) (own : List (List ℕ)) : Type 0
  where
    pub stood : List (List ℕ)
    pub stands : StandsSo at before most es stood
    pub judged : List Judged
    pub are_items : AreItemsOf at.site before es judged
    pub admitted : ℕ
    pub refused : ℕ
    pub counts : IsCounted judged admitted refused
    pub moment : ℕ
    pub own_is : own ≡ stood ++ line_about at.site.first client moment (Again admitted refused) ∷ []

-- memory was wanting, or room for what is kept of its client, before its controller was asked for, or behind the first moment
abbrev pub IsMemoryEnd : Listening → (client : Endpoint) → List Entry → (own : List (List ℕ)) → Type 0
IsMemoryEnd at client es own =
    (moment : ℕ)
    × (((es ≡ []) × (own ≡ line_about at.site.first client moment NoMemory ∷ []))
    ⊎ ((met : Endpoint) × ((told : ℕ) × ((es ≡ met_at at.port at.site.first.endpoint met ∷ Moment told ∷ [])
    × (own ≡ line_about at.site.first met moment NoMemory ∷ [])))))

-- a session that ended: it is a relay of its own that ended so; or its controller was not reached, or its client had gone before it
-- was, and in both nothing was taken or given; or its client came again; or memory was wanting
abbrev pub EndsSo : Listening → (before : RateMoments) → (most : ℕ) → (client : Endpoint) → List Entry → (own : List (List ℕ)) → SessionEnd
    → Type 0
EndsSo at before most client es own end.Closed =
    (done : RelayDone) × IsDone both.Separate at.site before at.port most (own_log own) es done
EndsSo at before most client es own (end.Cut reason) =
    (done : RelayDone) × IsCutEnd both.Separate at.site before at.port most (own_log own) es done reason
EndsSo at before most client es own end.Silent =
    (done : RelayDone) × IsIdleEnd both.Separate at.site before at.port most
    (with_last own (silent_line at.site es done.admitted done.refused)) es done
EndsSo at before most client es own end.Lost = IsLostEnd at before most es own
EndsSo at before most client es own end.Unreached = (es ≡ []) × ((moment : ℕ) × (own ≡ line_about at.site.first client moment Unreached ∷ []))
EndsSo at before most client es own end.Gone = (es ≡ []) × ((moment : ℕ) × (own ≡ line_about at.site.first client moment Gone ∷ []))
EndsSo at before most client es own end.Again = IsAgainEnd at before most client es own
EndsSo at before most client es own end.NoMemory = IsMemoryEnd at client es own

-- a session by its own answers and its own lines, and by what its client's earlier sessions had used as it began, alone
abbrev pub IsSession : Listening → (before : RateMoments) → (most : ℕ) → (client : Endpoint) → List Entry → (own : List (List ℕ))
    → List SessionEnd → Type 0
IsSession at before most client es own [] = StandsSo at before most es own
IsSession at before most client es own (end ∷ more) = (more ≡ []) × EndsSo at before most client es own end
