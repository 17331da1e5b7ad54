-- Steps of the proof: how far a stored stream was taken: `IsTakenWhole`, `ReadStops` and `WriteStops`. The files are as they were
-- before its first piece (`old`) and as they are now, and `first` is what the outputs had before they got anything.
use Rattle.cf_lane.specs.Caller.{newcomer}
use Rattle.std.specs.Prelude.{◌≡◌, ℕ, List, [], ◌∷◌, ◌++◌, length, Option, None}
use Rattle.cf_audit.specs.declared.line.CutReason.{CutReason}
use Rattle.cf_lane.specs.Follows.{AreJudged}
use Rattle.cf_lane.specs.History.{Element}
use Rattle.cf_lane.specs.Judged.{Judged}
use Rattle.cf_outside.specs.Files.{BeginsWith, Content, IsWhole}
use Rattle.cf_policy.specs.Site.{SiteValue}
use Rattle.cf_view.specs.declared.Endpoint.{Endpoint}
use Rattle.cf_sift.specs.Sifting.{IsSiftingAfter, IsSiftingOf}
use Rattle.cf_sift.specs.Names.{SiftNamesValue}
use Rattle.cf_sift.specs.Sifted.{ElementFails, HaveOutput}
use Rattle.cf_sift.specs.Stored.{GoesUpTo, IsUncut, stored_history}
use Rattle.cf_sift.specs.Stream.{HasStream}
use Rattle.cf_sift.specs.declared.sifting.Sifting.{Sifting}

module _ (site : SiteValue) (client : Endpoint) (names : SiftNamesValue) (first old now : List ℕ → Content) where
  -- up to its first cut, or to its end
  pub record IsTakenWhole (cut : Option CutReason) (sifting : Sifting) : Type 0 where
    pub bytes : List ℕ
    pub whole : IsWhole (old names.stream) bytes
    pub earlier : List Element
    pub element : Element
    pub uncut : IsUncut site client.address earlier
    pub judged : List Judged
    pub are_judged : AreJudged site (newcomer client.address) earlier judged
    pub after : IsSiftingAfter site client names first now (earlier ++ element ∷ []) cut sifting
    pub goes : GoesUpTo site client.address (stored_history bytes) cut (earlier ++ element ∷ []) after.sifting_of.follows.judged

  -- up to a read that failed
  pub record ReadStops : Type 0 where
    pub bytes : List ℕ
    pub stream : HasStream (old names.stream) bytes
    pub history : List Element
    pub later : List Element
    pub begins : stored_history bytes ≡ history ++ later
    pub uncut : IsUncut site client.address history
    pub judged : List Judged
    pub are_judged : AreJudged site (newcomer client.address) history judged
    pub have : HaveOutput site client names first now judged []

  -- up to a write that failed
  pub record WriteStops : Type 0 where
    pub bytes : List ℕ
    pub stream : HasStream (old names.stream) bytes
    pub earlier : List Element
    pub element : Element
    pub later : List Element
    pub begins : stored_history bytes ≡ earlier ++ element ∷ later
    pub uncut : IsUncut site client.address earlier
    pub judged : List Judged
    pub are_judged : AreJudged site (newcomer client.address) earlier judged
    pub fails : ElementFails site client names first now earlier judged element

module _ (site : SiteValue) (client : Endpoint) (names : SiftNamesValue) (first old now : List ℕ → Content) where
  -- before a piece: so many bytes were taken, and nothing cuts
  pub record IsTakenTo (at : ℕ) (sifting : Sifting) : Type 0 where
    pub bytes : List ℕ
    pub size : length bytes ≡ at
    pub begins : BeginsWith (old names.stream) bytes
    pub history : List Element
    pub goes_on : (rest : List ℕ) → stored_history (bytes ++ rest) ≡ history ++ stored_history rest
    pub sifting_of : IsSiftingOf site client names first now history None sifting
    pub uncut : IsUncut site client.address history

-- what a call that takes a stream says holds of each client and of whatever the outputs had first
abbrev pub OfEachSifting : SiteValue → SiftNamesValue → Sifting → (before : List ℕ → Content) → (Endpoint → (List ℕ → Content) → Type 0)
    → Type 0
OfEachSifting site names sifting before Holds =
    (client : Endpoint) (first : List ℕ → Content) → IsSiftingOf site client names first before [] None sifting → Holds client first
