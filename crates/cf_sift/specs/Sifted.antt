-- What an answer about a stored stream means, and what then stands in the files: SiftEnds. It is read from the end.
use Rattle.cf_lane.specs.Caller.{newcomer}
use Rattle.std.specs.Prelude.{◌≡◌, ◌≤◌, ◌⊎◌, ℕ, count_by, length, List, [], ◌∷◌, ◌++◌, take, Result, Ok, Err, Option, None, Some}
use Rattle.std.specs.List.{concat}
use Rattle.cf_audit.specs.Line.{Cut}
use Rattle.cf_audit.specs.declared.line.CutReason.{CutReason}
use Rattle.cf_lane.specs.Follows.{AreJudged}
use Rattle.cf_lane.specs.History.{Element, letters_at}
use Rattle.cf_lane.specs.Judged.{Judged, is_admitted, is_refused}
use Rattle.cf_lane.specs.Log.{line_about, lines}
use Rattle.cf_lane.specs.Output.{outputs}
use Rattle.cf_outside.specs.Files.{Content, untold, absent, holds, IsWhole, content_after_create, with_appended}
use Rattle.cf_outside.specs.Frames.{KeepsOtherFiles}
use Rattle.cf_policy.specs.Site.{SiteValue}
use Rattle.cf_view.specs.declared.Endpoint.{Endpoint}
use Rattle.cf_view.specs.declared.Side.TheVariants as side
use Rattle.cf_sift.specs.Names.{SiftNamesValue, sift_output_names}
use Rattle.cf_sift.specs.Outputs.{CreationFails}
use Rattle.cf_sift.specs.Stored.{GoesUpTo, IsUncut, cut_behind, stored_history}
use Rattle.cf_sift.specs.Stream.{HasStream}
use Rattle.cf_sift.specs.declared.sift.SiftDone.{SiftDone}
use Rattle.cf_sift.specs.declared.sift.SiftFault.{SiftFault}
use Rattle.cf_sift.specs.declared.sift.SiftFault.TheVariants as fault

-- a client whose port is not known
abbrev pub stored_client : ℕ → Endpoint
stored_client address = record { address = address; port = 0 }

-- a log has these lines after what it had first, as far as it is told
abbrev pub HasLines : List (List ℕ) → (first now : Content) → Type 0
HasLines more untold now = Unit {0}
HasLines more absent now = Unit {0}
HasLines more (holds all) now = now ≡ holds (all ++ concat more)

-- a log has a beginning of them
abbrev pub BeginsLines : List (List ℕ) → (first now : Content) → Type 0
BeginsLines more untold now = Unit {0}
BeginsLines more absent now = Unit {0}
BeginsLines more (holds all) now = (k : ℕ) × (now ≡ holds (all ++ take k (concat more)))

-- a log has these lines, and a beginning of those that follow
abbrev pub HasLinesThen : (lines more : List (List ℕ)) → (first now : Content) → Type 0
HasLinesThen lines more untold now = Unit {0}
HasLinesThen lines more absent now = Unit {0}
HasLinesThen lines more (holds all) now = (k : ℕ) × (now ≡ holds (all ++ (concat lines ++ take k (concat more))))

-- the first bytes of an element
abbrev pub IsFrontOf : (part whole : Element) → Type 0
IsFrontOf part whole = (rest : List ℕ) × (whole ≡ letters_at part.moment part.side (part.letters.bytes ++ rest) part.letters.ended)

-- the line of a cut, at moment 0
abbrev pub cut_lines : SiteValue → Endpoint → Option CutReason → List (List ℕ)
cut_lines site client None = []
cut_lines site client (Some reason) = line_about site.first client 0 (Cut reason) ∷ []

module _ (site : SiteValue) (client : Endpoint) (names : SiftNamesValue) (first now : List ℕ → Content) where
  -- after what it had first, OUT has what these items put into the stream to the controller
  abbrev pub HasOut : List Judged → Type 0
  HasOut judged = now names.out ≡ with_appended (first names.out) (outputs site side.Controller [] judged)

  -- or all of the earlier ones, and a beginning of what follows
  abbrev pub GoesOnOut : (before judged : List Judged) → Type 0
  GoesOnOut before judged =
      (k : ℕ) × (length (outputs site side.Controller [] before) ≤ k)
      × (now names.out ≡ with_appended (first names.out) (take k (outputs site side.Controller [] judged)))

  -- REPLIES has what they put into the stream to the client
  abbrev pub HasReplies : List Judged → Type 0
  HasReplies judged = now names.replies ≡ with_appended (first names.replies) (outputs site side.Client [] judged)

  -- or all of the earlier replies, and a beginning of what follows
  abbrev pub GoesOnReplies : (before judged : List Judged) → Type 0
  GoesOnReplies before judged =
      (k : ℕ) × (length (outputs site side.Client [] before) ≤ k)
      × (now names.replies ≡ with_appended (first names.replies) (take k (outputs site side.Client [] judged)))

  -- LOG has their lines, and these after them
  abbrev pub HasLog : List Judged → (more : List (List ℕ)) → Type 0
  HasLog judged more = HasLines (lines site client [] judged ++ more) (first names.log) (now names.log)

  -- a beginning of their lines
  abbrev pub BeginsLog : List Judged → Type 0
  BeginsLog judged = BeginsLines (lines site client [] judged) (first names.log) (now names.log)

  -- their lines, and a beginning of these
  abbrev pub HasLogThen : List Judged → (more : List (List ℕ)) → Type 0
  HasLogThen judged more = HasLinesThen (lines site client [] judged) more (first names.log) (now names.log)

  -- the outputs have what these items put out
  pub record HaveOutput (judged : List Judged) (more : List (List ℕ)) : Type 0 where
    pub of_out : HasOut judged
    pub of_replies : HasReplies judged
    pub of_log : HasLog judged more

  -- the line of an item failed: the items of the elements before are written, and of the element at most lines
  pub record LineFails (earlier : List Element) (before : List Judged) (element : Element) : Type 0 where
    pub part : Element
    pub front : IsFrontOf part element
    pub judged : List Judged
    pub are_judged : AreJudged site (newcomer client.address) (earlier ++ part ∷ []) judged
    pub of_out : HasOut before
    pub of_replies : HasReplies before
    pub of_log : BeginsLog judged

  -- an append to OUT failed: the lines of the element are written, and nothing of it is in REPLIES
  pub record OutFails (earlier : List Element) (before : List Judged) (element : Element) : Type 0 where
    pub judged : List Judged
    pub are_judged : AreJudged site (newcomer client.address) (earlier ++ element ∷ []) judged
    pub of_out : GoesOnOut before judged
    pub of_replies : HasReplies before
    pub of_log : HasLog judged []

  -- an append to REPLIES failed: what the element puts into OUT is written
  pub record RepliesFail (earlier : List Element) (before : List Judged) (element : Element) : Type 0 where
    pub judged : List Judged
    pub are_judged : AreJudged site (newcomer client.address) (earlier ++ element ∷ []) judged
    pub of_out : HasOut judged
    pub of_replies : GoesOnReplies before judged
    pub of_log : HasLog judged []

  -- the line of the cut failed: all else is written
  pub record CutLineFails (earlier : List Element) (element : Element) : Type 0 where
    pub judged : List Judged
    pub are_judged : AreJudged site (newcomer client.address) (earlier ++ element ∷ []) judged
    pub reason : CutReason
    pub is_cut : cut_behind site (earlier ++ element ∷ []) judged ≡ Some reason
    pub of_out : HasOut judged
    pub of_replies : HasReplies judged
    pub of_log : HasLogThen judged (cut_lines site client (Some reason))

  -- a write failed at an element, and nothing was written after it
  abbrev pub ElementFails : (earlier : List Element) (before : List Judged) (element : Element) → Type 0
  ElementFails earlier before element =
      LineFails earlier before element ⊎ OutFails earlier before element ⊎ RepliesFail earlier before element ⊎ CutLineFails earlier element

-- files as they are once they were created
abbrev pub created : (List ℕ → Content) → List ℕ → Content
created before name = content_after_create (before name)

module _ (site : SiteValue) (client : ℕ) (names : SiftNamesValue) (before after : List ℕ → Content) where
  -- the stream was taken up to its first cut, or to its end, and the outputs have what its items put out, and the line of the cut
  pub record IsSifted (done : SiftDone) : Type 0 where
    pub bytes : List ℕ
    pub whole : IsWhole (before names.stream) bytes
    pub history : List Element
    pub judged : List Judged
    pub goes : GoesUpTo site client (stored_history bytes) done.cut history judged
    pub have : HaveOutput site (stored_client client) names (created before) after judged (cut_lines site (stored_client client) done.cut)
    pub admitted : done.admitted ≡ count_by (λ j. is_admitted j.fate) judged
    pub refused : done.refused ≡ count_by (λ j. is_refused j.fate) judged
    pub others : KeepsOtherFiles (sift_output_names names) before after

  -- a read failed: the outputs have what the items of the elements before it put out, none of which cuts
  pub record IsReadUpTo : Type 0 where
    pub bytes : List ℕ
    pub stream : HasStream (before names.stream) bytes
    pub history : List Element
    pub later : List Element
    pub begins : stored_history bytes ≡ history ++ later
    pub uncut : IsUncut site client history
    pub judged : List Judged
    pub are_judged : AreJudged site (newcomer client) history judged
    pub have : HaveOutput site (stored_client client) names (created before) after judged []
    pub others : KeepsOtherFiles (sift_output_names names) before after

  -- a write failed at an element, before which nothing cuts
  pub record IsWrittenUpTo : Type 0 where
    pub bytes : List ℕ
    pub stream : HasStream (before names.stream) bytes
    pub earlier : List Element
    pub element : Element
    pub later : List Element
    pub begins : stored_history bytes ≡ earlier ++ element ∷ later
    pub uncut : IsUncut site client earlier
    pub judged : List Judged
    pub are_judged : AreJudged site (newcomer client) earlier judged
    pub fails : ElementFails site (stored_client client) names (created before) after earlier judged element
    pub others : KeepsOtherFiles (sift_output_names names) before after

  -- a creation failed, and nothing was written
  pub record IsUncreated : Type 0 where
    pub fails : CreationFails before after (sift_output_names names)
    pub others : KeepsOtherFiles (sift_output_names names) before after

  -- want of memory comes before the first creation
  abbrev pub SiftEnds : Result SiftDone SiftFault → Type 0
  SiftEnds (Ok done) = IsSifted done
  SiftEnds (Err fault.NoMemory) = after ≡ before
  SiftEnds (Err fault.Read) = IsReadUpTo
  SiftEnds (Err fault.Write) = IsUncreated ⊎ IsWrittenUpTo
