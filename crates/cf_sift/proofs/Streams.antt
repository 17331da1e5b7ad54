-- A stored stream that is taken piece by piece.
use Rattle.cf_lane.specs.Caller.{newcomer}
use Rattle.std.proofs.Common.{◌≡◌, ◌+◌, ◌≤◌, ◌<◌, ℕ, None, Option, List, [], ◌∷◌, ◌++◌, length, min, take, drop, refl, sym, ap, ◌∙◌, append_assoc, subst, inl, inr, arith}
use Rattle.std.proofs.lemmas.Bool.{cases_lt}
use Rattle.std.proofs.lemmas.List.{append-nil, length-append, length-take, nil_from_length, take-append-drop, take_all, take_min}
use Rattle.cf_audit.specs.declared.line.CutReason.{CutReason}
use Rattle.cf_driver.proofs.Limits.{limit_none}
use Rattle.cf_lane.specs.Follows.{AreJudged}
use Rattle.cf_lane.specs.History.{Element, bytes_at, end_at}
use Rattle.cf_lane.specs.Laws.{HasOneJudgement}
use Rattle.cf_lane.specs.Log.{lines, with_lines}
use Rattle.cf_lane.specs.declared.limit.TheConstants.{LETTER_LIMIT}
use Rattle.cf_outq.specs.SendQueue.{queue_length}
use Rattle.cf_outside.specs.Files.{BeginsWith, Content, HasAt, IsWhole, absent, holds, untold}
use Rattle.cf_outside.specs.Part.{IsFilled}
use Rattle.cf_outside.specs.Lines.{file_lines}
use Rattle.cf_outside.proofs.Content.{begins_more}
use Rattle.cf_policy.specs.Site.{SiteValue}
use Rattle.cf_view.specs.declared.Endpoint.{Endpoint}
use Rattle.cf_view.specs.declared.Side.TheVariants as side
use Rattle.cf_sift.specs.Sifting.{FailsElement, IsReady, IsSiftingAfter, IsSiftingOf, TakesElement}
use Rattle.cf_sift.specs.Names.{SiftNamesValue}
use Rattle.cf_sift.specs.Sifted.{HaveOutput}
use Rattle.cf_sift.specs.Stored.{IsUncut, cut_behind, stored_history}
use Rattle.cf_sift.specs.Stream.{HasStream}
use Rattle.cf_sift.specs.Taken.{IsTakenTo, IsTakenWhole, ReadStops, WriteStops}
use Rattle.cf_sift.specs.declared.sifting.Sifting.{Sifting}
use Rattle.cf_sift.proofs.Elements.{cut_known, neither}
use Rattle.cf_sift.proofs.Logs.{lines_now}
use Rattle.cf_sift.proofs.Stored.{full_piece, goes_up, last_piece, no_parts, uncut_more}

-- a list that is the first of another is so many of its first
take_own : (n : ℕ) (d p : List ℕ) → p ≡ take n d → take (length p) d ≡ p
take_own n d p is = ap (λ k. take k d) (ap length is ∙ length-take n d) ∙ take_min n d ∙ sym is

-- what is read after the beginning of a file goes on with it
pub read_more : (file : Content) (bytes p : List ℕ) → BeginsWith file bytes → IsFilled file (length bytes) 4096 p → BeginsWith file (bytes ++ p)
read_more file bytes p begins filled = begins_more file bytes p begins (at file filled)
  where
    at : (file : Content) → IsFilled file (length bytes) 4096 p → HasAt file (length bytes) p
    at untold filled = tt
    at absent filled = absurd filled
    at (holds all) filled = take_own 4096 (drop (length bytes) all) p filled

-- a piece that is not full is the last one
pub read_last : (file : Content) (bytes p : List ℕ) → BeginsWith file bytes → IsFilled file (length bytes) 4096 p → length p < 4096 → IsWhole file (bytes ++ p)
read_last untold bytes p begins filled short = tt
read_last absent bytes p begins filled short = absurd filled
read_last (holds all) bytes p begins filled short =
    let rest = drop (length bytes) all in
    let size : length p ≡ min 4096 (length rest) = ap length filled ∙ length-take 4096 rest in
    let whole : p ≡ rest = filled ∙ take_all 4096 rest (omega (arith, size, short)) in
    ap (λ l. bytes ++ l) whole ∙ ap (λ l. l ++ rest) (sym begins) ∙ take-append-drop (length bytes) all

-- a piece of a file that is as it was
pub filled_at : (file now : Content) (place at size : ℕ) (p : List ℕ) → now ≡ file → at ≡ place → size ≡ 4096 → IsFilled now place size p → IsFilled file at 4096 p
filled_at file now place at size p same is full filled =
    subst (λ n. IsFilled file n 4096 p) (sym is) (subst (λ n. IsFilled file place n p) full (subst (λ f. IsFilled f place size p) same filled))

-- a stream goes on after its beginning
pub stream_of : (file : Content) (bytes : List ℕ) → BeginsWith file bytes → (rest : List ℕ) × HasStream file (bytes ++ rest)
stream_of untold bytes begins = ([], tt)
stream_of absent bytes begins = ([], append-nil bytes ∙ nil_from_length bytes begins)
stream_of (holds all) bytes begins = (drop (length bytes) all, ap (λ l. l ++ drop (length bytes) all) (sym begins) ∙ take-append-drop (length bytes) all)

-- the same of a file that was read
pub whole_of : (file : Content) (bytes : List ℕ) (place : ℕ) (p : List ℕ) → IsFilled file place 4096 p → BeginsWith file bytes → (rest : List ℕ) × IsWhole file (bytes ++ rest)
whole_of untold bytes place p filled begins = ([], tt)
whole_of absent bytes place p filled begins = absurd filled
whole_of (holds all) bytes place p filled begins = (drop (length bytes) all, ap (λ l. l ++ drop (length bytes) all) (sym begins) ∙ take-append-drop (length bytes) all)

pub whole_stream : (file : Content) (bytes : List ℕ) → IsWhole file bytes → HasStream file bytes
whole_stream untold bytes whole = tt
whole_stream absent bytes whole = absurd whole
whole_stream (holds all) bytes whole = whole

-- a piece that is not empty is the next element
pub piece_at : (file : Content) (bytes p : List ℕ) → BeginsWith file bytes → IsFilled file (length bytes) 4096 p → 0 < length p → length p ≤ 4096 →
    (rest : List ℕ) × IsWhole file (bytes ++ (p ++ rest)) × ((later : List Element) × (stored_history (p ++ rest) ≡ bytes_at 0 side.Client p ∷ later))
piece_at file bytes p begins filled some short =
    elim (cases_lt (length p) 4096) [
      | inl less ↦
          let none = append-nil p in
          ([], subst (λ l. IsWhole file (bytes ++ l)) (sym none) (read_last file bytes p begins filled less), (end_at 0 side.Client ∷ [], ap stored_history none ∙ last_piece p some short))
      | inr full ↦
          let more = whole_of file (bytes ++ p) (length bytes) p filled (read_more file bytes p begins filled) in
          (more.0, subst (IsWhole file) (append_assoc bytes p more.0) more.1, (stored_history more.0, full_piece p more.0 (omega (arith, full, short))))
    ]

module _ (site : SiteValue) (client : Endpoint) (names : SiftNamesValue) (first : List ℕ → Content) where
  pub of_client : (now : List ℕ → Content) (h : List Element) (cut : Option CutReason) (sifting : Sifting) (f : IsSiftingOf site client names first now h cut sifting) →
      AreJudged site (newcomer client.address) h f.follows.judged
  of_client now h cut sifting f = subst (λ (e : Endpoint). AreJudged site (newcomer e.address) h f.follows.judged) f.of_client f.follows.are_judged

  -- the outputs have what was taken
  pub have_output : (now : List ℕ → Content) (h : List Element) (cut : Option CutReason) (sifting : Sifting) (f : IsSiftingOf site client names first now h cut sifting) →
      HaveOutput site client names first now f.follows.judged []
  have_output now h cut sifting f =
      let js = f.follows.judged in
      let of_lines : file_lines (now names.log) ≡ with_lines (file_lines (first names.log)) (lines site client [] js) =
      f.follows.of_lines ∙ ap (λ (e : Endpoint). with_lines (file_lines (first names.log)) (lines site e [] js)) f.of_client in
      record {
        of_out = f.of_out;
        of_replies = f.of_replies;
        of_log = lines_now (first names.log) (now names.log) (lines site client [] js) f.log_first f.log_now of_lines;
      }

  -- a sifting that nothing cuts
  pub uncut_sifting : (now : List ℕ → Content) (h : List Element) (sifting : Sifting) → IsSiftingAfter site client names first now h None sifting →
      IsSiftingOf site client names first now h None sifting
  uncut_sifting now h sifting after =
      let none = (neither after.by_item _ (sym (cut_known site client names first now h after.by_item sifting after.sifting_of) ∙ after.is_cut)).0 in
      subst (λ c. IsSiftingOf site client names first now h c sifting) none after.sifting_of

-- the file was read whole, up to the element that is next, after which these come
pub record ComesNext (site : SiteValue) (client : Endpoint) (names : SiftNamesValue) (first old now : List ℕ → Content) (sifting : Sifting) (element : Element)
    (later : List Element) : Type 0 where
  pub bytes : List ℕ
  pub whole : IsWhole (old names.stream) bytes
  pub history : List Element
  pub begins : stored_history bytes ≡ history ++ element ∷ later
  pub sifting_of : IsSiftingOf site client names first now history None sifting
  pub uncut : IsUncut site client.address history

module _ {site : SiteValue} {client : Endpoint} {names : SiftNamesValue} {first old now : List ℕ → Content} {sifting : Sifting} {element : Element} {later : List Element}
    (x : ComesNext site client names first old now sifting element later) where
  -- a write failed at it
  pub stops : (new : List ℕ → Content) → FailsElement site names element sifting now new → WriteStops site client names first old new
  stops new fails = record {
    bytes = x.bytes;
    stream = whole_stream (old names.stream) x.bytes x.whole;
    earlier = x.history;
    element = element;
    later = later;
    begins = x.begins;
    uncut = x.uncut;
    judged = x.sifting_of.follows.judged;
    are_judged = of_client site client names first now x.history None sifting x.sifting_of;
    fails = fails client first x.history x.sifting_of;
  }

  -- it was taken: the stream is cut after it, or ends with it
  pub ends : HasOneJudgement → (new : List ℕ → Content) (last : Sifting) (cut : Option CutReason) → (cut ≡ None → later ≡ []) →
      TakesElement site names element sifting last now new cut → IsTakenWhole site client names first old new cut last
  ends one new last cut all takes =
      let after = takes client first x.history x.sifting_of in
      record {
        bytes = x.bytes;
        whole = x.whole;
        earlier = x.history;
        element = element;
        uncut = x.uncut;
        judged = x.sifting_of.follows.judged;
        are_judged = of_client site client names first now x.history None sifting x.sifting_of;
        after = after;
        goes = goes_up one site client.address (stored_history x.bytes) x.history later element cut after.sifting_of.follows.judged x.uncut
            (x.begins ∙ sym (append_assoc x.history (element ∷ []) later))
            (of_client site client names first new (x.history ++ element ∷ []) after.by_item last after.sifting_of) after.is_cut all;
      }

module _ (site : SiteValue) (client : Endpoint) (names : SiftNamesValue) (first : List ℕ → Content) where
  module _ (one : HasOneJudgement) where
    -- before the first piece
    pub starts : (old : List ℕ → Content) (sifting : Sifting) → IsReady site sifting → IsSiftingOf site client names first old [] None sifting →
        IsTakenTo site client names first old old 0 sifting
    starts old sifting ready f = record {
      bytes = [];
      size = refl;
      begins = nothing_read (old names.stream);
      history = [];
      goes_on = λ rest. refl;
      sifting_of = f;
      uncut = λ front back ks is are.
          let none = (no_parts front back (sym is)).0 in
          let same : ks ≡ f.follows.judged = one site (newcomer client.address) [] ks f.follows.judged (subst (λ l. AreJudged site (newcomer client.address) l ks) none are) (of_client site client names first old [] None sifting f) in
          ap (λ l. cut_behind site l ks) none ∙ ap (cut_behind site []) same ∙ cut_known site client names first old [] None sifting f
          ∙ limit_none LETTER_LIMIT sifting.heard.letters 0 (queue_length sifting.to_client) (queue_length sifting.to_controller) ready.few (omega arith) ready.client.few ready.controller.few;
    }
      where
        nothing_read : (file : Content) → BeginsWith file []
        nothing_read untold = tt
        nothing_read absent = refl
        nothing_read (holds all) = refl

    module _ (old now : List ℕ → Content) (at : ℕ) (sifting : Sifting) (t : IsTakenTo site client names first old now at sifting) where
      -- a read failed
      pub read_stops : ReadStops site client names first old now
      read_stops =
          let more = stream_of (old names.stream) t.bytes t.begins in
          record {
            bytes = t.bytes ++ more.0;
            stream = more.1;
            history = t.history;
            later = stored_history more.0;
            begins = t.goes_on more.0;
            uncut = t.uncut;
            judged = t.sifting_of.follows.judged;
            are_judged = of_client site client names first now t.history None sifting t.sifting_of;
            have = have_output site client names first now t.history None sifting t.sifting_of;
          }

      module _ (p : List ℕ) (filled : IsFilled (old names.stream) (length t.bytes) 4096 p) where
        -- it is not empty: it is next
        pub piece_next : 0 < length p → length p ≤ 4096 → (later : List Element) × ComesNext site client names first old now sifting (bytes_at 0 side.Client p) later
        piece_next some short =
            let (rest, whole, (later, splits)) = piece_at (old names.stream) t.bytes p t.begins filled some short in (
              later,
              record {
                bytes = t.bytes ++ (p ++ rest);
                whole = whole;
                history = t.history;
                begins = t.goes_on (p ++ rest) ∙ ap (λ l. t.history ++ l) splits;
                sifting_of = t.sifting_of;
                uncut = t.uncut;
              },
            )

        -- it is empty: End is next
        pub none_next : length p ≡ 0 → ComesNext site client names first old now sifting (end_at 0 side.Client) []
        none_next none = record {
          bytes = t.bytes ++ p;
          whole = read_last (old names.stream) t.bytes p t.begins filled (omega (arith, none));
          history = t.history;
          begins = t.goes_on p ∙ ap (λ l. t.history ++ stored_history l) (nil_from_length p none);
          sifting_of = t.sifting_of;
          uncut = t.uncut;
        }

        -- it was taken, and nothing cuts after it
        module _ (new : List ℕ → Content) (last : Sifting) (after : IsSiftingAfter site client names first new (t.history ++ bytes_at 0 side.Client p ∷ []) None last) where
          stays_uncut : IsUncut site client.address (t.history ++ bytes_at 0 side.Client p ∷ [])
          stays_uncut =
              uncut_more one site client.address t.history (bytes_at 0 side.Client p) after.sifting_of.follows.judged t.uncut
              (of_client site client names first new (t.history ++ bytes_at 0 side.Client p ∷ []) after.by_item last after.sifting_of) after.is_cut

          pub goes_on : length p ≡ 4096 → IsTakenTo site client names first old new (at + length p) last
          goes_on full = record {
            bytes = t.bytes ++ p;
            size = length-append t.bytes p ∙ ap (λ n. n + length p) t.size;
            begins = read_more (old names.stream) t.bytes p t.begins filled;
            history = t.history ++ bytes_at 0 side.Client p ∷ [];
            goes_on = λ rest. ap stored_history (append_assoc t.bytes p rest) ∙ t.goes_on (p ++ rest) ∙ ap (λ l. t.history ++ l) (full_piece p rest full)
                ∙ sym (append_assoc t.history (bytes_at 0 side.Client p ∷ []) (stored_history rest));
            sifting_of = uncut_sifting site client names first new (t.history ++ bytes_at 0 side.Client p ∷ []) last after;
            uncut = stays_uncut;
          }

          -- it is not full: End is next
          pub last_next : 0 < length p → length p < 4096 → ComesNext site client names first old new last (end_at 0 side.Client) []
          last_next some short = record {
            bytes = t.bytes ++ p;
            whole = read_last (old names.stream) t.bytes p t.begins filled short;
            history = t.history ++ bytes_at 0 side.Client p ∷ [];
            begins = t.goes_on p ∙ ap (λ l. t.history ++ l) (last_piece p some (omega (arith, short)))
                ∙ sym (append_assoc t.history (bytes_at 0 side.Client p ∷ []) (end_at 0 side.Client ∷ []));
            sifting_of = uncut_sifting site client names first new (t.history ++ bytes_at 0 side.Client p ∷ []) last after;
            uncut = stays_uncut;
          }
