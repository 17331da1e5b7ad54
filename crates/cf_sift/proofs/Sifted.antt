-- A stored stream from the creation of its outputs to the line of its cut.
use Rattle.cf_lane.specs.Caller.{none_before}
use Rattle.std.proofs.Common.{◌≡◌, ℕ, true, false, None, Some, Option, Result, Ok, Err, List, [], ◌∷◌, ◌++◌, map, refl, sym, ap, ◌∙◌, append_assoc, subst, inl, inr}
use Rattle.std.specs.Prelude.{IsErrAnd, IsErrOf, IsSome}
use Rattle.cf_audit.specs.declared.line.CutReason.{CutReason}
use Rattle.cf_lane.specs.Follows.{Follows}
use Rattle.cf_lane.specs.Handled.{MayHaveMore, state}
use Rattle.cf_lane.specs.History.{Element}
use Rattle.cf_lane.specs.Item.{Placed}
use Rattle.cf_lane.specs.Judged.{Judged, place_of}
use Rattle.cf_lane.specs.Log.{lines, with_lines}
use Rattle.cf_lane.specs.Output.{outputs}
use Rattle.cf_outside.specs.Files.{Content, IsWhole, with_appended}
use Rattle.cf_outside.specs.Frames.{KeepsOtherFiles}
use Rattle.cf_outside.specs.Lines.{ends_with_line, file_lines, file_part}
use Rattle.cf_outside.proofs.Content.{with_appended-nothing}
use Rattle.cf_outside.proofs.Lines.{ends_with_line-create}
use Rattle.cf_policy.specs.Site.{SiteValue}
use Rattle.cf_view.specs.declared.Endpoint.{Endpoint}
use Rattle.cf_view.specs.declared.Side.TheVariants as side
use Rattle.cf_sift.specs.Sifting.{IsSiftingOf, client_rests, state_of}
use Rattle.cf_sift.specs.Names.{AreApart, SiftNamesValue, sift_output_names}
use Rattle.cf_sift.specs.Outputs.{AreCreated}
use Rattle.cf_sift.specs.Sifted.{HasLines, HasLinesThen, IsReadUpTo, IsSifted, IsWrittenUpTo, SiftEnds, created, cut_lines, stored_client}
use Rattle.cf_sift.specs.Stream.{HasStream}
use Rattle.cf_sift.specs.Taken.{IsTakenWhole, ReadStops, WriteStops}
use Rattle.cf_sift.specs.declared.sifting.Sifting.{Sifting}
use Rattle.cf_sift.specs.declared.sift.SiftDone.{SiftDone}
use Rattle.cf_sift.specs.declared.sift.SiftFault.{SiftFault}
use Rattle.cf_sift.specs.declared.sift.SiftFault.TheVariants as fault
use Rattle.cf_sift.proofs.Logs.{lines_all, lines_then, lines_told}
use Rattle.cf_sift.proofs.Streams.{of_client, whole_stream}

-- no items are judged of no elements
none_judged : (js : List Judged) (dropped : List Placed) → [] ≡ map place_of js ++ dropped → js ≡ []
none_judged [] dropped is = refl
none_judged (j ∷ js) dropped is = cc

with_lines-twice : (log : Option (List (List ℕ))) (xs ys : List (List ℕ)) → with_lines (with_lines log xs) ys ≡ with_lines log (xs ++ ys)
with_lines-twice None xs ys = refl
with_lines-twice (Some all) xs ys = ap Some (append_assoc all xs ys)

-- a log got lines and then more of them
pub lines_more : (first mid now : Content) (ls more : List (List ℕ)) → ends_with_line first ≡ true → ends_with_line now ≡ true →
    file_lines mid ≡ with_lines (file_lines first) ls → file_lines now ≡ with_lines (file_lines mid) more → HasLines (ls ++ more) first now
lines_more first mid now ls more f n is then_more =
    lines_told first now (ls ++ more) f n (then_more ∙ ap (λ log. with_lines log more) is ∙ with_lines-twice (file_lines first) ls more)

-- or a beginning of them
pub lines_partly : (first mid now : Content) (ls more : List (List ℕ)) → ends_with_line first ≡ true → file_lines mid ≡ with_lines (file_lines first) ls →
    MayHaveMore more (file_lines mid) (file_lines now) (file_part now) → HasLinesThen ls more first now
lines_partly first mid now ls more f is (inl (same, (k, part))) = lines_then first now ls more k f (same ∙ is) part
lines_partly first mid now ls more f is (inr (all, part)) =
    lines_all first now ls more f (all ∙ ap (λ log. with_lines log more) is ∙ with_lines-twice (file_lines first) ls more) part

module _ (site : SiteValue) (client : ℕ) (names : SiftNamesValue) (before mid : List ℕ → Content) (are : AreCreated before mid (sift_output_names names))
    (kept : KeepsOtherFiles (sift_output_names names) before mid) (apart : AreApart names) where
  abbrev who : Endpoint
  who = stored_client client

  -- the sifting before the first piece
  pub starts_sifting : (sifting : Sifting) → ((first : Option (List (List ℕ))) → Follows site none_before [] (client_rests sifting.heard.rest.items) None first (state sifting.lane sifting.to_client sifting.to_controller first)) →
      sifting.lane.client ≡ who → sifting.heard.letters ≡ 0 → sifting.to_controller.ended ≡ false → IsSiftingOf site who names (created before) mid [] None sifting
  starts_sifting sifting follows same letters goes =
      let f = subst (λ (l : Content). Follows site none_before [] (client_rests sifting.heard.rest.items) None (file_lines (created before names.log)) (state_of sifting l))
      (sym are.1.1.0) (follows (file_lines (created before names.log))) in
      let none : f.judged ≡ [] = none_judged f.judged f.are_judged.dropped (sym f.are_judged.are_items ∙ f.are_judged.are_first) in
      record {
        follows = f;
        of_client = same;
        of_out = are.0 ∙ sym (with_appended-nothing (created before names.out)) ∙ ap (λ js. with_appended (created before names.out) (outputs site side.Controller [] js)) (sym none);
        of_replies = are.1.0 ∙ sym (with_appended-nothing (created before names.replies)) ∙ ap (λ js. with_appended (created before names.replies) (outputs site side.Client [] js)) (sym none);
        log_first = ends_with_line-create (before names.log);
        log_now = ap ends_with_line are.1.1.0 ∙ ends_with_line-create (before names.log);
        letters = letters;
        ends = goes;
        quiet = refl;
      }

  same_stream : mid names.stream ≡ before names.stream
  same_stream = kept names.stream (apart.stream_out, (apart.stream_replies, (apart.stream_log, tt)))

  kept_both : (new : List ℕ → Content) → KeepsOtherFiles (sift_output_names names) mid new → KeepsOtherFiles (sift_output_names names) before new
  kept_both new more other none = more other none ∙ kept other none

  pub read_ends : (new : List ℕ → Content) → KeepsOtherFiles (sift_output_names names) mid new → ReadStops site who names (created before) mid new →
      IsReadUpTo site client names before new
  read_ends new more s = record {
    bytes = s.bytes;
    stream = subst (λ f. HasStream f s.bytes) same_stream s.stream;
    history = s.history;
    later = s.later;
    begins = s.begins;
    uncut = s.uncut;
    judged = s.judged;
    are_judged = s.are_judged;
    have = s.have;
    others = kept_both new more;
  }

  pub write_ends : (new : List ℕ → Content) → KeepsOtherFiles (sift_output_names names) mid new → WriteStops site who names (created before) mid new →
      IsWrittenUpTo site client names before new
  write_ends new more s = record {
    bytes = s.bytes;
    stream = subst (λ f. HasStream f s.bytes) same_stream s.stream;
    earlier = s.earlier;
    element = s.element;
    later = s.later;
    begins = s.begins;
    uncut = s.uncut;
    judged = s.judged;
    are_judged = s.are_judged;
    fails = s.fails;
    others = kept_both new more;
  }

  -- a fault of the stream is the fault of the call
  pub fault_ends : (new : List ℕ → Content) (s : Result (Option CutReason) SiftFault) (x : SiftFault) (r : Result SiftDone SiftFault) →
      KeepsOtherFiles (sift_output_names names) mid new → s ≡ Err x → IsErrAnd r (λ y. y ≡ x) →
      (IsErrOf s fault.Read → ReadStops site who names (created before) mid new) →
      (IsErrOf s fault.Write → WriteStops site who names (created before) mid new) → (IsErrOf s fault.NoMemory → ⊥) →
      SiftEnds site client names before new r
  fault_ends new s x (Ok d) more is same reads writes memory = absurd same
  fault_ends new s fault.Read (Err y) more is same reads writes memory =
      subst (λ z. SiftEnds site client names before new (Err z)) (sym same) (read_ends new more (reads (subst (λ q. IsErrOf q fault.Read) (sym is) refl)))
  fault_ends new s fault.Write (Err y) more is same reads writes memory =
      subst (λ z. SiftEnds site client names before new (Err z)) (sym same) (inr (write_ends new more (writes (subst (λ q. IsErrOf q fault.Write) (sym is) refl))))
  fault_ends new s fault.NoMemory (Err y) more is same reads writes memory = absurd (memory (subst (λ q. IsErrOf q fault.NoMemory) (sym is) refl))

  module _ (done : List ℕ → Content) (cut : Option CutReason) (sifting : Sifting) (t : IsTakenWhole site who names (created before) mid done cut sifting)
      (kept_done : KeepsOtherFiles (sift_output_names names) mid done) where
    abbrev js : List Judged
    js = t.after.sifting_of.follows.judged

    abbrev h : List Element
    h = t.earlier ++ t.element ∷ []

    told_lines : file_lines (done names.log) ≡ with_lines (file_lines (created before names.log)) (lines site who [] js)
    told_lines = t.after.sifting_of.follows.of_lines
        ∙ ap (λ (e : Endpoint). with_lines (file_lines (created before names.log)) (lines site e [] js)) t.after.sifting_of.of_client

    whole : IsWhole (before names.stream) t.bytes
    whole = subst (λ f. IsWhole f t.bytes) same_stream t.whole

    log_apart : (new : List ℕ → Content) → KeepsOtherFiles (names.log ∷ []) done new → KeepsOtherFiles (sift_output_names names) before new
    log_apart new kept_log other none = kept_log other (none.1.1.0, tt) ∙ kept_done other none ∙ kept other none

    -- all is written, and the line of the cut
    pub sifted : (new : List ℕ → Content) (admitted refused : ℕ) → KeepsOtherFiles (names.log ∷ []) done new →
        file_lines (new names.log) ≡ with_lines (file_lines (done names.log)) (cut_lines site who cut) → ends_with_line (new names.log) ≡ true →
        admitted ≡ sifting.lane.admitted → refused ≡ sifting.lane.refused →
        IsSifted site client names before new (record { cut = cut; admitted = admitted; refused = refused })
    sifted new admitted refused kept_log more ends a r = record {
      bytes = t.bytes;
      whole = whole;
      history = h;
      judged = js;
      goes = t.goes;
      have = record {
        of_out = kept_log names.out (apart.out_log, tt) ∙ t.after.sifting_of.of_out;
        of_replies = kept_log names.replies (apart.replies_log, tt) ∙ t.after.sifting_of.of_replies;
        of_log = lines_more (created before names.log) (done names.log) (new names.log) (lines site who [] js) (cut_lines site who cut)
            (ends_with_line-create (before names.log)) ends told_lines more;
      };
      admitted = a ∙ t.after.sifting_of.follows.knows.admitted;
      refused = r ∙ t.after.sifting_of.follows.knows.refused;
      others = log_apart new kept_log;
    }

    -- the line of the cut failed
    pub cut_fails : (new : List ℕ → Content) (why : CutReason) → cut ≡ Some why → KeepsOtherFiles (names.log ∷ []) done new →
        MayHaveMore (cut_lines site who cut) (file_lines (done names.log)) (file_lines (new names.log)) (file_part (new names.log)) →
        IsWrittenUpTo site client names before new
    cut_fails new why is kept_log more = record {
      bytes = t.bytes;
      stream = whole_stream (before names.stream) t.bytes whole;
      earlier = t.earlier;
      element = t.element;
      later = t.goes.later;
      begins = t.goes.begins ∙ append_assoc t.earlier (t.element ∷ []) t.goes.later;
      uncut = t.uncut;
      judged = t.judged;
      are_judged = t.are_judged;
      fails = inr (inr (inr (record {
        judged = js;
        are_judged = of_client site who names (created before) done h t.after.by_item sifting t.after.sifting_of;
        reason = why;
        is_cut = t.after.is_cut ∙ is;
        of_out = kept_log names.out (apart.out_log, tt) ∙ t.after.sifting_of.of_out;
        of_replies = kept_log names.replies (apart.replies_log, tt) ∙ t.after.sifting_of.of_replies;
        of_log = lines_partly (created before names.log) (done names.log) (new names.log) (lines site who [] js) (cut_lines site who (Some why))
            (ends_with_line-create (before names.log)) told_lines
            (subst (λ c. MayHaveMore (cut_lines site who c) (file_lines (done names.log)) (file_lines (new names.log)) (file_part (new names.log))) is more);
      })));
      others = log_apart new kept_log;
    }

    pub some_fails : (new : List ℕ → Content) → IsSome cut → KeepsOtherFiles (names.log ∷ []) done new →
        MayHaveMore (cut_lines site who cut) (file_lines (done names.log)) (file_lines (new names.log)) (file_part (new names.log)) →
        IsWrittenUpTo site client names before new
    some_fails new some kept_log more = by_case cut refl some
      where
        by_case : (c : Option CutReason) → cut ≡ c → IsSome c → IsWrittenUpTo site client names before new
        by_case None is some = cc
        by_case (Some why) is some = cut_fails new why is kept_log more
