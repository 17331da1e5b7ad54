-- What a session puts in the log follows from its own answers and its end.
use Rattle.cf_lane.specs.Caller.{RateMoments, caller_at}
use Rattle.std.proofs.Common.{List, ap, inl, inr, subst, sym, ℕ, ◌∙◌, ◌≡◌, ◌++◌, ◌∷◌, true, []}
use Rattle.cf_lane.specs.Judged.{Judged}
use Rattle.cf_lane.specs.Laws.{HasOneJudgement}
use Rattle.cf_outside.specs.Pair.{Entry}
use Rattle.cf_relay.specs.Answers.{client_of, given, history_of}
use Rattle.cf_relay.specs.Ends.{close_line, cut_line, log_of}
use Rattle.cf_relay.specs.Stands.{IsCounted}
use Rattle.cf_relay.specs.Turn.{AreItemsOf, DoesStages, stages}
use Rattle.cf_relay.specs.declared.directions.Directions.TheVariants as both
use Rattle.cf_links.specs.Links.{answers_of}
use Rattle.cf_view.specs.declared.Endpoint.{Endpoint}
use Rattle.cf_serve.specs.Laws.{AreRelayed, EachIsAlone, IsolatesSessions, was_relayed}
use Rattle.cf_serve.specs.Rounds.{ends_in, lines_in, turns_of}
use Rattle.cf_serve.specs.Session.{EndsSo, IsSession, Listening, StandsSo, lost_line, silent_line}
use Rattle.cf_serve.specs.declared.end.SessionEnd.{SessionEnd}
use Rattle.cf_serve.specs.declared.end.SessionEnd.TheVariants as end

-- a relay that has made its turns has met a client
not_unmet : (at : Listening) (before : RateMoments) (most turns : ℕ) (es : List Entry) → es ≡ [] → DoesStages at.site before most (stages both.Separate at.port turns) [] es → ⊥
not_unmet at before most turns es none (now, next, split, (goes, (client, is)), later) = cc

-- numbers of the same items are the same, and so is a line that has them
counted_as : (js ks : List Judged) (a b : ℕ) → js ≡ ks → IsCounted js a b → IsCounted ks a b
counted_as js ks a b is = subst (λ xs. IsCounted xs a b) is

same_by : (line : ℕ → ℕ → List ℕ) (ks : List Judged) (a b c d : ℕ) → IsCounted ks a b → IsCounted ks c d → line a b ≡ line c d
same_by line ks a b c d one two =
    ap (λ x. line x b) (one.admitted ∙ sym two.admitted) ∙ ap (line c) (one.refused ∙ sym two.refused)

same_line : (line : ℕ → ℕ → List ℕ) (js ks : List Judged) (a b c d : ℕ) → js ≡ ks → IsCounted js a b → IsCounted ks c d → line a b ≡ line c d
same_line line js ks a b c d is one two = same_by line ks a b c d (counted_as js ks a b is one) two

module _ (law : HasOneJudgement) (at : Listening) (before : RateMoments) (most : ℕ) (es : List Entry) where
  one_judgement : (js ks : List Judged) → AreItemsOf at.site before es js → AreItemsOf at.site before es ks → js ≡ ks
  one_judgement = law at.site (caller_at (client_of es).address before) (history_of es)

  -- the lines of the items, and a last one
  with_one : (js ks : List Judged) (line other : List ℕ) → js ≡ ks → line ≡ other → log_of at.site es js ++ line ∷ [] ≡ log_of at.site es ks ++ other ∷ []
  with_one js ks line other is same = ap (λ xs. log_of at.site es xs ++ line ∷ []) is ∙ ap (λ l. log_of at.site es ks ++ l ∷ []) same

  stands_alone : (own other : List (List ℕ)) → StandsSo at before most es own → StandsSo at before most es other → own ≡ other
  stands_alone own other (inl (none, o)) (inl (again, p)) = o ∙ sym p
  stands_alone own other (inl (none, o)) (inr (turns, (does, (goes, p)))) = absurd (not_unmet at before most turns es none does)
  stands_alone own other (inr (turns, (does, (goes, o)))) (inl (none, p)) = absurd (not_unmet at before most turns es none does)
  stands_alone own other (inr (turns, (does, (goes, o)))) (inr (turns', (does', (goes', p)))) =
      o ∙ ap (log_of at.site es) (one_judgement goes.judged goes'.judged goes.are_items goes'.are_items) ∙ sym p

  ends_alone : (client client' : Endpoint) (own other : List (List ℕ)) (e : SessionEnd) → was_relayed e ≡ true →
      EndsSo at before most client es own e → EndsSo at before most client' es other e → own ≡ other
  ends_alone client client' own other end.Closed relayed (d, one) (d', two) =
      let is : one.goes.judged ≡ two.goes.judged = one_judgement one.goes.judged two.goes.judged one.goes.are_items two.goes.are_items in
      one.holds_log
      ∙ with_one one.goes.judged two.goes.judged (close_line at.site es d.admitted d.refused) (close_line at.site es d'.admitted d'.refused) is
      (same_line (close_line at.site es) one.goes.judged two.goes.judged d.admitted d.refused d'.admitted d'.refused is one.counts two.counts)
      ∙ sym two.holds_log
  ends_alone client client' own other (end.Cut reason) relayed (d, one) (d', two) =
      one.holds_log
      ∙ ap (λ xs. log_of at.site es xs ++ cut_line at.site es reason ∷ []) (one_judgement one.judged two.judged one.are_items two.are_items)
      ∙ sym two.holds_log
  ends_alone client client' own other end.Silent relayed (d, one) (d', two) =
      let is : one.judged ≡ two.judged = one_judgement one.judged two.judged one.are_items two.are_items in
      one.holds_log
      ∙ with_one one.judged two.judged (silent_line at.site es d.admitted d.refused) (silent_line at.site es d'.admitted d'.refused) is
      (same_line (silent_line at.site es) one.judged two.judged d.admitted d.refused d'.admitted d'.refused is one.counts two.counts)
      ∙ sym two.holds_log
  ends_alone client client' own other end.Lost relayed one two =
      let is : one.ended.goes.judged ≡ two.ended.goes.judged =
      one_judgement one.ended.goes.judged two.ended.goes.judged one.ended.goes.are_items two.ended.goes.are_items in
      one.ended.holds_log
      ∙ with_one one.ended.goes.judged two.ended.goes.judged (lost_line at.site es one.admitted one.refused) (lost_line at.site es two.admitted two.refused) is
      (same_line (lost_line at.site es) one.ended.goes.judged two.ended.goes.judged one.admitted one.refused two.admitted two.refused is one.counts two.counts)
      ∙ sym two.ended.holds_log
  ends_alone client client' own other end.Unreached relayed one two = cc
  ends_alone client client' own other end.Gone relayed one two = cc
  ends_alone client client' own other end.Again relayed one two = cc
  ends_alone client client' own other end.NoMemory relayed one two = cc

  alone : (client client' : Endpoint) (own other : List (List ℕ)) (ends : List SessionEnd) → AreRelayed ends →
      IsSession at before most client es own ends → IsSession at before most client' es other ends → own ≡ other
  alone client client' own other [] relayed one two = stands_alone own other one two
  alone client client' own other (e ∷ more) relayed one two = ends_alone client client' own other e relayed one.1 two.1

pub each_alone : HasOneJudgement → EachIsAlone
each_alone law at before most client client' es own other ends relayed one two = alone law at before most es client client' own other ends relayed one two

moved : (at : Listening) (before : RateMoments) (most : ℕ) (client : Endpoint) (own : List (List ℕ)) (es fs : List Entry) (ends others : List SessionEnd) → es ≡ fs → ends ≡ others →
    IsSession at before most client es own ends → IsSession at before most client fs own others
moved at before most client own es fs ends others p q s = subst (λ e. IsSession at before most client fs own e) q (subst (λ e. IsSession at before most client e own ends) p s)

pub isolates : HasOneJudgement → IsolatesSessions
isolates law places others at before most entries other_entries lines other_lines one two k l client client' mine theirs same ends relayed = (
  λ s. ap (given s) same,
  alone law at before most (answers_of l other_entries) client client' (lines_in k (turns_of one.rounds)) (lines_in l (turns_of two.rounds)) (ends_in l (turns_of two.rounds)) relayed
      (moved at before most client (lines_in k (turns_of one.rounds)) (answers_of k entries) (answers_of l other_entries) (ends_in k (turns_of one.rounds)) (ends_in l (turns_of two.rounds)) same ends mine)
      theirs,
)
