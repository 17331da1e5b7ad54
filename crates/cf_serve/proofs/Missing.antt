-- A line that failed, and what it leaves of its session.
use Rattle.cf_lane.specs.Caller.{RateMoments}
use Rattle.std.proofs.Common.{Err, List, None, Ok, Option, Result, Some, ap, inl, inr, refl, subst, sym, ℕ, ◌++◌, ◌<◌, ◌∙◌, ◌∷◌, ◌≡◌, []}
use Rattle.std.specs.Prelude.{OnErr, take}
use Rattle.std.proofs.lemmas.List.{append-nil, append_assoc}
use Rattle.std.proofs.lemmas.Option.{same_Some}
use Rattle.cf_audit.specs.Line.{Begun}
use Rattle.cf_lane.specs.Handled.{MayHaveMore}
use Rattle.cf_lane.specs.Log.{line_about, with_lines}
use Rattle.cf_links.specs.Links.{LinksEntry, SessionTold, with_answers, with_entry}
use Rattle.cf_outside.specs.Pair.{Entry, Moment, met_at}
use Rattle.cf_relay.proofs.Lined.{lines_both, lines_none}
use Rattle.cf_relay.proofs.Starting.{write_told}
use Rattle.cf_relay.proofs.Turned.{stopped_write}
use Rattle.cf_relay.specs.Closing.{BeginsLines}
use Rattle.cf_relay.specs.Relaying.{RelayingValue}
use Rattle.cf_relay.specs.Turned.{HasStopped}
use Rattle.cf_relay.specs.declared.directions.Directions.TheVariants as both
use Rattle.cf_relay.specs.declared.stop.Stop.TheVariants as stop
use Rattle.cf_view.specs.declared.Endpoint.{Endpoint}
use Rattle.cf_view.specs.declared.WriteFault.{WriteFault}
use Rattle.cf_serve.proofs.Reaching.{told_as, told_more}
use Rattle.cf_serve.specs.Broken.{BeginsLine, FailsSo, own_begun}
use Rattle.cf_lane.specs.Ring.{RingValue}
use Rattle.cf_relay.specs.Answers.{history_of}
use Rattle.cf_serve.specs.Failing.{EndsTurn, MissesReach, MissesTurn, TakesNone}
use Rattle.cf_serve.specs.Phase.{LinkedValue, StandsAs, TurnDoes}
use Rattle.cf_serve.specs.Session.{EndsSo, Listening}
use Rattle.cf_serve.specs.declared.end.SessionEnd.{SessionEnd}

-- ---- the line

pub begins_line : (line : List ℕ) (old new : Option (List (List ℕ))) (part : List ℕ) → MayHaveMore (line ∷ []) old new part →
    (whole : List (List ℕ)) × ((new ≡ with_lines old whole) × BeginsLine line whole part)
begins_line line old new part (inl (same, (k, some))) = ([], (same ∙ lines_none old, inl (refl, (k, some ∙ ap (take k) (append-nil line)))))
begins_line line old new part (inr (added, none)) = (line ∷ [], (added, inr (refl, none)))

own_more : (line : List ℕ) (whole : List (List ℕ)) (part : List ℕ) → BeginsLine line whole part → MayHaveMore (line ∷ []) (Some []) (Some whole) part
own_more line whole part (inl (none, (k, some))) = inl (ap Some none, (k, some ∙ ap (take k) (sym (append-nil line))))
own_more line whole part (inr (all, none)) = inr (ap Some all, none)

own_begins : (own : List (List ℕ)) (part : List ℕ) (ls : List (List ℕ)) → BeginsLines (Some []) (Some own) part ls → (own_begun own part).Begins ls
own_begins own part ls (count, some, is, rest) = (count, some, same_Some _ _ is, rest)

pub last_fails : (at : Listening) (past : RateMoments) (most : ℕ) (client : Endpoint) (es : List Entry) (before : List (List ℕ)) (line : List ℕ) (whole : List (List ℕ)) (part : List ℕ) (e : SessionEnd) →
    EndsSo at past most client es (before ++ line ∷ []) e → BeginsLine line whole part → FailsSo at past most client es (before ++ whole) part
last_fails at past most client es before line whole part e ends begins =
    inl (record { end = e; before = before; line = line; ends = ends; whole = whole; own_is = refl; begins = begins })

module _ {at : Listening} {most : ℕ} {client : Endpoint} {told after : SessionTold} {log mid log' : Option (List (List ℕ))} {line : List ℕ} {old new : Option LinkedValue} {e : SessionEnd}
    (t : EndsTurn at most client told after log mid line old new e) where
  -- the last line was put
  pub last_put : (left : Option (List (List RingValue))) → log' ≡ with_lines mid (line ∷ []) → TurnDoes at left most client told after log log' old new (Some e)
  last_put left put = record {
    answers = t.answers;
    tells = t.tells;
    leaves = λ before es own begins stands.
        let x = t.ends before es own stands in
        (x.0 ++ line ∷ [], (simp (put, x.1.0, lines_both), (subst (λ (ls : List (List ℕ)). EndsSo at before most client (es ++ t.answers) ls e) (append_assoc own x.0 (line ∷ [])) x.1.1.0, x.1.1.1)));
  }

  -- it failed
  pub last_missed : {part : List ℕ} → MayHaveMore (line ∷ []) mid log' part → (v : LinkedValue) → old ≡ Some v → MissesTurn at most client told after log log' part old
  last_missed {part = part} may v is =
      let w = begins_line line mid log' part may in
      record {
        answers = t.answers;
        tells = t.tells;
        fails = λ before es own stands.
            let x = t.ends before es own stands in (
              x.0 ++ w.0,
              (
                simp (w.1.0, x.1.0, lines_both),
                (
                  subst (λ (ls : List (List ℕ)). FailsSo at before most client (es ++ t.answers) ls part) (append_assoc own x.0 w.0)
                      (last_fails at before most client (es ++ t.answers) (own ++ x.0) line w.0 part e x.1.1.0 w.1.1),
                  subst (λ (o : Option LinkedValue). TakesNone o (es ++ t.answers)) (sym is) tt,
                ),
              ),
            );
      }

module _ (at : Listening) (most : ℕ) (client : Endpoint) where
  -- ---- a line amid a turn

  pub write_fails : (before : RateMoments) (met : Endpoint) (m : ℕ) (answers : List Entry) (now : RelayingValue) (own : List (List ℕ)) (part : List ℕ) →
      HasStopped both.Separate at.site before at.port most met m (Some []) answers stop.Write now (Some own) part →
      FailsSo at before most client (met_at at.port at.site.first.endpoint met ∷ Moment m ∷ answers) own part
  write_fails before met m answers now own part h =
      inr (stopped_write both.Separate at.site before at.port most met m (Some []) answers now (Some own) part (own_begun own part) h (own_begins own part))

  -- ---- as a controller is asked for

  -- the open line
  pub open_fails : (before : RateMoments) (few : 0 < most) (met : Endpoint) (m : ℕ) (whole : List (List ℕ)) (part : List ℕ) → BeginsLine (line_about at.site.first met m Begun) whole part →
      FailsSo at before most client (met_at at.port at.site.first.endpoint met ∷ Moment m ∷ []) whole part
  open_fails before few met m whole part begins =
      inr (write_told both.Separate at.site before at.port most few (own_begun whole part) met m (Some []) (Some whole) part (own_more (line_about at.site.first met m Begun) whole part begins) (own_begins whole part))

  module _ (earlier : List Entry) (told after : SessionTold) (log log' : Option (List (List ℕ))) (part : List ℕ) (answers : List Entry)
      (tells : after ≡ with_answers told answers) (quiet : history_of (earlier ++ answers) ≡ []) (line : List ℕ) (may : MayHaveMore (line ∷ []) log log' part) where
    pub reach_missed : ((before : RateMoments) (whole : List (List ℕ)) → BeginsLine line whole part → FailsSo at before most client (earlier ++ answers) whole part) →
        MissesReach at most client earlier told after log log' part
    reach_missed fails =
        let w = begins_line line log log' part may in
        record { answers = answers; lines = w.0; tells = tells; added = w.1.0; fails = λ before. fails before w.0 w.1.1; quiet = quiet }

    -- a line with which it ends
    pub end_missed : (e : SessionEnd) → ((before : RateMoments) → EndsSo at before most client (earlier ++ answers) (line ∷ []) e) → MissesReach at most client earlier told after log log' part
    end_missed e ends = reach_missed (λ before whole begins. last_fails at before most client (earlier ++ answers) [] line whole part e (ends before) begins)

  module _ (session : ℕ) (list : Option (List LinksEntry)) (after : SessionTold) (log log' : Option (List (List ℕ))) (part : List ℕ) where
    -- an answer and what came then
    pub then_missed : (earlier : List Entry) (mid : SessionTold) (x : Entry) {A : Type 0} (r : Result A WriteFault) → mid ≡ with_entry (told_as session list) x →
        OnErr r (MissesReach at most client (earlier ++ x ∷ []) mid after log log' part) → OnErr r (MissesReach at most client earlier (told_as session list) after log log' part)
    then_missed earlier mid x (Ok v) is does = tt
    then_missed earlier mid x (Err e) is does = record {
      answers = x ∷ does.answers;
      lines = does.lines;
      tells = does.tells ∙ ap (λ t. with_answers t does.answers) is ∙ told_more session list x does.answers;
      added = does.added;
      fails = λ before. subst (λ (es : List Entry). FailsSo at before most client es does.lines part) (append_assoc earlier (x ∷ []) does.answers) (does.fails before);
      quiet = subst (λ (es : List Entry). history_of es ≡ []) (append_assoc earlier (x ∷ []) does.answers) does.quiet;
    }

    -- in the turn of a session
    pub turn_missed : (o : Option LinkedValue) → o ≡ None → MissesReach at most client [] (told_as session list) after log log' part →
        MissesTurn at most client (told_as session list) after log log' part o
    turn_missed o none does = record {
      answers = does.answers;
      tells = does.tells;
      fails = λ before es own h.
          let n : (es ≡ []) × (own ≡ []) = subst (λ x. StandsAs at before most es own x) none h in
          (does.lines, (does.added, rw (n.0, n.1, none) (does.fails before, does.quiet)));
    }
