-- What was given, as one list of answers.
use Rattle.std.proofs.Common.{◌≡◌, ◌<◌, ◌+◌, ℕ, suc, List, ◌∷◌, ◌++◌, length, map, refl, sym, ap, ◌∙◌, subst, arith, inl, inr, Result, Ok, Err, []}
use Rattle.std.specs.Prelude.{OnOk, OnErr}
use Rattle.std.specs.List.{concat}
use Rattle.std.proofs.lemmas.List.{append-nil}
use Rattle.cf_links.specs.Links.{SessionTold, with_answers, with_entry}
use Rattle.cf_outq.specs.SendQueue.{Queue}
use Rattle.cf_outside.specs.Pair.{Took, Idle}
use Rattle.cf_view.specs.declared.Side.{Side}
use Rattle.cf_relay.specs.Answers.{given, idles_after}
use Rattle.cf_relay.specs.Gave.{Gave, GaveBy}
use Rattle.cf_relay.specs.Turn.{TookPieces, HasBytes, GivesQueued, BeginsToGive}
use Rattle.cf_relay.specs.declared.stop.Stop.{Stop}
use Rattle.cf_relay.specs.declared.stop.Stop.TheVariants as stop
use Rattle.cf_relay.proofs.Giving.{given_pieces, given_more, idles_more, with_more}

module _ (s : Side) (old new : Queue) (told told' : SessionTold) (idle idle' : ℕ) (pieces : List (List ℕ))
    (took : TookPieces s old.kept pieces new.kept) (tells : told' ≡ with_answers told (map (Took s) pieces)) (counts : idle' ≡ idles_after idle (map (Took s) pieces))
    (acked : new.acked ≡ old.acked + length (concat pieces)) (pushed : new.pushed ≡ old.pushed) (ended : new.ended ≡ old.ended) where
  pub gave_pieces : Gave s old new told told' idle idle' (map (Took s) pieces)
  gave_pieces = record {
    tells = tells;
    counts = counts;
    kept = took.split ∙ ap (λ xs. xs ++ new.kept) (sym (given_pieces s pieces));
    acked = acked ∙ ap (λ xs. old.acked + length xs) (sym (given_pieces s pieces));
    pushed = pushed;
    ended = ended;
  }

  same_given : given s (map (Took s) pieces ++ Idle s ∷ []) ≡ given s (map (Took s) pieces)
  same_given = given_more s (map (Took s) pieces) (Idle s ∷ []) ∙ append-nil _

  pub gave_idle : (told'' : SessionTold) (idle'' : ℕ) → told'' ≡ with_entry told' (Idle s) → idle'' ≡ idle' + 1 → Gave s old new told told'' idle idle'' (map (Took s) pieces ++ Idle s ∷ [])
  gave_idle told'' idle'' e i = record {
    tells = e ∙ ap (λ t. with_entry t (Idle s)) tells ∙ with_more told (map (Took s) pieces) (Idle s ∷ []);
    counts = i ∙ omega arith ∙ ap suc counts ∙ sym (idles_more idle (map (Took s) pieces) (Idle s ∷ []));
    kept = gave_pieces.kept ∙ ap (λ xs. xs ++ new.kept) (sym same_given);
    acked = gave_pieces.acked ∙ ap (λ xs. old.acked + length xs) (sym same_given);
    pushed = pushed;
    ended = ended;
  }

  pub gives_all : new.kept ≡ [] → GivesQueued s old.kept (map (Took s) pieces)
  gives_all none = record { pieces = pieces; rest = new.kept; took = took; until = inl (none, refl) }

  pub gives_idle : HasBytes new.kept → GivesQueued s old.kept (map (Took s) pieces ++ Idle s ∷ [])
  gives_idle some = record { pieces = pieces; rest = new.kept; took = took; until = inr (some, refl) }

  pub begins : HasBytes new.kept → BeginsToGive s old.kept (map (Took s) pieces)
  begins some = record { pieces = pieces; rest = new.kept; took = took; left = some; all = refl }

  pub gave_by_idle : (most : ℕ) (r : Result Unit Stop) (told'' : SessionTold) (idle'' : ℕ) → told'' ≡ with_entry told' (Idle s) → idle'' ≡ idle' + 1 → HasBytes new.kept →
      OnOk r (idle'' < most) → OnErr r (idle'' ≡ most) → OnErr r (r ≡ Err stop.Idle) → GaveBy s most old new told told'' idle idle'' r
  gave_by_idle most (Ok x) told'' idle'' e i some goes stops error = (_, gave_idle told'' idle'' e i, gives_idle some, goes)
  gave_by_idle most (Err e') told'' idle'' e i some goes stops error = subst (λ r. GaveBy s most old new told told'' idle idle'' r) (sym error) (_, gave_idle told'' idle'' e i, gives_idle some, stops)

pub none_left : (xs : List ℕ) → length xs ≡ 0 → xs ≡ []
none_left [] e = refl
none_left (x ∷ xs) e = absurd (omega (arith, e))
