-- Pieces given one after the other.
use Rattle.std.proofs.Common.{◌≡◌, ◌≤◌, ◌+◌, ℕ, zero, suc, true, List, ◌∷◌, ◌++◌, if◌then◌else◌, length, map, take, drop, refl, sym, ap, ◌∙◌, subst, arith, Option, []}
use Rattle.std.specs.List.{AllByRecursion, concat}
use Rattle.std.proofs.lemmas.Grind.{flat_map-append}
use Rattle.std.proofs.lemmas.List.{length-append, append_assoc, append-nil, length-take, length-take-le, map-append, take-append-drop}
use Rattle.std.proofs.lemmas.List.Folds.{concat-append}
use Rattle.cf_outside.specs.Pair.{Entry, Took}
use Rattle.cf_view.specs.declared.Side.{Side}
use Rattle.cf_view.specs.declared.Side.TheVariants as side
use Rattle.cf_lane.specs.History.{is_side}
use Rattle.cf_links.specs.Links.{LinksEntry, SessionTold, with_answers, with_entry}
use Rattle.cf_relay.proofs.Lined.{more_both, more_none}
use Rattle.cf_relay.specs.declared.limit.TheConstants.{MOST_BYTES}
use Rattle.cf_relay.specs.Answers.{given, given_in, idles_after}
use Rattle.cf_relay.specs.Turn.{HasBytes, IsGivePiece, TookPieces}

pub with_none : (told : SessionTold) → told ≡ with_answers told []
with_none told = ap (λ (list : Option (List LinksEntry)). record { session = told.session; list = list }) (more_none told.list)

pub with_more : (told : SessionTold) (xs ys : List Entry) → with_answers (with_answers told xs) ys ≡ with_answers told (xs ++ ys)
with_more told xs ys = simp (more_both, map-append)

pub map_more : (s : Side) (pieces : List (List ℕ)) (piece : List ℕ) → map (Took s) pieces ++ Took s piece ∷ [] ≡ map (Took s) (pieces ++ piece ∷ [])
map_more s pieces piece = sym (map-append (Took s) pieces (piece ∷ []))

pub same_side : (s : Side) → is_side s s ≡ true
same_side side.Client = refl
same_side side.Controller = refl

pub given_pieces : (s : Side) (pieces : List (List ℕ)) → given s (map (Took s) pieces) ≡ concat pieces
given_pieces s [] = refl
given_pieces s (p ∷ pieces) = ap (λ b. (if b then p else []) ++ given s (map (Took s) pieces)) (same_side s) ∙ ap (λ xs. p ++ xs) (given_pieces s pieces)

pub given_more : (s : Side) (xs ys : List Entry) → given s (xs ++ ys) ≡ given s xs ++ given s ys
given_more s = flat_map-append (given_in s)

pub idles_more : (run : ℕ) (xs ys : List Entry) → idles_after run (xs ++ ys) ≡ idles_after (idles_after run xs) ys
idles_more run [] ys = refl
idles_more run (x ∷ xs) ys = idles_more _ xs ys

flat_more : (pieces : List (List ℕ)) (piece : List ℕ) → concat (pieces ++ piece ∷ []) ≡ concat pieces ++ piece
flat_more pieces piece = simp (concat-append, append-nil)

each_more : (pieces : List (List ℕ)) (piece : List ℕ) → AllByRecursion IsGivePiece pieces → IsGivePiece piece → AllByRecursion IsGivePiece (pieces ++ piece ∷ [])
each_more [] piece each is = (is, each)
each_more (p ∷ pieces) piece each is = (each.0, each_more pieces piece each.1 is)

pub took_none : (s : Side) (queued : List ℕ) → TookPieces s queued [] queued
took_none s queued = record { split = refl; each = tt }

pub took_more : (s : Side) (queued : List ℕ) (pieces : List (List ℕ)) (rest piece rest' : List ℕ) → TookPieces s queued pieces rest → rest ≡ piece ++ rest' → IsGivePiece piece → TookPieces s queued (pieces ++ piece ∷ []) rest'
took_more s queued pieces rest piece rest' took e is = record {
  split = simp (took.split, e, flat_more, append_assoc);
  each = each_more pieces piece took.each is;
}

pub some_of : (xs : List ℕ) → 1 ≤ length xs → HasBytes xs
some_of [] h = absurd (omega (arith, h))
some_of (x ∷ xs) h = tt

take_within : (k n : ℕ) (xs : List ℕ) → k ≤ length (take n xs) → take k (take n xs) ≡ take k xs
take_within zero n xs h = refl
take_within (suc k) zero xs h = absurd (omega (arith, h))
take_within (suc k) (suc n) [] h = refl
take_within (suc k) (suc n) (x ∷ xs) h = ap (λ ys. x ∷ ys) (take_within k n xs (omega (arith, h)))

pub took_step : (s : Side) (queued rest rest' front : List ℕ) (pieces : List (List ℕ)) (n k : ℕ) → TookPieces s queued pieces rest → front ≡ take n rest → n ≤ MOST_BYTES → 1 ≤ k → k ≤ length front → rest' ≡ drop k rest →
    TookPieces s queued (pieces ++ take k front ∷ []) rest'
took_step s queued rest rest' front pieces n k took e most some inside left =
    let within : k ≤ length (take n rest) = subst (λ (xs : List ℕ). k ≤ length xs) e inside in
    let same : take k front ≡ take k rest = ap (take k) e ∙ take_within k n rest within in
    took_more s queued pieces rest (take k front) rest' took
    (rw (same, left, take-append-drop) refl)
    (omega (arith, some, length-take-le k front inside), omega (arith, most, inside, length-take-le k front inside, ap length e, length-take n rest))

pub acked_step : (a b k : ℕ) (front : List ℕ) (pieces : List (List ℕ)) → b ≡ a + length (concat pieces) → k ≤ length front → b + k ≡ a + length (concat (pieces ++ take k front ∷ []))
acked_step a b k front pieces e inside =
    omega (arith, e, ap length (flat_more pieces (take k front)), length-append (concat pieces) (take k front), length-take-le k front inside)

pub tells_step : (s : Side) (told told' told'' : SessionTold) (pieces : List (List ℕ)) (piece : List ℕ) → told' ≡ with_answers told (map (Took s) pieces) → told'' ≡ with_entry told' (Took s piece) →
    told'' ≡ with_answers told (map (Took s) (pieces ++ piece ∷ []))
tells_step s told told' told'' pieces piece e f =
    f ∙ ap (λ t. with_entry t (Took s piece)) e ∙ with_more told (map (Took s) pieces) (Took s piece ∷ []) ∙ ap (with_answers told) (map_more s pieces piece)

pub idles_took : (s : Side) (run : ℕ) (pieces : List (List ℕ)) (piece : List ℕ) → 0 ≡ idles_after run (map (Took s) (pieces ++ piece ∷ []))
idles_took s run pieces piece = sym (ap (idles_after run) (sym (map_more s pieces piece)) ∙ idles_more run (map (Took s) pieces) (Took s piece ∷ []))
