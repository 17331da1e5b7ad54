-- The answers of one session, where a session adds to the list of all.
use Rattle.std.proofs.Common.{List, [], ap, refl, ℕ, ◌++◌, ◌∙◌, ◌∷◌, ◌≡◌, map, sym, append_assoc, false, Bool}
use Rattle.std.proofs.Common.{if◌then◌else◌}
use Rattle.std.specs.Prelude.{◌==◌}
use Rattle.std.proofs.lemmas.Bool.{eq-eqb}
use Rattle.std.proofs.lemmas.List.{append-nil}
use Rattle.cf_outside.specs.Pair.{Entry}
use Rattle.cf_links.specs.Links.{LinksEntry, Of, answer_in, answers_of}

pub answers_more : (k : ℕ) (es fs : List LinksEntry) → answers_of k (es ++ fs) ≡ answers_of k es ++ answers_of k fs
answers_more k [] fs = refl
answers_more k (e ∷ es) fs =
    ap (λ xs. answer_in k e ++ xs) (answers_more k es fs) ∙ sym (append_assoc (answer_in k e) (answers_of k es) (answers_of k fs))

own_answers : (k : ℕ) (xs : List Entry) → answers_of k (map (Of k) xs) ≡ xs
own_answers k [] = refl
own_answers k (x ∷ xs) =
    ap (λ (b : Bool). (if b then x ∷ [] else []) ++ answers_of k (map (Of k) xs)) (eq-eqb k k refl) ∙ ap (λ ys. x ∷ ys) (own_answers k xs)

other_answers : (j k : ℕ) (apart : (k == j) ≡ false) (xs : List Entry) → answers_of j (map (Of k) xs) ≡ []
other_answers j k apart [] = refl
other_answers j k apart (x ∷ xs) =
    ap (λ (b : Bool). (if b then x ∷ [] else []) ++ answers_of j (map (Of k) xs)) apart ∙ other_answers j k apart xs

-- what a session adds is its own, and nothing of another
pub added_own : (k : ℕ) (es : List LinksEntry) (xs : List Entry) → answers_of k (es ++ map (Of k) xs) ≡ answers_of k es ++ xs
added_own k es xs = answers_more k es (map (Of k) xs) ∙ ap (λ ys. answers_of k es ++ ys) (own_answers k xs)

pub added_other : (j k : ℕ) (es : List LinksEntry) (xs : List Entry) → (k == j) ≡ false →
    answers_of j (es ++ map (Of k) xs) ≡ answers_of j es
added_other j k es xs apart =
    answers_more j es (map (Of k) xs) ∙ ap (λ ys. answers_of j es ++ ys) (other_answers j k apart xs) ∙ append-nil (answers_of j es)
