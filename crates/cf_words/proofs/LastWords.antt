-- Words of which the last stands apart.
use Rattle.std.proofs.Common.{◌≡◌, ℕ, List, [], ◌∷◌, ◌++◌, ◌∙◌, ap, map, refl, sym, true, false, None, Some}
use Rattle.std.proofs.lemmas.List.{map-append}
use Rattle.cf_words.specs.Command.{Review}
use Rattle.cf_words.specs.Forms.{are_few, last_word, review_command, review_of, words_before}
use Rattle.cf_words.specs.Names.{are_names}

last_is : (word : List ℕ) (front : List (List ℕ)) (last : List ℕ) → last_word word (front ++ last ∷ []) ≡ last
last_is word [] last = refl
last_is word (f ∷ front) last = last_is f front last

before_is : (word : List ℕ) (front : List (List ℕ)) (last : List ℕ) → words_before word (front ++ last ∷ []) ≡ word ∷ front
before_is word [] last = refl
before_is word (f ∷ front) last = ap (λ ws. word ∷ ws) (before_is f front last)

review_parts : (policy : List ℕ) (captures : List (List ℕ)) (log : List ℕ) → review_of (policy ∷ (captures ++ log ∷ [])) ≡ review_command policy captures log (policy ∷ (captures ++ log ∷ []))
review_parts policy [] log = refl
review_parts policy (c ∷ captures) log =
    let all = policy ∷ c ∷ (captures ++ log ∷ []) in
    ap (λ ws. review_command policy ws (last_word c (captures ++ log ∷ [])) all) (before_is c captures log) ∙ ap (λ w. review_command policy (c ∷ captures) w all) (last_is c captures log)

-- words that are a policy, captures and a log
pub review_words : {W : Type 0} (bytes : W → List ℕ) (words files captures : List W) (policy log : W) → words ≡ policy ∷ files → files ≡ captures ++ log ∷ [] →
    review_command (bytes policy) (map bytes captures) (bytes log) (map bytes words) ≡ review_of (map bytes words)
review_words bytes words files captures policy log first last =
    let all : map bytes words ≡ bytes policy ∷ (map bytes captures ++ bytes log ∷ []) =
    ap (map bytes) (first ∙ ap (λ ws. policy ∷ ws) last) ∙ ap (λ ws. bytes policy ∷ ws) (map-append bytes captures (log ∷ [])) in
    ap (review_command (bytes policy) (map bytes captures) (bytes log)) all ∙ sym (review_parts (bytes policy) (map bytes captures) (bytes log)) ∙ ap review_of (sym all)

-- and where the captures are few and the words are names, a review
pub review_found : {W : Type 0} (bytes : W → List ℕ) (words files captures : List W) (policy log : W) → words ≡ policy ∷ files → files ≡ captures ++ log ∷ [] →
    are_few (map bytes captures) ≡ true → are_names (map bytes words) ≡ true → (p l : List ℕ) → p ≡ bytes policy → l ≡ bytes log →
    Some (Review p (map bytes captures) l) ≡ review_of (map bytes words)
review_found bytes words files captures policy log first last few names p l same also =
    let here : Some (Review p (map bytes captures) l) ≡ review_command p (map bytes captures) l (map bytes words) = rw (few, names) refl in
    here ∙ ap (λ n. review_command n (map bytes captures) l (map bytes words)) same ∙ ap (λ n. review_command (bytes policy) (map bytes captures) n (map bytes words)) also
    ∙ review_words bytes words files captures policy log first last

-- but where the captures are none or too many
pub review_unfit : {W : Type 0} (bytes : W → List ℕ) (words files captures : List W) (policy log : W) → words ≡ policy ∷ files → files ≡ captures ++ log ∷ [] →
    are_few (map bytes captures) ≡ false → None ≡ review_of (map bytes words)
review_unfit bytes words files captures policy log first last many =
    let here : None ≡ review_command (bytes policy) (map bytes captures) (bytes log) (map bytes words) = rw many refl in
    here ∙ review_words bytes words files captures policy log first last
