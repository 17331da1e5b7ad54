-- Places that are apart, and the places of words.
use Rattle.std.proofs.Common.{◌≡◌, ℕ, Bool, true, false, ◌&&◌, Option, Some, None, List, [], ◌∷◌, ◌++◌, map, refl, sym, ap, ◌∙◌, subst, append_assoc, not, option_map}
use Rattle.std.specs.Prelude.{option_and_then}
use Rattle.std.specs.List.{list_any}
use Rattle.std.proofs.lemmas.List.{map_push}
use Rattle.cf_words.proofs.FileNames.{list_any_of_map}
use Rattle.cf_box.specs.ServiceWords.{PlaceWord, are_apart, is_same_place, place_word, place_word_value, place_words}
use Rattle.cf_box.specs.declared.service.PlaceWord.{PlaceWord as PlaceFields}

-- whether one place is the same as one of the others, asked of the places as they stand in memory
pub any_place : (place : PlaceFields) (rest : List PlaceFields) (b : Bool) → b ≡ list_any (λ other. is_same_place (place_word_value place) (place_word_value other)) rest
    → list_any (is_same_place (place_word_value place)) (map place_word_value rest) ≡ b
any_place place rest b e = list_any_of_map (is_same_place (place_word_value place)) place_word_value rest ∙ sym e

-- a place that is the same as another
pub not_apart : (places rest : List PlaceFields) (place : PlaceFields) → places ≡ place ∷ rest
    → true ≡ list_any (λ other. is_same_place (place_word_value place) (place_word_value other)) rest → false ≡ are_apart (map place_word_value places)
not_apart places rest place is same =
    ap (λ b. not b && are_apart (map place_word_value rest)) (sym (any_place place rest true same))
    ∙ ap (λ ps. are_apart (map place_word_value ps)) (sym is)

-- one that is not leaves the question to the others
pub apart_of_rest : (places rest : List PlaceFields) (place : PlaceFields) → places ≡ place ∷ rest
    → false ≡ list_any (λ other. is_same_place (place_word_value place) (place_word_value other)) rest
    → are_apart (map place_word_value rest) ≡ are_apart (map place_word_value places)
apart_of_rest places rest place is other =
    ap (λ b. not b && are_apart (map place_word_value rest)) (sym (any_place place rest false other))
    ∙ ap (λ ps. are_apart (map place_word_value ps)) (sym is)

-- the places of more words stand after those of the first
pub places_step : (before : List PlaceWord) (place : PlaceWord) (word : List ℕ) (words : List (List ℕ)) (after : List PlaceWord) → Some place ≡ place_word word
    → option_map (λ more. (before ++ place ∷ []) ++ more) (place_words words) ≡ Some after
    → option_map (λ more. before ++ more) (place_words (word ∷ words)) ≡ Some after
places_step before place word words after is all =
    ap (λ p. option_map (λ more. before ++ more) (option_and_then (λ q. option_map (λ places. q ∷ places) (place_words words)) p)) (sym is)
    ∙ behind (place_words words) ∙ all where
      behind : (more : Option (List PlaceWord)) → option_map (λ m. before ++ m) (option_map (λ places. place ∷ places) more) ≡ option_map (λ m. (before ++ place ∷ []) ++ m) more
      behind None = refl
      behind (Some m) = ap Some (sym (append_assoc before (place ∷ []) m))

-- the place of the first word was put, and then those of the others
module _ {W : Type 0} (bytes : W → List ℕ) where
  pub put_first : (words rest : List W) (word : W) → words ≡ word ∷ rest → (text : List ℕ) → text ≡ bytes word → (place : PlaceFields)
      → option_map place_word_value (Some place) ≡ place_word text → (old now after : List PlaceFields) → now ≡ old ++ place ∷ []
      → option_map (λ more. map place_word_value now ++ more) (place_words (map bytes rest)) ≡ Some (map place_word_value after)
      → option_map (λ more. map place_word_value old ++ more) (place_words (map bytes words)) ≡ Some (map place_word_value after)
  put_first words rest word is text same place found old now after added all =
      subst (λ ws. option_map (λ more. map place_word_value old ++ more) (place_words (map bytes ws)) ≡ Some (map place_word_value after)) (sym is)
      (places_step (map place_word_value old) (place_word_value place) (bytes word) (map bytes rest) (map place_word_value after)
      (subst (λ t. Some (place_word_value place) ≡ place_word t) same found)
      (subst (λ xs. option_map (λ more. xs ++ more) (place_words (map bytes rest)) ≡ Some (map place_word_value after))
      (ap (map place_word_value) added ∙ map_push place_word_value old place) all))
