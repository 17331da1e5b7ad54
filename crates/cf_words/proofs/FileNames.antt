-- Names of files that are not empty and differ.
use Rattle.std.proofs.Common.{◌≡◌, ◌≢◌, ℕ, ◌≤◌, Bool, true, false, ◌&&◌, nat_le, if◌then◌else◌, Option, Some, None, subst, List, [], ◌∷◌, map, refl, sym, ap, ◌∙◌, arith, Bor, length, ◌==◌, not}
use Rattle.std.specs.Prelude.{bytes_eq, option_and_then}
use Rattle.std.specs.List.{list_any}
use Rattle.std.proofs.lemmas.Bool.{and_parts, or_parts, not-true, both_ways, leb-true}
use Rattle.std.proofs.lemmas.Slice.Eq.{bytes_eq-Decides}
use Rattle.cf_words.specs.Names.{are_names, printed_number, printed_number_in}
use Rattle.cf_words.specs.Forms.{IsFitWorld}
use Rattle.cf_run.specs.RunCapture.{AreApart as AreRunApart}
use Rattle.cf_sift.specs.Names.{AreApart}

-- a test of each image is a test of each element
pub list_any_of_map : {X Y : Type 0} (p : Y → Bool) (f : X → Y) (xs : List X) → list_any p (map f xs) ≡ list_any (λ x. p (f x)) xs
list_any_of_map p f [] = refl
list_any_of_map p f (x ∷ xs) = grind (arith, list_any_of_map p f xs)

-- a name that is not empty and not among the others leaves the question to the others
pub names_step : (names rest : List (Bor (List ℕ))) (name : Bor (List ℕ)) → names ≡ name ∷ rest → false ≡ (length name.now == 0) →
    false ≡ list_any (λ n. bytes_eq name.now n.now) rest → are_names (map (λ n. n.now) rest) ≡ are_names (map (λ n. n.now) names)
names_step names rest name is some other =
    let among : list_any (λ o. bytes_eq name.now o) (map (λ n. n.now) rest) ≡ false = list_any_of_map (λ o. bytes_eq name.now o) (λ n. n.now)
    rest ∙ sym other in
    let tests : are_names (map (λ n. n.now) rest) ≡ are_names (map (λ n. n.now) (name ∷ rest)) = rw (← some, among) refl in
    tests ∙ ap (λ ns. are_names (map (λ n. n.now) ns)) (sym is)

-- the same of words, whose names these are
pub words_step : {X : Type 0} (name_of : X → List ℕ) (words rest : List X) (word : X) → words ≡ word ∷ rest → (text : List ℕ) → text ≡ name_of word →
    false ≡ (length text == 0) → false ≡ list_any (λ w. bytes_eq text (name_of w)) rest → are_names (map name_of rest) ≡ are_names (map name_of words)
words_step name_of words rest word is text same some other =
    let full : false ≡ (length (name_of word) == 0) = subst (λ t. false ≡ (length t == 0)) same some in
    let apart : false ≡ list_any (λ w. bytes_eq (name_of word) (name_of w)) rest = subst (λ t. false ≡ list_any (λ w. bytes_eq t (name_of w)) rest) same other in
    let among : list_any (λ o. bytes_eq (name_of word) o) (map name_of rest) ≡ false = list_any_of_map (λ o. bytes_eq (name_of word) o) name_of rest ∙ sym apart in
    let tests : are_names (map name_of rest) ≡ are_names (map name_of (word ∷ rest)) = rw (← full, among) refl in
    tests ∙ ap (λ ws. are_names (map name_of ws)) (sym is)

-- the names after the first are names
rest : (name : List ℕ) (others : List (List ℕ)) → are_names (name ∷ others) ≡ true → are_names others ≡ true
rest name others named =
    (and_parts (not (list_any (λ o. bytes_eq name o) others)) (are_names others)
    (and_parts (not (length name == 0)) (not (list_any (λ o. bytes_eq name o) others) && are_names others) named).1).1

-- two names of which one is not among others that have the other
apart : (name : List ℕ) (others : List (List ℕ)) (other : List ℕ) → are_names (name ∷ others) ≡ true →
    (list_any (λ o. bytes_eq name o) others ≡ false → bytes_eq name other ≡ false) → name ≢ other
apart name others other named among same =
    let parts = and_parts (not (length name == 0)) (not (list_any (λ o. bytes_eq name o) others) && are_names others) named in
    let none = and_parts (not (list_any (λ o. bytes_eq name o) others)) (are_names others) parts.1 in
    let differ : bytes_eq name other ≡ false = among (not-true _ none.0) in
    both_ways (bytes_eq name other) differ ((bytes_eq-Decides name other).1 same)

-- the last four of five names
pub apart_from_names : (policy stream out replies log : List ℕ) → are_names (policy ∷ stream ∷ out ∷ replies ∷ log ∷ []) ≡ true →
    AreApart (record { stream = stream; out = out; replies = replies; log = log })
apart_from_names policy stream out replies log named =
    let four = rest policy (stream ∷ out ∷ replies ∷ log ∷ []) named in
    let three = rest stream (out ∷ replies ∷ log ∷ []) four in
    let two = rest out (replies ∷ log ∷ []) three in
    record {
      stream_out = apart stream (out ∷ replies ∷ log ∷ []) out four (λ none. (or_parts _ _ none).0);
      stream_replies = apart stream (out ∷ replies ∷ log ∷ []) replies four (λ none. (or_parts _ _ (or_parts _ _ none).1).0);
      stream_log = apart stream (out ∷ replies ∷ log ∷ []) log four (λ none. (or_parts _ _ (or_parts _ _ (or_parts _ _ none).1).1).0);
      out_replies = apart out (replies ∷ log ∷ []) replies three (λ none. (or_parts _ _ none).0);
      out_log = apart out (replies ∷ log ∷ []) log three (λ none. (or_parts _ _ (or_parts _ _ none).1).0);
      replies_log = apart replies (log ∷ []) log two (λ none. (or_parts _ _ none).0);
    }

-- the last three of four names
pub run_apart : (policy capture out log : List ℕ) → are_names (policy ∷ capture ∷ out ∷ log ∷ []) ≡ true → AreRunApart (record { capture = capture; out = out; log = log })
run_apart policy capture out log named =
    let three = rest policy (capture ∷ out ∷ log ∷ []) named in
    let two = rest capture (out ∷ log ∷ []) three in
    record {
      capture_out = apart capture (out ∷ log ∷ []) out three (λ none. (or_parts _ _ none).0);
      capture_log = apart capture (out ∷ log ∷ []) log three (λ none. (or_parts _ _ (or_parts _ _ none).1).0);
      out_log = apart out (log ∷ []) log two (λ none. (or_parts _ _ none).0);
    }

-- a number that is read is in its range
within : (low high m n : ℕ) (passes : Bool) → (nat_le low m && nat_le m high) ≡ passes → (if passes then Some m else None) ≡ Some n → (low ≤ n) × (n ≤ high)
within low high m n true tests e =
    let parts = and_parts (nat_le low m) (nat_le m high) tests in
    let same : m ≡ n = cc in
    subst (λ k. (low ≤ k) × (k ≤ high)) same (leb-true low m parts.0, leb-true m high parts.1)
within low high m n false tests e = cc e

in_range_of : (low high n : ℕ) (number : Option ℕ) → option_and_then (λ m. if nat_le low m && nat_le m high then Some m else None) number ≡ Some n → (low ≤ n) × (n ≤ high)
in_range_of low high n None e = cc e
in_range_of low high n (Some m) e = within low high m n (nat_le low m && nat_le m high) refl e

in_range : (low high : ℕ) (text : List ℕ) (n : ℕ) → printed_number_in low high text ≡ Some n → (low ≤ n) × (n ≤ high)
in_range low high text n e = in_range_of low high n (printed_number text) e

-- four names, and a number of sessions in its range
pub world_fit : (policy capture out log text : List ℕ) (n : ℕ) → are_names (policy ∷ capture ∷ out ∷ log ∷ []) ≡ true → printed_number_in 1 200 text ≡ Some n →
    IsFitWorld n policy (record { capture = capture; out = out; log = log })
world_fit policy capture out log text n named number =
    let range = in_range 1 200 text n number in
    record {
      some = range.0;
      few = range.1;
      apart = run_apart policy capture out log named;
      policy_capture = apart policy (capture ∷ out ∷ log ∷ []) capture named (λ none. (or_parts _ _ none).0);
      policy_out = apart policy (capture ∷ out ∷ log ∷ []) out named (λ none. (or_parts _ _ (or_parts _ _ none).1).0);
      policy_log = apart policy (capture ∷ out ∷ log ∷ []) log named (λ none. (or_parts _ _ (or_parts _ _ (or_parts _ _ none).1).1).0);
    }
