-- The watched flows of a capture of sent packets are those of these packets.
use Rattle.std.proofs.Common.{◌≡◌, ◌+◌, ℕ, suc, List, [], ◌∷◌, ◌++◌, length, map, refl, sym, ap, ◌∙◌, append_assoc, arith, reverse}
use Rattle.cf_unobjected.proofs.Common.{AllByRecursion, Asset, Record, Sent, append-nil, heard_on, watched, with_record}
use Rattle.std.proofs.lemmas.List.{reverse-append, reverse-reverse}
use Rattle.cf_unobjected.specs.OneFlow.{numbered_from}
use Rattle.cf_isolation.specs.ReadBack.{IsReadAgain, record_by}

abbrev onto : List Record → List Record → List Record
onto [] earlier = earlier
onto (r ∷ rs) earlier = onto rs (r ∷ earlier)

onto_is : (rs earlier : List Record) → onto rs earlier ≡ reverse rs ++ earlier
onto_is [] earlier = refl
onto_is (r ∷ rs) earlier = onto_is rs (r ∷ earlier) ∙ sym (append_assoc (reverse rs) (r ∷ []) earlier) ∙ ap (λ (xs : List Record). xs ++ earlier) (sym (reverse-append (r ∷ []) rs))

next_number : (n : ℕ) → suc n + 1 ≡ n + 1 + 1
next_number n = omega arith

watched_onto : (assets : List Asset) (all : List Sent) (earlier : List Record) → AllByRecursion IsReadAgain all →
    watched assets (onto (map record_by all) earlier) ≡ heard_on assets (numbered_from (length earlier + 1) all) (watched assets earlier)
watched_onto assets [] earlier h = refl
watched_onto assets (s ∷ ss) earlier h =
    watched_onto assets ss (record_by s ∷ earlier) h.1
    ∙ ap (λ k. heard_on assets (numbered_from k ss) (watched assets (record_by s ∷ earlier))) (next_number (length earlier))
    ∙ ap (λ x. heard_on assets (numbered_from (length earlier + 1 + 1) ss) (with_record assets (length earlier + 1) x (watched assets earlier))) h.0

pub watched_heard : (assets : List Asset) (newest : List Record) (all : List Sent) → reverse newest ≡ map record_by all → AllByRecursion IsReadAgain all →
    watched assets newest ≡ heard_on assets (numbered_from 1 all) []
watched_heard assets newest all e h =
    let same : newest ≡ onto (map record_by all) [] =
    sym (reverse-reverse newest) ∙ ap (λ (rs : List Record). reverse rs) e ∙ sym (append-nil (reverse (map record_by all))) ∙ sym (onto_is (map record_by all) []) in
    ap (watched assets) same ∙ watched_onto assets all [] h
