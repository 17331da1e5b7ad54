-- The letters of a part of a stream.
use Rattle.std.proofs.Common.{◌≡◌, ℕ, ◌+◌, ◌≤◌, Bool, true, false, List, [], ◌∷◌, ◌++◌, length, map, take, drop, if◌then◌else◌, refl, sym, ◌∙◌, arith, add-zero}
use Rattle.std.proofs.lemmas.List.{take-map, drop-map, append-nil, length-map, length-drop, length-append, take-append-le, drop-append-le, take_all}
use Rattle.cf_stream.specs.Stream.{Stream, Letter, Byte, End, letters, part, IsPart}

-- n elements from place a on, where they lie in the first of two lists
take-drop-append : (xs ys : List Letter) (a n : ℕ) → a + n ≤ length xs → take n (drop a (xs ++ ys)) ≡ take n (drop a xs)
take-drop-append xs ys a n h =
    let inside : a ≤ length xs = omega arith in
    let fits : n ≤ length (drop a xs) = simp length-drop (omega arith) in
    rw (drop-append-le a xs ys inside, take-append-le n (drop a xs) ys fits)

take-drop-bytes : (bs : List ℕ) (a n : ℕ) → take n (drop a (map Byte bs)) ≡ map Byte (take n (drop a bs))
take-drop-bytes bs a n = rw (drop-map, take-map)

pub letters-part : (s : Stream) (a n : ℕ) (ended : Bool) → IsPart s a n ended → letters (part s a n ended) ≡ take (n + (if ended then 1 else 0)) (drop a (letters s))
letters-part s a n false h =
    let fits : a + n ≤ length (map Byte s.bytes) = simp length-map h.inside in
    rw add-zero (append-nil _ ∙ sym (take-drop-append (map Byte s.bytes) _ a n fits ∙ take-drop-bytes s.bytes a n))
letters-part s a n true h =
    let e = h.at_end refl in
    let ended = e.0 in
    let inside : a ≤ length (map Byte s.bytes) = simp length-map (omega arith) in
    let short : length (drop a (map Byte s.bytes ++ End ∷ [])) ≤ n + 1 = simp (length-drop, length-append, length-map) (omega arith) in
    let all : length (drop a s.bytes) ≤ n = simp length-drop (omega arith) in
    rw (ended, take_all (n + 1) (drop a (map Byte s.bytes ++ End ∷ [])) short, drop-append-le a (map Byte s.bytes) (End ∷ []) inside, take_all n (drop a s.bytes) all, drop-map)
