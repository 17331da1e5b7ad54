-- Logs that got lines, or a beginning of them.
use Rattle.std.proofs.Common.{◌≡◌, ◌+◌, arith, ℕ, true, List, [], ◌++◌, length, take, drop, refl, sym, ap, ◌∙◌, append_assoc}
use Rattle.std.specs.List.{concat}
use Rattle.std.proofs.Math.Seq.{take-append-add}
use Rattle.std.proofs.lemmas.List.{append-nil, take-append-drop, take_all}
use Rattle.std.proofs.lemmas.List.Folds.{concat-append}
use Rattle.cf_lane.specs.Log.{with_lines}
use Rattle.cf_outside.specs.Files.{Content, untold, absent, holds}
use Rattle.cf_outside.specs.Lines.{ends_with_line, file_lines, file_part, lines_from, rest_from}
use Rattle.cf_outside.proofs.Lines.{lines_from-rest, nothing}
use Rattle.cf_sift.specs.Sifted.{BeginsLines, HasLines, HasLinesThen}

-- octets are their whole lines and what stands after them
octets_are : (all : List ℕ) → all ≡ concat (lines_from [] all) ++ rest_from [] all
octets_are all = sym (lines_from-rest [] all)

whole_lines : (all : List ℕ) → ends_with_line (holds all) ≡ true → all ≡ concat (lines_from [] all)
whole_lines all whole = octets_are all ∙ ap (λ rest. concat (lines_from [] all) ++ rest) (nothing (rest_from [] all) whole) ∙ append-nil (concat (lines_from [] all))

nothing_after : (now : Content) → ends_with_line now ≡ true → file_part now ≡ []
nothing_after untold n = refl
nothing_after absent n = refl
nothing_after (holds x) n = nothing (rest_from [] x) n

-- a log whose lines go on: it holds what it held, these lines, and what stands after its last line feed
goes_on : (all : List ℕ) (now : Content) (ls : List (List ℕ)) → ends_with_line (holds all) ≡ true →
    file_lines now ≡ with_lines (file_lines (holds all)) ls → now ≡ holds (all ++ (concat ls ++ file_part now))
goes_on all untold ls f is = cc
goes_on all absent ls f is = cc
goes_on all (holds x) ls f is =
    let same : lines_from [] x ≡ lines_from [] all ++ ls = cc in
    let front : concat (lines_from [] all ++ ls) ≡ all ++ concat ls =
    concat-append (lines_from [] all) ls ∙ ap (λ xs. xs ++ concat ls) (sym (whole_lines all f)) in
    ap holds (octets_are x ∙ ap (λ xs. xs ++ rest_from [] x) (ap concat same ∙ front) ∙ append_assoc all (concat ls) (rest_from [] x))

-- the first of some lines, and a beginning of what follows, are a beginning of all
begins : (ls : List (List ℕ)) (count some : ℕ) →
    concat (take count ls) ++ take some (concat (drop count ls)) ≡ take (length (concat (take count ls)) + some) (concat ls)
begins ls count some =
    sym (take-append-add (concat (take count ls)) (concat (drop count ls)) some)
    ∙ ap (take (length (concat (take count ls)) + some)) (sym (concat-append (take count ls) (drop count ls)) ∙ ap concat (take-append-drop count ls))

pub lines_told : (first now : Content) (ls : List (List ℕ)) → ends_with_line first ≡ true → ends_with_line now ≡ true →
    file_lines now ≡ with_lines (file_lines first) ls → HasLines ls first now
lines_told untold now ls f n is = tt
lines_told absent now ls f n is = tt
lines_told (holds all) now ls f n is =
    goes_on all now ls f is ∙ ap (λ rest. holds (all ++ (concat ls ++ rest))) (nothing_after now n) ∙ ap (λ xs. holds (all ++ xs)) (append-nil (concat ls))

-- and no more
pub lines_now : (first now : Content) (ls : List (List ℕ)) → ends_with_line first ≡ true → ends_with_line now ≡ true →
    file_lines now ≡ with_lines (file_lines first) ls → HasLines (ls ++ []) first now
lines_now first now ls f n is = lines_told first now (ls ++ []) f n (is ∙ ap (with_lines (file_lines first)) (sym (append-nil ls)))

pub lines_begun : (first now : Content) (ls : List (List ℕ)) (count some : ℕ) → ends_with_line first ≡ true →
    file_lines now ≡ with_lines (file_lines first) (take count ls) → file_part now ≡ take some (concat (drop count ls)) → BeginsLines ls first now
lines_begun untold now ls count some f is part = tt
lines_begun absent now ls count some f is part = tt
lines_begun (holds all) now ls count some f is part = (
  length (concat (take count ls)) + some,
  goes_on all now (take count ls) f is ∙ ap (λ p. holds (all ++ (concat (take count ls) ++ p))) part
      ∙ ap (λ xs. holds (all ++ xs)) (begins ls count some),
)

-- lines, and octets after them that are a beginning of more
pub lines_then : (first now : Content) (ls more : List (List ℕ)) (k : ℕ) → ends_with_line first ≡ true →
    file_lines now ≡ with_lines (file_lines first) ls → file_part now ≡ take k (concat more) → HasLinesThen ls more first now
lines_then untold now ls more k f is part = tt
lines_then absent now ls more k f is part = tt
lines_then (holds all) now ls more k f is part = (k, goes_on all now ls f is ∙ ap (λ p. holds (all ++ (concat ls ++ p))) part)

-- all of it, where the lines go on with them
pub lines_all : (first now : Content) (ls more : List (List ℕ)) → ends_with_line first ≡ true →
    file_lines now ≡ with_lines (file_lines first) (ls ++ more) → file_part now ≡ [] → HasLinesThen ls more first now
lines_all untold now ls more f is part = tt
lines_all absent now ls more f is part = tt
lines_all (holds all) now ls more f is part = (
  length (concat more),
  goes_on all now (ls ++ more) f is ∙ ap (λ p. holds (all ++ (concat (ls ++ more) ++ p))) part
      ∙ ap (λ xs. holds (all ++ xs)) (append-nil (concat (ls ++ more)) ∙ concat-append ls more
      ∙ ap (λ xs. concat ls ++ xs) (sym (take_all (length (concat more)) (concat more) (omega arith)))),
)
