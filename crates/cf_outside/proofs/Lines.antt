-- The lines of a text that grows.
use Rattle.std.proofs.Common.{◌≡◌, ◌⊎◌, ◌==◌, ℕ, true, false, Some, List, [], ◌∷◌, ◌++◌, if◌then◌else◌, take}
use Rattle.std.proofs.Common.{refl, sym, ap, ◌∙◌, append_assoc, inl, inr, zero, suc}
use Rattle.std.specs.List.{concat}
use Rattle.std.proofs.lemmas.List.{append-nil}
use Rattle.cf_outside.specs.Files.{Content, untold, absent, holds, with_appended, content_after_create}
use Rattle.cf_outside.specs.Desk.{with_item}
use Rattle.cf_outside.specs.Lines.{is_nothing, is_line, lines_from, rest_from, file_lines, file_part, ends_with_line}

pub lines_from-append : (part xs ys : List ℕ) → lines_from part (xs ++ ys) ≡ lines_from part xs ++ lines_from (rest_from part xs) ys
lines_from-append part [] ys = refl
lines_from-append part (x ∷ xs) ys =
    let part' : List ℕ = part ++ x ∷ [] in
    elim (x == 10) as (λ t. (if t then part' ∷ lines_from [] (xs ++ ys) else lines_from part' (xs ++ ys))
    ≡ (if t then part' ∷ lines_from [] xs else lines_from part' xs) ++ lines_from (if t then rest_from [] xs else rest_from part' xs) ys) [
      | true ↦ ap (λ l. part' ∷ l) (lines_from-append [] xs ys)
      | false ↦ lines_from-append part' xs ys
    ]

pub rest_from-append : (part xs ys : List ℕ) → rest_from part (xs ++ ys) ≡ rest_from (rest_from part xs) ys
rest_from-append part [] ys = refl
rest_from-append part (x ∷ xs) ys =
    let part' : List ℕ = part ++ x ∷ [] in
    elim (x == 10) as (λ t. (if t then rest_from [] (xs ++ ys) else rest_from part' (xs ++ ys))
    ≡ rest_from (if t then rest_from [] xs else rest_from part' xs) ys) [
      | true ↦ rest_from-append [] xs ys
      | false ↦ rest_from-append part' xs ys
    ]

-- a line is one line
pub lines_from-line : (part text : List ℕ) → is_line text ≡ true → lines_from part text ≡ (part ++ text) ∷ []
lines_from-line part [] h = cc
lines_from-line part (x ∷ []) h =
    elim (x == 10) as (λ t. (if t then true else false) ≡ true → (if t then (part ++ x ∷ []) ∷ [] else []) ≡ (part ++ x ∷ []) ∷ []) [
      | true ↦ λ _. refl
      | false ↦ λ e. cc
    ] h
lines_from-line part (x ∷ y ∷ ys) h =
    let part' : List ℕ = part ++ x ∷ [] in
    elim (x == 10) as (λ t. (if t then false else is_line (y ∷ ys)) ≡ true →
    (if t then part' ∷ lines_from [] (y ∷ ys) else lines_from part' (y ∷ ys)) ≡ (part ++ x ∷ y ∷ ys) ∷ []) [
      | true ↦ λ e. cc
      | false ↦ λ e. lines_from-line part' (y ∷ ys) e ∙ ap (λ l. l ∷ []) (append_assoc part (x ∷ []) (y ∷ ys))
    ] h

pub rest_from-line : (part text : List ℕ) → is_line text ≡ true → rest_from part text ≡ []
rest_from-line part [] h = cc
rest_from-line part (x ∷ []) h =
    elim (x == 10) as (λ t. (if t then true else false) ≡ true → (if t then [] else part ++ x ∷ []) ≡ []) [
      | true ↦ λ _. refl
      | false ↦ λ e. cc
    ] h
rest_from-line part (x ∷ y ∷ ys) h =
    let part' : List ℕ = part ++ x ∷ [] in
    elim (x == 10) as (λ t. (if t then false else is_line (y ∷ ys)) ≡ true →
    (if t then rest_from [] (y ∷ ys) else rest_from part' (y ∷ ys)) ≡ []) [
      | true ↦ λ e. cc
      | false ↦ λ e. rest_from-line part' (y ∷ ys) e
    ] h

take-nothing : (k : ℕ) → take k (let none : List ℕ = [] in none) ≡ []
take-nothing zero = refl
take-nothing (suc k) = refl

-- some of a line is no line, or all of it
pub lines_from-part : (part text : List ℕ) (k : ℕ) → is_line text ≡ true →
    (lines_from part (take k text) ≡ []) ⊎ (take k text ≡ text)
lines_from-part part text zero h = inl refl
lines_from-part part [] (suc k) h = cc
lines_from-part part (x ∷ []) (suc k) h = inr (ap (λ l. x ∷ l) (take-nothing k))
lines_from-part part (x ∷ y ∷ ys) (suc k) h =
    let part' : List ℕ = part ++ x ∷ [] in
    elim (x == 10) as (λ t. (if t then false else is_line (y ∷ ys)) ≡ true →
    ((if t then part' ∷ lines_from [] (take k (y ∷ ys)) else lines_from part' (take k (y ∷ ys))) ≡ []) ⊎ (x ∷ take k (y ∷ ys) ≡ x ∷ y ∷ ys)) [
      | true ↦ λ e. inr cc
      | false ↦ λ e. elim (lines_from-part part' (y ∷ ys) k e) [ inl none ↦ inl none | inr all ↦ inr (ap (λ l. x ∷ l) all) ]
    ] h

-- the lines of a text, and what stands after them, are the text
pub lines_from-rest : (part xs : List ℕ) → concat (lines_from part xs) ++ rest_from part xs ≡ part ++ xs
lines_from-rest part [] = sym (append-nil part)
lines_from-rest part (x ∷ xs) =
    let part' : List ℕ = part ++ x ∷ [] in
    elim (x == 10) as (λ t. concat (if t then part' ∷ lines_from [] xs else lines_from part' xs)
    ++ (if t then rest_from [] xs else rest_from part' xs) ≡ part ++ x ∷ xs) [
      | true ↦ append_assoc part' (concat (lines_from [] xs)) (rest_from [] xs)
          ∙ ap (λ l. part' ++ l) (lines_from-rest [] xs) ∙ append_assoc part (x ∷ []) xs
      | false ↦ lines_from-rest part' xs ∙ append_assoc part (x ∷ []) xs
    ]

pub nothing : (xs : List ℕ) → is_nothing xs ≡ true → xs ≡ []
nothing [] h = refl
nothing (x ∷ xs) h = cc

-- a line that is put after whole lines is one more line
pub file_lines-line : (file : Content) (text : List ℕ) → is_line text ≡ true → ends_with_line file ≡ true →
    file_lines (with_appended file text) ≡ with_item text (file_lines file)
file_lines-line untold text h e = refl
file_lines-line absent text h e = refl
file_lines-line (holds all) text h e = rw (lines_from-append [] all text, nothing _ e, lines_from-line [] text h) refl

pub ends_with_line-line : (file : Content) (text : List ℕ) → is_line text ≡ true → ends_with_line file ≡ true →
    ends_with_line (with_appended file text) ≡ true
ends_with_line-line untold text h e = refl
ends_with_line-line absent text h e = refl
ends_with_line-line (holds all) text h e = rw (rest_from-append [] all text, nothing _ e, rest_from-line [] text h) refl

-- the part after the last line stays nothing
pub file_part-line : (file : Content) (text : List ℕ) → is_line text ≡ true → ends_with_line file ≡ true →
    file_part (with_appended file text) ≡ file_part file
file_part-line untold text h e = refl
file_part-line absent text h e = refl
file_part-line (holds all) text h e = rw (rest_from-append [] all text, nothing _ e, rest_from-line [] text h) refl

-- what has no line stands after the last one
rest_from-none : (part xs : List ℕ) → lines_from part xs ≡ [] → rest_from part xs ≡ part ++ xs
rest_from-none part xs none = ap (λ ls. concat ls ++ rest_from part xs) (sym none) ∙ lines_from-rest part xs

-- some octets of a line add no line and stand after the last one, or they are the line
pub file_lines-part : (file : Content) (text : List ℕ) (k : ℕ) → is_line text ≡ true → ends_with_line file ≡ true →
    ((file_lines (with_appended file (take k text)) ≡ file_lines file)
    × ((j : ℕ) × (file_part (with_appended file (take k text)) ≡ take j text)))
    ⊎ ((file_lines (with_appended file (take k text)) ≡ with_item text (file_lines file))
    × (file_part (with_appended file (take k text)) ≡ []))
file_lines-part untold text k h e = inl (refl, (0, refl))
file_lines-part absent text k h e = inl (refl, (0, refl))
file_lines-part (holds all) text k h e =
    elim (lines_from-part [] text k h) [
      | inl none ↦ inl (
        rw (lines_from-append [] all (take k text), nothing _ e, none, append-nil (lines_from [] all)) refl,
        (k, rw (rest_from-append [] all (take k text), nothing _ e) (rest_from-none [] (take k text) none)),
      )
      | inr whole ↦ inr (
        rw (whole, lines_from-append [] all text, nothing _ e, lines_from-line [] text h) refl,
        rw (whole, rest_from-append [] all text, nothing _ e) (rest_from-line [] text h),
      )
    ]

-- a file that was created ends with a line, as nothing stands there
pub ends_with_line-create : (file : Content) → ends_with_line (content_after_create file) ≡ true
ends_with_line-create untold = refl
ends_with_line-create absent = refl
ends_with_line-create (holds all) = refl

-- a file that ends with a line is its lines
pub file_lines-whole : (file : Content) (lines : List (List ℕ)) → file_lines file ≡ Some lines → ends_with_line file ≡ true →
    file ≡ holds (concat lines)
file_lines-whole untold lines h e = cc
file_lines-whole absent lines h e = cc
file_lines-whole (holds all) lines h e =
    let whole : concat (lines_from [] all) ≡ all =
    sym (append-nil _) ∙ ap (λ rest. concat (lines_from [] all) ++ rest) (sym (nothing _ e)) ∙ lines_from-rest [] all in
    cc

pub ruleset line_laws = (file_lines-line, ends_with_line-line, file_lines-part, file_part-line)
