-- Lines that are written in pieces.
use Rattle.std.proofs.Common.{◌≡◌, ◌+◌, ◌<◌, ◌∙◌, ℕ, List, [], ◌∷◌, ◌++◌, length, map, take, drop, get_or, ap, sym, arith, inl, inr, append_assoc, take-append-drop, Result, Ok, Err, OnErr}
use Rattle.std.proofs.lemmas.Grind.{flat_map-append}
use Rattle.std.proofs.lemmas.List.{append-nil, map-append, map_more, take-append-le, take_all}
use Rattle.std.proofs.lemmas.Bool.{cases_lt}
use Rattle.std.proofs.Math.Seq.{take-append-add}
use Rattle.cf_outside.proofs.Content.{with_appended-twice}
use Rattle.cf_outside.specs.Files.{Content, with_appended}
use Rattle.cf_review.specs.Lines.{MovesOn, lines_by, remark_line}
use Rattle.cf_review.specs.Remark.{remark_value}
use Rattle.cf_review.specs.declared.remark.Remark.{Remark}
use Rattle.cf_policy.specs.declared.Asset.{Asset}

-- some of the first of a list are some of the first of what begins with it
take_front : (k : ℕ) (xs more : List ℕ) → (x : ℕ) × (take k xs ≡ take x (xs ++ more))
take_front k xs more =
    elim (cases_lt (length xs) k) [
      | inl above ↦ (length xs, take_all k xs (omega (arith, above)) ∙ sym (take-append-le (length xs) xs more (omega arith) ∙ take_all (length xs) xs (omega arith)))
      | inr below ↦ (k, sym (take-append-le k xs more below))
    ]

module _ (assets : List Asset) (moment_of : ℕ → ℕ) where
  -- the text of the remarks up to a place and that of those after it
  pub text_split : (remarks : List Remark) (i : ℕ) →
      lines_by assets moment_of (map remark_value remarks)
      ≡ lines_by assets moment_of (map remark_value (take i remarks)) ++ lines_by assets moment_of (map remark_value (drop i remarks))
  text_split remarks i =
      ap (λ rs. lines_by assets moment_of (map remark_value rs)) (sym (take-append-drop i remarks))
      ∙ ap (lines_by assets moment_of) (map-append remark_value (take i remarks) (drop i remarks))
      ∙ flat_map-append (remark_line assets moment_of) (map remark_value (take i remarks)) (map remark_value (drop i remarks))

  pub text_more : (remarks : List Remark) (i : ℕ) (r : Remark) → i < length remarks → get_or remarks i r ≡ r →
      lines_by assets moment_of (map remark_value (take (i + 1) remarks)) ≡ lines_by assets moment_of (map remark_value (take i remarks)) ++ remark_line assets moment_of (remark_value r)
  text_more remarks i r inside is =
      ap (lines_by assets moment_of) (map_more remark_value remarks i r inside ∙ ap (λ x. map remark_value (take i remarks) ++ remark_value x ∷ []) is)
      ∙ flat_map-append (remark_line assets moment_of) (map remark_value (take i remarks)) (remark_value r ∷ [])
      ∙ ap (λ t. lines_by assets moment_of (map remark_value (take i remarks)) ++ t) (append-nil (remark_line assets moment_of (remark_value r)))

-- what was moved before and now, and what is left, are the text so far
pub moved_on : (front piece line left before now : List ℕ) (c d e : Content) → front ++ piece ≡ before → d ≡ with_appended c front → before ++ line ≡ now → MovesOn (piece ++ line) left d e →
    (f : List ℕ) × (f ++ left ≡ now) × (e ≡ with_appended c f)
moved_on front piece line left before now c d e told file more m = (
  front ++ m.front,
  append_assoc front m.front left ∙ ap (λ xs. front ++ xs) (sym m.parts) ∙ sym (append_assoc front piece line) ∙ ap (λ xs. xs ++ line) told ∙ more,
  m.file ∙ ap (λ x. with_appended x m.front) file ∙ with_appended-twice c front m.front,
)

-- a beginning of what waits after what was moved is a beginning of the text
pub partly_moved : (front piece before behind all : List ℕ) (k : ℕ) (c d e : Content) → front ++ piece ≡ before → all ≡ before ++ behind → d ≡ with_appended c front → e ≡ with_appended d (take k piece) →
    (x : ℕ) × (e ≡ with_appended c (take x all))
partly_moved front piece before behind all k c d e told split file failed =
    let f = take_front k piece behind in
    let whole : all ≡ front ++ (piece ++ behind) = split ∙ ap (λ xs. xs ++ behind) (sym told) ∙ append_assoc front piece behind in (
      length front + f.0,
      failed ∙ ap (λ x. with_appended x (take k piece)) file ∙ with_appended-twice c front (take k piece)
          ∙ ap (with_appended c) (ap (λ xs. front ++ xs) f.1 ∙ sym (take-append-add front (piece ++ behind) f.0) ∙ ap (take (length front + f.0)) (sym whole)),
    )

pub on_err : {A E : Type 0} (P : Type 0) (r : Result A E) → P → OnErr r P
on_err P (Ok x) p = tt
on_err P (Err e) p = p
