-- What stands at a place of a pcapng file, read in two parts: the first octets of a block, and then all of them.
use Rattle.std.proofs.Common.{◌≡◌, ℕ, ◌<◌, ◌≤◌, true, false, ◌==◌, if◌then◌else◌, List, length, take, drop, refl, sym, ap, ◌∙◌, subst, inl, inr, arith}
use Rattle.std.proofs.lemmas.List.{length-take, length-take-le, take_all, take-append-drop, take-take}
use Rattle.std.proofs.lemmas.Bool.{cases_lt}
use Rattle.std.proofs.lemmas.Bool.Decides.{nat_tests}
use Rattle.cf_outside.specs.Files.{Content, untold, absent, holds}
use Rattle.cf_outside.specs.Part.{HasRead, IsFilled}
use Rattle.cf_outside.proofs.Pieces.{read_filled}
use Rattle.cf_pcapng.specs.Answers.{answer_of}
use Rattle.cf_pcapng.specs.Block.{Found, Holds, Is, Needs, Other, Refuses, block_at, size_at}
use Rattle.cf_pcapng.specs.Blocks.{after_found}
use Rattle.cf_pcapng.specs.Section.{Section}
use Rattle.cf_pcapng.proofs.Fronts.{block_enough, size_enough}
use Rattle.cf_records.specs.Capture.{FileEnd, Large, by_block, by_size, is_past, section_at}
use Rattle.cf_records.specs.Pieces.{SizeFits}

-- ---- octets in a buffer

-- some of those that stand there
pub filled_less : (file : Content) (place have size : ℕ) (buffer : List ℕ) → size ≤ have → have ≤ 28 → IsFilled file place 28 (take have buffer) →
    IsFilled file place size (take size buffer)
filled_less untold place have size buffer a b f = tt
filled_less absent place have size buffer a b f = absurd f
filled_less (holds all) place have size buffer a b f =
    sym (take-take size have buffer a) ∙ ap (take size) f ∙ take-take size 28 (drop place all) (omega arith)

-- all that the file has
pub filled_all : (file : Content) (place have size : ℕ) (buffer : List ℕ) → have < 28 → have < size → have ≤ length buffer →
    IsFilled file place 28 (take have buffer) → IsFilled file place size (take have buffer)
filled_all untold place have size buffer a b c f = tt
filled_all absent place have size buffer a b c f = absurd f
filled_all (holds all) place have size buffer a b c f =
    let xs = drop place all in
    let long = sym (length-take-le have buffer c) ∙ ap length f ∙ length-take 28 xs in
    f ∙ take_all 28 xs (omega (arith, long)) ∙ sym (take_all size xs (omega (arith, long)))

pub filled_first : (file : Content) (place have : ℕ) (buffer : List ℕ) → have ≡ 28 → 28 ≤ length buffer →
    IsFilled file place 28 (take have buffer) → HasRead file place (take 28 buffer)
filled_first file place have buffer e l f =
    read_filled file place 28 (take 28 buffer) (length-take-le 28 buffer l) (subst (λ n. IsFilled file place 28 (take n buffer)) e f)

-- ---- the first octets of a block

pub first_size : (section : Section) (xs : List ℕ) → size_at section (take 28 xs) ≡ size_at section xs
first_size section xs =
    elim (cases_lt (length xs) 28) [
      | inl short ↦ ap (size_at section) (take_all 28 xs (omega arith))
      | inr long ↦
          size_enough (take 28 xs) (drop 28 xs) section (omega (arith, length-take 28 xs)) ∙ ap (size_at section) (take-append-drop 28 xs)
    ]

pub whole_block : (section : Section) (xs : List ℕ) (size : ℕ) → size_at section xs ≡ Is Other size → block_at section (take size xs) ≡ block_at section xs
whole_block section xs size e =
    elim (cases_lt (length xs) size) [
      | inl short ↦ ap (block_at section) (take_all size xs (omega arith))
      | inr long ↦
          (let same = take-append-drop size xs in
          block_enough (take size xs) (drop size xs) section size (ap (size_at section) same ∙ e) (length-take-le size xs long) ∙ ap (block_at section) same)
    ]

module _ (section : Section) (place : ℕ) (xs : List ℕ) where
  pub section_by : (f : Found) → 0 < length xs → is_past place 8 xs ≡ false → size_at section xs ≡ f →
      section_at section place xs ≡ by_size f place xs (block_at section xs)
  section_by f some near e =
      let here : (length xs == 0) ≡ false = grind (arith, nat_tests) in
      ap (λ b. if b then FileEnd else if is_past place 8 xs then Large else by_size (size_at section xs) place xs (block_at section xs)) here
      ∙ ap (λ b. if b then Large else by_size (size_at section xs) place xs (block_at section xs)) near
      ∙ ap (λ g. by_size g place xs (block_at section xs)) e

  pub section_large : (size : ℕ) → SizeFits section place xs size → is_past place size xs ≡ true → section_at section place xs ≡ Large
  section_large size fits past = section_by (Is Other size) fits.some fits.near fits.told ∙ ap (λ b. if b then Large else by_block (block_at section xs)) past

  by_answer : (f : Found) → by_block f ≡ by_block (answer_of f)
  by_answer (Is (Holds packet) used) = refl
  by_answer f = refl

  pub section_whole : (size : ℕ) → SizeFits section place xs size → is_past place size xs ≡ false →
      section_at section place xs ≡ by_block (answer_of (block_at section (take size xs)))
  section_whole size fits past =
      section_by (Is Other size) fits.some fits.near fits.told ∙ ap (λ b. if b then Large else by_block (block_at section xs)) past
      ∙ ap by_block (sym (whole_block section xs size fits.told)) ∙ by_answer (block_at section (take size xs))

-- what the reader keeps after no block
pub same_after : (section : Section) (f : Found) (count : ℕ) → Needs count ≡ answer_of f → after_found section f ≡ section
same_after section (Needs n) count e = refl
same_after section (Refuses n) count e = refl
same_after section (Is block n) count e = cc

pub same_refused : (section : Section) (f : Found) (number : ℕ) → Refuses number ≡ answer_of f → after_found section f ≡ section
same_refused section (Needs n) number e = refl
same_refused section (Refuses n) number e = refl
same_refused section (Is block n) number e = cc
