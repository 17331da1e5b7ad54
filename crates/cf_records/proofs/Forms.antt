-- What form a file has, by its first octets.
use Rattle.std.proofs.Common.{◌≡◌, ℕ, ◌+◌, ◌<◌, ◌≤◌, ◌==◌, Bool, true, false, nat_lt, not, if◌then◌else◌, List, length, take, Result, Ok, Err, refl, sym, ap, ◌∙◌, inl, inr, arith}
use Rattle.std.proofs.lemmas.List.{get_or-take, length-take, take_all}
use Rattle.std.proofs.lemmas.Bool.{cases_lt}
use Rattle.std.proofs.lemmas.Bool.Decides.{nat_tests}
use Rattle.cf_outside.specs.Files.{Content, untold, absent, holds}
use Rattle.cf_outside.specs.Part.{IsFilled}
use Rattle.cf_pcap.specs.Header.{fields_of, header_in, u16_at}
use Rattle.cf_pcapng.specs.Block.{Found, Is, Needs, Other, Refuses, is_allowed, is_section, is_wrong_section, kind_at, least_told, length_at, order_at, size_at, size_in}
use Rattle.cf_pcapng.specs.Section.{before_sections, no_section}
use Rattle.cf_view.specs.declared.LinkSet.{LinkSet}
use Rattle.cf_pcapng.specs.declared.block.TheConstants.{REFUSED_BLOCK, REFUSED_SECTION}
use Rattle.cf_pcapng.proofs.Deciding.{three}
use Rattle.cf_records.proofs.ClassicPieces.{u32_front}
use Rattle.cf_records.specs.Form.{form_in}
use Rattle.cf_records.specs.Reader.{HasFormIn}
use Rattle.cf_records.specs.declared.form.Form.{Form}
use Rattle.cf_records.specs.declared.form.Form.TheVariants as form
use Rattle.cf_records.specs.declared.form.FormRefusal.{FormRefusal}
use Rattle.cf_records.specs.declared.form.FormRefusal.TheVariants as refusal

-- the form that is told by the tests of the length of a first block
abbrev pub form_by : LinkSet → Found → Result Form FormRefusal
form_by kinds (Needs count) = Err refusal.Short
form_by kinds (Refuses number) = if number == REFUSED_SECTION then Err refusal.Section else Ok (form.Blocks (before_sections kinds))
form_by kinds (Is block used) = Ok (form.Blocks (before_sections kinds))

by_tests : (kinds : LinkSet) (a w c : Bool) (l : ℕ) →
    (if a then Err refusal.Short else (if w then Err refusal.Section else Ok (form.Blocks (before_sections kinds))))
    ≡ form_by kinds (three a w c 28 REFUSED_SECTION REFUSED_BLOCK (Is Other l))
by_tests kinds true w c l = refl
by_tests kinds false true c l = refl
by_tests kinds false false true l = refl
by_tests kinds false false false l = refl

module _ (kinds : LinkSet) (xs : List ℕ) (is : is_section xs ≡ true) where
  abbrev big : Bool
  big = order_at no_section.big_endian xs

  abbrev a : Bool
  a = nat_lt (length xs) 28

  abbrev w : Bool
  w = is_wrong_section big xs

  abbrev c : Bool
  c = not (is_allowed (length_at big xs) (kind_at big xs))

  form_is : form_in kinds xs ≡ (if a then Err refusal.Short else (if w then Err refusal.Section else Ok (form.Blocks (before_sections kinds))))
  form_is = rw is refl

  size_is : size_at (before_sections kinds) xs ≡ three a w c 28 REFUSED_SECTION REFUSED_BLOCK (Is Other (length_at big xs))
  unfolding size_in least_told
  size_is = rw is refl

  pub formed : (f : Found) → f ≡ size_at (before_sections kinds) xs → form_in kinds xs ≡ form_by kinds f
  formed f e = form_is ∙ by_tests kinds a w c (length_at big xs) ∙ ap (form_by kinds) (sym (e ∙ size_is))

-- ---- the form of a file stands in its first 28 octets

module _ (kinds : LinkSet) (xs : List ℕ) where
  u16_front : (big : Bool) (i : ℕ) → i + 2 ≤ 28 → u16_at big (take 28 xs) i ≡ u16_at big xs i
  u16_front big i l =
      let a = get_or-take 28 xs i 0 (omega arith) in
      let b = get_or-take 28 xs (i + 1) 0 (omega arith) in
      rw (a, b) refl

  fields_front : (big : Bool) → fields_of kinds big (take 28 xs) ≡ fields_of kinds big xs
  fields_front big = rw (u16_front big 4 (omega arith), u16_front big 6 (omega arith), u32_front big xs 28 0 (omega arith), u32_front big xs 28 20 (omega arith)) refl

  shorter : (n : ℕ) → n ≤ 28 → nat_lt (length (take 28 xs)) n ≡ nat_lt (length xs) n
  shorter n l =
      elim (cases_lt (length xs) 28) [
        | inl short ↦ ap (λ ys. nat_lt (length ys) n) (take_all 28 xs (omega arith))
        | inr long ↦
            (let here : nat_lt (length (take 28 xs)) n ≡ false = grind (arith, nat_tests, length-take 28 xs) in
            let there : nat_lt (length xs) n ≡ false = grind (arith, nat_tests) in
            here ∙ sym there)
      ]

  header_front : header_in kinds (take 28 xs) ≡ header_in kinds xs
  header_front = rw (shorter 24 (omega arith), fields_front true, fields_front false, u32_front true xs 28 0 (omega arith), u32_front false xs 28 0 (omega arith)) refl

  longer : (n : ℕ) → n < 28 → nat_lt n (length (take 28 xs)) ≡ nat_lt n (length xs)
  longer n l =
      elim (cases_lt (length xs) 28) [
        | inl short ↦ ap (λ ys. nat_lt n (length ys)) (take_all 28 xs (omega arith))
        | inr long ↦
            (let here : nat_lt n (length (take 28 xs)) ≡ true = grind (arith, nat_tests, length-take 28 xs) in
            let there : nat_lt n (length xs) ≡ true = grind (arith, nat_tests) in
            here ∙ sym there)
      ]

  section_front : is_section (take 28 xs) ≡ is_section xs
  unfolding is_section
  section_front = rw (longer 3 (omega arith), u32_front true xs 28 0 (omega arith)) refl

  order_front : (big : Bool) → order_at big (take 28 xs) ≡ order_at big xs
  unfolding order_at
  order_front big = rw (section_front, longer 11 (omega arith), u32_front true xs 28 8 (omega arith)) refl

  wrong_front : (big : Bool) → is_wrong_section big (take 28 xs) ≡ is_wrong_section big xs
  unfolding is_wrong_section
  wrong_front big = rw (section_front, u32_front big xs 28 8 (omega arith), u16_front big 12 (omega arith)) refl

  form_front : form_in kinds (take 28 xs) ≡ form_in kinds xs
  form_front = rw (section_front, shorter 28 (omega arith), order_front false, wrong_front (order_at false xs), header_front) refl

-- what is read of a file's first octets is its form
pub has_form : (kinds : LinkSet) (file : Content) (octets : List ℕ) (answer : Result Form FormRefusal) → IsFilled file 0 28 octets → form_in kinds octets ≡ answer → HasFormIn kinds file answer
has_form kinds untold octets answer f e = tt
has_form kinds absent octets answer f e = absurd f
has_form kinds (holds all) octets answer f e = sym (form_front kinds all) ∙ ap (form_in kinds) (sym f) ∙ e
