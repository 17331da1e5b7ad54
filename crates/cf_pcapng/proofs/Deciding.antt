-- Which of the ten tests decides.
use Rattle.std.proofs.Common.{◌≡◌, ℕ, ◌+◌, ◌<◌, ◌≤◌, Bool, true, false, not, nat_lt, if◌then◌else◌, List, [], ◌∷◌, ◌++◌, length, take, refl, sym, ap, ◌∙◌, subst, arith}
use Rattle.std.proofs.lemmas.Bool.Decides.{nat_tests}
use Rattle.std.proofs.lemmas.Grind.{take-set_at}
use Rattle.std.proofs.Math.ListN.{set}
use Rattle.cf_view.specs.declared.LinkSet.{LinkSet}
use Rattle.cf_pcapng.specs.Answers.{answer_of}
use Rattle.cf_pcapng.specs.Block.{Describes, Found, Is, Needs, Other, Refuses, block_at, block_in, differs, is_allowed, is_wrong_section, kind_at, last_of, least_told, length_at, order_at, size_in}
use Rattle.cf_pcapng.specs.Blocks.{after, after_found}
use Rattle.cf_pcapng.specs.Section.{Section}
use Rattle.cf_pcapng.specs.declared.block.Interface.{Interface}
use Rattle.cf_pcapng.specs.declared.block.TheConstants.{REFUSED_BLOCK, REFUSED_SECTION}

-- three tests
abbrev pub three : (a b c : Bool) (n p q : ℕ) → Found → Found
three a b c n p q z = if a then Needs n else (if b then Refuses p else (if c then Refuses q else z))

-- octets that are refused, or too few
abbrev pub IsStop : Found → Type 0
IsStop (Is block used) = ⊥
IsStop (Needs count) = Unit {0}
IsStop (Refuses number) = Unit {0}

-- one applies
stopped : (a b c : Bool) (n p q l : ℕ) (f z : Found) → IsStop f → three a b c n p q (Is Other l) ≡ f → three a b c n p q z ≡ f
stopped true b c n p q l f z stop e = e
stopped false true c n p q l f z stop e = e
stopped false false true n p q l f z stop e = e
stopped false false false n p q l f z stop e = absurd (subst IsStop (sym e) stop)

-- none applies
passed_by : (a b c : Bool) (n p q l used : ℕ) → three a b (not c) n p q (Is Other l) ≡ Is Other used → (a ≡ false) × (b ≡ false) × (c ≡ true) × (l ≡ used)
passed_by true b c n p q l used e = cc
passed_by false true c n p q l used e = cc
passed_by false false false n p q l used e = cc
passed_by false false true n p q l used e = (refl, refl, refl, cc)

-- what the first three tests say of a block whose length they give
pub passed : (big : Bool) (xs : List ℕ) (used : ℕ) → size_in big xs ≡ Is Other used →
    (nat_lt (length xs) (least_told xs) ≡ false) × (is_wrong_section big xs ≡ false) × (is_allowed (length_at big xs) (kind_at big xs) ≡ true)
    × (length_at big xs ≡ used)
unfolding size_in
passed big xs used e =
    passed_by (nat_lt (length xs) (least_told xs)) (is_wrong_section big xs) (is_allowed (length_at big xs) (kind_at big xs))
    (least_told xs) REFUSED_SECTION REFUSED_BLOCK (length_at big xs) used e

module _ (kinds : LinkSet) (interfaces : List Interface) (big : Bool) (xs : List ℕ) where
  abbrev told_length : ℕ
  told_length = length_at big xs

  -- the tests after the first three
  abbrev rest : Found
  rest =
      if nat_lt (length xs) told_length then Needs told_length
      else (if differs big xs then Refuses REFUSED_BLOCK else last_of kinds interfaces big xs (kind_at big xs))

  pub block_stops : (f : Found) → IsStop f → size_in big xs ≡ f → block_in kinds interfaces big xs ≡ f
  unfolding size_in block_in
  block_stops f stop e =
      stopped (nat_lt (length xs) (least_told xs)) (is_wrong_section big xs) (not (is_allowed told_length (kind_at big xs)))
      (least_told xs) REFUSED_SECTION REFUSED_BLOCK told_length f rest stop e

  block_sized : (used : ℕ) → size_in big xs ≡ Is Other used → (told_length ≡ used) × (block_in kinds interfaces big xs ≡ rest)
  unfolding block_in
  block_sized used e =
      let (told, right, allowed, is) = passed big xs used e in
      (is, rw (told, right, allowed) refl)

  pub block_cut : (used : ℕ) → size_in big xs ≡ Is Other used → length xs < used → block_in kinds interfaces big xs ≡ Needs used
  block_cut used e l =
      let (is, by) = block_sized used e in
      let short : nat_lt (length xs) used ≡ true = grind (arith, nat_tests) in
      by ∙ rw (is, short) refl

  block_there : (used : ℕ) → size_in big xs ≡ Is Other used → used ≤ length xs →
      block_in kinds interfaces big xs ≡ (if differs big xs then Refuses REFUSED_BLOCK else last_of kinds interfaces big xs (kind_at big xs))
  block_there used e l =
      let (is, by) = block_sized used e in
      let long : nat_lt (length xs) told_length ≡ false = grind (arith, nat_tests, is) in
      by ∙ rw long refl

  pub block_differs : (used : ℕ) → size_in big xs ≡ Is Other used → used ≤ length xs → differs big xs ≡ true → block_in kinds interfaces big xs ≡ Refuses REFUSED_BLOCK
  block_differs used e l d = block_there used e l ∙ rw d refl

  pub block_whole : (used : ℕ) → size_in big xs ≡ Is Other used → used ≤ length xs → differs big xs ≡ false →
      block_in kinds interfaces big xs ≡ last_of kinds interfaces big xs (kind_at big xs)
  block_whole used e l d = block_there used e l ∙ rw d refl

-- what a reader answers, and what it keeps
module _ (view section : Section) (xs : List ℕ) (big : Bool) (same : view ≡ section) (order : big ≡ order_at view.big_endian xs) where
  at : (f : Found) → block_in section.kinds section.interfaces big xs ≡ f → block_at section xs ≡ f
  at f e = ap (λ o. block_in section.kinds section.interfaces o xs) (sym (order ∙ ap (λ (s : Section). order_at s.big_endian xs) same)) ∙ e

  pub told_at : (f : Found) → block_in section.kinds section.interfaces big xs ≡ f → answer_of f ≡ answer_of (block_at section xs)
  told_at f e = ap answer_of (sym (at f e))

  pub kept_at : (f : Found) → block_in section.kinds section.interfaces big xs ≡ f → after_found section f ≡ after_found section (block_at section xs)
  kept_at f e = ap (after_found section) (sym (at f e))

  pub whole_at : (used : ℕ) (f : Found) → Is Other used ≡ size_in big xs → used ≤ length xs →
      differs big xs ≡ false → f ≡ last_of view.kinds view.interfaces big xs (kind_at big xs) → f ≡ block_at section xs
  whole_at used f e l d is =
      is ∙ ap (λ (s : Section). last_of s.kinds s.interfaces big xs (kind_at big xs)) same
      ∙ sym (at (last_of section.kinds section.interfaces big xs (kind_at big xs)) (block_whole section.kinds section.interfaces big xs used (sym e) l d))

-- one interface more
pub one_more : (kinds : LinkSet) (big : Bool) (slots : List Interface) (count : ℕ) (i : Interface) (section : Section) (used : ℕ) (f : Found) → count < length slots →
    record { kinds = kinds; big_endian = big; interfaces = take count slots } ≡ section → Is (Describes i) used ≡ f →
    record { kinds = kinds; big_endian = big; interfaces = take (count + 1) (set slots count i) } ≡ after_found section f
one_more kinds big slots count i section used f l is e =
    let more : take (count + 1) (set slots count i) ≡ take count slots ++ i ∷ [] = take-set_at slots count (count + 1) i refl l in
    let now : Section = record { kinds = kinds; big_endian = big; interfaces = take count slots } in
    ap (λ all. record { kinds = kinds; big_endian = big; interfaces = all }) more
    ∙ ap (λ (s : Section). after s (Describes i)) is ∙ ap (after_found section) e
