-- Acts and replies, header by header.
use Rattle.std.proofs.Common.{◌≡◌, ℕ, zero, suc, ◌+◌, ◌-◌, ◌*◌, ◌/◌, ◌%◌, ◌<◌, ◌≤◌, List, [], ◌∷◌, ◌++◌, length, map, drop, if◌then◌else◌, Bool, true, false, Option, Some, None, IsSome, get_or, below_more, Result, Ok, Err, refl, sym, ◌∙◌, ap, subst, arith, append_assoc}
use Rattle.std.specs.List.{flat_map, range_with_len, slice_get}
use Rattle.std.proofs.lemmas.List.{drop-drop, drop_all, length-drop, get_or-set_same, get_or-set_other}
use Rattle.std.proofs.Math.ListN.{set}
use Rattle.std.proofs.lemmas.Bool.{false≢true}
use Rattle.std.proofs.lemmas.List.Concat.{flat_map-cons}
use Rattle.cf_view.specs.declared.Act.{Act}
use Rattle.cf_dnpobj.specs.declared.fragment.FragmentRefusal.{FragmentRefusal}
use Rattle.cf_dnpobj.specs.Objects.{is_command}
use Rattle.cf_dnpobj.specs.Headers.{BeginsWithHeader, after_size, count_of, header_size, headers_by, headers_in}
use Rattle.cf_dnpobj.specs.Acts.{header_acts, header_count, object_act, plain_act, group_of, acts_in, LeavesActs, IsMark, AreMarksTo, first_mark}
use Rattle.cf_dnpobj.specs.declared.marks.Mark.{Mark}
use Rattle.cf_dnpobj.specs.Reply.{refused}
use Rattle.cf_dnpobj.proofs.Headers.{headers_later}
use Rattle.cf_dnpobj.proofs.Sums.{header_counted, some_headers}
use Rattle.std.proofs.lemmas.Grind.{common_steps}

get_left : {X : Type 0} (xs ys : List X) (i : ℕ) → i < length xs → slice_get (xs ++ ys) i ≡ slice_get xs i
get_left [] ys i h = absurd (omega (arith, h))
get_left (x ∷ xs) ys zero h = refl
get_left (x ∷ xs) ys (suc i) h = get_left xs ys i (omega (arith, h))

get_right : {X : Type 0} (xs ys : List X) (i : ℕ) → length xs ≤ i → slice_get (xs ++ ys) i ≡ slice_get ys (i - length xs)
get_right [] ys i h = (let e : i ≡ i - 0 = omega arith in ap (slice_get ys) e)
get_right (x ∷ xs) ys zero h = absurd (omega (arith, h))
get_right (x ∷ xs) ys (suc i) h =
    (let e : i - length xs ≡ suc i - length (x ∷ xs) = omega arith in
    get_right xs ys i (omega (arith, h)) ∙ ap (slice_get ys) e)

get_mapped : {X : Type 0} (f : ℕ → X) (a n i : ℕ) → i < n → slice_get (map f (range_with_len a n)) i ≡ Some (f (a + i))
get_mapped f a zero i h = absurd (omega (arith, h))
get_mapped f a (suc n) zero h = (let e : a ≡ a + 0 = omega arith in ap (λ k. Some (f k)) e)
get_mapped f a (suc n) (suc i) h =
    (let e : a + 1 + i ≡ a + suc i = omega arith in
    get_mapped f (a + 1) n i (omega (arith, h)) ∙ ap (λ k. Some (f k)) e)

pub if_true : {X : Type 0} (b : Bool) (x y : X) → b ≡ true → (if b then x else y) ≡ x
if_true true x y e = refl
if_true false x y e = absurd (false≢true e)

pub if_false : {X : Type 0} (b : Bool) (x y : X) → b ≡ false → (if b then x else y) ≡ y
if_false true x y e = absurd (false≢true (sym e))
if_false false x y e = refl

-- an act of a command's header
pub command_act : (code : ℕ) (h : List ℕ) (i : ℕ) → is_command code ≡ true → i < header_count code h → slice_get (header_acts code h) i ≡ Some (object_act code h i)
command_act code h i c inside =
    let all : List Act = map (object_act code h) (range_with_len 0 (count_of h)) in
    let n : i < count_of h = subst (λ (k : ℕ). i < k) (if_true (is_command code) (count_of h) 1 c) inside in
    let e : 0 + i ≡ i = omega arith in
    ap (λ (acts : List Act). slice_get acts i) (if_true (is_command code) all (plain_act code (group_of h) ∷ []) c)
    ∙ get_mapped (object_act code h) 0 (count_of h) i n ∙ ap (λ (k : ℕ). Some (object_act code h k)) e

-- where all headers are whole, those from a place on are, and what they give follows what is there
abbrev pub LeavesReply : ℕ → List ℕ → List ℕ → ℕ → List ℕ → Type 0
LeavesReply code xs start place items =
    (headers : List (List ℕ)) → headers_in code xs ≡ Ok headers →
    (later : List (List ℕ)) × (headers_in code (drop place xs) ≡ Ok later) × (items ++ flat_map (refused code) later ≡ start ++ flat_map (refused code) headers)

module _ (code : ℕ) (xs h : List ℕ) (place : ℕ) (b : BeginsWithHeader code (drop place xs) h) where
  next_headers : (later : List (List ℕ)) → headers_in code (drop place xs) ≡ Ok later → (more : List (List ℕ)) × (headers_in code (drop (place + length h) xs) ≡ Ok more) × (later ≡ h ∷ more)
  next_headers later e =
      (let n = headers_later code (drop place xs) h later b e in
      (n.0, ap (headers_in code) (sym (drop-drop (length h) place xs)) ∙ n.1, n.2))

  first_acts : (later more : List (List ℕ)) → later ≡ h ∷ more → flat_map (header_acts code) later ≡ header_acts code h ++ flat_map (header_acts code) more
  first_acts later more e = ap (flat_map (header_acts code)) e ∙ flat_map-cons (header_acts code) h more

  pub found : (i left : ℕ) (a : Act) → LeavesActs code xs i place left → left < header_count code h → slice_get (header_acts code h) left ≡ Some a →
      (headers : List (List ℕ)) → headers_in code xs ≡ Ok headers → Some a ≡ slice_get (flat_map (header_acts code) headers) i
  found i left a leaves inside is headers e =
      let l = leaves headers e in
      let n = next_headers l.0 l.1 in
      sym (l.2 ∙ ap (λ (acts : List Act). slice_get acts left) (first_acts l.0 n.0 n.2)
      ∙ get_left (header_acts code h) (flat_map (header_acts code) n.0) left (omega (arith, header_counted code h, inside)) ∙ is)

  pub passed : (i left : ℕ) → LeavesActs code xs i place left → header_count code h ≤ left → LeavesActs code xs i (place + length h) (left - header_count code h)
  passed i left leaves past headers e =
      let l = leaves headers e in
      let n = next_headers l.0 l.1 in
      let later : List Act = flat_map (header_acts code) n.0 in (
        n.0,
        n.1,
        l.2 ∙ ap (λ (acts : List Act). slice_get acts left) (first_acts l.0 n.0 n.2)
            ∙ get_right (header_acts code h) later left (omega (arith, header_counted code h, past))
            ∙ ap (λ (k : ℕ). slice_get later (left - k)) (header_counted code h),
      )

  pub replied : (start items new : List ℕ) → LeavesReply code xs start place items → new ≡ items ++ refused code h → LeavesReply code xs start (place + length h) new
  replied start items new leaves is headers e = grind (arith, common_steps, next_headers, append_assoc, flat_map-cons)

act_of_headers : (code : ℕ) (hs : Result (List (List ℕ)) FragmentRefusal) (i : ℕ) (r : Option Act) → (hs ≡ Ok [] → ⊥) → i < length (acts_in code hs) →
    ((headers : List (List ℕ)) → hs ≡ Ok headers → r ≡ slice_get (flat_map (header_acts code) headers) i) →
    slice_get (acts_in code hs) i ≡ r
act_of_headers code (Err x) i r some inside is = absurd (omega (arith, inside))
act_of_headers code (Ok []) i r some inside is = absurd (some refl)
act_of_headers code (Ok (h ∷ later)) i r some inside is = sym (is (h ∷ later) refl)

get_some : {X : Type 0} (xs : List X) (i : ℕ) (r : Option X) → i < length xs → slice_get xs i ≡ r → IsSome r
get_some {X = X} [] i r h e = absurd (omega (arith, h))
get_some {X = X} (x ∷ xs) zero r h e = subst (λ (o : Option X). IsSome o) e refl
get_some {X = X} (x ∷ xs) (suc i) r h e = get_some xs i r (omega (arith, h)) e

-- act i of headers that are all whole
pub act_is : (code : ℕ) (xs : List ℕ) (i : ℕ) (r : Option Act) → 0 < length xs → i < length (acts_in code (headers_in code xs)) →
    ((headers : List (List ℕ)) → headers_in code xs ≡ Ok headers → r ≡ slice_get (flat_map (header_acts code) headers) i) →
    slice_get (acts_in code (headers_in code xs)) i ≡ r
act_is code xs i r some inside is = act_of_headers code (headers_in code xs) i r (some_headers code xs some) inside is

pub act_there : (code : ℕ) (xs : List ℕ) (i : ℕ) (r : Option Act) → 0 < length xs → i < length (acts_in code (headers_in code xs)) →
    ((headers : List (List ℕ)) → headers_in code xs ≡ Ok headers → r ≡ slice_get (flat_map (header_acts code) headers) i) → IsSome r
act_there code xs i r some inside is = get_some (acts_in code (headers_in code xs)) i r inside (act_is code xs i r some inside is)

-- where a header is faulty, not all headers are whole
pub no_header : (code : ℕ) (xs : List ℕ) (x : FragmentRefusal) (later : List (List ℕ)) → 0 < length xs → header_size code xs ≡ Err x → headers_in code xs ≡ Ok later → ⊥
no_header code [] x later some is e = absurd (omega (arith, some))
no_header code (o ∷ xs) x later some is e =
    (let none : headers_in code (o ∷ xs) ≡ Err x = ap (λ r. after_size r (o ∷ xs) (λ rest. headers_by (length xs) code rest)) is in cc)

-- behind the last header no act is left
pub none_left : (code : ℕ) (xs : List ℕ) (place left : ℕ) (later : List (List ℕ)) → length xs ≤ place → headers_in code (drop place xs) ≡ Ok later → None ≡ slice_get (flat_map (header_acts code) later) left
none_left code xs place left later past e =
    let empty : drop place xs ≡ [] = drop_all place xs past in
    let none : Ok [] ≡ Ok later = sym (ap (headers_in code) empty) ∙ e in
    let same : later ≡ [] = cc in
    sym (ap (λ (hs : List (List ℕ)). slice_get (flat_map (header_acts code) hs) left) same)

-- marks
pub first_is_mark : (code : ℕ) (xs : List ℕ) → IsMark code xs 0 first_mark
first_is_mark code xs = record { inside = omega arith; small = omega arith; leaves = λ n headers e. (let same : 0 + n ≡ n = omega arith in (headers, e, refl)) }

pub mark_later : (code : ℕ) (xs : List ℕ) (i : ℕ) (m : Mark) (k : ℕ) → IsMark code xs i m → IsMark code xs (i + k) (record { at = m.at; left = m.left + k })
mark_later code xs i m k is = record {
  inside = is.inside;
  small = omega (arith, is.small);
  leaves = λ n.
      (let a : i + (k + n) ≡ i + k + n = omega arith in
      let b : m.left + (k + n) ≡ m.left + k + n = omega arith in
      subst (λ (q : ℕ). LeavesActs code xs q m.at (m.left + k + n)) a (subst (λ (q : ℕ). LeavesActs code xs (i + (k + n)) m.at q) b (is.leaves (k + n))));
}

pub mark_passed : (code : ℕ) (xs h : List ℕ) (place : ℕ) (b : BeginsWithHeader code (drop place xs) h) (i left : ℕ) → IsMark code xs i (record { at = place; left = left }) →
    header_count code h ≤ left → IsMark code xs i (record { at = place + length h; left = left - header_count code h })
mark_passed code xs h place b i left is past = record {
  inside = omega (arith, b.inside, length-drop place xs, is.inside, b.least);
  small = omega (arith, is.small);
  leaves = λ n.
      (let more : left + n - header_count code h ≡ left - header_count code h + n = omega arith in
      subst (λ (m : ℕ). LeavesActs code xs (i + n) (place + length h) m) more (passed code xs h place b (i + n) (left + n) (is.leaves n) (omega arith)));
}

pub mark_after : (code : ℕ) (xs : List ℕ) (number : ℕ) (m : Mark) → IsMark code xs (16 * number + 16) m → IsMark code xs (16 * (number + 1)) m
mark_after code xs number m is = (let e : 16 * number + 16 ≡ 16 * (number + 1) = omega arith in subst (λ (i : ℕ). IsMark code xs i m) e is)

pub marks_more : (code : ℕ) (xs : List ℕ) (number : ℕ) (marks : List Mark) (m : Mark) → number < length marks → AreMarksTo code xs number marks → IsMark code xs (16 * number) m →
    AreMarksTo code xs (number + 1) (set marks number m)
marks_more code xs number marks m inside are is =
    below_more (λ (j : ℕ). IsMark code xs (16 * j) (get_or (set marks number m) j first_mark)) number
    (λ j l. subst (λ (k : Mark). IsMark code xs (16 * j) k) (sym (get_or-set_other marks number j m first_mark (λ e. omega (arith, e, l)))) (are j l))
    (subst (λ (k : Mark). IsMark code xs (16 * number) k) (sym (get_or-set_same marks number m first_mark inside)) is)

pub mark_leaves : (code : ℕ) (xs : List ℕ) (i : ℕ) (m : Mark) → IsMark code xs (16 * (i / 16)) m → LeavesActs code xs i m.at (m.left + i % 16)
mark_leaves code xs i m is = (let e : 16 * (i / 16) + i % 16 ≡ i = omega arith in subst (λ (k : ℕ). LeavesActs code xs k m.at (m.left + i % 16)) e (is.leaves (i % 16)))
