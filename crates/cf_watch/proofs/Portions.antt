-- Portions of letters by the places where they begin.
use Rattle.std.proofs.Common.{◌≡◌, ◌≢◌, ◌+◌, ◌-◌, ◌<◌, ◌≤◌, ◌⊎◌, ℕ, zero, suc, Bool, true, false, nat_lt, List, [], length, Option, Some, None, is_some, option_map, refl, sym, ap, ◌∙◌, inl, inr, arith}
use Rattle.std.proofs.lemmas.Bool.{cases_eq, cases_lt, eq-eqb}
use Rattle.std.proofs.lemmas.Bool.Decides.{nat_tests}
use Rattle.std.proofs.lemmas.Option.{none-some}
use Rattle.std.specs.BTreeMap.{BTreeMap, btree_map_len, get, is_at}
use Rattle.std.specs.Map.{lookup}
use Rattle.std.specs.Ordering.{nat_cmp}
use Rattle.std.specs.Option.{option_or}
use Rattle.cf_stream.specs.Stream.{End, Letter, Stream, letter_at, letter_count}
use Rattle.cf_watch.specs.Kept.{IsFirst, IsRoom, IsUpToNext, kept, letter_of_portion, portion_at, portion_letter, row_value}
use Rattle.cf_watch.specs.Stretches.{FirstLetter}
use Rattle.cf_watch.specs.declared.ahead.Portion.{Portion}
use Rattle.cf_watch.proofs.Letters.{at_byte}

-- this portion is the last that begins at a place or before it
pub record IsLast (a : BTreeMap ℕ Portion) (q s : ℕ) (p : Portion) : Type 0 where
  pub here : get nat_cmp a s ≡ Some p
  pub before : s ≤ q
  pub none_between : (r : ℕ) → s < r → r ≤ q → get nat_cmp a r ≡ None

-- none begins there
abbrev pub NoneTo : BTreeMap ℕ Portion → ℕ → Type 0
NoneTo a q = (r : ℕ) → r ≤ q → get nat_cmp a r ≡ None

abbrev pub Last : BTreeMap ℕ Portion → ℕ → Type 0
Last a q = (s : ℕ) × (p : Portion) × IsLast a q s p

-- the portion of a place hangs on those up to it
pub portion_same : (a b : BTreeMap ℕ Portion) (q : ℕ) → ((r : ℕ) → r ≤ q → get nat_cmp a r ≡ get nat_cmp b r) → portion_at a q ≡ portion_at b q
portion_same a b zero h = ap (option_map (λ (p : Portion). let e : ℕ × Portion = (zero, p) in e)) (h zero (omega arith))
portion_same a b (suc q) h =
    rw (h (suc q) (omega arith), portion_same a b q (λ r l. h r (omega (arith, l)))) refl

pub portion_none : (a : BTreeMap ℕ Portion) (q : ℕ) → NoneTo a q → portion_at a q ≡ None
portion_none a zero h = rw (h zero (omega arith)) refl
portion_none a (suc q) h = rw (h (suc q) (omega arith), portion_none a q (λ r l. h r (omega (arith, l)))) refl

pub portion_is : (a : BTreeMap ℕ Portion) (s : ℕ) (p : Portion) (q : ℕ) → IsLast a q s p → portion_at a q ≡ Some (s, p)
portion_is a s p zero h =
    let e : s ≡ zero = let b = h.before in omega (arith, b) in
    let g : get nat_cmp a zero ≡ Some p = ap (get nat_cmp a) (sym e) ∙ h.here in
    rw g (ap (λ (n : ℕ). let o : Option (ℕ × Portion) = Some (n, p) in o) (sym e))
portion_is a s p (suc q) h =
    elim (cases_eq s (suc q)) [
      | inl e ↦
          (let g : get nat_cmp a (suc q) ≡ Some p = ap (get nat_cmp a) (sym e) ∙ h.here in
          rw g (ap (λ (n : ℕ). let o : Option (ℕ × Portion) = Some (n, p) in o) (sym e)))
      | inr d ↦
          (let b : s ≤ q = let b = h.before in omega (arith, b, d) in
          let g : get nat_cmp a (suc q) ≡ None = h.none_between (suc q) (omega (arith, b)) (omega arith) in
          rw g (portion_is a s p q (record { here = h.here; before = b; none_between = λ r v w. h.none_between r v (omega (arith, w)) })))
    ]

-- one is the last, or there is none
pub last_or_none : (a : BTreeMap ℕ Portion) (q : ℕ) → NoneTo a q ⊎ Last a q
last_or_none a zero = here (get nat_cmp a zero) refl
  where
    here : (o : Option Portion) → get nat_cmp a zero ≡ o → NoneTo a zero ⊎ Last a zero
    here None e = inl (λ r l. let z : r ≡ zero = omega (arith, l) in ap (get nat_cmp a) z ∙ e)
    here (Some p) e = inr (zero, p, record { here = e; before = omega arith; none_between = λ r v w. absurd (omega (arith, v, w)) })
last_or_none a (suc q) = here (get nat_cmp a (suc q)) refl (last_or_none a q)
  where
    here : (o : Option Portion) → get nat_cmp a (suc q) ≡ o → NoneTo a q ⊎ Last a q → NoneTo a (suc q) ⊎ Last a (suc q)
    here (Some p) e was = inr (suc q, p, record { here = e; before = omega arith; none_between = λ r v w. absurd (omega (arith, v, w)) })
    here None e was =
        elim was [
          | inl n ↦ inl (λ r l. elim (cases_eq r (suc q)) [
            | inl i ↦ ap (get nat_cmp a) i ∙ e
            | inr d ↦ n r (omega (arith, l, d))
          ])
          | inr (s, p, x) ↦
              inr (
                s,
                p,
                record {
                  here = x.here;
                  before = let b = x.before in omega (arith, b);
                  none_between = λ r v w. elim (cases_eq r (suc q)) [
                    | inl i ↦ ap (get nat_cmp a) i ∙ e
                    | inr d ↦ x.none_between r v (omega (arith, w, d))
                  ];
                },
              )
        ]

pub kept_last : (a : BTreeMap ℕ Portion) (q s : ℕ) (p : Portion) → IsLast a q s p → kept a q ≡ letter_of_portion p (q - s)
kept_last a q s p h = ap (portion_letter q) (portion_is a s p q h)

pub kept_none : (a : BTreeMap ℕ Portion) (q : ℕ) → NoneTo a q → kept a q ≡ None
kept_none a q h = ap (portion_letter q) (portion_none a q h)

pub kept_same : (a b : BTreeMap ℕ Portion) (q : ℕ) → ((r : ℕ) → r ≤ q → get nat_cmp a r ≡ get nat_cmp b r) → kept a q ≡ kept b q
kept_same a b q h = ap (portion_letter q) (portion_same a b q h)

nothing_at : (a : BTreeMap ℕ Portion) (q : ℕ) → a.entries ≡ [] → get nat_cmp a q ≡ None
nothing_at a q e = ap (lookup (is_at (nat_cmp q))) e

pub nothing_kept : (a : BTreeMap ℕ Portion) (q : ℕ) → a.entries ≡ [] → kept a q ≡ None
nothing_kept a q e = kept_none a q (λ r l. nothing_at a r e)

-- ---- behind the letters of a portion

counted : (bytes : List ℕ) (ended : Bool) (k : ℕ) → letter_at (record { bytes = bytes; ended = ended }) k ≡ None → letter_count (record { bytes = bytes; ended = ended }) ≤ k
counted bytes false k h =
    elim (cases_lt k (length bytes)) [
      | inl v ↦ absurd (none-some _ (sym h ∙ at_byte bytes false k v))
      | inr v ↦ omega (arith, v)
    ]
counted bytes true k h =
    elim (cases_lt k (length bytes)) [
      | inl v ↦ absurd (none-some _ (sym h ∙ at_byte bytes true k v))
      | inr v ↦ elim (cases_eq k (length bytes)) [
        | inl e ↦
            (let l : nat_lt k (length bytes) ≡ false = grind (arith, nat_tests, v) in
            let t : letter_at (record { bytes = bytes; ended = true }) k ≡ Some End = rw (l, eq-eqb k (length bytes) e) refl in
            absurd (none-some End (sym h ∙ t)))
        | inr d ↦ omega (arith, v, d)
      ]
    ]

pub count_upto : (s : Stream) (k : ℕ) → letter_at s k ≡ None → letter_count s ≤ k
count_upto s k h = counted s.bytes s.ended k h

past_by : (bytes : List ℕ) (ended : Bool) (k : ℕ) → letter_count (record { bytes = bytes; ended = ended }) ≤ k → letter_at (record { bytes = bytes; ended = ended }) k ≡ None
past_by bytes true k h = grind (arith, nat_tests, h)
past_by bytes false k h = grind (arith, nat_tests, h)

pub past_count : (s : Stream) (k : ℕ) → letter_count s ≤ k → letter_at s k ≡ None
past_count s k h = past_by s.bytes s.ended k h

pub mapped_none : {X Y : Type 0} (f : X → Y) (o : Option X) → option_map f o ≡ None → o ≡ None
mapped_none f None h = refl
mapped_none f (Some x) h = absurd (none-some (f x) (sym h))

pub portion_ends : (p : Portion) (k : ℕ) → letter_of_portion p k ≡ None → letter_count (row_value p.letters) ≤ k
portion_ends p k h = count_upto (row_value p.letters) k (mapped_none (λ (l : Letter). let r : FirstLetter = record { letter = l; number = p.number } in r) (letter_at (row_value p.letters) k) h)

pub portion_past : (p : Portion) (k : ℕ) → letter_count (row_value p.letters) ≤ k → letter_of_portion p k ≡ None
portion_past p k h = ap (option_map (λ (l : Letter). let r : FirstLetter = record { letter = l; number = p.number } in r)) (past_count (row_value p.letters) k h)

-- where none is kept, and none begins behind it, none is kept behind it
pub none_behind : (a : BTreeMap ℕ Portion) (place q : ℕ) → kept a place ≡ None → ((r : ℕ) → place < r → r ≤ q → get nat_cmp a r ≡ None) → place ≤ q → kept a q ≡ None
none_behind a place q none begins less =
    elim (last_or_none a place) [
      | inl n ↦ kept_none a q (λ r l. elim (cases_lt place r) [
        | inl v ↦ begins r v l
        | inr v ↦ n r v
      ])
      | inr (s, p, x) ↦
          (let to : s ≤ place = x.before in
          let ends : letter_count (row_value p.letters) ≤ place - s = portion_ends p (place - s) (sym (kept_last a place s p x) ∙ none) in
          let last : IsLast a q s p = record {
            here = x.here;
            before = omega (arith, to, less);
            none_between = λ r v w. elim (cases_lt place r) [
              | inl y ↦ begins r y w
              | inr y ↦ x.none_between r v y
            ];
          } in
          kept_last a q s p last ∙ portion_past p (q - s) (omega (arith, ends, to, less)))
    ]

-- where there is room none is kept
pub none_in_room : (a : BTreeMap ℕ Portion) (place count q : ℕ) → IsRoom place count a → place ≤ q → q < place + count → kept a q ≡ None
none_in_room a place count q h v w =
    none_behind a place q (h.here (omega (arith, v, w))) (λ r x y. h.behind r x (omega (arith, y, w))) v

or_none : (x : Option FirstLetter) → option_or x None ≡ x
or_none None = refl
or_none (Some l) = refl

-- ---- a portion is put where there is room

module _ (a b : BTreeMap ℕ Portion) (place : ℕ) (p : Portion) (here : get nat_cmp b place ≡ Some p)
    (others : (q : ℕ) → q ≢ place → get nat_cmp b q ≡ get nat_cmp a q) where
  pub put_before : (q : ℕ) → q < place → kept b q ≡ kept a q
  put_before q h = kept_same b a q (λ r l. others r (λ e. omega (arith, h, l, e)))

  is_last_put : (q : ℕ) → place ≤ q → ((r : ℕ) → place < r → r ≤ q → get nat_cmp a r ≡ None) → IsLast b q place p
  is_last_put q less none = record {
    here = here;
    before = less;
    none_between = λ r v w. others r (λ e. omega (arith, v, e)) ∙ none r v w;
  }

  pub put_behind : 0 < letter_count (row_value p.letters) → IsRoom place (letter_count (row_value p.letters)) a → (k : ℕ) →
      kept b (place + k) ≡ option_or (kept a (place + k)) (letter_of_portion p k)
  put_behind some room k =
      let q = place + k in
      let less : place ≤ q = omega arith in
      let back : q - place ≡ k = omega arith in
      let new : IsLast b q place p → kept a q ≡ None → kept b q ≡ option_or (kept a q) (letter_of_portion p k) = λ last none.
      kept_last b q place p last ∙ ap (letter_of_portion p) back ∙ sym (ap (λ (o : Option FirstLetter). option_or o (letter_of_portion p k)) none) in
      elim (last_or_none a q) [
        | inl n ↦ new (is_last_put q less (λ r v w. n r w)) (kept_none a q n)
        | inr (s, p', x) ↦ elim (cases_lt place s) [
          | inl v ↦
              (let far : place + letter_count (row_value p.letters) ≤ s = elim (cases_lt s (place + letter_count (row_value p.letters))) [
                | inl w ↦ absurd (none-some p' (sym (room.behind s v w) ∙ x.here))
                | inr w ↦ w
              ] in
              let upto : s ≤ q = x.before in
              let last : IsLast b q s p' = record {
                here = others s (λ e. omega (arith, v, e)) ∙ x.here;
                before = upto;
                none_between = λ r y z. others r (λ e. omega (arith, v, y, e)) ∙ x.none_between r y z;
              } in
              let none : letter_of_portion p k ≡ None = portion_past p k (omega (arith, far, upto)) in
              kept_last b q s p' last ∙ sym (kept_last a q s p' x) ∙ sym (ap (option_or (kept a q)) none ∙ or_none (kept a q)))
          | inr v ↦
              (let none : (r : ℕ) → place < r → r ≤ q → get nat_cmp a r ≡ None = λ r y z. x.none_between r (omega (arith, v, y)) z in
              new (is_last_put q less none) (none_behind a place q (room.here some) none less))
        ]
      ]

-- ---- the first portion is taken out

module _ (old new : BTreeMap ℕ Portion) (start : ℕ) (all first : Portion) (here : get nat_cmp old start ≡ Some all)
    (others : (q : ℕ) → q ≢ start → get nat_cmp new q ≡ get nat_cmp old q) (low : (r : ℕ) → r ≤ start → get nat_cmp new r ≡ None)
    (h : IsUpToNext new start all first) where
  low_old : (r : ℕ) → r < start → get nat_cmp old r ≡ None
  low_old r v = sym (others r (λ e. omega (arith, v, e))) ∙ low r (omega (arith, v))

  none_new : (q : ℕ) → q < start + letter_count (row_value first.letters) → NoneTo new q
  none_new q v r l = elim (cases_lt start r) [
    | inl w ↦ h.none_between r w (omega (arith, l, v))
    | inr w ↦ low r w
  ]

  first_was : (k : ℕ) → k < letter_count (row_value first.letters) → kept old (start + k) ≡ letter_of_portion first k
  first_was k v =
      let last : IsLast old (start + k) start all = record {
        here = here;
        before = omega arith;
        none_between = λ r x y. sym (others r (λ e. omega (arith, x, e))) ∙ h.none_between r x (omega (arith, y, v));
      } in
      let back : (start + k) - start ≡ k = omega arith in
      let f : ℕ → Letter → FirstLetter = λ n l. record { letter = l; number = n } in
      kept_last old (start + k) start all last ∙ ap (letter_of_portion all) back
      ∙ ap (option_map (f all.number)) (sym (h.same k v)) ∙ ap (λ (n : ℕ). option_map (f n) (letter_at (row_value first.letters) k)) (sym h.number)

  first_others : (q : ℕ) → start + letter_count (row_value first.letters) ≤ q → kept new q ≡ kept old q
  first_others q v =
      elim (last_or_none new q) [
        | inl n ↦
            (let k = q - start in
            let e : start + k ≡ q = omega (arith, v) in
            let none : letter_at (row_value all.letters) k ≡ None = h.rest k (omega (arith, v)) (λ r l. n r (omega (arith, l, e))) in
            let f : Letter → FirstLetter = λ l. record { letter = l; number = all.number } in
            let last : IsLast old q start all = record {
              here = here;
              before = omega (arith, v);
              none_between = λ r x y. sym (others r (λ i. omega (arith, x, i))) ∙ n r y;
            } in
            kept_none new q n ∙ sym (kept_last old q start all last ∙ ap (option_map f) none))
        | inr (s, p', x) ↦ elim (cases_lt start s) [
          | inl w ↦
              (let last : IsLast old q s p' = record {
                here = sym (others s (λ i. omega (arith, w, i))) ∙ x.here;
                before = x.before;
                none_between = λ r y z. sym (others r (λ i. omega (arith, w, y, i))) ∙ x.none_between r y z;
              } in
              kept_last new q s p' x ∙ sym (kept_last old q s p' last))
          | inr w ↦ absurd (none-some p' (sym (low s w) ∙ x.here))
        ]
      ]

  pub is_first : btree_map_len new + 1 ≡ btree_map_len old → IsFirst start first old new
  is_first fewer = record {
    begins = ap is_some here;
    was = first_was;
    none_before = λ q v. kept_none old q (λ r l. low_old r (omega (arith, l, v)));
    gone = λ r v. none_new r v r (omega arith);
    others = first_others;
    fewer = fewer;
  }
