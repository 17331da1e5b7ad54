-- What letters of a packet do to a flow, taken in two parts.
use Rattle.std.proofs.Common.{◌≡◌, ◌≢◌, ◌==◌, if◌then◌else◌, ◌+◌, ◌-◌, ◌^◌, ◌<◌, ◌≤◌, ◌+ℤ◌, ◌-ℤ◌, ◌≤ℤ◌, ◌⊎◌, ℕ, ℤ, pos, negsuc, Bool, true, false, List, [], ◌∷◌, ◌++◌, length, replicate, Option, Some, None, refl, sym, ap, ◌∙◌, is_some, nat_lt, get_or, option_map, unwrap_or, inl, inr, arith, subst, length-append, append_assoc}
use Rattle.std.proofs.lemmas.Bool.{cases_eq, cases_lt, eq-eqb, false≢true, true≢false}
use Rattle.std.proofs.lemmas.Bool.Decides.{nat_tests}
use Rattle.std.proofs.lemmas.Int.{ints}
use Rattle.std.proofs.lemmas.Option.{none-some}
use Rattle.std.proofs.lemmas.List.{append-nil, get_or_append_left, get_or-append_right, get_or_push, length_push, replicate-append-replicate}
use Rattle.std.specs.BTreeMap.{BTreeMap}
use Rattle.std.specs.Option.{option_or}
use Rattle.cf_stream.specs.Stream.{Byte, Letter, Stream, letter_at, letter_count, letter_from}
use Rattle.cf_watch.specs.Carried.{Carried, Differs, IsConflictAfter, IsConflictOf, letter_of}
use Rattle.cf_watch.specs.Kept.{Grows, Holds, IsRoom, Takes, kept, known, letter_of_portion, letter_value, row_value, stream_of}
use Rattle.cf_watch.specs.Stretches.{FirstLetter, is_own, letter_came}
use Rattle.cf_watch.specs.declared.flow.Conflict.{Conflict}
use Rattle.cf_watch.specs.FlowValue.{FlowValue}
use Rattle.cf_watch.specs.declared.ahead.Portion.{Portion}
use Rattle.cf_watch.specs.declared.letter.Letter.{Letter as Heard}
use Rattle.cf_watch.specs.declared.letter.Letter.TheVariants as heard
use Rattle.cf_watch.proofs.Apart.{came_kept, came_not, first_or_none, holds_both, known_kept, own_not}
use Rattle.cf_watch.proofs.Letters.{at_all, at_byte, from_append, from_at, from_before, from_none, from_one, is_behind, is_within, none_of_bytes, shifted, stands_to}
use Rattle.cf_watch.proofs.Portions.{mapped_none, none_in_room}

pub or_none : (x : Option Letter) → option_or x None ≡ x
or_none None = refl
or_none (Some l) = refl

or_assoc : (x y z : Option Letter) → option_or (option_or x y) z ≡ option_or x (option_or y z)
or_assoc None y z = refl
or_assoc (Some l) y z = refl

pub grows_nothing : (number : ℕ) (flow : FlowValue) → Grows number flow flow
grows_nothing number flow = record { more = []; bytes = sym (append-nil flow.bytes); born = sym (append-nil flow.born); client = refl; asset = refl; midstream = refl }

pub grows_both : (number : ℕ) (old mid new : FlowValue) → Grows number old mid → Grows number mid new → Grows number old new
grows_both number old mid new g h =
    let b : (old.bytes ++ g.more) ++ h.more ≡ old.bytes ++ (g.more ++ h.more) = rw append_assoc refl in
    let r : replicate (length g.more) number ++ replicate (length h.more) number ≡ replicate (length (g.more ++ h.more)) number =
    replicate-append-replicate (length g.more) (length h.more) number ∙ ap (λ (n : ℕ). replicate n number) (sym (length-append g.more h.more)) in
    let c : (old.born ++ replicate (length g.more) number) ++ replicate (length h.more) number ≡ old.born ++ replicate (length (g.more ++ h.more)) number =
    rw (append_assoc, r) refl in
    record {
      more = g.more ++ h.more;
      bytes = h.bytes ∙ ap (λ (xs : List ℕ). xs ++ h.more) g.bytes ∙ b;
      born = h.born ∙ ap (λ (xs : List ℕ). xs ++ replicate (length h.more) number) g.born ∙ c;
      client = h.client ∙ g.client;
      asset = h.asset ∙ g.asset;
      midstream = h.midstream ∙ g.midstream;
    }

-- ---- conflicts

-- letters in front and those after, and both
record AreParts (f g : ℕ → Option Letter) (c d e : Carried) : Type 0 where
  front_number : c.number ≡ e.number
  back_number : d.number ≡ e.number
  front : (p : ℕ) → Differs f c p → Differs f e p
  back : (p : ℕ) → Differs g d p → Differs f e p
  either : (p : ℕ) → Differs f e p → Differs f c p ⊎ Differs g d p
  order : (p q : ℕ) → Differs f c p → Differs g d q → p ≤ q

module _ (f g : ℕ → Option Letter) (c d e : Carried) (parts : AreParts f g c d e) where
  conflict_back : (now : Option Conflict) → ((p : ℕ) → Differs f c p → ⊥) → IsConflictOf g d now → IsConflictOf f e now
  conflict_back None none h = λ p x. elim (parts.either p x) [ inl y ↦ none p y | inr y ↦ h p y ]
  conflict_back (Some k) none h = record {
    place = h.place;
    number = h.number ∙ parts.back_number;
    position = h.position;
    here = parts.back h.place h.here;
    lowest = λ p x. elim (parts.either p x) [ inl y ↦ absurd (none p y) | inr y ↦ h.lowest p y ];
  }

  conflict_front : (k : Conflict) → IsConflictOf f c (Some k) → IsConflictOf f e (Some k)
  conflict_front k h = record {
    place = h.place;
    number = h.number ∙ parts.front_number;
    position = h.position;
    here = parts.front h.place h.here;
    lowest = λ p x. elim (parts.either p x) [ inl y ↦ h.lowest p y | inr y ↦ parts.order h.place p h.here y ];
  }

  conflict_both : (old mid new : Option Conflict) → IsConflictAfter f c old mid → IsConflictAfter g d mid new → IsConflictAfter f e old new
  conflict_both (Some k) mid new h i = subst (λ (m : Option Conflict). IsConflictAfter g d m new) h i
  conflict_both None None new h i = conflict_back new h i
  conflict_both None (Some k) new h i = subst (λ (m : Option Conflict). IsConflictOf f e m) (sym i) (conflict_front k h)

-- ---- bytes, and what follows them

abbrev pub bytes_from : ℕ → ℤ → List ℕ → Carried
bytes_from number at xs = record { number = number; at = at; text = record { bytes = xs; ended = false } }

abbrev pub letters_from : ℕ → ℤ → List ℕ → Bool → Carried
letters_from number at xs ended = record { number = number; at = at; text = record { bytes = xs; ended = ended } }

module _ (number : ℕ) (at : ℤ) (xs ys : List ℕ) (ended : Bool) (f : ℕ → Option Letter) where
  either_of : (g : ℕ → Option Letter) → ((p : ℕ) → g p ≡ option_or (f p) (letter_of (bytes_from number at xs) p)) → (p : ℕ) →
      Differs f (letters_from number at (xs ++ ys) ended) p → (l : Option Letter) → letter_of (bytes_from number at xs) p ≡ l →
      Differs f (bytes_from number at xs) p ⊎ Differs g (letters_from number (at +ℤ pos (length xs)) ys ended) p
  either_of g h p x (Some l) e =
      let is : Some l ≡ Some x.other = sym (rw e at (from_append at xs ys ended p)) ∙ x.is in
      inl (record { first = x.first; other = x.other; was = x.was; is = e ∙ is; differ = x.differ })
  either_of g h p x None e =
      let is : letter_of (letters_from number (at +ℤ pos (length xs)) ys ended) p ≡ Some x.other = sym (rw e at (from_append at xs ys ended p)) ∙ x.is in
      inr (record { first = x.first; other = x.other; was = h p ∙ ap (option_or (f p)) e ∙ or_none (f p) ∙ x.was; is = is; differ = x.differ })

  parts_of : (g : ℕ → Option Letter) → ((p : ℕ) → g p ≡ option_or (f p) (letter_of (bytes_from number at xs) p)) →
      AreParts f g (bytes_from number at xs) (letters_from number (at +ℤ pos (length xs)) ys ended) (letters_from number at (xs ++ ys) ended)
  parts_of g h = record {
    front_number = refl;
    back_number = refl;
    front = λ p x. record { first = x.first; other = x.other; was = x.was; is = from_append at xs ys ended p ∙ rw x.is refl; differ = x.differ };
    back = λ p x.
        let e : letter_of (bytes_from number at xs) p ≡ None = none_of_bytes at xs (record { bytes = ys; ended = ended }) p x.other x.is in
        record { first = x.first; other = x.other; was = sym (or_none (f p)) ∙ ap (option_or (f p)) (sym e) ∙ sym (h p) ∙ x.was; is = from_append at xs ys ended p ∙ rw e x.is; differ = x.differ };
    either = λ p x. either_of g h p x (letter_of (bytes_from number at xs) p) refl;
    order = λ p q x y. omega (arith, ints, is_within at xs p x.other x.is, is_behind (at +ℤ pos (length xs)) (record { bytes = ys; ended = ended }) q y.other y.is);
  }

-- the bytes get no fewer
pub longer_by : (number : ℕ) (old new : FlowValue) → Grows number old new → length old.bytes ≤ length new.bytes
longer_by number old new g =
    let n : length new.bytes ≡ length old.bytes + length g.more = ap length g.bytes ∙ length-append old.bytes g.more in
    omega (arith, n)

pub takes_both : (number : ℕ) (at : ℤ) (xs ys : List ℕ) (ended : Bool) (old mid new : FlowValue) (a b c : BTreeMap ℕ Portion) →
    Takes (bytes_from number at xs) old a mid b → Takes (letters_from number (at +ℤ pos (length xs)) ys ended) mid b new c →
    Takes (letters_from number at (xs ++ ys) ended) old a new c
takes_both number at xs ys ended old mid new a b c h i = record {
  knows = λ p. i.knows p ∙ ap (λ (o : Option Letter). option_or o (letter_of (letters_from number (at +ℤ pos (length xs)) ys ended) p)) (h.knows p)
      ∙ or_assoc (known old.bytes a p) (letter_of (bytes_from number at xs) p) _ ∙ ap (option_or (known old.bytes a p)) (sym (from_append at xs ys ended p));
  holds = holds_both number at xs ys ended a b c (length mid.bytes) (length new.bytes) (longer_by number mid new i.grows) h.holds i.holds;
  conflicts =
      conflict_both (known old.bytes a) (known mid.bytes b) _ _ _ (parts_of number at xs ys ended (known old.bytes a) (known mid.bytes b) h.knows)
      old.conflict mid.conflict new.conflict h.conflicts i.conflicts;
  grows = grows_both number old mid new h.grows i.grows;
}

ne-eqb : (a b : ℕ) → a ≢ b → (a == b) ≡ false
ne-eqb a b d = grind (arith, nat_tests, d)

new_letter : (place : ℕ) (l : Heard) (f : ℕ → Option Letter) → f place ≡ None → (p : ℕ) →
    (if p == place then Some (letter_value l) else f p) ≡ option_or (f p) (letter_from (pos place) (stream_of l) p)
new_letter place l f blank p = elim (cases_eq p place) [
  | inl e ↦ rw (eq-eqb p place e, from_one (pos place) l p (ap pos e), ap f e ∙ blank) refl
  | inr d ↦ rw (ne-eqb p place d, from_none (pos place) l p (λ e. d (omega (arith, ints, e)))) (sym (or_none (f p)))
]

old_letter : (place : ℕ) (l : Heard) (first : Letter) (f : ℕ → Option Letter) → f place ≡ Some first → (p : ℕ) →
    f p ≡ option_or (f p) (letter_from (pos place) (stream_of l) p)
old_letter place l first f is p = elim (cases_eq p place) [
  | inl e ↦ rw (ap f e ∙ is) refl
  | inr d ↦ rw (from_none (pos place) l p (λ e. d (omega (arith, ints, e)))) (sym (or_none (f p)))
]

no_conflict : (f : ℕ → Option Letter) (c : Carried) (old new : Option Conflict) → new ≡ old → ((p : ℕ) → Differs f c p → ⊥) → IsConflictAfter f c old new
no_conflict f c (Some k) new same none = same
no_conflict f c None new same none = subst (λ (k : Option Conflict). IsConflictOf f c k) (sym same) none

-- a letter where none was known
pub takes_new : (number place : ℕ) (l : Heard) (old new : FlowValue) (a b : BTreeMap ℕ Portion) → known old.bytes a place ≡ None →
    ((p : ℕ) → known new.bytes b p ≡ (if p == place then Some (letter_value l) else known old.bytes a p)) → Grows number old new → new.conflict ≡ old.conflict →
    Holds (record { number = number; at = pos place; text = stream_of l }) a (length new.bytes) b →
    Takes (record { number = number; at = pos place; text = stream_of l }) old a new b
takes_new number place l old new a b blank knows grows same holds = record {
  knows = λ p. knows p ∙ new_letter place l (known old.bytes a) blank p;
  holds = holds;
  conflicts = no_conflict (known old.bytes a) (record { number = number; at = pos place; text = stream_of l }) old.conflict new.conflict same (λ p x.
      elim (cases_eq p place) [
        | inl e ↦ none-some x.first (sym blank ∙ ap (known old.bytes a) (sym e) ∙ x.was)
        | inr d ↦ none-some x.other (sym (from_none (pos place) l p (λ e. d (omega (arith, ints, e)))) ∙ x.is)
      ]);
  grows = grows;
}

-- a letter of a place where one is known is kept there, or stands among the bytes
holds_known : (number place : ℕ) (l : Heard) (first : Letter) (bytes : List ℕ) (a : BTreeMap ℕ Portion) → known bytes a place ≡ Some first →
    Holds (record { number = number; at = pos place; text = stream_of l }) a (length bytes) a
holds_known number place l first bytes a is q none =
    elim (cases_eq q (place + 2 ^ 31)) [
      | inl e ↦
          let past = own_not (length bytes) place (subst (λ (k : ℕ). is_own (length bytes) k ≡ false) e none) in
          came_kept number (pos place) l a (place + 2 ^ 31) (omega (arith, ints)) (known_kept bytes a place first is past) q
      | inr d ↦ came_not number (pos place) l a q (λ x. d (omega (arith, ints, x)))
    ]

-- a letter where one was known
pub takes_known : (number place : ℕ) (l first : Heard) (old new : FlowValue) (a : BTreeMap ℕ Portion) → known old.bytes a place ≡ Some (letter_value first) →
    new.bytes ≡ old.bytes → Grows number old new → IsConflictAfter (known old.bytes a) (record { number = number; at = pos place; text = stream_of l }) old.conflict new.conflict →
    Takes (record { number = number; at = pos place; text = stream_of l }) old a new a
takes_known number place l first old new a is same grows conflicts = record {
  knows = λ p. ap (λ (bs : List ℕ). known bs a p) same ∙ old_letter place l (letter_value first) (known old.bytes a) is p;
  holds = λ q none. holds_known number place l (letter_value first) old.bytes a is q (subst (λ (bs : List ℕ). is_own (length bs) q ≡ false) same none);
  conflicts = conflicts;
  grows = grows;
}

conflict_here : (number place : ℕ) (l first : Heard) (f : ℕ → Option Letter) → f place ≡ Some (letter_value first) → letter_value l ≢ letter_value first →
    IsConflictOf f (record { number = number; at = pos place; text = stream_of l }) (Some (record { at_record = number; position = pos place }))
conflict_here number place l first f is d = record {
  place = place;
  number = refl;
  position = refl;
  here = record { first = letter_value first; other = letter_value l; was = is; is = from_one (pos place) l place refl; differ = d };
  lowest = λ p x. elim (cases_eq p place) [
    | inl e ↦ omega (arith, e)
    | inr n ↦ absurd (none-some x.other (sym (from_none (pos place) l p (λ e. n (omega (arith, ints, e)))) ∙ x.is))
  ];
}

conflict_first : (f : ℕ → Option Letter) (c : Carried) (old now new : Option Conflict) → old ≡ None → now ≡ new → IsConflictOf f c new → IsConflictAfter f c old now
conflict_first f c (Some k) now new e i h = absurd (none-some k (sym e))
conflict_first f c None now new e i h = subst (λ (k : Option Conflict). IsConflictOf f c k) (sym i) h

-- a letter that differs from the one that was known
pub takes_conflict : (number place : ℕ) (l first : Heard) (old new : FlowValue) (a : BTreeMap ℕ Portion) → known old.bytes a place ≡ Some (letter_value first) → letter_value l ≢ letter_value first →
    new.bytes ≡ old.bytes → Grows number old new → old.conflict ≡ None → new.conflict ≡ Some (record { at_record = number; position = pos place }) →
    Takes (record { number = number; at = pos place; text = stream_of l }) old a new a
takes_conflict number place l first old new a is d same grows fresh now =
    takes_known number place l first old new a is same grows
    (conflict_first (known old.bytes a) _ old.conflict new.conflict (Some (record { at_record = number; position = pos place })) fresh now (conflict_here number place l first (known old.bytes a) is d))

pub none_of : (k : Option Conflict) → is_some k ≡ false → k ≡ None
none_of None h = refl
none_of (Some k) h = absurd (true≢false h)

-- a byte goes after the others
pub knows_push : (old bytes : List ℕ) (b : ℕ) (a : BTreeMap ℕ Portion) → bytes ≡ old ++ b ∷ [] → (p : ℕ) →
    known bytes a p ≡ (if p == length old then Some (letter_value (heard.Byte b)) else known old a p)
knows_push old bytes b a e p =
    let n : length bytes ≡ length old + 1 = ap length e ∙ length_push old b in
    elim (cases_lt p (length old)) [
      | inl v ↦ (let g : get_or bytes p 0 ≡ get_or old p 0 = ap (λ (xs : List ℕ). get_or xs p 0) e ∙ get_or_append_left old (b ∷ []) 0 p v in
          let l : nat_lt p (length bytes) ≡ true = rw n (grind (arith, nat_tests, v)) in
          let m : nat_lt p (length old) ≡ true = grind (arith, nat_tests, v) in
          let d : (p == length old) ≡ false = grind (arith, nat_tests, v) in
          rw (l, m, g, d) refl)
      | inr v ↦
          let m : nat_lt p (length old) ≡ false = grind (arith, nat_tests, v) in
          elim (cases_eq p (length old)) [
            | inl i ↦ (let g : get_or bytes p 0 ≡ b = ap (λ (xs : List ℕ). get_or xs p 0) e ∙ get_or_push old b 0 p (sym i) in
                let l : nat_lt p (length bytes) ≡ true = rw n (grind (arith, nat_tests, i)) in
                rw (l, g, eq-eqb p (length old) i) refl)
            | inr d ↦ (let l : nat_lt p (length bytes) ≡ false = rw n (grind (arith, nat_tests, v, d)) in
                rw (l, m, ne-eqb p (length old) d) refl)
          ]
    ]

-- the byte that came ahead goes after the others
pub knows_on : (old bytes : List ℕ) (b : ℕ) (a : BTreeMap ℕ Portion) → bytes ≡ old ++ b ∷ [] → option_map (λ c. c.letter) (kept a (length old + 2 ^ 31)) ≡ Some (Byte b) → (p : ℕ) →
    known bytes a p ≡ known old a p
knows_on old bytes b a e was p =
    knows_push old bytes b a e p ∙ elim (cases_eq p (length old)) [
      | inl i ↦ (let m : nat_lt p (length old) ≡ false = grind (arith, nat_tests, i) in
          let w : option_map (λ c. c.letter) (kept a (p + 2 ^ 31)) ≡ Some (Byte b) = ap (λ (k : ℕ). option_map (λ (c : FirstLetter). c.letter) (kept a (k + 2 ^ 31))) i ∙ was in
          rw (eq-eqb p (length old) i, m) (sym w))
      | inr d ↦ rw (ne-eqb p (length old) d) refl
    ]

-- those that stand apart are the same after a byte of its own place
pub holds_push : (number : ℕ) (l : Heard) (count : ℕ) (a : BTreeMap ℕ Portion) (q : ℕ) → is_own (count + 1) q ≡ false →
    kept a q ≡ option_or (kept a q) (letter_came (record { number = number; at = pos count; text = stream_of l }) q)
holds_push number l count a q none = came_not number (pos count) l a q (λ e.
    let i : q ≡ count + 2 ^ 31 = omega (arith, ints, e) in
    let past : count + 1 ≤ count = own_not (count + 1) count (subst (λ (k : ℕ). is_own (count + 1) k ≡ false) i none) in
    omega (arith, past))

-- ---- letters that are kept apart at once

only_letter : (x : Option FirstLetter) (number : ℕ) (o : Option Letter) →
    option_map (λ c. c.letter) (option_or x (option_map (λ (l : Letter). let r : FirstLetter = record { letter = l; number = number } in r) o)) ≡ option_or (option_map (λ c. c.letter) x) o
only_letter None number None = refl
only_letter None number (Some l) = refl
only_letter (Some k) number o = refl

came_letter : (c : Carried) (p : ℕ) → letter_came c (p + 2 ^ 31) ≡ option_map (λ (l : Letter). let r : FirstLetter = record { letter = l; number = c.number } in r) (letter_of c p)
came_letter c p = ap (option_map (λ (l : Letter). let r : FirstLetter = record { letter = l; number = c.number } in r)) (shifted c.at c.text p (2 ^ 31))

-- letters that none was known of, and are kept apart
pub takes_apart : (c : Carried) (flow : FlowValue) (a b : BTreeMap ℕ Portion) → ((q : ℕ) → kept b q ≡ option_or (kept a q) (letter_came c q)) →
    ((p : ℕ) (l : Letter) → letter_of c p ≡ Some l → known flow.bytes a p ≡ None) → Takes c flow a flow b
takes_apart c flow a b holds blank = record {
  knows = λ p.
      elim (cases_lt p (length flow.bytes)) [
        | inl v ↦ (let m : nat_lt p (length flow.bytes) ≡ true = grind (arith, nat_tests, v) in rw m refl)
        | inr v ↦ (let m : nat_lt p (length flow.bytes) ≡ false = grind (arith, nat_tests, v) in
            rw m (ap (option_map (λ (k : FirstLetter). k.letter)) (holds (p + 2 ^ 31) ∙ ap (option_or (kept a (p + 2 ^ 31))) (came_letter c p))
            ∙ only_letter (kept a (p + 2 ^ 31)) c.number (letter_of c p)))
      ];
  holds = λ q none. holds q;
  conflicts = no_conflict (known flow.bytes a) c flow.conflict flow.conflict refl (λ p x. none-some x.first (sym (blank p x.other x.is) ∙ x.was));
  grows = grows_nothing c.number flow;
}

-- what is not known: none of the bytes, and not kept
pub unknown : (bytes : List ℕ) (a : BTreeMap ℕ Portion) (p : ℕ) → length bytes ≤ p → kept a (p + 2 ^ 31) ≡ None → known bytes a p ≡ None
unknown bytes a p v none =
    let m : nat_lt p (length bytes) ≡ false = grind (arith, nat_tests, v) in
    rw m (ap (option_map (λ (k : FirstLetter). k.letter)) none)

-- what is not known is not kept
unkept : (bytes : List ℕ) (a : BTreeMap ℕ Portion) (p : ℕ) → known bytes a p ≡ None → kept a (p + 2 ^ 31) ≡ None
unkept bytes a p none =
    elim (cases_lt p (length bytes)) [
      | inl v ↦ (let m : nat_lt p (length bytes) ≡ true = grind (arith, nat_tests, v) in absurd (none-some (Byte (get_or bytes p 0)) (sym (rw m at none))))
      | inr v ↦ (let m : nat_lt p (length bytes) ≡ false = grind (arith, nat_tests, v) in mapped_none (λ (k : FirstLetter). k.letter) (kept a (p + 2 ^ 31)) (rw m at none))
    ]

count_one : (l : Heard) → letter_count (stream_of l) ≡ 1
count_one (heard.Byte b) = refl
count_one heard.End = refl

-- there is room for a letter that is not known
pub room_for_one : (bytes : List ℕ) (a : BTreeMap ℕ Portion) (p q : ℕ) (l : Heard) (s : Stream) → s ≡ stream_of l → known bytes a p ≡ None → q ≡ p + 2 ^ 31 →
    IsRoom q (letter_count s) a
room_for_one bytes a p q l s is none here = record {
  here = λ some. ap (kept a) here ∙ unkept bytes a p none;
  behind = λ r low high. absurd (omega (arith, low, high, ap letter_count is ∙ count_one l));
}

natural : (z : ℤ) → pos 0 ≤ℤ z → (n : ℕ) × (z ≡ pos n)
natural (pos n) h = (n, refl)
natural (negsuc n) h = absurd (omega (arith, ints, h))

-- bytes where there is room, and no byte of the flow
pub takes_bytes : (number : ℕ) (at : ℤ) (xs : List ℕ) (flow : FlowValue) (a b : BTreeMap ℕ Portion) →
    ((q : ℕ) → kept b q ≡ option_or (kept a q) (letter_came (bytes_from number at xs) q)) → (pos 0 -ℤ pos (2 ^ 31)) ≤ℤ at →
    ((q : ℕ) → pos q ≡ at +ℤ pos (2 ^ 31) → IsRoom q (length xs) a) →
    ((at +ℤ pos (length xs)) ≤ℤ pos 0) ⊎ (pos (length flow.bytes) ≤ℤ at) → Takes (bytes_from number at xs) flow a flow b
takes_bytes number at xs flow a b holds from room apart =
    takes_apart (bytes_from number at xs) flow a b holds (λ p l is.
    let low = is_behind at (record { bytes = xs; ended = false }) p l is in
    let high = is_within at xs p l is in
    elim apart [
      | inl v ↦ absurd (omega (arith, ints, high, v))
      | inr v ↦ (let at_least : (n : ℕ) × (at ≡ pos n) = natural at (omega (arith, ints, v)) in
          let n = at_least.0 in
          let e : at ≡ pos n = at_least.1 in
          let r : IsRoom (n + 2 ^ 31) (length xs) a = room (n + 2 ^ 31) (omega (arith, ints, e)) in
          unknown flow.bytes a p (omega (arith, ints, v, low)) (none_in_room a (n + 2 ^ 31) (length xs) (p + 2 ^ 31) r (omega (arith, ints, low, e)) (omega (arith, ints, high, e))))
    ])

-- behind the other bytes, where nothing is kept, the bytes that come are known
knows_next : (old new xs : List ℕ) (a : BTreeMap ℕ Portion) → ((q : ℕ) → kept a q ≡ None) → new ≡ old ++ xs → (p : ℕ) →
    known new a p ≡ option_or (known old a p) (letter_from (pos (length old)) (record { bytes = xs; ended = false }) p)
knows_next old new xs a none e p =
    let n : length new ≡ length old + length xs = ap length e ∙ length-append old xs in
    elim (cases_lt p (length old)) [
      | inl v ↦ (let g : get_or new p 0 ≡ get_or old p 0 = ap (λ (ys : List ℕ). get_or ys p 0) e ∙ get_or_append_left old xs 0 p v in
          let l : nat_lt p (length new) ≡ true = rw n (grind (arith, nat_tests, v)) in
          let m : nat_lt p (length old) ≡ true = grind (arith, nat_tests, v) in
          rw (l, m, g) refl)
      | inr v ↦
          let k = p - length old in
          let from = from_at (pos (length old)) (record { bytes = xs; ended = false }) p k (omega (arith, ints, v)) in
          rw (unknown old a p v (none (p + 2 ^ 31)))
          (elim (cases_lt k (length xs)) [
            | inl w ↦ (let g : get_or new p 0 ≡ get_or xs k 0 = ap (λ (ys : List ℕ). get_or ys p 0) e ∙ get_or-append_right old xs (length old) p 0 refl v in
                let l : nat_lt p (length new) ≡ true = rw n (grind (arith, nat_tests, v, w)) in
                let is : known new a p ≡ Some (Byte (get_or xs k 0)) = rw (l, g) refl in
                is ∙ sym (from ∙ at_byte xs false k w))
            | inr w ↦ unknown new a p (omega (arith, n, v, w)) (none (p + 2 ^ 31)) ∙ sym (from ∙ at_all xs k w)
          ])
    ]

-- those that stand apart are the same after bytes of their own places
holds_next : (number count : ℕ) (xs : List ℕ) (a : BTreeMap ℕ Portion) (q : ℕ) → is_own (count + length xs) q ≡ false →
    kept a q ≡ option_or (kept a q) (letter_came (bytes_from number (pos count) xs) q)
holds_next number count xs a q own =
    let z = pos count +ℤ pos (2 ^ 31) in
    let s : Stream = record { bytes = xs; ended = false } in
    let none : letter_from z s q ≡ None = elim (stands_to z q) [
      | inl v ↦ from_before z s q v
      | inr (k, e) ↦
          let i : q ≡ (count + k) + 2 ^ 31 = omega (arith, ints, e) in
          let past = own_not (count + length xs) (count + k) (subst (λ (r : ℕ). is_own (count + length xs) r ≡ false) i own) in
          from_at z s q k e ∙ at_all xs k (omega (arith, past))
    ] in
    sym (ap (λ (o : Option Letter). option_or (kept a q) (option_map (λ (l : Letter). let r : FirstLetter = record { letter = l; number = number } in r) o)) none
    ∙ first_or_none (kept a q))

-- bytes behind the others, where none stands apart
pub takes_next : (number : ℕ) (xs : List ℕ) (old new : FlowValue) (a : BTreeMap ℕ Portion) → ((q : ℕ) → kept a q ≡ None) → new.bytes ≡ old.bytes ++ xs →
    Grows number old new → new.conflict ≡ old.conflict → Takes (bytes_from number (pos (length old.bytes)) xs) old a new a
takes_next number xs old new a none more grows same =
    let count = length old.bytes in
    let size : length new.bytes ≡ count + length xs = ap length more ∙ length-append old.bytes xs in
    record {
      knows = knows_next old.bytes new.bytes xs a none more;
      holds = λ q own. holds_next number count xs a q (subst (λ (k : ℕ). is_own k q ≡ false) size own);
      conflicts = no_conflict (known old.bytes a) (bytes_from number (pos count) xs) old.conflict new.conflict same (λ p x.
          let from = is_behind (pos count) (record { bytes = xs; ended = false }) p x.other x.is in
          none-some x.first (sym (unknown old.bytes a p (omega (arith, ints, from)) (none (p + 2 ^ 31))) ∙ x.was));
      grows = grows;
    }

-- no bytes
pub takes_nothing : (number : ℕ) (at : ℤ) (flow : FlowValue) (a : BTreeMap ℕ Portion) → Takes (bytes_from number at []) flow a flow a
takes_nothing number at flow a =
    let none : (z : ℤ) (p : ℕ) → letter_from z (record { bytes = []; ended = false }) p ≡ None =
    λ z p. elim (stands_to z p) [
      | inl v ↦ from_before z (record { bytes = []; ended = false }) p v
      | inr (k, e) ↦ from_at z (record { bytes = []; ended = false }) p k e ∙ at_all [] k (omega arith)
    ] in
    takes_apart (bytes_from number at []) flow a a
    (λ q. sym (ap (λ (o : Option Letter). option_or (kept a q) (option_map (λ (l : Letter). let r : FirstLetter = record { letter = l; number = number } in r) o)) (none (at +ℤ pos (2 ^ 31)) q)
    ∙ first_or_none (kept a q)))
    (λ p l is. absurd (none-some l (sym (none at p) ∙ is)))

-- a portion stands for the letters of a packet
pub kept_apart : (c : Carried) (p : Portion) (a b : BTreeMap ℕ Portion) (place : ℕ) → pos place ≡ c.at +ℤ pos (2 ^ 31) → p.number ≡ c.number → row_value p.letters ≡ c.text →
    ((q : ℕ) → q < place → kept b q ≡ kept a q) → ((k : ℕ) → kept b (place + k) ≡ option_or (kept a (place + k)) (letter_of_portion p k)) → (q : ℕ) →
    kept b q ≡ option_or (kept a q) (letter_came c q)
kept_apart c p a b place here number text before behind q =
    let z = c.at +ℤ pos (2 ^ 31) in
    let f : ℕ → Letter → FirstLetter = λ n l. record { letter = l; number = n } in
    elim (cases_lt q place) [
      | inl v ↦ (let none : letter_came c q ≡ None = ap (option_map (f c.number)) (from_before z c.text q (omega (arith, ints, here, v))) in
          before q v ∙ sym (ap (option_or (kept a q)) none ∙ first_or_none (kept a q)))
      | inr v ↦
          let k = q - place in
          let e : place + k ≡ q = omega (arith, v) in
          let is : letter_of_portion p k ≡ letter_came c q =
          ap (λ (n : ℕ). option_map (f n) (letter_at (row_value p.letters) k)) number ∙ ap (λ (s : Stream). option_map (f c.number) (letter_at s k)) text
          ∙ ap (option_map (f c.number)) (sym (from_at z c.text q k (omega (arith, ints, here, e)))) in
          subst (λ (r : ℕ). kept b r ≡ option_or (kept a r) (letter_of_portion p k)) e (behind k) ∙ ap (option_or (kept a q)) is
    ]

-- a letter alone that none was known of
pub takes_one : (number : ℕ) (at : ℤ) (l : Heard) (s : Stream) (flow : FlowValue) (a b : BTreeMap ℕ Portion) → s ≡ stream_of l →
    ((q : ℕ) → kept b q ≡ option_or (kept a q) (letter_came (record { number = number; at = at; text = s }) q)) → pos 0 ≤ℤ at →
    ((place : ℕ) → pos place ≡ at → known flow.bytes a place ≡ None) → Takes (record { number = number; at = at; text = stream_of l }) flow a flow b
takes_one number at l s flow a b is holds from blank =
    let place = (natural at from).0 in
    let e : at ≡ pos place = (natural at from).1 in
    takes_apart (record { number = number; at = at; text = stream_of l }) flow a b
    (subst (λ (t : Stream). (q : ℕ) → kept b q ≡ option_or (kept a q) (letter_came (record { number = number; at = at; text = t }) q)) is holds)
    (λ p x h. elim (cases_eq p place) [
      | inl i ↦ blank p (ap pos i ∙ sym e)
      | inr d ↦ absurd (none-some x (sym (from_none at l p (λ j. d (omega (arith, ints, j, e)))) ∙ h))
    ])

some_of : {X : Type 0} (o : Option X) (x y : X) → o ≡ Some x → o ≡ Some y → x ≡ y
some_of {X = X} o x y h i = ap (λ (k : Option X). unwrap_or k x) (sym h ∙ i)

-- the same letter makes no conflict
pub no_differ : (number place : ℕ) (l first : Heard) (f : ℕ → Option Letter) → f place ≡ Some (letter_value first) → (letter_value l ≢ letter_value first → ⊥) → (p : ℕ) →
    Differs f (record { number = number; at = pos place; text = stream_of l }) p → ⊥
no_differ number place l first f is same p x =
    elim (cases_eq p place) [
      | inl e ↦
          (let one : x.other ≡ letter_value l = some_of (letter_from (pos place) (stream_of l) p) x.other (letter_value l) x.is (from_one (pos place) l p (ap pos e)) in
          let was : x.first ≡ letter_value first = some_of (f p) x.first (letter_value first) x.was (ap f e ∙ is) in
          same (λ i. x.differ (one ∙ i ∙ sym was)))
      | inr d ↦ none-some x.other (sym (from_none (pos place) l p (λ j. d (omega (arith, ints, j)))) ∙ x.is)
    ]

pub unchanged : (f : ℕ → Option Letter) (c : Carried) (k : Option Conflict) → ((p : ℕ) → Differs f c p → ⊥) → IsConflictAfter f c k k
unchanged f c k none = no_conflict f c k k refl none

pub stays : (f : ℕ → Option Letter) (c : Carried) (k : Option Conflict) → is_some k ≡ true → IsConflictAfter f c k k
stays f c None h = absurd (false≢true h)
stays f c (Some k) h = refl
