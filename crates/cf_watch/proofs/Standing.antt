-- A flow in memory after one more packet.
use Rattle.std.proofs.Common.{◌≡◌, ◌≢◌, ◌==◌, ◌+◌, ◌-◌, ◌<◌, ◌≤◌, ◌+ℤ◌, ◌≤ℤ◌, ◌⊎◌, ℕ, ℤ, zero, suc, pos, negsuc, Bool, true, false, nat_lt, List, [], ◌∷◌, ◌++◌, length, get_or, replicate, slice_get, Option, Some, None, refl, sym, ap, ◌∙◌, inl, inr, arith, subst, length-append}
use Rattle.std.proofs.lemmas.Bool.{cases_lt, true≢false, false≢true}
use Rattle.std.proofs.lemmas.Bool.Decides.{nat_tests}
use Rattle.std.proofs.lemmas.Int.{ints}
use Rattle.std.proofs.lemmas.List.{get_or-replicate, length-replicate}
use Rattle.std.proofs.lemmas.Option.{get_or_from_slice_get, slice_get_within}
use Rattle.std.specs.BTreeMap.{BTreeMap}
use Rattle.std.specs.Option.{option_or}
use Rattle.cf_stream.specs.FirstCopy.{IsTaken, offered}
use Rattle.cf_stream.specs.Position.{place_or_zero}
use Rattle.cf_stream.specs.Stream.{Byte, End, Letter, Stream, letter_at, letter_count, letter_from}
use Rattle.cf_watch.specs.declared.flow.Conflict.{Conflict}
use Rattle.cf_watch.specs.FlowValue.{FlowValue}
use Rattle.cf_watch.specs.Carried.{AreBorn, Carried, HasBytes, HasConflict, IsConflictAfter, copy_of, end_after, end_of, letter_of, offer_of}
use Rattle.cf_watch.specs.Trail.{IsConflictNow}
use Rattle.cf_watch.specs.Kept.{Grows, Takes, kept, known}
use Rattle.cf_watch.specs.Stretches.{FirstLetter, first_letter, is_own, letter_came}
use Rattle.cf_watch.specs.declared.ahead.Portion.{Portion}
use Rattle.cf_watch.proofs.Letters.{from_at, from_before, stands_to}
use Rattle.cf_watch.proofs.Apart.{own_less}
use Rattle.cf_watch.proofs.Taking.{grows_both, longer_by}

none_past_by : (bytes : List ℕ) (ended : Bool) (k : ℕ) → letter_count (record { bytes = bytes; ended = ended }) ≤ k → letter_at (record { bytes = bytes; ended = ended }) k ≡ None
none_past_by bytes true k h = grind (arith, nat_tests, h)
none_past_by bytes false k h = grind (arith, nat_tests, h)

place_le : (w : ℤ) (p : ℕ) → place_or_zero w ≤ p → w ≤ℤ pos p
place_le (pos m) p h = omega (arith, ints, h)
place_le (negsuc m) p h = omega (arith, ints)

end_le : (z : ℤ) (n p k : ℕ) → end_after z n ≤ p → pos p ≡ z +ℤ pos k → n ≤ k
end_le z n p k h e =
    elim (cases_lt 0 n) [
      | inl v ↦
          let q : (n == 0) ≡ false = grind (arith, nat_tests, v) in
          let l = place_le (z +ℤ pos n) p (rw q at h) in
          omega (arith, ints, l, e)
      | inr v ↦ omega (arith, v)
    ]

none_past : (s : Stream) (k : ℕ) → letter_count s ≤ k → letter_at s k ≡ None
none_past s k h = none_past_by s.bytes s.ended k h

-- after the last letter there is none
pub past_end : (z : ℤ) (s : Stream) (p : ℕ) → end_after z (letter_count s) ≤ p → letter_from z s p ≡ None
past_end z s p h =
    elim (stands_to z p) [
      | inl v ↦ from_before z s p v
      | inr (k, e) ↦ from_at z s p k e ∙ none_past s k (end_le z (letter_count s) p k h e)
    ]

pub offered_all : (c : Carried) (p : ℕ) → offered (offer_of c) p ≡ letter_of c p
offered_all c p =
    elim (cases_lt p (end_of c)) [
      | inl v ↦ (let e : nat_lt p (end_of c) ≡ true = grind (arith, nat_tests, v) in rw e refl)
      | inr v ↦ (let e : nat_lt p (end_of c) ≡ false = grind (arith, nat_tests, v) in rw e (sym (past_end c.at c.text p v)))
    ]

known_byte : (bytes : List ℕ) (a : BTreeMap ℕ Portion) (p : ℕ) → p < length bytes → known bytes a p ≡ Some (Byte (get_or bytes p 0))
known_byte bytes a p h = let e : nat_lt p (length bytes) ≡ true = grind (arith, nat_tests, h) in rw e refl

-- what is known is taken, where no byte stands after it
taken_by : (bytes : List ℕ) (a : BTreeMap ℕ Portion) (copy : ℕ → Option Letter) → ((p : ℕ) → known bytes a p ≡ copy p) → (o : Option Letter) → copy (length bytes) ≡ o →
    ((b : ℕ) → o ≢ Some (Byte b)) → (ended : Bool) × IsTaken copy (record { bytes = bytes; ended = ended })
taken_by bytes a copy h (Some (Byte b)) e stops = absurd (stops b refl)
taken_by bytes a copy h (Some End) e stops = (true, record { bytes = λ p l. sym (h p) ∙ known_byte bytes a p l; ended = λ _. e; unfinished = λ d. absurd (true≢false d) })
taken_by bytes a copy h None e stops = (false, record { bytes = λ p l. sym (h p) ∙ known_byte bytes a p l; ended = λ d. absurd (false≢true d); unfinished = λ _. e })

-- a place of one list or of the other
get_parts : (xs ys : List ℕ) (i n : ℕ) → slice_get (xs ++ ys) i ≡ Some n → (slice_get xs i ≡ Some n) ⊎ ((length xs ≤ i) × (slice_get ys (i - length xs) ≡ Some n))
get_parts [] ys i n h = inr (omega arith, subst (λ k. slice_get ys k ≡ Some n) (omega arith) h)
get_parts (x ∷ xs) ys zero n h = inl h
get_parts (x ∷ xs) ys (suc i) n h = elim (get_parts xs ys i n h) [ inl a ↦ inl a | inr (l, b) ↦ inr (omega (arith, l), subst (λ k. slice_get ys k ≡ Some n) (omega (arith, l)) b) ]

get_same : (count x i n : ℕ) → slice_get (replicate count x) i ≡ Some n → n ≡ x
get_same count x i n h =
    let inside = slice_get_within (replicate count x) i n h in
    let size : length (replicate count x) ≡ count = length-replicate count x in
    let below : i < count = omega (arith, inside, size) in
    sym (get_or_from_slice_get (replicate count x) i n 0 h) ∙ get_or-replicate count i x 0 below

module _ (carried : List Carried) (c : Carried) (old mid new : FlowValue) (a b d : BTreeMap ℕ Portion)
    (knew : (p : ℕ) → known old.bytes a p ≡ copy_of carried p) (takes : Takes c old a mid b)
    (same : (p : ℕ) → known new.bytes d p ≡ known mid.bytes b p) (grows : Grows c.number mid new)
    (stops : (x : ℕ) → known new.bytes d (length new.bytes) ≢ Some (Byte x)) (conflict : new.conflict ≡ mid.conflict) where
  pub knows_now : (p : ℕ) → known new.bytes d p ≡ copy_of (c ∷ carried) p
  knows_now p =
      same p ∙ takes.knows p ∙ ap (λ (o : Option Letter). option_or o (letter_of c p)) (knew p) ∙ ap (option_or (copy_of carried p)) (sym (offered_all c p))

  pub bytes_now : HasBytes (c ∷ carried) new.bytes
  bytes_now = taken_by new.bytes d (copy_of (c ∷ carried)) knows_now (copy_of (c ∷ carried) (length new.bytes)) refl (λ x e. stops x (knows_now (length new.bytes) ∙ e))

  pub conflict_now : HasConflict carried old.conflict → HasConflict (c ∷ carried) new.conflict
  conflict_now h = (
    old.conflict,
    h,
    subst (λ (k : Option Conflict). IsConflictAfter (copy_of carried) c old.conflict k) (sym conflict)
        (subst (λ (f : ℕ → Option Letter). IsConflictAfter f c old.conflict mid.conflict) (λ i p. knew p i) takes.conflicts),
  )

  pub all_grow : Grows c.number old new
  all_grow = grows_both c.number old mid new takes.grows grows

  pub born_now : HasBytes carried old.bytes → AreBorn carried old.bytes old.born → AreBorn (c ∷ carried) new.bytes new.born
  born_now had h =
      let g = all_grow in
      let bytes_size : length new.bytes ≡ length old.bytes + length g.more = ap length g.bytes ∙ length-append old.bytes g.more in
      let born_size : length (replicate (length g.more) c.number) ≡ length g.more = length-replicate (length g.more) c.number in
      record {
        count = ap length g.born ∙ length-append old.born (replicate (length g.more) c.number) ∙ omega (arith, bytes_size, born_size, h.count);
        each = λ place number e.
            elim (get_parts old.born (replicate (length g.more) c.number) place number (ap (λ (xs : List ℕ). slice_get xs place) (sym g.born) ∙ e)) [
              | inl x ↦ (let o = h.each place number x in
                  record { newer = c ∷ o.newer; one = o.one; older = o.older; are = ap (λ (cs : List Carried). c ∷ cs) o.are; is_number = o.is_number; before = o.before; has_before = o.has_before; not_yet = o.not_yet; now = o.now; has_now = o.has_now; reached = o.reached })
              | inr (x, y) ↦ record {
                newer = [];
                one = c;
                older = carried;
                are = refl;
                is_number = sym (get_same (length g.more) c.number (place - length old.born) number y);
                before = old.bytes;
                has_before = had;
                not_yet = omega (arith, h.count, x);
                now = new.bytes;
                has_now = bytes_now;
                reached = let inside = slice_get_within (replicate (length g.more) c.number) (place - length old.born) number y in omega (arith, inside, born_size, bytes_size, h.count, x);
              }
            ];
      }

-- the letters that stand apart
pub holds_now : (carried : List Carried) (c : Carried) (old mid new : FlowValue) (a b d : BTreeMap ℕ Portion) →
    ((q : ℕ) → is_own (length old.bytes) q ≡ false → kept a q ≡ first_letter carried q) → Takes c old a mid b → Grows c.number mid new →
    ((q : ℕ) → is_own (length new.bytes) q ≡ false → kept d q ≡ kept b q) → (q : ℕ) → is_own (length new.bytes) q ≡ false →
    kept d q ≡ first_letter (c ∷ carried) q
holds_now carried c old mid new a b d was takes grows same q none =
    let mid_none = own_less (length mid.bytes) (length new.bytes) q (longer_by c.number mid new grows) none in
    let old_none = own_less (length old.bytes) (length mid.bytes) q (longer_by c.number old mid takes.grows) mid_none in
    same q none ∙ takes.holds q mid_none ∙ ap (λ (o : Option FirstLetter). option_or o (letter_came c q)) (was q old_none)

-- the conflict of a flow is as it was, or comes with the packet
pub conflict_by : (f : ℕ → Option Letter) (c : Carried) (old new : Option Conflict) → IsConflictAfter f c old new → IsConflictNow c.number old new
conflict_by f c (Some k) new h = inl h
conflict_by f c None None h = inl refl
conflict_by f c None (Some k) h = inr (k, refl, h.number)
