-- The front of one flow: its bytes up to a record, the record of each of them, and its conflict, if that came up to there.
use Rattle.std.proofs.Common.{◌≡◌, ◌<◌, ◌≤◌, ◌∙◌, ◌⊎◌, ◌+◌, ℕ, zero, suc, List, [], ◌∷◌, ◌++◌, length, map, take, get_or, slice_get, Option, None, Some, refl, sym, ap, subst, inl, inr, arith, length-append}
use Rattle.cf_unobjected.proofs.Common.{Carried, Conflict, FlowValue, HasBytes, HasConflict, IsConflictAfter, IsFlowOf, Letter, Watched, copy_of, length-take-le, none-some, offer_of, slice_get-get_or}
use Rattle.std.proofs.lemmas.List.{take-append-le, take_all}
use Rattle.std.proofs.lemmas.Option.{slice_get_within}
use Rattle.cf_stream.proofs.Taken.{some_taken}
use Rattle.cf_watch.specs.Carried.{IsBornWith}
use Rattle.cf_unobjected.proofs.FlowFronts.{AreAfter, AreUpTo, IsFrontOf}
use Rattle.cf_unobjected.proofs.OneList.{bytes_on, no_fewer}
use Rattle.cf_unobjected.proofs.Within.{kept, kept_high, kept_low}

-- ---- the conflict

abbrev pub record_of : Conflict → ℕ
record_of c = c.at_record

module _ (n : ℕ) where
  same_low : (copy : ℕ → Option Letter) (x : Carried) (before c : Option Conflict) → x.number ≤ n → kept record_of n before ≡ before → IsConflictAfter copy x before c → kept record_of n c ≡ c
  same_low copy x (Some k) c low is now = ap (kept record_of n) now ∙ is ∙ sym now
  same_low copy x None None low is now = refl
  same_low copy x None (Some m) low is now = let at = now.number in kept_low record_of n m (omega (arith, low, at))

  low_conflict : (older : List Carried) (c : Option Conflict) → AreUpTo n older → HasConflict older c → kept record_of n c ≡ c
  low_conflict [] c first h = ap (kept record_of n) h ∙ sym h
  low_conflict (x ∷ older) c first (before, had, now) = same_low (copy_of older) x before c first.0 (low_conflict older before first.1 had) now

  same_high : (copy : ℕ → Option Letter) (x : Carried) (before c : Option Conflict) → n < x.number → IsConflictAfter copy x before c → kept record_of n before ≡ kept record_of n c
  same_high copy x (Some k) c high now = ap (kept record_of n) (sym now)
  same_high copy x None None high now = refl
  same_high copy x None (Some m) high now = let at = now.number in sym (kept_high record_of n m (omega (arith, high, at)))

  conflict_front : (more older : List Carried) (c : Option Conflict) → AreAfter n more → AreUpTo n older → HasConflict (more ++ older) c → HasConflict older (kept record_of n c)
  conflict_front [] older c later first h = subst (HasConflict older) (sym (low_conflict older c first h)) h
  conflict_front (x ∷ more) older c later first (before, had, now) =
      subst (HasConflict older) (same_high (copy_of (more ++ older)) x before c later.0 now) (conflict_front more older before later.1 first had)

  -- ---- the record of each byte

  -- of two parts of a list that go to its end, the second one's first is in the first one, or before it
  parted_at : (a b : List Carried) (y : Carried) (xs ys : List Carried) → a ++ xs ≡ b ++ y ∷ ys → AreAfter n a →
      ((c : List Carried) × (xs ≡ c ++ y ∷ ys)) ⊎ ((n < y.number) × ((c : List Carried) × (ys ≡ c ++ xs)))
  parted_at [] b y xs ys e all = inl (b, e)
  parted_at (z ∷ a) [] y xs ys e all =
      let same : z ≡ y = cc in
      let rest : ys ≡ a ++ xs = cc in
      inr (subst (λ (x : Carried). n < x.number) same all.0, (a, rest))
  parted_at (z ∷ a) (w ∷ b) y xs ys e all = let rest : a ++ xs ≡ b ++ y ∷ ys = cc in parted_at a b y xs ys rest all.1

  up_to_at : (c : List Carried) (y : Carried) (ys : List Carried) → AreUpTo n (c ++ y ∷ ys) → y.number ≤ n
  up_to_at [] y ys h = h.0
  up_to_at (x ∷ c) y ys h = up_to_at c y ys h.1

  module _ (more older : List Carried) (xs : List ℕ) (later : AreAfter n more) (first : AreUpTo n older) (has : HasBytes older xs) where
    -- a byte of the front came with one of its records
    born_low : (place number : ℕ) → IsBornWith (more ++ older) place number → place < length xs → IsBornWith older place number × (number ≤ n)
    born_low place number p below =
        elim (parted_at more p.newer p.one older p.older p.are later) [
          | inl (c, e) ↦ (
            record { newer = c; one = p.one; older = p.older; are = e; is_number = p.is_number; before = p.before; has_before = p.has_before; not_yet = p.not_yet; now = p.now; has_now = p.has_now; reached = p.reached },
            (let low = up_to_at c p.one p.older (subst (AreUpTo n) e first) in let is = p.is_number in omega (arith, low, is)),
          )
          | inr (high, (c, e)) ↦
              (let fewer : length xs ≤ length p.before = no_fewer c older xs p.before has (subst (λ cs. HasBytes cs p.before) e p.has_before) in
              let yet = p.not_yet in
              absurd (omega (arith, fewer, yet, below)))
        ]

    -- and one behind it with a later one
    born_high : (place number : ℕ) → IsBornWith (more ++ older) place number → length xs ≤ place → n < number
    born_high place number p above =
        elim (parted_at more p.newer p.one older p.older p.are later) [
          | inl (c, e) ↦
              (let fewer : length p.now ≤ length xs = no_fewer c (p.one ∷ p.older) p.now xs p.has_now (subst (λ cs. HasBytes cs xs) e has) in
              let reached = p.reached in
              absurd (omega (arith, fewer, reached, above)))
          | inr (high, (c, e)) ↦ (let is = p.is_number in omega (arith, high, is))
        ]

get_take : (k : ℕ) (xs : List ℕ) (i x : ℕ) → slice_get (take k xs) i ≡ Some x → slice_get xs i ≡ Some x
get_take zero xs i x e = absurd (none-some x e)
get_take (suc k) [] i x e = absurd (none-some x e)
get_take (suc k) (y ∷ xs) zero x e = e
get_take (suc k) (y ∷ xs) (suc i) x e = get_take k xs i x e

-- ---- the flow

-- what a flow was up to a record: so many of its bytes
pub record HasFlowFront (n : ℕ) (v : Watched) (f : FlowValue) : Type 0 where
  pub flow : FlowValue
  pub of : IsFlowOf v flow
  pub count : ℕ
  pub inside : count ≤ length f.bytes
  pub bytes : flow.bytes ≡ take count f.bytes
  pub born : flow.born ≡ take count f.born
  pub low : (i : ℕ) → i < count → get_or f.born i 0 ≤ n
  pub high : (i : ℕ) → count ≤ i → i < length f.born → n < get_or f.born i 0
  pub client : flow.client ≡ f.client
  pub asset : flow.asset ≡ f.asset
  pub conflict : flow.conflict ≡ kept record_of n f.conflict

pub flow_front : (n : ℕ) (v w : Watched) (f : FlowValue) → IsFrontOf n v w → IsFlowOf w f → HasFlowFront n v f
flow_front n v w f front is =
    let taken = some_taken (map offer_of v.carried) in
    let xs : List ℕ = taken.0.bytes in
    let has : HasBytes v.carried xs = (taken.0.ended, taken.1) in
    let on = bytes_on front.more v.carried xs f.bytes has (subst (λ cs. HasBytes cs f.bytes) front.carried is.bytes) in
    let longer : length f.bytes ≡ length xs + length on.0 = ap length on.1 ∙ length-append xs on.0 in
    let count = length xs in
    let size = is.born.count in
    let bytes : xs ≡ take count f.bytes = sym (ap (take count) on.1 ∙ take-append-le count xs on.0 (omega arith) ∙ take_all count xs (omega arith)) in
    let born_size : length (take count f.born) ≡ count = length-take-le count f.born (omega (arith, size, longer)) in
    let each : (place number : ℕ) → slice_get f.born place ≡ Some number → IsBornWith (front.more ++ v.carried) place number =
    λ place number e. subst (λ cs. IsBornWith cs place number) front.carried (is.born.each place number e) in
    let low = λ (place number : ℕ) (e : slice_get f.born place ≡ Some number) (below : place < count).
    born_low n front.more v.carried xs front.later front.first has place number (each place number e) below in
    record {
      flow = record { client = v.client; asset = v.asset; midstream = v.midstream; bytes = xs; born = take count f.born; conflict = kept record_of n f.conflict };
      of = record {
        client = refl;
        asset = refl;
        midstream = refl;
        bytes = has;
        born = record {
          count = born_size;
          each = λ place number e.
              let within = slice_get_within (take count f.born) place number e in
              (low place number (get_take count f.born place number e) (omega (arith, within, born_size))).0;
        };
        conflict = conflict_front n front.more v.carried f.conflict front.later front.first (subst (λ cs. HasConflict cs f.conflict) front.carried is.conflict);
      };
      count = count;
      inside = omega (arith, longer);
      bytes = bytes;
      born = refl;
      low = λ i below. (low i (get_or f.born i 0) (slice_get-get_or f.born i 0 (omega (arith, size, longer, below))) below).1;
      high = λ i above inside.
          born_high n front.more v.carried xs front.later front.first has i (get_or f.born i 0) (each i (get_or f.born i 0) (slice_get-get_or f.born i 0 inside)) above;
      client = sym front.client ∙ sym is.client;
      asset = sym front.asset ∙ sym is.asset;
      conflict = refl;
    }
