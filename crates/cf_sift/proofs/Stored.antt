-- Histories that are cut in two, and the history of a stored stream.
use Rattle.cf_lane.specs.Caller.{newcomer}
use Rattle.std.proofs.Common.{◌≡◌, ◌+◌, ◌≤◌, ◌<◌, ◌⊎◌, ℕ, zero, suc, None, Option, List, [], ◌∷◌, ◌++◌, length, take, drop, refl, sym, ap, ◌∙◌, append_assoc, subst, inl, inr, arith}
use Rattle.std.proofs.lemmas.List.{append-nil, drop_at, length-append, length-drop, nil_from_length, same_from_push, take_all, take_at}
use Rattle.cf_audit.specs.declared.line.CutReason.{CutReason}
use Rattle.cf_lane.specs.Follows.{AreJudged}
use Rattle.cf_lane.specs.History.{Element, bytes_at, end_at}
use Rattle.cf_lane.specs.Judged.{Judged}
use Rattle.cf_lane.specs.Laws.{HasOneJudgement}
use Rattle.cf_policy.specs.Site.{SiteValue}
use Rattle.cf_view.specs.declared.Side.TheVariants as side
use Rattle.cf_sift.specs.Laws.{HasOneCut}
use Rattle.cf_sift.specs.Stored.{GoesUpTo, IsUncut, cut_behind, pieces_within, stored_history}

module _ {X : Type 0} where
  -- of no elements each part has none
  pub no_parts : (a b : List X) → a ++ b ≡ [] → (a ≡ []) × (b ≡ [])
  no_parts [] b is = (refl, is)
  no_parts (x ∷ a) b is = cc

  -- a beginning of a list and one more is the whole of it, or a beginning of the list
  pub split_last : (front back h : List X) (e : X) → h ++ e ∷ [] ≡ front ++ back → (back ≡ []) ⊎ ((b : List X) × (h ≡ front ++ b))
  split_last [] back h e is = inr (h, refl)
  split_last (x ∷ front) back [] e is = inl (no_parts front back cc).1
  split_last (x ∷ front) back (y ∷ h) e is =
      elim (split_last front back h e cc) [
        | inl none ↦ inl none
        | inr more ↦ inr (more.0, (let m = more.1 in cc))
      ]

  -- two beginnings of a list: one goes on as the other, or the other way round
  pub two_fronts : (a b c d : List X) → a ++ b ≡ c ++ d → ((m : List X) × (c ≡ a ++ m) × (b ≡ m ++ d)) ⊎ ((m : List X) × (a ≡ c ++ m) × (d ≡ m ++ b))
  two_fronts [] b c d is = inl (c, refl, is)
  two_fronts (x ∷ a) b [] d is = inr (x ∷ a, refl, sym is)
  two_fronts (x ∷ a) b (y ∷ c) d is =
      elim (two_fronts a b c d cc) [
        | inl m ↦ inl (m.0, (let e = m.1 in cc), m.2)
        | inr m ↦ inr (m.0, (let e = m.1 in cc), m.2)
      ]

  -- a list has nothing, or a last one
  pub last_of : (xs : List X) → (xs ≡ []) ⊎ ((front : List X) × (last : X) × (xs ≡ front ++ last ∷ []))
  last_of [] = inl refl
  last_of (x ∷ xs) =
      elim (last_of xs) [
        | inl none ↦ inr ([], x, ap (λ l. x ∷ l) none)
        | inr more ↦ inr (x ∷ more.0, more.1, ap (λ l. x ∷ l) more.2)
      ]

module _ (one : HasOneJudgement) (site : SiteValue) (client : ℕ) where
  -- a history that is not cut, and no more after one more element
  pub uncut_more : (h : List Element) (e : Element) (judged : List Judged) → IsUncut site client h → AreJudged site (newcomer client) (h ++ e ∷ []) judged →
      cut_behind site (h ++ e ∷ []) judged ≡ None → IsUncut site client (h ++ e ∷ [])
  uncut_more h e judged uncut are none front back ks is are_ks =
      elim (split_last front back h e is) [
        | inl nothing ↦
            let whole : front ≡ h ++ e ∷ [] = sym (append-nil front) ∙ ap (λ b. front ++ b) (sym nothing) ∙ sym is in
            let same : ks ≡ judged = one site (newcomer client) (h ++ e ∷ []) ks judged (subst (λ l. AreJudged site (newcomer client) l ks) whole are_ks) are in
            ap (λ l. cut_behind site l ks) whole ∙ ap (cut_behind site (h ++ e ∷ [])) same ∙ none
        | inr more ↦ uncut front more.0 ks more.1 are_ks
      ]

  -- the place of a cut, with one more element
  pub goes_up : (whole h later : List Element) (e : Element) (cut : Option CutReason) (judged : List Judged) → IsUncut site client h →
      whole ≡ (h ++ e ∷ []) ++ later → AreJudged site (newcomer client) (h ++ e ∷ []) judged → cut_behind site (h ++ e ∷ []) judged ≡ cut →
      (cut ≡ None → later ≡ []) → GoesUpTo site client whole cut (h ++ e ∷ []) judged
  goes_up whole h later e cut judged uncut begins are is all = record {
    later = later;
    begins = begins;
    are_judged = are;
    is_cut = is;
    first = λ front last same. subst (IsUncut site client) (same_from_push h front e last same).0 uncut;
    all = all;
  }

  -- where two histories go up to their cuts, neither goes on after the other
  no_more : (whole h k : List Element) (cut other : Option CutReason) (js ks : List Judged) (m d : List Element) → (x : GoesUpTo site client whole cut h js) →
      (y : GoesUpTo site client whole other k ks) → k ≡ h ++ m → x.later ≡ m ++ d → m ≡ []
  no_more whole h k cut other js ks m d x y goes later =
      elim (last_of m) [
        | inl none ↦ none
        | inr more ↦
            let (front, last, is) = more in
            let longer : k ≡ (h ++ front) ++ last ∷ [] = goes ∙ ap (λ l. h ++ l) is ∙ sym (append_assoc h front (last ∷ [])) in
            let none : cut ≡ None = sym x.is_cut ∙ y.first (h ++ front) last longer h front js refl x.are_judged in
            (no_parts m d (sym later ∙ x.all none)).0
      ]

  one_place : (whole h k : List Element) (cut other : Option CutReason) (js ks : List Judged) → GoesUpTo site client whole cut h js →
      GoesUpTo site client whole other k ks → h ≡ k
  one_place whole h k cut other js ks x y =
      elim (two_fronts h x.later k y.later (sym x.begins ∙ y.begins)) [
        | inl m ↦ sym (append-nil h) ∙ ap (λ l. h ++ l) (sym (no_more whole h k cut other js ks m.0 y.later x y m.1 m.2)) ∙ sym m.1
        | inr m ↦ m.1 ∙ ap (λ l. k ++ l) (no_more whole k h other cut ks js m.0 x.later y x m.1 m.2) ∙ append-nil k
      ]

pub has_one_cut : HasOneJudgement → HasOneCut
has_one_cut one site client whole h k cut other js ks x y =
    let place = one_place one site client whole h k cut other js ks x y in
    let same = one site (newcomer client) k js ks (subst (λ l. AreJudged site (newcomer client) l js) place x.are_judged) y.are_judged in
    (place, same, sym x.is_cut ∙ ap (λ l. cut_behind site l js) place ∙ ap (cut_behind site k) same ∙ y.is_cut)

no_pieces : (n : ℕ) → pieces_within n [] ≡ []
no_pieces zero = refl
no_pieces (suc n) = refl

-- pieces are the same however many are allowed, where there are enough
enough : (n m : ℕ) (bytes : List ℕ) → length bytes ≤ n → length bytes ≤ m → pieces_within n bytes ≡ pieces_within m bytes
enough n m [] p q = no_pieces n ∙ sym (no_pieces m)
enough zero m (x ∷ xs) p q = absurd (omega (arith, p))
enough (suc n) zero (x ∷ xs) p q = absurd (omega (arith, q))
enough (suc n) (suc m) (x ∷ xs) p q =
    let size = length-drop 4096 (x ∷ xs) in
    ap (λ l. bytes_at 0 side.Client (take 4096 (x ∷ xs)) ∷ l) (enough n m (drop 4096 (x ∷ xs)) (omega (arith, p, size)) (omega (arith, q, size)))

-- a piece that is full, and what follows it
pub full_piece : (piece rest : List ℕ) → length piece ≡ 4096 → stored_history (piece ++ rest) ≡ bytes_at 0 side.Client piece ∷ stored_history rest
full_piece [] rest full = absurd (omega (arith, full))
full_piece (x ∷ xs) rest full =
    let size : length ((x ∷ xs) ++ rest) ≡ 4096 + length rest = length-append (x ∷ xs) rest ∙ ap (λ n. n + length rest) full in
    let front : take 4096 ((x ∷ xs) ++ rest) ≡ x ∷ xs = take_at (x ∷ xs) rest 4096 full in
    let behind : drop 4096 ((x ∷ xs) ++ rest) ≡ rest = drop_at (x ∷ xs) rest 4096 full in
    ap (λ p. bytes_at 0 side.Client p ∷ (pieces_within (length (xs ++ rest)) (drop 4096 ((x ∷ xs) ++ rest)) ++ end_at 0 side.Client ∷ [])) front
    ∙ ap (λ l. bytes_at 0 side.Client (x ∷ xs) ∷ (pieces_within (length (xs ++ rest)) l ++ end_at 0 side.Client ∷ [])) behind
    ∙ ap (λ l. bytes_at 0 side.Client (x ∷ xs) ∷ (l ++ end_at 0 side.Client ∷ [])) (enough (length (xs ++ rest)) (length rest) rest (omega (arith, size)) (omega arith))

-- a piece that is not empty, after which nothing follows
pub last_piece : (piece : List ℕ) → 0 < length piece → length piece ≤ 4096 → stored_history piece ≡ bytes_at 0 side.Client piece ∷ end_at 0 side.Client ∷ []
last_piece [] some short = absurd (omega (arith, some))
last_piece (x ∷ xs) some short =
    ap (λ p. bytes_at 0 side.Client p ∷ (pieces_within (length xs) (drop 4096 (x ∷ xs)) ++ end_at 0 side.Client ∷ [])) (take_all 4096 (x ∷ xs) short)
    ∙ ap (λ l. bytes_at 0 side.Client (x ∷ xs) ∷ (pieces_within (length xs) l ++ end_at 0 side.Client ∷ [])) (nil_from_length (drop 4096 (x ∷ xs)) (omega (arith, short, length-drop 4096 (x ∷ xs))))
    ∙ ap (λ l. bytes_at 0 side.Client (x ∷ xs) ∷ (l ++ end_at 0 side.Client ∷ [])) (no_pieces (length xs))
