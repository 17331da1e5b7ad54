-- What was watched is one list of flows.
use Rattle.std.proofs.Common.{◌≡◌, ◌+◌, ◌≤◌, ◌∙◌, ◌⊎◌, ℕ, pos, List, [], ◌∷◌, ◌++◌, length, map, get_or, Option, None, Some, refl, sym, ap, subst, inl, inr, arith, length-append}
use Rattle.cf_unobjected.proofs.Common.{Carried, Conflict, FlowValue, HasBytes, HasConflict, IsConflictAfter, IsFlowOf, Letter, Stream, Watched, copy_of, map-append, offer_of, slice_get-get_or}
use Rattle.std.proofs.lemmas.List.{same_lists}
use Rattle.cf_stream.proofs.FirstCopy.{first_copy-append}
use Rattle.cf_stream.proofs.Taken.{same_taken, taken_extends}
use Rattle.cf_stream.specs.FirstCopy.{first_copy}
use Rattle.cf_stream.specs.Stream.{Extends}
use Rattle.cf_watch.specs.Carried.{AreBorn, IsBornWith, IsConflictOf}
use Rattle.cf_unobjected.specs.OneJudgement.{FlowsAreOne}

-- ---- the conflict of a flow

same_conflict : (k m : Conflict) → k.at_record ≡ m.at_record → k.position ≡ m.position → k ≡ m
same_conflict k m e f =
    ap (λ n. let c : Conflict = record { at_record = n; position = k.position } in c) e
    ∙ ap (λ z. let c : Conflict = record { at_record = m.at_record; position = z } in c) f

one_of : (copy : ℕ → Option Letter) (c : Carried) (a b : Option Conflict) → IsConflictOf copy c a → IsConflictOf copy c b → a ≡ b
one_of copy c None None h g = refl
one_of copy c None (Some m) h g = absurd (h g.place g.here)
one_of copy c (Some k) None h g = absurd (g h.place h.here)
one_of copy c (Some k) (Some m) h g =
    let below = h.lowest g.place g.here in
    let above = g.lowest h.place h.here in
    let same : h.place ≡ g.place = omega (arith, below, above) in
    ap Some (same_conflict k m (h.number ∙ sym g.number) (h.position ∙ ap pos same ∙ sym g.position))

one_after : (copy : ℕ → Option Letter) (c : Carried) (before a b : Option Conflict) → IsConflictAfter copy c before a → IsConflictAfter copy c before b → a ≡ b
one_after copy c (Some k) a b h g = h ∙ sym g
one_after copy c None a b h g = one_of copy c a b h g

pub one_conflict : (carried : List Carried) (a b : Option Conflict) → HasConflict carried a → HasConflict carried b → a ≡ b
one_conflict [] a b h g = h ∙ sym g
one_conflict (c ∷ earlier) a b (before, had, now) (other, was, after) =
    let same : before ≡ other = one_conflict earlier before other had was in
    one_after (copy_of earlier) c before a b now (subst (λ o. IsConflictAfter (copy_of earlier) c o b) (sym same) after)

-- ---- its bytes, and the record of each

pub one_bytes : (carried : List Carried) (xs ys : List ℕ) → HasBytes carried xs → HasBytes carried ys → xs ≡ ys
one_bytes carried xs ys h g = ap (λ (s : Stream). s.bytes) (same_taken (copy_of carried) (record { bytes = xs; ended = h.0 }) (record { bytes = ys; ended = g.0 }) h.1 g.1)

-- after more packets the bytes go on
pub bytes_on : (newer older : List Carried) (xs ys : List ℕ) → HasBytes older xs → HasBytes (newer ++ older) ys → (more : List ℕ) × (ys ≡ xs ++ more)
bytes_on newer older xs ys h k =
    let both : map offer_of (newer ++ older) ≡ map offer_of newer ++ map offer_of older = map-append offer_of newer older in
    let e : Extends (record { bytes = xs; ended = h.0 }) (record { bytes = ys; ended = k.0 }) =
    taken_extends (copy_of older) (copy_of (newer ++ older)) (λ p l is. subst (λ os. first_copy os p ≡ Some l) (sym both) (first_copy-append (map offer_of newer) (map offer_of older) p l is))
    (record { bytes = xs; ended = h.0 }) (record { bytes = ys; ended = k.0 }) h.1 k.1 in
    (e.more, e.bytes)

pub no_fewer : (newer older : List Carried) (xs ys : List ℕ) → HasBytes older xs → HasBytes (newer ++ older) ys → length xs ≤ length ys
no_fewer newer older xs ys h k =
    let e = bytes_on newer older xs ys h k in
    let longer : length ys ≡ length xs + length e.0 = ap length e.1 ∙ length-append xs e.0 in
    omega (arith, longer)

-- of two parts of a list that go to its end, one is in the other behind its first element, or they begin with the same one
parted : (a b : List Carried) (x y : Carried) (xs ys : List Carried) → a ++ x ∷ xs ≡ b ++ y ∷ ys →
    ((c : List Carried) × (xs ≡ c ++ y ∷ ys)) ⊎ (((c : List Carried) × (ys ≡ c ++ x ∷ xs)) ⊎ (x ≡ y))
parted [] [] x y xs ys e = inr (inr cc)
parted [] (z ∷ b) x y xs ys e = inl (b, cc)
parted (z ∷ a) [] x y xs ys e = inr (inl (a, cc))
parted (z ∷ a) (w ∷ b) x y xs ys e = parted a b x y xs ys cc

-- the bytes reach a place once
never_before : (place m n : ℕ) (carried : List Carried) (p : IsBornWith carried place m) (q : IsBornWith carried place n) (c : List Carried) → p.older ≡ c ++ q.one ∷ q.older → ⊥
never_before place m n carried p q c e =
    let more : length q.now ≤ length p.before = no_fewer c (q.one ∷ q.older) q.now p.before q.has_now (subst (λ cs. HasBytes cs p.before) e p.has_before) in
    let low = p.not_yet in
    let high = q.reached in
    omega (arith, more, low, high)

pub one_record : (carried : List Carried) (place m n : ℕ) → IsBornWith carried place m → IsBornWith carried place n → m ≡ n
one_record carried place m n p q =
    elim (parted p.newer q.newer p.one q.one p.older q.older (sym p.are ∙ q.are)) [
      | inl (c, e) ↦ absurd (never_before place m n carried p q c e)
      | inr (inl (c, e)) ↦ absurd (never_before place n m carried q p c e)
      | inr (inr same) ↦ sym p.is_number ∙ ap (λ (x : Carried). x.number) same ∙ q.is_number
    ]

one_born : (carried : List Carried) (bytes xs ys : List ℕ) → AreBorn carried bytes xs → AreBorn carried bytes ys → xs ≡ ys
one_born carried bytes xs ys h g =
    let size : length xs ≡ length ys = h.count ∙ sym g.count in
    same_lists xs ys size
    (λ k d l. one_record carried k (get_or xs k d) (get_or ys k d) (h.each k (get_or xs k d) (slice_get-get_or xs k d l)) (g.each k (get_or ys k d) (slice_get-get_or ys k d (omega (arith, size, l)))))

-- ---- flows

same_flow : (f g : FlowValue) → f.client ≡ g.client → f.asset ≡ g.asset → f.midstream ≡ g.midstream → f.bytes ≡ g.bytes → f.born ≡ g.born → f.conflict ≡ g.conflict → f ≡ g
same_flow f g a b c d e h =
    ap (λ x. let r : FlowValue = record f { client = x } in r) a
    ∙ ap (λ x. let r : FlowValue = record f { client = g.client; asset = x } in r) b
    ∙ ap (λ x. let r : FlowValue = record f { client = g.client; asset = g.asset; midstream = x } in r) c
    ∙ ap (λ x. let r : FlowValue = record f { client = g.client; asset = g.asset; midstream = g.midstream; bytes = x } in r) d
    ∙ ap (λ x. let r : FlowValue = record g { born = x; conflict = f.conflict } in r) e
    ∙ ap (λ x. let r : FlowValue = record g { conflict = x } in r) h

one_flow : (w : Watched) (f g : FlowValue) → IsFlowOf w f → IsFlowOf w g → f ≡ g
one_flow w f g h k =
    let bytes = one_bytes w.carried f.bytes g.bytes h.bytes k.bytes in
    same_flow f g (h.client ∙ sym k.client) (h.asset ∙ sym k.asset) (h.midstream ∙ sym k.midstream) bytes
    (one_born w.carried g.bytes f.born g.born (subst (λ xs. AreBorn w.carried xs f.born) bytes h.born) k.born) (one_conflict w.carried f.conflict g.conflict h.conflict k.conflict)

pub one_list : FlowsAreOne
one_list [] flows others h g = h ∙ sym g
one_list (w ∷ ws) [] others h g = absurd h
one_list (w ∷ ws) (f ∷ flows) [] h g = absurd g
one_list (w ∷ ws) (f ∷ flows) (k ∷ others) h g = ap (λ x. x ∷ flows) (one_flow w f k h.0 g.0) ∙ ap (λ xs. k ∷ xs) (one_list ws flows others h.1 g.1)
