-- Texts cut at a mark, as `split_once` cuts them.
use Rattle.std.proofs.Common.{◌≡◌, ℕ, zero, suc, ◌+◌, ◌<◌, ◌≤◌, true, false, List, [], ◌∷◌, ◌++◌, length, take, drop, Option, Some, None, option_map, MatchOption, nat_eq, Bor, sym, ◌∙◌, ap, refl, arith, length-append, length-drop, zero-add}
use Rattle.std.specs.List.{starts_with}
use Rattle.std.specs.Str.Pattern.{FindsText, LacksTextAt, SplitsAroundMatch}
use Rattle.std.proofs.Math.Seq.{take-append_seam}
use Rattle.std.proofs.lemmas.List.{take-append-drop}
use Rattle.std.proofs.lemmas.Slice.Eq.{bytes_eq-Decides}
use Rattle.cf_policylang.specs.Numbers.{split_at_mark}

prefix_of : (mark s : List ℕ) → starts_with nat_eq s mark ≡ true → s ≡ mark ++ drop (length mark) s
prefix_of mark s h =
    let same : mark ≡ take (length mark) s = (bytes_eq-Decides mark (take (length mark) s)).0 h in
    sym (take-append-drop (length mark) s) ∙ ap (λ l. l ++ drop (length mark) s) (sym same)

is_prefix : (mark s rest : List ℕ) → s ≡ mark ++ rest → starts_with nat_eq s mark ≡ true
is_prefix mark s rest h =
    let front : mark ≡ take (length mark) s = sym (ap (take (length mark)) h ∙ take-append_seam mark rest) in
    (bytes_eq-Decides mark (take (length mark) s)).1 front

lacks_prefix : (mark s : List ℕ) → LacksTextAt mark s 0 → starts_with nat_eq s mark ≡ false
lacks_prefix mark s lacks =
    elim (starts_with nat_eq s mark) as (λ b. starts_with nat_eq s mark ≡ b → b ≡ false)
    [ true ↦ λ e. absurd (lacks (drop (length mark) s) (prefix_of mark s e)) | false ↦ λ e. refl ]
    refl

cut_found : (mark s : List ℕ) (i : ℕ) → 0 < length mark → ((k : ℕ) → k < i → LacksTextAt mark s k)
    → drop i s ≡ mark ++ drop (i + length mark) s → split_at_mark mark s ≡ Some (take i s, drop (i + length mark) s)
cut_found mark [] i some lacks here =
    let long : length (drop {A = ℕ} i []) ≡ length (mark ++ drop (i + length mark) []) = ap length here in
    absurd (omega (arith, long, length-drop {A = ℕ} i [], length-append mark (drop (i + length mark) [])))
cut_found mark (b ∷ bs) zero some lacks here =
    rw (is_prefix mark (b ∷ bs) (drop (0 + length mark) (b ∷ bs)) here, zero-add) refl
cut_found mark (b ∷ bs) (suc i) some lacks here =
    let further : suc i + length mark ≡ suc (i + length mark) = omega arith in
    let there : drop i bs ≡ mark ++ drop (i + length mark) bs = here ∙ ap (λ n. mark ++ drop n (b ∷ bs)) further in
    let found : split_at_mark mark bs ≡ Some (take i bs, drop (i + length mark) bs) =
    cut_found mark bs i some (λ k lt. lacks (suc k) (omega arith)) there in
    rw (lacks_prefix mark (b ∷ bs) (lacks 0 (omega arith)), found, further) refl

cut_none : (mark s : List ℕ) → ((k : ℕ) → k ≤ length s → LacksTextAt mark s k) → split_at_mark mark s ≡ None
cut_none mark [] lacks = refl
cut_none mark (b ∷ bs) lacks =
    rw (lacks_prefix mark (b ∷ bs) (lacks 0 (omega arith)), cut_none mark bs (λ k le. lacks (suc k) (omega arith))) refl

pub cut_of : (mark s : List ℕ) (r : Option (Bor (List ℕ) × Bor (List ℕ))) → 0 < length mark
    → MatchOption r (FindsText mark s None) (λ x. SplitsAroundMatch (FindsText mark) s x.0.now x.1.now)
    → option_map (λ p. (p.0.now, p.1.now)) r ≡ split_at_mark mark s
cut_of mark s None some h = sym (cut_none mark s h)
cut_of mark s (Some x) some (i, j, found, front, back, _, _, _) =
    sym (rw (cut_found mark s i some found.0 (found.1.split ∙ ap (λ n. mark ++ drop n s) found.1.ends), front, back, found.1.ends) refl)
