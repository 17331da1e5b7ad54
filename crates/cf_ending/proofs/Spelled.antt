-- Texts spelled from their end to their front.
use Rattle.std.proofs.Common.{◌≡◌, ◌≤◌, ◌<◌, ◌+◌, ◌*◌, ◌/◌, ◌%◌, ◌^◌, ℕ, List, [], ◌∷◌, ◌++◌, length, drop, refl, sym, ap, ◌∙◌, arith, append_assoc}
use Rattle.std.specs.Prelude.{decimal, slice_set}
use Rattle.std.proofs.lemmas.Fmt.{decimal_digit, decimal_step, length-decimal-le}
use Rattle.std.proofs.lemmas.List.{append-nil, drop-set-add, length-append, take-append-drop}
use Rattle.std.proofs.Math.ListN.{drop_of_length-le}
use Rattle.cf_view.specs.Text.{six_digits}

-- the last digit of a number that begins with a one
last_digit : (b n : ℕ) → 1 ≤ b → b < 2 ^ 50 → n < 2 ^ 50 → decimal (10 * b + n) ≡ decimal (b + n / 10) ++ (48 + n % 10) ∷ []
last_digit b n some short small =
    let up : (10 * b + n) / 10 ≡ b + n / 10 = omega arith in
    let low : (10 * b + n) % 10 ≡ n % 10 = omega arith in
    rw (decimal_step (10 * b + n) (omega arith) (omega arith), up, low) refl

-- six digits after a one
seven_spelled : (n : ℕ) → n < 1000000 →
    decimal (1000000 + n) ≡ 49 ∷ (48 + n / 100000) ∷ (48 + n / 10000 % 10) ∷ (48 + n / 1000 % 10) ∷ (48 + n / 100 % 10) ∷ (48 + n / 10 % 10) ∷ (48 + n % 10) ∷ []
seven_spelled n small =
    let a : n / 10 / 10 ≡ n / 100 = omega arith in
    let b : n / 100 / 10 ≡ n / 1000 = omega arith in
    let c : n / 1000 / 10 ≡ n / 10000 = omega arith in
    let d : n / 10000 / 10 ≡ n / 100000 = omega arith in
    let e : 1 + n / 100000 / 10 ≡ 1 = omega arith in
    let f : n / 100000 % 10 ≡ n / 100000 = omega arith in
    let one : decimal 1 ≡ 49 ∷ [] = decimal_digit 1 (omega arith) in
    rw (
      last_digit 100000 n (omega arith) (omega arith) (omega arith),
      last_digit 10000 (n / 10) (omega arith) (omega arith) (omega arith),
      a,
      last_digit 1000 (n / 100) (omega arith) (omega arith) (omega arith),
      b,
      last_digit 100 (n / 1000) (omega arith) (omega arith) (omega arith),
      c,
      last_digit 10 (n / 10000) (omega arith) (omega arith) (omega arith),
      d,
      last_digit 1 (n / 100000) (omega arith) (omega arith) (omega arith),
      e,
      one,
      f,
    )
    refl

six_spelled : (n : ℕ) → n < 1000000 →
    six_digits n ≡ (48 + n / 100000) ∷ (48 + n / 10000 % 10) ∷ (48 + n / 1000 % 10) ∷ (48 + n / 100 % 10) ∷ (48 + n / 10 % 10) ∷ (48 + n % 10) ∷ []
six_spelled n small =
    rw (
      decimal_digit (n / 100000) (omega arith),
      decimal_digit (n / 10000 % 10) (omega arith),
      decimal_digit (n / 1000 % 10) (omega arith),
      decimal_digit (n / 100 % 10) (omega arith),
      decimal_digit (n / 10 % 10) (omega arith),
      decimal_digit (n % 10) (omega arith),
    )
    refl

seven_digits : (n : ℕ) → n < 1000000 → decimal (1000000 + n) ≡ 49 ∷ six_digits n
seven_digits n small = seven_spelled n small ∙ ap (λ ds. 49 ∷ ds) (sym (six_spelled n small))

-- so the point in the place of that one stands before six digits
pub point_before : (n : ℕ) (rest now : List ℕ) (at : ℕ) → n < 1000000 → drop at now ≡ decimal (1000000 + n) ++ rest → drop at (slice_set now at 46) ≡ 46 ∷ (six_digits n ++ rest)
point_before n rest now at small was =
    let seven : drop at now ≡ 49 ∷ (six_digits n ++ rest) = was ∙ ap (λ ds. ds ++ rest) (seven_digits n small) in
    let here : at ≡ at + 0 = omega arith in
    ap (λ k. drop at (slice_set now k 46)) here ∙ drop-set-add at now 0 46 ∙ ap (λ xs. slice_set xs 0 46) seven

-- how many digits numbers have
pub long : (n : ℕ) → n < 2 ^ 64 → length (decimal n) ≤ 20
long n small = length-decimal-le 20 n (omega arith) (omega arith) (omega arith)

pub middling : (n : ℕ) → n < 2 ^ 32 → length (decimal n) ≤ 10
middling n small = length-decimal-le 10 n (omega arith) (omega arith) (omega arith)

pub short : (n : ℕ) → n < 2 ^ 16 → length (decimal n) ≤ 5
short n small = length-decimal-le 5 n (omega arith) (omega arith) (omega arith)

pub octet : (n : ℕ) → n < 256 → length (decimal n) ≤ 3
octet n small = length-decimal-le 3 n (omega arith) (omega arith) (omega arith)

pub seven : (n : ℕ) → n < 1000000 → length (decimal (1000000 + n)) ≡ 7
seven n small = ap length (seven_spelled n small)

pub ruleset spelled = (append_assoc, length-append, take-append-drop)

-- nothing stands after the last octet
pub nothing_behind : (xs : List ℕ) (n : ℕ) → length xs ≤ n → drop n xs ≡ []
nothing_behind xs n past = drop_of_length-le xs past

-- texts that were spelled, the last one first
pub six_joined : (a b c d e f rest : List ℕ) {t u v w x y : List ℕ} → t ≡ f ++ rest → u ≡ e ++ t → v ≡ d ++ u → w ≡ c ++ v → x ≡ b ++ w → y ≡ a ++ x →
    y ≡ (a ++ b ++ c ++ d ++ e ++ f) ++ rest
six_joined a b c d e f rest p q r s z o = rw (o, z, s, r, q, p) (simp append_assoc)

-- and nothing stands after the first of them
pub line_joined : (a b c d e f rest : List ℕ) {t u v w x y : List ℕ} → rest ≡ [] → t ≡ f ++ rest → u ≡ e ++ t → v ≡ d ++ u → w ≡ c ++ v → x ≡ b ++ w → y ≡ a ++ x →
    y ≡ a ++ b ++ c ++ d ++ e ++ f
line_joined a b c d e f rest none p q r s z o =
    six_joined a b c d e f rest p q r s z o ∙ ap (λ xs. (a ++ b ++ c ++ d ++ e ++ f) ++ xs) none ∙ append-nil (a ++ b ++ c ++ d ++ e ++ f)
