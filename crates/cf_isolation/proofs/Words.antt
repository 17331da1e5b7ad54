-- The words of a line of the log: they tell its moment, its client and its asset's name.
use Rattle.std.proofs.Common.{◌≡◌, ℕ, ◌+◌, ◌*◌, ◌/◌, ◌%◌, ◌^◌, ◌<◌, ◌==◌, ◌&&◌, Bool, true, false, not, List, [], ◌∷◌, ◌++◌, cond, refl, sym, ap, ◌∙◌, subst, append_assoc, arith, bytes_eq, codes, decimal, filter}
use Rattle.cf_isolation.proofs.Common.{AllByRecursion, Endpoint, and_parts, append-nil, filter-append, moment_in, names_both, nat_tests, same_endpoint, same_is, true≢false}
use Rattle.std.specs.List.{list_all, list_any}
use Rattle.std.specs.Char.{digit_value}
use Rattle.std.specs.Str.Parse.{AllDigits, digits_value, digits_value_after}
use Rattle.std.proofs.lemmas.Bool.{false_from_ne_true, ne_eqb}
use Rattle.std.proofs.lemmas.Fmt.{decimal_digit, decimal_injective, decimal_is_IsNumeral}
use Rattle.std.proofs.lemmas.Slice.Eq.{bytes_eq-Decides}
use Rattle.std.proofs.lemmas.Str.Parse.{tells_digits}
use Rattle.cf_audit.specs.Line.{LineValue}
use Rattle.cf_audit.specs.Text.{line_text, what_text}
use Rattle.cf_policy.specs.Names.{is_name_byte}
use Rattle.cf_view.specs.Text.{dotted, endpoint_text, moment_text, six_digits}
use Rattle.cf_isolation.specs.Lines.{behind_word, first_word}
use Rattle.cf_isolation.proofs.Lists.{all_both}
use Rattle.cf_isolation.proofs.Tables.{same_self}

-- ---- octets without one

-- no octet is this one
abbrev Lacks : ℕ → List ℕ → Type 0
Lacks c xs = AllByRecursion (λ b. (b == c) ≡ false) xs

-- the digits have none below the first digit or above the last
digits_lack : (c : ℕ) (ds : List ℕ) → (c < 48) → AllDigits 10 ds → Lacks c ds
digits_lack c [] low h = tt
digits_lack c (d ∷ ds) low h = let parts = tells_digits.parts d ds h in let big = parts.0.0 in (ne_eqb d c (λ e. omega (arith, e, big, low)), digits_lack c ds low parts.1)

colon_lacks : (ds : List ℕ) → AllDigits 10 ds → Lacks 58 ds
colon_lacks [] h = tt
colon_lacks (d ∷ ds) h = let parts = tells_digits.parts d ds h in let small = parts.0.1 in (ne_eqb d 58 (λ e. omega (arith, e, small)), colon_lacks ds parts.1)

decimal_digits : (n : ℕ) → n < 2 ^ 64 → AllDigits 10 (decimal n)
decimal_digits n h = (decimal_is_IsNumeral n h).0.1

decimal_lacks : (c n : ℕ) → c < 48 → n < 2 ^ 64 → Lacks c (decimal n)
decimal_lacks c n low h = digits_lack c (decimal n) low (decimal_digits n h)

never : (n : ℕ) → (n == n) ≡ false → ⊥
never n k = let yes : (n == n) ≡ true = grind (arith, nat_tests) in absurd (true≢false (sym yes ∙ k))

-- the list up to such an octet, and that after it
split_same : (c : ℕ) (xs us ys vs : List ℕ) → Lacks c xs → Lacks c us → xs ++ c ∷ ys ≡ us ++ c ∷ vs → (xs ≡ us) × (ys ≡ vs)
split_same c [] [] ys vs h g e = let same : ys ≡ vs = cc in (refl, same)
split_same c [] (u ∷ us) ys vs h g e = let same : c ≡ u = cc in absurd (never u (subst (λ x. (u == x) ≡ false) same g.0))
split_same c (x ∷ xs) [] ys vs h g e = let same : x ≡ c = cc in absurd (never c (subst (λ y. (y == c) ≡ false) same h.0))
split_same c (x ∷ xs) (u ∷ us) ys vs h g e =
    let head : x ≡ u = cc in
    let tail : xs ++ c ∷ ys ≡ us ++ c ∷ vs = cc in
    let more = split_same c xs us ys vs h.1 g.1 tail in
    (ap (λ z. z ∷ xs) head ∙ ap (λ l. u ∷ l) more.0, more.1)

-- ---- words

word_is : (xs ys : List ℕ) → Lacks 32 xs → first_word (xs ++ 32 ∷ ys) ≡ xs
word_is [] ys h = refl
word_is (x ∷ xs) ys h = ap (λ b. cond b [] (x ∷ first_word (xs ++ 32 ∷ ys))) h.0 ∙ ap (λ l. x ∷ l) (word_is xs ys h.1)

behind_is : (xs ys : List ℕ) → Lacks 32 xs → behind_word (xs ++ 32 ∷ ys) ≡ ys
behind_is [] ys h = refl
behind_is (x ∷ xs) ys h = ap (λ b. cond b (xs ++ 32 ∷ ys) (behind_word (xs ++ 32 ∷ ys))) h.0 ∙ behind_is xs ys h.1

-- lists that were joined from the left
line_joined : (a b c d : List ℕ) → ((((((a ++ 32 ∷ []) ++ b) ++ 32 ∷ []) ++ c) ++ 32 ∷ []) ++ d) ++ 10 ∷ [] ≡ a ++ 32 ∷ (b ++ 32 ∷ (c ++ 32 ∷ (d ++ 10 ∷ [])))
line_joined a b c d = simp append_assoc

-- ---- moments

digits_join : (n : ℕ) (xs ys : List ℕ) → digits_value_after 10 n (xs ++ ys) ≡ digits_value_after 10 (digits_value_after 10 n xs) ys
digits_join n [] ys = refl
digits_join n (x ∷ xs) ys = digits_join (n * 10 + digit_value x) xs ys

digit_is : (d : ℕ) → d < 10 → digit_value (48 + d) ≡ d
digit_is d h = grind (arith, nat_tests, h)

one_digit : (n d : ℕ) → d < 10 → digits_value_after 10 n (decimal d) ≡ n * 10 + d
one_digit n d h = ap (digits_value_after 10 n) (decimal_digit d h) ∙ ap (λ v. n * 10 + v) (digit_is d h)

-- after the digits of a number one more
one_more : (n k d : ℕ) (xs : List ℕ) → digits_value_after 10 n xs ≡ k → d < 10 → digits_value_after 10 n (xs ++ decimal d) ≡ k * 10 + d
one_more n k d xs e h = digits_join n xs (decimal d) ∙ ap (λ x. digits_value_after 10 x (decimal d)) e ∙ one_digit k d h

six_value : (n m : ℕ) → m < 1000000 → digits_value_after 10 n (six_digits m) ≡ n * 1000000 + m
six_value n m h =
    let a = decimal (m / 100000) in
    let b = a ++ decimal (m / 10000 % 10) in
    let c = b ++ decimal (m / 1000 % 10) in
    let d = c ++ decimal (m / 100 % 10) in
    let e = d ++ decimal (m / 10 % 10) in
    one_more n _ (m % 10) e
    (one_more n _ (m / 10 % 10) d
    (one_more n _ (m / 100 % 10) c
    (one_more n _ (m / 1000 % 10) b (one_more n _ (m / 10000 % 10) a (one_digit n (m / 100000) (omega (arith, h))) (omega arith)) (omega arith)) (omega arith)) (omega arith)) (omega arith)
    ∙ omega (arith, h)

pointless : (xs : List ℕ) → Lacks 46 xs → filter (λ octet. not (octet == 46)) xs ≡ xs
pointless [] h = refl
pointless (x ∷ xs) h = ap (λ b. cond (not b) (x ∷ filter (λ octet. not (octet == 46)) xs) (filter (λ octet. not (octet == 46)) xs)) h.0 ∙ ap (λ l. x ∷ l) (pointless xs h.1)

lacks_both : (c : ℕ) (xs ys : List ℕ) → Lacks c xs → Lacks c ys → Lacks c (xs ++ ys)
lacks_both c xs ys h g = all_both (λ b. (b == c) ≡ false) xs ys h g

six_lacks : (c m : ℕ) → c < 48 → m < 1000000 → Lacks c (six_digits m)
six_lacks c m low h =
    let D : (n : ℕ) → n < 1000000 → Lacks c (decimal n) = λ n k. decimal_lacks c n low (omega (arith, k)) in
    lacks_both c _ (decimal (m % 10))
    (lacks_both c _ (decimal (m / 10 % 10))
    (lacks_both c _ (decimal (m / 100 % 10))
    (lacks_both c _ (decimal (m / 1000 % 10))
    (lacks_both c (decimal (m / 100000)) (decimal (m / 10000 % 10)) (D _ (omega (arith, h))) (D _ (omega arith))) (D _ (omega arith))) (D _ (omega arith))) (D _ (omega arith))) (D _ (omega arith))

-- a moment that is told
abbrev pub IsMoment : ℕ → Type 0
IsMoment m = m < 2 ^ 64

moment_lacks : (m : ℕ) → IsMoment m → Lacks 32 (moment_text m)
moment_lacks m h =
    lacks_both 32 (decimal (m / 1000000) ++ codes ".") (six_digits (m % 1000000))
    (lacks_both 32 (decimal (m / 1000000)) (codes ".") (decimal_lacks 32 (m / 1000000) (omega arith) (omega (arith, h))) (refl, tt)) (six_lacks 32 (m % 1000000) (omega arith) (omega arith))

moment_value : (m : ℕ) → IsMoment m → digits_value 10 (filter (λ octet. not (octet == 46)) (moment_text m)) ≡ m
moment_value m h =
    let seconds = decimal (m / 1000000) in
    let six = six_digits (m % 1000000) in
    let keep : ℕ → Bool = λ octet. not (octet == 46) in
    let small : m / 1000000 < 2 ^ 64 = omega (arith, h) in
    let a : filter keep seconds ≡ seconds = pointless seconds (decimal_lacks 46 (m / 1000000) (omega arith) small) in
    let b : filter keep six ≡ six = pointless six (six_lacks 46 (m % 1000000) (omega arith) (omega arith)) in
    let front : filter keep (seconds ++ codes ".") ≡ seconds = filter-append keep seconds (codes ".") ∙ ap (λ l. l ++ []) a ∙ append-nil seconds in
    let text : filter keep ((seconds ++ codes ".") ++ six) ≡ seconds ++ six = filter-append keep (seconds ++ codes ".") six ∙ ap (λ l. l ++ filter keep six) front ∙ ap (λ l. seconds ++ l) b in
    let value : digits_value_after 10 0 seconds ≡ m / 1000000 = (decimal_is_IsNumeral (m / 1000000) small).1 in
    ap (digits_value 10) text ∙ digits_join 0 seconds six ∙ ap (λ n. digits_value_after 10 n six) value ∙ six_value (m / 1000000) (m % 1000000) (omega arith) ∙ omega arith

-- ---- endpoints

-- an endpoint in the ranges of its fields
abbrev pub IsEndpoint : Endpoint → Type 0
IsEndpoint e = (e.address < 2 ^ 32) × (e.port < 2 ^ 16)

endpoint_joined : (a b c d p : List ℕ) → (((((((a ++ 46 ∷ []) ++ b) ++ 46 ∷ []) ++ c) ++ 46 ∷ []) ++ d) ++ 58 ∷ []) ++ p ≡ a ++ 46 ∷ (b ++ 46 ∷ (c ++ 46 ∷ (d ++ 58 ∷ p)))
endpoint_joined a b c d p = simp append_assoc

endpoint_lacks : (e : Endpoint) → IsEndpoint e → Lacks 32 (endpoint_text e)
endpoint_lacks e h =
    let D : (n : ℕ) → n < 2 ^ 32 → Lacks 32 (decimal n) = λ n k. decimal_lacks 32 n (omega arith) (omega (arith, k)) in
    let low = h.0 in
    let port = h.1 in
    let a = e.address in
    lacks_both 32 (dotted a ++ codes ":") (decimal e.port)
    (lacks_both 32 (dotted a) (codes ":")
    (lacks_both 32 _ (decimal (a % 256))
    (lacks_both 32 _ (codes ".")
    (lacks_both 32 _ (decimal (a / 256 % 256))
    (lacks_both 32 _ (codes ".")
    (lacks_both 32 _ (decimal (a / 65536 % 256))
    (lacks_both 32 (decimal (a / 16777216)) (codes ".") (D _ (omega (arith, low))) (refl, tt)) (D _ (omega arith))) (refl, tt)) (D _ (omega arith))) (refl, tt)) (D _ (omega arith))) (refl, tt)) (D _ (omega (arith, port)))

-- the text of an endpoint tells it
pub endpoint_is : (e g : Endpoint) → IsEndpoint e → IsEndpoint g → endpoint_text e ≡ endpoint_text g → e ≡ g
endpoint_is e g h k same =
    let a = e.address in
    let b = g.address in
    let D = decimal in
    let low = h.0 in
    let other_low = k.0 in
    let port = h.1 in
    let other_port = k.1 in
    let joined = sym (endpoint_joined (D (a / 16777216)) (D (a / 65536 % 256)) (D (a / 256 % 256)) (D (a % 256)) (D e.port)) ∙ same
    ∙ endpoint_joined (D (b / 16777216)) (D (b / 65536 % 256)) (D (b / 256 % 256)) (D (b % 256)) (D g.port) in
    let small : (n : ℕ) → n < 256 → n < 2 ^ 64 = λ n l. omega (arith, l) in
    let one : a / 16777216 < 256 = omega (arith, low) in
    let other_one : b / 16777216 < 256 = omega (arith, other_low) in
    let byte : (n : ℕ) → n % 256 < 256 = λ n. omega arith in
    let first = split_same 46 (D (a / 16777216)) (D (b / 16777216)) _ _ (decimal_lacks 46 _ (omega arith) (small _ one)) (decimal_lacks 46 _ (omega arith) (small _ other_one)) joined in
    let second = split_same 46 (D (a / 65536 % 256)) (D (b / 65536 % 256)) _ _ (decimal_lacks 46 _ (omega arith) (small _ (byte _))) (decimal_lacks 46 _ (omega arith) (small _ (byte _))) first.1 in
    let third = split_same 46 (D (a / 256 % 256)) (D (b / 256 % 256)) _ _ (decimal_lacks 46 _ (omega arith) (small _ (byte _))) (decimal_lacks 46 _ (omega arith) (small _ (byte _))) second.1 in
    let fourth = split_same 58 (D (a % 256)) (D (b % 256)) _ _ (colon_lacks _ (decimal_digits _ (small _ (byte _)))) (colon_lacks _ (decimal_digits _ (small _ (byte _)))) third.1 in
    let w = decimal_injective _ _ (small _ one) (small _ other_one) first.0 in
    let x = decimal_injective _ _ (small _ (byte _)) (small _ (byte _)) second.0 in
    let y = decimal_injective _ _ (small _ (byte _)) (small _ (byte _)) third.0 in
    let z = decimal_injective _ _ (small _ (byte _)) (small _ (byte _)) fourth.0 in
    let address : a ≡ b = omega (arith, w, x, y, z) in
    let ports : e.port ≡ g.port = decimal_injective e.port g.port (omega (arith, port)) (omega (arith, other_port)) fourth.1 in
    ap (λ n. let r : Endpoint = record { address = n; port = e.port } in r) address ∙ ap (λ n. let r : Endpoint = record { address = g.address; port = n } in r) ports

-- ---- a line

name_far : (b : ℕ) → is_name_byte b ≡ true → (b == 32) ≡ false
name_far b h = ne_eqb b 32 (λ is. never (ap is_name_byte (sym is) ∙ h))
  where
    never : is_name_byte 32 ≡ true → ⊥
    never x = cc

name_lacks : (xs : List ℕ) → list_all is_name_byte xs ≡ true → Lacks 32 xs
name_lacks [] h = tt
name_lacks (x ∷ xs) h = let parts = and_parts (is_name_byte x) (list_all is_name_byte xs) h in (name_far x parts.0, name_lacks xs parts.1)

module _ (l : LineValue) (moment : IsMoment l.moment) (client : IsEndpoint l.client) (name : list_all is_name_byte l.asset ≡ true) where
  abbrev behind_moment : List ℕ
  behind_moment = endpoint_text l.client ++ 32 ∷ (l.asset ++ 32 ∷ (what_text l.what ++ 10 ∷ []))

  text_is : line_text l ≡ moment_text l.moment ++ 32 ∷ behind_moment
  text_is = line_joined (moment_text l.moment) (endpoint_text l.client) l.asset (what_text l.what)

  pub moment_is : moment_in (line_text l) ≡ l.moment
  moment_is = ap moment_in text_is ∙ ap (λ word. digits_value 10 (filter (λ octet. not (octet == 46)) word)) (word_is (moment_text l.moment) behind_moment (moment_lacks l.moment moment)) ∙ moment_value l.moment moment

  behind_is_text : behind_word (line_text l) ≡ behind_moment
  behind_is_text = ap behind_word text_is ∙ behind_is (moment_text l.moment) behind_moment (moment_lacks l.moment moment)

  second_is : first_word (behind_word (line_text l)) ≡ endpoint_text l.client
  second_is = ap first_word behind_is_text ∙ word_is (endpoint_text l.client) _ (endpoint_lacks l.client client)

  third_is : first_word (behind_word (behind_word (line_text l))) ≡ l.asset
  third_is =
      ap (λ line. first_word (behind_word line)) behind_is_text ∙ ap first_word (behind_is (endpoint_text l.client) _ (endpoint_lacks l.client client))
      ∙ word_is l.asset _ (name_lacks l.asset name)

  same_text : (other : Endpoint) → IsEndpoint other → bytes_eq (endpoint_text l.client) (endpoint_text other) ≡ same_endpoint l.client other
  same_text other h = by (same_endpoint l.client other) refl
    where
      by : (b : Bool) → same_endpoint l.client other ≡ b → bytes_eq (endpoint_text l.client) (endpoint_text other) ≡ b
      by true e = (bytes_eq-Decides (endpoint_text l.client) (endpoint_text other)).1 (ap endpoint_text (same_is l.client other e))
      by false e =
          false_from_ne_true _ (λ yes.
          let is = endpoint_is l.client other client h ((bytes_eq-Decides (endpoint_text l.client) (endpoint_text other)).0 yes) in
          true≢false (sym (ap (λ x. same_endpoint x other) is ∙ same_self other) ∙ e))

  pub names_is : (other : Endpoint) (names : List (List ℕ)) → IsEndpoint other →
      names_both other names (line_text l) ≡ (same_endpoint l.client other && list_any (λ name. bytes_eq l.asset name) names)
  names_is other names h =
      ap (λ word. bytes_eq word (endpoint_text other) && list_any (λ name. bytes_eq (first_word (behind_word (behind_word (line_text l)))) name) names) second_is
      ∙ ap (λ word. bytes_eq (endpoint_text l.client) (endpoint_text other) && list_any (λ name. bytes_eq word name) names) third_is
      ∙ ap (λ b. b && list_any (λ name. bytes_eq l.asset name) names) (same_text other h)
