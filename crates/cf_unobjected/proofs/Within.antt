-- What comes with one of the first records, of options that say with which record they come.
use Rattle.std.proofs.Common.{◌≡◌, ◌<◌, ◌≤◌, ℕ, true, false, if◌then◌else◌, nat_le, nat_lt, Option, None, Some, option_map, refl, sym, arith, inl, inr}
use Rattle.cf_unobjected.proofs.Common.{cases_lt, nat_tests}

module _ {A : Type 0} (number : A → ℕ) (n : ℕ) where
  abbrev pub kept : Option A → Option A
  kept None = None
  kept (Some x) = if nat_le (number x) n then Some x else None

  pub kept_low : (x : A) → number x ≤ n → kept (Some x) ≡ Some x
  kept_low x h = let low : nat_le (number x) n ≡ true = grind (arith, nat_tests, h) in rw low refl

  pub kept_high : (x : A) → n < number x → kept (Some x) ≡ None
  kept_high x h = let high : nat_le (number x) n ≡ false = grind (arith, nat_tests, h) in rw high refl

  -- the one that comes sooner, and of two that come together the first
  abbrev pub first_of : Option A → Option A → Option A
  first_of None b = b
  first_of (Some x) None = Some x
  first_of (Some x) (Some y) = if nat_lt (number y) (number x) then Some y else Some x

  none_behind : (o : Option A) → first_of o None ≡ o
  none_behind None = refl
  none_behind (Some x) = refl

  pub kept_first : (a b : Option A) → kept (first_of a b) ≡ first_of (kept a) (kept b)
  kept_first None b = refl
  kept_first (Some x) None = sym (none_behind (kept (Some x)))
  kept_first (Some x) (Some y) =
      elim (cases_lt (number y) (number x)) [
        | inl sooner ↦
            (let is : nat_lt (number y) (number x) ≡ true = grind (arith, nat_tests, sooner) in
            elim (cases_lt n (number x)) [
              | inl high ↦ rw (is, kept_high x high) refl
              | inr low ↦ rw (is, kept_low x low, kept_low y (omega (arith, low, sooner)), is) refl
            ])
        | inr later ↦
            (let is : nat_lt (number y) (number x) ≡ false = grind (arith, nat_tests, later) in
            elim (cases_lt n (number y)) [
              | inl high ↦ rw (is, kept_high y high) (sym (none_behind (kept (Some x))))
              | inr low ↦ rw (is, kept_low x (omega (arith, low, later)), kept_low y low, is) refl
            ])
      ]

-- where another thing is made of each that comes with the same record
pub kept_map : {A B : Type 0} (number : A → ℕ) (of : B → ℕ) (n : ℕ) (f : A → B) → ((x : A) → of (f x) ≡ number x) → (o : Option A) → kept of n (option_map f o) ≡ option_map f (kept number n o)
kept_map number of n f same None = refl
kept_map number of n f same (Some x) =
    elim (cases_lt n (number x)) [
      | inl high ↦ rw (kept_high number n x high) (kept_high of n (f x) (rw (same x) high))
      | inr low ↦ rw (kept_low number n x low) (kept_low of n (f x) (rw (same x) low))
    ]
