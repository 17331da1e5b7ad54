-- The least number below a bound that passes a test is the first that is found from below.
use Rattle.std.proofs.Common.{◌≡◌, ◌∙◌, ℕ, zero, suc, ◌+◌, ◌-◌, ◌<◌, Bool, true, false, if◌then◌else◌, List, Some, None, ap, refl, arith}
use Rattle.std.specs.Option.{option_or}
use Rattle.cf_policy.specs.declared.policy.Protocol.{Protocol}
use Rattle.cf_policy.specs.declared.policy.Protocol.TheVariants.{Modbus, Dnp3, Iec104}
use Rattle.cf_policylang.specs.Names.{code_named, is_called, least_below}

module _ (passes : ℕ → Bool) where
  none_more : (n : ℕ) → least_below n passes ≡ None → passes n ≡ false → least_below (n + 1) passes ≡ None
  none_more n none fails = let next : n + 1 ≡ suc n = omega arith in rw (next, none, fails) refl

  stays : (n m k : ℕ) → least_below n passes ≡ Some k → least_below (m + n) passes ≡ Some k
  stays n zero k found = let same : 0 + n ≡ n = omega arith in ap (λ b. least_below b passes) same ∙ found
  stays n (suc m) k found =
      let next : suc m + n ≡ suc (m + n) = omega arith in
      ap (λ b. least_below b passes) next ∙ ap (λ o. option_or o (if passes (m + n) then Some (m + n) else None)) (stays n m k found)

  found_at : (n : ℕ) → least_below n passes ≡ None → passes n ≡ true → least_below (suc n) passes ≡ Some n
  found_at n none passed = rw (none, passed) refl

  found_below : (n : ℕ) → n < 256 → least_below n passes ≡ None → passes n ≡ true → least_below 256 passes ≡ Some n
  found_below n inside none passed =
      let whole : 256 ≡ (255 - n) + suc n = omega arith in
      ap (λ k. least_below k passes) whole ∙ stays (suc n) (255 - n) n (found_at n none passed)

-- no code below n has the name
abbrev pub IsUncalled : Protocol → List ℕ → ℕ → Type 0
IsUncalled protocol text n = least_below n (λ code. is_called protocol code text) ≡ None

pub not_this : (protocol : Protocol) (text : List ℕ) (n : ℕ) → IsUncalled protocol text n → is_called protocol n text ≡ false
    → IsUncalled protocol text (n + 1)
not_this protocol text n none other = none_more (λ code. is_called protocol code text) n none other

pub this_one : (protocol : Protocol) (text : List ℕ) (n : ℕ) → n < 256 → IsUncalled protocol text n → is_called protocol n text ≡ true
    → code_named protocol text ≡ Some n
this_one Modbus text n inside none same = found_below (λ code. is_called Modbus code text) n inside none same
this_one Dnp3 text n inside none same = found_below (λ code. is_called Dnp3 code text) n inside none same
this_one Iec104 text n inside none same = found_below (λ code. is_called Iec104 code text) n inside none same

pub no_code : (protocol : Protocol) (text : List ℕ) → IsUncalled protocol text 256 → code_named protocol text ≡ None
no_code Modbus text none = none
no_code Dnp3 text none = none
no_code Iec104 text none = none
