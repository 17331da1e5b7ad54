-- The first maximum segment size, option by option.
use Rattle.std.proofs.Common.{◌≡◌, ℕ, ◌-◌, ◌≤◌, List, length, drop, Some, None, true, false, ◌∙◌, sym, refl, ap, arith, zero, suc}
use Rattle.std.proofs.lemmas.List.{length-drop}
use Rattle.cf_view.specs.Octets.{u16_be_at}
use Rattle.cf_packet.specs.Tcp.{option_length, is_mss, first_mss, mss_of}

-- the options whose first maximum segment size is that of the whole list, where at most so many are left
pub record IsLeft (rest options : List ℕ) : Type 0 where
  pub count : ℕ
  pub enough : length rest ≤ count
  pub value : mss_of options ≡ first_mss count rest

pub left_all : (options : List ℕ) → IsLeft options options
left_all options = record { count = length options; enough = omega arith; value = refl }

none_left : (n : ℕ) (rest : List ℕ) → option_length rest ≡ None → first_mss n rest ≡ None
none_left zero rest e = refl
none_left (suc n) rest e = rw (e, first_mss) refl

pub left_none : (rest options : List ℕ) → IsLeft rest options → option_length rest ≡ None → None ≡ mss_of options
left_none rest options l e = rw (l.value, none_left l.count rest e) refl

-- an option that is no maximum segment size is passed over
some_left : (n : ℕ) (rest : List ℕ) (size : ℕ) → option_length rest ≡ Some size → is_mss size rest ≡ false → first_mss (suc n) rest ≡ first_mss n (drop size rest)
some_left n rest size e f = rw (e, f, first_mss) refl

found_left : (n : ℕ) (rest : List ℕ) (size : ℕ) → option_length rest ≡ Some size → is_mss size rest ≡ true → first_mss (suc n) rest ≡ Some (u16_be_at rest 2)
found_left n rest size e f = rw (e, f, first_mss) refl

pub left_passed : (rest options : List ℕ) (size : ℕ) → IsLeft rest options → option_length rest ≡ Some size → is_mss size rest ≡ false → 1 ≤ size → size ≤ length rest → IsLeft (drop size rest) options
left_passed rest options size l e f g h =
    let more : l.count ≡ suc (l.count - 1) = omega arith in
    record {
      count = l.count - 1;
      enough = omega (arith, length-drop size rest);
      value = l.value ∙ ap (λ n. first_mss n rest) more ∙ some_left (l.count - 1) rest size e f;
    }

pub left_found : (rest options : List ℕ) (size : ℕ) → IsLeft rest options → option_length rest ≡ Some size → is_mss size rest ≡ true → 1 ≤ size → size ≤ length rest → Some (u16_be_at rest 2) ≡ mss_of options
left_found rest options size l e f g h =
    let more : l.count ≡ suc (l.count - 1) = omega arith in
    sym (l.value ∙ ap (λ n. first_mss n rest) more ∙ found_left (l.count - 1) rest size e f)

pub ruleset mss_laws = (left_all, left_none, left_passed, left_found)
