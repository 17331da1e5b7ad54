-- Flows whose packets carry the letters of one stream.
use Rattle.std.proofs.Common.{◌≡◌, ◌==◌, ◌&&◌, if◌then◌else◌, ◌<◌, ◌≤◌, ◌∙◌, ◌++◌, ℕ, List, [], ◌∷◌, Bool, true, false, Option, None, Some, length, take, drop, get_or, nat_lt, unwrap_or, refl, sym, ap, inl, inr, arith}
use Rattle.std.specs.List.{AllByRecursion}
use Rattle.std.specs.Option.{option_or}
use Rattle.std.proofs.lemmas.Bool.{cases_lt, true≢false}
use Rattle.std.proofs.lemmas.Bool.Decides.{nat_tests}
use Rattle.std.proofs.lemmas.List.{get_or-take, get_or_default, length-take-le, same_lists, take-append-drop}
use Rattle.std.proofs.lemmas.Option.{none-some}
use Rattle.cf_stream.specs.Stream.{Byte, Carries, End, Letter, Stream, letter_at}
use Rattle.cf_watch.specs.Carried.{Carried, HasBytes, HasConflict, copy_of, letter_of}
use Rattle.cf_watch.specs.OneStream.{SeesOneStream}
use Rattle.cf_watch.proofs.Standing.{offered_all}

abbrev byte_of : Letter → ℕ
byte_of (Byte b) = b
byte_of End = 0

abbrev is_end : Letter → Bool
is_end (Byte b) = false
is_end End = true

no_byte : (here : Bool) (b : ℕ) → (if here then Some End else None) ≡ Some (Byte b) → ⊥
no_byte true b e = true≢false (ap (λ o. is_end (unwrap_or o End)) e)
no_byte false b e = none-some (Byte b) e

module _ (whole : Stream) where
  abbrev CarryAll : List Carried → Type 0
  CarryAll carried = AllByRecursion (λ c. Carries whole c.at c.text) carried

  copy_by : (o m : Option Letter) (p : ℕ) (l : Letter) → ((k : Letter) → o ≡ Some k → letter_at whole p ≡ Some k) → ((k : Letter) → m ≡ Some k → letter_at whole p ≡ Some k) →
      option_or o m ≡ Some l → letter_at whole p ≡ Some l
  copy_by None m p l f g e = g l e
  copy_by (Some k) m p l f g e = f l e

  -- copies are the stream's letters
  copies : (carried : List Carried) → CarryAll carried → (p : ℕ) (l : Letter) → copy_of carried p ≡ Some l → letter_at whole p ≡ Some l
  copies [] h p l e = absurd (none-some l e)
  copies (c ∷ earlier) h p l e =
      copy_by (copy_of earlier p) (letter_of c p) p l (copies earlier h.1 p) (λ k x. h.0 p k x) (ap (option_or (copy_of earlier p)) (sym (offered_all c p)) ∙ e)

  never : (carried : List Carried) → CarryAll carried → HasConflict carried None
  never [] h = refl
  never (c ∷ earlier) h = (
    None,
    never earlier h.1,
    λ p d.
        let was = copies earlier h.1 p d.first d.was in
        let is = h.0 p d.other d.is in
        d.differ (ap (λ o. unwrap_or o d.other) (sym is ∙ was)),
  )

  byte_inside : (p b : ℕ) → letter_at whole p ≡ Some (Byte b) → (p < length whole.bytes) × (get_or whole.bytes p 0 ≡ b)
  byte_inside p b e =
      elim (cases_lt p (length whole.bytes)) [
        | inl v ↦
            let l : nat_lt p (length whole.bytes) ≡ true = grind (arith, nat_tests, v) in
            (v, ap (λ o. byte_of (unwrap_or o End)) (rw l at e))
        | inr v ↦
            let l : nat_lt p (length whole.bytes) ≡ false = grind (arith, nat_tests, v) in
            absurd (no_byte ((p == length whole.bytes) && whole.ended) b (rw l at e))
      ]

  front : (carried : List Carried) → CarryAll carried → (bytes : List ℕ) → HasBytes carried bytes → (more : List ℕ) × (whole.bytes ≡ bytes ++ more)
  front carried h bytes has =
      let at : (p : ℕ) → p < length bytes → (p < length whole.bytes) × (get_or whole.bytes p 0 ≡ get_or bytes p 0) =
      λ p l. byte_inside p (get_or bytes p 0) (copies carried h p (Byte (get_or bytes p 0)) (has.1.bytes p l)) in
      let inside : length bytes ≤ length whole.bytes = elim (cases_lt (length whole.bytes) (length bytes)) [
        | inl v ↦ (let x = at (length whole.bytes) v in omega (arith, x.0))
        | inr v ↦ v
      ] in
      let size = length-take-le (length bytes) whole.bytes inside in
      let same : take (length bytes) whole.bytes ≡ bytes = same_lists (take (length bytes) whole.bytes) bytes size (λ k d l.
      let below : k < length bytes = omega (arith, size, l) in
      let x = at k below in
      get_or-take (length bytes) whole.bytes k d below ∙ get_or_default whole.bytes k d 0 x.0 ∙ x.1 ∙ get_or_default bytes k 0 d below) in
      (drop (length bytes) whole.bytes, sym (ap (λ xs. xs ++ drop (length bytes) whole.bytes) (sym same) ∙ take-append-drop (length bytes) whole.bytes))

  pub sees_one : (carried : List Carried) → CarryAll carried → SeesOneStream whole carried
  sees_one carried h = record { no_conflict = never carried h; bytes = front carried h }
