-- What was taken of a side in a history with elements after it.
use Rattle.std.proofs.Common.{List, ap, arith, cond, false, length, refl, sym, ℕ, ◌++◌, ◌+◌, ◌∙◌, ◌∷◌, ◌≡◌, ◌||◌, []}
use Rattle.std.proofs.Math.Bool.{or-false}
use Rattle.std.proofs.lemmas.List.{append-nil, append_assoc, length-append}
use Rattle.std.proofs.lemmas.List.Folds.{list_any-append}
use Rattle.cf_lane.specs.History.{Element, bytes_in, bytes_of, ended_of, taken}
use Rattle.cf_stream.specs.Stream.{letter_count}
use Rattle.cf_view.specs.declared.Side.{Side}

pub bytes_of-append : (s : Side) (h es : List Element) → bytes_of s (h ++ es) ≡ bytes_of s h ++ bytes_of s es
bytes_of-append s [] es = refl
bytes_of-append s (x ∷ h) es = ap (λ xs. bytes_in s x ++ xs) (bytes_of-append s h es) ∙ sym (append_assoc (bytes_in s x) (bytes_of s h) (bytes_of s es))

pub ended_of-append : (s : Side) (h es : List Element) → ended_of s (h ++ es) ≡ (ended_of s h || ended_of s es)
ended_of-append s h es = list_any-append _ h es

-- the letters of a side that had not ended
pub letters_more : (s : Side) (h es : List Element) → ended_of s h ≡ false → letter_count (taken s (h ++ es)) ≡ letter_count (taken s h) + letter_count (taken s es)
letters_more s h es going =
    let ended : ended_of s (h ++ es) ≡ ended_of s es = ended_of-append s h es ∙ ap (λ b. b || ended_of s es) going in
    omega (arith, ap length (bytes_of-append s h es), length-append (bytes_of s h) (bytes_of s es), ap {B = ℕ} (λ b. cond b 1 0) ended, ap {B = ℕ} (λ b. cond b 1 0) going)

-- those of a side of which nothing came
pub letters_still : (s : Side) (h es : List Element) → bytes_of s es ≡ [] → ended_of s es ≡ false → letter_count (taken s (h ++ es)) ≡ letter_count (taken s h)
letters_still s h es none going =
    let bytes : bytes_of s (h ++ es) ≡ bytes_of s h = bytes_of-append s h es ∙ ap (λ xs. bytes_of s h ++ xs) none ∙ append-nil (bytes_of s h) in
    let ended : ended_of s (h ++ es) ≡ ended_of s h = ended_of-append s h es ∙ ap (λ b. ended_of s h || b) going ∙ or-false (ended_of s h) in
    omega (arith, ap length bytes, ap {B = ℕ} (λ b. cond b 1 0) ended)
