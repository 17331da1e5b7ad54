-- The letters that an event takes newly, in the history of a session.
use Rattle.std.proofs.Math.Bool.{or-false}
use Rattle.std.proofs.Common.{◌≡◌, ℕ, ◌==◌, ◌&&◌, ◌||◌, inl, inr, append_assoc, arith, Bool, true, false, List, [], ◌∷◌, ◌++◌, cond, refl, sym, ap, ◌∙◌}
use Rattle.std.proofs.lemmas.Bool.{cases_Bool}
use Rattle.std.proofs.lemmas.List.{append-nil, append_cancel_left}
use Rattle.std.proofs.lemmas.List.Folds.{list_any-append}
use Rattle.cf_lane.specs.History.{Element, bytes_in, bytes_of, ended_of, is_side, taken}
use Rattle.cf_lane.specs.Output.{other}
use Rattle.cf_leg.specs.Calls.{with_letters}
use Rattle.cf_stream.proofs.Taken.{same_stream}
use Rattle.cf_stream.specs.Stream.{Stream, letter_count}
use Rattle.cf_view.specs.declared.Side.{Side}
use Rattle.cf_view.specs.declared.Side.TheVariants as side
use Rattle.cf_session.specs.Work.{fed_at}

own_side : (s : Side) → is_side s s ≡ true
own_side side.Client = refl
own_side side.Controller = refl

pub bytes_of-append : (s : Side) (xs ys : List Element) → bytes_of s (xs ++ ys) ≡ bytes_of s xs ++ bytes_of s ys
bytes_of-append s [] ys = refl
bytes_of-append s (x ∷ xs) ys = ap (λ zs. bytes_in s x ++ zs) (bytes_of-append s xs ys) ∙ sym (append_assoc (bytes_in s x) (bytes_of s xs) (bytes_of s ys))

pub some_letters : (b : ℕ) (bytes : List ℕ) (ended : Bool) → (letter_count (record { bytes = b ∷ bytes; ended = ended }) == 0) ≡ false
some_letters b bytes ended = grind arith

-- what letters add to what was taken of their side
pub fed_bytes : (now : ℕ) (s : Side) (bytes : List ℕ) (ended : Bool) → bytes_of s (fed_at now s (record { bytes = bytes; ended = ended })) ≡ bytes
fed_bytes now s [] true = rw (own_side s) refl
fed_bytes now s [] false = refl
fed_bytes now s (b ∷ bytes) ended =
    rw (some_letters b bytes ended, own_side s) (append-nil (b ∷ bytes))

pub fed_ended : (now : ℕ) (s : Side) (bytes : List ℕ) (ended : Bool) → ended_of s (fed_at now s (record { bytes = bytes; ended = ended })) ≡ ended
fed_ended now s [] true = rw (own_side s) refl
fed_ended now s [] false = refl
fed_ended now s (b ∷ bytes) ended =
    rw (some_letters b bytes ended, own_side s) (or-false ended)

module _ (now : ℕ) (s : Side) (earlier : List Element) (l m : Stream) where
  letters_fixed : ended_of s earlier ≡ false → taken s (earlier ++ fed_at now s l) ≡ taken s (earlier ++ fed_at now s m) → fed_at now s l ≡ fed_at now s m
  letters_fixed going same =
      let bytes : bytes_of s earlier ++ l.bytes ≡ bytes_of s earlier ++ m.bytes =
      ap (λ xs. bytes_of s earlier ++ xs) (sym (fed_bytes now s l.bytes l.ended)) ∙ sym (bytes_of-append s earlier (fed_at now s l)) ∙ ap (λ (t : Stream). t.bytes) same
      ∙ bytes_of-append s earlier (fed_at now s m) ∙ ap (λ xs. bytes_of s earlier ++ xs) (fed_bytes now s m.bytes m.ended) in
      let P : Element → Bool = λ e. is_side s e.side && e.letters.ended in
      let split : (x : List Element) → ended_of s (earlier ++ x) ≡ ended_of s x = λ x. list_any-append P earlier x ∙ ap (λ b. b || ended_of s x) going in
      let ended : l.ended ≡ m.ended =
      sym (split (fed_at now s l) ∙ fed_ended now s l.bytes l.ended) ∙ ap (λ (t : Stream). t.ended) same ∙ split (fed_at now s m) ∙ fed_ended now s m.bytes m.ended in
      rw (append_cancel_left (bytes_of s earlier) l.bytes m.bytes bytes, ended) refl

pub fed_fixed : (now : ℕ) (s : Side) (earlier x y : List Element) (l m : Stream) → x ≡ fed_at now s l → y ≡ fed_at now s m → (ended_of s earlier ≡ true → x ≡ []) → (ended_of s earlier ≡ true → y ≡ []) →
    taken s (earlier ++ x) ≡ taken s (earlier ++ y) → x ≡ y
fed_fixed now s earlier x y l m p q a b same =
    elim (cases_Bool (ended_of s earlier)) [
      | inl e ↦ a e ∙ sym (b e)
      | inr e ↦ p ∙ letters_fixed now s earlier l m e (ap (λ z. taken s (earlier ++ z)) (sym p) ∙ same ∙ ap (λ z. taken s (earlier ++ z)) q) ∙ sym q
    ]

choose_true : (a b : Bool) → (a || b) ≡ cond b true a
choose_true true true = refl
choose_true true false = refl
choose_true false true = refl
choose_true false false = refl

-- what was taken of a side, with the letters that were fed
pub taken_more : (now : ℕ) (s : Side) (h : List Element) (l : Stream) → taken s (h ++ fed_at now s l) ≡ with_letters (taken s h) l
taken_more now s h l =
    let P : Element → Bool = λ e. is_side s e.side && e.letters.ended in
    same_stream (taken s (h ++ fed_at now s l)) (with_letters (taken s h) l)
    (bytes_of-append s h (fed_at now s l) ∙ ap (λ xs. bytes_of s h ++ xs) (fed_bytes now s l.bytes l.ended))
    (list_any-append P h (fed_at now s l) ∙ ap (λ b. ended_of s h || b) (fed_ended now s l.bytes l.ended) ∙ choose_true (ended_of s h) l.ended)

-- letters of a side add nothing to what was taken of the other
pub other_bytes : (now : ℕ) (s : Side) (l : Stream) → bytes_of (other s) (fed_at now s l) ≡ []
other_bytes now side.Client l = elim (letter_count l == 0) as (λ b. bytes_of side.Controller (cond b [] (record { moment = now; side = side.Client; letters = l } ∷ [])) ≡ []) [ true ↦ refl | false ↦ refl ]
other_bytes now side.Controller l = elim (letter_count l == 0) as (λ b. bytes_of side.Client (cond b [] (record { moment = now; side = side.Controller; letters = l } ∷ [])) ≡ []) [ true ↦ refl | false ↦ refl ]

other_ended : (now : ℕ) (s : Side) (l : Stream) → ended_of (other s) (fed_at now s l) ≡ false
other_ended now side.Client l = elim (letter_count l == 0) as (λ b. ended_of side.Controller (cond b [] (record { moment = now; side = side.Client; letters = l } ∷ [])) ≡ false) [ true ↦ refl | false ↦ refl ]
other_ended now side.Controller l = elim (letter_count l == 0) as (λ b. ended_of side.Client (cond b [] (record { moment = now; side = side.Controller; letters = l } ∷ [])) ≡ false) [ true ↦ refl | false ↦ refl ]

pub taken_other : (now : ℕ) (s : Side) (h : List Element) (l : Stream) → taken (other s) (h ++ fed_at now s l) ≡ taken (other s) h
taken_other now s h l =
    let P : Element → Bool = λ e. is_side (other s) e.side && e.letters.ended in
    same_stream (taken (other s) (h ++ fed_at now s l)) (taken (other s) h)
    (bytes_of-append (other s) h (fed_at now s l) ∙ ap (λ xs. bytes_of (other s) h ++ xs) (other_bytes now s l) ∙ append-nil (bytes_of (other s) h))
    (list_any-append P h (fed_at now s l) ∙ ap (λ b. ended_of (other s) h || b) (other_ended now s l) ∙ or-false (ended_of (other s) h))

pub nothing_fed : (now : ℕ) (s : Side) (l : Stream) → letter_count l ≡ 0 → fed_at now s l ≡ []
nothing_fed now s l e = rw e refl
