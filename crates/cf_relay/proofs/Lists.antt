-- What a list of answers says of two lists one after the other.
use Rattle.std.proofs.Common.{List, ap, arith, false, length, refl, subst, sym, ℕ, ◌++◌, ◌≤◌, ◌∙◌, ◌∷◌, ◌≡◌, ◌||◌, []}
use Rattle.std.specs.List.{flat_map, list_any}
use Rattle.std.proofs.lemmas.List.{append-nil, append_assoc}
use Rattle.std.proofs.lemmas.Grind.{flat_map-append}
use Rattle.std.proofs.lemmas.List.Folds.{list_any-append}
use Rattle.cf_lane.specs.History.{bytes_at, bytes_of, end_at, ended_of, taken}
use Rattle.cf_lane.specs.Output.{other}
use Rattle.cf_outside.specs.Pair.{Ended, Entry, Finished, Got, Idle, Met, Moment, Took}
use Rattle.cf_stream.specs.Stream.{letter_count}
use Rattle.cf_view.specs.declared.Side.{Side}
use Rattle.cf_view.specs.declared.Side.TheVariants as side
use Rattle.cf_relay.specs.Answers.{closes, element_of, given_in, history_after, met_in, moment_of, moments, told_in}
use Rattle.cf_relay.specs.Turn.{IsTakeAnswer}

pub history_more : (a xs ys : List Entry) → history_after a (xs ++ ys) ≡ history_after a xs ++ history_after (a ++ xs) ys
history_more a [] ys = ap (λ zs. history_after zs ys) (sym (append-nil a))
history_more a (x ∷ xs) ys =
    ap (λ h. element_of (moment_of a) x ++ h) (history_more (a ++ x ∷ []) xs ys ∙ ap (λ zs. history_after (a ++ x ∷ []) xs ++ history_after zs ys) (append_assoc a (x ∷ []) xs))
    ∙ sym (append_assoc (element_of (moment_of a) x) (history_after (a ++ x ∷ []) xs) (history_after (a ++ x ∷ xs) ys))

pub met_more : (xs ys : List Entry) → flat_map met_in (xs ++ ys) ≡ flat_map met_in xs ++ flat_map met_in ys
met_more = flat_map-append met_in

pub told_more : (xs ys : List Entry) → moments (xs ++ ys) ≡ moments xs ++ moments ys
told_more = flat_map-append told_in

pub closes_more : (t : Side) (xs ys : List Entry) → list_any (closes t) (xs ++ ys) ≡ (list_any (closes t) xs || list_any (closes t) ys)
closes_more t xs ys = list_any-append (closes t) xs ys

-- ---- what an answer to a side that was asked says

-- it is one of three
pub by_answer : (s : Side) (P : Entry → Type 0) → ((bytes : List ℕ) → 1 ≤ length bytes → P (Got s bytes)) → P (Ended s) → P (Idle s) →
    (e : Entry) → IsTakeAnswer s e → P e
by_answer s P got ended idle (Met c) is = absurd is
by_answer s P got ended idle (Moment m) is = absurd is
by_answer s P got ended idle (Got of bytes) is = subst (λ o. P (Got o bytes)) (sym is.0) (got bytes is.1)
by_answer s P got ended idle (Took of bytes) is = absurd is
by_answer s P got ended idle (Ended of) is = subst (λ o. P (Ended o)) (sym is) ended
by_answer s P got ended idle (Idle of) is = subst (λ o. P (Idle o)) (sym is) idle
by_answer s P got ended idle (Finished of) is = absurd is

pub gives_none : (s t : Side) (e : Entry) → IsTakeAnswer s e → given_in t e ≡ []
gives_none s t = by_answer s (λ e. given_in t e ≡ []) (λ bytes some. refl) refl refl

pub meets_none : (s : Side) (e : Entry) → IsTakeAnswer s e → met_in e ≡ []
meets_none s = by_answer s (λ e. met_in e ≡ []) (λ bytes some. refl) refl refl

pub tells_none : (s : Side) (e : Entry) → IsTakeAnswer s e → told_in e ≡ []
tells_none s = by_answer s (λ e. told_in e ≡ []) (λ bytes some. refl) refl refl

pub closes_none : (s t : Side) (e : Entry) → IsTakeAnswer s e → closes t e ≡ false
closes_none s t = by_answer s (λ e. closes t e ≡ false) (λ bytes some. refl) refl refl

-- ---- the letters that it brings

-- those of the side that was asked
pub own_bytes : (m : ℕ) (s : Side) (bytes : List ℕ) → letter_count (taken s (bytes_at m s bytes ∷ [])) ≡ length bytes
own_bytes m side.Client bytes = omega (arith, ap length (append-nil bytes))
own_bytes m side.Controller bytes = omega (arith, ap length (append-nil bytes))

pub own_end : (m : ℕ) (s : Side) → letter_count (taken s (end_at m s ∷ [])) ≡ 1
own_end m side.Client = refl
own_end m side.Controller = refl

-- none of the other side
pub other_bytes : (m : ℕ) (s : Side) (e : Entry) → IsTakeAnswer s e → bytes_of (other s) (element_of m e) ≡ []
other_bytes m side.Client = by_answer side.Client (λ e. bytes_of side.Controller (element_of m e) ≡ []) (λ bytes some. refl) refl refl
other_bytes m side.Controller = by_answer side.Controller (λ e. bytes_of side.Client (element_of m e) ≡ []) (λ bytes some. refl) refl refl

pub other_end : (m : ℕ) (s : Side) (e : Entry) → IsTakeAnswer s e → ended_of (other s) (element_of m e) ≡ false
other_end m side.Client = by_answer side.Client (λ e. ended_of side.Controller (element_of m e) ≡ false) (λ bytes some. refl) refl refl
other_end m side.Controller = by_answer side.Controller (λ e. ended_of side.Client (element_of m e) ≡ false) (λ bytes some. refl) refl refl
