-- One pair, as the links of the session 0.
use Rattle.std.proofs.Common.{List, None, Option, Some, ap, map, refl, subst, sym, true, ℕ, ◌++◌, ◌∙◌, ◌∷◌, ◌≡◌, []}
use Rattle.std.specs.Prelude.{option_map, ◌==◌}
use Rattle.std.proofs.lemmas.Bool.{eqb-true}
use Rattle.std.proofs.lemmas.List.{map-append}
use Rattle.std.proofs.lemmas.Option.{same_Some}
use Rattle.cf_links.specs.Links.{LinksEntry, Of, SessionTold, with_answers, with_entry}
use Rattle.cf_outside.specs.Pair.{Entry, met_at, with_entry as with_pair}
use Rattle.cf_policy.specs.declared.Asset.{Asset}
use Rattle.cf_view.specs.declared.Endpoint.{Endpoint}
use Rattle.cf_relay.proofs.Lined.{more_both, more_none}
use Rattle.cf_relay.specs.Answers.{with_answers as with_all}
use Rattle.cf_relay.specs.Only.{only_told}

only_list : (list list' : Option (List Entry)) (e : Entry) → list' ≡ with_pair list e →
    only_told list' ≡ option_map (λ es. es ++ Of 0 e ∷ []) (only_told list)
only_list None list' e is = ap only_told is
only_list (Some es) list' e is = ap only_told is ∙ ap Some (map-append (Of 0) es (e ∷ []))

abbrev shown : ℕ → Option (List LinksEntry) → SessionTold
shown k list = record { session = k; list = list }

-- what the pair tells is what the session adds
pub only_entry : (session : ℕ) (list list' : Option (List Entry)) (e : Entry) → (session == 0) ≡ true → list' ≡ with_pair list e →
    shown session (only_told list') ≡ with_entry (shown session (only_told list)) e
only_entry session list list' e zero is =
    subst (λ k. shown k (only_told list') ≡ with_entry (shown k (only_told list)) e) (sym (eqb-true session 0 zero))
    (ap (shown 0) (only_list list list' e is))

pub only_same : (session : ℕ) (list list' : Option (List Entry)) → list' ≡ list → shown session (only_told list') ≡ shown session (only_told list)
only_same session list list' is = ap (λ l. shown session (only_told l)) is

-- ---- and back: the entries of the one session are the answers

same_answers : (a b : List Entry) → map (Of 0) a ≡ map (Of 0) b → a ≡ b
same_answers [] [] e = refl
same_answers [] (y ∷ b) e = cc
same_answers (x ∷ a) [] e = cc
same_answers (x ∷ a) (y ∷ b) e = let tail : map (Of 0) a ≡ map (Of 0) b = cc in let rest = same_answers a b tail in cc

back_list : (told told' : Option (List Entry)) (answers : List Entry) → only_told told' ≡ option_map (λ es. es ++ map (Of 0) answers) (only_told told) →
    told' ≡ with_all told answers
back_list None None answers e = refl
back_list None (Some es') answers e = cc
back_list (Some es) None answers e = cc
back_list (Some es) (Some es') answers e = ap Some (same_answers es' (es ++ answers) (same_Some _ _ e ∙ sym (map-append (Of 0) es answers)))

pub told_back : (told told' : Option (List Entry)) (answers : List Entry) → shown 0 (only_told told') ≡ with_answers (shown 0 (only_told told)) answers →
    told' ≡ with_all told answers
told_back told told' answers e = back_list told told' answers (ap (λ (t : SessionTold). t.list) e)

-- ---- answers of a pair that are added

pub all_none : (told : Option (List Entry)) → told ≡ with_all told []
all_none = more_none

pub told_two : (told a b c : Option (List Entry)) (e f : Entry) (xs : List Entry) → a ≡ with_pair told e → b ≡ with_pair a f → c ≡ with_all b xs → c ≡ with_all told (e ∷ f ∷ xs)
told_two told a b c e f xs p q r = simp (r, q, p, more_both)

-- what holds of the pair that was lent last holds of the pair once the loan ends
pub at_pair : {P : Type 0} (x now : P) (A : P → Type 0) → x ≡ now → A now → A x
at_pair x now A same a = subst A (sym same) a

-- the controller that a client is met beside is that of the first asset
pub met_first : (told told' : Option (List Entry)) (listen : ℕ) (one first : Asset) (client : Endpoint) → one ≡ first → told' ≡ with_pair told (met_at listen one.endpoint client) →
    told' ≡ with_pair told (met_at listen first.endpoint client)
met_first told told' listen one first client same met = subst (λ (a : Asset). told' ≡ with_pair told (met_at listen a.endpoint client)) same met
