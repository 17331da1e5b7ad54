-- Lines that were added to a log, and to a part of it that stands by itself.
use Rattle.std.proofs.Common.{List, None, Option, Some, ap, append_assoc, refl, subst, sym, ℕ, ◌++◌, ◌∙◌, ◌≡◌, []}
use Rattle.std.specs.Prelude.{option_map}
use Rattle.std.proofs.lemmas.List.{append-nil}
use Rattle.cf_lane.specs.Log.{with_lines}
use Rattle.cf_relay.specs.Stands.{Apart}

-- no more of what was told, or of a log, and more of it twice
pub more_none : {A : Type 0} (told : Option (List A)) → told ≡ option_map (λ es. es ++ []) told
more_none None = refl
more_none (Some es) = ap Some (sym (append-nil es))

pub more_both : {A : Type 0} (told : Option (List A)) (xs ys : List A) →
    option_map (λ es. es ++ ys) (option_map (λ es. es ++ xs) told) ≡ option_map (λ es. es ++ (xs ++ ys)) told
more_both None xs ys = refl
more_both (Some es) xs ys = ap Some (append_assoc es xs ys)

pub lines_none : (log : Option (List (List ℕ))) → log ≡ with_lines log []
lines_none = more_none

pub lines_both : (log : Option (List (List ℕ))) (xs ys : List (List ℕ)) → with_lines (with_lines log xs) ys ≡ with_lines log (xs ++ ys)
lines_both = more_both

-- lines of one's own that are the whole log
pub apart_whole : (old new : Option (List (List ℕ))) (A : Option (List (List ℕ)) → Type 0) → Apart old old new A → A new
apart_whole old new A a = subst A (sym a.added) a.stands

-- nothing was added
pub apart_none : (own old new : Option (List (List ℕ))) (A : Option (List (List ℕ)) → Type 0) → new ≡ old → A own → Apart own old new A
apart_none own old new A same a = record { more = []; added = same ∙ lines_none old; stands = subst A (lines_none own) a }

-- lines were added before
pub apart_more : (own old mid new : Option (List (List ℕ))) (A : Option (List (List ℕ)) → Type 0) (xs : List (List ℕ)) → mid ≡ with_lines old xs → Apart (with_lines own xs) mid new A → Apart own old new A
apart_more own old mid new A xs e a = record {
  more = xs ++ a.more;
  added = a.added ∙ ap (λ log. with_lines log a.more) e ∙ lines_both old xs a.more;
  stands = subst A (lines_both own xs a.more) a.stands;
}
