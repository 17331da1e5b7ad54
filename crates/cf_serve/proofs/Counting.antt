-- How many sessions of a table are of a listening place.
use Rattle.std.proofs.Common.{List, ap, map, refl, ℕ, ◌+◌, ◌∙◌, ◌∷◌, ◌≡◌, sym, if◌then◌else◌, []}
use Rattle.std.specs.Prelude.{◌==◌}
use Rattle.std.specs.List.{sum_by}
use Rattle.std.proofs.lemmas.List.Sums.{sum_by-cons}
use Rattle.cf_serve.specs.Phase.{phase_of}
use Rattle.cf_serve.specs.Rounds.{count_of, is_of}
use Rattle.cf_serve.specs.Table.{seats_of}
use Rattle.cf_serve.specs.declared.session.Served.{Served}

abbrev pub served_is_of : (place : ℕ) → Served → ℕ
served_is_of place served = if served.place == place then 1 else 0

pub count_is : (place : ℕ) (xs : List Served) → sum_by (served_is_of place) xs ≡ count_of place (seats_of (map phase_of xs))
count_is place [] = refl
count_is place (x ∷ xs) =
    sum_by-cons (served_is_of place) x xs ∙ ap (λ n. served_is_of place x + n) (count_is place xs)
    ∙ sym (sum_by-cons (is_of place) (phase_of x).seat (seats_of (map phase_of xs)))
