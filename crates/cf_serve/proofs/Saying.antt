-- The lines of the listening places, one after the other.
use Rattle.std.proofs.Common.{List, Option, Some, ap, arith, length, refl, sym, ℕ, ◌++◌, ◌+◌, ◌∙◌, ◌∷◌, ◌≡◌, []}
use Rattle.std.specs.Prelude.{slice_get}
use Rattle.std.proofs.lemmas.List.{append-nil, append_assoc, length-append}
use Rattle.std.proofs.lemmas.Option.{same_Some}
use Rattle.cf_audit.specs.Line.{Stands}
use Rattle.cf_lane.specs.Handled.{MayHaveMore}
use Rattle.cf_lane.specs.Log.{line_about, with_lines}
use Rattle.cf_relay.proofs.Lined.{lines_both, lines_none}
use Rattle.cf_serve.proofs.Missing.{begins_line}
use Rattle.cf_serve.specs.Failing.{MissesLine}
use Rattle.cf_serve.specs.Minute.{stands_line, stands_lines}
use Rattle.cf_serve.specs.Rounds.{Seat, count_of}
use Rattle.cf_serve.specs.declared.minute.Tally.{Tally}
use Rattle.cf_serve.specs.declared.table.Place.{Place}

-- a line by numbers that are those of the place
pub said_as : (p : Place) (n n' : ℕ) (t t' : Tally) (moment : ℕ) → n ≡ n' → t ≡ t' → line_about p.site.first p.at moment (Stands n t.admitted t.refused) ≡ stands_line p n' t' moment
said_as p n n' t t' moment e f =
    ap (λ k. line_about p.site.first p.at moment (Stands k t.admitted t.refused)) e ∙ ap (λ (x : Tally). line_about p.site.first p.at moment (Stands n' x.admitted x.refused)) f

-- a place by its number, and the places behind it
rest_at : (done rest : List Place) (p : Place) → slice_get (done ++ rest) (length done) ≡ Some p → (more : List Place) × (rest ≡ p ∷ more)
rest_at [] [] p is = cc
rest_at [] (q ∷ rest) p is = (rest, ap (λ x. x ∷ rest) (same_Some q p is))
rest_at (d ∷ done) rest p is = rest_at done rest p is

no_places : (rest : List Place) → length rest ≡ 0 → rest ≡ []
no_places [] is = refl
no_places (p ∷ rest) is = absurd (let n : length (p ∷ rest) ≡ 0 = is in omega (arith, n))

module _ (places : List Place) (standing : List Seat) (commands : ℕ → Tally) (moment : ℕ) where
  abbrev lines_from : List Place → ℕ → List (List ℕ)
  lines_from ps number = stands_lines ps number standing commands moment

  abbrev line_at : Place → ℕ → List ℕ
  line_at p number = stands_line p (count_of number standing) (commands number) moment

  lines_join : (xs ys : List Place) (number : ℕ) → lines_from (xs ++ ys) number ≡ lines_from xs number ++ lines_from ys (number + length xs)
  lines_join [] ys number = ap (lines_from ys) (omega arith)
  lines_join (x ∷ xs) ys number =
      ap (λ ls. line_at x number ∷ ls) (lines_join xs ys (number + 1) ∙ ap (λ n. lines_from xs (number + 1) ++ lines_from ys n) (omega arith))

  -- the places before one have their lines
  pub record SaysBegin (index : ℕ) (log log_after : Option (List (List ℕ))) : Type 0 where
    pub done : List Place
    pub rest : List Place
    pub was : places ≡ done ++ rest
    pub at : length done ≡ index
    pub added : log_after ≡ with_lines log (lines_from done 0)

  pub says_first : (log : Option (List (List ℕ))) → SaysBegin 0 log log
  says_first log = record { done = []; rest = places; was = refl; at = refl; added = lines_none log }

  module _ (index : ℕ) (log log1 : Option (List (List ℕ))) (b : SaysBegin index log log1) where
    pub says_all : length places ≡ index → log1 ≡ with_lines log (lines_from places 0)
    says_all all =
        let l : length places ≡ length b.done + length b.rest = ap length b.was ∙ length-append b.done b.rest in
        let none : b.rest ≡ [] = no_places b.rest (omega (arith, l, all, b.at)) in
        b.added ∙ ap (λ ps. with_lines log (lines_from ps 0)) (sym (b.was ∙ ap (λ ps. b.done ++ ps) none ∙ append-nil b.done))

    module _ (p : Place) (is : slice_get places index ≡ Some p) (log2 : Option (List (List ℕ))) where
      behind : (more : List Place) × (b.rest ≡ p ∷ more)
      behind = rest_at b.done b.rest p (ap (λ ps. slice_get ps (length b.done)) (sym b.was) ∙ ap (slice_get places) b.at ∙ is)

      its_number : 0 + length b.done ≡ index
      its_number = let n : length b.done ≡ index = b.at in omega (arith, n)

      pub says_then : log2 ≡ with_lines log1 (line_at p index ∷ []) → SaysBegin (index + 1) log log2
      says_then put = record {
        done = b.done ++ p ∷ [];
        rest = behind.0;
        was = b.was ∙ ap (λ ps. b.done ++ ps) behind.1 ∙ sym (append_assoc b.done (p ∷ []) behind.0);
        at = length-append b.done (p ∷ []) ∙ ap (λ n. n + 1) b.at;
        added = put ∙ ap (λ l. with_lines l (line_at p index ∷ [])) b.added ∙ lines_both log (lines_from b.done 0) (line_at p index ∷ [])
            ∙ ap (with_lines log) (sym (lines_join b.done (p ∷ []) 0 ∙ ap (λ n. lines_from b.done 0 ++ lines_from (p ∷ []) n) its_number));
      }

      -- its line failed
      pub says_missed : (part : List ℕ) → MayHaveMore (line_at p index ∷ []) log1 log2 part → MissesLine (lines_from places 0) log log2 part
      says_missed part may =
          let w = begins_line (line_at p index) log1 log2 part may in
          record {
            before = lines_from b.done 0;
            line = line_at p index;
            behind = lines_from behind.0 (index + 1);
            are = ap (λ ps. lines_from ps 0) (b.was ∙ ap (λ ps. b.done ++ ps) behind.1) ∙ lines_join b.done (p ∷ behind.0) 0
                ∙ ap (λ n. lines_from b.done 0 ++ lines_from (p ∷ behind.0) n) its_number;
            whole = w.0;
            added = w.1.0 ∙ ap (λ l. with_lines l w.0) b.added ∙ lines_both log (lines_from b.done 0) w.0;
            begins = w.1.1;
          }
