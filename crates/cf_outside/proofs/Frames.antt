-- Reads of a file, one behind the other.
use Rattle.std.proofs.Common.{◌≡◌, ◌≤◌, ℕ, List, ap, bytes_eq, inl, inr, refl, ◌∙◌, arith, subst, sym}
use Rattle.std.proofs.lemmas.Bool.{cases_Bool, false≢true}
use Rattle.std.proofs.lemmas.Slice.Eq.{bytes_eq-Decides}
use Rattle.cf_outside.specs.Faults.{HasCauseIn}
use Rattle.cf_outside.specs.Files.{Content}
use Rattle.cf_outside.specs.Frames.{OnlyReads}

-- no count of failed reads moved
pub cause_none : (name : List ℕ) (faults : List ℕ → ℕ) → HasCauseIn name faults faults ⊥
cause_none name faults = record { later = omega arith; rose = λ failed. absurd failed; others = λ other n. refl }

-- reads of one file, and one more
pub cause_on : {name : List ℕ} {old mid new : List ℕ → ℕ} {was one all : Type 0} → HasCauseIn name old mid was → HasCauseIn name mid new one → (all → one) → HasCauseIn name old new all
cause_on before more why = record {
  later = omega (arith, before.later, more.later);
  rose = λ failed. omega (arith, before.later, more.rose (why failed));
  others = λ other n. more.others other n ∙ before.others other n;
}

-- calls that left all counts of failed reads
pub cause_still : {failed : Type 0} (name : List ℕ) {old new : List ℕ → ℕ} → new ≡ old → (failed → ⊥) → HasCauseIn name old new failed
cause_still name {old} {new} same never = record {
  later = omega (arith, ap (λ (f : List ℕ → ℕ). f name) same);
  rose = λ failed. absurd (never failed);
  others = λ other n. ap (λ (f : List ℕ → ℕ). f other) same;
}

-- no count has fallen
pub later_all : {failed : Type 0} (name : List ℕ) (old new : List ℕ → ℕ) → HasCauseIn name old new failed → (other : List ℕ) → old other ≤ new other
later_all name old new cause other =
    elim (cases_Bool (bytes_eq other name)) as (λ _. old other ≤ new other) [
      | inl is ↦ subst (λ n. old n ≤ new n) (sym ((bytes_eq-Decides other name).0 is)) cause.later
      | inr not ↦ omega (arith, cause.others other (λ e. false≢true (sym not ∙ (bytes_eq-Decides other name).1 e)))
    ]

-- nothing was read
pub reads_none : {A : Type 0} (name : List ℕ) (content : A → List ℕ → Content) (read_faults : A → List ℕ → ℕ) (write_faults : A → ℕ) (files : A) →
    OnlyReads name content read_faults write_faults files files ⊥
reads_none name content read_faults write_faults files = record { same = refl; cause = cause_none name (read_faults files); writes = refl }

-- reads that did not fail, and one more
pub reads_on : {A : Type 0} {name : List ℕ} {content : A → List ℕ → Content} {read_faults : A → List ℕ → ℕ} {write_faults : A → ℕ} {old mid new : A} {one all : Type 0} →
    OnlyReads name content read_faults write_faults old mid ⊥ → OnlyReads name content read_faults write_faults mid new one → (all → one) →
    OnlyReads name content read_faults write_faults old new all
reads_on before more why = record {
  same = more.same ∙ before.same;
  cause = cause_on before.cause more.cause why;
  writes = more.writes ∙ before.writes;
}
