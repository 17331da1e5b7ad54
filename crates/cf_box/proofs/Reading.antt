-- Failed reads of the files of a command.
use Rattle.std.proofs.Common.{◌≡◌, ℕ, List, [], ◌∷◌, Some, ap, arith, inl, subst, sym, ◌∙◌}
use Rattle.cf_outside.proofs.Frames.{later_all}
use Rattle.cf_outside.specs.Faults.{HasCauseIn, Rose}
use Rattle.cf_words.specs.Command.{Command, Check, Compare, Draft, Judge, Learn, Migrate, Packets, Relay, Review, Run, Sift, World, input_files, policy_file}
use Rattle.cf_ending.specs.Outside.{FilesValue, ReadsOnly, RisesIn, RoseIn}

-- one file was read
pub rises_one : {failed : Type 0} (name : List ℕ) (old new : List ℕ → ℕ) → HasCauseIn name old new failed → RisesIn (name ∷ []) old new
rises_one name old new cause = record { later = later_all name old new cause; others = λ other n. cause.others other n.0 }

-- none was read
pub rises_none : (names : List (List ℕ)) (old new : List ℕ → ℕ) → new ≡ old → RisesIn names old new
rises_none names old new same = record {
  later = λ name. omega (arith, ap (λ (f : List ℕ → ℕ). f name) same);
  others = λ other n. ap (λ (f : List ℕ → ℕ). f other) same;
}

-- and none after it
pub rises_still : (names : List (List ℕ)) (old mid new : List ℕ → ℕ) → RisesIn names old mid → new ≡ mid → RisesIn names old new
rises_still names old mid new first same = subst (λ (f : List ℕ → ℕ). RisesIn names old f) (sym same) first

-- the first of two was read
pub rises_first : (name second : List ℕ) (old new : List ℕ → ℕ) → RisesIn (name ∷ []) old new → RisesIn (name ∷ second ∷ []) old new
rises_first name second old new first = record { later = first.later; others = λ other n. first.others other (n.0, tt) }

-- and then the second
pub rises_both : {failed : Type 0} (name second : List ℕ) (old mid new : List ℕ → ℕ) → RisesIn (name ∷ []) old mid → HasCauseIn second mid new failed →
    RisesIn (name ∷ second ∷ []) old new
rises_both name second old mid new first cause = record {
  later = λ n. let a = first.later n in let b = later_all second mid new cause n in omega (arith, a, b);
  others = λ other n. cause.others other n.1.0 ∙ first.others other (n.0, tt);
}

-- one was read, and then others
pub rises_then : (name : List ℕ) (names : List (List ℕ)) (old mid new : List ℕ → ℕ) → RisesIn (name ∷ []) old mid → RisesIn names mid new → RisesIn (name ∷ names) old new
rises_then name names old mid new first later = record {
  later = λ n. let a = first.later n in let b = later.later n in omega (arith, a, b);
  others = λ other n. later.others other n.1 ∙ first.others other (n.0, tt);
}

-- only the first of some was read
pub rises_front : (name : List ℕ) (names : List (List ℕ)) (old new : List ℕ → ℕ) → RisesIn (name ∷ []) old new → RisesIn (name ∷ names) old new
rises_front name names old new first = record { later = first.later; others = λ other n. first.others other (n.0, tt) }

-- a read of a file that failed after files were read
pub since_read : {names : List (List ℕ)} (before middle after : FilesValue) → ReadsOnly names before middle → (file : List ℕ) →
    Rose (middle.read_faults file) (after.read_faults file) → Rose (before.read_faults file) (after.read_faults file)
since_read before middle after only file rose = let later = only.reads.later file in omega (arith, later, rose)

-- a read of the policy that failed is one of a file of the command
pub reads_policy : (c : Command) (name : List ℕ) (old new : List ℕ → ℕ) → policy_file c ≡ Some name → Rose (old name) (new name) → RoseIn (input_files c) old new
reads_policy (Check policy) name old new is rose = let same : name ≡ policy = cc in inl (subst (λ n. Rose (old n) (new n)) same rose)
reads_policy (Compare policy other) name old new is rose = let same : name ≡ policy = cc in inl (subst (λ n. Rose (old n) (new n)) same rose)
reads_policy (Judge policy capture) name old new is rose = let same : name ≡ policy = cc in inl (subst (λ n. Rose (old n) (new n)) same rose)
reads_policy (Draft policy out captures) name old new is rose = let same : name ≡ policy = cc in inl (subst (λ n. Rose (old n) (new n)) same rose)
reads_policy (Learn policy capture out) name old new is rose = let same : name ≡ policy = cc in inl (subst (λ n. Rose (old n) (new n)) same rose)
reads_policy (Migrate policy out) name old new is rose = let same : name ≡ policy = cc in inl (subst (λ n. Rose (old n) (new n)) same rose)
reads_policy (Packets capture) name old new is rose = cc is
reads_policy (Review policy captures log) name old new is rose = let same : name ≡ policy = cc in inl (subst (λ n. Rose (old n) (new n)) same rose)
reads_policy (Run policy names) name old new is rose = let same : name ≡ policy = cc in inl (subst (λ n. Rose (old n) (new n)) same rose)
reads_policy (Relay policy asset port idles log) name old new is rose = let same : name ≡ policy = cc in inl (subst (λ n. Rose (old n) (new n)) same rose)
reads_policy (World seed sessions policy names) name old new is rose = cc is
reads_policy (Sift policy asset client names) name old new is rose = let same : name ≡ policy = cc in inl (subst (λ n. Rose (old n) (new n)) same rose)

pub ruleset policy_laws = (rises_one, reads_policy)
