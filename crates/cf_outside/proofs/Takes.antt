-- A take of a pair in memory that neither fails by the script nor is idle.
use Rattle.std.specs.Prelude.{◌≡◌, ◌≤◌, ℕ, None, false, List}
use Rattle.std.proofs.Common.{ap, arith, inr, refl}
use Rattle.cf_view.specs.declared.Side.{Side}
use Rattle.cf_view.specs.declared.Side.TheVariants as side
use Rattle.cf_outside.specs.Faults.{HasCause, counted}
use Rattle.cf_outside.specs.Memory.{after_call, next_fail}
use Rattle.cf_outside.specs.MemoryPair.{MemoryPairValue, MemoryTakes, TakesLeft, is_idle}
use Rattle.cf_outside.specs.Pair.{FaultsBy}
use Rattle.cf_outside.specs.declared.pair.TakeAnswer.{TakeAnswer}
use Rattle.cf_outside.specs.declared.pair.TakeAnswer.TheVariants as taken

-- a pair in whose next take or give nothing was moved yet
abbrev pub moving : MemoryPairValue → MemoryPairValue
moving pair = record pair { moves = counted pair.moves; counts = after_call pair.counts }

module _ (before after : List ℕ) (old new : MemoryPairValue) where
  pub left_taken : (s : Side) (answer : TakeAnswer) → next_fail old.counts ≡ None → is_idle old ≡ false
      → TakesLeft s before after (moving old) new answer → MemoryTakes s before after old new answer
  left_taken side.Client (taken.Got n) none busy h = (none, busy, h.0, h.1, h.2, h.3)
  left_taken side.Controller (taken.Got n) none busy h = (none, busy, h.0, h.1, h.2, h.3)
  left_taken s taken.Idle none busy h = absurd h
  left_taken side.Client taken.End none busy h = (none, busy, h.0, h.1, h.2)
  left_taken side.Controller taken.End none busy h = (none, busy, h.0, h.1, h.2)
  left_taken s taken.Failed none busy h = (h.0, inr (none, h.1))

still : {failed : Type 0} (before now : ℕ) → now ≡ before → (failed → ⊥) → FaultsBy before now failed
still before now same never = record { later = omega (arith, same); rose = λ failed. absurd (never failed); still = λ _. same }

same_idles : {idle : Type 0} (before now : ℕ) → now ≡ before → (idle → ⊥) → HasCause before now idle
same_idles before now same never = record { later = omega (arith, same); rose = λ idle. absurd (never idle) }

module _ (before after : List ℕ) (mid new : MemoryPairValue) where
  -- it counts a fault where it fails
  pub left_faults : (s : Side) (answer : TakeAnswer) → mid.counts.faults ≤ new.counts.faults → TakesLeft s before after mid new answer
      → FaultsBy mid.counts.faults new.counts.faults (answer ≡ taken.Failed)
  left_faults side.Client (taken.Got n) later h = still _ _ (ap (λ (p : MemoryPairValue). p.counts.faults) h.3) (λ e. cc)
  left_faults side.Controller (taken.Got n) later h = still _ _ (ap (λ (p : MemoryPairValue). p.counts.faults) h.3) (λ e. cc)
  left_faults s taken.Idle later h = absurd h
  left_faults s taken.End later h = still _ _ (ap (λ (p : MemoryPairValue). p.counts.faults) h.2) (λ e. cc)
  left_faults s taken.Failed later h =
      let more : new.counts.faults ≡ counted mid.counts.faults = ap (λ (p : MemoryPairValue). p.counts.faults) h.1 in
      record { later = later; rose = λ _. omega (arith, more); still = λ no. absurd (no refl) }

  -- and no idle answer
  pub left_idles : (s : Side) (answer : TakeAnswer) → TakesLeft s before after mid new answer → HasCause mid.idles new.idles (answer ≡ taken.Idle)
  left_idles side.Client (taken.Got n) h = same_idles _ _ (ap (λ (p : MemoryPairValue). p.idles) h.3) (λ e. cc)
  left_idles side.Controller (taken.Got n) h = same_idles _ _ (ap (λ (p : MemoryPairValue). p.idles) h.3) (λ e. cc)
  left_idles s taken.Idle h = absurd h
  left_idles s taken.End h = same_idles _ _ (ap (λ (p : MemoryPairValue). p.idles) h.2) (λ e. cc)
  left_idles s taken.Failed h = same_idles _ _ (ap (λ (p : MemoryPairValue). p.idles) h.1) (λ e. cc)
