-- What a contract sees of a pair, with all that it tells: PairValue.
use Rattle.std.specs.Prelude.{ℕ, List, Option}
use Rattle.cf_outside.specs.Pair.{Entry}
use Rattle.cf_outside.specs.declared.pair.Pair.{Ghosts as PairOf}

-- the answers of the pair, how often a call of it failed, and how often the answer was `Idle`
pub record PairValue : Type 0 where
  pub told : Option (List Entry)
  pub faults : ℕ
  pub idles : ℕ

-- what a pair tells, with its counts of faults and of idle answers
abbrev pub pair_value : {P : Type 0} → PairOf P → P → PairValue
pair_value P pair = record { told = P.told pair; faults = P.faults pair; idles = P.idles pair }
