-- What a put does to the text of a sink. The main definition is `Puts`.
use Rattle.std.specs.Prelude.{◌≡◌, ℕ, List, Option, ◌++◌, take, option_map}
use Rattle.cf_outside.specs.declared.files.WriteAnswer.{WriteAnswer}
use Rattle.cf_outside.specs.declared.files.WriteAnswer.TheVariants as write

-- a text with bytes at its end, where it is told
abbrev pub printed_with : Option (List ℕ) → List ℕ → Option (List ℕ)
printed_with text bytes = option_map (λ t. t ++ bytes) text

-- bytes were put; a put that failed may have put a prefix
abbrev pub Puts : List ℕ → Option (List ℕ) → Option (List ℕ) → WriteAnswer → Type 0
Puts bytes old new write.Done = new ≡ printed_with old bytes
Puts bytes old new write.Failed = (k : ℕ) × (new ≡ printed_with old (take k bytes))
