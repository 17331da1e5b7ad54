-- A value that is tested in an order, Tested: the value, or the first refusal; and a call's answer beside it, Answers.
use Rattle.std.specs.Prelude.{◌≡◌, ℕ, Option, Some, None, Result, Ok, Err}
use Rattle.cf_policylang.specs.declared.refusal.Key.{Key}
use Rattle.cf_policylang.specs.declared.refusal.Cause.{Cause}
use Rattle.cf_policylang.specs.declared.refusal.Place.{Place}
use Rattle.cf_policylang.specs.declared.refusal.PolicyFault.{PolicyFault}
use Rattle.cf_policylang.specs.declared.refusal.PolicyFault.TheVariants.{NoMemory, Refused}
use Rattle.cf_policylang.specs.declared.refusal.PolicyRefusal.{PolicyRefusal}
use Rattle.cf_policylang.specs.Keys.{cause_number}

-- a value, or the first refusal
abbrev pub Tested : Type 0 → Type 0
Tested A = Result A PolicyRefusal

-- the tests of next come after those before, of which a refusal decides
abbrev pub and_then : {A B : Type 0} → Tested A → (A → Tested B) → Tested B
and_then (Ok x) next = next x
and_then (Err r) next = Err r

-- the refusal of a key at a place, by its cause
abbrev pub refusal : Cause → Key → Place → PolicyRefusal
refusal cause key place = record { number = cause_number cause; key = key; asset = place.asset; rule = place.rule }

-- a refusal as the end of the tests
abbrev pub refused : {A : Type 0} → Cause → Key → Place → Tested A
refused cause key place = Err (refusal cause key place)

-- the value, and where there is none a refusal
abbrev pub or_refused : {A : Type 0} → Cause → Key → Place → Option A → Tested A
or_refused cause key place None = refused cause key place
or_refused cause key place (Some x) = Ok x

-- the document itself, an asset, and a rule of an asset, each counted from 1
abbrev pub at_document : Place
at_document = record { asset = 0; rule = 0 }

-- a set of the document, counted from 1
abbrev pub at_set : ℕ → Place
at_set n = record { asset = 0; rule = n }

-- the place of an asset, counted from 1
abbrev pub at_asset : ℕ → Place
at_asset n = record { asset = n; rule = 0 }

-- the place of a rule of an asset, both counted from 1
abbrev pub at_rule : ℕ → ℕ → Place
at_rule n m = record { asset = n; rule = m }

-- exactly the meaning or exactly its first refusal, but for want of memory; view is what a contract sees of the value
abbrev pub Answers : {A B : Type 0} → (A → B) → Tested B → Result A PolicyFault → Type 0
Answers view meaning (Ok x) = meaning ≡ Ok (view x)
Answers view meaning (Err (Refused r)) = meaning ≡ Err r
Answers view meaning (Err NoMemory) = Unit {0}

-- the answer of a call that takes no memory, by the tests
abbrev pub AnswersPlainly : {A B : Type 0} → (A → B) → Tested B → Result A PolicyRefusal → Type 0
AnswersPlainly view meaning (Ok x) = meaning ≡ Ok (view x)
AnswersPlainly view meaning (Err r) = meaning ≡ Err r
