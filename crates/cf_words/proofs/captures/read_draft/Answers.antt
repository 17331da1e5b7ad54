use Rattle.std.proofs.Common.{◌≡◌, ◌<◌, ℕ, List, ◌∷◌, length, map, None, refl, arith}
use Rattle.std.proofs.lemmas.List.{length-map}
use Rattle.std.specs.Prelude.{string_bytes}
use Rattle.cf_words.specs.Forms.{draft_of}
use Rattle.cf_words.proofs.captures.read_draft.Goals as goal

-- fewer than two words are no form
too_few : (words : List (List ℕ)) → length words < 2 → None ≡ draft_of words
too_few (a ∷ b ∷ captures) few = absurd (omega arith)
too_few _ few = refl

pub returns-in_default-clause-command : goal.returns-in_default-clause-command
returns-in_default-clause-command c = too_few (map string_bytes c.args.words.now) (simp length-map c.in_default.len_below)
