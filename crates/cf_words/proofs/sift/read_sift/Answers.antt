use Rattle.std.proofs.Common.{◌≡◌, ◌<◌, ℕ, List, ◌∷◌, length, map, None, refl, arith}
use Rattle.std.proofs.lemmas.List.{length-map}
use Rattle.std.specs.Prelude.{string_bytes}
use Rattle.cf_words.specs.Forms.{sift_of}
use Rattle.cf_words.proofs.sift.read_sift.Goals as goal

-- fewer than three words are no form
too_few : (words : List (List ℕ)) → length words < 3 → None ≡ sift_of words
too_few (a ∷ b ∷ c ∷ files) few = absurd (omega arith)
too_few _ few = refl

pub returns-in_default-clause-command : goal.returns-in_default-clause-command
returns-in_default-clause-command c = too_few (map string_bytes c.args.words.now) (simp length-map c.in_default.len_below)
