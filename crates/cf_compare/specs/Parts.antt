-- Steps of the proof: what the parts of a comparison say: `IsCodeSearched` of a code, `AnswersFor` of two assets, `AnswersWith` of an
-- asset. Private functions alone cite it.
use Rattle.std.specs.Prelude.{◌≡◌, ℕ, ◌<◌, ◌≤◌, Option, Some, None}
use Rattle.cf_view.specs.declared.base.Act.{Act}
use Rattle.cf_policy.specs.declared.policy.Asset.{Asset}
use Rattle.cf_policy.specs.declared.policy.Policy.{Policy}
use Rattle.cf_compare.specs.declared.answer.AssetAnswer.{AssetAnswer}
use Rattle.cf_compare.specs.declared.answer.AssetAnswer.TheVariants as answer
use Rattle.cf_compare.specs.Cells.{cells_of, most_cells}
use Rattle.cf_compare.specs.Inclusion.{AllowsAllOf, IsDifference, IsLeastDifference, IsUpTo}
use Rattle.cf_compare.specs.Outcome.{HasNoPartner, HasTooManyCells, HasDifference, Passes}

-- the differences of one code: none, or the first
abbrev pub IsCodeSearched : Asset → Asset → ℕ → Option (ℕ × Act) → Type 0
IsCodeSearched ours other code None = (client : ℕ) (act : Act) → act.code ≡ code → IsDifference ours other client act → ⊥
IsCodeSearched ours other code (Some p) =
    (p.1.code ≡ code) × IsDifference ours other p.0 p.1
    × ((client : ℕ) (act : Act) → act.code ≡ code → IsDifference ours other client act → IsUpTo p.0 p.1 client act)

-- what is said of one asset
abbrev pub AnswersFor : Policy → Asset → AssetAnswer → Type 0
AnswersFor other asset answer.Passes = Passes other asset
AnswersFor other asset answer.Missing = HasNoPartner other asset
AnswersFor other asset answer.Cells = HasTooManyCells other asset
AnswersFor other asset (answer.Shown client act) = HasDifference other asset client act

-- what is said of an asset and its partner
abbrev pub AnswersWith : Asset → Asset → AssetAnswer → Type 0
AnswersWith asset partner answer.Passes = (cells_of asset partner ≤ most_cells) × AllowsAllOf asset partner
AnswersWith asset partner answer.Missing = ⊥
AnswersWith asset partner answer.Cells = most_cells < cells_of asset partner
AnswersWith asset partner (answer.Shown client act) = (cells_of asset partner ≤ most_cells) × IsLeastDifference asset partner client act
