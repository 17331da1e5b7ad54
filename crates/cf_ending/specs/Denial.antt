-- What is printed of an answer of no: `denial_text`.
use Rattle.std.specs.Prelude.{List, ℕ, ◌++◌, codes, decimal}
use Rattle.cf_audit.specs.Text.{act_text}
use Rattle.cf_review.specs.declared.Counts.{Counts}
use Rattle.cf_view.specs.Text.{dotted}
use Rattle.cf_ending.specs.Objection.{objected_text}
use Rattle.cf_ending.specs.declared.denial.Denial.{Denial}
use Rattle.cf_ending.specs.declared.denial.Denial.TheVariants as denial

-- a number after its word, as a line
abbrev pub count_line : (word : List ℕ) → (number : ℕ) → List ℕ
count_line word number = word ++ decimal number ++ codes "\n"

-- what was counted of a review
abbrev pub reviewed_text : Counts → List ℕ
reviewed_text c =
    count_line (codes "flows ") c.flows ++ (count_line (codes "commands ") c.commands ++ (count_line (codes "admitted ") c.admitted
    ++ (count_line (codes "refused rule ") c.by_rule ++ (count_line (codes "refused default ") c.by_default
    ++ (count_line (codes "refused station ") c.by_station ++ (count_line (codes "refused form ") c.by_form
    ++ (count_line (codes "strays ") c.strays
    ++ (count_line (codes "conflicts ") c.conflicts ++ count_line (codes "broken ") c.broken))))))))

-- the name of the asset, and the first act that the first policy allows and the other refuses; or the first objection; or
-- what was counted of a review that has remarks
abbrev pub denial_text : Denial → List ℕ
denial_text (denial.NoPartner name) = codes "no " ++ name.bytes ++ codes "\n"
denial_text (denial.Allows name client act) = codes "no " ++ name.bytes ++ codes " client " ++ dotted client ++ act_text act ++ codes "\n"
denial_text (denial.Remarks counts) = reviewed_text counts
denial_text (denial.Objects tells) = codes "no " ++ objected_text tells ++ codes "\n"
