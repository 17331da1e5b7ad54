-- How much there is in a review: counts_of.
use Rattle.std.specs.Prelude.{◌==◌, ◌+◌, ◌-◌, ◌^◌, ℕ, Bool, List, count_by, map, min}
use Rattle.cf_policy.specs.declared.Decider.{Decider}
use Rattle.cf_policy.specs.declared.Decider.TheVariants as decider
use Rattle.cf_review.specs.Remark.{Broken, Conflict, Gap, MatterValue, Midstream, Refused, RemarkValue, Stray, remark_value}
use Rattle.cf_review.specs.declared.counting.Counts.{Counts}
use Rattle.cf_review.specs.declared.counting.Kind.{Kind}
use Rattle.cf_review.specs.declared.counting.Kind.TheVariants as kind
use Rattle.cf_review.specs.declared.reviewing.Reviewed.{Reviewed}

-- the kind that a refused command counts as, by what decided
abbrev pub kind_by : Decider → Kind
kind_by (decider.Rule n) = kind.Rule
kind_by (decider.Spent n) = kind.Rule
kind_by decider.Default = kind.Default
kind_by decider.Station = kind.Station
kind_by decider.Form = kind.Form

-- the kind that a remark counts as
abbrev pub kind_of : MatterValue → Kind
kind_of (Refused refusal octets) = kind_by refusal.decider
kind_of (Stray because) = kind.Stray
kind_of (Conflict position) = kind.Conflict
kind_of (Broken reason) = kind.Broken
kind_of Midstream = kind.Midstream
kind_of (Gap position) = kind.Gap

-- the place of a kind among all
abbrev pub kind_number : Kind → ℕ
kind_number kind.Rule = 0
kind_number kind.Default = 1
kind_number kind.Station = 2
kind_number kind.Form = 3
kind_number kind.Stray = 4
kind_number kind.Conflict = 5
kind_number kind.Broken = 6
kind_number kind.Midstream = 7
kind_number kind.Gap = 8

-- the remark is of this kind
abbrev pub is_kind : Kind → MatterValue → Bool
is_kind k what = kind_number k == kind_number (kind_of what)

-- the number of remarks that count so
abbrev pub count_of : List RemarkValue → Kind → ℕ
count_of remarks k = count_by (λ r. is_kind k r.what) remarks

-- the counts of a review, by its flows, its admitted commands and its remarks; the sum of commands stands still at 2^64 - 1
abbrev pub counts_by : (flows admitted : ℕ) → List RemarkValue → Counts
counts_by flows admitted remarks = record {
  flows = flows;
  commands = min (admitted + count_of remarks kind.Rule + count_of remarks kind.Default + count_of remarks kind.Station
      + count_of remarks kind.Form) (2 ^ 64 - 1);
  admitted = admitted;
  by_rule = count_of remarks kind.Rule;
  by_default = count_of remarks kind.Default;
  by_station = count_of remarks kind.Station;
  by_form = count_of remarks kind.Form;
  strays = count_of remarks kind.Stray;
  conflicts = count_of remarks kind.Conflict;
  broken = count_of remarks kind.Broken;
}

-- the flows, the commands that are admitted and refused, and the other remarks
abbrev pub counts_of : Reviewed → Counts
counts_of r = counts_by r.flows r.admitted (map remark_value r.remarks.items)
