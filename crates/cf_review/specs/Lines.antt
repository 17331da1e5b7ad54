-- The lines of a review: review_text. The words are those of the log of a session, and of the judge.
use Rattle.std.specs.Prelude.{◌≡◌, ◌-◌, ℕ, List, [], ◌++◌, codes, false, get_or, slice_get, Option, Some, None}
use Rattle.std.specs.Fmt.{signed_decimal}
use Rattle.std.specs.List.{flat_map}
use Rattle.cf_audit.specs.Line.{Stray as StrayLine}
use Rattle.cf_audit.specs.Names.{break_name}
use Rattle.cf_lane.specs.Log.{line_about, refusal_line}
use Rattle.cf_outside.specs.Files.{Content, with_appended}
use Rattle.cf_policy.specs.declared.Asset.{Asset}
use Rattle.cf_view.specs.Text.{endpoint_text, moment_text}
use Rattle.cf_view.specs.declared.Endpoint.{Endpoint}
use Rattle.cf_view.specs.declared.Side.TheVariants as side
use Rattle.cf_review.specs.Remark.{Broken, Conflict, Gap, MatterValue, Midstream, Refused, RemarkValue, Stray}

-- a line of other words about a client of an asset
abbrev pub other_line : Asset → Endpoint → (moment : ℕ) → (words : List ℕ) → List ℕ
other_line asset client moment words =
    moment_text moment ++ codes " " ++ endpoint_text client ++ codes " " ++ asset.name ++ codes " " ++ words ++ codes "\n"

-- a refused command has no reply
abbrev pub matter_line : Asset → Endpoint → (moment : ℕ) → MatterValue → List ℕ
matter_line asset client moment (Refused refusal octets) = line_about asset client moment (refusal_line asset refusal false octets)
matter_line asset client moment (Stray because) = line_about asset client moment (StrayLine side.Client because)
matter_line asset client moment (Broken reason) = other_line asset client moment (codes "broken " ++ break_name reason)
matter_line asset client moment (Conflict position) = other_line asset client moment (codes "conflict " ++ signed_decimal position)
matter_line asset client moment Midstream = other_line asset client moment (codes "begins midstream")
matter_line asset client moment (Gap position) = other_line asset client moment (codes "gap " ++ signed_decimal position)

-- the stamp of the record of a number, counted from 1
abbrev pub stamp_of : (stamps : List ℕ) → (record_number : ℕ) → ℕ
stamp_of stamps number = get_or stamps (number - 1) 0

-- the line of a remark, where its asset is known
abbrev pub line_by : Option Asset → (moment : ℕ) → RemarkValue → List ℕ
line_by None moment r = []
line_by (Some asset) moment r = matter_line asset r.client moment r.what

-- the line of a remark, whose record has this moment by its number: the moment, its client, its asset, and what is objected to
abbrev pub remark_line : List Asset → (moment_of : ℕ → ℕ) → RemarkValue → List ℕ
remark_line assets moment_of r = line_by (slice_get assets r.asset) (moment_of r.at_record) r

-- the lines of remarks, in their order
abbrev pub lines_by : List Asset → (moment_of : ℕ → ℕ) → List RemarkValue → List ℕ
lines_by assets moment_of remarks = flat_map (remark_line assets moment_of) remarks

-- by the stamps of all records
abbrev pub review_text : List Asset → (stamps : List ℕ) → List RemarkValue → List ℕ
review_text assets stamps remarks = lines_by assets (stamp_of stamps) remarks

-- a file to whose end the first of the bytes that wait were moved, and the bytes that are left
pub record MovesOn (waiting left : List ℕ) (old new : Content) : Type 0 where
  pub front : List ℕ
  pub parts : waiting ≡ front ++ left
  pub file : new ≡ with_appended old front
