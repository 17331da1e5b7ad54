-- Steps of the proof: where the points of the rules of each code lie, sorted: `IsTableOf`; and what is found there: `HasTaker`.
use Rattle.std.specs.Prelude.{◌≡◌, ℕ, ◌+◌, ◌*◌, ◌^◌, ◌<◌, ◌≤◌, ltb, if◌then◌else◌, pos, Bool, true, false, List, get_or, length, slice_get, Contains}
use Rattle.std.specs.List.{Any}
use Rattle.std.specs.List.Sorted.{IsNonDecreasingBy}
use Rattle.std.specs.Option.{option_map_or}
use Rattle.cf_policy.specs.declared.index.CodePair.{CodePair}
use Rattle.cf_policy.specs.declared.point_table.PointCell.{PointCell}
use Rattle.cf_policy.specs.declared.point_table.Taker.{Taker}
use Rattle.cf_policy.specs.declared.point_table.Taker.TheVariants.{Nobody, Only, Unknown}
use Rattle.cf_policy.specs.declared.policy.Rule.{Rule}
use Rattle.cf_policy.specs.declared.policy.Span.{Span}
use Rattle.cf_policy.specs.Verdict.{takes}

-- the place of a point of a code on the line on which the points of each code follow those of the code below
abbrev pub line_place : (code point : ℕ) → ℕ
line_place code point = code * 2 ^ 32 + point

-- the rule of this place takes the point
abbrev pub takes_point : List Rule → (place point : ℕ) → Bool
takes_point rules place point = option_map_or (λ r. takes r.points (pos point)) (slice_get rules place) false

-- the points of the list lie between these two, which belong to them
abbrev pub IsAround : (low high : ℕ) → List Span → Type 0
IsAround low high spans = (point : ℕ) → point < 2 ^ 32 → takes spans (pos point) ≡ true → (low ≤ point) × (point ≤ high)

-- the cell lies on the line where the pair's code does, with each point that the pair's rule takes
pub record IsCellOf (rules : List Rule) (pair : CodePair) (cell : PointCell) : Type 0 where
  pub rule : cell.rule ≡ pair.rule
  pub above : line_place pair.code 0 ≤ cell.first
  pub below : cell.last < line_place (pair.code + 1) 0
  pub around : (point : ℕ) → point < 2 ^ 32 → takes_point rules pair.rule point ≡ true
      → (cell.first ≤ line_place pair.code point) × (line_place pair.code point ≤ cell.last)

-- the cells are those of the pairs, place by place
abbrev pub HasCells : List Rule → List CodePair → List PointCell → Type 0
HasCells rules pairs cells =
    (length cells ≡ length pairs) × ((k : ℕ) (d : CodePair) (e : PointCell) → k < length cells → IsCellOf rules (get_or pairs k d) (get_or cells k e))

-- a cell for each pair and no others, sorted by where they begin
pub record AreSortedCells (rules : List Rule) (pairs : List CodePair) (cells : List PointCell) : Type 0 where
  pub every : (pair : CodePair) → Contains pairs pair → Any (λ cell. IsCellOf rules pair cell) cells
  pub known : (cell : PointCell) → Contains cells cell → Any (λ pair. IsCellOf rules pair cell) pairs
  pub ascending : IsNonDecreasingBy (λ cell. cell.first) cells

-- the cells before a place do not reach beyond the number of that place
abbrev pub HasReaches : List PointCell → List ℕ → Type 0
HasReaches cells reaches = (i j : ℕ) (d : PointCell) → i < j → j < length reaches → (get_or cells i d).last ≤ get_or reaches j 0

-- the sorted cells of the pairs, and how far those before each of them reach
pub record IsTableOf (rules : List Rule) (pairs : List CodePair) (cells : List PointCell) (reaches : List ℕ) : Type 0 where
  pub sorted : AreSortedCells rules pairs cells
  pub reach : HasReaches cells reaches

-- the rules of these pairs that have the code: none takes a point from the first to the last, or only that of a place
abbrev pub HasTaker : List Rule → List CodePair → (code first last : ℕ) → Taker → Type 0
HasTaker rules pairs code first last Nobody =
    (rule point : ℕ) → Contains pairs (record { code = code; rule = rule }) → first ≤ point → point ≤ last → takes_point rules rule point ≡ false
HasTaker rules pairs code first last (Only n) =
    Contains pairs (record { code = code; rule = n })
    × ((rule point : ℕ) → Contains pairs (record { code = code; rule = rule }) → first ≤ point → point ≤ last → takes_point rules rule point ≡ true
    → rule ≡ n)
HasTaker rules pairs code first last Unknown = Unit {0}

-- the cells that begin at the place of the first point or before it are so many, and no other begins up to that of the last
pub record IsStretch (cells : List PointCell) (code first last count : ℕ) : Type 0 where
  pub inside : count ≤ length cells
  pub before : (k : ℕ) (d : PointCell) → k < count → (get_or cells k d).first ≤ line_place code first
  pub after : (d : PointCell) → count < length cells → line_place code last < (get_or cells count d).first

-- the answer about the place of a first point, behind so many cells, is so up to the last point
abbrev pub HasTakerAfter : List PointCell → List ℕ → (count place : ℕ) → Taker → Type 0
HasTakerAfter cells reaches count place taker =
    (rules : List Rule) (pairs : List CodePair) (code first last : ℕ) → IsTableOf rules pairs cells reaches → place ≡ line_place code first
    → last < 2 ^ 32 → first ≤ last → IsStretch cells code first last count → HasTaker rules pairs code first last taker

-- the answer of a cell about a place that no other cell has
abbrev pub taker_of : PointCell → ℕ → Taker
taker_of cell place = if ltb cell.last place then Nobody else Only cell.rule
