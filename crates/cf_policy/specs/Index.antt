-- Steps of the proof: the rules of an asset by the codes that they name for one client: `IsIndexOf`.
use Rattle.std.specs.Prelude.{◌≡◌, ◌≢◌, ℕ, ◌+◌, ◌<◌, ◌≤◌, ◌⊎◌, ◌↔◌, pos, Bool, true, false, not, ltb, ◌&&◌, if◌then◌else◌, List, get_or}
use Rattle.std.specs.Prelude.{length, Option, None, Some, take, slice_get, option_and_then, AllPairs, Contains}
use Rattle.std.specs.List.{Any, list_any, position}
use Rattle.std.specs.List.Sorted.{IsPartitionPoint}
use Rattle.std.specs.Option.{option_map_or}
use Rattle.cf_view.specs.declared.base.Act.{Act}
use Rattle.cf_view.specs.declared.base.Reason.{Reason}
use Rattle.cf_view.specs.declared.base.Reason.TheVariants as reason
use Rattle.cf_policy.specs.declared.policy.Rule.{Rule}
use Rattle.cf_policy.specs.declared.policy.Asset.{Asset}
use Rattle.cf_policy.specs.declared.index.CodePair.{CodePair}
use Rattle.cf_policy.specs.declared.point_table.PointCell.{PointCell}
use Rattle.cf_policy.specs.PointTable.{IsTableOf}
use Rattle.cf_policy.specs.Verdict.{takes, takes_value, numbered, is_allow, decided}
use Rattle.cf_policy.specs.declared.policy.Verdict.{Verdict}

-- the rule at the pair's place has the client and the pair's code
pub record IsPairOf (rules : List Rule) (client : ℕ) (pair : CodePair) : Type 0 where
  pub rule : Rule
  pub here : slice_get rules pair.rule ≡ Some rule
  pub has_client : takes rule.clients (pos client) ≡ true
  pub has_code : takes rule.codes (pos pair.code) ≡ true

-- a lower code, or the same code and an earlier rule
abbrev pub IsPairBefore : CodePair → CodePair → Type 0
IsPairBefore p q = (p.code < q.code) ⊎ ((p.code ≡ q.code) × (p.rule < q.rule))

-- every pair of a code and a rule that has it and the client, each once, ascending by code and then by place
pub record ArePairsOf (asset : Asset) (client : ℕ) (pairs : List CodePair) : Type 0 where
  pub ascending : AllPairs IsPairBefore pairs
  pub exact : (pair : CodePair) → Contains pairs pair ↔ IsPairOf asset.rules client pair

-- an index: its pairs, and the table of their points
pub record IndexValue : Type 0 where
  pub pairs : List CodePair
  pub cells : List PointCell
  pub reaches : List ℕ

-- the pairs of the asset's rules that have the client, and where the points of these rules lie
pub record IsIndexOf (asset : Asset) (client : ℕ) (index : IndexValue) : Type 0 where
  pub pairs : ArePairsOf asset client index.pairs
  pub table : IsTableOf asset.rules index.pairs index.cells index.reaches

-- the pairs of this rule and its codes come to the pairs before
abbrev pub AddsCodes : ℕ → Rule → List CodePair → List CodePair → Type 0
AddsCodes place rule before after =
    (pair : CodePair) → Contains after pair ↔ (Contains before pair ⊎ ((pair.rule ≡ place) × (takes rule.codes (pos pair.code) ≡ true)))

-- exactly the pairs whose rule stands before this place
abbrev pub HasPairsBelow : ℕ → List Rule → ℕ → List CodePair → Type 0
HasPairsBelow place rules client pairs = (pair : CodePair) → Contains pairs pair ↔ ((pair.rule < place) × IsPairOf rules client pair)

-- what is asked of the rule of a place, which no rule of another place answers
abbrev pub rule_at : List Rule → ℕ → (Rule → Bool) → Bool
rule_at rules place test = option_map_or test (slice_get rules place) false

-- the rule has the act's group
abbrev pub has_group : Rule → Act → Bool
has_group r act = takes r.groups (pos act.group)

-- a rule that has the act's group and point
abbrev pub has_group_and_point : Rule → Act → Bool
has_group_and_point r act = has_group r act && takes r.points (pos act.point)

-- a rule that has the act's group, point and value
abbrev pub has_group_to_value : Rule → Act → Bool
has_group_to_value r act = has_group_and_point r act && takes_value r.values act.value

-- the number of pairs at the front that, where pairs ascend, are those of lower codes
abbrev pub IsStartOf : ℕ → List CodePair → ℕ → Type 0
IsStartOf code pairs start =
    (start ≤ length pairs) × (AllPairs IsPairBefore pairs → IsPartitionPoint (λ p. ltb p.code code ≡ true) (λ p. ltb p.code code ≡ false)
    pairs start)

-- the places at which each code's pairs begin, of the codes that have a place here
abbrev pub HasStarts : List ℕ → List CodePair → Type 0
HasStarts starts pairs = (code : ℕ) → code < length starts → IsStartOf code pairs (get_or starts code 0)

-- exactly the pairs of this code, in their order
pub record IsPartOfCode (code : ℕ) (pairs part : List CodePair) : Type 0 where
  pub ascending : AllPairs (λ p q. p.rule < q.rule) part
  pub exact : (rule : ℕ) → Any (λ p. p.rule ≡ rule) part ↔ Contains pairs (record { code = code; rule = rule })

-- the number of pairs of this code at the front, where one of another code or none follows
pub record IsFrontOf (code : ℕ) (pairs : List CodePair) (count : ℕ) : Type 0 where
  pub inside : count ≤ length pairs
  pub same : (k : ℕ) (pair : CodePair) → k < count → slice_get pairs k ≡ Some pair → pair.code ≡ code
  pub ends : (pair : CodePair) → slice_get pairs count ≡ Some pair → pair.code ≢ code

-- the first rule of these pairs that has the act but for its client and code
abbrev pub first_of_pairs : List CodePair → List Rule → Act → Option (ℕ × Rule)
first_of_pairs pairs rules act =
    option_and_then (λ k. option_and_then (λ p. numbered rules p.rule) (slice_get pairs k))
    (position (λ p. rule_at rules p.rule (λ r. has_group_to_value r act)) pairs)

-- the pairs up to a place, that one included, or all of them
abbrev pub tried : Option ℕ → List CodePair → List CodePair
tried None pairs = pairs
tried (Some k) pairs = take (k + 1) pairs

-- what of the act no allow rule of these pairs has
abbrev pub reason_of_pairs : List CodePair → List Rule → Act → Reason
reason_of_pairs pairs rules act =
    if not (list_any (λ p. rule_at rules p.rule (λ r. is_allow r.action && has_group r act)) pairs) then reason.Function
    else if not (list_any (λ p. rule_at rules p.rule (λ r. is_allow r.action && has_group_and_point r act)) pairs) then reason.Point
    else reason.Value

-- what these rules say about an act of their client and code
abbrev pub verdict_by : List CodePair → List Rule → Act → Verdict
verdict_by pairs rules act = decided (first_of_pairs pairs rules act) (reason_of_pairs pairs rules act)
