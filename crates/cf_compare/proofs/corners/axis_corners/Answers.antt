use Rattle.std.proofs.Common.{◌≡◌, ◌++◌, ◌∷◌, [], map, rules}
use Rattle.std.specs.Prelude.{filter, flat_map}
use Rattle.std.specs.Ordering.{int_eq}
use Rattle.std.proofs.lemmas.List.Filters.{dedup_is}
use Rattle.cf_compare.specs.Cells.{is_on, turns, stated_spans, lowest}
use Rattle.cf_compare.proofs.CornerLists.{gathered, corners_of}
use Rattle.cf_compare.proofs.corners.axis_corners.Goals as goal

pub returns : goal.returns
returns c =
    let ours = map (λ r. r.now) c.args.ours.now in
    let other = map (λ r. r.now) c.args.other.now in
    let one : c.push_on.new.numbers.items ≡ [] ++ filter (is_on c.args.axis) (lowest c.args.axis ∷ []) = search rules in
    let two : c.push_rules.new.numbers.items ≡ c.push_on.new.numbers.items ++ filter (is_on c.args.axis) (flat_map turns (stated_spans c.args.axis (map (λ r. r.now) c.args.ours.now))) = search rules in
    let three : c.push_rules-2.new.numbers.items ≡ c.push_rules.new.numbers.items ++ filter (is_on c.args.axis) (flat_map turns (stated_spans c.args.axis (map (λ r. r.now) c.args.other.now))) = search rules in
    corners_of c.args.axis (ours ++ other) c.push_rules-2.new.numbers.items c.sort_unstable.new.self.items c.dedup.new.self.items
    (gathered c.args.axis ours other c.push_on.new.numbers.items c.push_rules.new.numbers.items c.push_rules-2.new.numbers.items one two three)
    c.sort_unstable.ensures.permutation c.sort_unstable.ensures.sorted (dedup_is int_eq _ _ c.dedup.ensures.filtered)
