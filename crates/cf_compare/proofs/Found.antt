-- What the search over corners finds is the least of all differences of a code.
use Rattle.std.proofs.Common.{◌≡◌, ◌⊎◌, ℕ, ◌<◌, ℤ, pos, nat_abs, ◌≤ℤ◌, ◌<ℤ◌, int_le, Bool, true, false, ◌&&◌, List, [], ◌∷◌, ◌++◌, Option, Some, None, refl, sym, ap, subst, ◌∙◌, arith, inl, inr}
use mathlib.Core.Logic.{⊎_elim}
use Rattle.std.specs.Prelude.{All, Contains, filter, flat_map, IfSome}
use Rattle.std.specs.Option.{option_map_or}
use Rattle.std.specs.Set.{is_member}
use Rattle.std.specs.List.{list_any}
use Rattle.std.specs.Ordering.{int_eq}
use Rattle.std.proofs.lemmas.Int.{ints}
use Rattle.std.proofs.lemmas.Bool.{and_from, and_parts, cases_Bool, cases_lt}
use Rattle.std.proofs.lemmas.Cmp.{int_eq_equiv}
use Rattle.std.proofs.lemmas.Grind.{flat_map-append}
use Rattle.std.proofs.lemmas.List.Elements.{All-append, All-contains, All-contains_itself, All-weaker, Contains-append_left, Contains-append_right, filter-append}
use Rattle.std.proofs.lemmas.List.Folds.{list_any-append, list_any_at}
use Rattle.std.proofs.lemmas.Map.Made.{is_member-filter}
use Rattle.cf_view.specs.declared.base.Act.{Act}
use Rattle.cf_policy.specs.declared.policy.Span.{Span}
use Rattle.cf_policy.specs.declared.policy.Rule.{Rule}
use Rattle.cf_policy.specs.declared.policy.Asset.{Asset}
use Rattle.cf_policy.specs.Verdict.{takes, takes_value, has_act, is_allow}
use Rattle.cf_policy.specs.Within.{IsSpanWithin, IsRuleWithin, IsAssetWithin, highest_address, highest_code, highest_group, highest_point, lowest_value, highest_value}
use Rattle.cf_compare.specs.declared.axis.Axis.{Axis}
use Rattle.cf_compare.specs.declared.axis.Axis.TheVariants.{Clients, Groups, Points, Values}
use Rattle.cf_compare.specs.declared.corners.Cell.{Cell}
use Rattle.cf_compare.specs.declared.corners.Corners.{Corners}
use Rattle.cf_compare.specs.Cells.{lowest, highest, axis_spans, stated_spans, has_code, is_on, turns, corner_numbers}
use Rattle.cf_compare.specs.Corners.{AreCorners, AreAllCorners}
use Rattle.cf_compare.specs.Search.{rules_taking, differs, cell_at, point_cell, group_cell, client_cell, first_cell}
use Rattle.cf_compare.specs.Inclusion.{IsDifference, IsLessOr, IsValueUpTo}
use Rattle.cf_compare.specs.Parts.{IsCodeSearched}
use Rattle.cf_compare.proofs.Lists.{find_agree}
use Rattle.cf_compare.proofs.CornerLists.{int_same}
use Rattle.cf_compare.proofs.Floor.{floor, floor_below, floor_above, floor_in, takes_same}
use Rattle.cf_compare.proofs.SameRules.{allows, allows_is, left, differs_is}
use Rattle.cf_compare.proofs.Least.{IsLeast, least_pair, AmongValues, least_value}

spans_within : (axis : Axis) (r : Rule) → IsRuleWithin r → All (IsSpanWithin (lowest axis) (highest axis)) (axis_spans axis r)
spans_within Clients r w = w.clients.each
spans_within Groups r w = w.groups.each
spans_within Points r w = w.points.each
spans_within Values r w = w.values.each

value_takes : (spans : List Span) (n : ℤ) → takes_value spans (Some n) ≡ takes spans n
value_takes [] n = refl
value_takes (s ∷ ss) n = refl

on_axis : (axis : Axis) (spans : List Span) (x : ℤ) → is_member int_eq (corner_numbers axis spans) x ≡ true → is_on axis x ≡ true
on_axis axis spans x h =
    (and_parts (is_member int_eq (lowest axis ∷ flat_map turns spans) x) (is_on axis x)
    (sym (is_member-filter int_eq_equiv (is_on axis) x (λ y e. ap (is_on axis) (int_same x y e)) (lowest axis ∷ flat_map turns spans)) ∙ h)).1

then_up : (a b : ℤ) (m n : ℕ) (R S : Type 0) → pos m ≡ a → b ≤ℤ pos n → (R → S) → (a <ℤ b) ⊎ ((a ≡ b) × R) → IsLessOr m n S
then_up a b m n R S e under f h =
    ⊎_elim
    (λ lt. inl (let less : m < n = omega (arith, ints, e, under, lt) in less))
    (λ same. ⊎_elim
    (λ lt. inl lt)
    (λ past. inr ((let level : m ≡ n = let k = same.0 in omega (arith, ints, e, under, past, k) in level), f same.1))
    (cases_lt m n))
    h

-- two assets, the rules of theirs that have a code, and the corners of these
module _ (ours other : Asset) (code : ℕ) (within : IsAssetWithin ours) (within_other : IsAssetWithin other) (corners : Corners) (listed listed_other : List Rule)
    (listed_is : listed ≡ filter (has_code code) ours.rules) (listed_other_is : listed_other ≡ filter (has_code code) other.rules)
    (given : AreAllCorners (listed ++ listed_other) corners) where
  abbrev both : List Rule
  both = ours.rules ++ other.rules

  abbrev coded : List Rule
  coded = filter (has_code code) both

  are : AreAllCorners coded corners
  are = subst (λ l. AreAllCorners l corners) (rw (listed_is, listed_other_is) (sym (filter-append (has_code code) ours.rules other.rules))) given

  each_within : (r : Rule) → Contains both r → IsRuleWithin r
  each_within r here = All-contains IsRuleWithin both r (All-append IsRuleWithin ours.rules other.rules within.rules.each within_other.rules.each) here

  -- where a rule of the code turns, one of all its rules does
  stated : (axis : Axis) (x : ℤ) (rules : List Rule) → list_any (λ r. has_code code r && is_member int_eq (flat_map turns (axis_spans axis r)) x) rules ≡ true
      → is_member int_eq (flat_map turns (stated_spans axis (filter (has_code code) rules))) x ≡ true
  stated axis x [] h = h
  stated axis x (r ∷ rules) h =
      let others = stated_spans axis (filter (has_code code) rules) in
      let more = stated axis x rules in
      let joined = flat_map-append turns (axis_spans axis r) others in
      let either = list_any-append (int_eq x) (flat_map turns (axis_spans axis r)) (flat_map turns others) in
      grind arith

  -- the tests say the same of each rule of the code
  abbrev Agree : (Rule → Bool) → (Rule → Bool) → Type 0
  Agree p q = (r : Rule) → Contains both r → has_code code r ≡ true → p r ≡ q r

  -- a corner at or below a number, which rules of the code take exactly if they take the number
  record IsCornerOf (axis : Axis) (all : List ℤ) (n c : ℤ) : Type 0 where
    among : is_member int_eq all c ≡ true
    under : c ≤ℤ n
    above : lowest axis ≤ℤ c
    same : Agree (λ r. takes (axis_spans axis r) n) (λ r. takes (axis_spans axis r) c)

  corner_of : (axis : Axis) (all : List ℤ) → AreCorners axis coded all → (n : ℤ) → lowest axis ≤ℤ n → n ≤ℤ highest axis → (c : ℤ) × IsCornerOf axis all n c
  corner_of axis all are n low high =
      let spans = stated_spans axis coded in (
        floor axis spans n low high,
        record {
          among = are.exact (floor axis spans n low high) ∙ floor_in axis spans n low high;
          under = floor_below axis spans n low high;
          above = floor_above axis spans n low high;
          same = λ r here has. takes_same axis spans n low high (axis_spans axis r) (spans_within axis r (each_within r here))
              (λ x turn. stated axis x both (list_any_at (λ q. has_code code q && is_member int_eq (flat_map turns (axis_spans axis q)) x) both here.0 r here.1
              (rw here.2 (and_from (has_code code r) _ has turn))));
        },
      )

  -- the same of a value, or of none
  record IsValueCornerOf (value v : Option ℤ) : Type 0 where
    among : AmongValues corners.values.items v
    upto : (w : Option ℤ) → IsValueUpTo w v → IsValueUpTo w value
    same : Agree (λ r. takes_value r.values value) (λ r. takes_value r.values v)

  up_to_corner : (c n : ℤ) → c ≤ℤ n → (w : Option ℤ) → IsValueUpTo w (Some c) → IsValueUpTo w (Some n)
  up_to_corner c n under None h = tt
  up_to_corner c n under (Some m) h = omega (arith, ints, h, under)

  value_corner : (value : Option ℤ) → IfSome value (λ n. (lowest_value ≤ℤ n) × (n ≤ℤ highest_value)) → (v : Option ℤ) × IsValueCornerOf value v
  value_corner None h = (None, record { among = tt; upto = λ w k. k; same = λ r here has. refl })
  value_corner (Some n) h =
      let found = corner_of Values corners.values.items are.values n h.0 h.1 in (
        Some found.0,
        record {
          among = found.1.among;
          upto = up_to_corner found.0 n found.1.under;
          same = λ r here has. value_takes r.values n ∙ (found.1.same r here has ∙ sym (value_takes r.values found.0));
        },
      )

  -- the rules left for a cell differ about its value
  abbrev pub Right : ℤ → ℤ → ℤ → Option ℤ → Type 0
  Right client group point value = differs (left ours.rules code client group point) (left other.rules code client group point) value ≡ true

  abbrev pub AmongPoints : ℤ × Option ℤ → Type 0
  AmongPoints p = (is_member int_eq corners.points.items p.0 ≡ true) × AmongValues corners.values.items p.1

  abbrev pub AmongGroups : ℤ × (ℤ × Option ℤ) → Type 0
  AmongGroups p = (is_member int_eq corners.groups.items p.0 ≡ true) × AmongPoints p.1

  abbrev pub AmongCells : ℤ × (ℤ × (ℤ × Option ℤ)) → Type 0
  AmongCells p = (is_member int_eq corners.clients.items p.0 ≡ true) × AmongGroups p.1

  abbrev pub PointUpTo : ℤ × Option ℤ → ℤ × Option ℤ → Type 0
  PointUpTo p q = (p.0 <ℤ q.0) ⊎ ((p.0 ≡ q.0) × IsValueUpTo p.1 q.1)

  abbrev pub GroupUpTo : ℤ × (ℤ × Option ℤ) → ℤ × (ℤ × Option ℤ) → Type 0
  GroupUpTo p q = (p.0 <ℤ q.0) ⊎ ((p.0 ≡ q.0) × PointUpTo p.1 q.1)

  abbrev pub CellUpTo : ℤ × (ℤ × (ℤ × Option ℤ)) → ℤ × (ℤ × (ℤ × Option ℤ)) → Type 0
  CellUpTo p q = (p.0 <ℤ q.0) ⊎ ((p.0 ≡ q.0) × GroupUpTo p.1 q.1)

  least_cell : IsLeast AmongCells (λ p. Right p.0 p.1.0 p.1.1.0 p.1.1.1) CellUpTo (λ p. cell_at p.0 p.1.0 p.1.1.0 p.1.1.1)
      (first_cell listed listed_other corners.clients.items corners.groups.items corners.points.items corners.values.items)
  least_cell =
      let mine = filter (has_code code) ours.rules in
      let theirs = filter (has_code code) other.rules in
      rw (listed_is, listed_other_is)
      (least_pair AmongGroups (λ client p. Right client p.0 p.1.0 p.1.1) GroupUpTo (λ client p. cell_at client p.0 p.1.0 p.1.1)
      (client_cell mine theirs corners.groups.items corners.points.items corners.values.items) corners.clients.items are.clients.ascending
      (λ client. least_pair AmongPoints (λ group p. Right client group p.0 p.1) PointUpTo (λ group p. cell_at client group p.0 p.1)
      (group_cell client (rules_taking Clients client mine) (rules_taking Clients client theirs) corners.points.items corners.values.items) corners.groups.items are.groups.ascending
      (λ group. least_pair (AmongValues corners.values.items) (λ point v. Right client group point v) IsValueUpTo (λ point v. cell_at client group point v)
      (point_cell client group (rules_taking Groups group (rules_taking Clients client mine)) (rules_taking Groups group (rules_taking Clients client theirs)) corners.values.items) corners.points.items are.points.ascending
      (λ point. least_value (differs (left ours.rules code client group point) (left other.rules code client group point)) (cell_at client group point) corners.values.items are.values.ascending))))

  -- where the two assets differ about an act, a cell at or below it is right
  record IsCellOf (client : ℕ) (act : Act) (p : ℤ × (ℤ × (ℤ × Option ℤ))) : Type 0 where
    among : AmongCells p
    right : Right p.0 p.1.0 p.1.1.0 p.1.1.1
    client_under : p.0 ≤ℤ pos client
    group_under : p.1.0 ≤ℤ pos act.group
    point_under : p.1.1.0 ≤ℤ pos act.point
    value_upto : (w : Option ℤ) → IsValueUpTo w p.1.1.1 → IsValueUpTo w act.value

  not_coded : (r : Rule) (client : ℕ) (act : Act) → act.code ≡ code → has_code code r ≡ false → has_act r client act ≡ false
  not_coded r client act same lacks = grind arith

  same_acts : (rules : List Rule) → ((r : Rule) → Contains rules r → Contains both r) → (client c : ℕ) (act at : Act) → act.code ≡ code → at.code ≡ code
      → Agree (λ r. takes r.clients (pos client)) (λ r. takes r.clients (pos c)) → Agree (λ r. takes r.groups (pos act.group)) (λ r. takes r.groups (pos at.group))
      → Agree (λ r. takes r.points (pos act.point)) (λ r. takes r.points (pos at.point))
      → Agree (λ r. takes_value r.values act.value) (λ r. takes_value r.values at.value)
      → allows (λ r. has_act r client act) rules ≡ allows (λ r. has_act r c at) rules
  same_acts rules in_both client c act at e f clients groups points values =
      let each : (r : Rule) → Contains rules r → has_act r client act ≡ has_act r c at =
      λ r here. ⊎_elim
      (λ has.
      let one = clients r (in_both r here) has in
      let two = groups r (in_both r here) has in
      let three = points r (in_both r here) has in
      let four = values r (in_both r here) has in
      cc)
      (λ lacks. not_coded r client act e lacks ∙ sym (not_coded r c at f lacks))
      (cases_Bool (has_code code r)) in
      ap (λ o. option_map_or (λ r. is_allow r.action) o false) (find_agree (λ r. has_act r client act) (λ r. has_act r c at) rules
      (All-weaker (Contains rules) (λ r. has_act r client act ≡ has_act r c at) each rules (All-contains_itself rules)))

  -- the corner of an axis that begins at 0, as a natural number
  natural_corner : (axis : Axis) (all : List ℤ) → AreCorners axis coded all → pos 0 ≡ lowest axis → (n : ℕ) → pos n ≤ℤ highest axis → (c : ℕ) × IsCornerOf axis all (pos n) (pos c)
  natural_corner axis all are zero_low n high =
      let found = corner_of axis all are (pos n) (subst (λ z. z ≤ℤ pos n) zero_low (omega (arith, ints))) high in
      let from : pos 0 ≤ℤ found.0 = subst (λ z. z ≤ℤ found.0) (sym zero_low) found.1.above in
      let e : found.0 ≡ pos (nat_abs found.0) = omega (arith, ints, from) in
      (nat_abs found.0, subst (IsCornerOf axis all (pos n)) e found.1)

  cell_of : (client : ℕ) (act : Act) → act.code ≡ code → IsDifference ours other client act → (p : ℤ × (ℤ × (ℤ × Option ℤ))) × IsCellOf client act p
  cell_of client act same differs =
      let in_range = differs.in_range in
      let c = natural_corner Clients corners.clients.items are.clients refl client in_range.address in
      let g = natural_corner Groups corners.groups.items are.groups refl act.group in_range.group in
      let p = natural_corner Points corners.points.items are.points refl act.point in_range.point in
      let v = value_corner act.value in_range.value in
      let at : Act = record { code = code; group = g.0; point = p.0; value = v.0 } in
      let mine = same_acts ours.rules (Contains-append_left ours.rules other.rules) client c.0 act at same refl c.1.same g.1.same p.1.same v.1.same in
      let theirs = same_acts other.rules (Contains-append_right ours.rules other.rules) client c.0 act at same refl c.1.same g.1.same p.1.same v.1.same in (
        (pos c.0, (pos g.0, (pos p.0, v.0))),
        record {
          among = (c.1.among, (g.1.among, (p.1.among, v.1.among)));
          right = (differs_is ours other code c.0 g.0 p.0 v.0).1 (
            (allows_is ours c.0 at).1 (sym mine ∙ (allows_is ours client act).0 differs.allowed),
            λ h. differs.refused ((allows_is other client act).1 (theirs ∙ (allows_is other c.0 at).0 h)),
          );
          client_under = c.1.under;
          group_under = g.1.under;
          point_under = p.1.under;
          value_upto = v.1.upto;
        },
      )

  -- no cell is found only where there is no difference
  pub found_none : first_cell listed listed_other corners.clients.items corners.groups.items corners.points.items corners.values.items ≡ None → IsCodeSearched ours other code None
  found_none e client act same differs = let p = cell_of client act same differs in least_cell.none e p.0 p.1.among p.1.right

  -- the numbers of a cell that is found are those of a client and an act
  pub record IsCellInRange (cell : Cell) : Type 0 where
    pub client : (pos 0 ≤ℤ cell.client) × (cell.client ≤ℤ highest_address)
    pub group : (pos 0 ≤ℤ cell.group) × (cell.group ≤ℤ highest_group)
    pub point : (pos 0 ≤ℤ cell.point) × (cell.point ≤ℤ highest_point)
    pub value : IfSome cell.value (λ n. (lowest_value ≤ℤ n) × (n ≤ℤ highest_value))

  -- a corner lies on its axis
  corner_on : (axis : Axis) (all : List ℤ) → AreCorners axis coded all → (n : ℤ) → is_member int_eq all n ≡ true → (lowest axis ≤ℤ n) × (n ≤ℤ highest axis)
  corner_on axis all are n h =
      let on = and_parts (int_le (lowest axis) n) (int_le n (highest axis)) (on_axis axis (stated_spans axis coded) n (sym (are.exact n) ∙ h)) in
      (let low = on.0 in omega (arith, ints, low), let high = on.1 in omega (arith, ints, high))

  value_in_range : (v : Option ℤ) → AmongValues corners.values.items v → IfSome v (λ n. (lowest_value ≤ℤ n) × (n ≤ℤ highest_value))
  value_in_range None h = tt
  value_in_range (Some n) h = corner_on Values corners.values.items are.values n h

  cell_in_range : (p : ℤ × (ℤ × (ℤ × Option ℤ))) → AmongCells p → IsCellInRange (cell_at p.0 p.1.0 p.1.1.0 p.1.1.1)
  cell_in_range p among = record {
    client = corner_on Clients corners.clients.items are.clients p.0 among.0;
    group = corner_on Groups corners.groups.items are.groups p.1.0 among.1.0;
    point = corner_on Points corners.points.items are.points p.1.1.0 among.1.1.0;
    value = value_in_range p.1.1.1 among.1.1.1;
  }

  pub found_in_range : (cell : Cell) → first_cell listed listed_other corners.clients.items corners.groups.items corners.points.items corners.values.items ≡ Some cell → IsCellInRange cell
  found_in_range cell e = let r = least_cell.some cell e in subst IsCellInRange r.3 (cell_in_range r.0 r.1)

  -- the client and the act of a cell
  abbrev pub found_at : Cell → ℕ × Act
  found_at cell = (nat_abs cell.client, record { code = code; group = nat_abs cell.group; point = nat_abs cell.point; value = cell.value })

  found_right : pos code ≤ℤ highest_code → (p : ℤ × (ℤ × (ℤ × Option ℤ))) → AmongCells p → Right p.0 p.1.0 p.1.1.0 p.1.1.1
      → ((u : ℤ × (ℤ × (ℤ × Option ℤ))) → AmongCells u → Right u.0 u.1.0 u.1.1.0 u.1.1.1 → CellUpTo p u)
      → IsCodeSearched ours other code (Some (found_at (cell_at p.0 p.1.0 p.1.1.0 p.1.1.1)))
  found_right is_code p among right least =
      let range = cell_in_range p among in
      let client : ℕ = nat_abs p.0 in
      let group : ℕ = nat_abs p.1.0 in
      let point : ℕ = nat_abs p.1.1.0 in
      let value : Option ℤ = p.1.1.1 in
      let c : pos client ≡ p.0 = let low = range.client.0 in omega (arith, ints, low) in
      let g : pos group ≡ p.1.0 = let low = range.group.0 in omega (arith, ints, low) in
      let q : pos point ≡ p.1.1.0 = let low = range.point.0 in omega (arith, ints, low) in
      let at : Right (pos client) (pos group) (pos point) value =
      subst (λ z. Right z (pos group) (pos point) value) (sym c) (subst (λ z. Right p.0 z (pos point) value) (sym g) (subst (λ z. Right p.0 p.1.0 z value) (sym q) right)) in
      let both = (differs_is ours other code client group point value).0 at in (
        refl,
        record {
          in_range = record {
            address = let high = range.client.1 in omega (arith, ints, high, c);
            code = is_code;
            group = let high = range.group.1 in omega (arith, ints, high, g);
            point = let high = range.point.1 in omega (arith, ints, high, q);
            value = range.value;
          };
          allowed = both.0;
          refused = both.1;
        },
        λ another later same differs.
            let u = cell_of another later same differs in
            inr (
              sym same,
              then_up p.0 u.0.0 client another (GroupUpTo p.1 u.0.1) (IsLessOr group later.group (IsLessOr point later.point (IsValueUpTo value later.value))) c u.1.client_under
                  (then_up p.1.0 u.0.1.0 group later.group (PointUpTo p.1.1 u.0.1.1) (IsLessOr point later.point (IsValueUpTo value later.value)) g u.1.group_under
                  (then_up p.1.1.0 u.0.1.1.0 point later.point (IsValueUpTo value u.0.1.1.1) (IsValueUpTo value later.value) q u.1.point_under (u.1.value_upto value)))
                  (least u.0 u.1.among u.1.right),
            ),
      )

  -- the cell that is found is the first difference
  pub found_some : pos code ≤ℤ highest_code → (cell : Cell) → first_cell listed listed_other corners.clients.items corners.groups.items corners.points.items corners.values.items ≡ Some cell → IsCodeSearched ours other code (Some (found_at cell))
  found_some is_code cell e = let r = least_cell.some cell e in subst (λ x. IsCodeSearched ours other code (Some (found_at x))) r.3 (found_right is_code r.0 r.1 r.2 r.4)
