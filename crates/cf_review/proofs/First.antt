-- The first of all remarks, and the judge's objection.
use Rattle.std.proofs.Common.{option_and_then, pos, ◌≡◌, ◌+◌, ◌-◌, ◌<◌, ◌≤◌, ◌∙◌, ◌==◌, ℕ, List, [], ◌∷◌, ◌++◌, Bool, true, false, cond, if◌then◌else◌, length, map, drop, take, get_or, nat_lt, Option, Some, None, option_map, refl, sym, ap, subst, arith, inl, inr, append-nil, append_assoc, eq-eqb, suc}
use Rattle.std.specs.Option.{option_or}
use Rattle.std.specs.List.{AllByRecursion, filter}
use Rattle.std.specs.List.Sorted.{IsNonDecreasingBy}
use Rattle.std.proofs.lemmas.Bool.{cases_lt, cond-false, cond-true, le-ltb, lt-ltb}
use Rattle.std.proofs.lemmas.Bool.Decides.{nat_tests}
use Rattle.std.proofs.lemmas.List.{get_or-drop, length-drop}
use Rattle.std.proofs.lemmas.List.Sorted.{IsNonDecreasingBy-drop}
use Rattle.cf_lane.specs.Judged.{Judged, in_turn}
use Rattle.cf_lane.specs.Site.{item_place}
use Rattle.cf_lane.specs.declared.fate.Fate.{Fate}
use Rattle.cf_lane.specs.declared.fate.Fate.TheVariants as fate
use Rattle.cf_policy.specs.Site.{SiteValue, site_from}
use Rattle.cf_policy.specs.declared.Asset.{Asset}
use Rattle.cf_watch.specs.FlowValue.{FlowValue}
use Rattle.cf_watch.specs.declared.flow.Conflict.{Conflict as Conflict_}
use Rattle.cf_judge.specs.Objections.{AreReadBy, IsReadBy, Reading, earlier, first_wrong, objected, objection_in, objection_of, objection_to, sooner, wrong_by, wrong_by_fate}
use Rattle.cf_judge.specs.Plain.{AreRead, Breaks, Ending, Whole}
use Rattle.cf_judge.specs.declared.Objection.{Objection}
use Rattle.cf_review.proofs.Alls.{all_append}
use Rattle.cf_review.specs.First.{BeginsWithSyn, IsRising, JudgeTellsTheFirst, first_of, objection_about, objection_by}
use Rattle.cf_judge.specs.declared.Complaint.{Complaint}
use Rattle.cf_judge.specs.declared.Complaint.TheVariants as complaint
use Rattle.cf_review.specs.Remark.{Broken, Conflict, Gap, MatterValue, Midstream, Refused, RemarkValue, Stray}
use Rattle.cf_review.specs.declared.remark.TheConstants.{SHOWN}
use Rattle.cf_review.specs.Review.{AreInOrder, conflict_remarks, end_remarks, flow_remarks, is_at, matters, midstream_remarks, octets_by, remark_on, remarks_by, remarks_on, unit_remarks}

-- ---- what is remarked, as the judge tells it

-- of a flow that begins amid its stream, and of a gap, nothing is told; here it stands for some complaint
abbrev complaint_or : MatterValue → Complaint
complaint_or (Refused refusal octets) = complaint.Refused refusal.decider refusal.reason
complaint_or (Stray because) = complaint.Stray because
complaint_or (Broken reason) = complaint.Broken reason
complaint_or (Conflict position) = complaint.Conflict position
complaint_or Midstream = complaint.Conflict (pos 0)
complaint_or (Gap position) = complaint.Conflict position

abbrev told_as : RemarkValue → Objection
told_as r = objection_about r (complaint_or r.what)

abbrev IsObjection : RemarkValue → Type 0
IsObjection r = objection_by r ≡ Some (told_as r)

-- ---- the earliest of objections

abbrev least : List RemarkValue → Option Objection
least [] = None
least (r ∷ rs) = earlier (Some (told_as r)) (least rs)

earlier_none : (o : Option Objection) → earlier o None ≡ o
earlier_none None = refl
earlier_none (Some a) = refl

first_stays : (a b : Objection) → a.at_record ≤ b.at_record → earlier (Some a) (Some b) ≡ Some a
first_stays a b h = rw (le-ltb b.at_record a.at_record h) refl

later_wins : (a b : Objection) → b.at_record < a.at_record → earlier (Some a) (Some b) ≡ Some b
later_wins a b h = rw (lt-ltb b.at_record a.at_record h) refl

earlier_assoc : (x y z : Option Objection) → earlier (earlier x y) z ≡ earlier x (earlier y z)
earlier_assoc None y z = refl
earlier_assoc (Some a) None z = refl
earlier_assoc (Some a) (Some b) None = earlier_none (earlier (Some a) (Some b))
earlier_assoc (Some a) (Some b) (Some c) = grind (arith, nat_tests)

least_append : (xs ys : List RemarkValue) → least (xs ++ ys) ≡ earlier (least xs) (least ys)
least_append [] ys = refl
least_append (x ∷ xs) ys = ap (earlier (Some (told_as x))) (least_append xs ys) ∙ sym (earlier_assoc (Some (told_as x)) (least xs) (least ys))

-- ---- those of one flow, whose units come in the order of the records

-- the first of them, and none is of a record before this one
abbrev IsFirst : (low : ℕ) → Option Objection → List RemarkValue → Type 0
IsFirst low None rs = least rs ≡ None
IsFirst low (Some o) rs = (least rs ≡ Some o) × (low ≤ o.at_record)

first_is : (low : ℕ) (first : Option Objection) (rs : List RemarkValue) → IsFirst low first rs → least rs ≡ first
first_is low None rs is = is
first_is low (Some o) rs is = is.0

lower : (low high : ℕ) (first : Option Objection) (rs : List RemarkValue) → low ≤ high → IsFirst high first rs → IsFirst low first rs
lower low high None rs h is = is
lower low high (Some o) rs h is = (is.0, omega (arith, h, is.1))

before : (low : ℕ) (r : RemarkValue) (first : Option Objection) (rs : List RemarkValue) → low ≤ r.at_record → IsFirst r.at_record first rs → IsFirst low (Some (told_as r)) (r ∷ rs)
before low r None rs h is = (ap (earlier (Some (told_as r))) is, h)
before low r (Some o) rs h is = (ap (earlier (Some (told_as r))) is.0 ∙ first_stays (told_as r) o is.1, h)

-- all bytes came with a record from this one on
abbrev IsFrom : (low : ℕ) → (born : List ℕ) → Type 0
IsFrom low born = (i : ℕ) → i < length born → low ≤ get_or born i 0

module _ (site : SiteValue) (f : FlowValue) where
  by_fate : (low number place : ℕ) (octets : List ℕ) (fate_ : Fate) (j_first : _) (rest : List RemarkValue) → low ≤ number → IsFirst number (option_map (objected f) j_first) rest →
      IsFirst low (option_map (objected f) (option_or (wrong_by_fate number place fate_) j_first)) (map (remark_on f number place) (matters octets fate_) ++ rest)
  by_fate low number place octets (fate.Refused refusal) later rest h is = before low (remark_on f number place (Refused refusal (take SHOWN octets))) (option_map (objected f) later) rest h is
  by_fate low number place octets (fate.Stray because) later rest h is = before low (remark_on f number place (Stray because)) (option_map (objected f) later) rest h is
  by_fate low number place octets fate_ later rest h is = lower low number (option_map (objected f) later) rest h is

  units_first : (low : ℕ) (earlier_ : List Judged) (bytes born : List ℕ) (js : List Judged) (ending : Ending) → length born ≡ length bytes → IsNonDecreasingBy (λ n. n) born → IsFrom low born →
      AreRead site f.client.address earlier_ bytes born js ending → IsFirst low (option_map (objected f) (first_wrong site js ending)) (in_turn (unit_remarks site f) earlier_ js ++ end_remarks f ending)
  units_first low earlier_ bytes born [] Whole sizes rises from are = refl
  units_first low earlier_ bytes born [] (Breaks number reason) sizes rises from (place, breaks, is, number_is) =
      let inside : place < length bytes = breaks.inside in
      let above : low ≤ get_or born place 0 = from place (omega (arith, inside, sizes)) in
      (refl, subst (λ n. low ≤ n) (sym number_is) above)
  units_first low earlier_ bytes born (j ∷ js) ending sizes rises from (unit, n, begins, some, is, has, rest) =
      let inside : n ≤ length bytes = begins.inside in
      let moment : j.moment ≡ get_or born (n - 1) 0 = ap (λ (x : Judged). x.moment) is in
      let above : low ≤ get_or born (n - 1) 0 = from (n - 1) (omega (arith, inside, sizes, some)) in
      let bytes_left : length (drop n bytes) ≡ length bytes - n = length-drop n bytes in
      let born_left : length (drop n born) ≡ length born - n = length-drop n born in
      let next = units_first j.moment (earlier_ ++ j ∷ []) (drop n bytes) (drop n born) js ending (omega (arith, bytes_left, born_left, sizes)) (IsNonDecreasingBy-drop (λ m. m) n born rises)
      (λ i below. let at : get_or (drop n born) i 0 ≡ get_or born (n + i) 0 = get_or-drop n born i 0 in
      let le : get_or born (n - 1) 0 ≤ get_or born (n + i) 0 = rises (n - 1) (n + i) 0 (omega arith) (omega (arith, below, born_left)) in
      omega (arith, at, le, moment)) rest in
      subst (IsFirst low (option_map (objected f) (first_wrong site (j ∷ js) ending)))
      (sym (append_assoc (unit_remarks site f earlier_ j) (in_turn (unit_remarks site f) (earlier_ ++ j ∷ []) js) (end_remarks f ending)))
      (by_fate low j.moment (item_place site j.item) (octets_by site (item_place site j.item) earlier_ j.item) j.fate (first_wrong site js ending) (in_turn (unit_remarks site f) (earlier_ ++ j ∷ []) js ++ end_remarks f ending)
      (omega (arith, moment, above)) next)

  chosen : (b : Bool) (v w : _) → option_map (objected f) (if b then Some w else Some v) ≡ (if b then Some (objected f w) else Some (objected f v))
  chosen true v w = refl
  chosen false v w = refl

  by_conflict : (c : Option Conflict_) (first : _) (rs : List RemarkValue) → least rs ≡ option_map (objected f) first →
      option_map (objected f) (sooner (option_map wrong_by c) first) ≡ least (conflict_remarks f c ++ rs)
  by_conflict None first rs e = sym e
  by_conflict (Some c) None rs e = sym (ap (earlier (Some (objected f (wrong_by c)))) e)
  by_conflict (Some c) (Some w) rs e = chosen (nat_lt w.number c.at_record) (wrong_by c) w ∙ sym (ap (earlier (Some (objected f (wrong_by c)))) e)

  flow_first : (js : List Judged) (ending : Ending) → BeginsWithSyn f → IsRising f → AreRead site f.client.address [] f.bytes f.born js ending → objection_of site f js ending ≡ least (flow_remarks site f js ending)
  flow_first js ending syn rising are =
      let u = units_first 0 [] f.bytes f.born js ending rising.count rising.rises (λ i below. omega arith) are in
      let items = in_turn (unit_remarks site f) [] js ++ end_remarks f ending in
      by_conflict f.conflict (first_wrong site js ending) items (first_is 0 (option_map (objected f) (first_wrong site js ending)) items u)
      ∙ ap (λ m. least (midstream_remarks f m ++ (conflict_remarks f f.conflict ++ items))) (sym syn)

  -- each of them is an objection
  abbrev Objections : List RemarkValue → Type 0
  Objections rs = AllByRecursion IsObjection rs

  by_matters : (number place : ℕ) (octets : List ℕ) (fate_ : Fate) → Objections (map (remark_on f number place) (matters octets fate_))
  by_matters number place octets (fate.Refused refusal) = (refl, tt)
  by_matters number place octets (fate.Stray because) = (refl, tt)
  by_matters number place octets fate_ = tt

  by_units : (earlier_ js : List Judged) → Objections (in_turn (unit_remarks site f) earlier_ js)
  by_units earlier_ [] = tt
  by_units earlier_ (j ∷ js) = all_append IsObjection (unit_remarks site f earlier_ j) (in_turn (unit_remarks site f) (earlier_ ++ j ∷ []) js) (by_matters j.moment (item_place site j.item) (octets_by site (item_place site j.item) earlier_ j.item) j.fate) (by_units (earlier_ ++ j ∷ []) js)

  by_end : (ending : Ending) → Objections (end_remarks f ending)
  by_end Whole = tt
  by_end (Breaks number reason) = (refl, tt)

  by_one_conflict : (c : Option Conflict_) → Objections (conflict_remarks f c)
  by_one_conflict None = tt
  by_one_conflict (Some c) = (refl, tt)

  flow_objections : (js : List Judged) (ending : Ending) → BeginsWithSyn f → Objections (flow_remarks site f js ending)
  flow_objections js ending syn =
      let items = in_turn (unit_remarks site f) [] js ++ end_remarks f ending in
      let rest = all_append IsObjection (conflict_remarks f f.conflict) items (by_one_conflict f.conflict) (all_append IsObjection (in_turn (unit_remarks site f) [] js) (end_remarks f ending) (by_units [] js) (by_end ending)) in
      subst (λ m. Objections (midstream_remarks f m ++ (conflict_remarks f f.conflict ++ items))) (sym syn) rest

-- ---- those of all flows

one_first : (o : Option SiteValue) (r : Reading) → IsReadBy o r → IsRising r.flow → BeginsWithSyn r.flow → objection_in o r ≡ least (remarks_by o r)
one_first None r are rising syn = absurd are
one_first (Some site) r are rising syn = flow_first site r.flow r.judged r.ending syn rising are

one_objects : (o : Option SiteValue) (r : Reading) → BeginsWithSyn r.flow → AllByRecursion IsObjection (remarks_by o r)
one_objects None r syn = tt
one_objects (Some site) r syn = flow_objections site r.flow r.judged r.ending syn

all_object : (assets : List Asset) (rs : List Reading) → AllByRecursion (λ r. BeginsWithSyn r.flow) rs → AllByRecursion IsObjection (remarks_on assets rs)
all_object assets [] syn = tt
all_object assets (r ∷ rs) syn = all_append IsObjection (remarks_by (site_from assets r.flow.asset) r) (remarks_on assets rs) (one_objects (site_from assets r.flow.asset) r syn.0) (all_object assets rs syn.1)

all_first : (assets : List Asset) (first : Option Objection) (rs : List Reading) → AreReadBy assets rs → AllByRecursion (λ r. IsRising r.flow) rs →
    AllByRecursion (λ r. BeginsWithSyn r.flow) rs → objection_to assets first rs ≡ earlier first (least (remarks_on assets rs))
all_first assets first [] are rising syn = sym (earlier_none first)
all_first assets first (r ∷ rs) are rising syn =
    let here = one_first (site_from assets r.flow.asset) r are.0 rising.0 syn.0 in
    all_first assets (earlier first (objection_in (site_from assets r.flow.asset) r)) rs are.1 rising.1 syn.1
    ∙ earlier_assoc first (objection_in (site_from assets r.flow.asset) r) (least (remarks_on assets rs))
    ∙ ap (λ o. earlier first (earlier o (least (remarks_on assets rs)))) here
    ∙ ap (earlier first) (sym (least_append (remarks_by (site_from assets r.flow.asset) r) (remarks_on assets rs)))

-- ---- in the order of their records

itself : (n : ℕ) → (n == n) ≡ true
itself n = eq-eqb n n refl

abbrev AtLeast : ℕ → Option Objection → Type 0
AtLeast low None = Unit {0}
AtLeast low (Some o) = low ≤ o.at_record

module _ {X : Type 0} where
  nothing_behind : (b : Bool) (x : X) (xs : List X) → cond b (x ∷ xs) xs ≡ [] → xs ≡ []
  nothing_behind true x xs e = cc e
  nothing_behind false x xs e = e

  not_nothing : (b : Bool) (x : X) (xs : List X) → b ≡ true → cond b (x ∷ xs) xs ≡ [] → ⊥
  not_nothing b x xs is e = let kept = cond-true b (x ∷ xs) xs is in cc

  kept_first : (b : Bool) (x : X) (xs : List X) → b ≡ true → cond b (x ∷ xs) xs ≡ x ∷ xs
  kept_first b x xs = cond-true b (x ∷ xs) xs

  passed_over : (b : Bool) (x : X) (xs : List X) → b ≡ false → cond b (x ∷ xs) xs ≡ xs
  passed_over b x xs = cond-false b (x ∷ xs) xs

is_least : (low : ℕ) (a : Objection) (o : Option Objection) → low ≤ a.at_record → AtLeast low o → AtLeast low (earlier (Some a) o)
is_least low a None h from = h
is_least low a (Some b) h from =
    elim (cases_lt b.at_record a.at_record) [
      | inl below ↦ subst (AtLeast low) (sym (later_wins a b below)) from
      | inr above ↦ subst (AtLeast low) (sym (first_stays a b above)) h
    ]

stays : (a : Objection) (o : Option Objection) → AtLeast a.at_record o → earlier (Some a) o ≡ Some a
stays a None from = refl
stays a (Some b) from = first_stays a b from

least_from : (low : ℕ) (all : List RemarkValue) → ((n : ℕ) → n < low → filter (is_at n) all ≡ []) → AtLeast low (least all)
least_from low [] none = tt
least_from low (r ∷ rs) none =
    elim (cases_lt r.at_record low) [
      | inl below ↦ absurd (not_nothing (r.at_record == r.at_record) r (filter (is_at r.at_record) rs) (itself r.at_record) (none r.at_record below))
      | inr above ↦ is_least low (told_as r) (least rs) above (least_from low rs (λ n h. nothing_behind (r.at_record == n) r (filter (is_at n) rs) (none n h)))
    ]

least_is : (t : RemarkValue) (more all : List RemarkValue) → ((n : ℕ) → n < t.at_record → filter (is_at n) all ≡ []) → filter (is_at t.at_record) all ≡ t ∷ more →
    least all ≡ Some (told_as t)
least_is t more [] none some = cc some
least_is t more (r ∷ rs) none some =
    let behind : (n : ℕ) → n < t.at_record → filter (is_at n) rs ≡ [] = λ n h. nothing_behind (r.at_record == n) r (filter (is_at n) rs) (none n h) in
    elim (cases_lt r.at_record t.at_record) [
      | inl below ↦ absurd (not_nothing (r.at_record == r.at_record) r (filter (is_at r.at_record) rs) (itself r.at_record) (none r.at_record below))
      | inr above ↦ elim (cases_lt t.at_record r.at_record) [
        | inl later ↦
            (let other : (r.at_record == t.at_record) ≡ false = grind (arith, nat_tests, later) in
            let next = least_is t more rs behind (sym (passed_over (r.at_record == t.at_record) r (filter (is_at t.at_record) rs) other) ∙ some) in
            ap (earlier (Some (told_as r))) next ∙ later_wins (told_as r) (told_as t) later)
        | inr low ↦
            (let at : r.at_record ≡ t.at_record = omega (arith, above, low) in
            let same : (r.at_record == t.at_record) ≡ true = eq-eqb r.at_record t.at_record at in
            let both : r ∷ filter (is_at t.at_record) rs ≡ t ∷ more = sym (kept_first (r.at_record == t.at_record) r (filter (is_at t.at_record) rs) same) ∙ some in
            let is : r ≡ t = cc in
            stays (told_as r) (least rs) (subst (λ n. AtLeast n (least rs)) (sym at) (least_from t.at_record rs behind)) ∙ ap (λ (x : RemarkValue). Some (told_as x)) is)
      ]
    ]

none_below : (low n : ℕ) (xs : List RemarkValue) → n < low → ((i : ℕ) (d : RemarkValue) → i < length xs → low ≤ (get_or xs i d).at_record) → filter (is_at n) xs ≡ []
none_below low n [] h from = refl
none_below low n (x ∷ xs) h from =
    let above : low ≤ x.at_record = from 0 x (omega arith) in
    let other : (x.at_record == n) ≡ false = grind (arith, nat_tests, above, h) in
    passed_over (x.at_record == n) x (filter (is_at n) xs) other ∙ none_below low n xs h (λ i d below. from (suc i) d (omega (arith, below)))

told_first : (all told : List RemarkValue) → AreInOrder all told → least all ≡ option_map told_as (first_of told)
told_first [] [] o = refl
told_first (r ∷ rs) [] o = absurd (not_nothing (r.at_record == r.at_record) r (filter (is_at r.at_record) rs) (itself r.at_record) (sym (o.of_each r.at_record)))
told_first all (t ∷ ts) o =
    least_is t (filter (is_at t.at_record) ts) all
    (λ n h. sym (o.of_each n) ∙ none_below t.at_record n (t ∷ ts) h (λ i d below. o.rising 0 i d (omega arith) below))
    (sym (o.of_each t.at_record) ∙ kept_first (t.at_record == t.at_record) t (filter (is_at t.at_record) ts) (itself t.at_record))

kept_by : (b : Bool) (x : RemarkValue) (xs : List RemarkValue) → IsObjection x → AllByRecursion IsObjection xs → AllByRecursion IsObjection (cond b (x ∷ xs) xs)
kept_by true x xs h a = (h, a)
kept_by false x xs h a = a

kept_all : (p : RemarkValue → Bool) (xs : List RemarkValue) → AllByRecursion IsObjection xs → AllByRecursion IsObjection (filter p xs)
kept_all p [] a = tt
kept_all p (x ∷ xs) a = kept_by (p x) x (filter p xs) a.0 (kept_all p xs a.1)

first_objects : (all told : List RemarkValue) → AreInOrder all told → AllByRecursion IsObjection all → option_map told_as (first_of told) ≡ option_and_then objection_by (first_of told)
first_objects all [] o each = refl
first_objects all (t ∷ ts) o each =
    let kept : AllByRecursion IsObjection (filter (is_at t.at_record) all) = kept_all (is_at t.at_record) all each in
    let is : filter (is_at t.at_record) all ≡ t ∷ filter (is_at t.at_record) ts = sym (o.of_each t.at_record) ∙ kept_first (t.at_record == t.at_record) t (filter (is_at t.at_record) ts) (itself t.at_record) in
    sym (subst (AllByRecursion IsObjection) is kept).0

pub tells_the_first : JudgeTellsTheFirst
tells_the_first assets readings told are rising syn in_order =
    let order : AreInOrder (remarks_on assets readings) told = subst (λ rs. AreInOrder rs told) (append-nil (remarks_on assets readings)) in_order in
    all_first assets None readings are rising syn ∙ told_first (remarks_on assets readings) told order
    ∙ first_objects (remarks_on assets readings) told order (all_object assets readings syn)
