-- Acts of a request that are judged together.
use Rattle.std.proofs.Math.Bool.{or_comm}
use Rattle.std.proofs.lemmas.List.Folds.{list_any_more}
use Rattle.std.proofs.Common.{get_or, take, ◌||◌, ◌≡◌, ℕ, ◌+◌, ◌-◌, ◌<◌, ◌≤◌, ◌∙◌, List, Some, None, Bool, true, false, length, drop, slice_get, refl, sym, ap, subst, arith, zero, suc}
use mathlib.Core.Logic.{⊎_elim}
use Rattle.std.proofs.lemmas.Bool.{cases_lt, cases_Bool}
use Rattle.std.proofs.lemmas.Option.{slice_get-get_or, same_Some}
use Rattle.cf_modbus.proofs.ActLists.{count_of_acts, first_act, second_act, no_value_at}
use Rattle.cf_modbus.specs.Acts.{acts, group_of, value_of}
use Rattle.cf_modbus.specs.Request.{RequestValue, form_of, IsRead}
use Rattle.cf_policy.specs.Run.{HasOneVerdict, TakesAnyValue, at_point}
use Rattle.cf_policy.specs.Verdict.{verdict_of}
use Rattle.cf_policy.specs.declared.Asset.{Asset}
use Rattle.cf_policy.specs.declared.Verdict.{Verdict}
use Rattle.cf_policy.specs.declared.Verdict.TheVariants as verdict
use Rattle.cf_view.specs.declared.Act.{Act}
use Rattle.cf_lane.proofs.Commands.{allowed_at}
use Rattle.cf_lane.specs.Acts.{first_refusal, is_by}
use Rattle.cf_lane.specs.Rates.{Says, is_place, rated_place, said}
use Rattle.cf_policy.specs.declared.Rate.{Rate}
use Rattle.std.specs.List.{list_any}
use Rattle.cf_lane.specs.Rings.{is_spent_by, says_by}
use Rattle.cf_lane.specs.Run.{AreRun, HaveVerdict}
use Rattle.cf_lane.specs.declared.rules.Rules.{Rules}

abbrev first_of : RequestValue → ℕ → Act
first_of r i = record { code = r.code; group = group_of (form_of r.code); point = r.start + i; value = value_of (form_of r.code) r.values i }

abbrev second_of : RequestValue → ℕ → Act
second_of r i = record { code = r.code; group = 0; point = r.second + (i - r.quantity); value = None }

module _ (r : RequestValue) (i : ℕ) (act : Act) (here : slice_get (acts r) i ≡ Some act) where
  is_first : i < r.quantity → first_of r i ≡ act
  is_first lt = same_Some _ _ (sym (first_act r i lt) ∙ here)

  is_second : r.quantity ≤ i → i < length (acts r) → second_of r i ≡ act
  is_second past inside = same_Some _ _ (sym (second_act r i past (omega (arith, inside, count_of_acts r))) ∙ here)

  pub has_code : i < length (acts r) → act.code ≡ r.code
  has_code inside =
      ⊎_elim (λ lt. ap (λ a. a.code) (sym (is_first lt))) (λ past. ap (λ a. a.code) (sym (is_second past inside))) (cases_lt i r.quantity)

  -- the acts after the first points are one run
  pub second_run : (open_value : Bool) → r.quantity ≤ i → i < length (acts r) → AreRun (acts r) i (length (acts r) - 1) act open_value
  second_run open_value past inside = subst (λ a. AreRun (acts r) i (length (acts r) - 1) a open_value) (is_second past inside)
      (λ j from to.
      let at : slice_get (acts r) j ≡ Some (second_of r j) = second_act r j (omega (arith, past, from)) (omega (arith, inside, to, count_of_acts r)) in
      let n : r.second + (j - r.quantity) ≡ r.second + (i - r.quantity) + (j - i) = omega (arith, past, from) in
      (None, at ∙ ap (λ p. Some (record { code = r.code; group = 0; point = p; value = None })) n, λ e. refl))

  -- those on the first points are one, where their values are left open or there are none
  pub first_run : (open_value : Bool) → i < r.quantity → (open_value ≡ false → act.value ≡ None) → AreRun (acts r) i (r.quantity - 1) act open_value
  first_run open_value lt none = subst (λ a. AreRun (acts r) i (r.quantity - 1) a open_value) (is_first lt)
      (λ j from to.
      let at : slice_get (acts r) j ≡ Some (first_of r j) = first_act r j (omega (arith, lt, to)) in
      let n : r.start + j ≡ r.start + i + (j - i) = omega (arith, from) in
      let own : open_value ≡ false → value_of (form_of r.code) r.values i ≡ None = λ e. ap (λ a. a.value) (is_first lt) ∙ none e in (
        value_of (form_of r.code) r.values j,
        at ∙ ap (λ p. Some (record { code = r.code; group = group_of (form_of r.code); point = p; value = value_of (form_of r.code) r.values j })) n,
        λ e. no_value_at r i j (own e) ∙ sym (own e),
      ))

  -- an act is a run
  pub one_run : (open_value : Bool) → AreRun (acts r) i i act open_value
  one_run open_value = λ j from to.
      let e : i ≡ j = omega (arith, from, to) in
      let n : act.point ≡ act.point + (j - i) = omega (arith, from, to) in
      (act.value, subst (λ k. slice_get (acts r) k ≡ Some act) e here ∙ ap (λ p. Some (record act { point = p })) n, λ f. refl)

module _ (r : RequestValue) (read : IsRead r) (i : ℕ) (act : Act) (here : slice_get (acts r) i ≡ Some act) where
  pub first_fits : i < r.quantity → act.point + (r.quantity - 1 - i) < 65536
  first_fits lt = let e : act.point ≡ r.start + i = ap (λ a. a.point) (sym (is_first r i act here lt)) in omega (arith, e, lt, read.2.0)

  pub second_fits : r.quantity ≤ i → i < length (acts r) → act.point + (length (acts r) - 1 - i) < 65536
  second_fits past inside =
      let e : act.point ≡ r.second + (i - r.quantity) = ap (λ a. a.point) (sym (is_second r i act here past inside)) in omega (arith, e, past, inside, read.2.1, count_of_acts r)

-- where one verdict is known of the points of a run, its acts have it
pub run_has : (asset : Asset) (client : ℕ) (list : List Act) (first last reached : ℕ) (act : Act) (open_value : Bool) (v : Verdict)
    → AreRun list first last act open_value → (open_value ≡ true → TakesAnyValue asset client act.code)
    → HasOneVerdict asset client act reached v → act.point ≤ reached → reached ≤ act.point + (last - first) → first ≤ last
    → HaveVerdict (verdict_of asset client) list first (first + (reached - act.point) + 1) v
run_has asset client list first last reached act open_value v run free one above below ordered = λ j other from to is.
    let r = run j from (omega (arith, to, above, below, ordered)) in
    let point : ℕ = act.point + (j - first) in
    let same : Some (record { code = act.code; group = act.group; point = point; value = r.0 }) ≡ Some other = sym r.1 ∙ is in
    let there : verdict_of asset client (at_point act point) ≡ v = one point (omega arith) (omega (arith, from, to, above)) in
    let valued : verdict_of asset client (record { code = act.code; group = act.group; point = point; value = r.0 }) ≡ verdict_of asset client (at_point act point) =
    ⊎_elim
    (λ yes. free yes (at_point act point) r.0 refl)
    (λ no. ap (λ w. verdict_of asset client (record { code = act.code; group = act.group; point = point; value = w })) (r.2 no))
    (cases_Bool open_value) in
    subst (λ a. verdict_of asset client a ≡ v) (same_Some _ _ same) (valued ∙ there)

-- what the policy says of each act of a run, by the verdict that they have
pub said_run : (asset : Asset) (client : ℕ) (rules : Rules) (moment : ℕ) (list : List Act) (from to : ℕ) (v now : Verdict) → now ≡ said (is_spent_by rules.rings.items moment) v →
    HaveVerdict (verdict_of asset client) list from to v → HaveVerdict (says_by asset client rules moment) list from to now
said_run asset client rules moment list from to v now e have = λ j act above below at. ap (said (is_spent_by rules.rings.items moment)) (have j act above below at) ∙ sym e

pub one_has : (says : Says) (list : List Act) (i : ℕ) (act : Act) (v : Verdict) → slice_get list i ≡ Some act → v ≡ says act → HaveVerdict says list i (i + 1) v
one_has says list i act v here e = λ j other from to is.
    let k : j ≡ i = omega (arith, from, to) in
    let same : Some other ≡ Some act = sym is ∙ ap (slice_get list) k ∙ here in
    ap says (same_Some other act same) ∙ sym e

no_act : Act
no_act = record { code = 0; group = 0; point = 0; value = None }

-- acts that are allowed leave the decision to what follows them
allowed_run : (says : Says) (list : List Act) (i n m : ℕ) → HaveVerdict says list i (i + n) (verdict.Allow m) → i + n ≤ length list
    → first_refusal says (drop i list) ≡ first_refusal says list → first_refusal says (drop (i + n) list) ≡ first_refusal says list
allowed_run says list i zero m have inside before =
    let e : i ≡ i + 0 = omega arith in
    subst (λ k. first_refusal says (drop k list) ≡ first_refusal says list) e before
allowed_run says list i (suc n) m have inside before =
    let earlier = allowed_run says list i n m (λ j act from to at. have j act from (omega (arith, to)) at) (omega (arith, inside)) before in
    let act = get_or list (i + n) no_act in
    let at : slice_get list (i + n) ≡ Some act = slice_get-get_or list (i + n) no_act (omega (arith, inside)) in
    let e : i + n + 1 ≡ i + suc n = omega arith in
    subst (λ k. first_refusal says (drop k list) ≡ first_refusal says list) e
    (allowed_at says list (i + n) act at earlier m (sym (have (i + n) act (omega arith) (omega arith) at)))

pub allowed_to : (says : Says) (list : List Act) (from to m : ℕ) (v : Verdict) → HaveVerdict says list from to v → v ≡ verdict.Allow m → from ≤ to → to ≤ length list
    → first_refusal says (drop from list) ≡ first_refusal says list → first_refusal says (drop to list) ≡ first_refusal says list
allowed_to says list from to m v have allows ordered inside before =
    let e : from + (to - from) ≡ to = omega (arith, ordered) in
    subst (λ k. first_refusal says (drop k list) ≡ first_refusal says list) e
    (allowed_run says list from (to - from) m (λ j act below above at. have j act below (omega (arith, above, ordered)) at ∙ allows) (omega (arith, ordered, inside)) before)

-- ---- the rated rules that a run used

-- what one act of a run marks, the others do not change
or_again : (own before : Bool) → (own || (own || before)) ≡ (own || before)
or_again true before = refl
or_again false before = refl

one_more : (p : Act → Bool) (list : List Act) (i : ℕ) (d : Act) → i < length list → list_any p (take (i + 1) list) ≡ (p (get_or list i d) || list_any p (take i list))
one_more p list i d inside = list_any_more p list i d inside ∙ or_comm (list_any p (take i list)) (p (get_or list i d))

marked_run : (all : List (ℕ × Rate)) (says : Says) (list : List Act) (i n m place : ℕ) → HaveVerdict says list i (i + suc n) (verdict.Allow m) → i + suc n ≤ length list →
    list_any (λ act. is_by all place (says act)) (take (i + suc n) list)
    ≡ (is_place place (rated_place all m) || list_any (λ act. is_by all place (says act)) (take i list))
marked_run all says list i zero m place have inside =
    let p : Act → Bool = λ act. is_by all place (says act) in
    let own = is_place place (rated_place all m) in
    let at : slice_get list i ≡ Some (get_or list i no_act) = slice_get-get_or list i no_act (omega (arith, inside)) in
    let e : i + 1 ≡ i + suc zero = omega arith in
    subst (λ k. list_any p (take k list) ≡ (own || list_any p (take i list))) e
    (one_more p list i no_act (omega (arith, inside)) ∙ ap (λ b. b || list_any p (take i list)) (ap (is_by all place) (have i (get_or list i no_act) (omega arith) (omega arith) at)))
marked_run all says list i (suc n) m place have inside =
    let p : Act → Bool = λ act. is_by all place (says act) in
    let own = is_place place (rated_place all m) in
    let k : ℕ = i + suc n in
    let earlier = marked_run all says list i n m place (λ j act from to at. have j act from (omega (arith, to)) at) (omega (arith, inside)) in
    let at : slice_get list k ≡ Some (get_or list k no_act) = slice_get-get_or list k no_act (omega (arith, inside)) in
    let e : k + 1 ≡ i + suc (suc n) = omega arith in
    subst (λ x. list_any p (take x list) ≡ (own || list_any p (take i list))) e
    (one_more p list k no_act (omega (arith, inside)) ∙ ap (λ b. b || list_any p (take k list)) (ap (is_by all place) (have k (get_or list k no_act) (omega arith) (omega arith) at))
    ∙ ap (λ b. own || b) earlier ∙ or_again own (list_any p (take i list)))

pub used_to : (all rings : List (ℕ × Rate)) (says : Says) (list : List Act) (from to m : ℕ) (v : Verdict) (used now : List Bool) → rings ≡ all → HaveVerdict says list from to v → v ≡ verdict.Allow m →
    from < to → to ≤ length list →
    ((place : ℕ) → get_or now place false ≡ (is_place place (rated_place rings m) || get_or used place false)) →
    ((place : ℕ) → get_or used place false ≡ list_any (λ act. is_by all place (says act)) (take from list)) →
    (place : ℕ) → get_or now place false ≡ list_any (λ act. is_by all place (says act)) (take to list)
used_to all rings says list from to m v used now same have allows more inside marks before place =
    let p : Act → Bool = λ act. is_by all place (says act) in
    let own = is_place place (rated_place all m) in
    let n : ℕ = to - from - 1 in
    let e : from + suc n ≡ to = omega (arith, more) in
    let run = marked_run all says list from n m place (λ j act below above at. have j act below (omega (arith, above, more)) at ∙ allows) (omega (arith, more, inside)) in
    marks place ∙ ap (λ ps. is_place place (rated_place ps m) || get_or used place false) same ∙ ap (λ b. own || b) (before place)
    ∙ sym (subst (λ k. list_any p (take k list) ≡ (own || list_any p (take from list))) e run)
