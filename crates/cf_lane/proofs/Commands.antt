-- Laws of the fate of a command.
use Rattle.std.proofs.lemmas.List.FromFn.{get_or-map-range_with_len, length-map-range_with_len}
use Rattle.cf_lane.specs.Judged.{is_admitted}
use Rattle.cf_lane.specs.Rates.{Says}
use Rattle.cf_lane.specs.declared.fate.Admission.{Admission}
use Rattle.cf_lane.specs.Acts.{admission, by_refusal, fate_of_acts, first_refusal, is_by, refusal_or, used_by}
use Rattle.cf_lane.specs.Passes.{IsAllowedCommand}
use Rattle.cf_lane.specs.Modbus.{HasCommandFate, of_its_acts, of_no_form, of_other_station}
use Rattle.cf_lane.specs.declared.fate.Fate.{Fate}
use Rattle.cf_lane.specs.declared.fate.Refusal.{Refusal}
use Rattle.cf_modbus.proofs.Reading.{one_reading}
use Rattle.cf_modbus.specs.Acts.{acts}
use Rattle.cf_modbus.specs.Adu.{AduValue}
use Rattle.cf_modbus.specs.Request.{RequestValue}
use Rattle.cf_policy.specs.Laws.{IsAllowed}
use Rattle.cf_policy.specs.declared.Rate.{Rate}
use Rattle.cf_policy.specs.declared.Asset.{Asset}
use Rattle.cf_policy.specs.declared.Decider.{Decider}
use Rattle.cf_policy.specs.declared.Verdict.{Verdict}
use Rattle.cf_view.specs.declared.Act.{Act}
use Rattle.cf_view.specs.declared.Reason.{Reason}
use Rattle.std.proofs.Common.{Bool, Err, List, None, Ok, Option, Some, [], add-one, ap, arith, drop, false, get_or, length, refl, replicate, slice_get, subst, suc, sym, take, true, ℕ, ◌+◌, ◌↔◌, ◌∙◌, ◌∷◌, ◌≡◌, ◌≤◌}
use Rattle.std.proofs.lemmas.List.{drop_all, ext_get_or, take_all}
use Rattle.std.specs.List.{AllByRecursion, list_any}
use Rattle.cf_lane.specs.declared.fate.Fate.TheVariants as fate
use Rattle.cf_policy.specs.declared.Verdict.TheVariants as verdict

-- what is left of a list from a place on begins with what stands there
drop_at : (list : List Act) (i : ℕ) (act : Act) → slice_get list i ≡ Some act → drop i list ≡ act ∷ drop (i + 1) list
drop_at (a ∷ list) (suc i) act here = rw (add-one) (drop_at list i act here ∙ rw (add-one) refl)
drop_at list i act here = cc

module _ (says : Says) (list : List Act) (i : ℕ) (act : Act) (here : slice_get list i ≡ Some act)
    (before : first_refusal says (drop i list) ≡ first_refusal says list) where
  -- an act that is allowed leaves the decision to what follows it
  pub allowed_at : (n : ℕ) → verdict.Allow n ≡ says act → first_refusal says (drop (i + 1) list) ≡ first_refusal says list
  allowed_at n allows =
      ap (λ v. refusal_or act v (first_refusal says (drop (i + 1) list))) allows
      ∙ sym (ap (first_refusal says) (drop_at list i act here)) ∙ before

  -- the first act that is not allowed decides
  pub refused_at : (used : Admission) (d : Decider) (why : Reason) → verdict.Refuse d why ≡ says act →
      fate.Refused (record { decider = d; reason = why; act = act }) ≡ by_refusal used (first_refusal says list)
  refused_at used d why refuses =
      ap (λ v. by_refusal used (refusal_or act v (first_refusal says (drop (i + 1) list)))) refuses
      ∙ ap (by_refusal used) (sym (ap (first_refusal says) (drop_at list i act here)) ∙ before)

-- where no act refused up to the end, all are admitted
pub admitted_at_end : (says : Says) (list : List Act) (i : ℕ) (used : Admission) → length list ≤ i → first_refusal says (drop i list) ≡ first_refusal says list →
    fate.Admitted used ≡ by_refusal used (first_refusal says list)
admitted_at_end says list i used past before = ap (by_refusal used) (ap (first_refusal says) (sym (drop_all i list past)) ∙ before)

-- ---- the rated rules that were used

none_marked : (n place : ℕ) → get_or (replicate n false) place false ≡ false
none_marked (suc n) (suc place) = none_marked n place
none_marked n place = refl

-- at first none is
pub none_used : (all : List (ℕ × Rate)) (says : Says) (list : List Act) (used : List Bool) → used ≡ replicate 16 false → (place : ℕ) →
    get_or used place false ≡ list_any (λ act. is_by all place (says act)) (take 0 list)
none_used all says list used is place = ap (λ u. get_or u place false) is ∙ none_marked 16 place

-- at the end those that are were used
pub all_used : (all : List (ℕ × Rate)) (says : Says) (list : List Act) (i : ℕ) (used : List Bool) → length list ≤ i → length used ≡ 16 →
    ((place : ℕ) → get_or used place false ≡ list_any (λ act. is_by all place (says act)) (take i list)) → used ≡ used_by all says list
all_used all says list i used past size marks =
    let f : ℕ → Bool = λ place. list_any (λ act. is_by all place (says act)) list in
    ext_get_or false used (used_by all says list) (size ∙ sym (length-map-range_with_len f 0 16))
    (λ place inside. marks place ∙ ap (list_any (λ act. is_by all place (says act))) (take_all i list past)
    ∙ sym (get_or-map-range_with_len f 0 16 place place false (omega (arith, inside, size)) (omega arith)))

-- ---- admitted commands

none_refused : (used : Admission) (x : Option Refusal) → is_admitted (by_refusal used x) ≡ true → x ≡ None
none_refused used None e = refl
none_refused used (Some x) e = cc

allowed_first : (act : Act) (v : Verdict) (later : Option Refusal) → refusal_or act v later ≡ None → IsAllowed v × (later ≡ None)
allowed_first act (verdict.Allow n) later e = (tt, e)
allowed_first act (verdict.Refuse d why) later e = cc

first_allowed : (act : Act) (v : Verdict) (later : Option Refusal) → IsAllowed v → later ≡ None → refusal_or act v later ≡ None
first_allowed act (verdict.Allow n) later a e = e
first_allowed act (verdict.Refuse d why) later a e = absurd a

each_allowed : (says : Says) (list : List Act) → first_refusal says list ≡ None → AllByRecursion (λ act. IsAllowed (says act)) list
each_allowed says [] e = tt
each_allowed says (act ∷ list) e =
    let first = allowed_first act (says act) (first_refusal says list) e in (first.0, each_allowed says list first.1)

no_refusal : (says : Says) (list : List Act) → AllByRecursion (λ act. IsAllowed (says act)) list → first_refusal says list ≡ None
no_refusal says [] all = refl
no_refusal says (act ∷ list) all = first_allowed act (says act) (first_refusal says list) all.0 (no_refusal says list all.1)

-- a command is admitted exactly where each act is allowed
pub to_allowed : (asset : Asset) (says : Says) (list : List Act) → is_admitted (fate_of_acts asset says list) ≡ true → AllByRecursion (λ act. IsAllowed (says act)) list
to_allowed asset says list e = each_allowed says list (none_refused (admission asset says list) (first_refusal says list) e)

pub from_allowed : (asset : Asset) (says : Says) (list : List Act) → AllByRecursion (λ act. IsAllowed (says act)) list → is_admitted (fate_of_acts asset says list) ≡ true
from_allowed asset says list all = ap (λ x. is_admitted (by_refusal (admission asset says list) x)) (no_refusal says list all)

pub admits_what_is_allowed : (asset : Asset) (says : Says) (a : AduValue) (f : Fate) → HasCommandFate asset says a f → (is_admitted f ≡ true) ↔ IsAllowedCommand asset says a
admits_what_is_allowed asset says a f (of_other_station station is) = (λ e. cc (e, ap is_admitted is), λ allowed. absurd (station allowed.station))
admits_what_is_allowed asset says a f (of_no_form station refusal reads is) =
    (λ e. cc (e, ap is_admitted is), λ allowed. cc (one_reading (Err refusal) (Ok allowed.request) a.pdu reads allowed.form))
admits_what_is_allowed asset says a f (of_its_acts station r reads is) = (
  λ e. record { station = station; request = r; form = reads; each = to_allowed asset says (acts r) (ap is_admitted (sym is) ∙ e) },
  λ allowed.
      let same : r ≡ allowed.request = cc (one_reading (Ok r) (Ok allowed.request) a.pdu reads allowed.form) in
      let P : RequestValue → Type 0 = λ q. AllByRecursion (λ act. IsAllowed (says act)) (acts q) in
      ap is_admitted is ∙ from_allowed asset says (acts r) (subst P (sym same) allowed.each),
)

-- a command is never carried
pub no_carried : (used : Admission) (x : Option Refusal) → fate.Carried ≡ by_refusal used x → ⊥
no_carried used None e = cc
no_carried used (Some r) e = cc

pub never_carried : (asset : Asset) (says : Says) (a : AduValue) → HasCommandFate asset says a fate.Carried → ⊥
never_carried asset says a (of_other_station station is) = cc
never_carried asset says a (of_no_form station refusal reads is) = cc
never_carried asset says a (of_its_acts station r reads is) = no_carried (admission asset says (acts r)) (first_refusal says (acts r)) is

pub has_one_fate : (asset : Asset) (says : Says) (a : AduValue) (f g : Fate) → HasCommandFate asset says a f → HasCommandFate asset says a g → f ≡ g
has_one_fate asset says a f g (of_other_station other is) (of_other_station _ e) = is ∙ sym e
has_one_fate asset says a f g (of_other_station other is) (of_no_form station _ _ e) = absurd (other station)
has_one_fate asset says a f g (of_other_station other is) (of_its_acts station _ _ e) = absurd (other station)
has_one_fate asset says a f g (of_no_form station _ _ is) (of_other_station other e) = absurd (other station)
has_one_fate asset says a f g (of_no_form station x reads is) (of_no_form _ y read e) =
    let same : x ≡ y = cc (one_reading (Err x) (Err y) a.pdu reads read) in cc
has_one_fate asset says a f g (of_no_form station x reads is) (of_its_acts _ r read e) = cc (one_reading (Err x) (Ok r) a.pdu reads read)
has_one_fate asset says a f g (of_its_acts station _ _ is) (of_other_station other e) = absurd (other station)
has_one_fate asset says a f g (of_its_acts station r reads is) (of_no_form _ y read e) = cc (one_reading (Ok r) (Err y) a.pdu reads read)
has_one_fate asset says a f g (of_its_acts station r reads is) (of_its_acts _ s read e) =
    let same : r ≡ s = cc (one_reading (Ok r) (Ok s) a.pdu reads read) in cc
