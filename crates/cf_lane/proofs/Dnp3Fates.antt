-- Laws of the fates of DNP3 fragments.
use Rattle.cf_lane.specs.Rates.{Says, said, unless_spent}
use Rattle.cf_lane.specs.declared.fate.Admission.{Admission}
use Rattle.cf_lane.specs.Acts.{admission, by_refusal, fate_of_acts, first_refusal, refusal_or}
use Rattle.cf_dnpobj.specs.Fragment.{read_octets}
use Rattle.cf_dnpobj.specs.declared.fragment.FragmentRefusal.{FragmentRefusal}
use Rattle.cf_lane.specs.Dnp3.{IsOfFragment, fate_of_fragment, fate_of_read, form_reason}
use Rattle.cf_lane.specs.Judgement.{fate_of_judgement}
use Rattle.cf_lane.specs.declared.fate.Judgement.{Judgement}
use Rattle.cf_policy.specs.Verdict.{by_rule, decided, default_reason, first_rule, has_function, has_point, is_allow, is_empty, rule_reason, verdict_of}
use Rattle.cf_policy.specs.declared.Action.{Action}
use Rattle.cf_policy.specs.declared.Asset.{Asset}
use Rattle.cf_policy.specs.declared.Decider.{Decider}
use Rattle.cf_policy.specs.declared.Rule.{Rule}
use Rattle.cf_policy.specs.declared.Verdict.{Verdict}
use Rattle.cf_view.specs.declared.Act.{Act}
use Rattle.cf_view.specs.declared.Reason.{Reason}
use Rattle.std.proofs.Common.{Bool, Err, List, None, Option, Some, [], ap, false, not, refl, slice_index, true, ℕ, ◌&&◌, ◌∷◌, ◌≡◌}
use Rattle.std.specs.List.{list_any}
use Rattle.std.specs.Prelude.{if◌then◌else◌, ◌≢◌}
use Rattle.cf_policy.specs.declared.Action.TheVariants as action
use Rattle.cf_view.specs.declared.Reason.TheVariants as reason
use Rattle.cf_lane.specs.declared.fate.Judgement.TheVariants as judgement
use Rattle.cf_policy.specs.declared.Decider.TheVariants as decider
use Rattle.cf_policy.specs.declared.Verdict.TheVariants as verdict
use Rattle.cf_view.specs.declared.Side.TheVariants as side

not_station : (a b : Bool) (x y z : Reason) → x ≢ reason.Station → y ≢ reason.Station → z ≢ reason.Station → (if a then x else (if b then y else z)) ≢ reason.Station
not_station true b x y z p q r = p
not_station false true x y z p q r = q
not_station false false x y z p q r = r

of_rule : (n : ℕ) (r : Rule) (a : Action) (d : Decider) (why : Reason) → rule_reason r ≢ reason.Station → verdict.Refuse d why ≡ by_rule n r a → why ≢ reason.Station
of_rule n r action.Allow d why other e = cc
of_rule n r action.Refuse d why other e = λ s. other (cc (s, e))

of_decided : (o : Option (ℕ × Rule)) (otherwise : Reason) (d : Decider) (why : Reason) → ((r : Rule) → rule_reason r ≢ reason.Station) → otherwise ≢ reason.Station →
    verdict.Refuse d why ≡ decided o otherwise → why ≢ reason.Station
of_decided (Some p) otherwise d why rules other e = of_rule p.0 p.1 p.1.action d why (rules p.1) e
of_decided None otherwise d why rules other e = λ s. other (cc (s, e))

-- no rule refuses by the station
pub never_station : (asset : Asset) (client : ℕ) (act : Act) (d : Decider) (why : Reason) → verdict.Refuse d why ≡ verdict_of asset client act → why ≢ reason.Station
never_station asset client act d why e =
    let not_value : reason.Value ≢ reason.Station = λ e. cc in
    let not_point : reason.Point ≢ reason.Station = λ e. cc in
    let not_function : reason.Function ≢ reason.Station = λ e. cc in
    of_decided (first_rule asset.rules client act) (default_reason asset.rules client act) d why
    (λ r. not_station (not (is_empty r.values)) (not (is_empty r.points)) reason.Value reason.Point reason.Function not_value not_point not_function)
    (not_station (not (list_any (λ r. is_allow r.action && has_function r client act) asset.rules)) (not (list_any (λ r. is_allow r.action && has_point r client act) asset.rules))
    reason.Function reason.Point reason.Value not_function not_point not_value) e

-- nor does one that is spent
never_spent : (b : Bool) (n : ℕ) (d : Decider) (why : Reason) → verdict.Refuse d why ≡ unless_spent b n → why ≢ reason.Station
never_spent true n d why e = λ s. cc (s, e)
never_spent false n d why e = cc

never_said : (spent : ℕ → Bool) (v : Verdict) (d : Decider) (why : Reason) → ((d : Decider) (why : Reason) → verdict.Refuse d why ≡ v → why ≢ reason.Station) →
    verdict.Refuse d why ≡ said spent v → why ≢ reason.Station
never_said spent (verdict.Allow n) d why other e = never_spent (spent n) n d why e
never_said spent (verdict.Refuse c because) d why other e = λ s. other c because refl (cc (s, e))

-- so a command is refused by another reason
module _ (asset : Asset) (client : ℕ) (spent : ℕ → Bool) where
  abbrev says : Says
  says act = said spent (verdict_of asset client act)

  by_verdict : (used : Admission) (act : Act) (acts : List Act) → IsOfFragment (by_refusal used (first_refusal says acts)) → (v : Verdict) → v ≡ says act →
      IsOfFragment (by_refusal used (refusal_or act v (first_refusal says acts)))
  by_verdict used act acts later (verdict.Allow n) is = later
  by_verdict used act acts later (verdict.Refuse d why) is = never_said spent (verdict_of asset client act) d why (λ d why e. never_station asset client act d why e) is

  by_first : (used : Admission) (acts : List Act) → IsOfFragment (by_refusal used (first_refusal says acts))
  by_first used [] = tt
  by_first used (act ∷ acts) = by_verdict used act acts (by_first used acts) (says act) refl

  pub never_station_of : (acts : List Act) → IsOfFragment (fate_of_acts asset (λ act. said spent (verdict_of asset client act)) acts)
  never_station_of acts = by_first (admission asset says acts) acts

-- the fate of a fragment whose form was refused
pub fate_of_form : (asset : Asset) (says : Says) (octets : List ℕ) (refusal : FragmentRefusal) (why : Reason) (code : ℕ) (j : Judgement) → Err refusal ≡ read_octets octets → why ≡ form_reason refusal →
    code ≡ slice_index octets 1 →
    j ≡ judgement.Refused (record { decider = decider.Form; reason = why; act = record { code = code; group = 0; point = 0; value = None } }) →
    fate_of_judgement j ≡ fate_of_fragment asset says side.Client octets
fate_of_form asset says octets refusal why code j read told code_is is =
    rw (is, told, code_is) (ap (fate_of_read asset says (slice_index octets 1)) read)
