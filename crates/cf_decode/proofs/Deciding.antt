-- What decides of a refused command is a rule of the asset, or none.
use Rattle.std.proofs.Common.{◌≡◌, ℕ, ◌<◌, Bool, true, false, List, [], ◌∷◌, length, Option, Some, None, refl, subst, option_and_then, slice_get}
use Rattle.cf_decode.proofs.Common.{Admission, Asset, HasOwnDecider, Judged, Refusal, Says, fate_of_acts, says_at}
use Rattle.std.proofs.lemmas.Option.{slice_get_within}
use Rattle.cf_lane.specs.Caller.{OwnCaller}
use Rattle.cf_lane.specs.Acts.{admission, by_refusal, first_refusal, refusal_or}
use Rattle.cf_lane.specs.Rates.{is_spent, own_used_at, said, unless_spent}
use Rattle.cf_policy.specs.Verdict.{IsInside, IsOneOf, by_rule, decided, default_reason, first_number, numbered, verdict_of}
use Rattle.cf_policy.specs.declared.Action.{Action}
use Rattle.cf_policy.specs.declared.Action.TheVariants.{Allow, Refuse}
use Rattle.cf_policy.specs.declared.Rule.{Rule}
use Rattle.cf_policy.specs.declared.Verdict.{Verdict}
use Rattle.cf_view.specs.declared.Act.{Act}
use Rattle.cf_view.specs.declared.Reason.{Reason}
use Rattle.cf_policy.specs.declared.Verdict.TheVariants as verdict

inside_rule : (rules : List Rule) (n : ℕ) (r : Rule) (a : Action) → n < length rules → IsInside rules (by_rule n r a)
inside_rule rules n r Allow h = h
inside_rule rules n r Refuse h = h

inside_at : (rules : List Rule) (n : ℕ) (o : Option Rule) (why : Reason) → slice_get rules n ≡ o → IsInside rules (decided (numbered rules n) why)
inside_at rules n None why e = rw e tt
inside_at rules n (Some r) why e = rw e (inside_rule rules n r r.action (slice_get_within rules n r e))

inside_by : (rules : List Rule) (o : Option ℕ) (why : Reason) → IsInside rules (decided (option_and_then (numbered rules) o) why)
inside_by rules None why = tt
inside_by rules (Some n) why = inside_at rules n (slice_get rules n) why refl

said_inside : (rules : List Rule) (spent : ℕ → Bool) (v : Verdict) → IsInside rules v → IsInside rules (said spent v)
said_inside rules spent (verdict.Allow n) h = elim (spent n) as (λ b. IsInside rules (unless_spent b n)) [ true ↦ h | false ↦ h ]
said_inside rules spent (verdict.Refuse d why) h = h

pub says_inside : (asset : Asset) (client : OwnCaller) (earlier : List Judged) (moment : ℕ) (act : Act) → IsInside asset.rules (says_at asset client earlier moment act)
says_inside asset client earlier moment act =
    said_inside asset.rules (is_spent asset (own_used_at client.before earlier) moment) (verdict_of asset client.address act)
    (inside_by asset.rules (first_number asset.rules client.address act) (default_reason asset.rules client.address act))

module _ (rules : List Rule) (says : Says) (inside : (act : Act) → IsInside rules (says act)) where
  refusal_inside : (act : Act) (v : Verdict) (later : Option Refusal) (refusal : Refusal) → IsInside rules v → (later ≡ Some refusal → IsOneOf rules refusal.decider) →
      refusal_or act v later ≡ Some refusal → IsOneOf rules refusal.decider
  refusal_inside act (verdict.Allow n) later refusal h rest e = rest e
  refusal_inside act (verdict.Refuse d why) later refusal h rest e = let same : d ≡ refusal.decider = cc in subst (IsOneOf rules) same h

  first_inside : (acts : List Act) (refusal : Refusal) → first_refusal says acts ≡ Some refusal → IsOneOf rules refusal.decider
  first_inside [] refusal e = cc
  first_inside (act ∷ acts) refusal e = refusal_inside act (says act) (first_refusal says acts) refusal (inside act) (first_inside acts refusal) e

  own_by : (used : Admission) (o : Option Refusal) → ((refusal : Refusal) → o ≡ Some refusal → IsOneOf rules refusal.decider) → HasOwnDecider rules (by_refusal used o)
  own_by used None h = tt
  own_by used (Some refusal) h = h refusal refl

pub own_acts : (asset : Asset) (says : Says) → ((act : Act) → IsInside asset.rules (says act)) → (acts : List Act) → HasOwnDecider asset.rules (fate_of_acts asset says acts)
own_acts asset says inside acts =
    own_by asset.rules says inside (admission asset says acts) (first_refusal says acts) (first_inside asset.rules says inside acts)
