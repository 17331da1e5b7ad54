-- Where no rule has a rate, the fate of a command is that of what its policy says: `fate_without_rates`.
use Rattle.cf_lane.proofs.Commands.{all_used, none_used}
use Rattle.cf_lane.specs.Acts.{by_refusal, fate_of_acts, first_refusal, first_shown, is_by, unrated, used_by}
use Rattle.cf_lane.specs.Rates.{Says, rated, said}
use Rattle.cf_lane.specs.Ring.{RingValue, ring_rate}
use Rattle.cf_lane.specs.Rings.{IsRulesOf, is_spent_by, says_by}
use Rattle.cf_lane.specs.declared.rules.Rules.{Rules}
use Rattle.cf_policy.specs.Verdict.{verdict_of}
use Rattle.cf_policy.specs.declared.Asset.{Asset}
use Rattle.cf_policy.specs.declared.Verdict.{Verdict}
use Rattle.cf_view.specs.declared.Act.{Act}
use Rattle.std.proofs.Common.{List, [], ap, arith, false, length, map, refl, replicate, sym, take, ℕ, ◌||◌, ◌∙◌, ◌∷◌, ◌≡◌}
use Rattle.std.proofs.Math.Path.{fun_ext}
use Rattle.std.specs.List.{list_any}
use Rattle.cf_policy.specs.declared.Verdict.TheVariants as verdict

empty : (rings : List RingValue) → length rings ≡ 0 → rings ≡ []
empty [] e = refl
empty (r ∷ rings) e = cc

-- no rule is spent where there is no ring
said_by_none : (moment : ℕ) (v : Verdict) → said (is_spent_by [] moment) v ≡ v
said_by_none moment (verdict.Allow number) = refl
said_by_none moment (verdict.Refuse d why) = refl

-- what decides is the rated rule of no place where there is none
decided_by_none : (place : ℕ) (v : Verdict) → is_by [] place v ≡ false
decided_by_none place (verdict.Allow number) = refl
decided_by_none place (verdict.Refuse d why) = refl

-- no rule with a rate was used where there is none
none_by : (says : Says) (place : ℕ) (acts : List Act) → list_any (λ act. is_by [] place (says act)) acts ≡ false
none_by says place [] = refl
none_by says place (act ∷ acts) =
    ap (λ b. b || list_any (λ later. is_by [] place (says later)) acts) (decided_by_none place (says act)) ∙ none_by says place acts

used_by_none : (says : Says) (acts : List Act) → replicate 16 false ≡ used_by [] says acts
used_by_none says acts =
    all_used [] says acts (length acts) (replicate 16 false) (omega arith) refl
    (λ place. none_used [] says acts (replicate 16 false) refl place ∙ sym (none_by says place (take (length acts) acts)))

pub fate_without_rates : (asset : Asset) (client : ℕ) (rules : Rules) (moment : ℕ) (acts : List Act) → IsRulesOf asset client rules → length rules.rings.items ≡ 0 →
    by_refusal (unrated asset.rules (verdict_of asset client) acts) (first_refusal (verdict_of asset client) acts) ≡ fate_of_acts asset (says_by asset client rules moment) acts
fate_without_rates asset client rules moment acts of no_ring =
    let none : rules.rings.items ≡ [] = empty rules.rings.items no_ring in
    let says : Says = says_by asset client rules moment in
    let same : verdict_of asset client ≡ says =
    fun_ext (λ act. sym (ap (λ rings. said (is_spent_by rings moment) (verdict_of asset client act)) none ∙ said_by_none moment (verdict_of asset client act))) in
    let no_rates : [] ≡ rated asset.rules = sym (ap (map ring_rate) none) ∙ of.rings in
    ap (λ s. by_refusal (unrated asset.rules s acts) (first_refusal s acts)) same
    ∙ ap (λ used. by_refusal (record { used = used; shown = first_shown asset.rules says acts }) (first_refusal says acts)) (used_by_none says acts)
    ∙ ap (λ all. by_refusal (record { used = used_by all says acts; shown = first_shown asset.rules says acts }) (first_refusal says acts)) no_rates
