-- Rules that have the same acts allow the same.
use Rattle.std.proofs.Common.{◌≡◌, ◌↔◌, ℕ, ℤ, pos, Bool, true, false, List, [], ◌∷◌, length, Option, Some, None, refl, sym, ap, ◌∙◌, arith}
use mathlib.Core.Logic.{⊎_elim}
use Rattle.std.specs.Prelude.{filter, find, position, option_map, option_and_then}
use Rattle.std.specs.List.{position_or_len}
use Rattle.std.specs.Option.{option_map_or}
use Rattle.std.proofs.lemmas.Bool.{and_parts, cases_lt, cond-true, cond-false, false_from_ne_true, false≢true, lt-ltb, le-ltb}
use Rattle.std.proofs.lemmas.List.Folds.{find_at}
use Rattle.std.proofs.lemmas.Option.{slice_get_past}
use Rattle.cf_view.specs.declared.base.Reason.{Reason}
use Rattle.cf_view.specs.declared.base.Act.{Act}
use Rattle.cf_policy.specs.declared.policy.Rule.{Rule}
use Rattle.cf_policy.specs.declared.policy.Asset.{Asset}
use Rattle.cf_policy.specs.declared.policy.Action.{Action}
use Rattle.cf_policy.specs.declared.policy.Action.TheVariants.{Allow, Refuse}
use Rattle.cf_policy.specs.Verdict.{has_act, takes_value, is_allow, numbered, by_rule, decided, default_reason}
use Rattle.cf_policy.specs.Laws.{IsAllowed}
use Rattle.cf_compare.specs.declared.axis.Axis.TheVariants.{Clients, Groups, Points}
use Rattle.cf_compare.specs.Cells.{has_code}
use Rattle.cf_compare.specs.Search.{rules_taking, differs}
use Rattle.cf_compare.specs.Inclusion.{Allows}

-- whether the first rule that passes allows
abbrev pub allows : (Rule → Bool) → List Rule → Bool
allows p rules = option_map_or (λ r. is_allow r.action) (find p rules) false

by_action : (n : ℕ) (r : Rule) (a : Action) → IsAllowed (by_rule n r a) ↔ (is_allow a ≡ true)
by_action n r Allow = (λ h. refl, λ h. tt)
by_action n r Refuse = (λ h. absurd h, λ h. false≢true h)

by_found : (n : ℕ) (found : Option Rule) (why : Reason)
    → IsAllowed (decided (option_map (λ r. (n, r)) found) why) ↔ (option_map_or (λ r. is_allow r.action) found false ≡ true)
by_found n None why = (λ h. absurd h, λ h. false≢true h)
by_found n (Some r) why = by_action n r r.action

found_first : (p : Rule → Bool) (rules : List Rule) → option_and_then (numbered rules) (position p rules) ≡ option_map (λ r. (position_or_len p rules, r)) (find p rules)
found_first p rules = rw (find_at p rules) (⊎_elim
    (λ inside. ap (option_and_then (numbered rules)) (cond-true _ (Some (position_or_len p rules)) None (lt-ltb _ _ inside)))
    (λ past. ap (option_and_then (numbered rules)) (cond-false _ (Some (position_or_len p rules)) None (le-ltb _ _ past))
    ∙ ap (option_map (λ r. (position_or_len p rules, r))) (sym (slice_get_past rules (position_or_len p rules) past)))
    (cases_lt (position_or_len p rules) (length rules)))

-- an asset allows an act exactly if its first rule that has the act allows it
pub allows_is : (asset : Asset) (client : ℕ) (act : Act) → Allows asset client act ↔ (allows (λ r. has_act r client act) asset.rules ≡ true)
allows_is asset client act =
    let p : Rule → Bool = λ r. has_act r client act in
    rw (found_first p asset.rules) (by_found (position_or_len p asset.rules) (find p asset.rules) (default_reason asset.rules client act))

-- what is left of an asset's rules, step by step
abbrev pub left : List Rule → ℕ → ℤ → ℤ → ℤ → List Rule
left rules code client group point = rules_taking Points point (rules_taking Groups group (rules_taking Clients client (filter (has_code code) rules)))

found_left : (rules : List Rule) (code client group point : ℕ) (value : Option ℤ)
    → find (λ r. takes_value r.values value) (left rules code (pos client) (pos group) (pos point))
    ≡ find (λ r. has_act r client (record { code = code; group = group; point = point; value = value })) rules
found_left [] code client group point value = refl
found_left (r ∷ rules) code client group point value = let more = found_left rules code client group point value in grind arith

-- what the search finds is a difference of the verdicts
pub differs_is : (ours other : Asset) (code client group point : ℕ) (value : Option ℤ)
    → (differs (left ours.rules code (pos client) (pos group) (pos point)) (left other.rules code (pos client) (pos group) (pos point)) value ≡ true)
    ↔ (Allows ours client (record { code = code; group = group; point = point; value = value })
    × (Allows other client (record { code = code; group = group; point = point; value = value }) → ⊥))
differs_is ours other code client group point value =
    let act : Act = record { code = code; group = group; point = point; value = value } in
    let mine = ap (λ o. option_map_or (λ r. is_allow r.action) o false) (found_left ours.rules code client group point value) in
    let theirs = ap (λ o. option_map_or (λ r. is_allow r.action) o false) (found_left other.rules code client group point value) in
    let allowed = allows_is ours client act in
    let allowed_other = allows_is other client act in
    rw (mine, theirs) (
      λ h. let both = and_parts (allows (λ r. has_act r client act) ours.rules) _ h in (allowed.1 both.0, λ k. let yes = allowed_other.0 k in grind arith),
      λ h. let yes = allowed.0 h.0 in let no : allows (λ r. has_act r client act) other.rules ≡ false = false_from_ne_true _ (λ k. h.1 (allowed_other.1 k)) in grind arith,
    )
