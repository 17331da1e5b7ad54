-- A rule that states no values has the reads of function 23 that it names.
use Rattle.std.proofs.Common.{◌≡◌, ℕ, zero, suc, ◌+◌, ◌<◌, true, List, [], ◌∷◌, Some, None, refl, ap, arith}
use Rattle.std.proofs.lemmas.Bool.{and_from}
use Rattle.cf_view.specs.declared.base.Act.{Act}
use Rattle.cf_view.specs.Octets.{IsOctets}
use Rattle.cf_policy.specs.declared.policy.Protocol.{Protocol}
use Rattle.cf_policy.specs.declared.policy.Rule.{Rule}
use Rattle.cf_policy.specs.declared.policy.Span.{Span}
use Rattle.cf_policy.specs.Verdict.{takes_value}
use Rattle.cf_acts.specs.Commands.{IsOfRequest}
use Rattle.cf_modbus.specs.Acts.{acts}
use Rattle.cf_modbus.specs.Request.{IsRead, RequestValue, SpellsRequest, body_of, form_of}
use Rattle.cf_explain.specs.Reads.{HasReads, NamesReads}

-- a request of function 23 that reads one register
abbrev reading : ℕ → RequestValue
reading point = record { code = 23; start = 0; quantity = 1; second = point; second_quantity = 1; values = 0 ∷ 0 ∷ [] }

abbrev read_act : ℕ → Act
read_act point = record { code = 23; group = 0; point = point; value = None }

is_read : (point : ℕ) → point < 65536 → IsRead (reading point)
is_read point h = (_, spells, (omega arith, omega (arith, h)))
  where
    octets : IsOctets (0 ∷ 0 ∷ [])
    octets zero = omega arith
    octets (suc zero) = omega arith
    octets (suc (suc i)) = omega arith

    spells : SpellsRequest (reading point) (23 ∷ body_of (form_of 23) (reading point))
    spells = record { form = ((omega arith, omega arith), (omega arith, omega arith), refl); start = omega arith; second = h; octets = octets; spelled = refl }

of_request : (point : ℕ) → point < 65536 → IsOfRequest (read_act point)
unfolding acts
of_request point h = (reading point, is_read point h, 1, ap (λ n. Some (read_act n)) (let same : point + 0 ≡ point = omega arith in same))

any_value : (values : List Span) → values ≡ [] → takes_value values None ≡ true
any_value values e = ap (λ vs. takes_value vs None) e

pub has_reads : (protocol : Protocol) (rule : Rule) → NamesReads protocol rule → rule.values ≡ [] → HasReads rule
has_reads protocol rule names none client point from at small = record {
  act = read_act point;
  of_command = of_request point small;
  code = refl;
  group = refl;
  place = refl;
  had = and_from _ _ (and_from _ _ (and_from _ _ from (and_from _ _ names.1 names.2)) at) (any_value rule.values none);
}
