-- The fate of a client's ASDU by what its reader answers.
use Rattle.cf_lane.specs.Rates.{Says}
use Rattle.cf_asdu.proofs.Readings.{fields}
use Rattle.cf_asdu.specs.Asdu.{AsduValue, Reads, SpellsAsdu, refusal_reason, station_of}
use Rattle.cf_asdu.specs.declared.asdu.AsduRefusal.{AsduRefusal}
use Rattle.cf_lane.specs.Acts.{fate_of_acts}
use Rattle.cf_lane.specs.Iec104.{asdu_in, asdu_refused, fate_by_form, fate_of_asdu}
use Rattle.cf_policy.specs.declared.Asset.{Asset}
use Rattle.std.proofs.Common.{Err, List, Ok, Some, ap, arith, length, le-ltb, eq-eqb, refl, sym, ℕ, ◌∙◌, ◌≡◌, ◌≤◌}
use Rattle.cf_asdu.specs.Acts as commands
use Rattle.cf_asdu.specs.Asdu as asdus
use Rattle.cf_asdu.specs.declared.asdu.AsduRefusal.TheVariants as refusals
use Rattle.cf_policy.specs.declared.Decider.TheVariants as decider

module _ (asset : Asset) (says : Says) (octets : List ℕ) (long : 9 ≤ length octets) (same : station_of octets ≡ asset.station) where
  by_station : fate_by_form asset says octets (asdus.first_refusal (asdu_in octets)) ≡ fate_of_asdu asset says octets
  by_station = rw (le-ltb (length octets) 9 long, eq-eqb (station_of octets) asset.station same) refl

  -- where an ASDU is read, its acts are judged
  pub fate_of_read : (a : AsduValue) → Reads (Ok a) octets → fate_of_acts asset says (commands.acts a) ≡ fate_of_asdu asset says octets
  fate_of_read a reads =
      let is : a ≡ asdu_in octets = fields a octets reads.0 in
      ap (λ (b : AsduValue). fate_of_acts asset says (commands.acts b)) is
      ∙ ap (fate_by_form asset says octets) (sym (ap asdus.first_refusal (sym is) ∙ reads.2)) ∙ by_station

  by_test : (a : AsduValue) (refusal : AsduRefusal) → SpellsAsdu a octets → asdus.first_refusal a ≡ Some refusal →
      asdu_refused decider.Form (refusal_reason refusal) octets 0 ≡ fate_of_asdu asset says octets
  by_test a refusal spells e =
      ap (fate_by_form asset says octets) (sym (ap asdus.first_refusal (sym (fields a octets spells)) ∙ e)) ∙ by_station

  -- where none is, its form is refused
  pub fate_of_unread : (refusal : AsduRefusal) → Reads (Err refusal) octets → asdu_refused decider.Form (refusal_reason refusal) octets 0 ≡ fate_of_asdu asset says octets
  fate_of_unread refusals.Short reads = absurd (omega (arith, reads, long))
  fate_of_unread refusal reads = by_test reads.0 refusal reads.1.0 reads.1.2
