-- The flows that are worked by hand.
use Rattle.std.proofs.Common.{◌≡◌, ◌∙◌, ◌+◌, ◌<◌, ◌++◌, ℕ, zero, suc, pos, Bool, true, false, [], ◌∷◌, map, replicate, slice_get, None, Some, Ok, refl, sym, ap, arith}
use Rattle.cf_unobjected.proofs.Common.{Adu, AreRead, Begins, Carried, FlowValue, HasCommandFate, HasConflict, HasLetter, IsPartial, Letter, Protocol, Reading, SiteValue, SpellsUnit, Stream, Whole, completed_in, copy_of, false≢true, nat_tests, none-some, of_its_acts, of_other_station, part_of, same_Some, verdict_of}
use Rattle.cf_session.specs.Laws.{IsFront, IsReassembly}
use Rattle.cf_stream.specs.Stream.{Byte, End}
use Rattle.cf_watch.specs.Carried.{Differs, letter_of}
use Rattle.cf_judge.specs.Objections.{IsJudgementOf}
use Rattle.cf_lane.specs.declared.Fate.{Fate}
use Rattle.cf_modbus.specs.Acts.{acts}
use Rattle.cf_modbus.specs.Adu.{SpellsAdu}
use Rattle.cf_modbus.specs.Request.{Reads, RequestValue}
use Rattle.cf_lane.specs.Modbus.{station_refusal}
use Rattle.cf_policy.specs.Site.{alone}
use Rattle.cf_policy.specs.Within.{most_rated}
use Rattle.cf_view.specs.Octets.{IsOctets}
use Rattle.cf_unobjected.specs.OneJudgement.{JudgementsAreOne}
use Rattle.cf_unobjected.specs.Rows.{RowsHold, clear, objected, one_client, one_flow, one_octet, other_client, other_flow, out_of_order, flow_to, gateway, octets_to, pumps, read_octets, read_of, read_to, reads, refused_under, second, with_conflict}
use Rattle.cf_unobjected.proofs.Copies.{byte_of, is_end}
use Rattle.cf_lane.specs.declared.Fate.TheVariants as fate
use Rattle.cf_policy.specs.declared.Decider.TheVariants as decider
use Rattle.cf_policy.specs.declared.Protocol.TheVariants as protocol
use Rattle.cf_view.specs.declared.Reason.TheVariants as reason

no_end : (b : ℕ) → Some (Byte b) ≡ Some End → ⊥
no_end b e = false≢true (ap is_end (same_Some (Byte b) End e))

first_copy : IsReassembly (map part_of with_conflict) (Byte 7 ∷ [])
first_copy = record { each = each; end = end } where
  each : (place : ℕ) (letter : Letter) → slice_get (Byte 7 ∷ []) place ≡ Some letter → HasLetter (map part_of with_conflict) place letter
  each zero letter e = record { index = 1; part = part_of (one_octet 1 0 7); is = refl; has = e }
  each (suc place) letter e = absurd (none-some letter e)

  end : (place : ℕ) → slice_get (Byte 7 ∷ []) place ≡ Some End → 1 ≡ place + 1
  end zero e = absurd (no_end 7 e)
  end (suc place) e = absurd (none-some End e)

other_copy : IsReassembly (map part_of with_conflict) (Byte 8 ∷ [])
other_copy = record { each = each; end = end } where
  each : (place : ℕ) (letter : Letter) → slice_get (Byte 8 ∷ []) place ≡ Some letter → HasLetter (map part_of with_conflict) place letter
  each zero letter e = record { index = 0; part = part_of (one_octet 2 0 8); is = refl; has = e }
  each (suc place) letter e = absurd (none-some letter e)

  end : (place : ℕ) → slice_get (Byte 8 ∷ []) place ≡ Some End → 1 ≡ place + 1
  end zero e = absurd (no_end 8 e)
  end (suc place) e = absurd (none-some End e)

both : IsReassembly (map part_of out_of_order) (Byte 7 ∷ Byte 8 ∷ [])
both = record { each = each; end = end } where
  each : (place : ℕ) (letter : Letter) → slice_get (Byte 7 ∷ Byte 8 ∷ []) place ≡ Some letter → HasLetter (map part_of out_of_order) place letter
  each zero letter e = record { index = 0; part = part_of (one_octet 2 0 7); is = refl; has = e }
  each (suc zero) letter e = record { index = 1; part = part_of (one_octet 1 1 8); is = refl; has = e }
  each (suc (suc place)) letter e = absurd (none-some letter e)

  end : (place : ℕ) → slice_get (Byte 7 ∷ Byte 8 ∷ []) place ≡ Some End → 2 ≡ place + 1
  end zero e = absurd (no_end 7 e)
  end (suc zero) e = absurd (no_end 8 e)
  end (suc (suc place)) e = absurd (none-some End e)

no_stream : (whole : Stream) → IsFront whole (Byte 7 ∷ []) → IsFront whole (Byte 8 ∷ []) → ⊥
no_stream whole f g =
    let same : Some (Byte 7) ≡ Some (Byte 8) = ap (λ ls. slice_get ls 0) (sym f.is ∙ g.is) in
    let bytes : 7 ≡ 8 = ap byte_of (same_Some (Byte 7) (Byte 8) same) in
    omega (arith, bytes)

-- a packet after none has no conflict
none_first : (c : Carried) → HasConflict (c ∷ []) None
none_first c = (None, refl, λ p d. none-some d.first d.was)

conflict : HasConflict with_conflict (Some (record { at_record = 2; position = pos 0 }))
conflict = (
  None,
  none_first (one_octet 1 0 7),
  record {
    place = 0;
    number = refl;
    position = refl;
    here = record { first = Byte 7; other = Byte 8; was = refl; is = refl; differ = λ e. (let bytes : 8 ≡ 7 = ap byte_of e in omega (arith, bytes)) };
    lowest = λ p d. omega arith;
  },
)

-- at position 0 there was no letter before, and behind it the packet has none
never : (p : ℕ) → Differs (copy_of (one_octet 1 1 8 ∷ [])) (one_octet 2 0 7) p → ⊥
never zero d = none-some d.first d.was
never (suc p) d = let none : letter_of (one_octet 2 0 7) (suc p) ≡ None = grind (arith, nat_tests) in none-some d.other (sym none ∙ d.is)

-- ---- two reads

pdu_octets : (point : ℕ) → point < 256 → IsOctets (3 ∷ 0 ∷ point ∷ 0 ∷ 1 ∷ [])
pdu_octets point h zero = omega arith
pdu_octets point h (suc zero) = omega arith
pdu_octets point h (suc (suc zero)) = h
pdu_octets point h (suc (suc (suc zero))) = omega arith
pdu_octets point h (suc (suc (suc (suc zero)))) = omega arith
pdu_octets point h (suc (suc (suc (suc (suc i))))) = omega arith

no_octets : IsOctets []
no_octets i = omega arith

spells : (point : ℕ) → point < 256 → SpellsAdu (read_of point) (read_octets point)
spells point h = record {
  transaction = omega arith;
  unit = omega arith;
  at_least = omega arith;
  at_most = omega arith;
  pdu = pdu_octets point h;
  spelled = refl;
}

abbrev asked : (point : ℕ) → RequestValue
asked point = record { code = 3; start = point; quantity = 1; second = 0; second_quantity = 0; values = [] }

begins : (point : ℕ) → point < 256 → Begins (SpellsUnit reads.protocol) (read_octets point) (Adu (read_of point)) 12
begins point h = record { inside = omega arith; spells = spells point h }

nothing_left : IsPartial (SpellsUnit reads.protocol) []
nothing_left = record { whole = Adu (read_of 0); more = read_octets 0; proper = omega arith; spells = spells 0 (omega arith) }

-- what becomes of a read of register 0, and of register 1
abbrev allowed : Fate
allowed = fate.Admitted (record { used = replicate most_rated false; shown = None })

abbrev denied : Fate
denied = fate.Refused (record { decider = decider.Default; reason = reason.Point; act = record { code = 3; group = 0; point = 1; value = None } })

read_0 : Reads (Ok (asked 0)) (read_of 0).pdu
read_0 = (
  record { form = ((omega arith, omega arith), (refl, refl), refl); start = omega arith; second = omega arith; octets = no_octets; spelled = refl },
  (omega arith, omega arith),
)

read_1 : Reads (Ok (asked 1)) (read_of 1).pdu
read_1 = (
  record { form = ((omega arith, omega arith), (refl, refl), refl); start = omega arith; second = omega arith; octets = no_octets; spelled = refl },
  (omega arith, omega arith),
)

is_allowed : (client : ℕ) → HasCommandFate reads (verdict_of reads client) (read_of 0) allowed
unfolding acts
is_allowed client = of_its_acts refl (asked 0) read_0 refl

is_denied : (client : ℕ) → HasCommandFate reads (verdict_of reads client) (read_of 1) denied
unfolding acts
is_denied client = of_its_acts refl (asked 1) read_1 refl

abbrev is_dnp3 : Protocol → Bool
is_dnp3 protocol.Dnp3 = true
is_dnp3 _ = false

abbrev reading : FlowValue → (number point : ℕ) → Fate → Reading
reading flow number point f = record { flow = flow; judged = completed_in number (Adu (read_of point)) f ∷ []; ending = Whole }

one_read : AreRead (alone reads) one_client.address [] one_flow.bytes one_flow.born (completed_in 5 (Adu (read_of 0)) allowed ∷ []) Whole
one_read = (Adu (read_of 0), 12, begins 0 (omega arith), omega arith, refl, is_allowed one_client.address, nothing_left)

other_read : AreRead (alone reads) other_client.address [] (other_flow 0).bytes (other_flow 0).born (completed_in 7 (Adu (read_of 0)) allowed ∷ []) Whole
other_read = (Adu (read_of 0), 12, begins 0 (omega arith), omega arith, refl, is_allowed other_client.address, nothing_left)

wrong_read : AreRead (alone reads) other_client.address [] (other_flow 1).bytes (other_flow 1).born (completed_in 7 (Adu (read_of 1)) denied ∷ []) Whole
wrong_read = (Adu (read_of 1), 12, begins 1 (omega arith), omega arith, refl, is_denied other_client.address, nothing_left)

-- ---- reads of two stations

spells_to : (station : ℕ) → station < 256 → SpellsAdu (read_to station) (octets_to station)
spells_to station h = record {
  transaction = omega arith;
  unit = h;
  at_least = omega arith;
  at_most = omega arith;
  pdu = pdu_octets 0 (omega arith);
  spelled = refl;
}

begins_first : (station : ℕ) → Begins (SpellsUnit reads.protocol) (read_octets 0 ++ octets_to station) (Adu (read_of 0)) 12
begins_first station = record { inside = omega arith; spells = spells 0 (omega arith) }

begins_to : (station : ℕ) → station < 256 → Begins (SpellsUnit reads.protocol) (octets_to station) (Adu (read_to station)) 12
begins_to station h = record { inside = omega arith; spells = spells_to station h }

-- what becomes of the second read: no rule of the second pump has its code, and no pump has station 3
abbrev unruled : Fate
unruled = fate.Refused (record { decider = decider.Default; reason = reason.Function; act = record { code = 3; group = 0; point = 0; value = None } })

abbrev nobodys : Fate
nobodys = fate.Refused (station_refusal (read_to 3))

is_unruled : (client : ℕ) → HasCommandFate second (verdict_of second client) (read_to 2) unruled
unfolding acts
is_unruled client = of_its_acts refl (asked 0) read_0 refl

is_nobodys : (client : ℕ) → HasCommandFate reads (verdict_of reads client) (read_to 3) nobodys
is_nobodys client = of_other_station (λ (e : 3 ≡ 1). omega (arith, e)) refl

-- both pumps, as the policy has them behind their address and port
abbrev both_pumps : SiteValue
both_pumps = record { first = reads; others = second ∷ [] }

abbrev two_reads : (station : ℕ) → Fate → Reading
two_reads station f = record { flow = flow_to station; judged = completed_in 5 (Adu (read_of 0)) allowed ∷ completed_in 7 (Adu (read_to station)) f ∷ []; ending = Whole }

read_second : AreRead both_pumps one_client.address [] (flow_to 2).bytes (flow_to 2).born (two_reads 2 unruled).judged Whole
read_second = (
  Adu (read_of 0),
  12,
  begins_first 2,
  omega arith,
  refl,
  is_allowed one_client.address,
  (Adu (read_to 2), 12, begins_to 2 (omega arith), omega arith, refl, is_unruled one_client.address, nothing_left),
)

read_nobody : AreRead both_pumps one_client.address [] (flow_to 3).bytes (flow_to 3).born (two_reads 3 nobodys).judged Whole
read_nobody = (
  Adu (read_of 0),
  12,
  begins_first 3,
  omega arith,
  refl,
  is_allowed one_client.address,
  (Adu (read_to 3), 12, begins_to 3 (omega arith), omega arith, refl, is_nobodys one_client.address, nothing_left),
)

of_second : IsJudgementOf gateway (flow_to 2 ∷ []) (refused_under 1 decider.Default reason.Function)
of_second = record { readings = two_reads 2 unruled ∷ []; of_flows = refl; are_read = (read_second, tt); counts = refl; commands = refl; objection = refl }

of_nobody : IsJudgementOf gateway (flow_to 3 ∷ []) (refused_under 0 decider.Station reason.Station)
of_nobody = record { readings = two_reads 3 nobodys ∷ []; of_flows = refl; are_read = (read_nobody, tt); counts = refl; commands = refl; objection = refl }

are_clear : IsJudgementOf pumps (one_flow ∷ other_flow 0 ∷ []) clear
are_clear = record {
  readings = reading one_flow 5 0 allowed ∷ reading (other_flow 0) 7 0 allowed ∷ [];
  of_flows = refl;
  are_read = (one_read, (other_read, tt));
  counts = refl;
  commands = refl;
  objection = refl;
}

are_objected : IsJudgementOf pumps (one_flow ∷ other_flow 1 ∷ []) objected
are_objected = record {
  readings = reading one_flow 5 0 allowed ∷ reading (other_flow 1) 7 1 denied ∷ [];
  of_flows = refl;
  are_read = (one_read, (wrong_read, tt));
  counts = refl;
  commands = refl;
  objection = refl;
}

module _ (judgements : JudgementsAreOne) where
  pub rows_hold : RowsHold
  rows_hold = record {
    first_copy = first_copy;
    other_copy = other_copy;
    no_stream = no_stream;
    conflict = conflict;
    both = both;
    clean = (None, none_first (one_octet 1 1 8), never);
    are_clear = are_clear;
    are_objected = are_objected;
    not_objected = λ j. (let e = ap (λ k. k.commands) (judgements pumps _ _ _ are_clear j) in omega (arith, e));
    not_clear = λ j. (let e = ap (λ k. k.commands) (judgements pumps _ _ _ are_objected j) in omega (arith, e));
    of_second = of_second;
    of_nobody = of_nobody;
    spelled = refl;
    in_seven = refl;
    not_in_six = refl;
    decodes = record {
      units = Adu (read_of 0) ∷ [];
      rest = [];
      are_units = record { starts = (12, begins 0 (omega arith), refl); partial = nothing_left };
      let_through = (5, allowed, is_allowed one_client.address, tt, tt);
    };
    rightly_passed = (_, is_allowed one_client.address);
    refused = λ e. e;
    lengthens = λ e. false≢true (ap is_dnp3 e);
  }
