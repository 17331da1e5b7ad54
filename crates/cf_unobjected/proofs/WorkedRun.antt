-- The capture of two sessions that is worked by hand.
use Rattle.std.proofs.Common.{ap, arith, refl, sym}
use Rattle.cf_unobjected.proofs.Common.{IsSpoken, false≢true}
use Rattle.cf_leg.specs.Emitted.{spelled}
use Rattle.cf_packet.specs.Checksum.{ones_sum}
use Rattle.cf_unobjected.specs.RunRows.{RunRowsHold, one_spoken}

spoken : IsSpoken one_spoken
spoken = record {
  greets = refl;
  goes = (
    record { source = refl; dest = refl; greets = λ e. refl; answers = λ e. refl },
    (record { source = refl; dest = refl; greets = λ e. absurd (false≢true e); answers = λ e. absurd (false≢true (sym e)) }, tt),
  );
  order = (λ e. refl, (λ e. refl, tt));
}

pub run_rows_hold : RunRowsHold
unfolding spelled ones_sum
run_rows_hold = record {
  are_watched = refl;
  are_heard = refl;
  without_last = refl;
  of_one = refl;
  to_one = refl;
  by_one = refl;
  of_none = refl;
  carried_by_one = refl;
  packets = refl;
  spoken = spoken;
  late_syn = λ s. false≢true (sym (s.1.1.0 refl));
  other_syn = λ g. (let e = ap (λ p. p.seq) (g.greets refl) in omega (arith, e));
  other_client = λ g. (let e = ap (λ p. p.address) g.source in omega (arith, e));
  request_record = refl;
  changed = refl;
}
