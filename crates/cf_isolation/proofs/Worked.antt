-- The run of two clients that is worked by hand.
use Rattle.std.proofs.Common.{◌∷◌, [], ap, arith, refl, length}
use Rattle.cf_isolation.proofs.Common.{HasSession}
use Rattle.std.specs.Fmt.{digits}
use Rattle.cf_leg.specs.Emitted.{spelled}
use Rattle.cf_packet.specs.Checksum.{ones_sum}
use Rattle.cf_isolation.specs.Rows.{RowsHold, alone, begins, begun_by, dropped, events, first, first_session, flow, fourth, next_session, one, other, second, third, third_with}

-- the first session up to its reset
abbrev first_whole : HasSession (flow one 1000) events
first_whole = record {
  after = fourth ∷ [];
  later = third ∷ second ∷ [];
  first = first;
  earlier = [];
  are = refl;
  begun = begins one 1000 999999;
  begins = refl;
  none = (refl, (refl, tt));
}

-- the same up to the event before
abbrev first_short : HasSession (flow one 1000) events
first_short = record {
  after = fourth ∷ third ∷ [];
  later = second ∷ [];
  first = first;
  earlier = [];
  are = refl;
  begun = begins one 1000 999999;
  begins = refl;
  none = (refl, tt);
}

-- the same in the other run
abbrev first_alone : HasSession (flow one 1000) alone
first_alone = record {
  after = begun_by one 5000 4000000 [] ∷ [];
  later = third_with [] ∷ dropped ∷ [];
  first = first;
  earlier = [];
  are = refl;
  begun = begins one 1000 999999;
  begins = refl;
  none = (refl, (refl, tt));
}

-- the session of the other client
abbrev other_whole : HasSession (flow other 2000) events
other_whole = record {
  after = [];
  later = fourth ∷ third ∷ [];
  first = second;
  earlier = first ∷ [];
  are = refl;
  begun = begins other 2000 1999999;
  begins = refl;
  none = (refl, (refl, tt));
}

-- the second session of the one client
abbrev next_whole : HasSession (flow one 5000) events
next_whole = record {
  after = [];
  later = [];
  first = fourth;
  earlier = third ∷ second ∷ first ∷ [];
  are = refl;
  begun = begins one 5000 3999999;
  begins = refl;
  none = tt;
}

pub rows_hold : RowsHold
unfolding spelled ones_sum digits
rows_hold = record {
  all_sent = refl;
  all_logged = refl;
  shows_first = record { has = first_whole; seen_is = refl; sent_is = refl; own_is = refl; records_are = refl; lines_are = refl; own_lines_are = refl };
  shows_other = record { has = other_whole; seen_is = refl; sent_is = refl; own_is = refl; records_are = refl; lines_are = refl; own_lines_are = refl };
  shows_next = record { has = next_whole; seen_is = refl; sent_is = refl; own_is = refl; records_are = refl; lines_are = refl; own_lines_are = refl };
  shows_to_the_next = record {
    has = first_short;
    behind = record { after = fourth ∷ []; next = third; are = refl };
    own_is = refl;
    last_is = refl;
    sent_is = refl;
    own_lines_are = refl;
    last_lines_are = refl;
    lines_are = refl;
  };
  sessions = refl;
  first_lives = record { life = record { before = []; later = next_session ∷ []; are = refl }; sent_is = refl; own_is = refl; records_are = refl; lines_are = refl; own_lines_are = refl };
  other_lives = record { life = record { before = []; later = []; are = refl }; sent_is = refl; own_is = refl; records_are = refl; lines_are = refl; own_lines_are = refl };
  next_lives = record { life = record { before = first_session ∷ []; later = []; are = refl }; sent_is = refl; own_is = refl; records_are = refl; lines_are = refl; own_lines_are = refl };
  shows_both = record {
    one = first_whole;
    other = first_alone;
    one_time = record { began = refl; seen = refl };
    alike = (refl, (refl, tt));
    sent_is = refl;
    other_is = refl;
    lines_are = refl;
    other_lines_are = refl;
  };
  alike_sessions = record { flow = refl; same = refl };
  unlike_sessions = λ a. (let e = ap length a.same in omega (arith, e));
  first_record = refl;
  changed = refl;
  moment = refl;
  other_port = refl;
  other_asset = refl;
  other_names = refl;
  other_time = refl;
}
