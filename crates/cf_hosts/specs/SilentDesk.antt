-- Steps of the proof: what the hosts tell as a desk, which is nothing: `silent_desk`.
use Rattle.std.specs.Prelude.{true, [], None}
use Rattle.cf_outside.specs.Desk.{DeskValue}
use Rattle.cf_outside.specs.Files.{untold}

-- no packets, no lines, and no call that fails
abbrev pub silent_desk : DeskValue
silent_desk = record {
  packets = None;
  lines = None;
  packet_part = [];
  line_part = [];
  octets = λ sent. [];
  whole = true;
  faults = 0;
  lender = None;
  reads = λ _. 0;
  names = [];
  content = λ name. untold;
}
