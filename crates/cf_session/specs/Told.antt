-- What a desk tells of the packets and lines that a session puts there. The main definition is `with_both`.
use Rattle.std.specs.Prelude.{ℕ, List, ◌++◌, map, Option, option_map}
use Rattle.cf_leg.specs.Emitted.{spelled}
use Rattle.cf_outside.specs.Desk.{DeskValue, SentValue}
use Rattle.cf_session.specs.Sent.{Sent}

-- the packets and the lines, each where the desk tells them
pub record Told : Type 0 where
  pub packets : Option (List SentValue)
  pub lines : Option (List (List ℕ))

abbrev pub told : DeskValue → Told
told desk = record { packets = desk.packets; lines = desk.lines }

-- a packet as its octets
abbrev pub emitted : Sent → SentValue
emitted sent = record { moment = sent.moment; bytes = spelled sent.packet }

abbrev pub with_more : {A : Type 0} → Option (List A) → List A → Option (List A)
with_more told more = option_map (λ all. all ++ more) told

-- what is told, with more packets and more lines
abbrev pub with_both : Told → List Sent → (lines : List (List ℕ)) → Told
with_both t sent lines = record { packets = with_more t.packets (map emitted sent); lines = with_more t.lines lines }
