-- The exact text of each line of the log: line_text.
use Rattle.std.specs.Prelude.{ℕ, ℤ, Option, None, Some, List, ◌++◌, codes, decimal, take}
use Rattle.std.specs.Fmt.{signed_decimal}
use Rattle.hex.specs.Hex.{encode_lower}
use Rattle.cf_view.specs.Text.{endpoint_text, moment_text}
use Rattle.cf_view.specs.declared.Act.{Act}
use Rattle.cf_audit.specs.Line.{Admit}
use Rattle.cf_audit.specs.Line.{LineValue, WhatValue, Begun, Refuse, Stray, Partial, Close, Cut, Listen, Unreached, Lost, Silent}
use Rattle.cf_audit.specs.Line.{Again, Away, Gone, NoMemory, Stands, Stranger}
use Rattle.cf_audit.specs.Names.{side_name, reason_name, why_name, break_name, mark}
use Rattle.cf_audit.specs.declared.line.CutReason.{CutReason}
use Rattle.cf_audit.specs.declared.line.CutReason.TheVariants as cut

-- a value, or a dash where there is none
abbrev pub value_text : Option ℤ → List ℕ
value_text None = codes "-"
value_text (Some value) = signed_decimal value

-- the numbers of an act
abbrev pub act_text : Act → List ℕ
act_text act =
    codes " code " ++ decimal act.code ++ codes " group " ++ decimal act.group ++ codes " point " ++ decimal act.point
    ++ codes " value " ++ value_text act.value

-- a side and why it was cut
abbrev pub cut_text : CutReason → List ℕ
cut_text (cut.Framing side reason) = side_name side ++ codes " " ++ break_name reason
cut_text (cut.WrongSend side expected seen) = side_name side ++ codes " send " ++ decimal expected ++ codes " " ++ decimal seen
cut_text (cut.WrongReceive side low high seen) =
    side_name side ++ codes " receive " ++ decimal low ++ codes " " ++ decimal high ++ codes " " ++ decimal seen
cut_text (cut.Outstanding side) = side_name side ++ codes " outstanding"
cut_text (cut.NotStarted side) = side_name side ++ codes " notstarted"
cut_text (cut.StreamLength side) = side_name side ++ codes " long"
cut_text (cut.NoAnswer side) = side_name side ++ codes " noanswer"
cut_text cut.ResetByClient = codes "client reset"
cut_text cut.ResetByController = codes "controller reset"

-- numbers of commands
abbrev pub counts_text : (admitted refused : ℕ) → List ℕ
counts_text admitted refused = codes " admitted " ++ decimal admitted ++ codes " refused " ++ decimal refused

-- the text that says how many clients came
abbrev pub came_text : (came : ℕ) → List ℕ
came_text came = codes " came " ++ decimal came

-- what happened
abbrev pub what_text : WhatValue → List ℕ
what_text Begun = codes "open"
what_text (Refuse rule reason act replied unit) =
    codes "refuse " ++ rule ++ codes " " ++ reason_name reason ++ act_text act ++ codes " " ++ mark replied ++ codes " "
    ++ encode_lower (take 16 unit)
what_text (Admit rule act unit) = codes "admit " ++ rule ++ act_text act ++ codes " " ++ encode_lower (take 16 unit)
what_text (Stray side why) = codes "stray " ++ side_name side ++ codes " " ++ why_name why
what_text (Partial side count) = codes "partial " ++ side_name side ++ codes " " ++ decimal count
what_text (Close admitted refused) = codes "close" ++ counts_text admitted refused
what_text (Cut reason) = codes "cut " ++ cut_text reason
what_text Listen = codes "listen"
what_text (Away came) = codes "away" ++ came_text came
what_text Unreached = codes "unreached"
what_text Gone = codes "gone"
what_text (Stranger came) = codes "stranger" ++ came_text came
what_text (Lost admitted refused) = codes "lost" ++ counts_text admitted refused
what_text (Silent admitted refused) = codes "silent" ++ counts_text admitted refused
what_text (Again admitted refused) = codes "again" ++ counts_text admitted refused
what_text NoMemory = codes "nomemory"
what_text (Stands standing admitted refused) = codes "stands " ++ decimal standing ++ counts_text admitted refused

-- a moment, the client, the asset and what happened; a line feed ends it
abbrev pub line_text : LineValue → List ℕ
line_text line =
    moment_text line.moment ++ codes " " ++ endpoint_text line.client ++ codes " " ++ line.asset ++ codes " "
    ++ what_text line.what ++ codes "\n"
