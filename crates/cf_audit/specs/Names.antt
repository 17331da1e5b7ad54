-- The words of the log: side_name, reason_name, why_name and break_name.
use Rattle.std.specs.Prelude.{ℕ, List, Bool, true, false, codes}
use Rattle.cf_view.specs.declared.Break.{Break}
use Rattle.cf_view.specs.declared.Break.TheVariants as break
use Rattle.cf_view.specs.declared.Reason.{Reason}
use Rattle.cf_view.specs.declared.Reason.TheVariants as reason
use Rattle.cf_view.specs.declared.Side.{Side}
use Rattle.cf_view.specs.declared.Side.TheVariants as side
use Rattle.cf_audit.specs.declared.line.Why.{Why}
use Rattle.cf_audit.specs.declared.line.Why.TheVariants as why

-- the word of a side
abbrev pub side_name : Side → List ℕ
side_name side.Client = codes "client"
side_name side.Controller = codes "controller"

-- the word of the reason of a refusal
abbrev pub reason_name : Reason → List ℕ
reason_name reason.Function = codes "function"
reason_name reason.Point = codes "point"
reason_name reason.Value = codes "value"
reason_name reason.Station = codes "station"

-- the word of the reason for which a frame is stray
abbrev pub why_name : Why → List ℕ
why_name why.Address = codes "address"
why_name why.Direction = codes "direction"
why_name why.Code = codes "code"
why_name why.Empty = codes "empty"
why_name why.NoFirst = codes "first"
why_name why.Order = codes "order"
why_name why.TooLong = codes "long"
why_name why.Short = codes "short"

-- the word of what breaks a stream
abbrev pub break_name : Break → List ℕ
break_name break.Protocol = codes "protocol"
break_name break.Length = codes "length"
break_name break.Start = codes "start"
break_name break.FrameLength = codes "framelength"
break_name break.HeaderCrc = codes "headercrc"
break_name break.BlockCrc = codes "blockcrc"
break_name break.ApduStart = codes "apdustart"
break_name break.ApduLength = codes "apdulength"
break_name break.Control = codes "control"

-- the word that says whether a refused command has a reply
abbrev pub mark : Bool → List ℕ
mark true = codes "replied"
mark false = codes "unanswered"
