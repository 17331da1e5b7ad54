-- The lines of a listing: `record_line` is that of a record; and how many records it drops, `dropped_in`.
use Rattle.std.specs.Prelude.{ℕ, ◌+◌, ◌/◌, ◌%◌, ◌==◌, Bool, List, [], ◌∷◌, ◌++◌, count_by, is_err, length, if◌then◌else◌, Result, Ok, Err, codes, decimal}
use Rattle.cf_packet.specs.Packet.{PacketValue, read_record}
use Rattle.cf_packet.specs.declared.PacketRefusal.{PacketRefusal}
use Rattle.cf_packet.specs.declared.PacketRefusal.TheVariants as packet
use Rattle.cf_records.specs.Capture.{Record}
use Rattle.cf_view.specs.Text.{endpoint_text, moment_text}

-- the letter of a flag, which is a power of two, if it is set
abbrev pub flag_text : ℕ → ℕ → List ℕ → List ℕ
flag_text flags flag letter = if flags / flag % 2 == 0 then [] else letter

-- the letters of the flags that are set, in this order, or a hyphen
abbrev pub flags_text : ℕ → List ℕ
flags_text flags =
    if flags == 0 then codes "-"
    else flag_text flags 1 (codes "F") ++ flag_text flags 2 (codes "S") ++ flag_text flags 4 (codes "R")
    ++ flag_text flags 8 (codes "P") ++ flag_text flags 16 (codes "A") ++ flag_text flags 32 (codes "U")

-- the name of each refusal
abbrev pub refusal_name : PacketRefusal → List ℕ
refusal_name packet.NotIpv4 = codes "notipv4"
refusal_name packet.Short = codes "short"
refusal_name packet.BadHeader = codes "badheader"
refusal_name packet.BadHeaderSum = codes "badsum"
refusal_name packet.Fragment = codes "fragment"
refusal_name packet.NotTcp = codes "nottcp"
refusal_name packet.BadTcp = codes "badtcp"
refusal_name packet.BadTcpSum = codes "badtcpsum"

-- the numbers of a packet
abbrev pub fields_text : PacketValue → List ℕ
fields_text p =
    codes " seq " ++ decimal p.seq ++ codes " ack " ++ decimal p.ack ++ codes " win " ++ decimal p.window
    ++ codes " len " ++ decimal (length p.text)

-- what is said of a record's octets
abbrev pub packet_text : Result PacketValue PacketRefusal → List ℕ
packet_text (Ok p) =
    endpoint_text p.source ++ codes " > " ++ endpoint_text p.dest ++ codes " " ++ flags_text p.flags ++ fields_text p
packet_text (Err r) = codes "dropped " ++ refusal_name r

-- the line of the record of a number
abbrev pub record_line : ℕ → Record → List ℕ
record_line n r =
    decimal n ++ codes " " ++ moment_text r.stamp ++ codes " " ++ packet_text (read_record r.link r.body) ++ codes "\n"

-- the lines of records that are numbered from n on
abbrev pub lines_from : ℕ → List Record → List ℕ
lines_from n [] = []
lines_from n (r ∷ rs) = record_line n r ++ lines_from (n + 1) rs

-- whether a record's octets are no TCP segment over IPv4
abbrev pub is_dropped : Record → Bool
is_dropped r = is_err (read_record r.link r.body)

-- how many of records have none
abbrev pub dropped_in : List Record → ℕ
dropped_in rs = count_by is_dropped rs
