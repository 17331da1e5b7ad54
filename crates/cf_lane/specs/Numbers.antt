-- What the items of an IEC 60870-5-104 session are to its numbers: `events_of`. The numbers themselves are those of cf_renumber,
-- counts over these events.
use Rattle.cf_apci.specs.Apdu.{Ack, ApduValue, Control, Info}
use Rattle.cf_audit.specs.declared.line.CutReason.{CutReason}
use Rattle.cf_lane.specs.Item.{Broke, Ended, Item, Took}
use Rattle.cf_lane.specs.Judged.{Judged, has_ended, in_turn}
use Rattle.cf_lane.specs.Unit.{Adu, Apdu, Frame}
use Rattle.cf_lane.specs.declared.fate.Fate.{Fate}
use Rattle.cf_renumber.specs.Counts.{Admitted, Carried, ClientAck, ControllerAck, NumberEvent, Refused, Started, Stopped}
use Rattle.cf_renumber.specs.Counts.{client_ack_refusal, client_refusal, controller_ack_refusal, controller_refusal, may_send}
use Rattle.cf_renumber.specs.declared.answer.NumberRefusal.{NumberRefusal}
use Rattle.cf_view.specs.declared.Side.{Side}
use Rattle.std.specs.Prelude.{Bool, List, None, Option, Some, [], false, if◌then◌else◌, length, nat_eq, nat_lt, reverse, ℕ, ◌∷◌}
use Rattle.cf_audit.specs.declared.line.CutReason.TheVariants as cut
use Rattle.cf_lane.specs.declared.fate.Fate.TheVariants as fate
use Rattle.cf_renumber.specs.declared.answer.NumberRefusal.TheVariants as refusals
use Rattle.cf_view.specs.declared.Side.TheVariants as side

-- STARTDT act and STOPDT act
abbrev pub control_event : ℕ → List NumberEvent
control_event octet = if nat_eq octet 0x07 then Started ∷ [] else (if nat_eq octet 0x13 then Stopped ∷ [] else [])

-- whether a refused ASDU has a mirror: it has nine octets or more, and nothing follows an End
abbrev pub has_mirror : List Judged → List ℕ → Bool
has_mirror earlier asdu = if has_ended side.Controller earlier then false else nat_lt 8 (length asdu)

-- a client's I frame, by its fate
abbrev pub command_event : Fate → (receive : ℕ) → (mirrored : Bool) → List NumberEvent
command_event (fate.Admitted used) receive mirrored = Admitted receive ∷ []
command_event (fate.Refused refusal) receive mirrored = Refused receive mirrored ∷ []
command_event fate.Carried receive mirrored = []
command_event (fate.Stray because) receive mirrored = []
command_event fate.Lengthens receive mirrored = []
command_event (fate.Cuts because) receive mirrored = []

-- what an APDU of the client is to the numbers
abbrev pub client_event : List Judged → Fate → ApduValue → List NumberEvent
client_event earlier f (Info send receive asdu) = command_event f receive (has_mirror earlier asdu)
client_event earlier f (Ack receive) = ClientAck receive ∷ []
client_event earlier f (Control octet) = control_event octet

-- what an APDU of the controller is to the numbers
abbrev pub controller_event : ApduValue → List NumberEvent
controller_event (Info send receive asdu) = Carried receive ∷ []
controller_event (Ack receive) = ControllerAck receive ∷ []
controller_event (Control octet) = []

-- what an item is to the numbers, after the earlier ones
abbrev pub item_event : List Judged → Fate → Item → List NumberEvent
item_event earlier f (Took side.Client (Apdu a)) = client_event earlier f a
item_event earlier f (Took side.Controller (Apdu a)) = controller_event a
item_event earlier f (Took s (Adu a)) = []
item_event earlier f (Took s (Frame x)) = []
item_event earlier f (Ended s rest) = []
item_event earlier f (Broke s because) = []

-- what earlier items are to the numbers, the newest first
abbrev pub events_of : List Judged → List NumberEvent
events_of earlier = reverse (in_turn (λ before j. item_event before j.fate j.item) [] earlier)

-- a refusal of a number cuts
abbrev pub number_cut : Side → Option NumberRefusal → Option CutReason
number_cut s None = None
number_cut s (Some (refusals.WrongSend expected seen)) = Some (cut.WrongSend s expected seen)
number_cut s (Some (refusals.WrongReceive low high seen)) = Some (cut.WrongReceive s low high seen)
number_cut s (Some refusals.Outstanding) = Some (cut.Outstanding s)

-- why the numbers of an I frame are refused, and that of an S frame
abbrev pub info_refusal : Side → List NumberEvent → (send receive : ℕ) → Option NumberRefusal
info_refusal side.Client events send receive = client_refusal events send receive
info_refusal side.Controller events send receive = controller_refusal events send receive

-- what is wrong with the receive number of a side, if anything is
abbrev pub ack_refusal : Side → List NumberEvent → (receive : ℕ) → Option NumberRefusal
ack_refusal side.Client events receive = client_ack_refusal events receive
ack_refusal side.Controller events receive = controller_ack_refusal events receive

-- the cut by an I frame, whose side is tested before its numbers; and by an S frame
abbrev pub info_cut : Side → List Judged → (send receive : ℕ) → Option CutReason
info_cut s earlier send receive =
    if may_send s (events_of earlier) then number_cut s (info_refusal s (events_of earlier) send receive) else Some (cut.NotStarted s)

-- why that cuts, if it does
abbrev pub ack_cut : Side → List Judged → (receive : ℕ) → Option CutReason
ack_cut s earlier receive = number_cut s (ack_refusal s (events_of earlier) receive)
