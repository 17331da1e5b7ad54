-- What of a packet does not fit in the session that it goes to, `misfit_in`, and whether it goes between a client and an asset at all.
use Rattle.std.specs.Prelude.{not, Bool, true, false, if◌then◌else◌, List, Option, Some, None, slice_get, Result, Ok, Err}
use Rattle.cf_leg.specs.Event.{Came, Greeting, Nothing, Packet}
use Rattle.cf_packet.specs.Packet.{PacketValue}
use Rattle.cf_packet.specs.declared.packet.PacketRefusal.{PacketRefusal}
use Rattle.cf_policy.specs.AtEndpoint.{has_asset_at}
use Rattle.cf_policy.specs.declared.Asset.{Asset}
use Rattle.cf_session.specs.Misfit.{misfit_of}
use Rattle.cf_session.specs.Session.{Flow, SessionEvent}
use Rattle.cf_session.specs.declared.misfit.Misfit.{Misfit}
use Rattle.cf_session.specs.declared.misfit.Misfit.TheVariants as misfit
use Rattle.cf_view.specs.declared.Side.TheVariants as side
use Rattle.cf_run.specs.Table.{Session}
use Rattle.cf_run.specs.Trace.{Received, Went}

-- neither end of a packet, or both, is an asset's
abbrev pub is_between_others : List Asset → PacketValue → Bool
is_between_others assets packet =
    if has_asset_at assets packet.source then has_asset_at assets packet.dest else not (has_asset_at assets packet.dest)

-- the same of a record, which may be no packet
abbrev pub is_foreign : List Asset → Result PacketValue PacketRefusal → Bool
is_foreign assets (Ok packet) = is_between_others assets packet
is_foreign assets (Err refusal) = false

-- what does not fit in what came at the client's end of a session, behind these events
abbrev pub misfit_from_client : Flow → List SessionEvent → Came → Misfit
misfit_from_client flow events (Packet p) = misfit_of flow events side.Client p
misfit_from_client flow events (Greeting p) = misfit.Nothing
misfit_from_client flow events Nothing = misfit.Nothing

-- the same of what came at either end: the packet of one of them, and perhaps a greeting of the other
abbrev pub misfit_from : Flow → List SessionEvent → (controller client : Came) → Misfit
misfit_from flow events (Packet p) client = misfit_of flow events side.Controller p
misfit_from flow events (Greeting p) client = misfit_from_client flow events client
misfit_from flow events Nothing client = misfit_from_client flow events client

-- what does not fit in the packet with which the event of a session of the table went on
abbrev pub misfit_at : Option Session → SessionEvent → Misfit
misfit_at None event = misfit.Nothing
misfit_at (Some session) event = misfit_from session.flow session.events event.controller.came event.client.came

-- what does not fit in the packet of an event, in the table as the packet finds it
abbrev pub misfit_in : List Session → Received → Misfit
misfit_in table (Went place event) = misfit_at (slice_get table place) event
misfit_in table _ = misfit.Nothing

-- a packet that acknowledges what was not sent
abbrev pub is_above : Misfit → Bool
is_above misfit.Above = true
is_above misfit.Nothing = false
is_above misfit.Beyond = false

-- a packet that ends beyond the edge
abbrev pub is_beyond : Misfit → Bool
is_beyond misfit.Beyond = true
is_beyond misfit.Nothing = false
is_beyond misfit.Above = false
