-- The flows of a watch of connections.
use Rattle.std.proofs.Common.{◌≡◌, ◌+◌, ◌∙◌, ℕ, List, [], ◌∷◌, length, slice_get, Option, None, Some, Result, Ok, Err, refl, ap}
use Rattle.cf_packet.specs.Packet.{PacketValue, read_record}
use Rattle.cf_packet.specs.declared.packet.PacketRefusal.{PacketRefusal}
use Rattle.cf_policy.specs.declared.Asset.{Asset}
use Rattle.cf_records.specs.Capture.{Record}
use Rattle.cf_policy.specs.AtEndpoint.{asset_place}
use Rattle.cf_watch.specs.Seen.{goes_from, goes_in, goes_to_asset, seen_by, with_frame}
use Rattle.cf_watch.specs.Watched.{Watched, goes, goes_at, goes_to, last_place, watched, with_record}
use Rattle.cf_watch.specs.declared.scope.Scope.TheVariants as scope

same_to : (number asset place : ℕ) (packet : PacketValue) (f : Option Watched) (ws : List Watched) → goes_to number asset place packet f ws ≡ goes_in scope.Connections number asset place packet f ws
same_to number asset place packet None ws = refl
same_to number asset place packet (Some f) ws = refl

same_at : (number asset : ℕ) (packet : PacketValue) (last : Option ℕ) (ws : List Watched) → goes_at number asset packet last ws ≡ goes_from scope.Connections number asset packet last ws
same_at number asset packet None ws = refl
same_at number asset packet (Some place) ws = same_to number asset place packet (slice_get ws place) ws

same_goes : (number : ℕ) (packet : PacketValue) (asset : Option ℕ) (ws : List Watched) → goes number packet asset ws ≡ goes_to_asset scope.Connections number packet asset ws
same_goes number packet None ws = refl
same_goes number packet (Some asset) ws = same_at number asset packet (last_place packet.source asset ws) ws

same_record : (assets : List Asset) (number : ℕ) (r : Result PacketValue PacketRefusal) (ws : List Watched) → with_record assets number r ws ≡ with_frame scope.Connections assets number r ws
same_record assets number (Err refusal) ws = refl
same_record assets number (Ok packet) ws = same_goes number packet (asset_place assets packet.dest) ws

-- they are those that begin with a SYN
pub watched_is_seen : (assets : List Asset) (newest : List Record) → watched assets newest ≡ seen_by scope.Connections assets newest
watched_is_seen assets [] = refl
watched_is_seen assets (r ∷ earlier) =
    same_record assets (length earlier + 1) (read_record r.link r.body) (watched assets earlier)
    ∙ ap (with_frame scope.Connections assets (length earlier + 1) (read_record r.link r.body)) (watched_is_seen assets earlier)
