-- The assets of watched flows: the place of each is that of the first asset at some endpoint.
use Rattle.std.proofs.Common.{◌≡◌, ◌<◌, ◌+◌, ◌++◌, ℕ, zero, suc, List, [], ◌∷◌, Bool, true, false, Option, None, Some, Result, Ok, Err, if◌then◌else◌, length, set, slice_get, unwrap_or, refl, ap, subst, sym}
use Rattle.std.specs.List.{AllByRecursion, position}
use Rattle.std.proofs.lemmas.List.Quantifiers.{position-Some}
use Rattle.std.proofs.lemmas.Option.{none-some}
use Rattle.cf_packet.specs.Packet.{PacketValue}
use Rattle.cf_packet.specs.declared.packet.PacketRefusal.{PacketRefusal}
use Rattle.cf_records.specs.Capture.{Record}
use Rattle.cf_leg.specs.Segment.{is_opening}
use Rattle.cf_policy.specs.AtEndpoint.{asset_place}
use Rattle.cf_view.specs.Endpoints.{same_endpoint}
use Rattle.cf_policy.specs.declared.Asset.{Asset}
use Rattle.cf_watch.specs.Flow.{AreFlowsOf}
use Rattle.cf_watch.specs.FlowValue.{FlowValue, IsFirstPlace, IsForAsset}
use Rattle.cf_watch.specs.Seen.{begins_amid, begun_with, goes_first, goes_from, goes_in, goes_to_asset, opening_amid, opening_by, packet_by, seen_by, with_frame, with_packet_by}
use Rattle.cf_watch.specs.Watched.{Watched, begins_anew, last_place, watched}
use Rattle.cf_watch.specs.declared.scope.Scope.{Scope}
use Rattle.cf_watch.specs.declared.scope.Scope.TheVariants as scope
use Rattle.cf_watch.proofs.Seen.{watched_is_seen}

module _ (P : ℕ → Type 0) where
  abbrev Has : List Watched → Type 0
  Has ws = AllByRecursion (λ w. P w.asset) ws

  has_append : (ws : List Watched) (w : Watched) → Has ws → P w.asset → Has (ws ++ w ∷ [])
  has_append [] w h s = (s, tt)
  has_append (v ∷ ws) w h s = (h.0, has_append ws w h.1 s)

  has_set : (ws : List Watched) (i : ℕ) (w : Watched) → Has ws → P w.asset → Has (set ws i w)
  has_set [] i w h s = tt
  has_set (v ∷ ws) zero w h s = (s, h.1)
  has_set (v ∷ ws) (suc i) w h s = (h.0, has_set ws i w h.1 s)

  has_get : (ws : List Watched) (i : ℕ) (w : Watched) → Has ws → slice_get ws i ≡ Some w → P w.asset
  has_get [] i w h e = absurd (none-some w e)
  has_get (v ∷ ws) zero w h e = subst (λ x. P x.asset) (ap (λ o. unwrap_or o v) e) h.0
  has_get (v ∷ ws) (suc i) w h e = has_get ws i w h.1 e

  has_if : (b : Bool) (xs ys : List Watched) → Has xs → Has ys → Has (if b then xs else ys)
  has_if true xs ys a b = a
  has_if false xs ys a b = b

  has_in : (scope : Scope) (number asset place : ℕ) (packet : PacketValue) (o : Option Watched) (ws : List Watched) → slice_get ws place ≡ o → P asset → Has ws →
      Has (goes_in scope number asset place packet o ws)
  has_in scope number asset place packet None ws e s h = h
  has_in scope number asset place packet (Some f) ws e s h =
      let begun = begun_with scope (opening_by packet) number asset packet in
      has_if (begins_anew packet f) (ws ++ begun ∷ []) (set ws place (with_packet_by scope number packet f))
      (has_append ws begun h s) (has_set ws place (with_packet_by scope number packet f) h (has_get ws place f h e))

  has_first : (scope : Scope) (number asset : ℕ) (packet : PacketValue) (ws : List Watched) → P asset → Has ws → Has (goes_first scope number asset packet ws)
  has_first scope number asset packet ws s h =
      let amid = begun_with scope (opening_amid number packet) number asset packet in
      let begun = begun_with scope (opening_by packet) number asset packet in
      has_if (begins_amid scope packet) (ws ++ amid ∷ []) (if is_opening packet then ws ++ begun ∷ [] else ws)
      (has_append ws amid h s) (has_if (is_opening packet) (ws ++ begun ∷ []) ws (has_append ws begun h s) h)

  has_from : (scope : Scope) (number asset : ℕ) (packet : PacketValue) (last : Option ℕ) (ws : List Watched) → P asset → Has ws → Has (goes_from scope number asset packet last ws)
  has_from scope number asset packet None ws s h = has_first scope number asset packet ws s h
  has_from scope number asset packet (Some place) ws s h = has_in scope number asset place packet (slice_get ws place) ws refl s h

  has_goes : (scope : Scope) (number : ℕ) (packet : PacketValue) (o : Option ℕ) (ws : List Watched) → ((a : ℕ) → o ≡ Some a → P a) → Has ws → Has (goes_to_asset scope number packet o ws)
  has_goes scope number packet None ws f h = h
  has_goes scope number packet (Some a) ws f h = has_from scope number a packet (last_place packet.source a ws) ws (f a refl) h

place_inside : (p : Asset → Bool) (assets : List Asset) (i : ℕ) → position p assets ≡ Some i → i < length assets
place_inside p [] i e = absurd (none-some i e)
place_inside p (a ∷ assets) i e = (position-Some p (a ∷ assets) i a e).0

-- the place of the first asset at an endpoint is inside
first_inside : (assets : List Asset) (place : ℕ) → IsFirstPlace assets place → place < length assets
first_inside assets place (endpoint, at) = place_inside (λ x. same_endpoint x.endpoint endpoint) assets place at

first_record : (scope : Scope) (assets : List Asset) (number : ℕ) (r : Result PacketValue PacketRefusal) (ws : List Watched) → Has (IsFirstPlace assets) ws →
    Has (IsFirstPlace assets) (with_frame scope assets number r ws)
first_record scope assets number (Err refusal) ws h = h
first_record scope assets number (Ok packet) ws h = has_goes (IsFirstPlace assets) scope number packet (asset_place assets packet.dest) ws (λ a e. (packet.dest, e)) h

first_seen : (scope : Scope) (assets : List Asset) (newest : List Record) → Has (IsFirstPlace assets) (seen_by scope assets newest)
first_seen scope assets [] = tt
first_seen scope assets (r ∷ earlier) =
    first_record scope assets (length earlier + 1) (packet_by scope r.link r.body) (seen_by scope assets earlier) (first_seen scope assets earlier)

for_each : (assets : List Asset) (ws : List Watched) (flows : List FlowValue) → Has (IsFirstPlace assets) ws → AreFlowsOf ws flows → AllByRecursion (IsForAsset assets) flows
for_each assets [] flows h are = subst (AllByRecursion (IsForAsset assets)) (sym are) tt
for_each assets (w ∷ ws) [] h are = absurd are
for_each assets (w ∷ ws) (f ∷ flows) h are =
    let first : IsFirstPlace assets f.asset = subst (IsFirstPlace assets) (sym are.0.asset) h.0 in
    (record { asset = first_inside assets f.asset first; first = first; born = are.0.born.count }, for_each assets ws flows h.1 are.1)

pub are_for_seen : (scope : Scope) (assets : List Asset) (newest : List Record) (flows : List FlowValue) → AreFlowsOf (seen_by scope assets newest) flows → AllByRecursion (IsForAsset assets) flows
are_for_seen scope assets newest flows are = for_each assets (seen_by scope assets newest) flows (first_seen scope assets newest) are

pub are_for : (assets : List Asset) (newest : List Record) (flows : List FlowValue) → AreFlowsOf (watched assets newest) flows → AllByRecursion (IsForAsset assets) flows
are_for assets newest flows are = are_for_seen scope.Connections assets newest flows (subst (λ ws. AreFlowsOf ws flows) (watched_is_seen assets newest) are)
