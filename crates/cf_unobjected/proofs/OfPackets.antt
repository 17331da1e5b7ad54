-- The flows of a client and an asset are those of the packets from the one to the other.
use Rattle.std.proofs.Common.{◌≡◌, ◌&&◌, ◌==◌, ℕ, Bool, true, false, List, [], ◌∷◌, cond, Option, Some, None, Ok, refl, ap, ◌∙◌, subst, filter}
use Rattle.cf_unobjected.proofs.Common.{Asset, Endpoint, Numbered, PacketValue, Watched, and_parts, asset_place, goes, heard_on, is_to_place, pair_of, pair_on, pairs_on, same_endpoint, with_record}
use Rattle.cf_unobjected.specs.Separate.{is_to}
use Rattle.cf_unobjected.proofs.Others.{number_is, stays}
use Rattle.cf_unobjected.proofs.Separate.{keeps}

endpoint_is : (a b : Endpoint) → a.address ≡ b.address → a.port ≡ b.port → a ≡ b
endpoint_is a b h g = rw (h, g) refl

module _ (client : Endpoint) (asset : ℕ) where
  abbrev after : (b : Bool) (number : ℕ) → PacketValue → List Watched → List Watched
  after true number p fs = pair_on number asset p fs
  after false number p fs = fs

  step_some : (number place : ℕ) (p : PacketValue) (flows : List Watched) (b : Bool) → (same_endpoint p.source client && (place == asset)) ≡ b →
      pair_of client asset (goes number p (Some place) flows) ≡ after b number p (pair_of client asset flows)
  step_some number place p flows true h =
      let ends = (and_parts (same_endpoint p.source client) (place == asset) h).0 in
      let a = number_is p.source.address client.address ((and_parts (p.source.address == client.address) _ ends).0) in
      let b = number_is p.source.port client.port ((and_parts (p.source.address == client.address) _ ends).1) in
      let same : p.source ≡ client = endpoint_is p.source client a b in
      let there : place ≡ asset = number_is place asset ((and_parts (same_endpoint p.source client) _ h).1) in
      subst (λ k. pair_of client k (goes number p (Some place) flows) ≡ pair_on number k p (pair_of client k flows)) there
      (subst (λ (c : Endpoint). pair_of c place (goes number p (Some place) flows) ≡ pair_on number place p (pair_of c place flows)) same (keeps number place p flows))
  step_some number place p flows false h = stays number place asset p client h flows

  step : (number : ℕ) (p : PacketValue) (o : Option ℕ) (flows : List Watched) → pair_of client asset (goes number p o flows) ≡ after (is_to_place client asset p.source o) number p (pair_of client asset flows)
  step number p None flows = refl
  step number p (Some place) flows = step_some number place p flows (same_endpoint p.source client && (place == asset)) refl

  kept : (b : Bool) (n : Numbered) (ns : List Numbered) (fs : List Watched) → pairs_on asset ns (after b n.number n.packet fs) ≡ pairs_on asset (cond b (n ∷ ns) ns) fs
  kept true n ns fs = refl
  kept false n ns fs = refl

  pub of_packets : (assets : List Asset) (heard : List Numbered) (flows : List Watched) →
      pair_of client asset (heard_on assets heard flows) ≡ pairs_on asset (filter (is_to assets client asset) heard) (pair_of client asset flows)
  of_packets assets [] flows = refl
  of_packets assets (n ∷ ns) flows =
      of_packets assets ns (with_record assets n.number (Ok n.packet) flows)
      ∙ ap (λ (fs : List Watched). pairs_on asset (filter (is_to assets client asset) ns) fs) (step n.number n.packet (asset_place assets n.packet.dest) flows)
      ∙ kept (is_to assets client asset n) n (filter (is_to assets client asset) ns) (pair_of client asset flows)
