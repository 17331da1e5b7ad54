-- The flows of a capture stay in their places as records come.
use Rattle.std.proofs.Common.{◌≡◌, ◌+◌, ◌∙◌, ℕ, zero, suc, Bool, true, false, List, [], ◌∷◌, ◌++◌, if◌then◌else◌, length, set, slice_get, Option, None, Some, Result, Ok, Err, refl, sym, ap, subst, append_assoc}
use Rattle.cf_unobjected.proofs.Common.{Asset, PacketValue, Record, Watched, asset_place, begins_anew, begun_by, carried_by, goes, goes_at, goes_to, is_opening, last_place, none-some, same_Some, top_of, watched, with_packet, with_record}
use Rattle.cf_packet.specs.Packet.{read_record}
use Rattle.cf_packet.specs.declared.PacketRefusal.{PacketRefusal}
use Rattle.cf_unobjected.specs.Allowed.{GoesOnAs}

-- a flow at a place goes on at the same place
abbrev pub StaysAt : (place : ℕ) → Watched → List Watched → Type 0
StaysAt place before ws = (after : Watched) × (slice_get ws place ≡ Some after) × GoesOnAs before after

same_goes_on : (w : Watched) → GoesOnAs w w
same_goes_on w = record { client = refl; asset = refl; more = []; carried = refl }

pub goes_on_both : (u v w : Watched) → GoesOnAs u v → GoesOnAs v w → GoesOnAs u w
goes_on_both u v w g h = record {
  client = h.client ∙ g.client;
  asset = h.asset ∙ g.asset;
  more = h.more ++ g.more;
  carried = h.carried ∙ ap (λ cs. h.more ++ cs) g.carried ∙ sym (append_assoc h.more g.more u.carried);
}

stays : (ws : List Watched) (place : ℕ) (w : Watched) → slice_get ws place ≡ Some w → StaysAt place w ws
stays ws place w e = (w, e, same_goes_on w)

get_front : (ws vs : List Watched) (place : ℕ) (w : Watched) → slice_get ws place ≡ Some w → slice_get (ws ++ vs) place ≡ Some w
get_front [] vs place w e = absurd (none-some w e)
get_front (v ∷ ws) vs zero w e = e
get_front (v ∷ ws) vs (suc place) w e = get_front ws vs place w e

with_goes_on : (number : ℕ) (p : PacketValue) (f : Watched) → GoesOnAs f (with_packet number p f)
with_goes_on number p f = record { client = refl; asset = refl; more = carried_by number f.origin (top_of f.carried) p ∷ []; carried = refl }

-- a flow at any place is as it was, or goes on
get_set : (ws : List Watched) (i : ℕ) (f now : Watched) → slice_get ws i ≡ Some f → GoesOnAs f now → (place : ℕ) (w : Watched) → slice_get ws place ≡ Some w → StaysAt place w (set ws i now)
get_set [] i f now is g place w e = absurd (none-some w e)
get_set (v ∷ ws) zero f now is g zero w e = (now, refl, subst (λ u. GoesOnAs u now) (sym (same_Some v f is) ∙ same_Some v w e) g)
get_set (v ∷ ws) zero f now is g (suc place) w e = (w, e, same_goes_on w)
get_set (v ∷ ws) (suc i) f now is g zero w e = (w, e, same_goes_on w)
get_set (v ∷ ws) (suc i) f now is g (suc place) w e = get_set ws i f now is g place w e

module _ (number : ℕ) (place : ℕ) (w : Watched) where
  either : (b : Bool) (xs ys : List Watched) → StaysAt place w xs → StaysAt place w ys → StaysAt place w (if b then xs else ys)
  either true xs ys p q = p
  either false xs ys p q = q

  on_to : (asset i : ℕ) (p : PacketValue) (o : Option Watched) (ws : List Watched) → slice_get ws i ≡ o → slice_get ws place ≡ Some w → StaysAt place w (goes_to number asset i p o ws)
  on_to asset i p None ws is e = stays ws place w e
  on_to asset i p (Some f) ws is e =
      either (begins_anew p f) (ws ++ begun_by number asset p ∷ []) (set ws i (with_packet number p f))
      (stays (ws ++ begun_by number asset p ∷ []) place w (get_front ws (begun_by number asset p ∷ []) place w e))
      (get_set ws i f (with_packet number p f) is (with_goes_on number p f) place w e)

  on_at : (asset : ℕ) (p : PacketValue) (last : Option ℕ) (ws : List Watched) → slice_get ws place ≡ Some w → StaysAt place w (goes_at number asset p last ws)
  on_at asset p None ws e =
      either (is_opening p) (ws ++ begun_by number asset p ∷ []) ws
      (stays (ws ++ begun_by number asset p ∷ []) place w (get_front ws (begun_by number asset p ∷ []) place w e)) (stays ws place w e)
  on_at asset p (Some i) ws e = on_to asset i p (slice_get ws i) ws refl e

  on_goes : (p : PacketValue) (asset : Option ℕ) (ws : List Watched) → slice_get ws place ≡ Some w → StaysAt place w (goes number p asset ws)
  on_goes p None ws e = stays ws place w e
  on_goes p (Some asset) ws e = on_at asset p (last_place p.source asset ws) ws e

  on_record : (assets : List Asset) (r : Result PacketValue PacketRefusal) (ws : List Watched) → slice_get ws place ≡ Some w → StaysAt place w (with_record assets number r ws)
  on_record assets (Err refusal) ws e = stays ws place w e
  on_record assets (Ok p) ws e = on_goes p (asset_place assets p.dest) ws e

pub go_on : (assets : List Asset) (newer older : List Record) (place : ℕ) (before : Watched) → slice_get (watched assets older) place ≡ Some before → StaysAt place before (watched assets (newer ++ older))
go_on assets [] older place before e = stays (watched assets older) place before e
go_on assets (r ∷ newer) older place before e =
    let so_far = go_on assets newer older place before e in
    let next = on_record (length (newer ++ older) + 1) place so_far.0 assets (read_record r.link r.body) (watched assets (newer ++ older)) so_far.1 in
    (next.0, next.1, goes_on_both before so_far.0 next.0 so_far.2 next.2)
