-- The flows of the first records of a capture are fronts of those of all.
use Rattle.std.proofs.Common.{◌≡◌, ◌+◌, ◌<◌, ◌≤◌, ℕ, zero, suc, Bool, true, false, List, [], ◌∷◌, ◌++◌, if◌then◌else◌, length, set, slice_get, Option, None, Some, Result, Ok, Err, refl, ap, subst, arith, length-append}
use Rattle.cf_unobjected.proofs.Common.{AllByRecursion, Asset, Carried, PacketValue, Record, Watched, asset_place, begins_anew, begun_by, carried_by, goes, goes_at, goes_to, is_opening, last_place, same_Some, top_of, watched, with_packet, with_record}
use Rattle.cf_packet.specs.Packet.{read_record}
use Rattle.cf_packet.specs.declared.PacketRefusal.{PacketRefusal}

-- all that was carried came with a record up to this one, or all after it
abbrev pub AreUpTo : ℕ → List Carried → Type 0
AreUpTo n carried = AllByRecursion (λ c. c.number ≤ n) carried

abbrev pub AreAfter : ℕ → List Carried → Type 0
AreAfter n carried = AllByRecursion (λ c. n < c.number) carried

-- a flow carried what the other did up to a record, and that one more after it
pub record IsFrontOf (n : ℕ) (before after : Watched) : Type 0 where
  pub client : after.client ≡ before.client
  pub asset : after.asset ≡ before.asset
  pub midstream : after.midstream ≡ before.midstream
  pub more : List Carried
  pub carried : after.carried ≡ more ++ before.carried
  pub later : AreAfter n more
  pub first : AreUpTo n before.carried

-- flow by flow; what began later carried all after that record
abbrev pub AreFronts : ℕ → (before after : List Watched) → Type 0
AreFronts n [] [] = Unit {0}
AreFronts n [] (w ∷ ws) = AreAfter n w.carried × AreFronts n [] ws
AreFronts n (v ∷ vs) [] = ⊥
AreFronts n (v ∷ vs) (w ∷ ws) = IsFrontOf n v w × AreFronts n vs ws

-- ---- the records of a capture so far

up_to_more : (n m : ℕ) (cs : List Carried) → n ≤ m → AreUpTo n cs → AreUpTo m cs
up_to_more n m [] h a = tt
up_to_more n m (c ∷ cs) h a = (omega (arith, h, a.0), up_to_more n m cs h a.1)

abbrev AllUpTo : ℕ → List Watched → Type 0
AllUpTo n ws = AllByRecursion (λ w. AreUpTo n w.carried) ws

all_more : (n m : ℕ) (ws : List Watched) → n ≤ m → AllUpTo n ws → AllUpTo m ws
all_more n m [] h a = tt
all_more n m (w ∷ ws) h a = (up_to_more n m w.carried h a.0, all_more n m ws h a.1)

either : (P : List Watched → Type 0) (b : Bool) (xs ys : List Watched) → P xs → P ys → P (if b then xs else ys)
either P true xs ys p q = p
either P false xs ys p q = q

-- what holds of all flows, and of one more, holds of all, whatever a record does to them
module _ (P : List Watched → Type 0) (number : ℕ) (push : (ws : List Watched) (asset : ℕ) (p : PacketValue) → P ws → P (ws ++ begun_by number asset p ∷ []))
    (put : (ws : List Watched) (i : ℕ) (f : Watched) (p : PacketValue) → slice_get ws i ≡ Some f → P ws → P (set ws i (with_packet number p f))) where
  by_place : (asset i : ℕ) (p : PacketValue) (o : Option Watched) (ws : List Watched) → slice_get ws i ≡ o → P ws → P (goes_to number asset i p o ws)
  by_place asset i p None ws is h = h
  by_place asset i p (Some f) ws is h = either P (begins_anew p f) (ws ++ begun_by number asset p ∷ []) (set ws i (with_packet number p f)) (push ws asset p h) (put ws i f p is h)

  by_last : (asset : ℕ) (p : PacketValue) (last : Option ℕ) (ws : List Watched) → P ws → P (goes_at number asset p last ws)
  by_last asset p None ws h = either P (is_opening p) (ws ++ begun_by number asset p ∷ []) ws (push ws asset p h) h
  by_last asset p (Some i) ws h = by_place asset i p (slice_get ws i) ws refl h

  by_asset : (p : PacketValue) (asset : Option ℕ) (ws : List Watched) → P ws → P (goes number p asset ws)
  by_asset p None ws h = h
  by_asset p (Some asset) ws h = by_last asset p (last_place p.source asset ws) ws h

  by_record : (assets : List Asset) (r : Result PacketValue PacketRefusal) (ws : List Watched) → P ws → P (with_record assets number r ws)
  by_record assets (Err refusal) ws h = h
  by_record assets (Ok p) ws h = by_asset p (asset_place assets p.dest) ws h

module _ (n : ℕ) where
  up_to_push : (ws : List Watched) (asset : ℕ) (p : PacketValue) → AllUpTo n ws → AllUpTo n (ws ++ begun_by n asset p ∷ [])
  up_to_push [] asset p h = ((omega arith, tt), tt)
  up_to_push (w ∷ ws) asset p h = (h.0, up_to_push ws asset p h.1)

  up_to_put : (ws : List Watched) (i : ℕ) (f : Watched) (p : PacketValue) → slice_get ws i ≡ Some f → AllUpTo n ws → AllUpTo n (set ws i (with_packet n p f))
  up_to_put [] i f p is h = tt
  up_to_put (w ∷ ws) zero f p is h = ((omega arith, subst (λ x. AreUpTo n x.carried) (same_Some w f is) h.0), h.1)
  up_to_put (w ∷ ws) (suc i) f p is h = (h.0, up_to_put ws i f p is h.1)

all_up_to : (assets : List Asset) (newest : List Record) → AllUpTo (length newest) (watched assets newest)
all_up_to assets [] = tt
all_up_to assets (r ∷ earlier) =
    let number = length earlier + 1 in
    let now = by_record (AllUpTo number) number (up_to_push number) (up_to_put number) assets (read_record r.link r.body) (watched assets earlier)
    (all_more (length earlier) number (watched assets earlier) (omega arith) (all_up_to assets earlier)) in
    subst (λ n. AllUpTo n (watched assets (r ∷ earlier))) (omega arith) now

-- ---- more records

fronts_same : (n : ℕ) (ws : List Watched) → AllUpTo n ws → AreFronts n ws ws
fronts_same n [] h = tt
fronts_same n (w ∷ ws) h = (record { client = refl; asset = refl; midstream = refl; more = []; carried = refl; later = tt; first = h.0 }, fronts_same n ws h.1)

module _ (n number : ℕ) (after : n < number) where
  front_on : (v w : Watched) (p : PacketValue) → IsFrontOf n v w → IsFrontOf n v (with_packet number p w)
  front_on v w p h = record {
    client = h.client;
    asset = h.asset;
    midstream = h.midstream;
    more = carried_by number w.origin (top_of w.carried) p ∷ h.more;
    carried = ap (λ cs. carried_by number w.origin (top_of w.carried) p ∷ cs) h.carried;
    later = (after, h.later);
    first = h.first;
  }

  front_push : (vs ws : List Watched) (asset : ℕ) (p : PacketValue) → AreFronts n vs ws → AreFronts n vs (ws ++ begun_by number asset p ∷ [])
  front_push [] [] asset p h = ((after, tt), tt)
  front_push [] (w ∷ ws) asset p h = (h.0, front_push [] ws asset p h.1)
  front_push (v ∷ vs) [] asset p h = absurd h
  front_push (v ∷ vs) (w ∷ ws) asset p h = (h.0, front_push vs ws asset p h.1)

  front_put : (vs ws : List Watched) (i : ℕ) (f : Watched) (p : PacketValue) → slice_get ws i ≡ Some f → AreFronts n vs ws → AreFronts n vs (set ws i (with_packet number p f))
  front_put [] [] i f p is h = tt
  front_put [] (w ∷ ws) zero f p is h = ((after, subst (λ x. AreAfter n x.carried) (same_Some w f is) h.0), h.1)
  front_put [] (w ∷ ws) (suc i) f p is h = (h.0, front_put [] ws i f p is h.1)
  front_put (v ∷ vs) [] i f p is h = absurd h
  front_put (v ∷ vs) (w ∷ ws) zero f p is h = (subst (λ x. IsFrontOf n v (with_packet number p x)) (same_Some w f is) (front_on v w p h.0), h.1)
  front_put (v ∷ vs) (w ∷ ws) (suc i) f p is h = (h.0, front_put vs ws i f p is h.1)

pub are_fronts : (assets : List Asset) (newer older : List Record) → AreFronts (length older) (watched assets older) (watched assets (newer ++ older))
are_fronts assets [] older = fronts_same (length older) (watched assets older) (all_up_to assets older)
are_fronts assets (r ∷ newer) older =
    let number = length (newer ++ older) + 1 in
    let after : length older < number = (let size = length-append newer older in omega (arith, size)) in
    by_record (AreFronts (length older) (watched assets older)) number (front_push (length older) number after (watched assets older)) (front_put (length older) number after (watched assets older))
    assets (read_record r.link r.body) (watched assets (newer ++ older)) (are_fronts assets newer older)
