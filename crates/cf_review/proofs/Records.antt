-- What a record adds to the flows that were watched: letters that came with it, and flows to assets of the policy.
use Rattle.std.proofs.Common.{◌≡◌, ◌+◌, ◌<◌, ◌⊎◌, ℕ, zero, suc, Bool, true, false, List, [], ◌∷◌, ◌++◌, length, set, slice_get, Option, None, Some, option_map, Result, Ok, Err, if◌then◌else◌, refl, sym, ap, subst, inl, inr}
use Rattle.std.specs.List.{position}
use Rattle.std.specs.Option.{option_or}
use Rattle.std.proofs.lemmas.List.Quantifiers.{position-Some}
use Rattle.std.proofs.lemmas.Option.{none-some, same_Some}
use Rattle.cf_leg.specs.Segment.{is_opening}
use Rattle.cf_packet.specs.Packet.{PacketValue}
use Rattle.cf_packet.specs.declared.packet.PacketRefusal.{PacketRefusal}
use Rattle.cf_policy.specs.AtEndpoint.{asset_place}
use Rattle.cf_policy.specs.declared.Asset.{Asset}
use Rattle.cf_records.specs.Capture.{Record}
use Rattle.cf_stream.specs.Stream.{Letter}
use Rattle.cf_view.specs.Endpoints.{same_endpoint}
use Rattle.cf_watch.specs.Carried.{Carried, top_of}
use Rattle.cf_watch.specs.Seen.{begins_amid, begun_with, goes_first, goes_from, goes_in, goes_to_asset, near, opening_amid, opening_by, packet_by, seen_by, with_frame, with_packet_by}
use Rattle.cf_watch.specs.Stretches.{FirstLetter, first_letter, letter_came}
use Rattle.cf_watch.specs.Watched.{Watched, begins_anew, carried_by, last_place}
use Rattle.cf_watch.specs.declared.Scope.TheVariants as scope

-- ---- lists

-- an element of a list with one more is one of the list, or that one
pub get_push : {X : Type 0} (xs : List X) (x : X) (i : ℕ) (y : X) → slice_get (xs ++ x ∷ []) i ≡ Some y → (slice_get xs i ≡ Some y) ⊎ ((i ≡ length xs) × (x ≡ y))
get_push [] x zero y h = inr (refl, same_Some x y h)
get_push [] x (suc i) y h = absurd (none-some y h)
get_push (z ∷ xs) x zero y h = inl h
get_push (z ∷ xs) x (suc i) y h = elim (get_push xs x i y h) [ inl a ↦ inl a | inr (l, e) ↦ inr (ap suc l, e) ]

-- an element of a list with one set is one of the list, or that one
pub get_set : {X : Type 0} (xs : List X) (p : ℕ) (x : X) (i : ℕ) (y : X) → slice_get (set xs p x) i ≡ Some y → (slice_get xs i ≡ Some y) ⊎ ((i ≡ p) × (x ≡ y))
get_set [] p x i y h = absurd (none-some y h)
get_set (z ∷ xs) zero x zero y h = inr (refl, same_Some x y h)
get_set (z ∷ xs) zero x (suc i) y h = inl h
get_set (z ∷ xs) (suc p) x zero y h = inl h
get_set (z ∷ xs) (suc p) x (suc i) y h = elim (get_set xs p x i y h) [ inl a ↦ inl a | inr (l, e) ↦ inr (ap suc l, e) ]

-- ---- each flow after a packet is one from before, one that goes on with the packet, or one that begins with it

module _ (number asset : ℕ) (packet : PacketValue) (ws : List Watched) (Q : ℕ → Watched → Type 0) (same : (i : ℕ) (w : Watched) → slice_get ws i ≡ Some w → Q i w)
    (on : (i : ℕ) (w : Watched) → slice_get ws i ≡ Some w → Q i (with_packet_by scope.Recording number packet w))
    (first : (opening : _) → Q (length ws) (begun_with scope.Recording opening number asset packet)) where
  abbrev Each : List Watched → Type 0
  Each vs = (i : ℕ) (w : Watched) → slice_get vs i ≡ Some w → Q i w

  each_push : (opening : _) → Each (ws ++ begun_with scope.Recording opening number asset packet ∷ [])
  each_push opening i w e = elim (get_push ws (begun_with scope.Recording opening number asset packet) i w e) [
    | inl a ↦ same i w a
    | inr (l, x) ↦ subst (λ k. Q k w) (sym l) (subst (Q (length ws)) x (first opening))
  ]

  each_set : (place : ℕ) (f : Watched) → slice_get ws place ≡ Some f → Each (set ws place (with_packet_by scope.Recording number packet f))
  each_set place f at i w e = elim (get_set ws place (with_packet_by scope.Recording number packet f) i w e) [
    | inl a ↦ same i w a
    | inr (l, x) ↦ subst (λ k. Q k w) (sym l) (subst (Q place) x (on place f at))
  ]

  each_if : (b : Bool) (xs ys : List Watched) → Each xs → Each ys → Each (if b then xs else ys)
  each_if true xs ys a b = a
  each_if false xs ys a b = b

  each_in : (place : ℕ) (o : Option Watched) → slice_get ws place ≡ o → Each (goes_in scope.Recording number asset place packet o ws)
  each_in place None e = same
  each_in place (Some f) e =
      each_if (begins_anew packet f) (ws ++ begun_with scope.Recording (opening_by packet) number asset packet ∷ []) (set ws place (with_packet_by scope.Recording number packet f))
      (each_push (opening_by packet)) (each_set place f e)

  each_first : Each (goes_first scope.Recording number asset packet ws)
  each_first =
      let opens = ws ++ begun_with scope.Recording (opening_by packet) number asset packet ∷ [] in
      each_if (begins_amid scope.Recording packet) (ws ++ begun_with scope.Recording (opening_amid number packet) number asset packet ∷ []) (if is_opening packet then opens else ws)
      (each_push (opening_amid number packet)) (each_if (is_opening packet) opens ws (each_push (opening_by packet)) same)

  each_from : (last : Option ℕ) → Each (goes_from scope.Recording number asset packet last ws)
  each_from None = each_first
  each_from (Some place) = each_in place (slice_get ws place) refl

-- ---- letters

-- the letters of a flow are those that the flow at its place had, or came with this record
abbrev pub HasLetters : (number : ℕ) → List Watched → (place : ℕ) → Watched → Type 0
HasLetters number ws place w =
    (q : ℕ) (l : FirstLetter) → first_letter w.carried q ≡ Some l → ((v : Watched) × (slice_get ws place ≡ Some v) × (first_letter v.carried q ≡ Some l)) ⊎ (l.number ≡ number)

number_is : (c : Carried) (o : Option Letter) (l : FirstLetter) → option_map (λ x. record { letter = x; number = c.number }) o ≡ Some l → l.number ≡ c.number
number_is c None l e = absurd (none-some l e)
number_is c (Some x) l e = ap (λ (y : FirstLetter). y.number) (sym (same_Some (record { letter = x; number = c.number }) l e))

old_or_came : (o : Option FirstLetter) (c : Carried) (q : ℕ) (l : FirstLetter) → option_or o (letter_came c q) ≡ Some l → (o ≡ Some l) ⊎ (l.number ≡ c.number)
old_or_came None c q l e = inr (number_is c _ l e)
old_or_came (Some k) c q l e = inl e

-- what is read of a packet
abbrev came_by : (number : ℕ) → PacketValue → Watched → Carried
came_by number packet w = near scope.Recording (top_of w.carried) (carried_by number w.origin (top_of w.carried) packet)

letters_to : (number : ℕ) (packet : PacketValue) (asset : Option ℕ) (ws : List Watched) (i : ℕ) (w : Watched) →
    slice_get (goes_to_asset scope.Recording number packet asset ws) i ≡ Some w → HasLetters number ws i w
letters_to number packet None ws = λ i w e q l at. inl (w, e, at)
letters_to number packet (Some asset) ws =
    each_from number asset packet ws (HasLetters number ws) (λ i w e q l at. inl (w, e, at))
    (λ i w e q l at. elim (old_or_came (first_letter w.carried q) (came_by number packet w) q l at) [ inl old ↦ inl (w, e, old) | inr came ↦ inr came ])
    (λ opening q l at.
    let before : Watched = record { client = packet.source; asset = asset; origin = opening.origin; answered = opening.answered; midstream = opening.midstream; carried = [] } in
    elim (old_or_came None (came_by number packet before) q l at) [ inl old ↦ absurd (none-some l old) | inr came ↦ inr came ])
    (last_place packet.source asset ws)

pub letters_taken : (assets : List Asset) (number : ℕ) (r : Result PacketValue PacketRefusal) (ws : List Watched) (i : ℕ) (w : Watched) →
    slice_get (with_frame scope.Recording assets number r ws) i ≡ Some w → HasLetters number ws i w
letters_taken assets number (Err refusal) ws = λ i w e q l at. inl (w, e, at)
letters_taken assets number (Ok packet) ws = letters_to number packet (asset_place assets packet.dest) ws

-- ---- assets

place_inside : (p : Asset → Bool) (assets : List Asset) (i : ℕ) → position p assets ≡ Some i → i < length assets
place_inside p [] i e = absurd (none-some i e)
place_inside p (a ∷ assets) i e = (position-Some p (a ∷ assets) i a e).0

abbrev AreInside : List Asset → List Watched → Type 0
AreInside assets ws = (i : ℕ) (w : Watched) → slice_get ws i ≡ Some w → w.asset < length assets

inside_to : (assets : List Asset) (number : ℕ) (packet : PacketValue) (asset : Option ℕ) (ws : List Watched) → ((a : ℕ) → asset ≡ Some a → a < length assets) → AreInside assets ws →
    AreInside assets (goes_to_asset scope.Recording number packet asset ws)
inside_to assets number packet None ws low are = are
inside_to assets number packet (Some asset) ws low are =
    each_from number asset packet ws (λ i w. w.asset < length assets) are are (λ opening. low asset refl) (last_place packet.source asset ws)

inside_taken : (assets : List Asset) (number : ℕ) (r : Result PacketValue PacketRefusal) (ws : List Watched) → AreInside assets ws →
    AreInside assets (with_frame scope.Recording assets number r ws)
inside_taken assets number (Err refusal) ws are = are
inside_taken assets number (Ok packet) ws are =
    inside_to assets number packet (asset_place assets packet.dest) ws (λ a e. place_inside (λ x. same_endpoint x.endpoint packet.dest) assets a e) are

-- each flow of a recording is to an asset of the policy
pub inside_seen : (assets : List Asset) (newest : List Record) (i : ℕ) (w : Watched) → slice_get (seen_by scope.Recording assets newest) i ≡ Some w → w.asset < length assets
inside_seen assets [] = λ i w e. absurd (none-some w e)
inside_seen assets (r ∷ earlier) =
    inside_taken assets (length earlier + 1) (packet_by scope.Recording r.link r.body) (seen_by scope.Recording assets earlier) (inside_seen assets earlier)
