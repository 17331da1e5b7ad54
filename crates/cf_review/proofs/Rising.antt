-- No byte of a watched flow came with an earlier record than a byte before it.
use Rattle.std.proofs.Common.{◌-◌, ◌≡◌, ◌<◌, ◌≤◌, ◌+◌, ◌++◌, ◌∙◌, ℕ, List, [], ◌∷◌, Option, None, Some, Result, Ok, Err, length, map, set, slice_get, get_or, if◌then◌else◌, refl, ap, subst, sym, arith, inl, inr, length-append, ◌⊎◌}
use Rattle.std.specs.List.{AllByRecursion}
use Rattle.std.proofs.lemmas.Bool.{cond_both}
use Rattle.std.proofs.lemmas.List.{map-append}
use Rattle.std.proofs.lemmas.Option.{slice_get-get_or}
use Rattle.cf_packet.specs.Packet.{PacketValue}
use Rattle.cf_packet.specs.declared.PacketRefusal.{PacketRefusal}
use Rattle.cf_policy.specs.declared.Asset.{Asset}
use Rattle.cf_records.specs.Capture.{Record}
use Rattle.cf_leg.specs.Segment.{is_opening}
use Rattle.cf_policy.specs.AtEndpoint.{asset_place}
use Rattle.cf_policy.specs.Site.{SiteValue, site_from}
use Rattle.cf_stream.proofs.FirstCopy.{first_copy-append}
use Rattle.cf_stream.proofs.Taken.{taken_extends}
use Rattle.cf_stream.specs.FirstCopy.{first_copy}
use Rattle.cf_stream.specs.Stream.{Extends}
use Rattle.cf_watch.specs.Carried.{AreBorn, Carried, HasBytes, IsBornWith, copy_of, offer_of, top_of}
use Rattle.cf_watch.specs.Flow.{AreFlowsOf}
use Rattle.cf_watch.specs.FlowValue.{FlowValue}
use Rattle.cf_watch.specs.Seen.{begins_amid, begun_with, goes_first, goes_from, goes_in, goes_to_asset, near, opening_amid, opening_by, packet_by, seen_by, with_frame, with_packet_by}
use Rattle.cf_watch.specs.Watched.{Watched, begins_anew, carried_by, last_place}
use Rattle.cf_watch.specs.declared.Scope.{Scope}
use Rattle.cf_watch.specs.declared.Scope.TheVariants as scope
use Rattle.cf_policy.specs.declared.Protocol.{Protocol}
use Rattle.std.proofs.lemmas.List.{length-drop}
use Rattle.std.proofs.lemmas.List.Sorted.{IsNonDecreasingBy-drop}
use Rattle.cf_review.proofs.Alls.{all_append, all_get, all_set}
use Rattle.cf_review.specs.First.{BytesComeInOrder, IsRising}
use Rattle.cf_review.specs.FirstUnit.{AreReadParts, IsReadPartAt, IsReadPartBy, from_place}

-- ---- the records of what was carried fall, from this one on

abbrev Falls : (from : ℕ) → List Carried → Type 0
Falls from [] = Unit {0}
Falls from (c ∷ older) = (c.number ≤ from) × Falls c.number older

falls_more : (n m : ℕ) (cs : List Carried) → n ≤ m → Falls n cs → Falls m cs
falls_more n m [] h f = tt
falls_more n m (c ∷ older) h f = (omega (arith, f.0, h), f.1)

falls_behind : (n : ℕ) (newer cs : List Carried) → Falls n (newer ++ cs) → Falls n cs
falls_behind n [] cs f = f
falls_behind n (c ∷ newer) cs f = falls_behind n newer cs (falls_more c.number n (newer ++ cs) f.0 f.1)

abbrev AllFall : ℕ → List Watched → Type 0
AllFall n ws = AllByRecursion (λ w. Falls n w.carried) ws

all_more : (n m : ℕ) (ws : List Watched) → n ≤ m → AllFall n ws → AllFall m ws
all_more n m [] h f = tt
all_more n m (w ∷ ws) h f = (falls_more n m w.carried h f.0, all_more n m ws h f.1)

module _ (n : ℕ) where
  abbrev Low : Watched → Type 0
  Low w = Falls n w.carried

  fall_more : (ws : List Watched) (w : Watched) → AllFall n ws → Low w → AllFall n (ws ++ w ∷ [])
  fall_more ws w h s = all_append Low ws (w ∷ []) h (s, tt)

  -- what is read of a packet has its number
  near_falls : (scope : Scope) (top : ℕ) (c : Carried) (cs : List Carried) → c.number ≡ n → Falls n cs → Falls n (near scope top c ∷ cs)
  near_falls scope.Connections top c cs e h = (omega (arith, e), subst (λ m. Falls m cs) (sym e) h)
  near_falls scope.Recording top c cs e h = (omega (arith, e), subst (λ m. Falls m cs) (sym e) h)

  low_on : (scope : Scope) (packet : PacketValue) (f : Watched) → Low f → Low (with_packet_by scope n packet f)
  low_on scope packet f h = near_falls scope (top_of f.carried) (carried_by n f.origin (top_of f.carried) packet) f.carried refl h

  low_begun : (scope : Scope) (opening : _) (asset : ℕ) (packet : PacketValue) → Low (begun_with scope opening n asset packet)
  low_begun scope opening asset packet = near_falls scope 0 _ [] refl tt

  fall_in : (scope : Scope) (asset place : ℕ) (packet : PacketValue) (o : Option Watched) (ws : List Watched) → slice_get ws place ≡ o → AllFall n ws →
      AllFall n (goes_in scope n asset place packet o ws)
  fall_in scope asset place packet None ws e h = h
  fall_in scope asset place packet (Some f) ws e h =
      let begun = begun_with scope (opening_by packet) n asset packet in
      cond_both (begins_anew packet f) (ws ++ begun ∷ []) (set ws place (with_packet_by scope n packet f)) (AllFall n)
      (λ _. fall_more ws begun h (low_begun scope (opening_by packet) asset packet))
      (λ _. all_set Low ws place (with_packet_by scope n packet f) h (low_on scope packet f (all_get Low ws place f h e)))

  fall_first : (scope : Scope) (asset : ℕ) (packet : PacketValue) (ws : List Watched) → AllFall n ws → AllFall n (goes_first scope n asset packet ws)
  fall_first scope asset packet ws h =
      let amid = begun_with scope (opening_amid n packet) n asset packet in
      let begun = begun_with scope (opening_by packet) n asset packet in
      cond_both (begins_amid scope packet) (ws ++ amid ∷ []) (if is_opening packet then ws ++ begun ∷ [] else ws) (AllFall n)
      (λ _. fall_more ws amid h (low_begun scope (opening_amid n packet) asset packet))
      (λ _. cond_both (is_opening packet) (ws ++ begun ∷ []) ws (AllFall n) (λ _. fall_more ws begun h (low_begun scope (opening_by packet) asset packet)) (λ _. h))

  fall_from : (scope : Scope) (asset : ℕ) (packet : PacketValue) (last : Option ℕ) (ws : List Watched) → AllFall n ws → AllFall n (goes_from scope n asset packet last ws)
  fall_from scope asset packet None ws h = fall_first scope asset packet ws h
  fall_from scope asset packet (Some place) ws h = fall_in scope asset place packet (slice_get ws place) ws refl h

  fall_goes : (scope : Scope) (packet : PacketValue) (o : Option ℕ) (ws : List Watched) → AllFall n ws → AllFall n (goes_to_asset scope n packet o ws)
  fall_goes scope packet None ws h = h
  fall_goes scope packet (Some a) ws h = fall_from scope a packet (last_place packet.source a ws) ws h

  fall_record : (scope : Scope) (assets : List Asset) (r : Result PacketValue PacketRefusal) (ws : List Watched) → AllFall n ws → AllFall n (with_frame scope assets n r ws)
  fall_record scope assets (Err refusal) ws h = h
  fall_record scope assets (Ok packet) ws h = fall_goes scope packet (asset_place assets packet.dest) ws h

seen_fall : (scope : Scope) (assets : List Asset) (newest : List Record) → AllFall (length newest) (seen_by scope assets newest)
seen_fall scope assets [] = tt
seen_fall scope assets (r ∷ earlier) =
    let more : length earlier + 1 ≡ length (r ∷ earlier) = omega arith in
    let before = seen_by scope assets earlier in
    subst (λ n. AllFall n (with_frame scope assets (length earlier + 1) (packet_by scope r.link r.body) before)) more
    (fall_record (length earlier + 1) scope assets (packet_by scope r.link r.body) before
    (all_more (length earlier) (length earlier + 1) before (omega arith) (seen_fall scope assets earlier)))

-- ---- so the bytes come in their order

-- after more packets there are no fewer bytes
no_fewer : (newer older : List Carried) (xs ys : List ℕ) → HasBytes older xs → HasBytes (newer ++ older) ys → length xs ≤ length ys
no_fewer newer older xs ys h k =
    let both : map offer_of (newer ++ older) ≡ map offer_of newer ++ map offer_of older = map-append offer_of newer older in
    let e : Extends (record { bytes = xs; ended = h.0 }) (record { bytes = ys; ended = k.0 }) =
    taken_extends (copy_of older) (copy_of (newer ++ older)) (λ p l is. subst (λ os. first_copy os p ≡ Some l) (sym both) (first_copy-append (map offer_of newer) (map offer_of older) p l is))
    (record { bytes = xs; ended = h.0 }) (record { bytes = ys; ended = k.0 }) h.1 k.1 in
    let longer : length ys ≡ length xs + length e.more = ap length e.bytes ∙ length-append xs e.more in
    omega (arith, longer)

-- of two parts of a list that go to its end, one is after the first element of the other, or the other is in it
parted : (a b : List Carried) (x y : Carried) (xs ys : List Carried) → a ++ x ∷ xs ≡ b ++ y ∷ ys → ((c : List Carried) × (xs ≡ c ++ y ∷ ys)) ⊎ ((c : List Carried) × (y ∷ ys ≡ c ++ x ∷ xs))
parted [] [] x y xs ys e = inr ([], sym e)
parted [] (z ∷ b) x y xs ys e = inl (b, cc)
parted (z ∷ a) [] x y xs ys e = inr (z ∷ a, sym e)
parted (z ∷ a) (w ∷ b) x y xs ys e = parted a b x y xs ys cc

in_order : (from : ℕ) (carried : List Carried) (p q m n : ℕ) → Falls from carried → p ≤ q → IsBornWith carried p m → IsBornWith carried q n → m ≤ n
in_order from carried p q m n falls low bp bq =
    elim (parted bp.newer bq.newer bp.one bq.one bp.older bq.older (sym bp.are ∙ bq.are)) [
      | inl (c, e) ↦
          (let more : length bq.now ≤ length bp.before = no_fewer c (bq.one ∷ bq.older) bq.now bp.before bq.has_now (subst (λ cs. HasBytes cs bp.before) e bp.has_before) in
          absurd (omega (arith, more, bp.not_yet, low, bq.reached)))
      | inr (c, e) ↦
          (let behind : Falls from (bq.one ∷ bq.older) = falls_behind from bq.newer (bq.one ∷ bq.older) (subst (Falls from) bq.are falls) in
          let here : Falls bq.one.number (bq.one ∷ bq.older) = (omega arith, behind.1) in
          let le : Falls bq.one.number (bp.one ∷ bp.older) = falls_behind bq.one.number c (bp.one ∷ bp.older) (subst (Falls bq.one.number) e here) in
          omega (arith, le.0, bp.is_number, bq.is_number))
    ]

one_rises : (from : ℕ) (carried : List Carried) (f : FlowValue) → Falls from carried → AreBorn carried f.bytes f.born → IsRising f
one_rises from carried f falls born = record {
  count = born.count;
  rises = λ i j d low inside.
      let each = λ (k : ℕ) (within : k < length f.born). born.each k (get_or f.born k d) (slice_get-get_or f.born k d within) in
      in_order from carried i j (get_or f.born i d) (get_or f.born j d) falls low (each i (omega (arith, low, inside))) (each j inside);
}

all_rise : (n : ℕ) (ws : List Watched) (flows : List FlowValue) → AllFall n ws → AreFlowsOf ws flows → AllByRecursion IsRising flows
all_rise n [] flows h are = subst (AllByRecursion IsRising) (sym are) tt
all_rise n (w ∷ ws) [] h are = absurd are
all_rise n (w ∷ ws) (f ∷ flows) h are = (one_rises n w.carried f h.0 are.0.born, all_rise n ws flows h.1 are.1)

-- ---- and those of the parts that are read

rises_from : (place : ℕ) (f : FlowValue) → IsRising f → IsRising (from_place place f)
rises_from place f h = record {
  count = length-drop place f.born ∙ ap (λ n. n - place) h.count ∙ sym (length-drop place f.bytes);
  rises = IsNonDecreasingBy-drop (λ n. n) place f.born h.rises;
}

part_rises : (protocol : Protocol) (midstream : Option ℕ) (f read : FlowValue) → IsReadPartBy protocol midstream f read → IsRising f → IsRising read
part_rises protocol None f read is h = subst IsRising (sym is) h
part_rises protocol (Some number) f read is h = subst IsRising (sym is.2) (rises_from is.0 f h)

one_part : (o : Option SiteValue) (f read : FlowValue) → IsReadPartAt o f read → IsRising f → IsRising read
one_part None f read is h = absurd is
one_part (Some site) f read is h = part_rises site.first.protocol f.midstream f read is h

parts_rise : (assets : List Asset) (flows read : List FlowValue) → AreReadParts assets flows read → AllByRecursion IsRising flows → AllByRecursion IsRising read
parts_rise assets [] read are h = subst (AllByRecursion IsRising) (sym are) tt
parts_rise assets (f ∷ flows) [] are h = absurd are
parts_rise assets (f ∷ flows) (r ∷ read) are h = (one_part (site_from assets f.asset) f r are.0 h.0, parts_rise assets flows read are.1 h.1)

pub come_in_order : BytesComeInOrder
come_in_order scope assets newest flows read are parts =
    let rising = all_rise (length newest) (seen_by scope assets newest) flows (seen_fall scope assets newest) are in
    (rising, parts_rise assets flows read parts rising)
