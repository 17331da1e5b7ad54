-- Nothing comes into the stream to a side after the End of the other.
use Rattle.cf_apci.specs.Apdu.{ApduValue, Info}
use Rattle.cf_dnplink.specs.LinkFrame.{FrameValue}
use Rattle.cf_lane.proofs.Growth.{further, items_split}
use Rattle.cf_lane.proofs.Handling.{ended_stays}
use Rattle.cf_lane.proofs.Histories.{bytes_of-append}
use Rattle.cf_lane.proofs.Judgements.{one_items, one_units}
use Rattle.cf_lane.proofs.Sides.{if_none, side_is}
use Rattle.cf_lane.proofs.Units.{free_unit}
use Rattle.cf_lane.specs.Dnp3.{fragment_frames, fragment_in, fragment_reply, frame_output, is_data, whole_now}
use Rattle.cf_lane.specs.History.{Element, bytes_in, bytes_of, is_side}
use Rattle.cf_lane.specs.Iec104.{mirror_output}
use Rattle.cf_lane.specs.Item.{AreItems, Broke, Completes, Ended, Item, Placed, Took, last_after, placed}
use Rattle.cf_lane.specs.Judged.{Judged, goes_on, has_ended, place_of}
use Rattle.cf_lane.specs.Laws.{QuietBehindEnd}
use Rattle.cf_lane.specs.Modbus.{adu_reply}
use Rattle.cf_lane.specs.Output.{item_output, other, outputs}
use Rattle.cf_lane.specs.Unit.{Adu, Apdu, AreUnits, Frame, Left, Tail, UnitValue, Wrong, frame_spelling}
use Rattle.cf_lane.specs.declared.fate.Fate.{Fate}
use Rattle.cf_lane.proofs.Parting.{ended_bears}
use Rattle.cf_lane.specs.Parts.{bears, part}
use Rattle.cf_lane.specs.Site.{item_place}
use Rattle.cf_policy.specs.Site.{SiteValue, asset_of}
use Rattle.cf_policy.specs.declared.Asset.{Asset}
use Rattle.cf_policy.specs.declared.Protocol.{Protocol}
use Rattle.cf_view.specs.declared.Side.{Side}
use Rattle.std.proofs.Common.{Bool, List, [], ap, false, inl, inr, map, refl, subst, sym, true, ℕ, ◌++◌, ◌∙◌, ◌∷◌, ◌≡◌}
use Rattle.std.proofs.lemmas.Bool.{cond_both}
use Rattle.std.proofs.lemmas.List.{append-nil, append_cancel_left}
use Rattle.std.specs.List.{flat_map}
use Rattle.std.specs.Prelude.{if◌then◌else◌}
use Rattle.cf_lane.specs.declared.fate.Fate.TheVariants as fate
use Rattle.cf_view.specs.declared.Side.TheVariants as side

-- an item is no unit of a side
abbrev IsNotOf : Side → Item → Type 0
IsNotOf s (Took of u) = is_side s of ≡ false
IsNotOf s (Ended of n) = Unit {0}
IsNotOf s (Broke of b) = Unit {0}

abbrev AreNotOf : Side → List Placed → Type 0
AreNotOf s [] = Unit {0}
AreNotOf s (p ∷ ps) = IsNotOf s p.item × AreNotOf s ps

not_of-append : (s : Side) (ps qs : List Placed) → AreNotOf s ps → AreNotOf s qs → AreNotOf s (ps ++ qs)
not_of-append s [] qs a b = b
not_of-append s (p ∷ ps) qs a b = (a.0, not_of-append s ps qs a.1 b)

not_of_front : (s : Side) (ps qs : List Placed) → AreNotOf s (ps ++ qs) → AreNotOf s ps
not_of_front s [] qs a = tt
not_of_front s (p ∷ ps) qs a = (a.0, not_of_front s ps qs a.1)

last_not_of : (s t : Side) (m : ℕ) (ended : Bool) (w now : Tail) → AreNotOf s (map (placed m) (last_after w t ended now))
last_not_of s t m true (Left a) (Left r) = (tt, tt)
last_not_of s t m false (Left a) (Left r) = tt
last_not_of s t m true (Left a) (Wrong b) = (tt, tt)
last_not_of s t m false (Left a) (Wrong b) = (tt, tt)
last_not_of s t m ended (Wrong a) now = tt

units_not_of : (s t : Side) (m : ℕ) (us : List UnitValue) (last : List Item) → is_side s t ≡ false → AreNotOf s (map (placed m) last) → AreNotOf s (map (placed m) (map (Took t) us ++ last))
units_not_of s t m [] last e a = a
units_not_of s t m (u ∷ us) last e a = (e, units_not_of s t m us last e a)

both_nothing : (xs ys : List ℕ) → xs ++ ys ≡ [] → (xs ≡ []) × (ys ≡ [])
both_nothing [] ys e = (refl, e)
both_nothing (x ∷ xs) ys e = cc

module _ (p : Protocol) where
  -- an element with no bytes of a side completes no unit of it
  element_not_of : (s : Side) (earlier : List Element) (e : Element) (now : List Placed) → Completes p earlier e now → bytes_in s e ≡ [] → AreNotOf s now
  element_not_of s earlier e now c none =
      let last = last_not_of s e.side e.moment e.letters.ended c.was c.tail in
      elim (side_is s e.side) [
        | inl apart ↦ subst (AreNotOf s) (sym c.is_items) (units_not_of s e.side e.moment c.more (last_after c.was e.side e.letters.ended c.tail) apart last)
        | inr same ↦
            (let here : bytes_in e.side e ≡ [] = ap (λ t. bytes_in t e) same ∙ none in
            let bytes : bytes_of e.side (earlier ++ e ∷ []) ≡ bytes_of e.side earlier =
            bytes_of-append e.side earlier e ∙ ap (λ xs. bytes_of e.side earlier ++ xs) here ∙ append-nil (bytes_of e.side earlier) in
            let both = one_units p (free_unit p) (c.before ++ c.more) c.before (bytes_of e.side earlier) c.tail c.was
            (subst (λ xs. AreUnits p xs (c.before ++ c.more) c.tail) bytes c.are) c.were in
            let no_more : c.more ≡ [] = append_cancel_left c.before c.more [] (both.0 ∙ sym (append-nil c.before)) in
            subst (AreNotOf s) (sym (c.is_items ∙ ap (λ us. map (placed e.moment) (map (Took e.side) us ++ last_after c.was e.side e.letters.ended c.tail)) no_more)) last)
      ]

  items_not_of : (s : Side) (earlier later : List Element) (items : List Placed) → AreItems p earlier later items → bytes_of s later ≡ [] → AreNotOf s items
  items_not_of s earlier [] items a none = subst (AreNotOf s) (sym a) tt
  items_not_of s earlier (e ∷ later) items a none =
      let both = both_nothing (bytes_in s e) (bytes_of s later) none in
      subst (AreNotOf s) (sym a.4)
      (not_of-append s a.0 a.1 (element_not_of s earlier e a.0 a.2 both.0) (items_not_of s (earlier ++ e ∷ []) later a.1 a.3 both.1))

quiet_mirror : (earlier : List Judged) (f : Fate) (a : ApduValue) → has_ended side.Controller earlier ≡ true → mirror_output earlier f a ≡ []
quiet_mirror earlier (fate.Refused r) (Info send receive asdu) e = rw e refl
quiet_mirror earlier f a e = refl

module _ (asset : Asset) where
  quiet_fragment : (to of : Side) (x : FrameValue) (earlier : List Judged) (j : Judged) → is_side (other to) of ≡ false → has_ended (other to) earlier ≡ true →
      fragment_in asset to earlier j (Took of (Frame x)) ≡ []
  quiet_fragment side.Client side.Client x earlier j n e =
      if_none (is_data x) (fragment_reply (has_ended side.Controller earlier) j.fate (whole_now asset side.Client earlier x))
      (ap (λ b. fragment_reply b j.fate (whole_now asset side.Client earlier x)) e)
  quiet_fragment side.Controller side.Controller x earlier j n e = if_none {A = List ℕ} (is_data x) [] refl
  quiet_fragment to of x earlier j n e = cc

  -- no link frame goes back to its side
  no_echo : (to of : Side) (x : FrameValue) (f : Fate) → is_side (other to) of ≡ false → (if is_side to of then [] else (if goes_on f then frame_spelling x else [])) ≡ []
  no_echo side.Client side.Controller x f n = cc
  no_echo side.Controller side.Client x f n = cc
  no_echo to of x f n = refl

  quiet_frame : (to of : Side) (x : FrameValue) (earlier : List Judged) (j : Judged) → j.item ≡ Took of (Frame x) → is_side (other to) of ≡ false →
      has_ended (other to) earlier ≡ true → frame_output asset to earlier j of x ≡ []
  quiet_frame to of x earlier j is n e =
      cond_both (is_data x) (flat_map (fragment_frames asset to earlier) (fragment_in asset to earlier j j.item)) (if is_side to of then [] else (if goes_on j.fate then frame_spelling x else []))
      (λ xs. xs ≡ [])
      (λ _. ap (λ i. flat_map (fragment_frames asset to earlier) (fragment_in asset to earlier j i)) is
      ∙ ap (flat_map (fragment_frames asset to earlier)) (quiet_fragment to of x earlier j n e))
      (λ _. no_echo to of x j.fate n)

  quiet_unit : (to of : Side) (u : UnitValue) (earlier : List Judged) (j : Judged) → j.item ≡ Took of u → is_side (other to) of ≡ false → has_ended (other to) earlier ≡ true →
      item_output asset to earlier j (Took of u) ≡ []
  quiet_unit to of (Frame x) earlier j is n e = quiet_frame to of x earlier j is n e
  quiet_unit side.Client side.Client (Adu a) earlier j is n e = ap (λ b. adu_reply b j.fate a) e
  quiet_unit side.Client side.Client (Apdu a) earlier j is n e = quiet_mirror earlier j.fate a e
  quiet_unit side.Controller side.Controller u earlier j is n e = refl
  quiet_unit to of u earlier j is n e = cc

  quiet_item : (to : Side) (i : Item) (earlier : List Judged) (j : Judged) → j.item ≡ i → IsNotOf (other to) i → has_ended (other to) earlier ≡ true → item_output asset to earlier j i ≡ []
  quiet_item to (Took of u) earlier j is n e = quiet_unit to of u earlier j is n e
  quiet_item to i earlier j is n e = refl

module _ (site : SiteValue) where
  quiet : (to : Side) (earlier ms : List Judged) → AreNotOf (other to) (map place_of ms) → has_ended (other to) earlier ≡ true → outputs site to earlier ms ≡ []
  quiet to earlier [] n e = refl
  quiet to earlier (j ∷ ms) n e =
      let k = item_place site j.item in
      let here = quiet_item (asset_of site k) to j.item (bears j.item earlier (part site k earlier)) j refl n.0 (ended_bears site k (other to) j.item earlier ∙ e) in
      let next = quiet to (earlier ++ j ∷ []) ms n.1 (ended_stays (other to) earlier j e) in
      ap (λ xs. xs ++ outputs site to (earlier ++ j ∷ []) ms) here ∙ next

pub quiet_behind_end : QuietBehindEnd
quiet_behind_end site client h more js ms to a b e none =
    let free = free_unit site.first.protocol in
    let split = items_split site.first.protocol [] h more b.items b.are_items in
    let same = one_items site.first.protocol free [] h a.items split.0 a.are_items split.2 in
    let f = further site client [] js (js ++ ms) a.dropped b.dropped split.1
    (ap (λ xs. xs ++ split.1) (sym a.are_first ∙ same) ∙ sym split.4 ∙ b.are_first) a.fates b.fates a.goes_on b.goes_on in
    let are : AreNotOf (other to) (map place_of f.0) = not_of_front (other to) (map place_of f.0) f.1
    (subst (AreNotOf (other to)) (sym f.3) (items_not_of site.first.protocol (other to) h more split.1 split.3 none)) in
    let later : f.0 ≡ ms = append_cancel_left js f.0 ms (sym f.2) in
    quiet site to js ms (subst (λ ns. AreNotOf (other to) (map place_of ns)) later are) e
