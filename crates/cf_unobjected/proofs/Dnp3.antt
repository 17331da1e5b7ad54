-- Units of a beginning of the stream to a controller, read by a judge: those of DNP3 between each two addresses for themselves.
use Rattle.std.proofs.Common.{◌≡◌, ◌≤◌, ◌+◌, ◌∙◌, ◌++◌, ◌&&◌, ℕ, zero, suc, List, [], ◌∷◌, Bool, true, false, Option, None, Some, if◌then◌else◌, length, map, nat_eq, nat_lt, replicate, reverse, refl, sym, ap, subst, arith, inl, inr}
use Rattle.cf_unobjected.proofs.Common.{Adu, AllByRecursion, Apdu, Asset, Fate, Frame, FrameValue, HasCommandFate, IsRightlyPassed, Judged, Passed, SiteValue, UnitValue, all_both, all_front, asset_for, asset_of, cases_Bool, complaint_of, completed_in, false≢true, fate_by_asdu, fate_of_fragment, fate_of_frame, fate_of_segment, fate_of_whole, flat_map, goes_on, is_data, nat_tests, part, place_for, stray_of, user_of, verdict_of}
use Rattle.std.proofs.lemmas.Bool.{eq-eqb, eqb-true, false_from_ne_true}
use Rattle.std.proofs.lemmas.List.Sums.{sum_by_push}
use Rattle.cf_decode.specs.Received.{addresses_in, is_between, segment_in, segments_in}
use Rattle.cf_decode.specs.Units.{Addresses, Fragment, Whole, addresses_of, data_frame, same_addresses, segment_count, start_behind, units_from, units_of}
use Rattle.cf_dnplink.specs.LinkFrame.{blocks_of, frame_with}
use Rattle.cf_dnptrans.specs.Passing.{IsSent, all_segments, answers_for, answers_to, completed, fragments_of}
use Rattle.cf_dnptrans.specs.Segments.{count_of}
use Rattle.cf_dnptrans.specs.Transport.{answer_to, last_fragment}
use Rattle.cf_dnptrans.specs.declared.assembly.SegmentAnswer.{SegmentAnswer}
use Rattle.cf_lane.proofs.Earlier.{segments_of-more}
use Rattle.cf_lane.proofs.Parting.{part_apart, part_mine}
use Rattle.cf_lane.specs.Dnp3.{is_none, segments_of}
use Rattle.cf_lane.specs.Item.{Took}
use Rattle.cf_lane.specs.Parts.{concerns}
use Rattle.cf_lane.specs.declared.fate.Admission.{Admission}
use Rattle.cf_unobjected.specs.Passed.{asset_to, place_to}
use Rattle.cf_unobjected.proofs.Addresses.{are_same, same_again}
use Rattle.cf_unobjected.proofs.Right.{served_addresses}
use Rattle.cf_unobjected.proofs.Unobjected.{AreFine, no_complaint}
use Rattle.cf_dnptrans.specs.Segments as pieces
use Rattle.cf_lane.specs.Dnp3 as lane
use Rattle.cf_dnptrans.specs.declared.assembly.SegmentAnswer.TheVariants as answers
use Rattle.cf_lane.specs.declared.fate.Fate.TheVariants as fate
use Rattle.cf_audit.specs.declared.line.Why.TheVariants as why
use Rattle.cf_view.specs.declared.Side.TheVariants as side

-- no segment is dropped
abbrev pub IsTaken : SegmentAnswer → Type 0
IsTaken (answers.Dropped because) = ⊥
IsTaken _ = Unit {0}

pub more_taken : (n : ℕ) → AllByRecursion IsTaken (replicate n answers.More)
more_taken zero = tt
more_taken (suc n) = (tt, more_taken n)

pub whole_taken : (fragments : List (List ℕ)) → AllByRecursion IsTaken (flat_map answers_for fragments)
whole_taken [] = tt
whole_taken (f ∷ fragments) = all_both IsTaken (answers_for f) (flat_map answers_for fragments) (all_both IsTaken (replicate _ answers.More) (answers.Whole ∷ []) (more_taken _) (tt, tt)) (whole_taken fragments)

-- the fragments that go between two addresses
abbrev pub fragments_to : Addresses → List Passed → List (List ℕ)
fragments_to to [] = []
fragments_to to (Whole u ∷ ps) = fragments_to to ps
fragments_to to (Fragment a octets ∷ ps) = if same_addresses a to then octets ∷ fragments_to to ps else fragments_to to ps

by_has : (b : Bool) (x : List ℕ) (xs ys zs : List (List ℕ)) → zs ≡ xs ++ ys → (if b then x ∷ zs else zs) ≡ (if b then x ∷ xs else xs) ++ ys
by_has true x xs ys zs e = ap (λ ws. x ∷ ws) e
by_has false x xs ys zs e = e

pub segments_append : (to : Addresses) (us vs : List UnitValue) → segments_in to (us ++ vs) ≡ segments_in to us ++ segments_in to vs
segments_append to [] vs = refl
segments_append to (u ∷ us) vs = by_has (is_between to u) (segment_in u) (segments_in to us) (segments_in to vs) (segments_in to (us ++ vs)) (segments_append to us vs)

plus_none : (n : ℕ) → n + 0 ≡ n
plus_none n = omega arith

-- how many segments went between two addresses, with one item more
start_more : (to : Addresses) (sent : List Passed) (p : Passed) → start_behind to (sent ++ p ∷ []) ≡ start_behind to sent + segment_count to p
start_more to sent p = sum_by_push (segment_count to) sent p

still : (to : Addresses) (sent : List Passed) (u : UnitValue) → start_behind to (sent ++ Whole u ∷ []) ≡ start_behind to sent
still to sent u = start_more to sent (Whole u) ∙ plus_none (start_behind to sent)

-- a frame that has no data has no segment for any asset
no_segment : (b c : Bool) (xs : List (List ℕ)) → c ≡ false → (if b && c then xs else []) ≡ []
no_segment true c xs e = ap (λ d. if d then xs else []) e
no_segment false c xs e = refl

module _ (site : SiteValue) (client : ℕ) (back : (user : List ℕ) → user_of (blocks_of user) ≡ user) where
  -- ---- data frames between two addresses

  one_frame : (a to : Addresses) (s : List ℕ) (us : List UnitValue) → segments_in to (data_frame a s ∷ us) ≡ (if same_addresses a to then s ∷ segments_in to us else segments_in to us)
  one_frame a to s us = ap (λ x. if same_addresses a to then x ∷ segments_in to us else segments_in to us) (back s)

  frames_mine : (to : Addresses) (segs : List (List ℕ)) → segments_in to (map (data_frame to) segs) ≡ segs
  frames_mine to [] = refl
  frames_mine to (s ∷ segs) =
      let rest = map (data_frame to) segs in
      one_frame to to s rest ∙ ap (λ b. if b then s ∷ segments_in to rest else segments_in to rest) (same_again to) ∙ ap (λ xs. s ∷ xs) (frames_mine to segs)

  frames_other : (a to : Addresses) → same_addresses a to ≡ false → (segs : List (List ℕ)) → segments_in to (map (data_frame a) segs) ≡ []
  frames_other a to apart [] = refl
  frames_other a to apart (s ∷ segs) =
      let rest = map (data_frame a) segs in
      one_frame a to s rest ∙ ap (λ b. if b then s ∷ segments_in to rest else segments_in to rest) apart ∙ frames_other a to apart segs

  -- the segments of a fragment, and then of others
  fragment_segments : (to : Addresses) (sent : List Passed) (a : Addresses) (octets : List ℕ) (ps : List Passed) (b : Bool) → same_addresses a to ≡ b →
      segments_in to (units_from (sent ++ Fragment a octets ∷ []) ps) ≡ all_segments (start_behind to (sent ++ Fragment a octets ∷ [])) (fragments_to to ps) →
      segments_in to (units_of sent (Fragment a octets)) ++ segments_in to (units_from (sent ++ Fragment a octets ∷ []) ps)
      ≡ all_segments (start_behind to sent) (if b then octets ∷ fragments_to to ps else fragments_to to ps)
  fragment_segments to sent a octets ps true e rest =
      let n = count_of (length octets) in
      let start = start_behind to sent in
      let next : start_behind to (sent ++ Fragment a octets ∷ []) ≡ start + n = start_more to sent (Fragment a octets) ∙ ap (λ b. start + (if b then n else 0)) e in
      let own : segments_in to (units_of sent (Fragment a octets)) ≡ reverse (pieces.segments_of octets start) =
      subst (λ t. segments_in t (units_of sent (Fragment a octets)) ≡ reverse (pieces.segments_of octets (start_behind t sent))) (are_same a to e)
      (frames_mine a (reverse (pieces.segments_of octets (start_behind a sent)))) in
      ap (λ xs. xs ++ segments_in to (units_from (sent ++ Fragment a octets ∷ []) ps)) own
      ∙ ap (λ xs. reverse (pieces.segments_of octets start) ++ xs) (rest ∙ ap (λ m. all_segments m (fragments_to to ps)) next)
  fragment_segments to sent a octets ps false e rest =
      let n = count_of (length octets) in
      let start = start_behind to sent in
      let next : start_behind to (sent ++ Fragment a octets ∷ []) ≡ start = start_more to sent (Fragment a octets) ∙ ap (λ b. start + (if b then n else 0)) e ∙ plus_none start in
      ap (λ xs. xs ++ segments_in to (units_from (sent ++ Fragment a octets ∷ []) ps)) (frames_other a to e (reverse (pieces.segments_of octets (start_behind a sent))))
      ∙ (rest ∙ ap (λ m. all_segments m (fragments_to to ps)) next)

  pub unit_segments : (to : Addresses) (sent ps : List Passed) → AllByRecursion (IsRightlyPassed site client) ps →
      segments_in to (units_from sent ps) ≡ all_segments (start_behind to sent) (fragments_to to ps)
  unit_segments to sent [] h = refl
  unit_segments to sent (Whole (Adu a) ∷ ps) h = unit_segments to (sent ++ Whole (Adu a) ∷ []) ps h.1 ∙ ap (λ m. all_segments m (fragments_to to ps)) (still to sent (Adu a))
  unit_segments to sent (Whole (Apdu a) ∷ ps) h = unit_segments to (sent ++ Whole (Apdu a) ∷ []) ps h.1 ∙ ap (λ m. all_segments m (fragments_to to ps)) (still to sent (Apdu a))
  unit_segments to sent (Whole (Frame x) ∷ ps) h =
      let rest = segments_in to (units_from (sent ++ Whole (Frame x) ∷ []) ps) in
      ap (λ b. if b && same_addresses (addresses_in x) to then user_of x.blocks ∷ rest else rest) h.0.1
      ∙ (unit_segments to (sent ++ Whole (Frame x) ∷ []) ps h.1 ∙ ap (λ m. all_segments m (fragments_to to ps)) (still to sent (Frame x)))
  unit_segments to sent (Fragment a octets ∷ ps) h =
      segments_append to (units_of sent (Fragment a octets)) (units_from (sent ++ Fragment a octets ∷ []) ps)
      ∙ fragment_segments to sent a octets ps (same_addresses a to) refl (unit_segments to (sent ++ Fragment a octets ∷ []) ps h.1)

  -- ---- fragments, by the asset with their addresses

  abbrev pub IsRightFragment : Addresses → List ℕ → Type 0
  IsRightFragment to octets =
      (2 ≤ length octets) × (length octets ≤ 2048) × (goes_on (fate_of_fragment (asset_to site to) (verdict_of (asset_to site to) client) side.Client octets) ≡ true)

  right_if : (to a : Addresses) (octets : List ℕ) (rest : List (List ℕ)) (b : Bool) → same_addresses a to ≡ b → IsRightFragment a octets → AllByRecursion (IsRightFragment to) rest →
      AllByRecursion (IsRightFragment to) (if b then octets ∷ rest else rest)
  right_if to a octets rest true e right others = (subst (λ t. IsRightFragment t octets) (are_same a to e) right, others)
  right_if to a octets rest false e right others = others

  pub right_fragments : (to : Addresses) (ps : List Passed) → AllByRecursion (IsRightlyPassed site client) ps → AllByRecursion (IsRightFragment to) (fragments_to to ps)
  right_fragments to [] h = tt
  right_fragments to (Whole u ∷ ps) h = right_fragments to ps h.1
  right_fragments to (Fragment a octets ∷ ps) h =
      right_if to a octets (fragments_to to ps) (same_addresses a to) refl (h.0.1, h.0.2, h.0.3) (right_fragments to ps h.1)

  pub sent_fragments : (to : Addresses) (fs : List (List ℕ)) → AllByRecursion (IsRightFragment to) fs → AllByRecursion IsSent fs
  sent_fragments to [] h = tt
  sent_fragments to (f ∷ fs) h = ((h.0.0, h.0.1), sent_fragments to fs h.1)

  -- ---- frames are served

  abbrev pub IsServed : UnitValue → Type 0
  IsServed (Adu a) = (used : Admission) × HasCommandFate (asset_for site side.Client (Adu a)) (verdict_of (asset_for site side.Client (Adu a)) client) a (fate.Admitted used)
  IsServed (Apdu a) = goes_on (fate_by_asdu (asset_for site side.Client (Apdu a)) client a) ≡ true
  IsServed (Frame x) = stray_of (asset_for site side.Client (Frame x)) side.Client x ≡ None

  data_served : (to : Addresses) (segment : List ℕ) → to ≡ addresses_of (asset_to site to) → stray_of (asset_to site to) side.Client (frame_with 0xc4 to.station to.master segment) ≡ None
  data_served to segment is =
      let asset = asset_to site to in
      let station : nat_eq to.station asset.station ≡ true = eq-eqb to.station asset.station (ap (λ (t : Addresses). t.station) is) in
      let master : nat_eq to.master asset.master ≡ true = eq-eqb to.master asset.master (ap (λ (t : Addresses). t.master) is) in
      rw (station, master) refl

  frames_served : (to : Addresses) → to ≡ addresses_of (asset_to site to) → (segs : List (List ℕ)) → AllByRecursion IsServed (map (data_frame to) segs)
  frames_served to is [] = tt
  frames_served to is (s ∷ segs) = (data_served to s is, frames_served to is segs)

  pub units_served : (sent ps : List Passed) → AllByRecursion (IsRightlyPassed site client) ps → AllByRecursion IsServed (units_from sent ps)
  units_served sent [] h = tt
  units_served sent (Whole (Frame x) ∷ ps) h = (h.0.0, units_served (sent ++ Whole (Frame x) ∷ []) ps h.1)
  units_served sent (Fragment a octets ∷ ps) h =
      all_both IsServed (units_of sent (Fragment a octets)) (units_from (sent ++ Fragment a octets ∷ []) ps) (frames_served a h.0.0 _)
      (units_served (sent ++ Fragment a octets ∷ []) ps h.1)
  units_served sent (Whole (Adu a) ∷ ps) h = (h.0, units_served (sent ++ Whole (Adu a) ∷ []) ps h.1)
  units_served sent (Whole (Apdu a) ∷ ps) h = (h.0, units_served (sent ++ Whole (Apdu a) ∷ []) ps h.1)

  -- ---- a fragment, and the segment that completes it

  whole_fine : (to : Addresses) (octets : List ℕ) → IsRightFragment to octets →
      complaint_of (fate_of_whole (asset_to site to) (verdict_of (asset_to site to) client) side.Client (octets ∷ [])) ≡ None
  whole_fine to octets h =
      let asset = asset_to site to in
      let e : nat_lt (length octets) 2 ≡ false = grind (arith, nat_tests, h.0) in
      subst (λ (b : Bool). complaint_of (if b then fate.Stray why.Short else fate_of_fragment asset (verdict_of asset client) side.Client octets) ≡ None) (sym e)
      (no_complaint (fate_of_fragment asset (verdict_of asset client) side.Client octets) h.2)

  segment_fine : (to : Addresses) (answer : SegmentAnswer) (last : Option (List ℕ)) → IsTaken answer → AllByRecursion (IsRightFragment to) (completed answer last) →
      complaint_of (fate_of_segment (asset_to site to) (verdict_of (asset_to site to) client) side.Client answer (completed answer last)) ≡ None
  segment_fine to (answers.Dropped because) last t r = absurd t
  segment_fine to answers.Whole (Some octets) t r = whole_fine to octets r.0
  segment_fine to _ _ t r = refl

  -- ---- one frame of an asset

  module _ (asset : Asset) where
    -- beside the segments of its asset
    abbrev fate_by_segment : List Judged → FrameValue → Fate
    fate_by_segment earlier x =
        fate_of_segment asset (verdict_of asset client) side.Client (answer_to (segments_of asset side.Client earlier) (user_of x.blocks))
        (completed (answer_to (segments_of asset side.Client earlier) (user_of x.blocks)) (last_fragment (user_of x.blocks ∷ segments_of asset side.Client earlier)))

    data_frame_fate : (earlier : List Judged) (x : FrameValue) → stray_of asset side.Client x ≡ None → is_data x ≡ true →
        fate_by_segment earlier x ≡ fate_of_frame asset (verdict_of asset client) side.Client earlier x (stray_of asset side.Client x)
    data_frame_fate earlier x s d = rw (s, d) refl

    status_frame_fate : (earlier : List Judged) (x : FrameValue) → stray_of asset side.Client x ≡ None → is_data x ≡ false →
        fate.Carried ≡ fate_of_frame asset (verdict_of asset client) side.Client earlier x (stray_of asset side.Client x)
    status_frame_fate earlier x s d = rw (s, d) refl

    data_frame_segment : (x : FrameValue) → stray_of asset side.Client x ≡ None → is_data x ≡ true → lane.segment_in asset side.Client (Took side.Client (Frame x)) ≡ user_of x.blocks ∷ []
    data_frame_segment x s d = rw (s, d) refl

    status_frame_segment : (x : FrameValue) → is_data x ≡ false → lane.segment_in asset side.Client (Took side.Client (Frame x)) ≡ []
    status_frame_segment x d = no_segment (is_none (stray_of asset side.Client x)) (is_data x) (user_of x.blocks ∷ []) d

  -- ---- what came before between two addresses of an asset, the newest first

  abbrev before : Addresses → List Judged → List (List ℕ)
  before to earlier = segments_of (asset_to site to) side.Client (part site (place_to site to) earlier)

  module _ (to : Addresses) (earlier : List Judged) (number : ℕ) (u : UnitValue) (f : Fate) where
    abbrev now : Judged
    now = completed_in number u f

    before_apart : concerns site (place_to site to) (Took side.Client u) ≡ false → before to (earlier ++ now ∷ []) ≡ before to earlier
    before_apart apart = ap (segments_of (asset_to site to) side.Client) (part_apart site (place_to site to) earlier now apart)

    before_mine : (xs : List (List ℕ)) → concerns site (place_to site to) (Took side.Client u) ≡ true → lane.segment_in (asset_to site to) side.Client (Took side.Client u) ≡ xs →
        before to (earlier ++ now ∷ []) ≡ xs ++ before to earlier
    before_mine xs mine is =
        ap (segments_of (asset_to site to) side.Client) (part_mine site (place_to site to) earlier now mine)
        ∙ (segments_of-more (asset_to site to) side.Client (part site (place_to site to) earlier) now ∙ ap (λ ys. ys ++ before to earlier) is)

    -- a unit without a segment for it
    before_same : lane.segment_in (asset_to site to) side.Client (Took side.Client u) ≡ [] → before to (earlier ++ now ∷ []) ≡ before to earlier
    before_same none = by (concerns site (place_to site to) (Took side.Client u)) refl where
      by : (b : Bool) → concerns site (place_to site to) (Took side.Client u) ≡ b → before to (earlier ++ now ∷ []) ≡ before to earlier
      by true mine = before_mine [] mine none
      by false apart = before_apart apart

  -- addresses of an asset of the site, which is the first that has them
  abbrev pub IsOfAsset : Addresses → Type 0
  IsOfAsset to = to ≡ addresses_of (asset_to site to)

  abbrev pub Taken : List Judged → List UnitValue → Type 0
  Taken earlier us = (to : Addresses) → IsOfAsset to → AllByRecursion IsTaken (answers_to (before to earlier) (segments_in to us))

  abbrev pub Made : List Judged → List UnitValue → Type 0
  Made earlier us = (to : Addresses) → IsOfAsset to → AllByRecursion (IsRightFragment to) (fragments_of (before to earlier) (segments_in to us))

  made_first : (to : Addresses) (xs ys : List (List ℕ)) → AllByRecursion (IsRightFragment to) (xs ++ ys) → AllByRecursion (IsRightFragment to) xs
  made_first to = all_front (IsRightFragment to)

  made_later : (to : Addresses) (xs ys : List (List ℕ)) → AllByRecursion (IsRightFragment to) (xs ++ ys) → AllByRecursion (IsRightFragment to) ys
  made_later to [] ys h = h
  made_later to (x ∷ xs) ys h = made_later to xs ys h.1

  -- the same, where what came before and the segments are told otherwise
  taken_as : (to : Addresses) (was is segments same : List (List ℕ)) → was ≡ is → segments ≡ same → AllByRecursion IsTaken (answers_to was segments) → AllByRecursion IsTaken (answers_to is same)
  taken_as to was is segments same e g t = subst (λ ss. AllByRecursion IsTaken (answers_to is ss)) g (subst (λ b. AllByRecursion IsTaken (answers_to b segments)) e t)

  made_as : (to : Addresses) (was is segments same : List (List ℕ)) → was ≡ is → segments ≡ same → AllByRecursion (IsRightFragment to) (fragments_of was segments) →
      AllByRecursion (IsRightFragment to) (fragments_of is same)
  made_as to was is segments same e g m =
      subst (λ ss. AllByRecursion (IsRightFragment to) (fragments_of is ss)) g (subst (λ b. AllByRecursion (IsRightFragment to) (fragments_of b segments)) e m)

  -- ---- a data frame in front of others

  module _ (x : FrameValue) (us : List UnitValue) (earlier : List Judged) (served : IsServed (Frame x)) (d : is_data x ≡ true) where
    abbrev to : Addresses
    to = addresses_in x

    abbrev user : List ℕ
    user = user_of x.blocks

    own : IsOfAsset to
    own = served_addresses (asset_for site side.Client (Frame x)) x served

    -- it is between its addresses
    first_mine : segments_in to (Frame x ∷ us) ≡ user ∷ segments_in to us
    first_mine =
        ap (λ b. if b && same_addresses to to then user ∷ segments_in to us else segments_in to us) d ∙ ap (λ b. if b then user ∷ segments_in to us else segments_in to us) (same_again to)

    -- and between no others
    first_other : (other : Addresses) → same_addresses to other ≡ false → segments_in other (Frame x ∷ us) ≡ segments_in other us
    first_other other apart =
        ap (λ b. if b && same_addresses to other then user ∷ segments_in other us else segments_in other us) d
        ∙ ap (λ b. if b then user ∷ segments_in other us else segments_in other us) apart

    module _ (t : Taken earlier (Frame x ∷ us)) (m : Made earlier (Frame x ∷ us)) where
      taken : AllByRecursion IsTaken (answers_to (before to earlier) (user ∷ segments_in to us))
      taken = subst (λ ss. AllByRecursion IsTaken (answers_to (before to earlier) ss)) first_mine (t to own)

      made : AllByRecursion (IsRightFragment to) (fragments_of (before to earlier) (user ∷ segments_in to us))
      made = subst (λ ss. AllByRecursion (IsRightFragment to) (fragments_of (before to earlier) ss)) first_mine (m to own)

      abbrev f : Fate
      f = fate_by_segment (asset_for site side.Client (Frame x)) (part site (place_for site side.Client (Frame x)) earlier) x

      no_complaint_of_it : complaint_of f ≡ None
      no_complaint_of_it =
          segment_fine to (answer_to (before to earlier) user) (last_fragment (user ∷ before to earlier)) taken.0
          (made_first to (completed (answer_to (before to earlier) user) (last_fragment (user ∷ before to earlier))) (fragments_of (user ∷ before to earlier) (segments_in to us)) made)

      -- what comes after it
      module _ (number : ℕ) where
        abbrev later : List Judged
        later = earlier ++ completed_in number (Frame x) f ∷ []

        mine_now : before to later ≡ user ∷ before to earlier
        mine_now =
            before_mine to earlier number (Frame x) f (user ∷ []) (eq-eqb (place_for site side.Client (Frame x)) (place_to site to) refl)
            (data_frame_segment (asset_for site side.Client (Frame x)) x served d)

        is_it : (other : Addresses) → IsOfAsset other → concerns site (place_to site other) (Took side.Client (Frame x)) ≡ true → to ≡ other
        is_it other theirs mine = own ∙ ap (λ k. addresses_of (asset_of site k)) (eqb-true (place_for site side.Client (Frame x)) (place_to site other) mine) ∙ sym theirs

        is_apart : (other : Addresses) → concerns site (place_to site other) (Took side.Client (Frame x)) ≡ false → same_addresses to other ≡ false
        is_apart other apart =
            false_from_ne_true (same_addresses to other)
            (λ same. false≢true (sym apart ∙ eq-eqb (place_for site side.Client (Frame x)) (place_to site other) (ap (place_to site) (are_same to other same))))

        taken_by : (other : Addresses) → IsOfAsset other → (b : Bool) → concerns site (place_to site other) (Took side.Client (Frame x)) ≡ b →
            AllByRecursion IsTaken (answers_to (before other later) (segments_in other us))
        taken_by other theirs true mine =
            subst (λ a. AllByRecursion IsTaken (answers_to (before a later) (segments_in a us))) (is_it other theirs mine)
            (subst (λ b. AllByRecursion IsTaken (answers_to b (segments_in to us))) (sym mine_now) taken.1)
        taken_by other theirs false apart =
            taken_as other (before other earlier) (before other later) (segments_in other (Frame x ∷ us)) (segments_in other us)
            (sym (before_apart other earlier number (Frame x) f apart)) (first_other other (is_apart other apart)) (t other theirs)

        made_by : (other : Addresses) → IsOfAsset other → (b : Bool) → concerns site (place_to site other) (Took side.Client (Frame x)) ≡ b →
            AllByRecursion (IsRightFragment other) (fragments_of (before other later) (segments_in other us))
        made_by other theirs true mine =
            subst (λ a. AllByRecursion (IsRightFragment a) (fragments_of (before a later) (segments_in a us))) (is_it other theirs mine)
            (subst (λ b. AllByRecursion (IsRightFragment to) (fragments_of b (segments_in to us))) (sym mine_now)
            (made_later to (completed (answer_to (before to earlier) user) (last_fragment (user ∷ before to earlier))) (fragments_of (user ∷ before to earlier) (segments_in to us)) made))
        made_by other theirs false apart =
            made_as other (before other earlier) (before other later) (segments_in other (Frame x ∷ us)) (segments_in other us)
            (sym (before_apart other earlier number (Frame x) f apart)) (first_other other (is_apart other apart)) (m other theirs)

        taken_later : Taken later us
        taken_later other theirs = taken_by other theirs (concerns site (place_to site other) (Took side.Client (Frame x))) refl

        made_later_too : Made later us
        made_later_too other theirs = made_by other theirs (concerns site (place_to site other) (Took side.Client (Frame x))) refl

  -- ---- a unit without a segment in front of others

  module _ (u : UnitValue) (us : List UnitValue) (earlier : List Judged) (number : ℕ) (f : Fate)
      (silent : (to : Addresses) → lane.segment_in (asset_to site to) side.Client (Took side.Client u) ≡ []) (passes : (to : Addresses) → segments_in to (u ∷ us) ≡ segments_in to us) where
    taken_still : Taken earlier (u ∷ us) → Taken (earlier ++ completed_in number u f ∷ []) us
    taken_still t to is =
        taken_as to (before to earlier) (before to (earlier ++ completed_in number u f ∷ [])) (segments_in to (u ∷ us)) (segments_in to us)
        (sym (before_same to earlier number u f (silent to))) (passes to) (t to is)

    made_still : Made earlier (u ∷ us) → Made (earlier ++ completed_in number u f ∷ []) us
    made_still m to is =
        made_as to (before to earlier) (before to (earlier ++ completed_in number u f ∷ [])) (segments_in to (u ∷ us)) (segments_in to us)
        (sym (before_same to earlier number u f (silent to))) (passes to) (m to is)

  -- ---- units one after the other

  pub fine : (us : List UnitValue) (earlier : List Judged) → AllByRecursion IsServed us → Taken earlier us → Made earlier us → AreFine site client earlier us
  fine [] earlier h t r = tt
  fine (Adu a ∷ us) earlier h t r = (
    fate.Admitted h.0.0,
    h.0.1,
    refl,
    λ number. fine us (earlier ++ completed_in number (Adu a) (fate.Admitted h.0.0) ∷ []) h.1
        (taken_still (Adu a) us earlier number (fate.Admitted h.0.0) (λ to. refl) (λ to. refl) t) (made_still (Adu a) us earlier number (fate.Admitted h.0.0) (λ to. refl) (λ to. refl) r),
  )
  fine (Apdu a ∷ us) earlier h t r =
      let f = fate_by_asdu (asset_for site side.Client (Apdu a)) client a in (
        f,
        refl,
        no_complaint f h.0,
        λ number. fine us (earlier ++ completed_in number (Apdu a) f ∷ []) h.1
            (taken_still (Apdu a) us earlier number f (λ to. refl) (λ to. refl) t) (made_still (Apdu a) us earlier number f (λ to. refl) (λ to. refl) r),
      )
  fine (Frame x ∷ us) earlier h t r =
      let asset = asset_for site side.Client (Frame x) in
      let mine = part site (place_for site side.Client (Frame x)) earlier in
      elim (cases_Bool (is_data x)) [
        | inl d ↦ (
          f x us earlier h.0 d t r,
          data_frame_fate asset mine x h.0 d,
          no_complaint_of_it x us earlier h.0 d t r,
          λ number. fine us (earlier ++ completed_in number (Frame x) (f x us earlier h.0 d t r) ∷ []) h.1 (taken_later x us earlier h.0 d t r number) (made_later_too x us earlier h.0 d t r number),
        )
        | inr d ↦
            (let passes : (to : Addresses) → segments_in to (Frame x ∷ us) ≡ segments_in to us =
            λ to. ap (λ b. if b && same_addresses (addresses_in x) to then user_of x.blocks ∷ segments_in to us else segments_in to us) d in
            let silent : (to : Addresses) → lane.segment_in (asset_to site to) side.Client (Took side.Client (Frame x)) ≡ [] = λ to. status_frame_segment (asset_to site to) x d in (
              fate.Carried,
              status_frame_fate asset mine x h.0 d,
              refl,
              λ number. fine us (earlier ++ completed_in number (Frame x) fate.Carried ∷ []) h.1
                  (taken_still (Frame x) us earlier number fate.Carried silent passes t) (made_still (Frame x) us earlier number fate.Carried silent passes r),
            ))
      ]
