-- Laws of fragments cut anew.
use Rattle.cf_dnplink.proofs.Writing.{length-blocks_by, length-with_crc}
use Rattle.cf_dnptrans.specs.Segments.{count_of, segment_of}
use Rattle.cf_lane.specs.Fragments.{recut_most}
use Rattle.cf_lane.specs.Log.{is_some_bytes}
use Rattle.cf_view.specs.Octets.{u16_le_octets}
use Rattle.cf_lane.specs.Dnp3.{data_octets, frames_at}
use Rattle.cf_lane.specs.Handled.{HasRoom}
use Rattle.cf_outq.specs.SendQueue.{Queue, after_push}
use Rattle.cf_policy.specs.declared.Asset.{Asset}
use Rattle.cf_view.specs.declared.Side.{Side}
use Rattle.std.proofs.Common.{List, [], ap, arith, drop, inl, inr, length, min, refl, reverse, suc, sym, take, true, zero, ℕ, ◌*◌, ◌++◌, ◌+◌, ◌-◌, ◌/◌, ◌<◌, ◌∙◌, ◌∷◌, ◌≡◌, ◌≤◌}
use Rattle.std.proofs.lemmas.Bool.{cases_lt}
use Rattle.std.proofs.lemmas.Grind.{flat_map-append}
use Rattle.std.proofs.lemmas.List.{append-nil, length-append, length-drop, length-take, nil_from_length, reverse-append, take_all}
use Rattle.std.specs.List.{flat_map}
use Rattle.cf_dnplink.specs.LinkFrame as link
use Rattle.cf_dnptrans.specs.Segments as pieces
use Rattle.cf_view.specs.declared.Side.TheVariants as side

-- the octets of a segment, where they are cut at the fragment's end
pub segment_part : (xs : List ℕ) (from : ℕ) → from ≤ length xs → take (min (from + 249) (length xs) - from) (drop from xs) ≡ take 249 (drop from xs)
segment_part xs from h =
    elim (cases_lt (length xs) (from + 249)) [
      | inl v ↦
          (let size = length-drop from xs in
          take_all (min (from + 249) (length xs) - from) (drop from xs) (omega (arith, v, h, size))
          ∙ sym (take_all 249 (drop from xs) (omega (arith, v, h, size))))
      | inr v ↦ (let e : min (from + 249) (length xs) - from ≡ 249 = omega (arith, v, h) in ap (λ n. take n (drop from xs)) e)
    ]

-- the first of two pieces is all, where it is as long
pub one_piece : (all first second : List ℕ) → all ≡ first ++ second → length first ≡ length all → first ≡ all
one_piece all first second both long =
    let none : second ≡ [] = nil_from_length second (omega (arith, ap length both, length-append first second, long)) in
    sym (both ∙ ap (λ xs. first ++ xs) none ∙ append-nil first)

pub length-spelling : (control dest source : ℕ) (user : List ℕ) → length (link.spelling control dest source user) ≡ 10 + length user + 2 * ((length user + 15) / 16)
length-spelling control dest source user =
    let head : length (link.header_of (length user + 5) control dest source) ≡ 10 = length-with_crc (0x05 ∷ 0x64 ∷ (length user + 5) ∷ control ∷ u16_le_octets dest ++ u16_le_octets source) in
    omega (arith, head, length-append (link.header_of (length user + 5) control dest source) (link.blocks_of user), length-blocks_by ((length user + 15) / 16) user refl)

some_by : (xs : List ℕ) → 0 < length xs → is_some_bytes xs ≡ true
some_by [] h = absurd (omega (arith, h))
some_by (x ∷ xs) h = refl

-- how long a data frame is
pub length-data : (asset : Asset) (to : Side) (user : List ℕ) → length (data_octets asset to user) ≡ 10 + length user + 2 * ((length user + 15) / 16)
length-data asset side.Client user = length-spelling 0x44 asset.master asset.station user
length-data asset side.Controller user = length-spelling 0xc4 asset.station asset.master user

module _ (asset : Asset) (to : Side) (octets : List ℕ) (start : ℕ) where
  -- the frames of the first segments
  abbrev pub first_frames : ℕ → List ℕ
  first_frames i = flat_map (data_octets asset to) (reverse (pieces.first_segments octets start i))

  abbrev pub frame_of : ℕ → List ℕ
  frame_of i = data_octets asset to (segment_of octets start i)

  turned : (i : ℕ) → first_frames (suc i) ≡ first_frames i ++ frame_of i
  turned i =
      ap (flat_map (data_octets asset to)) (reverse-append (segment_of octets start i ∷ []) (pieces.first_segments octets start i))
      ∙ flat_map-append (data_octets asset to) (reverse (pieces.first_segments octets start i)) (segment_of octets start i ∷ [])
      ∙ ap (λ xs. first_frames i ++ xs) (append-nil (frame_of i))

  pub frames_next : (i : ℕ) → first_frames (i + 1) ≡ first_frames i ++ frame_of i
  frames_next i = (let e : i + 1 ≡ suc i = omega arith in ap first_frames e ∙ turned i)

  pub frames_least : (n i : ℕ) → i ≤ n → length (first_frames i) ≤ length (first_frames n)
  frames_least zero i h = (let e : i ≡ 0 = omega (arith, h) in rw e (omega arith))
  frames_least (suc n) i h =
      elim (cases_lt n i) [
        | inl v ↦ (let e : i ≡ suc n = omega (arith, v, h) in rw e (omega arith))
        | inr v ↦ (let l = frames_least n i v in omega (arith, l, ap length (turned n), length-append (first_frames n) (frame_of n)))
      ]

  -- there is room for the next frame where there was room for all
  pub frames_room : (i n : ℕ) (q : Queue) → i < n → HasRoom (length (first_frames n)) q → HasRoom (length (frame_of i)) (after_push q (first_frames i))
  frames_room i n q h r =
      let l = frames_least n (i + 1) (omega (arith, h)) in
      let e = ap length (frames_next i) ∙ length-append (first_frames i) (frame_of i) in
      record {
        room = omega (arith, r.room, l, e, length-append q.kept (first_frames i));
        limit = omega (arith, r.limit, l, e);
      }

  -- how long a frame is
  frame_length : (i : ℕ) → length (frame_of i) ≡ 11 + min 249 (length octets - 249 * i) + 2 * ((min 249 (length octets - 249 * i) + 16) / 16)
  frame_length i =
      let user = segment_of octets start i in
      let size = length-take 249 (drop (249 * i) octets) in
      let left = length-drop (249 * i) octets in
      omega (arith, length-data asset to user, size, left)

  -- whole segments make frames of 292 octets
  frames_full : (i : ℕ) → 249 * i ≤ length octets → length (first_frames i) ≡ 292 * i
  frames_full zero h = omega arith
  frames_full (suc i) h =
      let before = frames_full i (omega (arith, h)) in
      let m : min 249 (length octets - 249 * i) ≡ 249 = omega (arith, h) in
      let here : length (frame_of i) ≡ 292 = frame_length i ∙ rw m refl in
      omega (arith, before, here, ap length (turned i), length-append (first_frames i) (frame_of i))

  -- a fragment cut anew is little longer
  pub frames_most : length (frames_at asset to start octets) ≤ recut_most (length octets)
  frames_most =
      let n = length octets in
      let q = n / 249 in
      let full = frames_full q (omega arith) in
      elim (cases_lt (249 * q) n) [
        | inl v ↦
            (let e : count_of n ≡ suc q = omega (arith, v) in
            let m : min 249 (n - 249 * q) ≡ n - 249 * q = omega arith in
            let last = frame_length q ∙ ap (λ k. 11 + k + 2 * ((k + 16) / 16)) m in
            omega (arith, v, full, last, ap length (ap first_frames e ∙ turned q), length-append (first_frames q) (frame_of q)))
        | inr v ↦ (let e : count_of n ≡ q = omega (arith, v) in omega (arith, v, full, ap length (ap first_frames e)))
      ]

  -- and has some octets
  pub frames_some : 0 < length octets → is_some_bytes (frames_at asset to start octets) ≡ true
  frames_some h =
      let least = frames_least (count_of (length octets)) 1 (omega (arith, h)) in
      let first : 11 ≤ length (first_frames 1) = omega (arith, frame_length 0, ap length (turned 0), length-append (first_frames 0) (frame_of 0)) in
      some_by (frames_at asset to start octets) (omega (arith, least, first))
