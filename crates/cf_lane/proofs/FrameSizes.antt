-- What a DNP3 frame puts out, and what fragments that were begun may still put out.
use Rattle.cf_lane.specs.Rates.{Says}
use Rattle.cf_audit.specs.declared.line.Why.{Why}
use Rattle.cf_dnplink.specs.LinkFrame.{FrameValue}
use Rattle.cf_dnplink.specs.UserOctets.{user_of}
use Rattle.cf_dnpobj.specs.Fragment.{wants_reply}
use Rattle.cf_dnpobj.specs.Reply.{reply}
use Rattle.cf_dnptrans.proofs.History.{unfinished_next}
use Rattle.cf_dnptrans.specs.Passing.{completed}
use Rattle.cf_dnptrans.specs.Transport.{answer_to, last_fragment, last_sequence, unfinished}
use Rattle.cf_dnptrans.specs.declared.assembly.SegmentAnswer.{SegmentAnswer}
use Rattle.cf_lane.proofs.Assemblies.{final_answer, final_leaves, leaves_size, size, whole_size}
use Rattle.cf_lane.proofs.Dnp3Segments.{more_fragment, stray_fragment}
use Rattle.cf_lane.proofs.Earlier.{segments_of-more}
use Rattle.cf_lane.proofs.Recutting.{frames_most, length-spelling}
use Rattle.cf_lane.proofs.ReplySizes.{reply_sizes}
use Rattle.cf_lane.proofs.Sides.{other_side, same_side, sum_sides}
use Rattle.cf_lane.specs.Dnp3.{answer_now, drop_why, fate_of_fragment, fate_of_frame, fate_of_segment, fragment_frames, fragment_in, fragment_reply, frame_fragment, frame_output, frames_at, is_data, is_none, segment_in, segments_into, segments_of, stray_of, whole_now}
use Rattle.cf_lane.specs.Fragments.{recut_most}
use Rattle.cf_lane.specs.History.{is_side}
use Rattle.cf_lane.specs.Item.{Took}
use Rattle.cf_lane.specs.Judged.{Judged, goes_on, has_ended}
use Rattle.cf_lane.specs.Output.{other}
use Rattle.cf_lane.specs.Unit.{Frame, frame_spelling}
use Rattle.cf_lane.specs.declared.fate.Fate.{Fate}
use Rattle.cf_policy.specs.declared.Asset.{Asset}
use Rattle.cf_view.specs.declared.Side.{Side}
use Rattle.std.proofs.Common.{Bool, List, None, Option, Some, [], ap, arith, false, inl, inr, length, refl, subst, sym, true, ℕ, ◌*◌, ◌&&◌, ◌++◌, ◌+◌, ◌-◌, ◌/◌, ◌∙◌, ◌∷◌, ◌≡◌, ◌≤◌, ◌⊎◌}
use Rattle.std.proofs.lemmas.Bool.{and_right, cond_both, ltb-false}
use Rattle.std.proofs.lemmas.List.{append-nil}
use Rattle.std.specs.List.{flat_map}
use Rattle.std.specs.Prelude.{if◌then◌else◌, nat_lt, slice_index}
use Rattle.cf_dnptrans.specs.declared.assembly.SegmentAnswer.TheVariants as answers
use Rattle.cf_lane.specs.declared.fate.Fate.TheVariants as fate
use Rattle.cf_audit.specs.declared.line.Why.TheVariants as why
use Rattle.cf_view.specs.declared.Side.TheVariants as side

-- what the fragment that is begun may still put out, and those of both sides
abbrev pub owed : List (List ℕ) → ℕ
owed segments = 5 * size (unfinished segments) / 4

abbrev pub potential : Asset → List Judged → ℕ
potential asset earlier = owed (segments_of asset side.Client earlier) + owed (segments_of asset side.Controller earlier)

-- there is none of these fragments, or one that is so short
abbrev IsFew : ℕ → List (List ℕ) → Type 0
IsFew most ys = (ys ≡ []) ⊎ ((z : List ℕ) × (ys ≡ z ∷ []) × (length z ≤ most))

few_if : (b : Bool) (z : List ℕ) (most : ℕ) → length z ≤ most → IsFew most (if b then z ∷ [] else [])
few_if b z most l = cond_both b (z ∷ []) [] (IsFew most) (λ _. inr (z, refl, l)) (λ _. inl refl)

few_reply : (ended : Bool) (f : Fate) (xs : List ℕ) → 2 ≤ length xs → IsFew (length xs + 2) (fragment_reply ended f (xs ∷ []))
few_reply false (fate.Refused r) xs l =
    subst (IsFew (length xs + 2)) (sym (append-nil (if wants_reply (slice_index xs 1) then reply xs r.reason ∷ [] else [])))
    (few_if (wants_reply (slice_index xs 1)) (reply xs r.reason) (length xs + 2) (reply_sizes xs r.reason l).1)
few_reply ended f xs l = inl refl

few_fragment : (to s : Side) (ended : Bool) (f : Fate) (xs : List ℕ) → 2 ≤ length xs → IsFew (length xs + 2) (frame_fragment to ended s f (xs ∷ []))
few_fragment side.Client side.Client ended f xs l = few_reply ended f xs l
few_fragment side.Controller side.Controller ended f xs l = inl refl
few_fragment to s ended f xs l = few_if (goes_on f) xs (length xs + 2) (omega arith)

few_whole : (asset : Asset) (says : Says) (to s : Side) (ended : Bool) (xs : List ℕ) (b : Bool) → nat_lt (length xs) 2 ≡ b →
    IsFew (length xs + 2) (frame_fragment to ended s (if b then fate.Stray why.Short else fate_of_fragment asset says s xs) (xs ∷ []))
few_whole asset says to s ended xs true e = inl (stray_fragment to s ended why.Short (xs ∷ []))
few_whole asset says to s ended xs false e = few_fragment to s ended (fate_of_fragment asset says s xs) xs (ltb-false (length xs) 2 e)

frames_size : (asset : Asset) (to : Side) (start most : ℕ) (ys : List (List ℕ)) → IsFew most ys → length (flat_map (frames_at asset to start) ys) ≤ recut_most most
frames_size asset to start most ys (inl none) = omega (arith, ap (λ zs. length (flat_map (frames_at asset to start) zs)) none)
frames_size asset to start most ys (inr one) =
    let z = one.0 in
    let short = one.2 in
    omega (
      arith,
      ap (λ zs. length (flat_map (frames_at asset to start) zs)) one.1,
      ap length (append-nil (frames_at asset to start z)),
      frames_most asset to z start,
      short,
    )

-- a segment after earlier ones of its side
module _ (asset : Asset) (says : Says) (to s : Side) (ended : Bool) (start : ℕ) (es : List (List ℕ)) (u : List ℕ) where
  abbrev put : SegmentAnswer → Option (List ℕ) → List ℕ
  put answer last =
      flat_map (frames_at asset to start) (frame_fragment to ended s (fate_of_segment asset says s answer (completed answer last)) (completed answer last))

  open_step : size (unfinished (u ∷ es)) ≤ size (unfinished es) + (length u - 1)
  open_step = omega (arith, leaves_size (unfinished es) (last_sequence es) u, ap size (unfinished_next u es))

  abbrev Fits : SegmentAnswer → Option (List ℕ) → Type 0
  Fits answer last = length (put answer last) + owed (u ∷ es) ≤ owed es + 2 * (10 + length u + 2 * ((length u + 15) / 16))

  quiet_fits : (answer : SegmentAnswer) (last : Option (List ℕ)) → put answer last ≡ [] → Fits answer last
  quiet_fits answer last none = omega (arith, ap length none, open_step)

  whole_fits : (xs : List ℕ) → answer_to es u ≡ answers.Whole → last_fragment (u ∷ es) ≡ Some xs → Fits answers.Whole (Some xs)
  whole_fits xs is last =
      let final = final_answer (unfinished es) (last_sequence es) u is in
      let gone = ap size (unfinished_next u es ∙ final_leaves (unfinished es) (last_sequence es) u final.0 final.1) in
      let few = few_whole asset says to s ended xs (nat_lt (length xs) 2) refl in
      omega (arith, gone, whole_size es u xs final.1 last, frames_size asset to start (length xs + 2) _ few, final.1)

  segment_fits : (answer : SegmentAnswer) (last : Option (List ℕ)) → answer_to es u ≡ answer → last_fragment (u ∷ es) ≡ last → Fits answer last
  segment_fits answers.More last is e = quiet_fits answers.More last (ap (flat_map (frames_at asset to start)) (more_fragment to s ended []))
  segment_fits (answers.Dropped because) last is e =
      quiet_fits (answers.Dropped because) last (ap (flat_map (frames_at asset to start)) (stray_fragment to s ended (drop_why because) []))
  segment_fits answers.Whole None is e = quiet_fits answers.Whole None (ap (flat_map (frames_at asset to start)) (more_fragment to s ended []))
  segment_fits answers.Whole (Some xs) is e = whole_fits xs is e

module _ (asset : Asset) (says : Says) (to : Side) (earlier : List Judged) (j : Judged) (s : Side) (x : FrameValue) (item : j.item ≡ Took s (Frame x)) where
  abbrev user : List ℕ
  user = user_of x.blocks

  weight_is : length (frame_spelling x) ≡ 10 + length user + 2 * ((length user + 15) / 16)
  weight_is = length-spelling x.control x.dest x.source user

  abbrev ended : Bool
  ended = has_ended side.Controller earlier

  abbrev start : ℕ
  start = segments_into asset to earlier

  abbrev whole : List (List ℕ)
  whole = whole_now asset s earlier x

  abbrev out_by : Bool → Fate → List ℕ
  out_by d f =
      if d then flat_map (frames_at asset to start) (if d then frame_fragment to ended s f whole else []) else (if is_side to s then [] else (if goes_on f then frame_spelling x else []))

  out_is : frame_output asset to earlier j s x ≡ out_by (is_data x) j.fate
  out_is = ap (λ i. if is_data x then flat_map (fragment_frames asset to earlier) (fragment_in asset to earlier j i)
      else (if is_side to s then [] else (if goes_on j.fate then frame_spelling x else []))) item

  abbrev segments_by : Bool → Bool → Side → List (List ℕ)
  segments_by served d t = (if is_side t s && (served && d) then user ∷ [] else []) ++ segments_of asset t earlier

  segments_are : (t : Side) → segments_of asset t (earlier ++ j ∷ []) ≡ segments_by (is_none (stray_of asset s x)) (is_data x) t
  segments_are t = segments_of-more asset t earlier j ∙ ap (λ i. segment_in asset t i ++ segments_of asset t earlier) item

  abbrev Grows : Bool → Bool → Fate → Type 0
  Grows served d f =
      length (out_by d f) + (owed (segments_by served d side.Client) + owed (segments_by served d side.Controller)) ≤ potential asset earlier + 2 * length (frame_spelling x)

  abbrev fate_by : Bool → Option Why → Fate
  fate_by d (Some because) = fate.Stray because
  fate_by d None = if d then fate_of_segment asset says s (answer_now asset s earlier x) whole else fate.Carried

  fate_is : (o : Option Why) → fate_of_frame asset says s earlier x o ≡ fate_by (is_data x) o
  fate_is None = refl
  fate_is (Some because) = refl

  none_put : (d : Bool) (because : Why) → out_by d (fate.Stray because) ≡ []
  none_put true because = ap (flat_map (frames_at asset to start)) (stray_fragment to s ended because whole)
  none_put false because = cond_both (is_side to s) [] [] (λ xs. xs ≡ []) (λ _. refl) (λ _. refl)

  -- no segment comes with a frame that is not served, or has no data
  no_segment : (served d : Bool) → (served && d) ≡ false → (t : Side) → segments_by served d t ≡ segments_of asset t earlier
  no_segment served d none t = rw (none, and_right (is_side t s) false refl) refl

  stray_grows : (d : Bool) (because : Why) → Grows false d (fate.Stray because)
  stray_grows d because =
      let same = no_segment false d refl in
      omega (arith, ap length (none_put d because), ap owed (same side.Client), ap owed (same side.Controller))

  status_grows : Grows true false fate.Carried
  status_grows =
      let same = no_segment true false refl in
      omega (arith, cond_both (is_side to s) [] (frame_spelling x) (λ xs. length xs ≤ length (frame_spelling x)) (λ _. omega arith) (λ _. omega arith), ap owed (same side.Client), ap owed (same side.Controller))

  data_grows : Grows true true (fate_of_segment asset says s (answer_now asset s earlier x) whole)
  data_grows =
      let own : segments_by true true s ≡ user ∷ segments_of asset s earlier = rw (same_side s) refl in
      let others : segments_by true true (other s) ≡ segments_of asset (other s) earlier = rw (other_side s) refl in
      omega (
        arith,
        segment_fits asset says to s ended start (segments_of asset s earlier) user (answer_now asset s earlier x) (last_fragment (user ∷ segments_of asset s earlier)) refl refl,
        ap owed own,
        ap owed others,
        sum_sides s (λ t. owed (segments_by true true t)),
        sum_sides s (λ t. owed (segments_of asset t earlier)),
        weight_is,
      )

  by_cases : (o : Option Why) (d : Bool) → Grows (is_none o) d (fate_by d o)
  by_cases (Some because) d = stray_grows d because
  by_cases None true = data_grows
  by_cases None false = status_grows

  -- what a frame puts out was owed, or is paid by its own octets
  pub frame_grows : j.fate ≡ fate_of_frame asset says s earlier x (stray_of asset s x) →
      length (frame_output asset to earlier j s x) + potential asset (earlier ++ j ∷ []) ≤ potential asset earlier + 2 * length (frame_spelling x)
  frame_grows f =
      let o = stray_of asset s x in
      omega (
        arith,
        by_cases o (is_data x),
        ap length (out_is ∙ ap (out_by (is_data x)) (f ∙ fate_is o)),
        ap owed (segments_are side.Client),
        ap owed (segments_are side.Controller),
      )
