-- What a frame of DNP3 does after the earlier items.
use Rattle.cf_lane.specs.Rates.{Says}
use Rattle.cf_dnplink.specs.LinkFrame.{FrameValue}
use Rattle.cf_dnplink.specs.UserOctets.{user_of}
use Rattle.cf_dnptrans.specs.AssemblyValue.{AssemblyValue, IsAssemblyOf}
use Rattle.cf_dnptrans.specs.Passing.{completed}
use Rattle.cf_dnptrans.specs.Segments.{count_of}
use Rattle.cf_dnptrans.specs.Transport.{last_fragment}
use Rattle.cf_dnptrans.specs.declared.assembly.SegmentAnswer.{SegmentAnswer}
use Rattle.cf_audit.specs.declared.line.Why.{Why}
use Rattle.cf_lane.proofs.Earlier.{fragments_stay, segments_into-more, segments_of-more}
use Rattle.cf_lane.proofs.Dnp3Segments.{stray_fragment}
use Rattle.cf_lane.proofs.Handling.{push-nothing, with_lines-nothing}
use Rattle.cf_lane.proofs.Sides.{at_both, if_none, other_side, same_side, side_known}
use Rattle.cf_dnpobj.specs.Acts.{acts}
use Rattle.cf_dnpobj.specs.Fragment.{FragmentValue, read_octets}
use Rattle.cf_dnpobj.specs.declared.fragment.FragmentRefusal.{FragmentRefusal}
use Rattle.cf_lane.specs.Acts.{admission, by_refusal, fate_of_acts, first_refusal}
use Rattle.cf_lane.specs.declared.fate.Refusal.{Refusal}
use Rattle.cf_lane.specs.Dnp3.{answer_now, data_octets, fate_of_fragment, fate_of_frame, fate_of_read, fate_of_segment, fragment_frames, fragment_in, frame_fragment, frame_octets, frame_output, frames_at, is_data, segment_in, segments_into, segments_of, stray_of, whole_now}
use Rattle.cf_lane.specs.Fragments.{AddsSegment, DoesFrame, MissesFrame, MissesSegment, Parts, TakesFrame, TakesSegment, completed_by, counted, data_lines, frames_exist, parts}
use Rattle.cf_lane.specs.Handled.{IsOpen, MayHaveMore, judged}
use Rattle.cf_lane.specs.History.{is_side}
use Rattle.cf_lane.specs.Item.{Took}
use Rattle.cf_lane.specs.Judged.{Judged, fate_cut, goes_on, has_ended}
use Rattle.cf_lane.specs.Kept.{KnowsFragments, of_side}
use Rattle.cf_lane.specs.Log.{is_some_bytes, line_about, unit_lines, with_lines}
use Rattle.cf_lane.specs.Output.{other}
use Rattle.cf_lane.specs.Unit.{Frame, frame_spelling}
use Rattle.cf_lane.specs.declared.fate.Admission.{Admission}
use Rattle.cf_lane.specs.declared.fate.Fate.{Fate}
use Rattle.cf_lane.specs.declared.wire.Fragments.{Fragments}
use Rattle.cf_outq.specs.SendQueue.{after_push}
use Rattle.cf_policy.specs.declared.Asset.{Asset}
use Rattle.cf_view.specs.declared.Endpoint.{Endpoint}
use Rattle.cf_view.specs.declared.Side.{Side}
use Rattle.std.proofs.Common.{Bool, Err, List, None, Ok, Option, Some, [], ap, arith, drop, false, length, nat_eq, nat_lt, refl, reverse, slice_index, subst, suc, sym, take, true, zero, ℕ, ◌%◌, ◌*◌, ◌++◌, ◌+◌, ◌∙◌, ◌∷◌, ◌≡◌}
use Rattle.std.proofs.lemmas.Bool.{and_right, cond-false, cond-true, cond_both}
use Rattle.std.specs.List.{flat_map}
use Rattle.std.specs.Prelude.{Result, if◌then◌else◌}
use Rattle.cf_audit.specs.Line.{Stray}
use Rattle.cf_dnptrans.specs.declared.assembly.SegmentAnswer.TheVariants as answers
use Rattle.cf_lane.specs.declared.fate.Fate.TheVariants as fate
use Rattle.cf_dnptrans.specs.Segments as pieces
use Rattle.cf_audit.specs.declared.line.Why.TheVariants as why
use Rattle.cf_view.specs.declared.Side.TheVariants as side

-- the fate of a data frame that is served
fate_of_data : (asset : Asset) (says : Says) (s : Side) (earlier : List Judged) (x : FrameValue) → stray_of asset s x ≡ None → is_data x ≡ true →
    fate_of_frame asset says s earlier x (stray_of asset s x) ≡ fate_of_segment asset says s (answer_now asset s earlier x) (whole_now asset s earlier x)
fate_of_data asset says s earlier x served data_ =
    ap (fate_of_frame asset says s earlier x) served
    ∙ cond-true (is_data x) (fate_of_segment asset says s (answer_now asset s earlier x) (whole_now asset s earlier x)) fate.Carried data_

pub none_by : {A : Type 0} (o : Option A) → ((x : A) → o ≡ Some x → ⊥) → o ≡ None
none_by None never = refl
none_by (Some x) never = absurd (never x refl)

stray_nothing : (b : Bool) (c : Bool) (xs ys : List ℕ) → xs ≡ [] → (if b then xs else (if c then [] else (if false then ys else []))) ≡ []
stray_nothing true c xs ys e = e
stray_nothing false true xs ys e = refl
stray_nothing false false xs ys e = refl

module _ (asset : Asset) (says : Says) (client : Endpoint) (moment : ℕ) (s : Side) (x : FrameValue) (because : Why) (stray : stray_of asset s x ≡ Some because) (old new : Parts)
    (fragments : new.fragments ≡ old.fragments) (c : new.to_client ≡ old.to_client) (k : new.to_controller ≡ old.to_controller)
    (text : new.lines ≡ with_lines old.lines (line_about asset client moment (Stray s because) ∷ [])) where
  abbrev stray_item : Judged
  stray_item = judged moment (Took s (Frame x)) (fate.Stray because)

  module _ (earlier : List Judged) where
    nothing_in : (to : Side) → fragment_in asset to earlier stray_item (Took s (Frame x)) ≡ []
    nothing_in to = if_none (is_data x) _ (stray_fragment to s (has_ended side.Controller earlier) because (whole_now asset s earlier x))

    nothing_out : (to : Side) → frame_output asset to earlier stray_item s x ≡ []
    nothing_out to = stray_nothing (is_data x) (is_side to s) _ (frame_spelling x) (ap (flat_map (fragment_frames asset to earlier)) (nothing_in to))

    no_segment : (t : Side) → segment_in asset t (Took s (Frame x)) ≡ []
    no_segment t = rw (stray, and_right (is_side t s) false refl) refl

  -- a frame that is not served goes nowhere
  pub takes_stray : TakesFrame asset says client moment s x (fate.Stray because) old new
  takes_stray = record {
    uncut = refl;
    more = line_about asset client moment (Stray s because) ∷ [];
    lines = text;
    does = λ earlier knows ended. record {
      fragments = subst (λ f. KnowsFragments asset f (earlier ++ stray_item ∷ [])) (sym fragments)
          (fragments_stay asset earlier stray_item (no_segment earlier) (nothing_in earlier) old.fragments knows);
      fate = rw stray refl;
      of_client = c ∙ sym (push-nothing old.to_client) ∙ ap (after_push old.to_client) (sym (nothing_out earlier side.Client));
      of_controller = k ∙ sym (push-nothing old.to_controller) ∙ ap (after_push old.to_controller) (sym (nothing_out earlier side.Controller));
      client_quiet = λ e. nothing_out earlier side.Client;
      controller_quiet = λ e. nothing_out earlier side.Controller;
    };
    are_more = λ earlier knows ended. refl;
  }

-- the same but for its line
pub misses_stray : (asset : Asset) (says : Says) (client : Endpoint) (moment : ℕ) (s : Side) (x : FrameValue) (because : Why) → stray_of asset s x ≡ Some because → (old : Parts)
    (log : Option (List (List ℕ))) (part : List ℕ) → MayHaveMore (line_about asset client moment (Stray s because) ∷ []) old.lines log part → MissesFrame asset says client moment s x old log part
unfolding takes_stray
misses_stray asset says client moment s x because stray old log part line = record {
  fate = fate.Stray because;
  new = parts old.fragments old.to_client old.to_controller (with_lines old.lines (line_about asset client moment (Stray s because) ∷ []));
  takes = takes_stray asset says client moment s x because stray old
      (parts old.fragments old.to_client old.to_controller (with_lines old.lines (line_about asset client moment (Stray s because) ∷ []))) refl refl refl refl;
  line = line;
}

-- sequences count modulo 64
first_segments_mod : (octets : List ℕ) (n i : ℕ) → pieces.first_segments octets (n % 64) i ≡ pieces.first_segments octets n i
first_segments_mod octets n zero = refl
first_segments_mod octets n (suc i) =
    let e : (n % 64 + i) % 64 ≡ (n + i) % 64 = omega arith in
    ap (λ k. (pieces.octet_of (length octets) i k ∷ take 249 (drop (249 * i) octets)) ∷ pieces.first_segments octets (n % 64) i) e
    ∙ ap (λ xs. pieces.segment_of octets n i ∷ xs) (first_segments_mod octets n i)

frames_mod : (asset : Asset) (to : Side) (n : ℕ) (octets : List ℕ) → frames_at asset to (n % 64) octets ≡ frames_at asset to n octets
frames_mod asset to n octets = ap (λ xs. flat_map (data_octets asset to) (reverse xs)) (first_segments_mod octets n (count_of (length octets)))

all_frames_mod : (asset : Asset) (to : Side) (n : ℕ) (fragments : List (List ℕ)) → flat_map (frames_at asset to (n % 64)) fragments ≡ flat_map (frames_at asset to n) fragments
all_frames_mod asset to n [] = refl
all_frames_mod asset to n (octets ∷ fragments) = rw (frames_mod asset to n octets, all_frames_mod asset to n fragments) refl

-- no fragment cuts
no_cut_refusal : (used : Admission) (o : Option Refusal) → fate_cut (by_refusal used o) ≡ None
no_cut_refusal used None = refl
no_cut_refusal used (Some r) = refl

no_cut_read : (asset : Asset) (says : Says) (code : ℕ) (r : Result FragmentValue FragmentRefusal) → fate_cut (fate_of_read asset says code r) ≡ None
no_cut_read asset says code (Ok f) =
    cond_both (nat_eq f.code 0) fate.Carried (fate_of_acts asset says (acts f)) (λ g. fate_cut g ≡ None) (λ _. refl)
    (λ _. no_cut_refusal (admission asset says (acts f)) (first_refusal says (acts f)))
no_cut_read asset says code (Err e) = refl

no_cut_fragment : (asset : Asset) (says : Says) (s : Side) (octets : List ℕ) → fate_cut (fate_of_fragment asset says s octets) ≡ None
no_cut_fragment asset says side.Client octets = no_cut_read asset says (slice_index octets 1) (read_octets octets)
no_cut_fragment asset says side.Controller octets = refl

no_cut : (asset : Asset) (says : Says) (s : Side) (answer : SegmentAnswer) (whole : List (List ℕ)) → fate_cut (fate_of_segment asset says s answer whole) ≡ None
no_cut asset says s answers.Whole (octets ∷ none) =
    cond_both (nat_lt (length octets) 2) (fate.Stray why.Short) (fate_of_fragment asset says s octets) (λ f. fate_cut f ≡ None) (λ _. refl) (λ _. no_cut_fragment asset says s octets)
no_cut asset says s answer whole = refl

-- the fragment that is whole
completed_is : (answer : SegmentAnswer) (v : AssemblyValue) (o : Option (List ℕ)) → (answer ≡ answers.Whole → o ≡ Some v.octets) → completed_by answer v ≡ completed answer o
completed_is answers.Whole v o e = ap (completed answers.Whole) (sym (e refl))
completed_is answer v o e = refl

own_segment : (asset : Asset) (s : Side) (x : FrameValue) → stray_of asset s x ≡ None → is_data x ≡ true → segment_in asset s (Took s (Frame x)) ≡ user_of x.blocks ∷ []
own_segment asset s x served data_ = rw (same_side s, served, data_) refl

other_segment : (asset : Asset) (s : Side) (x : FrameValue) → segment_in asset (other s) (Took s (Frame x)) ≡ []
other_segment asset s x = rw (other_side s) refl

module _ (asset : Asset) (says : Says) (client : Endpoint) (moment : ℕ) (s : Side) (x : FrameValue) (served : stray_of asset s x ≡ None) (data_ : is_data x ≡ true)
    (answer : SegmentAnswer) (f : Fate) (was : Fragments) (old new : Parts) (adds : AddsSegment s (user_of x.blocks) answer was old.fragments)
    (takes : TakesSegment asset says client moment s answer (completed_by answer (of_side s old.fragments)) f old new) where
  abbrev user : List ℕ
  user = user_of x.blocks

  abbrev j : Judged
  j = judged moment (Took s (Frame x)) f

  abbrev whole : List (List ℕ)
  whole = completed_by answer (of_side s old.fragments)

  module _ (earlier : List Judged) (knows : KnowsFragments asset was earlier) (ended : old.to_client.ended ≡ has_ended side.Controller earlier) where
    own : IsAssemblyOf (of_side s was) (segments_of asset s earlier)
    own = side_known asset was s earlier knows

    stands : IsAssemblyOf (of_side s old.fragments) (user ∷ segments_of asset s earlier)
    stands = adds.stands (segments_of asset s earlier) own

    answer_is : answer ≡ answer_now asset s earlier x
    answer_is = adds.answered (segments_of asset s earlier) own

    whole_is : whole ≡ whole_now asset s earlier x
    whole_is =
        completed_is answer (of_side s old.fragments) (last_fragment (user ∷ segments_of asset s earlier)) (λ e. stands.whole_is (adds.completes e))
        ∙ ap (λ a. completed a (last_fragment (user ∷ segments_of asset s earlier))) answer_is

    -- what it puts into the stream to a side
    put_is : (to : Side) → frame_fragment to old.to_client.ended s f whole ≡ fragment_in asset to earlier j (Took s (Frame x))
    put_is to =
        ap (λ b. frame_fragment to b s f whole) ended ∙ ap (frame_fragment to (has_ended side.Controller earlier) s f) whole_is
        ∙ sym (cond-true (is_data x) (frame_fragment to (has_ended side.Controller earlier) s f (whole_now asset s earlier x)) [] data_)

    output_is : (to : Side) (sequence : ℕ) → sequence ≡ segments_into asset to earlier % 64 →
        flat_map (frames_at asset to sequence) (frame_fragment to old.to_client.ended s f whole) ≡ frame_output asset to earlier j s x
    output_is to sequence e =
        ap (λ n. flat_map (frames_at asset to n) (frame_fragment to old.to_client.ended s f whole)) e
        ∙ all_frames_mod asset to (segments_into asset to earlier) (frame_fragment to old.to_client.ended s f whole)
        ∙ ap (flat_map (fragment_frames asset to earlier)) (put_is to)
        ∙ sym (cond-true (is_data x) (flat_map (fragment_frames asset to earlier) (fragment_in asset to earlier j (Took s (Frame x))))
        (if is_side to s then [] else (if goes_on f then frame_spelling x else [])) data_)

    next_is : (to : Side) (sequence next : ℕ) → sequence ≡ segments_into asset to earlier % 64 → next ≡ (sequence + counted (frame_fragment to old.to_client.ended s f whole)) % 64 →
        next ≡ segments_into asset to (earlier ++ j ∷ []) % 64
    next_is to sequence next e n =
        let more = segments_into-more asset to earlier j in
        let same = ap counted (put_is to) in
        let step : (segments_into asset to earlier % 64 + counted (frame_fragment to old.to_client.ended s f whole)) % 64 ≡
        (segments_into asset to earlier + counted (frame_fragment to old.to_client.ended s f whole)) % 64 = omega arith in
        n ∙ ap (λ k. (k + counted (frame_fragment to old.to_client.ended s f whole)) % 64) e ∙ step
        ∙ ap (λ k. (segments_into asset to earlier + k) % 64) same ∙ ap (λ k. k % 64) (sym more)

    own_segments : segments_of asset s (earlier ++ j ∷ []) ≡ user ∷ segments_of asset s earlier
    own_segments = segments_of-more asset s earlier j ∙ ap (λ xs. xs ++ segments_of asset s earlier) (own_segment asset s x served data_)

    client_sequence : old.fragments.to_client ≡ segments_into asset side.Client earlier % 64
    client_sequence = adds.to_client ∙ knows.to_client

    controller_sequence : old.fragments.to_controller ≡ segments_into asset side.Controller earlier % 64
    controller_sequence = adds.to_controller ∙ knows.to_controller

    abbrev Stands : AssemblyValue → Side → Type 0
    Stands v t = IsAssemblyOf v (segments_of asset t (earlier ++ j ∷ []))

    stands_other : Stands (of_side (other s) old.fragments) (other s)
    stands_other =
        let same : segments_of asset (other s) (earlier ++ j ∷ []) ≡ segments_of asset (other s) earlier =
        segments_of-more asset (other s) earlier j ∙ ap (λ xs. xs ++ segments_of asset (other s) earlier) (other_segment asset s x) in
        subst (λ v. Stands v (other s)) (sym adds.other) (subst (IsAssemblyOf (of_side (other s) was)) (sym same) (side_known asset was (other s) earlier knows))

    known : KnowsFragments asset new.fragments (earlier ++ j ∷ [])
    known =
        let both = at_both s (λ t. Stands (of_side t old.fragments) t) (subst (IsAssemblyOf (of_side s old.fragments)) (sym own_segments) stands) stands_other in
        record {
          client = subst (λ v. Stands v side.Client) (sym takes.client_part) both.0;
          controller = subst (λ v. Stands v side.Controller) (sym takes.controller_part) both.1;
          to_client = next_is side.Client old.fragments.to_client new.fragments.to_client client_sequence takes.to_client.next_is;
          to_controller = next_is side.Controller old.fragments.to_controller new.fragments.to_controller controller_sequence takes.to_controller.next_is;
        }

    does_data : DoesFrame asset says client earlier j s x (parts was old.to_client old.to_controller old.lines) new
    does_data = record {
      fragments = known;
      fate = takes.fate ∙ ap (λ a. fate_of_segment asset says s a whole) answer_is ∙ ap (fate_of_segment asset says s (answer_now asset s earlier x)) whole_is
          ∙ sym (fate_of_data asset says s earlier x served data_);
      of_client = takes.to_client.put ∙ ap (after_push old.to_client) (output_is side.Client old.fragments.to_client client_sequence);
      of_controller = takes.to_controller.put ∙ ap (after_push old.to_controller) (output_is side.Controller old.fragments.to_controller controller_sequence);
      client_quiet = λ e. sym (output_is side.Client old.fragments.to_client client_sequence)
          ∙ ap (flat_map (frames_at asset side.Client old.fragments.to_client)) (takes.to_client.quiet e);
      controller_quiet = λ e. sym (output_is side.Controller old.fragments.to_controller controller_sequence)
          ∙ ap (flat_map (frames_at asset side.Controller old.fragments.to_controller)) (takes.to_controller.quiet e);
    }

    lines_are : unit_lines asset client moment (is_some_bytes (frame_output asset side.Client earlier j s x)) s (frame_octets asset earlier s x) f ≡
        data_lines asset client moment s f whole old.fragments.to_client old.to_client
    lines_are =
        ap (λ o. unit_lines asset client moment (is_some_bytes o) s (frame_octets asset earlier s x) f) (sym (output_is side.Client old.fragments.to_client client_sequence))
        ∙ ap (λ w. unit_lines asset client moment (frames_exist asset side.Client old.fragments.to_client (frame_fragment side.Client old.to_client.ended s f whole)) s (flat_map (λ octets. octets) w) f) (sym whole_is)

  -- a data frame that is served
  pub takes_data : TakesFrame asset says client moment s x f (parts was old.to_client old.to_controller old.lines) new
  takes_data = record {
    uncut = ap fate_cut takes.fate ∙ no_cut asset says s answer whole;
    more = data_lines asset client moment s f whole old.fragments.to_client old.to_client;
    lines = takes.lines;
    does = does_data;
    are_more = lines_are;
  }

pub misses_data : (asset : Asset) (says : Says) (client : Endpoint) (moment : ℕ) (s : Side) (x : FrameValue) → stray_of asset s x ≡ None → is_data x ≡ true →
    (answer : SegmentAnswer) (was : Fragments) (old : Parts) (log : Option (List (List ℕ))) (part : List ℕ) → AddsSegment s (user_of x.blocks) answer was old.fragments →
    MissesSegment asset says client moment s answer (completed_by answer (of_side s old.fragments)) old log part →
    MissesFrame asset says client moment s x (parts was old.to_client old.to_controller old.lines) log part
unfolding takes_data
misses_data asset says client moment s x served data_ answer was old log part adds m = record {
  fate = m.fate;
  new = m.new;
  takes = takes_data asset says client moment s x served data_ answer m.fate was old m.new adds m.takes;
  line = m.line;
}

-- a link status frame goes on as it is
module _ (asset : Asset) (says : Says) (client : Endpoint) (moment : ℕ) (s : Side) (x : FrameValue) (served : stray_of asset s x ≡ None) (other_ : is_data x ≡ false) (old new : Parts)
    (goes : IsOpen s old.to_client old.to_controller) (fragments : new.fragments ≡ old.fragments)
    (c : new.to_client ≡ after_push old.to_client (if is_side side.Client s then [] else frame_spelling x))
    (k : new.to_controller ≡ after_push old.to_controller (if is_side side.Controller s then [] else frame_spelling x))
    (text : new.lines ≡ old.lines) where
  abbrev status_item : Judged
  status_item = judged moment (Took s (Frame x)) fate.Carried

  status_out : (to : Side) (earlier : List Judged) → frame_output asset to earlier status_item s x ≡ (if is_side to s then [] else frame_spelling x)
  status_out to earlier =
      cond-false (is_data x) (flat_map (fragment_frames asset to earlier) (fragment_in asset to earlier status_item (Took s (Frame x)))) (if is_side to s then [] else frame_spelling x) other_

  status_in : (to : Side) (earlier : List Judged) → fragment_in asset to earlier status_item (Took s (Frame x)) ≡ []
  status_in to earlier = cond-false (is_data x) (frame_fragment to (has_ended side.Controller earlier) s fate.Carried (whole_now asset s earlier x)) [] other_

  status_segment : (t : Side) → segment_in asset t (Took s (Frame x)) ≡ []
  status_segment t = rw (served, other_, and_right (is_side t s) false refl) refl

  client_closed : (s : Side) → IsOpen s old.to_client old.to_controller → old.to_client.ended ≡ true → (if is_side side.Client s then [] else frame_spelling x) ≡ []
  client_closed side.Client o e = refl
  client_closed side.Controller o e = cc (o, e)

  controller_closed : (s : Side) → IsOpen s old.to_client old.to_controller → old.to_controller.ended ≡ true → (if is_side side.Controller s then [] else frame_spelling x) ≡ []
  controller_closed side.Client o e = cc (o, e)
  controller_closed side.Controller o e = refl

  pub takes_status : TakesFrame asset says client moment s x fate.Carried old new
  takes_status = record {
    uncut = refl;
    more = [];
    lines = text ∙ sym (with_lines-nothing old.lines);
    does = λ earlier knows ended. record {
      fragments = subst (λ f. KnowsFragments asset f (earlier ++ status_item ∷ [])) (sym fragments)
          (fragments_stay asset earlier status_item status_segment (λ to. status_in to earlier) old.fragments knows);
      fate = rw (served, other_) refl;
      of_client = c ∙ ap (after_push old.to_client) (sym (status_out side.Client earlier));
      of_controller = k ∙ ap (after_push old.to_controller) (sym (status_out side.Controller earlier));
      client_quiet = λ e. status_out side.Client earlier ∙ client_closed s goes e;
      controller_quiet = λ e. status_out side.Controller earlier ∙ controller_closed s goes e;
    };
    are_more = λ earlier knows ended. refl;
  }
