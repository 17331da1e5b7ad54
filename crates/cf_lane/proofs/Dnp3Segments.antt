-- What becomes of a segment, and of the fragment that it completes.
use Rattle.cf_lane.specs.Rates.{Says}
use Rattle.cf_audit.specs.Line.{Stray}
use Rattle.cf_audit.specs.declared.line.Why.{Why}
use Rattle.cf_dnptrans.specs.AssemblyValue.{AssemblyValue}
use Rattle.cf_dnptrans.specs.declared.assembly.DropReason.{DropReason}
use Rattle.cf_lane.specs.Kept.{of_side}
use Rattle.cf_dnpobj.specs.Fragment.{wants_reply}
use Rattle.cf_dnpobj.specs.Reply.{reply}
use Rattle.cf_dnptrans.specs.Segments.{count_of}
use Rattle.cf_dnptrans.specs.declared.assembly.SegmentAnswer.{SegmentAnswer}
use Rattle.cf_lane.proofs.Handling.{push-nothing, with_lines-nothing}
use Rattle.cf_lane.proofs.Recutting.{frames_most, frames_some}
use Rattle.cf_lane.proofs.ReplySizes.{reply_sizes}
use Rattle.cf_lane.proofs.Taking.{grows_push, room_less}
use Rattle.cf_lane.specs.Dnp3.{drop_why, fate_of_fragment, fate_of_segment, fragment_reply, frame_fragment, frames_at}
use Rattle.cf_lane.specs.Fragments.{MissesSegment, Parts, Sends, TakesSegment, counted, data_lines, frames_exist, completed_by, parts, recut_most, sent_most}
use Rattle.cf_lane.specs.Handled.{Grows, HasRoom, MayHaveMore}
use Rattle.cf_lane.specs.Log.{admission_lines, is_some_bytes, line_about, refusal_line, with_lines}
use Rattle.cf_lane.specs.declared.fate.Fate.{Fate}
use Rattle.cf_lane.specs.declared.fate.Admission.{Admission}
use Rattle.cf_lane.specs.declared.fate.Refusal.{Refusal}
use Rattle.cf_lane.specs.declared.wire.Fragments.{Fragments}
use Rattle.cf_outq.specs.SendQueue.{Queue, after_push}
use Rattle.cf_policy.specs.declared.Asset.{Asset}
use Rattle.cf_view.specs.declared.Endpoint.{Endpoint}
use Rattle.cf_view.specs.declared.Reason.{Reason}
use Rattle.cf_view.specs.declared.Side.{Side}
use Rattle.std.proofs.Common.{Bool, List, Option, [], ap, arith, false, length, refl, slice_index, subst, sym, true, ℕ, ◌%◌, ◌+◌, ◌<◌, ◌∙◌, ◌∷◌, ◌≡◌, ◌≤◌}
use Rattle.std.proofs.lemmas.Bool.{le-ltb, lt-ltb}
use Rattle.std.proofs.lemmas.List.{append-nil}
use Rattle.std.specs.List.{flat_map}
use Rattle.cf_dnptrans.specs.declared.assembly.SegmentAnswer.TheVariants as answers
use Rattle.cf_lane.specs.declared.fate.Fate.TheVariants as fate
use Rattle.cf_view.specs.declared.Side.TheVariants as side
use Rattle.cf_audit.specs.declared.line.Why.TheVariants as why

-- nothing goes into a stream
pub sends_nothing : (asset : Asset) (to : Side) (fragments : List (List ℕ)) (sequence : ℕ) (q : Queue) → sequence < 64 → fragments ≡ [] → Sends asset to fragments sequence q sequence q
sends_nothing asset to fragments sequence q h e = record {
  put = sym (push-nothing q) ∙ ap (λ xs. after_push q (flat_map (frames_at asset to sequence) xs)) (sym e);
  next_is = (let n : sequence ≡ (sequence + 0) % 64 = omega (arith, h) in n) ∙ ap (λ xs. (sequence + counted xs) % 64) (sym e);
  quiet = λ _. e;
}

-- a stray segment or fragment, and a segment that lengthens, put out nothing
pub stray_fragment : (to s : Side) (b : Bool) (because : Why) (octets : List (List ℕ)) → frame_fragment to b s (fate.Stray because) octets ≡ []
stray_fragment side.Client side.Client true because octets = refl
stray_fragment side.Controller side.Client b because octets = refl
stray_fragment to s b because octets = refl

pub more_fragment : (to s : Side) (b : Bool) (octets : List (List ℕ)) → frame_fragment to b s fate.Lengthens octets ≡ []
more_fragment side.Client side.Client true octets = refl
more_fragment side.Controller side.Client b octets = refl
more_fragment to s b octets = refl

module _ (asset : Asset) (says : Says) (client : Endpoint) (moment : ℕ) (s : Side) (answer : SegmentAnswer) (whole : List (List ℕ)) (f : Fate) (old : Parts)
    (is : f ≡ fate_of_segment asset says s answer whole) (none : (to : Side) → frame_fragment to old.to_client.ended s f whole ≡ [])
    (to_client : old.fragments.to_client < 64) (to_controller : old.fragments.to_controller < 64) where
  pub takes_quietly : (new : Option (List (List ℕ))) → new ≡ with_lines old.lines (data_lines asset client moment s f whole old.fragments.to_client old.to_client) →
      TakesSegment asset says client moment s answer whole f old (parts old.fragments old.to_client old.to_controller new)
  takes_quietly new text = record {
    fate = is;
    client_part = refl;
    controller_part = refl;
    to_client = sends_nothing asset side.Client _ old.fragments.to_client old.to_client to_client (none side.Client);
    to_controller = sends_nothing asset side.Controller _ old.fragments.to_controller old.to_controller to_controller (none side.Controller);
    lines = text;
  }

  pub misses_quietly : (log : Option (List (List ℕ))) (part : List ℕ) → MayHaveMore (data_lines asset client moment s f whole old.fragments.to_client old.to_client) old.lines log part →
      MissesSegment asset says client moment s answer whole old log part
  misses_quietly log part line = record { fate = f; new = _; takes = takes_quietly _ refl; line = line }

-- the fate of a fragment by its length
pub fate_short : (asset : Asset) (says : Says) (s : Side) (octets : List ℕ) → length octets < 2 → fate.Stray why.Short ≡ fate_of_segment asset says s answers.Whole (octets ∷ [])
fate_short asset says s octets h = rw (lt-ltb (length octets) 2 h) refl

pub fate_long : (asset : Asset) (says : Says) (s : Side) (octets : List ℕ) → 2 ≤ length octets → fate_of_fragment asset says s octets ≡ fate_of_segment asset says s answers.Whole (octets ∷ [])
fate_long asset says s octets h = rw (le-ltb (length octets) 2 h) refl

-- a reply goes out where one is wanted
pub reply_put : (ended : Bool) (octets : List ℕ) (r : Refusal) → ended ≡ false → wants_reply (slice_index octets 1) ≡ true → fragment_reply ended (fate.Refused r) (octets ∷ []) ≡ reply octets r.reason ∷ []
reply_put ended octets r goes wants = rw (goes, wants) refl

-- a fragment of so many octets has room in its frames
pub recut_room : (asset : Asset) (to : Side) (sequence n : ℕ) (octets : List ℕ) (q : Queue) → length octets ≤ n → HasRoom (recut_most n) q → HasRoom (length (frames_at asset to sequence octets)) q
recut_room asset to sequence n octets q h r = room_less (recut_most n) _ q (omega (arith, h, frames_most asset to octets sequence)) r

pub recut_grows : (asset : Asset) (to : Side) (sequence n : ℕ) (octets : List ℕ) (q new : Queue) → length octets ≤ n → new ≡ after_push q (frames_at asset to sequence octets) → Grows (recut_most n) 0 0 q new
recut_grows asset to sequence n octets q new h is =
    subst (λ x. Grows (recut_most n) 0 0 q x) (sym is) (grows_push (recut_most n) q (frames_at asset to sequence octets) (omega (arith, h, frames_most asset to octets sequence)))

pub reply_exists : (asset : Asset) (sequence : ℕ) (octets : List ℕ) (reason : Reason) → 2 ≤ length octets → frames_exist asset side.Client sequence (reply octets reason ∷ []) ≡ true
reply_exists asset sequence octets reason h =
    ap is_some_bytes (append-nil (frames_at asset side.Client sequence (reply octets reason)))
    ∙ frames_some asset side.Client (reply octets reason) sequence (omega (arith, (reply_sizes octets reason h).0))

module _ (asset : Asset) (says : Says) (client : Endpoint) (moment : ℕ) (octets : List ℕ) (r : Refusal) (old : Parts) (sequence : ℕ) (queue : Queue)
    (is : fate.Refused r ≡ fate_of_segment asset says side.Client answers.Whole (octets ∷ []))
    (sends : Sends asset side.Client (fragment_reply old.to_client.ended (fate.Refused r) (octets ∷ [])) old.fragments.to_client old.to_client sequence queue)
    (to_controller : old.fragments.to_controller < 64) where
  abbrev after_reply : Fragments
  after_reply = record { client = old.fragments.client; controller = old.fragments.controller; to_client = sequence; to_controller = old.fragments.to_controller }

  -- whether it was put is told
  abbrev IsTold : Bool → Type 0
  IsTold replied = replied ≡ frames_exist asset side.Client old.fragments.to_client (fragment_reply old.to_client.ended (fate.Refused r) (octets ∷ []))

  abbrev reply_line : Bool → List (List ℕ)
  reply_line replied = line_about asset client moment (refusal_line asset r replied octets) ∷ []

  told_lines : (replied : Bool) → IsTold replied → reply_line replied ≡ data_lines asset client moment side.Client (fate.Refused r) (octets ∷ []) old.fragments.to_client old.to_client
  told_lines replied told =
      ap reply_line told
      ∙ ap (λ xs. line_about asset client moment (refusal_line asset r (frames_exist asset side.Client old.fragments.to_client (fragment_reply old.to_client.ended (fate.Refused r) (octets ∷ []))) xs) ∷ []) (sym (append-nil octets))

  pub takes_reply : (replied : Bool) (lines : Option (List (List ℕ))) → IsTold replied → lines ≡ with_lines old.lines (reply_line replied) →
      TakesSegment asset says client moment side.Client answers.Whole (octets ∷ []) (fate.Refused r) old (parts after_reply queue old.to_controller lines)
  takes_reply replied lines told text = record {
    fate = is;
    client_part = refl;
    controller_part = refl;
    to_client = sends;
    to_controller = sends_nothing asset side.Controller _ old.fragments.to_controller old.to_controller to_controller refl;
    lines = text ∙ ap (with_lines old.lines) (told_lines replied told);
  }

  pub misses_reply : (replied : Bool) (log : Option (List (List ℕ))) (part : List ℕ) → IsTold replied → MayHaveMore (reply_line replied) old.lines log part →
      MissesSegment asset says client moment side.Client answers.Whole (octets ∷ []) old log part
  misses_reply replied log part told line = record {
    fate = fate.Refused r;
    new = parts after_reply queue old.to_controller (with_lines old.lines (reply_line replied));
    takes = takes_reply replied _ told refl;
    line = subst (λ m. MayHaveMore m old.lines log part) (told_lines replied told) line;
  }

-- one fragment goes into a stream
pub sends_one : (asset : Asset) (to : Side) (octets : List ℕ) (sequence next : ℕ) (q new : Queue) → q.ended ≡ false → next ≡ (sequence + count_of (length octets)) % 64 →
    new ≡ after_push q (frames_at asset to sequence octets) → Sends asset to (octets ∷ []) sequence q next new
sends_one asset to octets sequence next q new goes n put = record {
  put = put ∙ ap (after_push q) (sym (append-nil (frames_at asset to sequence octets)));
  next_is = (let e : count_of (length octets) ≡ counted (octets ∷ []) = omega arith in n ∙ ap (λ k. (sequence + k) % 64) e);
  quiet = λ e. cc (e, goes);
}

-- an admitted fragment goes on, and may have its line
module _ (asset : Asset) (says : Says) (client : Endpoint) (moment : ℕ) (octets : List ℕ) (used : Admission) (old : Parts) (sequence : ℕ) (queue : Queue) where
  abbrev after_sent : Fragments
  after_sent = record { client = old.fragments.client; controller = old.fragments.controller; to_client = old.fragments.to_client; to_controller = sequence }

  abbrev own_lines : List (List ℕ)
  own_lines = admission_lines asset client moment octets used

  nothing_back : (b : Bool) → frame_fragment side.Client b side.Client (fate.Admitted used) (octets ∷ []) ≡ []
  nothing_back true = refl
  nothing_back false = refl

  lines_same : own_lines ≡ data_lines asset client moment side.Client (fate.Admitted used) (octets ∷ []) old.fragments.to_client old.to_client
  lines_same = ap (λ xs. admission_lines asset client moment xs used) (sym (append-nil octets))

  pub takes_admitted : (lines : Option (List (List ℕ))) → fate.Admitted used ≡ fate_of_segment asset says side.Client answers.Whole (octets ∷ []) → old.fragments.to_client < 64 →
      Sends asset side.Controller (octets ∷ []) old.fragments.to_controller old.to_controller sequence queue → lines ≡ with_lines old.lines own_lines →
      TakesSegment asset says client moment side.Client answers.Whole (octets ∷ []) (fate.Admitted used) old (parts after_sent old.to_client queue lines)
  takes_admitted lines is room sends text = record {
    fate = is;
    client_part = refl;
    controller_part = refl;
    to_client = sends_nothing asset side.Client _ old.fragments.to_client old.to_client room (nothing_back old.to_client.ended);
    to_controller = sends;
    lines = text ∙ ap (with_lines old.lines) lines_same;
  }

  pub misses_admitted : (log : Option (List (List ℕ))) (part : List ℕ) → fate.Admitted used ≡ fate_of_segment asset says side.Client answers.Whole (octets ∷ []) → old.fragments.to_client < 64 →
      Sends asset side.Controller (octets ∷ []) old.fragments.to_controller old.to_controller sequence queue → MayHaveMore own_lines old.lines log part →
      MissesSegment asset says client moment side.Client answers.Whole (octets ∷ []) old log part
  misses_admitted log part is room sends line = record {
    fate = fate.Admitted used;
    new = parts after_sent old.to_client queue (with_lines old.lines own_lines);
    takes = takes_admitted (with_lines old.lines own_lines) is room sends refl;
    line = subst (λ m. MayHaveMore m old.lines log part) lines_same line;
  }

-- one that is no command goes on without a line
module _ (asset : Asset) (says : Says) (client : Endpoint) (moment : ℕ) (octets : List ℕ) (old : Parts) (sequence : ℕ) (queue : Queue) where
  carried_back : (b : Bool) → frame_fragment side.Client b side.Client fate.Carried (octets ∷ []) ≡ []
  carried_back true = refl
  carried_back false = refl

  pub takes_carried : fate.Carried ≡ fate_of_segment asset says side.Client answers.Whole (octets ∷ []) → old.fragments.to_client < 64 →
      Sends asset side.Controller (octets ∷ []) old.fragments.to_controller old.to_controller sequence queue →
      TakesSegment asset says client moment side.Client answers.Whole (octets ∷ []) fate.Carried old (parts
      (record { client = old.fragments.client; controller = old.fragments.controller; to_client = old.fragments.to_client; to_controller = sequence }) old.to_client queue old.lines)
  takes_carried is room sends = record {
    fate = is;
    client_part = refl;
    controller_part = refl;
    to_client = sends_nothing asset side.Client _ old.fragments.to_client old.to_client room (carried_back old.to_client.ended);
    to_controller = sends;
    lines = sym (with_lines-nothing old.lines);
  }

-- a fragment of the controller goes on
pub takes_back : (asset : Asset) (says : Says) (client : Endpoint) (moment : ℕ) (octets : List ℕ) (old : Parts) (sequence : ℕ) (queue : Queue) → 2 ≤ length octets → old.fragments.to_controller < 64 →
    Sends asset side.Client (octets ∷ []) old.fragments.to_client old.to_client sequence queue →
    TakesSegment asset says client moment side.Controller answers.Whole (octets ∷ []) fate.Carried old (parts
    (record { client = old.fragments.client; controller = old.fragments.controller; to_client = sequence; to_controller = old.fragments.to_controller }) queue old.to_controller old.lines)
takes_back asset says client moment octets old sequence queue long room sends = record {
  fate = fate_long asset says side.Controller octets long;
  client_part = refl;
  controller_part = refl;
  to_client = sends;
  to_controller = sends_nothing asset side.Controller _ old.fragments.to_controller old.to_controller room refl;
  lines = sym (with_lines-nothing old.lines);
}

-- a segment that lengthens a fragment
pub takes_more : (asset : Asset) (says : Says) (client : Endpoint) (moment : ℕ) (s : Side) (answer : SegmentAnswer) (v : AssemblyValue) (old : Parts) →
    old.fragments.to_client < 64 → old.fragments.to_controller < 64 → answer ≡ answers.More →
    TakesSegment asset says client moment s answer (completed_by answer v) fate.Lengthens old (parts old.fragments old.to_client old.to_controller old.lines)
takes_more asset says client moment s answer v old m n is =
    subst (λ a. TakesSegment asset says client moment s a (completed_by a v) fate.Lengthens old (parts old.fragments old.to_client old.to_controller old.lines)) (sym is)
    (takes_quietly asset says client moment s answers.More [] fate.Lengthens old refl (λ to. more_fragment to s old.to_client.ended []) m n old.lines (sym (with_lines-nothing old.lines)))

-- one that is dropped
pub takes_dropped : (asset : Asset) (says : Says) (client : Endpoint) (moment : ℕ) (s : Side) (answer : SegmentAnswer) (because : DropReason) (v : AssemblyValue) (old : Parts) →
    old.fragments.to_client < 64 → old.fragments.to_controller < 64 → answer ≡ answers.Dropped because → (lines : Option (List (List ℕ))) (told : Why) → told ≡ drop_why because →
    lines ≡ with_lines old.lines (line_about asset client moment (Stray s told) ∷ []) →
    TakesSegment asset says client moment s answer (completed_by answer v) (fate.Stray told) old (parts old.fragments old.to_client old.to_controller lines)
takes_dropped asset says client moment s answer because v old m n is lines told why_is text =
    subst (λ a. TakesSegment asset says client moment s a (completed_by a v) (fate.Stray told) old (parts old.fragments old.to_client old.to_controller lines)) (sym is)
    (takes_quietly asset says client moment s (answers.Dropped because) [] (fate.Stray told) old (ap fate.Stray why_is) (λ to. stray_fragment to s old.to_client.ended told []) m n lines text)

-- a segment that is dropped, but for its line
pub misses_dropped : (asset : Asset) (says : Says) (client : Endpoint) (moment : ℕ) (s : Side) (answer : SegmentAnswer) (because : DropReason) (v : AssemblyValue) (old : Parts) →
    old.fragments.to_client < 64 → old.fragments.to_controller < 64 → answer ≡ answers.Dropped because → (log : Option (List (List ℕ))) (part : List ℕ) (told : Why) → told ≡ drop_why because →
    MayHaveMore (line_about asset client moment (Stray s told) ∷ []) old.lines log part → MissesSegment asset says client moment s answer (completed_by answer v) old log part
misses_dropped asset says client moment s answer because v old m n is log part told why_is line =
    subst (λ a. MissesSegment asset says client moment s a (completed_by a v) old log part) (sym is)
    (misses_quietly asset says client moment s (answers.Dropped because) [] (fate.Stray (drop_why because)) old refl (λ to. stray_fragment to s old.to_client.ended (drop_why because) []) m n log part
    (subst (λ w. MayHaveMore (line_about asset client moment (Stray s w) ∷ []) old.lines log part) why_is line))

-- what was said of the fragment of a side, of the side that it is
module _ (asset : Asset) (says : Says) (client : Endpoint) (moment : ℕ) (s t : Side) (answer : SegmentAnswer) (was : Fragments) (is : s ≡ t) (whole : answer ≡ answers.Whole) where
  pub takes_of : (f : Fate) (old new : Parts) → TakesSegment asset says client moment t answers.Whole ((of_side t was).octets ∷ []) f old new →
      TakesSegment asset says client moment s answer (completed_by answer (of_side s was)) f old new
  takes_of f old new taken =
      subst (λ s. TakesSegment asset says client moment s answer (completed_by answer (of_side s was)) f old new) (sym is)
      (subst (λ a. TakesSegment asset says client moment t a (completed_by a (of_side t was)) f old new) (sym whole) taken)

  pub misses_of : (old : Parts) (log : Option (List (List ℕ))) (part : List ℕ) → MissesSegment asset says client moment t answers.Whole ((of_side t was).octets ∷ []) old log part →
      MissesSegment asset says client moment s answer (completed_by answer (of_side s was)) old log part
  misses_of old log part missed =
      subst (λ s. MissesSegment asset says client moment s answer (completed_by answer (of_side s was)) old log part) (sym is)
      (subst (λ a. MissesSegment asset says client moment t a (completed_by a (of_side t was)) old log part) (sym whole) missed)

-- what goes out for a fragment that is whole, of the side that it is
pub most_of : (s t : Side) (answer : SegmentAnswer) (was : Fragments) → s ≡ t → answer ≡ answers.Whole → sent_most answer (of_side s was) ≡ recut_most (length (of_side t was).octets + 2)
most_of s t answer was is whole = ap (λ a. sent_most a (of_side s was)) whole ∙ ap (λ s. recut_most (length (of_side s was).octets + 2)) is
