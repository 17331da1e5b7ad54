-- What each call does to values that are those of the events.
use Rattle.std.proofs.Common.{◌≡◌, ℕ, ◌+◌, ◌-◌, ◌%◌, ◌≤◌, true, false, List, [], ◌∷◌, ◌++◌, length, drop, nat_lt, if◌then◌else◌, Option, Some, None, IsSome, sym, ◌∙◌, ap, arith, length-append, count_by}
use Rattle.std.proofs.lemmas.Bool.Decides.{nat_tests}
use Rattle.std.proofs.lemmas.Bool.{false≢true, cases_lt, le-ltb, lt-ltb}
use Rattle.std.proofs.lemmas.List.{drop-drop, length-drop, drop-append-le}
use Rattle.cf_renumber.specs.declared.mark.FrameFate.{FrameFate}
use Rattle.cf_renumber.specs.declared.mark.FrameFate.TheVariants as fates
use Rattle.cf_renumber.specs.declared.mark.Origin.{Origin}
use Rattle.cf_renumber.specs.declared.mark.Origin.TheVariants as origins
use Rattle.cf_renumber.specs.Counts.{NumberEvent, Admitted, Refused, ClientAck, Carried, ControllerAck, client_frames, frames_to_client, from_client, to_controller, from_controller, to_client, is_admitted, is_controllers, controllers_among, covered_by, count_from, acked_by_client, acked_by_controller, last_told, client_translated, owed_ack, outstanding_refusal}
use Rattle.cf_renumber.specs.Numbers.{NumbersValue, IsNumbersValue, waiting, HasCountsOf, IsNumbersOf, IsNumbersAwaiting, uncovered, after_client_ack, after_controller_ack, after_admitted, after_dropped, after_mirror, after_carried, stamp_for_controller, stamp_for_client, ack_owed, next_stamp_for_controller, next_stamp_for_client}
use Rattle.cf_renumber.proofs.Lists.{count_by-append, count_by-split, among-add, among-append, uncovered-add, uncovered-append, uncovered_again, uncovered_admitted, count-uncovered, length-uncovered, covered_by-le}
use Rattle.std.proofs.lemmas.Grind.{common_steps}

pub not_full : (n : ℕ) → (n ≡ 4096 → ⊥) → outstanding_refusal n ≡ None
not_full n h = grind (arith, nat_tests)

waits : (o : Option ℕ) → IsSome o → waiting o ≡ 1
waits o h1 = grind (arith, nat_tests, common_steps, false≢true)

module _ (v : NumbersValue) (events : List NumberEvent) (j : ℕ) (h : HasCountsOf v events j) where
  -- how many frames to the client are not acknowledged
  pub origins_left : length v.origins ≡ to_client events - j
  origins_left = ap length h.origins ∙ length-drop j (frames_to_client events)

  pub controllers_left : controllers_among j (frames_to_client events) + count_by is_controllers v.origins ≡ from_controller events
  controllers_left = grind (arith, common_steps, count_by-split)

  pub fates_left : length v.fates ≡ from_client events - covered_by (acked_by_controller events) (client_frames events)
  fates_left = ap length h.fates ∙ length-uncovered (acked_by_controller events) (client_frames events)

  pub admitted_left : acked_by_controller events + count_by is_admitted v.fates ≡ to_controller events
  admitted_left = grind (arith, common_steps, count-uncovered)

  -- the client acknowledges n more, whatever is owed then
  pub holds_client_ack : (owed : Option ℕ) (n : ℕ) → n ≤ length v.origins → HasCountsOf (record (after_client_ack v n) { owed = owed }) events (j + n)
  holds_client_ack owed n l = grind (arith, common_steps, drop-drop, origins_left)

  pub told_client_ack : (n : ℕ) → controllers_among (j + n) (frames_to_client events)
      ≡ controllers_among j (frames_to_client events) + controllers_among n v.origins
  told_client_ack n = grind (arith, common_steps, among-add)

  pub stamp_controller : count_by is_controllers v.origins ≤ 4096 → stamp_for_controller v ≡ next_stamp_for_controller events j
  stamp_controller l = grind (arith, common_steps, controllers_left)

  pub stamp_client : length v.fates ≤ 4096 → stamp_for_client v ≡ next_stamp_for_client events
  stamp_client l = grind (arith, common_steps, fates_left, covered_by-le)

  front : uncovered 0 v.fates ≡ v.fates
  front = rw h.fates (uncovered_again (acked_by_controller events) (client_frames events))

  -- the controller acknowledges m more
  pub fates_controller_ack : (m : ℕ) → uncovered m v.fates ≡ uncovered (acked_by_controller events + m) (client_frames events)
  fates_controller_ack m = ap (uncovered m) h.fates ∙ sym (uncovered-add (acked_by_controller events) m (client_frames events))

  -- one more frame of the client
  pub fates_more : (f : FrameFate) → uncovered 0 (v.fates ++ f ∷ []) ≡ uncovered (acked_by_controller events) (client_frames events ++ f ∷ [])
  fates_more f = grind (arith, common_steps, uncovered-append)

  pub fates_admitted : v.fates ++ fates.Admitted ∷ [] ≡ uncovered (acked_by_controller events) (client_frames events ++ fates.Admitted ∷ [])
  fates_admitted = sym (uncovered_admitted v.fates front) ∙ fates_more fates.Admitted

  pub origins_more : (o : Origin) → v.origins ++ o ∷ [] ≡ drop j (frames_to_client events ++ o ∷ [])
  origins_more o = grind (arith, common_steps, drop-append-le)

  pub received_more : (f : FrameFate) → (v.received + 1) % 32768 ≡ length (client_frames events ++ f ∷ []) % 32768
  received_more f = omega (arith, h.received, length-append (client_frames events) (f ∷ []))

  pub sent_more : (o : Origin) → (v.sent + 1) % 32768 ≡ length (frames_to_client events ++ o ∷ []) % 32768
  sent_more o = omega (arith, h.sent, length-append (frames_to_client events) (o ∷ []))

  pub admitted_more : (v.admitted + 1) % 32768 ≡ count_by is_admitted (client_frames events ++ fates.Admitted ∷ []) % 32768
  admitted_more = (let e : count_by is_admitted (client_frames events ++ fates.Admitted ∷ []) ≡ to_controller events + 1 =
      count_by-append is_admitted (client_frames events) (fates.Admitted ∷ []) in omega (arith, h.admitted))

  pub refused_more : count_by is_admitted (client_frames events ++ fates.Refused ∷ []) ≡ to_controller events
  refused_more = (let e : count_by is_admitted (client_frames events ++ fates.Refused ∷ []) ≡ to_controller events + 0 =
      count_by-append is_admitted (client_frames events) (fates.Refused ∷ []) in omega arith)

  pub mirror_more : count_by is_controllers (frames_to_client events ++ origins.Mirror ∷ []) ≡ from_controller events
  mirror_more = (let e : count_by is_controllers (frames_to_client events ++ origins.Mirror ∷ []) ≡ from_controller events + 0 =
      count_by-append is_controllers (frames_to_client events) (origins.Mirror ∷ []) in omega arith)

  pub carried_more : (v.carried + 1) % 32768 ≡ count_by is_controllers (frames_to_client events ++ origins.Controller ∷ []) % 32768
  carried_more = (let e : count_by is_controllers (frames_to_client events ++ origins.Controller ∷ []) ≡ from_controller events + 1 =
      count_by-append is_controllers (frames_to_client events) (origins.Controller ∷ []) in omega (arith, h.carried))

module _ (v : NumbersValue) (events : List NumberEvent) where
  pub awaits : (nr n : ℕ) → IsNumbersOf v events → n ≤ length v.origins →
      count_from (acked_by_client events) nr ≡ acked_by_client events + n →
      IsNumbersAwaiting (record (after_client_ack v n) { owed = Some (controllers_among n v.origins) }) events nr
  awaits nr n s l e = grind (arith, common_steps, holds_client_ack, told_client_ack)

  pub stands_client_ack : (nr n : ℕ) → IsNumbersOf v events → n ≤ length v.origins →
      count_from (acked_by_client events) nr ≡ acked_by_client events + n → IsNumbersOf (after_client_ack v n) (ClientAck nr ∷ events)
  stands_client_ack nr n s l e = grind (arith, common_steps, holds_client_ack)

  pub stands_controller_ack : (nr m : ℕ) → IsNumbersOf v events → m ≤ count_by is_admitted v.fates →
      count_from (acked_by_controller events) nr ≡ acked_by_controller events + m →
      IsNumbersOf (after_controller_ack v m) (ControllerAck nr ∷ events)
  stands_controller_ack nr m s l e = grind (arith, common_steps, fates_controller_ack, admitted_left)

  pub stands_admitted : (nr : ℕ) → IsNumbersAwaiting v events nr → IsNumbersOf (after_admitted v) (Admitted nr ∷ events)
  stands_admitted nr w = grind (arith, common_steps, fates_admitted, received_more, admitted_more, count_by-append)

  -- the last N(R) told, once a frame is refused
  told_refused : (nr : ℕ) → IsNumbersAwaiting v events nr →
      (if nat_lt (last_told events) (client_translated events nr) then client_translated events nr else last_told events)
      ≡ client_translated events nr
  told_refused nr w = (let e = w.told in grind (arith, nat_tests))

  pub stands_refused : (nr : ℕ) → IsNumbersAwaiting v events nr → IsNumbersOf (after_dropped v) (Refused nr false ∷ events)
  stands_refused nr w = grind (arith, common_steps, fates_more, received_more, refused_more, told_refused)

  pub stands_mirrored : (nr : ℕ) → IsNumbersAwaiting v events nr → IsNumbersOf (after_mirror (after_dropped v)) (Refused nr true ∷ events)
  stands_mirrored nr w =
      grind (arith, common_steps, origins_more, mirror_more, sent_more, length-append, fates_more, received_more, refused_more, told_refused, among-append)

  pub ack_is : (nr : ℕ) → count_by is_controllers v.origins ≤ 4096 → IsNumbersAwaiting v events nr → ack_owed v v.owed ≡ owed_ack events nr
  ack_is nr l w = grind (arith, nat_tests, common_steps, stamp_controller, cases_lt, lt-ltb, le-ltb)

  pub stands_carried : (nr : ℕ) → IsNumbersOf v (ControllerAck nr ∷ events) → IsNumbersOf (after_carried v) (Carried nr ∷ events)
  stands_carried nr s = grind (arith, common_steps, origins_more, carried_more, sent_more, length-append, among-append)

-- what holds whatever happened
module _ (v : NumbersValue) (i : IsNumbersValue v) where
  pub numbering_controller_ack : (m : ℕ) → IsNumbersValue (after_controller_ack v m)
  numbering_controller_ack m = grind (arith, common_steps, length-uncovered, front, uncovered_again)

  pub numbering_admitted : IsSome v.owed → IsNumbersValue (after_admitted v)
  numbering_admitted some = grind (arith, common_steps, waits, length-append, front, uncovered_admitted)

  pub numbering_dropped : IsSome v.owed → IsNumbersValue (after_dropped v)
  numbering_dropped some = grind (arith, common_steps, waits, length-append, length-uncovered, front, uncovered_again)

pub admits_dropped : (frames : List FrameFate) → count_by is_admitted (uncovered 0 (frames ++ fates.Refused ∷ [])) ≡ count_by is_admitted frames
admits_dropped frames = grind (arith, common_steps, count_by-append, count-uncovered)
