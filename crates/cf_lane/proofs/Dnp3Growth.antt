-- What the queues grow by for a data frame.
use Rattle.cf_dnplink.specs.LinkFrame.{FrameValue}
use Rattle.cf_dnplink.specs.UserOctets.{user_of}
use Rattle.cf_dnptrans.specs.AssemblyValue.{IsAssemblyOf}
use Rattle.cf_dnptrans.specs.declared.assembly.SegmentAnswer.{SegmentAnswer}
use Rattle.cf_lane.proofs.Assemblies.{final, owed_none, owed_step, whole_paid}
use Rattle.cf_lane.proofs.Recutting.{length-spelling}
use Rattle.cf_lane.proofs.Taking.{room_less}
use Rattle.cf_lane.specs.Fragments.{AddsSegment, sent_most}
use Rattle.cf_lane.specs.Handled.{Grows, HasRoom}
use Rattle.cf_lane.specs.Kept.{AreFragments, of_side, owed_octets, owed_by}
use Rattle.cf_lane.specs.Output.{other}
use Rattle.cf_lane.specs.Unit.{frame_spelling}
use Rattle.cf_lane.specs.declared.wire.Fragments.{Fragments}
use Rattle.cf_outq.specs.SendQueue.{Queue}
use Rattle.cf_view.specs.declared.Side.{Side}
use Rattle.std.proofs.Common.{List, ap, arith, get_or, length, refl, set, subst, sym, ℕ, ◌*◌, ◌+◌, ◌<◌, ◌∙◌, ◌∷◌, ◌≡◌, ◌≤◌}
use Rattle.std.proofs.lemmas.List.Sums.{get_or-le-sum_by, sum_by-set}
use Rattle.std.specs.List.{sum_by}
use Rattle.cf_dnptrans.specs.declared.assembly.SegmentAnswer.TheVariants as answers
use Rattle.cf_view.specs.declared.Side.TheVariants as side

-- how long a frame is, by its user octets
pub frame_size : (x : FrameValue) → length (user_of x.blocks) + 10 ≤ length (frame_spelling x)
frame_size x = omega (arith, length-spelling x.control x.dest x.source (user_of x.blocks))

some_size : (x : FrameValue) → 0 < length (user_of x.blocks) → length (user_of x.blocks) + 12 ≤ length (frame_spelling x)
some_size x h = omega (arith, h, length-spelling x.control x.dest x.source (user_of x.blocks))

owed_sides : (s : Side) (f : Fragments) → owed_by f ≡ owed_octets (of_side s f) + owed_octets (of_side (other s) f)
owed_sides side.Client f = refl
owed_sides side.Controller f = omega arith

pub part_exists : (s : Side) (f : Fragments) → AreFragments f → (segments : List (List ℕ)) × IsAssemblyOf (of_side s f) segments
part_exists side.Client f are = are.client
part_exists side.Controller f are = are.controller

module _ (s : Side) (x : FrameValue) (answer : SegmentAnswer) (was mid : Fragments) (are : AreFragments was) (adds : AddsSegment s (user_of x.blocks) answer was mid) where
  segments : List (List ℕ)
  segments = (part_exists s was are).0

  a : IsAssemblyOf (of_side s was) segments
  unfolding segments part_exists
  a = (part_exists s was are).1

  b : IsAssemblyOf (of_side s mid) (user_of x.blocks ∷ segments)
  b = adds.stands segments a

  -- what goes out, and what is owed then, was owed or is paid by the frame
  pub data_paid : (r : SegmentAnswer) → answer ≡ r → sent_most r (of_side s mid) + owed_by mid ≤ owed_by was + 2 * length (frame_spelling x)
  data_paid answers.Whole is =
      let w = adds.completes is in
      let read = adds.answered segments a in
      let none = owed_none (of_side s was) (of_side s mid) segments (user_of x.blocks) answer a b read is w in
      let some = (final (of_side s was) (of_side s mid) segments (user_of x.blocks) answer a b read is w).1 in
      let paid = whole_paid (of_side s was) (of_side s mid) segments (user_of x.blocks) answer a b read is w (length (frame_spelling x)) (some_size x some) in
      omega (arith, none, paid, owed_sides s was, owed_sides s mid, ap owed_octets adds.other)
  data_paid r is =
      let step = owed_step (of_side s was) (of_side s mid) segments (user_of x.blocks) a b (length (frame_spelling x)) (omega (arith, frame_size x)) in
      omega (arith, step, owed_sides s was, owed_sides s mid, ap owed_octets adds.other)

  pub data_room : (q : Queue) → HasRoom (owed_by was + 2 * length (frame_spelling x)) q → HasRoom (sent_most answer (of_side s mid)) q
  data_room q room = room_less _ _ q (omega (arith, data_paid answer refl)) room

  -- a queue grows by no more than that, whatever the sequences are then
  pub data_grows : (new : Fragments) (q r : Queue) → new.client ≡ mid.client → new.controller ≡ mid.controller → Grows (sent_most answer (of_side s mid)) 0 0 q r →
      Grows (2 * length (frame_spelling x)) (owed_by was) (owed_by new) q r
  data_grows new q r c k g =
      let same : owed_by new ≡ owed_by mid = omega (arith, ap owed_octets c, ap owed_octets k) in
      record {
        kept = omega (arith, g.kept, same, data_paid answer refl);
        pushed = omega (arith, g.pushed, same, data_paid answer refl);
        rest = g.rest;
      }

-- the fragments stay those of some segments
pub still_fragments : (s : Side) (x : FrameValue) (answer : SegmentAnswer) (was mid new : Fragments) → AreFragments was → AddsSegment s (user_of x.blocks) answer was mid →
    new.client ≡ mid.client → new.controller ≡ mid.controller → new.to_client < 64 → new.to_controller < 64 → AreFragments new
still_fragments side.Client x answer was mid new are adds c k m n = record {
  client = (user_of x.blocks ∷ are.client.0, subst (λ v. IsAssemblyOf v (user_of x.blocks ∷ are.client.0)) (sym c) (adds.stands are.client.0 are.client.1));
  controller = (are.controller.0, subst (λ v. IsAssemblyOf v are.controller.0) (sym (k ∙ adds.other)) are.controller.1);
  to_client = m;
  to_controller = n;
}
still_fragments side.Controller x answer was mid new are adds c k m n = record {
  client = (are.client.0, subst (λ v. IsAssemblyOf v are.client.0) (sym (c ∙ adds.other)) are.client.1);
  controller = (user_of x.blocks ∷ are.controller.0, subst (λ v. IsAssemblyOf v (user_of x.blocks ∷ are.controller.0)) (sym k) (adds.stands are.controller.0 are.controller.1));
  to_client = m;
  to_controller = n;
}

-- what all may still put out, where the fragments of one place go on
module _ (all : List Fragments) (place : ℕ) (d : Fragments) (inside : place < length all) where
  pub room_at : (n : ℕ) (q : Queue) → HasRoom (sum_by owed_by all + n) q → HasRoom (owed_by (get_or all place d) + n) q
  room_at n q r = room_less _ _ q (omega (arith, get_or-le-sum_by owed_by all place d inside)) r

  pub grows_at : (now : Fragments) (n : ℕ) (p q : Queue) → Grows n (owed_by (get_or all place d)) (owed_by now) p q → Grows n (sum_by owed_by all) (sum_by owed_by (set all place now)) p q
  grows_at now n p q g = record {
    kept = omega (arith, g.kept, sum_by-set owed_by all place now d inside);
    pushed = omega (arith, g.pushed, sum_by-set owed_by all place now d inside);
    rest = g.rest;
  }
