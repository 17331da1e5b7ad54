-- A packet is heard.
use Rattle.std.proofs.Common.{◌≡◌, ℕ, Bool, true, false, cond, ◌||◌, List, [], ◌∷◌, ◌++◌, refl, sym, ap, ◌∙◌, subst}
use Rattle.std.proofs.lemmas.Bool.{true≢false}
use Rattle.std.proofs.lemmas.List.{append-nil, append_cancel_left}
use Rattle.cf_driver.specs.Takes.{OnlyPushed}
use Rattle.cf_leg.specs.Calls.{Continues, Heard, Newly, with_letters}
use Rattle.cf_leg.specs.Event.{LegEvent, Nothing, Packet, Unspoken, moment}
use Rattle.cf_leg.specs.Heard.{answer_to, end_state, offers}
use Rattle.cf_leg.specs.LegValue.{IsLegOf, LegValue, Marks, marks}
use Rattle.cf_leg.specs.declared.Ends.{Ends}
use Rattle.cf_leg.specs.declared.LegAnswer.{LegAnswer}
use Rattle.cf_outq.specs.SendQueue.{Queue}
use Rattle.cf_packet.specs.Packet.{PacketValue}
use Rattle.cf_rebuild.specs.ReceiveWindow.{Window}
use Rattle.cf_stream.specs.FirstCopy.{IsTaken, first_copy}
use Rattle.cf_stream.specs.Stream.{Stream, letter_count, no_letters}
use Rattle.cf_view.specs.declared.Side.{Side}
use Rattle.cf_view.specs.declared.Side.TheVariants as side
use Rattle.cf_lane.specs.Follows.{Rests, rest_of, with_rest}
use Rattle.cf_session.proofs.Heards.{window_ended}
use Rattle.cf_session.specs.Parts.{IsLegBetween, own_queue}

-- the leg stands for the event with the packet, which brings these letters
pub record Took (ends : Ends) (e : LegEvent) (es : List LegEvent) (p : PacketValue) (leg new : LegValue) (q : Queue) (answer : LegAnswer) (letters : Stream) : Type 0 where
  pub answer_is : answer ≡ answer_to (end_state ends.role es e) p
  pub stands : IsLegBetween ends new q (record e { came = Packet p; ending = Unspoken } ∷ es)
  pub on : (t : Stream) → IsTaken (first_copy (offers ends.role es)) t → IsTaken (first_copy (offers ends.role (record e { came = Packet p; ending = Unspoken } ∷ es))) (with_letters t letters)
  pub ended_same : (t : Stream) → IsTaken (first_copy (offers ends.role es)) t → leg.window.ended ≡ t.ended

pub took : {ends : Ends} {leg new : LegValue} {q q' : Queue} {answer : LegAnswer} {now : ℕ} {es : List LegEvent} {p : PacketValue} (e : LegEvent) → Heard now p leg new q q' answer → (n : Newly now p leg new q) → new.ends ≡ leg.ends → now ≡ moment e →
    IsLegBetween ends leg q (record e { came = Nothing; ending = Unspoken } ∷ es) → Took ends e es p leg new q' answer n.letters
took {ends} {leg} {new} {q} {q'} {answer} {now} {es} {p} e h n same at s = subst (λ x. Took x e es p leg new q' answer n.letters) s.is (record {
  answer_is = h.answer e es s.stands;
  stands = record { is = same; stands = h.stands e es at s.stands };
  on = λ t g. n.taken e es t at s.stands g;
  ended_same = λ t g. window_ended leg.window (offers leg.ends.role es) t s.stands.of_window g;
})

-- ---- which letters

newly_open : (l : Stream) (was now : Bool) → was ≡ false → now ≡ (was || l.ended) → l ≡ record { bytes = l.bytes; ended = now }
newly_open l was now o e = rw (e, o) refl

-- before the side has ended, these letters are new of it
pub record Brings (ends : Ends) (e : LegEvent) (es : List LegEvent) (p : PacketValue) (t : Stream) (before now : List ℕ) (letters : Stream) : Type 0 where
  pub pending : now ≡ before ++ letters.bytes
  pub taken_is : IsTaken (first_copy (offers ends.role (record e { came = Packet p; ending = Unspoken } ∷ es))) (with_letters t letters)
  pub unended : t.ended ≡ true → letter_count letters ≡ 0

pub brings : {ends : Ends} {e : LegEvent} {es : List LegEvent} {p : PacketValue} {leg new : LegValue} {q q' : Queue} {answer : LegAnswer} {now : ℕ} {before : List ℕ} (n : Newly now p leg new q) → Took ends e es p leg new q' answer n.letters → leg.window.ended ≡ false →
    (t : Stream) → IsTaken (first_copy (offers ends.role es)) t → before ≡ leg.window.pending → Brings ends e es p t before new.window.pending (record { bytes = n.letters.bytes; ended = new.window.ended })
brings {ends} {e} {es} {p} {leg} {new} n x is_open t tk pend = record {
  pending = n.pending ∙ ap (λ (xs : List ℕ). xs ++ n.letters.bytes) (sym pend);
  taken_is = subst (λ (l : Stream). IsTaken (first_copy (offers ends.role (record e { came = Packet p; ending = Unspoken } ∷ es))) (with_letters t l)) (newly_open n.letters leg.window.ended new.window.ended is_open n.ended) (x.on t tk);
  unended = λ en. absurd (true≢false (sym en ∙ sym (x.ended_same t tk) ∙ is_open));
}

end_stays : (b c : Bool) → c ≡ true → cond b true c ≡ cond false true c
end_stays true c e = sym e
end_stays false c e = refl

-- nothing is taken after an End
pub newly_none : (l : Stream) (old new : Window) (t : Stream) → old.ended ≡ true → Continues old new → new.pending ≡ old.pending ++ l.bytes → old.ended ≡ t.ended → with_letters t l ≡ with_letters t no_letters
newly_none l old new t o k pending same =
    let none : l.bytes ≡ [] = append_cancel_left old.pending l.bytes [] (sym pending ∙ ap (λ (s : Stream). s.bytes) (k.unread.ended o) ∙ sym (append-nil old.pending)) in
    ap (λ (xs : List ℕ). let s : Stream = record { bytes = t.bytes ++ xs; ended = cond l.ended true t.ended } in s) none
    ∙ ap (λ (b : Bool). let s : Stream = record { bytes = t.bytes ++ []; ended = b } in s) (end_stays l.ended t.ended (sym same ∙ o))

-- ---- the leg once the lane has put bytes into its queue, and its window was consumed

same_marks : (a b : Queue) → OnlyPushed a b → marks b ≡ marks a
same_marks a b h = rw (h.acked, h.sent, h.shown) refl

pub stands_on : (ends : Ends) (leg new : LegValue) (q q' : Queue) (es : List LegEvent) → IsLegBetween ends leg q es → new.ends ≡ leg.ends → ((m : Marks) (xs : List LegEvent) → IsLegOf leg m xs → IsLegOf new m xs) → OnlyPushed q q' → IsLegBetween ends new q' es
stands_on ends leg new q q' es s same on pushed = record { is = same ∙ s.is; stands = subst (λ m. IsLegOf new m es) (sym (same_marks q q' pushed)) (on (marks q) es s.stands) }

pub stands_pushed : (ends : Ends) (leg : LegValue) (q q' : Queue) (es : List LegEvent) → IsLegBetween ends leg q es → OnlyPushed q q' → IsLegBetween ends leg q' es
stands_pushed ends leg q q' es s pushed = stands_on ends leg leg q q' es s refl (λ m xs h. h) pushed

pub own_pushed : (s : Side) (c k c' k' : Queue) → OnlyPushed c c' → OnlyPushed k k' → OnlyPushed (own_queue s c k) (own_queue s c' k')
own_pushed side.Client c k c' k' a b = a
own_pushed side.Controller c k c' k' a b = b

pub with_own : (s : Side) (r : Rests) → with_rest s r (rest_of s r) ≡ r
with_own side.Client r = refl
with_own side.Controller r = refl
