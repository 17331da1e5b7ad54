-- How an active leg opens.
use Rattle.std.proofs.Common.{◌≡◌, ℕ, Bool, true, false, cond, not, ◌&&◌, ◌||◌, List, [], ◌∷◌, Option, Some, None, refl, sym, ◌∙◌, ap}
use Rattle.std.specs.Prelude.{◌==◌}
use Rattle.std.specs.Option.{option_or, is_some}
use Rattle.cf_packet.specs.Packet.{PacketValue}
use Rattle.cf_stream.specs.Position.{sequence_number}
use Rattle.cf_leg.specs.Event.{Came, Nothing, Greeting, Packet, LegEvent}
use Rattle.cf_leg.specs.Heard.{opened, opens, end_state_if, open_answer, first_answer, has_opened, opens_as, resets_as, reset_answer, is_in_reach, ack_place, text_place, is_at}
use Rattle.cf_leg.specs.Segment.{has_ack, has_rst, has_syn}
use Rattle.cf_leg.specs.Told.{answers_syn, is_greeted, syn_ack, syn_ack_in}
use Rattle.cf_leg.specs.declared.ends.LegAnswer.{LegAnswer}
use Rattle.cf_leg.specs.declared.ends.LegAnswer.TheVariants as answer
use Rattle.cf_leg.specs.declared.ends.EndState.{EndState}
use Rattle.cf_leg.specs.declared.ends.Role.{Role}
use Rattle.cf_leg.specs.declared.ends.Role.TheVariants as role
use Rattle.std.specs.Prelude.{int_lt, pos}

-- a packet on an open leg does not open it
not_opening_reset : (b c : Bool) → has_opened (cond b answer.Reset (cond c answer.Challenged answer.Ignored)) ≡ false
not_opening_reset true c = refl
not_opening_reset false true = refl
not_opening_reset false false = refl

not_opening_tests : (r s a i p : Bool) (x : LegAnswer) → has_opened x ≡ false → has_opened (cond r x (cond s answer.Challenged (cond (not a) answer.Ignored (cond (not i) answer.Challenged (cond p answer.Challenged answer.Counted))))) ≡ false
not_opening_tests true s a i p x h = h
not_opening_tests false true a i p x h = refl
not_opening_tests false false false i p x h = refl
not_opening_tests false false true false p x h = refl
not_opening_tests false false true true true x h = refl
not_opening_tests false false true true false x h = refl

pub open_opens_not : (at : EndState) (p : PacketValue) → has_opened (open_answer at p) ≡ false
open_opens_not at p = not_opening_tests (has_rst p) (has_syn p) (has_ack p) (is_in_reach at p) (int_lt (pos at.sent) (ack_place at p)) (reset_answer at.told (text_place at p))
    (not_opening_reset (is_at (text_place at p) at.told.base) (int_lt (pos at.told.base) (text_place at p) && int_lt (text_place at p) (pos at.told.edge)))

-- an active leg is opened by the first SYN ACK for its SYN after it greeted
pub first_active : (own : ℕ) (at : EndState) (p : PacketValue) → at.role ≡ role.Active own → at.own ≡ own → has_opened (first_answer at p) ≡ (at.is_greeted && answers_syn own p)
first_active own at p e f =
    ap (λ (r : Role). has_opened (cond (has_rst p) (cond (resets_as r at p) answer.Reset answer.Ignored) (cond (at.is_greeted && opens_as r at p) answer.Opened answer.Ignored))) e
    ∙ ap (λ (n : ℕ). has_opened (cond (has_rst p) (cond (at.is_greeted && (has_ack p && (p.ack == sequence_number n 0))) answer.Reset answer.Ignored) (cond (at.is_greeted && answers_syn n p) answer.Opened answer.Ignored))) f
    ∙ by (has_rst p) at.is_greeted (has_syn p && has_ack p) (p.ack == sequence_number own 0) (at.is_greeted && (has_ack p && (p.ack == sequence_number own 0)))
  where
    by : (r g s a x : Bool) → has_opened (cond r (cond x answer.Reset answer.Ignored) (cond (g && (s && (not r && a))) answer.Opened answer.Ignored)) ≡ (g && (s && (not r && a)))
    by true true true a true = refl
    by true true true a false = refl
    by true true false a true = refl
    by true true false a false = refl
    by true false s a true = refl
    by true false s a false = refl
    by false g s a x = of (g && (s && a))
      where
        of : (b : Bool) → has_opened (cond b answer.Opened answer.Ignored) ≡ b
        of true = refl
        of false = refl

some_cond : (b : Bool) (p : PacketValue) → is_some (cond b (Some p) None) ≡ b
some_cond true p = refl
some_cond false p = refl

pub active_opened : (own : ℕ) (es : List LegEvent) → opened (role.Active own) es ≡ is_some (syn_ack own es)
active_opened own [] = refl
active_opened own (e ∷ es) = by (syn_ack own es) (active_opened own es) e.came
  where
    by : (o : Option PacketValue) → opened (role.Active own) es ≡ is_some o → (c : Came)
        → (opened (role.Active own) es || opens (end_state_if (opened (role.Active own) es) (role.Active own) es e) c) ≡ is_some (option_or o (syn_ack_in own (is_greeted es) c))
    by (Some x) h c = ap (λ (b : Bool). b || opens (end_state_if (opened (role.Active own) es) (role.Active own) es e) c) h
    by None h Nothing = ap (λ (b : Bool). b || false) h
    by None h (Greeting p) = ap (λ (b : Bool). b || false) h
    by None h (Packet p) =
        ap (λ (b : Bool). b || has_opened (cond b (open_answer (end_state_if b (role.Active own) es e) p) (first_answer (end_state_if b (role.Active own) es e) p))) h
        ∙ first_active own (end_state_if false (role.Active own) es e) p refl refl ∙ sym (some_cond (is_greeted es && answers_syn own p) p)
