-- The packets that count, by their bits and numbers: `counts_by`.
use Rattle.std.proofs.Common.{◌≡◌, ℕ, Bool, true, false, cond, not, ◌&&◌, ◌||◌, refl, ◌∙◌, ap, arith, ℤ, pos}
use Rattle.std.proofs.lemmas.Int.{ints}
use Rattle.std.specs.Prelude.{int_lt, int_le}
use Rattle.cf_packet.specs.Packet.{PacketValue}
use Rattle.cf_leg.specs.Heard.{counts, counts_as, open_answer, first_answer, reset_answer, has_opened, is_at, is_in_reach, ack_place, text_place, opens_as, resets_as}
use Rattle.cf_leg.specs.Segment.{has_ack, has_syn, has_rst}
use Rattle.cf_leg.specs.declared.ends.LegAnswer.{LegAnswer}
use Rattle.cf_leg.specs.declared.ends.LegAnswer.TheVariants as answer
use Rattle.cf_leg.specs.declared.ends.EndState.{EndState}
use Rattle.cf_leg.specs.declared.ends.Role.{Role}
use Rattle.cf_leg.specs.declared.ends.Role.TheVariants as role

-- a segment that counts on an open end: it has ACK and neither SYN nor RST, is in reach, and acknowledges nothing that was not sent
abbrev pub counts_open : EndState → PacketValue → Bool
counts_open at p =
    (has_ack p && not (has_syn p || has_rst p)) && (is_in_reach at p && int_le (ack_place at p) (pos at.sent))

-- a packet that counts on an end that is not open: one that opens a passive end
abbrev pub counts_first : Role → EndState → PacketValue → Bool
counts_first (role.Active own) at p = false
counts_first (role.Passive other mss) at p = has_opened (first_answer at p)

by_reset : (r : Role) (b c : Bool) → counts_as r (cond b answer.Reset (cond c answer.Challenged answer.Ignored)) ≡ false
by_reset r true c = refl
by_reset r false true = refl
by_reset r false false = refl

by_tests : (ro : Role) (r s a i p : Bool) (x : LegAnswer) → counts_as ro x ≡ false
    → counts_as ro (cond r x (cond s answer.Challenged (cond (not a) answer.Ignored (cond (not i) answer.Challenged (cond p answer.Challenged answer.Counted))))) ≡ ((a && not (s || r)) && (i && not p))
by_tests ro true true true i p x h = h
by_tests ro true true false i p x h = h
by_tests ro true false true i p x h = h
by_tests ro true false false i p x h = h
by_tests ro false true true i p x h = refl
by_tests ro false true false i p x h = refl
by_tests ro false false false i p x h = refl
by_tests ro false false true true true x h = refl
by_tests ro false false true true false x h = refl
by_tests ro false false true false p x h = refl

le_not_lt : (z : ℤ) (n : ℕ) → not (int_lt (pos n) z) ≡ int_le z (pos n)
le_not_lt z n = by (int_lt (pos n) z) (int_le z (pos n)) refl refl
  where
    by : (a b : Bool) → int_lt (pos n) z ≡ a → int_le z (pos n) ≡ b → not a ≡ b
    by true true e f = absurd (omega (arith, ints, e, f))
    by true false e f = refl
    by false true e f = refl
    by false false e f = absurd (omega (arith, ints, e, f))

by_first : (ro : Role) (r x o : Bool) → counts_as ro (cond r (cond x answer.Reset answer.Ignored) (cond o answer.Opened answer.Ignored)) ≡ counts_as ro (cond (has_opened (cond r (cond x answer.Reset answer.Ignored) (cond o answer.Opened answer.Ignored))) answer.Opened answer.Ignored)
by_first ro true true o = refl
by_first ro true false o = refl
by_first ro false x true = refl
by_first ro false x false = refl

by_role : (ro : Role) (at : EndState) (p : PacketValue) → counts_as ro (cond (has_opened (first_answer at p)) answer.Opened answer.Ignored) ≡ counts_first ro at p
by_role (role.Active own) at p = of (has_opened (first_answer at p))
  where
    of : (b : Bool) → counts_as (role.Active own) (cond b answer.Opened answer.Ignored) ≡ false
    of true = refl
    of false = refl
by_role (role.Passive other mss) at p = of (has_opened (first_answer at p))
  where
    of : (b : Bool) → counts_as (role.Passive other mss) (cond b answer.Opened answer.Ignored) ≡ b
    of true = refl
    of false = refl

pub counts_by : (at : EndState) (p : PacketValue) → counts at p ≡ cond at.is_open (counts_open at p) (counts_first at.role at p)
counts_by at p = by at.is_open refl
  where
    by : (b : Bool) → at.is_open ≡ b → counts_as at.role (cond b (open_answer at p) (first_answer at p)) ≡ cond b (counts_open at p) (counts_first at.role at p)
    by true e =
        by_tests at.role (has_rst p) (has_syn p) (has_ack p) (is_in_reach at p) (int_lt (pos at.sent) (ack_place at p)) (reset_answer at.told (text_place at p))
        (by_reset at.role (is_at (text_place at p) at.told.base) (int_lt (pos at.told.base) (text_place at p) && int_lt (text_place at p) (pos at.told.edge)))
        ∙ ap (λ (b : Bool). (has_ack p && not (has_syn p || has_rst p)) && (is_in_reach at p && b)) (le_not_lt (ack_place at p) at.sent)
    by false e =
        by_first at.role (has_rst p) (resets_as at.role at p) (at.is_greeted && opens_as at.role at p) ∙ by_role at.role at p
