-- What the calls leave of the queue and the window, whatever came before.
use Rattle.std.proofs.Common.{◌≡◌, ℕ, ◌≤◌, Bool, true, false, List, length, drop, Option, inl, inr, refl, sym, ap, ◌∙◌, subst, arith, ℤ}
use Rattle.std.proofs.lemmas.List.{length-drop}
use Rattle.std.proofs.lemmas.Bool.{cases_Bool, true≢false}
use Rattle.cf_outside.specs.Desk.{SentValue}
use Rattle.cf_outq.specs.SendQueue.{Queue}
use Rattle.cf_packet.specs.Packet.{PacketValue}
use Rattle.cf_rebuild.specs.ReceiveWindow.{Window, IsWindow, base_of}
use Rattle.cf_leg.specs.Calls.{Addressed, KeepsList, Widens, queue_counted, queue_opened, rearmed}
use Rattle.cf_leg.specs.Emits.{to_tell}
use Rattle.cf_leg.specs.LegValue.{LegValue, is_open}
use Rattle.cf_leg.specs.declared.ends.Role.{Role}

opened_list : (b : Bool) (r : Role) (q : Queue) (p : PacketValue) → KeepsList q (queue_opened b r q p)
opened_list true r q p = record { pushed = refl; ended = refl; kept = omega (arith) }
opened_list false r q p = record { pushed = refl; ended = refl; kept = omega (arith) }

dropped : (n : ℕ) (xs : List ℕ) → length (drop n xs) ≤ length xs
dropped n xs = rw (length-drop n xs) (omega (arith))

counted_list : (c : Bool) (q : Queue) (ack : ℤ) (size : ℕ) → KeepsList q (queue_counted c q ack size)
counted_list true q ack size = record { pushed = refl; ended = refl; kept = dropped _ q.kept }
counted_list false q ack size = record { pushed = refl; ended = refl; kept = omega (arith) }

pub list_kept : (b c : Bool) (r : Role) (q : Queue) (p : PacketValue) (ack : ℤ) (size : ℕ) → KeepsList q (queue_counted c (queue_opened b r q p) ack size)
list_kept b c r q p ack size =
    let x = opened_list b r q p in
    let y = counted_list c (queue_opened b r q p) ack size in
    record { pushed = y.pushed ∙ x.pushed; ended = y.ended ∙ x.ended; kept = (let m = x.kept in let n = y.kept in omega (arith, m, n)) }

edge_moved : (roomy : Bool) (w : Window) → IsWindow w → (base : ℕ) → Widens roomy w (record w { edge = (to_tell (record { base = base; edge = w.edge }) (base_of w) roomy).edge })
edge_moved true w h base = record { same = refl; shut = λ e. absurd (true≢false e); near = omega (arith) }
edge_moved false w h base = record { same = refl; shut = λ e. refl; near = h.near }

edge_still : (roomy : Bool) (w : Window) → IsWindow w → Widens roomy w w
edge_still roomy w h = record { same = refl; shut = λ e. refl; near = h.near }

pub widens_of : (roomy : Bool) (now : ℕ) (old mid new : LegValue) (q q' : Queue) (b a : Option (List SentValue)) → IsWindow old.window → Addressed roomy now old mid q q' b a → new ≡ rearmed mid q' now → Widens roomy old.window new.window
widens_of roomy now old mid new q q' b a h m e = elim (cases_Bool (is_open old.phase)) [
  | inl y ↦ subst (Widens roomy old.window) (sym (ap (λ (l : LegValue). l.window) e ∙ ap (λ (l : LegValue). l.window) (m.leg y))) (edge_moved roomy old.window h old.base)
  | inr n ↦ subst (Widens roomy old.window) (sym (ap (λ (l : LegValue). l.window) e ∙ ap (λ (l : LegValue). l.window) (m.same n))) (edge_still roomy old.window h)
]

pub sent_alone : (roomy : Bool) (now : ℕ) (old mid : LegValue) (q q' : Queue) (b a : Option (List SentValue)) → Addressed roomy now old mid q q' b a → q' ≡ record q { sent = q'.sent }
sent_alone roomy now old mid q q' b a m = elim (cases_Bool (is_open old.phase)) [
  | inl y ↦ m.sent y ∙ ap (λ (k : ℕ). let r : Queue = record q { sent = k } in r) (sym (ap (λ (x : Queue). x.sent) (m.sent y)))
  | inr n ↦ m.kept n ∙ ap (λ (k : ℕ). let r : Queue = record q { sent = k } in r) (sym (ap (λ (x : Queue). x.sent) (m.kept n)))
]
