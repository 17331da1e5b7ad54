-- The room of a session, whatever happened before.
use Rattle.std.proofs.Common.{◌≡◌, ℕ, ◌+◌, ◌-◌, ◌*◌, ◌<◌, ◌≤◌, Bool, true, false, cond, length, refl, sym, ap, ◌∙◌, subst, arith}
use Rattle.std.specs.Prelude.{None, max}
use Rattle.cf_lane.specs.Handled.{debt}
use Rattle.cf_leg.specs.Calls.{Widens}
use Rattle.cf_leg.specs.LegValue.{LegValue}
use Rattle.cf_outq.specs.SendQueue.{Queue, queue_length}
use Rattle.cf_rebuild.specs.ReceiveWindow.{Window, base_of}
use Rattle.cf_session.specs.Parts.{IsPassive, SessionValue, open_places}
use Rattle.cf_session.specs.Turn.{IsShort, IsSteady}

small_base : (ended : Bool) (consumed pending : ℕ) → pending < 300 → (consumed + pending) + cond ended 1 0 ≤ consumed + 300
small_base true consumed pending h = omega (arith, h)
small_base false consumed pending h = omega (arith, h)

-- a window with few bytes pending has few places open
pub few_open : (w : Window) → length w.pending < 300 → w.edge ≤ base_of w + 16384 → open_places w ≤ 16684
few_open w few near = (let b = small_base w.ended w.consumed (length w.pending) few in omega (arith, b, near))

-- the room after a speech: where both edges may move, little is kept
room_by : (roomy : Bool) (kept kept' debt a a' b b' : ℕ) → kept + debt + 2 * (a + b) ≤ 131072 → debt ≤ 42400 → (roomy ≡ true → kept ≤ 16384) → kept' ≡ kept → a' ≤ 16684 → b' ≤ 16684 → (roomy ≡ false → a' ≡ a) → (roomy ≡ false → b' ≡ b) →
    kept' + debt + 2 * (a' + b') ≤ 131072
room_by true kept kept' debt a a' b b' room few short k x y same other = (let s = short refl in omega (arith, few, s, k, x, y))
room_by false kept kept' debt a a' b b' room few short k x y same other = rw (k, same refl, other refl) room

-- what a speech leaves of a window with few bytes pending
record Widened (roomy : Bool) (old new : Window) : Type 0 where
  pub base : base_of new ≡ base_of old
  pub ended : new.ended ≡ old.ended
  pub consumed : new.consumed ≡ old.consumed
  pub rest : length new.pending < 300
  pub few : open_places new ≤ 16684
  pub shut : roomy ≡ false → open_places new ≡ open_places old

widened : (roomy : Bool) (old new : Window) → Widens roomy old new → length old.pending < 300 → Widened roomy old new
widened roomy old new w few =
    let base : base_of new ≡ base_of old = ap (λ (v : Window). base_of v) w.same in
    let pending : length new.pending ≡ length old.pending = ap (λ (v : Window). length v.pending) w.same in
    let consumed : new.consumed ≡ old.consumed = ap (λ (v : Window). v.consumed) w.same in
    let rest : length new.pending < 300 = omega (arith, few, pending) in
    record {
      base = base;
      ended = ap (λ (v : Window). v.ended) w.same;
      consumed = consumed;
      rest = rest;
      few = few_open new rest (let a = w.near in omega (arith, a, base));
      shut = λ e. ap (λ m. max m 16384 - new.consumed) (w.shut e) ∙ ap (λ m. max old.edge 16384 - m) consumed;
    }

-- and of a queue
record Said (old new : Queue) : Type 0 where
  pub letters : queue_length new ≡ queue_length old
  pub kept : length new.kept ≡ length old.kept
  pub ended : new.ended ≡ old.ended

said : (old new : Queue) → new ≡ record old { sent = new.sent } → Said old new
said old new sent = record {
  letters = ap (λ (x : Queue). queue_length x) sent;
  kept = ap (λ (x : Queue). length x.kept) sent;
  ended = ap (λ (x : Queue). x.ended) sent;
}

-- a window that stays
still : (roomy : Bool) (w : Window) → length w.pending < 300 → w.edge ≤ base_of w + 16384 → Widened roomy w w
still roomy w rest near = record { base = refl; ended = refl; consumed = refl; rest = rest; few = few_open w rest near; shut = λ _. refl }

-- after a speech of either end, or of both
module _ {s : SessionValue} (roomy : Bool) (h : IsSteady s None) (n m : LegValue) (c k : Queue) (passive : IsPassive n.ends.role) (a : Widened roomy s.client.window n.window) (b : Widened roomy s.controller.window m.window)
    (x : Said s.to_client c) (y : Said s.to_controller k) (few_c : roomy ≡ true → length s.to_client.kept ≤ 16384) (few_k : roomy ≡ true → length s.to_controller.kept ≤ 16384) where
  abbrev next : SessionValue
  next = record s { client = n; controller = m; to_client = c; to_controller = k }

  short_now : IsShort s → IsShort next
  short_now g = record {
    client_letters = (let z = g.client_letters in omega (arith, z, x.letters));
    controller_letters = (let z = g.controller_letters in omega (arith, z, y.letters));
    client_taken = (let z = g.client_taken in omega (arith, z, a.base));
    controller_taken = (let z = g.controller_taken in omega (arith, z, b.base));
  }

  steady_by : IsSteady next None
  steady_by = record {
    passive = passive;
    limit = h.limit;
    client_base = (let z = h.client_base in omega (arith, z, a.base));
    controller_base = (let z = h.controller_base in omega (arith, z, b.base));
    client_rest = λ _. a.rest;
    controller_rest = λ _. b.rest;
    client_open = λ e. y.ended ∙ h.client_open (sym a.ended ∙ e);
    controller_open = λ e. x.ended ∙ h.controller_open (sym b.ended ∙ e);
    client_done = λ e. a.ended ∙ h.client_done e;
    controller_done = λ e. b.ended ∙ h.controller_done e;
    uncut = h.uncut;
    short = λ e. short_now (h.short e);
    commands = (let z = h.commands in omega (arith, z, a.consumed, b.consumed));
    owed = h.owed;
    client_room = room_by roomy (length s.to_client.kept) _ _ (open_places s.client.window) _ (open_places s.controller.window) _ h.client_room h.owed few_c x.kept a.few b.few a.shut b.shut;
    controller_room = room_by roomy (length s.to_controller.kept) _ _ (open_places s.client.window) _ (open_places s.controller.window) _ h.controller_room h.owed few_k y.kept a.few b.few a.shut b.shut;
  }

-- of the controller's end
pub steady_first : {s : SessionValue} (n : LegValue) (q : Queue) (roomy : Bool) → IsSteady s None → Widens roomy s.controller.window n.window → q ≡ record s.to_controller { sent = q.sent } →
    (roomy ≡ true → length s.to_client.kept ≤ 16384) → (roomy ≡ true → length s.to_controller.kept ≤ 16384) → s.client.window.edge ≤ base_of s.client.window + 16384 → IsSteady (record s { controller = n; to_controller = q }) None
steady_first {s} n q roomy h w sent few_c few_k near =
    steady_by roomy h s.client n s.to_client q h.passive (still roomy _ (h.client_rest refl) near) (widened roomy _ _ w (h.controller_rest refl)) (said _ _ refl) (said _ _ sent) few_c few_k

-- of the client's end
pub steady_on : {s : SessionValue} (n : LegValue) (q : Queue) (roomy : Bool) → IsSteady s None → n.ends ≡ s.client.ends → Widens roomy s.client.window n.window → q ≡ record s.to_client { sent = q.sent } →
    (roomy ≡ true → length s.to_client.kept ≤ 16384) → (roomy ≡ true → length s.to_controller.kept ≤ 16384) → s.controller.window.edge ≤ base_of s.controller.window + 16384 → IsSteady (record s { client = n; to_client = q }) None
steady_on {s} n q roomy h ends w sent few_c few_k near =
    steady_by roomy h n s.controller q s.to_controller (subst (λ (x : _). IsPassive x.role) (sym ends) h.passive) (widened roomy _ _ w (h.client_rest refl)) (still roomy _ (h.controller_rest refl) near) (said _ _ sent) (said _ _ refl) few_c few_k
