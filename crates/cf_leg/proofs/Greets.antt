-- A leg that greeted.
use Rattle.std.proofs.Math.Bool.{or-false}
use Rattle.std.proofs.Common.{◌≡◌, ℕ, Bool, true, false, not, ◌&&◌, ◌||◌, List, [], ◌∷◌, Option, Some, None, refl, sym, ◌∙◌, ap, subst, arith, inl}
use Rattle.std.specs.Option.{option_or, is_some}
use Rattle.std.proofs.lemmas.Bool.{true≢false, false≢true}
use Rattle.cf_outside.specs.Desk.{DeskValue}
use Rattle.cf_packet.specs.Packet.{PacketValue}
use Rattle.cf_rebuild.specs.ReceiveWindow.{IsWindow}
use Rattle.cf_rebuild.specs.ReceiveWindow.{IsWindowOf}
use Rattle.cf_stream.specs.FirstCopy.{Offer}
use Rattle.cf_leg.proofs.Edges.{greeting_tells}
use Rattle.cf_leg.proofs.Clocked.{greeted_idle, peer_idle}
use Rattle.cf_leg.proofs.Spoken.{parts_told}
use Rattle.cf_leg.specs.Calls.{Greeted, IsOwn, greeted_as, greeting_as, greeting_by, greeting_of, is_greeted_phase, window_by}
use Rattle.cf_leg.specs.Emits.{IsGreeting, peer_mss, send_mss, syn, syn_ack_for}
use Rattle.cf_leg.specs.Emitted.{GetsSegments}
use Rattle.cf_leg.specs.Event.{Greeting, Nothing, Unspoken, LegEvent, moment}
use Rattle.cf_leg.specs.Heard.{opened, offers}
use Rattle.cf_leg.specs.LegValue.{Marks, LegValue, IsLeg, IsLegOf, first_told, phase_of}
use Rattle.cf_leg.specs.Timer.{armed}
use Rattle.cf_leg.specs.Told.{told, told_at, letters_sent_at, letters_sent_by_all, greeting, is_greeted, own_number, peer_number, seq_of}
use Rattle.cf_leg.specs.declared.ends.Phase.TheVariants as phase
use Rattle.cf_leg.specs.declared.ends.Role.{Role}
use Rattle.cf_leg.specs.declared.ends.Role.TheVariants as role
use Rattle.cf_leg.specs.declared.ends.Advertised.{Advertised}

-- ---- a leg that greeted
made_parts : (o g : Bool) → phase.Made ≡ phase_of o g → (o ≡ false) × (g ≡ false)
made_parts true g h = absurd (false≢true (ap is_greeted_phase h))
made_parts false true h = absurd (false≢true (ap is_greeted_phase h))
made_parts false false h = (refl, refl)

none_of : (o : Option PacketValue) → is_some o ≡ false → o ≡ None
none_of None h = refl
none_of (Some p) h = absurd (true≢false h)

module _ (leg : LegValue) (i : IsLeg leg) (w : IsWindow leg.window) (m : Marks) (now number : ℕ) (e : LegEvent) (es : List LegEvent)
    (made : leg.phase ≡ phase.Made) (own : IsOwn leg.ends.role number) (at : now ≡ moment e) (h : IsLegOf leg m (record e { came = Nothing; ending = Unspoken } ∷ es)) where
  parts : (opened leg.ends.role (record e { came = Nothing; ending = Unspoken } ∷ es) ≡ false) × (is_greeted (record e { came = Nothing; ending = Unspoken } ∷ es) ≡ false)
  parts = made_parts (opened leg.ends.role (record e { came = Nothing; ending = Unspoken } ∷ es)) (is_greeted (record e { came = Nothing; ending = Unspoken } ∷ es)) (sym made ∙ h.of_phase)

  closed : opened leg.ends.role es ≡ false
  closed = sym (or-false (opened leg.ends.role es)) ∙ parts.0

  ungreeted : is_greeted es ≡ false
  ungreeted = sym (greeted_idle e.tick e.ticked e.fired es) ∙ parts.1

  none : greeting es ≡ None
  none = none_of (greeting es) ungreeted

  greets : is_greeted (record e { came = Greeting (greeting_as leg.ends number leg.other leg.ends.role); ending = Unspoken } ∷ es) ≡ true
  greets = ap (λ (o : Option PacketValue). is_some (option_or o (Some (greeting_as leg.ends number leg.other leg.ends.role)))) none

  told_zero : told_at leg.ends.role es e ≡ record { base = 0; edge = 0 }
  told_zero = sym (parts_told leg.base leg.window.edge 0 0 (told leg.ends.role (record e { came = Nothing; ending = Unspoken } ∷ es)) h.of_base h.of_edge)
      ∙ parts_told leg.base leg.window.edge 0 0 (record { base = 0; edge = 0 }) (omega (arith, i.base, w.base, i.early made)) (i.early made)

  own_is : (r : Role) → IsOwn r number → number ≡ own_number r (record e { came = Greeting (greeting_as leg.ends number leg.other r); ending = Unspoken } ∷ es)
  own_is (role.Active k) o = o
  own_is (role.Passive other mss) o = sym (ap (λ (g : Option PacketValue). seq_of (option_or g (Some (greeting_as leg.ends number leg.other (role.Passive other mss))))) none)

  peer_is : (r : Role) (p : PacketValue) → peer_number r (record e { came = Nothing; ending = Unspoken } ∷ es) ≡ peer_number r (record e { came = Greeting p; ending = Unspoken } ∷ es)
  peer_is (role.Active k) p = refl
  peer_is (role.Passive other mss) p = refl

  mss_is : (r : Role) (p : PacketValue) → peer_mss r (record e { came = Nothing; ending = Unspoken } ∷ es) ≡ peer_mss r (record e { came = Greeting p; ending = Unspoken } ∷ es)
  mss_is (role.Active k) p = refl
  mss_is (role.Passive other mss) p = refl

  right : (r : Role) → IsOwn r number → leg.other ≡ peer_number r es → IsGreeting leg.ends r (greeting_as leg.ends number leg.other r)
  right (role.Active k) o n = ap (λ (x : ℕ). syn leg.ends x) o
  right (role.Passive other mss) o n = ap (λ (x : ℕ). syn_ack_for leg.ends x number) n

  told_first : told leg.ends.role (record e { came = Greeting (greeting_as leg.ends number leg.other leg.ends.role); ending = Unspoken } ∷ es) ≡ first_told leg.ends.role
  told_first = greeting_tells leg.ends leg.ends.role (record e { came = Greeting (greeting_as leg.ends number leg.other leg.ends.role); ending = Unspoken } ∷ es) _ (told_at leg.ends.role es e)
      (right leg.ends.role own (h.of_other ∙ peer_idle e.tick e.ticked e.fired es leg.ends.role)) (ap (λ (t : Advertised). t.base) told_zero) (λ _. inl told_zero)

  base_first : (r : Role) → leg.base ≡ (first_told r).base
  base_first (role.Active k) = omega (arith, i.base, w.base, i.early made)
  base_first (role.Passive other mss) = omega (arith, i.base, w.base, i.early made)

  edge_first : (r : Role) → (window_by r leg.window).edge ≡ (first_told r).edge
  edge_first (role.Active k) = i.early made
  edge_first (role.Passive other mss) = refl

  window_first : (r : Role) (os : List Offer) → IsWindowOf leg.window os → IsWindowOf (window_by r leg.window) os
  window_first (role.Active k) os x = x
  window_first (role.Passive other mss) os x = record { taken = x.taken; is_taken = x.is_taken; ended = x.ended; count = x.count; pending = x.pending; ahead = x.ahead }

  carries : (r : Role) (c : ℕ) (o : ℕ) → c ≡ letters_sent_by_all o c (greeting_as leg.ends number leg.other r ∷ [])
  carries (role.Active k) c o = refl
  carries (role.Passive other mss) c o = refl

  pub greeted_stands : IsLegOf (greeted_as leg number now) m (record e { came = Greeting (greeting_as leg.ends number leg.other leg.ends.role); ending = Unspoken } ∷ es)
  greeted_stands = record {
    of_right = (record { over = h.of_right.0.over; fired = h.of_right.0.fired; came = (right leg.ends.role own (h.of_other ∙ peer_idle e.tick e.ticked e.fired es leg.ends.role), ungreeted); ending = tt }, h.of_right.1);
    of_phase = sym (ap (λ (b : Bool). phase_of (opened leg.ends.role es || false) b) greets ∙ ap (λ (b : Bool). phase_of b true) parts.0);
    of_own = own_is leg.ends.role own;
    of_other = h.of_other ∙ peer_is leg.ends.role (greeting_as leg.ends number leg.other leg.ends.role);
    of_mss = h.of_mss ∙ ap send_mss (mss_is leg.ends.role (greeting_as leg.ends number leg.other leg.ends.role));
    of_base = base_first leg.ends.role ∙ ap (λ (t : Advertised). t.base) (sym told_first);
    of_edge = edge_first leg.ends.role ∙ ap (λ (t : Advertised). t.edge) (sym told_first);
    of_first = λ o g. told_first;
    of_window = window_first leg.ends.role (offers leg.ends.role es) h.of_window;
    of_sent = h.of_sent ∙ carries leg.ends.role (letters_sent_at leg.ends.role es e) (own_number leg.ends.role (record e { came = Greeting (greeting_as leg.ends number leg.other leg.ends.role); ending = Unspoken } ∷ es));
    of_edge_shown = h.of_edge_shown;
    of_shown = h.of_shown;
    of_acked = h.of_acked;
    of_owes = h.of_owes;
    of_running = h.of_running;
    of_deadline = rw (at, arms) refl;
    of_fired = h.of_fired;
  }
    where
      arms : (armed leg.ends.role (record e { came = Greeting (greeting_as leg.ends number leg.other leg.ends.role); ending = Unspoken } ∷ es) && not (armed leg.ends.role es)) ≡ true
      arms = rw (closed, greets, ungreeted) refl

pub greeted_of : (failed : Bool) (leg mid : LegValue) (now number : ℕ) (old new : DeskValue) → IsLeg leg → IsWindow leg.window → leg.phase ≡ phase.Made → IsOwn leg.ends.role number
    → mid ≡ greeted_as leg number now → GetsSegments failed now (greeting_of mid ∷ []) old new → Greeted now number leg mid old new failed
greeted_of failed leg mid now number old new i w made own is gets = record {
  gets = subst (λ (l : LegValue). GetsSegments failed now (greeting_of l ∷ []) old new) is gets;
  stands = λ m e es at h. subst (λ (l : LegValue). IsLegOf l m (record e { came = Greeting (greeting_by leg number); ending = Unspoken } ∷ es)) (sym is) (greeted_stands leg i w m now number e es made own at h);
}

-- ---- a leg whose bytes were consumed
pub consumed_stands : (leg new : LegValue) → new ≡ record leg { window = new.window } → new.window.edge ≡ leg.window.edge
    → ((os : List Offer) → IsWindowOf leg.window os → IsWindowOf new.window os) → (m : Marks) (es : List LegEvent) → IsLegOf leg m es → IsLegOf new m es
consumed_stands leg new is edge w m es h = subst (λ (l : LegValue). IsLegOf l m es) (sym is) (record {
  of_right = h.of_right;
  of_phase = h.of_phase;
  of_own = h.of_own;
  of_other = h.of_other;
  of_mss = h.of_mss;
  of_base = h.of_base;
  of_edge = edge ∙ h.of_edge;
  of_first = h.of_first;
  of_window = w (offers leg.ends.role es) h.of_window;
  of_sent = h.of_sent;
  of_edge_shown = h.of_edge_shown;
  of_shown = h.of_shown;
  of_acked = h.of_acked;
  of_owes = h.of_owes;
  of_running = h.of_running;
  of_deadline = h.of_deadline;
  of_fired = h.of_fired;
})
