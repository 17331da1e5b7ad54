-- A leg that was cut.
use Rattle.std.proofs.Common.{◌≡◌, ℕ, List, [], ◌∷◌, ◌++◌, refl, sym, ◌∙◌, ap, subst}
use Rattle.cf_outq.specs.SendQueue.{Queue}
use Rattle.cf_packet.specs.Packet.{PacketValue}
use Rattle.cf_stream.specs.Stream.{letter_count}
use Rattle.cf_leg.proofs.Events.{open_is, taken_is, open_is_greeted, own_same, peer_same}
use Rattle.cf_leg.proofs.Hears.{phase_greeted}
use Rattle.cf_leg.specs.Calls.{is_greeted_phase, rst_as, rst_of}
use Rattle.cf_leg.specs.Emits.{Greets, IsGreeting, IsRight, cut_packet}
use Rattle.cf_leg.specs.Event.{Came, Nothing, Greeting, Packet, Unspoken, Cut, LegEvent, greeted_by}
use Rattle.cf_leg.specs.Heard.{opened}
use Rattle.cf_leg.specs.LegValue.{LegValue, IsLegOf, marks}
use Rattle.cf_leg.specs.Told.{letters_sent_at, letters_sent_by, letters_sent_by_all, is_greeted, own_number, peer_number}
use Rattle.cf_leg.specs.declared.ends.Ends.{Ends}
use Rattle.cf_leg.specs.declared.ends.Role.{Role}
use Rattle.cf_leg.specs.declared.ends.Role.TheVariants as role

-- a greeting carries no letter
greeting_carries : (ends : Ends) (r : Role) (p : PacketValue) → IsGreeting ends r p → (o c : ℕ) → letters_sent_by o c p ≡ c
greeting_carries ends (role.Active n) p k o c = subst (λ (x : PacketValue). letters_sent_by o c x ≡ c) (sym k) refl
greeting_carries ends (role.Passive n mss) p k o c = subst (λ (x : PacketValue). letters_sent_by o c x ≡ c) (sym k) refl

came_carries : (ends : Ends) (es : List LegEvent) (a : Came) → Greets ends es a → (o c : ℕ) → letters_sent_by_all o c (greeted_by a ++ []) ≡ c
came_carries ends es Nothing g o c = refl
came_carries ends es (Packet p) g o c = refl
came_carries ends es (Greeting p) g o c = greeting_carries ends ends.role p g.0 o c

module _ (leg : LegValue) (q : Queue) (e : LegEvent) (es : List LegEvent) (h : IsLegOf leg (marks q) (record e { ending = Unspoken } ∷ es)) (out : PacketValue) where
  sent_is : q.sent ≡ letters_sent_at leg.ends.role es e
  sent_is = h.of_sent ∙ came_carries leg.ends es e.came h.of_right.0.came (own_number leg.ends.role (record e { ending = Unspoken } ∷ es)) (letters_sent_at leg.ends.role es e)

  greeted_is : is_greeted_phase leg.phase ≡ is_greeted (record e { ending = Unspoken } ∷ es)
  greeted_is = ap is_greeted_phase h.of_phase ∙ phase_greeted (opened leg.ends.role (record e { ending = Unspoken } ∷ es)) (is_greeted (record e { ending = Unspoken } ∷ es)) (open_is_greeted leg.ends.role (record e { ending = Unspoken } ∷ es))

  pub rst_is : rst_of leg q ≡ cut_packet leg.ends (record e { ending = Cut out } ∷ es) (letters_sent_at leg.ends.role es e) (letter_count h.of_window.taken) leg.ends.role
  rst_is = by leg.ends.role h.of_own h.of_other
    where
      by : (r : Role) → leg.own ≡ own_number r (record e { ending = Unspoken } ∷ es) → leg.other ≡ peer_number r (record e { ending = Unspoken } ∷ es)
          → rst_as leg q r ≡ cut_packet leg.ends (record e { ending = Cut out } ∷ es) (letters_sent_at leg.ends.role es e) (letter_count h.of_window.taken) r
      by (role.Active n) o p = rw (open_is h, o, sent_is, ← taken_is h, h.of_other, peer_same (record e { ending = Unspoken }) es (Cut out) leg.ends.role) refl
      by (role.Passive n mss) o p = rw (greeted_is, h.of_own, own_same (record e { ending = Unspoken }) es (Cut out) leg.ends.role, sent_is, ← taken_is h, p) refl

pub cut_right : (leg : LegValue) (q : Queue) (e : LegEvent) (es : List LegEvent) → IsLegOf leg (marks q) (record e { ending = Unspoken } ∷ es) → IsRight leg.ends es (record e { ending = Cut (rst_of leg q) })
cut_right leg q e es h = record {
  over = h.of_right.0.over;
  fired = h.of_right.0.fired;
  came = h.of_right.0.came;
  ending = record { taken = h.of_window.taken; is_taken = h.of_window.is_taken; rst = rst_is leg q e es h (rst_of leg q) };
}
