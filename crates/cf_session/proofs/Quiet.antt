-- Before a session is due the first half of an event does nothing.
use Rattle.std.proofs.Common.{◌≡◌, ℕ, ◌<◌, min, false, ◌∷◌, Option, Some, None, refl, sym, ap, ◌∙◌, arith}
use Rattle.std.proofs.lemmas.Bool.Decides.{nat_tests}
use Rattle.cf_leg.specs.Calls.{AreQuietBeforeDue as LegsAreQuiet, due_of as leg_due}
use Rattle.cf_session.proofs.Ticks.{client_ticks, controller_ticks, live_stands, live_told, ticks_live}
use Rattle.cf_session.specs.Session.{is_expired, is_past}
use Rattle.cf_session.specs.Stands.{AreQuietBeforeDue, expiry_of}

below_all : (now a b c : ℕ) → now < min a (min b c) → (now < a) × (now < b) × (now < c)
below_all now a b c h = grind (arith, nat_tests, h)

not_past : (closed : Option ℕ) (now : ℕ) → now < expiry_of closed → is_past closed now ≡ false
not_past None now h = refl
not_past (Some moment) now h = grind (arith, nat_tests, h)

pub quiet_before : LegsAreQuiet → AreQuietBeforeDue
quiet_before law f es e s now t stands h =
    let before = below_all now (expiry_of s.closed) (leg_due s.controller) (leg_due s.client) h in
    let early : is_expired f (e ∷ es) now ≡ false = ap (λ o. is_past o now) (sym stands.closed) ∙ not_past s.closed now before.0 in
    let a = controller_ticks stands t t (law s.controller s.to_controller now t.packets before.1) refl refl refl in
    let b = client_ticks stands t t (law s.client s.to_client now t.packets before.2) refl refl refl in
    let told = live_told f es e now s stands early (sym a.answer) (sym b.answer) a.right b.right t t t a.told b.told in
    let next = live_stands f es e now s stands early (sym a.answer) (sym b.answer) a.right b.right s.client s.controller s.to_client s.to_controller b.stands a.stands
    stands.parts.to_client stands.parts.to_controller refl refl in
    ticks_live f (e ∷ es) now s t t s.closed _ told next next.closed
