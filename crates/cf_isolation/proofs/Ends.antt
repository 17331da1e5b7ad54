-- Where the packets of a session go: between its two endpoints.
use Rattle.std.proofs.Common.{◌≡◌, List, refl, sym, subst}
use Rattle.cf_isolation.proofs.Common.{AllRight, Endpoint, Ends, IsRight, LegEvent, PacketValue, Role}
use Rattle.cf_leg.specs.Emits.{IsGreeting}
use Rattle.cf_isolation.proofs.Writing.{Sends, sends_all}
use Rattle.cf_leg.specs.declared.ends.Role.TheVariants as role

abbrev pub GoesFrom : (source dest : Endpoint) → PacketValue → Type 0
GoesFrom source dest p = (p.source ≡ source) × (p.dest ≡ dest)

greets : (ends : Ends) (r : Role) (p : PacketValue) → IsGreeting ends r p → GoesFrom ends.own ends.peer p
greets ends (role.Active own) p h = subst (GoesFrom ends.own ends.peer) (sym h) (refl, refl)
greets ends (role.Passive other mss) p h = subst (GoesFrom ends.own ends.peer) (sym h) (refl, refl)

-- all that an end sends
pub leg_goes : (ends : Ends) (es : List LegEvent) (e : LegEvent) → AllRight ends es → IsRight ends es e → Sends (GoesFrom ends.own ends.peer) e
leg_goes ends es e h r =
    sends_all ends (GoesFrom ends.own ends.peer) (λ xs t n s short. (refl, refl)) (λ p g. greets ends ends.role p g)
    (λ number ack. (refl, refl)) (λ number. (refl, refl)) es e h r
