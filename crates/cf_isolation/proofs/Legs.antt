-- Each leg of a session has right events.
use Rattle.std.proofs.Common.{ℕ, inl, inr, List, [], ◌∷◌}
use Rattle.cf_isolation.proofs.Common.{AllRight, AreRight, Flow, SessionEvent, client_ends, controller_ends}
use Rattle.cf_session.specs.Event.{AreEvents, IsEvent}
use Rattle.cf_session.specs.Session.{clients, controllers}

pub record LegsRight (f : Flow) (es : List SessionEvent) : Type 0 where
  pub controller : AllRight (controller_ends f) (controllers es)
  pub client : AllRight (client_ends f) (clients es)

pub are_right : (f : Flow) (limit : ℕ) (es : List SessionEvent) (e : SessionEvent) → IsEvent f limit es e → AreRight f es e
are_right f limit [] e h = h.right
are_right f limit (d ∷ es) e (inl h) = h.right
are_right f limit (d ∷ es) e (inr h) = h.5.right

pub legs_right : (f : Flow) (limit : ℕ) (es : List SessionEvent) → AreEvents f limit es → LegsRight f es
legs_right f limit [] h = record { controller = tt; client = tt }
legs_right f limit (e ∷ es) h =
    let r = are_right f limit es e h.0 in
    let before = legs_right f limit es h.1 in
    record { controller = (r.controller, before.controller); client = (r.client, before.client) }
