-- Sessions of one run, and of two.
use Rattle.std.proofs.Common.{◌≡◌, ◌∷◌, [], ℕ, List, refl, subst}
use Rattle.cf_session.specs.Event.{AreEvents as AreSessionEvents}
use Rattle.cf_session.specs.Laws.{AreUncutBefore, EventsAreFixed, HasOneStream as SessionHasOneStream}
use Rattle.cf_session.specs.Session.{Flow, SessionEvent}
use Rattle.cf_run.specs.Sessions.{HasEvents, SendsOneStream, HasRightEvents, SessionsAreIsolated, SessionsHaveOneStream, sessions_of}
use Rattle.cf_run.specs.Table.{Session}
use Rattle.cf_run.proofs.Sessions.{each-at, each-map, sessions_right}

pub right_events : (limit : ℕ) (f : Flow) (es : List SessionEvent) → HasEvents limit f es → AreSessionEvents f limit es
right_events limit f [] h = absurd h
right_events limit f (e ∷ es) h = h.0

pub uncut_before : (limit : ℕ) (f : Flow) (es : List SessionEvent) → HasEvents limit f es → AreUncutBefore es
uncut_before limit f [] h = absurd h
uncut_before limit f (e ∷ es) h = h.1

pub one_stream : SessionHasOneStream → SessionsHaveOneStream
one_stream law assets limit es small h =
    each-map (HasRightEvents limit) SendsOneStream
    (λ s right taken. law s.flow limit s.events taken small (right_events limit s.flow s.events right) (uncut_before limit s.flow s.events right))
    (sessions_of es) (sessions_right assets limit es h)

same_session : (s t : Session) → s.flow ≡ t.flow → s.events ≡ t.events → s ≡ t
same_session s t p q = rw (p, q) refl

pub isolated : EventsAreFixed → SessionsAreIsolated
isolated law assets limit es ds he hd i j s t is js alike =
    let a = right_events limit s.flow s.events (each-at (HasRightEvents limit) (sessions_of es) i s (sessions_right assets limit es he) is) in
    let b = right_events limit t.flow t.events (each-at (HasRightEvents limit) (sessions_of ds) j t (sessions_right assets limit ds hd) js) in
    same_session s t alike.flow (law t.flow limit s.events t.events (subst (λ f. AreSessionEvents f limit s.events) alike.flow a) b alike.same)
