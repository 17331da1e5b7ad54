-- The events of a session are fixed by what they are given.
use Rattle.cf_lane.specs.Caller.{newcomer}
use Rattle.std.proofs.Common.{◌≡◌, ℕ, ◌+◌, ◌&&◌, inl, inr, Bool, true, false, not, List, [], ◌∷◌, ◌++◌, map, Option, Some, None, refl, sym, ap, ◌∙◌, subst}
use Rattle.std.proofs.lemmas.Bool.{false≢true}
use Rattle.std.proofs.lemmas.Option.{same_Some}
use Rattle.std.specs.Option.{is_none}
use Rattle.cf_audit.specs.declared.CutReason.{CutReason}
use Rattle.cf_lane.specs.History.{Element, taken}
use Rattle.cf_lane.specs.Laws.{HasOneJudgement}
use Rattle.cf_leg.specs.Asked.{AllAsked, SameCame, SameEnding}
use Rattle.cf_leg.specs.Emits.{AllRight, IsRight, fired_at}
use Rattle.cf_leg.specs.Event.{Came, Cut, Ending, Greeting, LegEvent, Nothing, Packet, Spoke, Unspoken}
use Rattle.cf_leg.specs.Heard.{opening}
use Rattle.cf_leg.specs.declared.Ends.{Ends}
use Rattle.cf_leg.specs.declared.Role.{Role}
use Rattle.cf_packet.specs.Packet.{PacketValue}
use Rattle.cf_policy.specs.Site.{SiteValue}
use Rattle.cf_stream.proofs.Taken.{same_taken}
use Rattle.cf_stream.specs.Stream.{Stream}
use Rattle.cf_view.specs.declared.Endpoint.{Endpoint}
use Rattle.cf_view.specs.declared.Side.{Side}
use Rattle.cf_view.specs.declared.Side.TheVariants as side
use Rattle.cf_session.proofs.Fed.{fed_fixed}
use Rattle.cf_session.specs.Cuts.{clock_cut, gives_up, packet_cut, resets}
use Rattle.cf_session.specs.Event.{AreEvents, AreRight, EndsPacket, EndsTick, IsBeginning, IsEvent, IsPacket, IsTick, came_client}
use Rattle.cf_session.specs.Laws.{Given, given, packet_in}
use Rattle.cf_session.specs.Session.{Flow, SessionEvent, client_ends, client_of, clients, controller_ends, controllers, has_room, history}
use Rattle.cf_session.specs.Turn.{ends_of, leg_in}
use Rattle.cf_session.specs.Work.{Work, Works, fed_at, work_by}

-- ---- each leg

pub event_right : (f : Flow) (limit : ℕ) (es : List SessionEvent) (e : SessionEvent) → IsEvent f limit es e → AreRight f es e
event_right f limit [] e h = h.right
event_right f limit (d ∷ es) e (inl h) = h.right
event_right f limit (d ∷ es) e (inr h) = h.5.right

pub legs_right : (f : Flow) (limit : ℕ) (es : List SessionEvent) (s : Side) → AreEvents f limit es → AllRight (ends_of f s) (map (leg_in s) es)
legs_right f limit [] s h = tt
legs_right f limit (e ∷ es) side.Client h = ((event_right f limit es e h.0).client, legs_right f limit es side.Client h.1)
legs_right f limit (e ∷ es) side.Controller h = ((event_right f limit es e h.0).controller, legs_right f limit es side.Controller h.1)

abbrev pub LegLaw : Type 0
LegLaw = (ends : Ends) (es fs : List LegEvent) → AllRight ends es → AllRight ends fs → AllAsked es fs → es ≡ fs

abbrev pub LegIsFixed : Ends → List LegEvent → Type 0
LegIsFixed ends es = (e d : LegEvent) → IsRight ends es e → IsRight ends es d → e.tick ≡ d.tick → e.ticked ≡ d.ticked → e.came ≡ d.came → SameEnding e.ending d.ending → e ≡ d

abbrev pub LegsAreFixed : Flow → List SessionEvent → Type 0
LegsAreFixed f es = LegIsFixed (controller_ends f) (controllers es) × LegIsFixed (client_ends f) (clients es)

came_self : (c : Came) → SameCame c c
came_self Nothing = tt
came_self (Greeting p) = refl
came_self (Packet p) = refl

ending_self : (x : Ending) → SameEnding x x
ending_self Unspoken = tt
ending_self (Spoke w r outs) = (refl, refl)
ending_self (Cut p) = tt

asked_self : (es : List LegEvent) → AllAsked es es
asked_self [] = tt
asked_self (e ∷ es) = (record { tick = refl; ticked = refl; came = came_self e.came; ending = ending_self e.ending }, asked_self es)

leg_fixed : (law : LegLaw) (ends : Ends) (es : List LegEvent) → AllRight ends es → LegIsFixed ends es
leg_fixed law ends es all e d h g a b c n =
    let same = law ends (e ∷ es) (d ∷ es) (h, all) (g, all) (record { tick = a; ticked = b; came = subst (λ x. SameCame e.came x) c (came_self e.came); ending = n }, asked_self es) in
    cc

legs_fixed : (law : LegLaw) (f : Flow) (limit : ℕ) (es : List SessionEvent) → AreEvents f limit es → LegsAreFixed f es
legs_fixed law f limit es h =
    (leg_fixed law (controller_ends f) (controllers es) (legs_right f limit es side.Controller h), leg_fixed law (client_ends f) (clients es) (legs_right f limit es side.Client h))

abbrev pub WorkIsOne : Type 0
WorkIsOne = (site : SiteValue) (client : Endpoint) (h : List Element) (w v : Work) → Works site client h w → Works site client h v → w ≡ v

pub work_is_one : HasOneJudgement → WorkIsOne
work_is_one one site client h w v a b = a.is_work ∙ ap (work_by site client) (one site (newcomer client.address) h a.judged b.judged a.are_judged b.are_judged) ∙ sym b.is_work

same_event : (a b : SessionEvent) → a.controller ≡ b.controller → a.client ≡ b.client → a.fed ≡ b.fed → a.work ≡ b.work → a.cut ≡ b.cut → a ≡ b
same_event a b p q r s t = rw (p, q, r, s, t) refl

-- a firing depends on the clock call alone
same_firing : (r : Role) (es : List LegEvent) (a b : LegEvent) → a.tick ≡ b.tick → a.ticked ≡ b.ticked → gives_up r es a ≡ gives_up r es b
same_firing r es a b p q = rw (p, q) refl

same_tick_ending : (c : Option CutReason) (x y : Ending) → EndsTick c x → EndsTick c y → SameEnding x y
same_tick_ending None x y h g = subst (λ z. SameEnding z y) (sym h) (subst (SameEnding Unspoken) (sym g) tt)
same_tick_ending (Some r) x y h g = subst (λ z. SameEnding z y) (sym h.1) (subst (SameEnding (Cut h.0)) (sym g.1) tt)

module _ (f : Flow) (es : List SessionEvent) (leg : LegsAreFixed f es) (tick : ℕ) (a b : SessionEvent) (h : IsTick f es tick a) (g : IsTick f es tick b) where
  controller_firing : gives_up (controller_ends f).role (controllers es) a.controller ≡ gives_up (controller_ends f).role (controllers es) b.controller
  controller_firing = same_firing (controller_ends f).role (controllers es) a.controller b.controller (h.controller_tick ∙ sym g.controller_tick) (h.controller_ticked ∙ sym g.controller_ticked)

  client_calls : a.client.ticked ≡ b.client.ticked
  client_calls = h.client_ticked ∙ ap not controller_firing ∙ sym g.client_ticked

  client_firing : gives_up (client_ends f).role (clients es) a.client ≡ gives_up (client_ends f).role (clients es) b.client
  client_firing = same_firing (client_ends f).role (clients es) a.client b.client (h.client_tick ∙ sym g.client_tick) client_calls

  same_cut : a.cut ≡ b.cut
  same_cut = h.cut ∙ (let e : clock_cut f es a ≡ clock_cut f es b = rw (controller_firing, client_firing) refl in e) ∙ sym g.cut

  -- one first half
  pub tick_is_fixed : a ≡ b
  tick_is_fixed =
      same_event a b
      (leg.0 a.controller b.controller h.right.controller g.right.controller (h.controller_tick ∙ sym g.controller_tick) (h.controller_ticked ∙ sym g.controller_ticked)
      (h.controller_came ∙ sym g.controller_came) (same_tick_ending b.cut a.controller.ending b.controller.ending (subst (λ c. EndsTick c a.controller.ending) same_cut h.controller_ending) g.controller_ending))
      (leg.1 a.client b.client h.right.client g.right.client (h.client_tick ∙ sym g.client_tick) client_calls
      (h.client_came ∙ sym g.client_came) (same_tick_ending b.cut a.client.ending b.client.ending (subst (λ c. EndsTick c a.client.ending) same_cut h.client_ending) g.client_ending))
      (h.fed ∙ sym g.fed) (h.work ∙ sym g.work) same_cut

-- ---- the second half

same_fired : (ends : Ends) (es : List LegEvent) (a b : LegEvent) → IsRight ends es a → IsRight ends es b → a.tick ≡ b.tick → a.ticked ≡ b.ticked → a.fired ≡ b.fired
same_fired ends es a b h g p q = h.fired ∙ (let e : fired_at ends es a ≡ fired_at ends es b = rw (p, q) refl in e) ∙ sym g.fired

same_packet_ending : (c : Option CutReason) (w : Stream) (r : Bool) (x y : Ending) → EndsPacket c w r x → EndsPacket c w r y → SameEnding x y
same_packet_ending None w r x y h g = subst (λ z. SameEnding z y) (sym h.1) (subst (SameEnding (Spoke w r h.0)) (sym g.1) (refl, refl))
same_packet_ending (Some c) w r x y h g = subst (λ z. SameEnding z y) (sym h.1) (subst (SameEnding (Cut h.0)) (sym g.1) tt)

-- a leg that is greeted, or to which nothing comes, is not reset
no_reset : (f : Flow) (r : Role) (es : List LegEvent) (e : LegEvent) (p : PacketValue) (b : Bool) → e.came ≡ came_client f side.Controller p b → resets r es e e.came ≡ false
no_reset f r es e p true c = ap (resets r es e) c
no_reset f r es e p false c = ap (resets r es e) c

module _ (f : Flow) (limit : ℕ) (es : List SessionEvent) (before : SessionEvent) (p : PacketValue) (a b : SessionEvent) where
  -- what is taken of a side is fixed by what came on its leg
  own_taken : (s : Side) → IsPacket f limit es before s p a → IsPacket f limit es before s p b → a.client.fired ≡ b.client.fired → a.controller.fired ≡ b.controller.fired → taken s (history (a ∷ es)) ≡ taken s (history (b ∷ es))
  own_taken side.Client h g client controller =
      same_taken _ _ _ h.taken.client (rw (client, h.client_came ∙ sym g.client_came) g.taken.client)
  own_taken side.Controller h g client controller =
      same_taken _ _ _ h.taken.controller (rw (controller, h.controller_came ∙ sym g.controller_came) g.taken.controller)

  client_reset : (s : Side) → IsPacket f limit es before s p a → IsPacket f limit es before s p b → a.client.fired ≡ b.client.fired →
      resets (client_ends f).role (clients es) a.client a.client.came ≡ resets (client_ends f).role (clients es) b.client b.client.came
  client_reset side.Client h g fired = rw (fired, h.client_came, g.client_came) refl
  client_reset side.Controller h g fired = no_reset f (client_ends f).role (clients es) a.client p _ h.client_came ∙ sym (no_reset f (client_ends f).role (clients es) b.client p _ g.client_came)

module _ (one : WorkIsOne) (f : Flow) (limit : ℕ) (es : List SessionEvent) (leg : LegsAreFixed f es) (before : SessionEvent) (s : Side) (p : PacketValue) (a b : SessionEvent)
    (h : IsPacket f limit es before s p a) (g : IsPacket f limit es before s p b) where
  client_on : (a.client.tick ≡ b.client.tick) × (a.client.ticked ≡ b.client.ticked)
  client_on = (h.client_on.0 ∙ sym g.client_on.0, h.client_on.1 ∙ sym g.client_on.1)

  controller_given : (a.controller.tick ≡ b.controller.tick) × (a.controller.ticked ≡ b.controller.ticked) × (a.controller.came ≡ b.controller.came)
  controller_given = (h.controller_on.0 ∙ sym g.controller_on.0, h.controller_on.1 ∙ sym g.controller_on.1, h.controller_came ∙ sym g.controller_came)

  client_fired : a.client.fired ≡ b.client.fired
  client_fired = same_fired (client_ends f) (clients es) a.client b.client h.right.client g.right.client client_on.0 client_on.1

  controller_fired : a.controller.fired ≡ b.controller.fired
  controller_fired = same_fired (controller_ends f) (controllers es) a.controller b.controller h.right.controller g.right.controller controller_given.0 controller_given.1

  fed_same : a.fed ≡ b.fed
  fed_same =
      fed_fixed (b.client.tick + 1) s (history es) a.fed b.fed h.fed.0 g.fed.0 (h.fed.1 ∙ ap (λ t. fed_at (t + 1) s h.fed.0) client_on.0) g.fed.1 h.unended g.unended
      (own_taken f limit es before p a b s h g client_fired controller_fired)

  work_same : a.work ≡ b.work
  work_same = one f.site (client_of f) (history (b ∷ es)) a.work b.work (subst (λ x. Works f.site (client_of f) (history es ++ x) a.work) fed_same h.work) g.work

  cut_same : a.cut ≡ b.cut
  cut_same =
      let reset = client_reset f limit es before p a b s h g client_fired in
      h.cut ∙ (let e : packet_cut f limit es a ≡ packet_cut f limit es b = rw (reset, controller_fired, controller_given.2, work_same, fed_same) refl in e) ∙ sym g.cut

  opens_same : opening (controller_ends f).role (controllers es) a.controller ≡ opening (controller_ends f).role (controllers es) b.controller
  opens_same = rw (controller_fired, controller_given.2) refl

  client_same : a.client.came ≡ b.client.came
  client_same = h.client_came ∙ (let e : came_client f s p (opening (controller_ends f).role (controllers es) a.controller && is_none a.cut) ≡ came_client f s p (opening (controller_ends f).role (controllers es) b.controller && is_none b.cut) = rw (opens_same, cut_same) refl in e) ∙ sym g.client_came

  room_same : has_room f (a ∷ es) ≡ has_room f (b ∷ es)
  room_same = rw (client_fired, controller_fired, client_same, controller_given.2, work_same) refl

  -- one second half
  pub packet_is_fixed : a ≡ b
  packet_is_fixed =
      let x = rw (room_same, work_same, cut_same) at h.controller_ending in
      let y = rw (room_same, work_same, cut_same) at h.client_ending in
      same_event a b
      (leg.0 a.controller b.controller h.right.controller g.right.controller controller_given.0 controller_given.1 controller_given.2
      (same_packet_ending b.cut b.work.to_controller (has_room f (b ∷ es)) a.controller.ending b.controller.ending x g.controller_ending))
      (leg.1 a.client b.client h.right.client g.right.client client_on.0 client_on.1 client_same
      (same_packet_ending b.cut b.work.to_client (has_room f (b ∷ es)) a.client.ending b.client.ending y g.client_ending))
      fed_same work_same cut_same

-- ---- the beginning

pub beginning_is_fixed : (f : Flow) (tick : ℕ) (a b : SessionEvent) → IsBeginning f tick a → IsBeginning f tick b → a ≡ b
beginning_is_fixed f tick a b h g = same_event a b (h.controller ∙ sym g.controller) (h.client ∙ sym g.client) (h.fed ∙ sym g.fed) (h.work ∙ sym g.work) (h.cut ∙ sym g.cut)

-- ---- all events of a session

-- what an event is given, by its kind
none_greeting : (f : Flow) (p : PacketValue) (b : Bool) → packet_in (came_client f side.Controller p b) ≡ None
none_greeting f p true = refl
none_greeting f p false = refl

abbrev packets : Side → PacketValue → Option PacketValue × Option PacketValue
packets side.Client p = (Some p, None)
packets side.Controller p = (None, Some p)

abbrev given_packets : SessionEvent → Option PacketValue × Option PacketValue
given_packets e = ((given e).from_client, (given e).from_controller)

of_packet : (f : Flow) (limit : ℕ) (es : List SessionEvent) (before : SessionEvent) (s : Side) (p : PacketValue) (a : SessionEvent) → IsPacket f limit es before s p a → given_packets a ≡ packets s p
of_packet f limit es before side.Client p a h = rw (h.client_came, h.controller_came) refl
of_packet f limit es before side.Controller p a h =
    let P : Option PacketValue → Option PacketValue × Option PacketValue = λ x. (x, packet_in a.controller.came) in
    let Q : Option PacketValue → Option PacketValue × Option PacketValue = λ y. (None, y) in
    ap P (ap packet_in h.client_came ∙ none_greeting f p _) ∙ ap Q (ap packet_in h.controller_came)

of_tick : (f : Flow) (es : List SessionEvent) (tick : ℕ) (a : SessionEvent) → IsTick f es tick a → given_packets a ≡ (None, None)
of_tick f es tick a h = rw (h.client_came, h.controller_came) refl

abbrev has_one : Option PacketValue × Option PacketValue → Bool
has_one (None, None) = false
has_one _ = true

one_of : (s : Side) (p : PacketValue) → has_one (packets s p) ≡ true
one_of side.Client p = refl
one_of side.Controller p = refl

no_tick : (f : Flow) (limit : ℕ) (es es' : List SessionEvent) (tick : ℕ) (before : SessionEvent) (s : Side) (p : PacketValue) (a b : SessionEvent) → IsTick f es tick a → IsPacket f limit es' before s p b → given a ≡ given b → ⊥
no_tick f limit es es' tick before s p a b h g same =
    false≢true (sym (ap has_one (of_tick f es tick a h)) ∙ ap (λ (x : Given). has_one (x.from_client, x.from_controller)) same ∙ ap has_one (of_packet f limit es' before s p b g) ∙ one_of s p)

-- the same packet of the same side
same_packet : (s t : Side) (p q : PacketValue) → packets s p ≡ packets t q → (s ≡ t) × (p ≡ q)
same_packet side.Client side.Client p q e = (refl, same_Some p q (ap (λ (x : Option PacketValue × Option PacketValue). x.0) e))
same_packet side.Client side.Controller p q e = let d = ap (λ (x : Option PacketValue × Option PacketValue). x.0) e in cc
same_packet side.Controller side.Client p q e = let d = ap (λ (x : Option PacketValue × Option PacketValue). x.0) e in cc
same_packet side.Controller side.Controller p q e = (refl, same_Some p q (ap (λ (x : Option PacketValue × Option PacketValue). x.1) e))

two_packets : (one : WorkIsOne) (f : Flow) (limit : ℕ) (es : List SessionEvent) (leg : LegsAreFixed f es) (x y : SessionEvent) (s t : Side) (p q : PacketValue) (a b : SessionEvent) →
    IsTick f es x.client.tick x → IsTick f es y.client.tick y → IsPacket f limit es x s p a → IsPacket f limit es y t q b → given a ≡ given b → a ≡ b
two_packets one f limit es leg x y s t p q a b hx hy ha hb same =
    let ticks : x.client.tick ≡ y.client.tick = sym ha.client_on.0 ∙ ap (λ (z : Given). z.tick) same ∙ hb.client_on.0 in
    let before : x ≡ y = tick_is_fixed f es leg y.client.tick x y (subst (λ n. IsTick f es n x) ticks hx) hy in
    let packet = same_packet s t p q (sym (of_packet f limit es x s p a ha) ∙ ap (λ (z : Given). (z.from_client, z.from_controller)) same ∙ of_packet f limit es y t q b hb) in
    let h1 = subst (λ z. IsPacket f limit es z s p a) before ha in
    let h2 = subst (λ z. IsPacket f limit es y z p a) packet.0 h1 in
    let h3 = subst (λ z. IsPacket f limit es y t z a) packet.1 h2 in
    packet_is_fixed one f limit es leg y t q a b h3 hb

one_event : (one : WorkIsOne) (f : Flow) (limit : ℕ) (es : List SessionEvent) (leg : LegsAreFixed f es) (a b : SessionEvent) → IsEvent f limit es a → IsEvent f limit es b → given a ≡ given b → a ≡ b
one_event one f limit [] leg a b h g same =
    beginning_is_fixed f b.client.tick a b (subst (λ t. IsBeginning f t a) (ap (λ (x : Given). x.tick) same) h) g
one_event one f limit (e ∷ es) leg a b (inl h) (inl g) same =
    tick_is_fixed f (e ∷ es) leg b.client.tick a b (subst (λ t. IsTick f (e ∷ es) t a) (ap (λ (x : Given). x.tick) same) h) g
one_event one f limit (e ∷ es) leg a b (inl h) (inr g) same = absurd (no_tick f limit (e ∷ es) (e ∷ es) a.client.tick g.0 g.1 g.2 a b h g.5 same)
one_event one f limit (e ∷ es) leg a b (inr h) (inl g) same = absurd (no_tick f limit (e ∷ es) (e ∷ es) b.client.tick h.0 h.1 h.2 b a g h.5 (sym same))
one_event one f limit (e ∷ es) leg a b (inr h) (inr g) same = two_packets one f limit (e ∷ es) leg h.0 g.0 h.1 g.1 h.2 g.2 a b h.3 g.3 h.5 g.5 same

pub events_are_fixed : (law : LegLaw) (one : WorkIsOne) (f : Flow) (limit : ℕ) (xs ys : List SessionEvent) → AreEvents f limit xs → AreEvents f limit ys → map given xs ≡ map given ys → xs ≡ ys
events_are_fixed law one f limit [] [] h g same = refl
events_are_fixed law one f limit [] (y ∷ ys) h g same = cc
events_are_fixed law one f limit (x ∷ xs) [] h g same = cc
events_are_fixed law one f limit (x ∷ xs) (y ∷ ys) h g same =
    let rest : map given xs ≡ map given ys = cc in
    let now : given x ≡ given y = cc in
    let earlier = events_are_fixed law one f limit xs ys h.1 g.1 rest in
    let last = one_event one f limit ys (legs_fixed law f limit ys g.1) x y (subst (λ es. IsEvent f limit es x) earlier h.0) g.0 now in
    cc (last, earlier)
