-- What a run puts out of a session: in its life, in its time, and up to the packet of the event that comes next.
use Rattle.std.proofs.Common.{◌≡◌, ℕ, ◌+◌, ◌<◌, ◌≤◌, ◌&&◌, Bool, true, false, List, [], ◌∷◌, ◌++◌, cond, refl, sym, ap, ◌∙◌, subst, append_assoc, append-nil, arith, filter}
use Rattle.cf_isolation.proofs.Common.{AllByRecursion, AreRunEvents, Asset, Begun, Endpoint, Flow, HasEvents, HasSession, IsRightSession, Rises, RunEvent, Session, SessionEvent, SessionsAreRight, begins_theirs, born_at, client_of, filter-append, flat_map, found, goes_to_theirs, gone_after, is_between, is_during, is_expired, is_flow_of, is_in_life, kept, leaves, left_by_packet, sessions_of, table_after, tick_of, with_events}
use Rattle.cf_run.specs.Isolation.{NoneBegins}
use Rattle.cf_run.specs.Selected.{last_moment}
use Rattle.cf_run.specs.Sessions.{left_in}
use Rattle.cf_isolation.specs.Isolated.{NextEvent, began_at, seen_until}
use Rattle.cf_isolation.proofs.Lists.{all_both, all_filtered, all_map, filter_all, filter_both}
use Rattle.cf_isolation.proofs.Moments.{back, during_early, during_late, during_yes, last_grows}
use Rattle.cf_isolation.proofs.Order.{InOrder, life}
use Rattle.cf_isolation.proofs.Output.{AreTheirs, Output, first_now, first_theirs, second_now}
use Rattle.cf_isolation.proofs.Packets.{rights_after}
use Rattle.cf_isolation.proofs.Tables.{same_self}
use Rattle.cf_isolation.proofs.Turns.{AtMostOne, first_turn, none_there, second_turn}

pub record Holds {X : Type 0} (o : Output X) (flow : Flow) (q : X → Bool) (es : List RunEvent) : Type 0 where
  pub content : filter q (o.all es) ≡ flat_map (λ s. o.own s.flow s.events) (filter (is_between (client_of flow) flow.site.first.endpoint) (sessions_of es))
  pub in_life : (s : Session) (before later : List Session) → filter (is_between (client_of flow) flow.site.first.endpoint) (sessions_of es) ≡ before ++ s ∷ later →
      filter (λ x. q x && is_in_life (born_at s.events) later (o.at x)) (o.all es) ≡ o.own s.flow s.events
  pub in_time : (has : HasSession flow es) → filter (λ x. q x && is_during (began_at has) (seen_until has) (o.at x)) (o.all es) ≡ o.over (client_of flow) flow.site.first.endpoint has.first has.earlier has.later
  pub to_next : (has : HasSession flow es) (behind : NextEvent has) → filter (λ x. q x && is_during (began_at has) (tick_of behind.next.input) (o.at x)) (o.all es) ≡
      o.over (client_of flow) flow.site.first.endpoint has.first has.earlier has.later ++ first_theirs o (has.later ++ has.first ∷ has.earlier) behind.next (client_of flow) flow.site.first.endpoint

module _ {X : Type 0} (o : Output X) (law : SessionsAreRight) (assets : List Asset) (limit : ℕ) (flow : Flow) (q : X → Bool)
    (Right : List RunEvent → Type 0) (right_before : (e : RunEvent) (es : List RunEvent) → Right (e ∷ es) → Right es) (are_of : (es : List RunEvent) → Right es → AreRunEvents assets limit es)
    (theirs : (e : RunEvent) (es : List RunEvent) → Right (e ∷ es) → Rises (e ∷ es) → AreTheirs o es e (client_of flow) flow.site.first.endpoint q) where
  abbrev client : Endpoint
  client = client_of flow

  abbrev site : Endpoint
  site = flow.site.first.endpoint

  abbrev own_of : Session → List X
  own_of s = o.own s.flow s.events

  abbrev mine : List Session → List Session
  mine ss = filter (is_between client site) ss

  -- ---- what passes of all that is put out

  abbrev passing : List RunEvent → List X
  passing es = filter q (o.all es)

  -- what passes of the two halves of one event
  abbrev first_passing : List RunEvent → RunEvent → List X
  first_passing es e = filter q (first_now o es e)

  abbrev second_passing : List RunEvent → RunEvent → List X
  second_passing es e = filter q (second_now o es e)

  more : (e : RunEvent) (es : List RunEvent) → passing (e ∷ es) ≡ passing es ++ (first_passing es e ++ second_passing es e)
  more e es =
      ap (filter q) (o.all_more e es) ∙ filter-append q (o.all es) (first_now o es e ++ second_now o es e)
      ∙ ap (λ xs. passing es ++ xs) (filter-append q (first_now o es e) (second_now o es e))

  module _ (e : RunEvent) (es : List RunEvent) (h : Right (e ∷ es)) (r : Rises (e ∷ es)) where
    first_at : AllByRecursion (λ x. o.at x ≡ tick_of e.input) (first_passing es e)
    first_at = all_filtered (λ x. o.at x ≡ tick_of e.input) q (first_now o es e) (theirs e es h r).first_at

    second_at : AllByRecursion (λ x. o.at x ≡ tick_of e.input + 1) (second_passing es e)
    second_at = all_filtered (λ x. o.at x ≡ tick_of e.input + 1) q (second_now o es e) (theirs e es h r).second_at

    -- of both halves, what holds of all from the tick on to the moment of the packet
    both_at : (P : X → Type 0) → ((x : X) → last_moment es < o.at x → o.at x ≤ e.input.moment → P x) → AllByRecursion P (first_passing es e ++ second_passing es e)
    both_at P f =
        all_both P (first_passing es e) (second_passing es e)
        (all_map (λ x. o.at x ≡ tick_of e.input) P (λ x g. f x (omega (arith, g, r.0)) (omega (arith, g, r.0))) (first_passing es e) first_at)
        (all_map (λ x. o.at x ≡ tick_of e.input + 1) P (λ x g. f x (omega (arith, g, r.0)) (omega (arith, g, r.0))) (second_passing es e) second_at)

  -- ---- in a time

  abbrev during : (since until : ℕ) → List X → List X
  during since until xs = filter (λ x. is_during since until (o.at x)) xs

  splits : (since until : ℕ) (xs ys : List X) → during since until (xs ++ ys) ≡ during since until xs ++ during since until ys
  splits since until xs ys = filter-append (λ x. is_during since until (o.at x)) xs ys

  -- all of it is in the time, or nothing is
  whole : (since until : ℕ) (b : Bool) (xs : List X) → AllByRecursion (λ x. is_during since until (o.at x) ≡ b) xs → during since until xs ≡ cond b xs []
  whole since until b xs h = filter_all (λ x. is_during since until (o.at x)) b xs h

  before_last : (es : List RunEvent) → Right es → Rises es → AllByRecursion (λ x. o.at x ≤ last_moment es) (passing es)
  before_last [] h r = subst (AllByRecursion (λ x. o.at x ≤ 0)) (sym (ap (filter q) o.all_none)) tt
  before_last (e ∷ es) h r =
      subst (AllByRecursion (λ x. o.at x ≤ e.input.moment)) (sym (more e es))
      (all_both (λ x. o.at x ≤ e.input.moment) (passing es) (first_passing es e ++ second_passing es e)
      (all_map (λ x. o.at x ≤ last_moment es) (λ x. o.at x ≤ e.input.moment) (λ x g. omega (arith, g, r.0)) (passing es) (before_last es (right_before e es h) r.1))
      (both_at e es h r (λ x. o.at x ≤ e.input.moment) (λ x a b. b)))

  -- what comes after it
  without_after : (since until : ℕ) (after es : List RunEvent) → Right (after ++ es) → Rises (after ++ es) → until ≤ last_moment es → during since until (passing (after ++ es)) ≡ during since until (passing es)
  without_after since until [] es h r most = refl
  without_after since until (e ∷ after) es h r most =
      let before = after ++ es in
      let now = first_passing before e ++ second_passing before e in
      let grows = last_grows after es r.1 in
      ap (during since until) (more e before) ∙ splits since until (passing before) now
      ∙ ap (λ ys. during since until (passing before) ++ ys)
      (whole since until false now (both_at e before h r (λ x. is_during since until (o.at x) ≡ false) (λ x a b. during_late since until (o.at x) (omega (arith, a, grows, most)))))
      ∙ append-nil _ ∙ without_after since until after es (right_before e before h) r.1 most

  -- what passes of the event in which the session begins
  module _ (first : RunEvent) (earlier : List RunEvent) (begun : SessionEvent) (begins : first.received ≡ Begun flow begun) (h : Right (first ∷ earlier)) (r : Rises (first ∷ earlier)) where
    second_whole : second_passing earlier first ≡ o.over client site first earlier []
    second_whole =
        let table = found (table_after earlier) first in
        let its : is_flow_of client site flow ≡ true = let x = same_self client in let y = same_self site in rw (x, y) refl in
        (theirs first earlier h r).second_is
        ∙ ap (λ c. cond (goes_to_theirs client site table c) (o.put table c) [] ++ cond (begins_theirs client site c) (o.put table c) []) begins
        ∙ ap (λ b. [] ++ cond b (o.put table (Begun flow begun)) []) its ∙ sym (ap (o.put table) begins) ∙ sym (o.over_none client site first earlier)

    start : (until : ℕ) → first.input.moment ≤ until → during first.input.moment until (passing (first ∷ earlier)) ≡ o.over client site first earlier []
    start until most =
        let m = first.input.moment in
        let one = first_passing earlier first in
        let two = second_passing earlier first in
        let old = all_map (λ x. o.at x ≤ last_moment earlier) (λ x. is_during m until (o.at x) ≡ false) (λ x g. during_early m until (o.at x) (omega (arith, g, r.0)))
        (passing earlier) (before_last earlier (right_before first earlier h) r.1) in
        let early = all_map (λ x. o.at x ≡ tick_of first.input) (λ x. is_during m until (o.at x) ≡ false) (λ x g. during_early m until (o.at x) (omega (arith, g, r.0))) one (first_at first earlier h r) in
        let here = all_map (λ x. o.at x ≡ tick_of first.input + 1) (λ x. is_during m until (o.at x) ≡ true) (λ x g. during_yes m until (o.at x) (omega (arith, g, r.0)) (omega (arith, g, most, r.0)))
        two (second_at first earlier h r) in
        ap (during m until) (more first earlier) ∙ splits m until (passing earlier) (one ++ two) ∙ ap (λ ys. ys ++ during m until (one ++ two)) (whole m until false (passing earlier) old)
        ∙ splits m until one two ∙ ap (λ ys. ys ++ during m until two) (whole m until false one early) ∙ whole m until true two here ∙ second_whole

    stretch : (until : ℕ) (later : List RunEvent) → Right (later ++ first ∷ earlier) → Rises (later ++ first ∷ earlier) → last_moment (later ++ first ∷ earlier) ≤ until →
        NoneBegins client site later → during first.input.moment until (passing (later ++ first ∷ earlier)) ≡ o.over client site first earlier later
    stretch until [] g s most none = start until most
    stretch until (e ∷ later) g s most none =
        let since = first.input.moment in
        let before = later ++ first ∷ earlier in
        let one = first_passing before e in
        let two = second_passing before e in
        let grows = last_grows later (first ∷ earlier) s.1 in
        let its = theirs e before g s in
        let there = found (table_after before) e in
        ap (during since until) (more e before) ∙ splits since until (passing before) (one ++ two)
        ∙ ap (λ ys. during since until (passing before) ++ ys)
        (whole since until true (one ++ two) (both_at e before g s (λ x. is_during since until (o.at x) ≡ true) (λ x a b. during_yes since until (o.at x) (omega (arith, a, grows)) (omega (arith, b, most))))
        ∙ ap (λ ys. ys ++ two) its.first_is
        ∙ ap (λ ys. first_theirs o before e client site ++ ys)
        (its.second_is ∙ ap (λ b. cond (goes_to_theirs client site there e.received) (second_now o before e) [] ++ cond b (second_now o before e) []) none.0 ∙ append-nil _))
        ∙ ap (λ ys. ys ++ (first_theirs o before e client site ++ cond (goes_to_theirs client site there e.received) (second_now o before e) []))
        (stretch until later (right_before e before g) s.1 (omega (arith, most, s.0)) none.1)
        ∙ sym (o.over_more client site first earlier e later)

    -- the first half of the event that comes next
    half : (later : List RunEvent) (next : RunEvent) → Right (next ∷ (later ++ first ∷ earlier)) → Rises (next ∷ (later ++ first ∷ earlier)) → NoneBegins client site later →
        during first.input.moment (tick_of next.input) (passing (next ∷ (later ++ first ∷ earlier)))
        ≡ o.over client site first earlier later ++ first_theirs o (later ++ first ∷ earlier) next client site
    half later next g s none =
        let since = first.input.moment in
        let until = tick_of next.input in
        let before = later ++ first ∷ earlier in
        let one = first_passing before next in
        let two = second_passing before next in
        let grows = last_grows later (first ∷ earlier) s.1 in
        let here = all_map (λ x. o.at x ≡ until) (λ x. is_during since until (o.at x) ≡ true) (λ x a. during_yes since until (o.at x) (omega (arith, a, grows, s.0)) (omega (arith, a))) one (first_at next before g s) in
        let late = all_map (λ x. o.at x ≡ until + 1) (λ x. is_during since until (o.at x) ≡ false) (λ x a. during_late since until (o.at x) (omega (arith, a))) two (second_at next before g s) in
        ap (during since until) (more next before) ∙ splits since until (passing before) (one ++ two)
        ∙ ap (λ ys. ys ++ during since until (one ++ two)) (stretch until later (right_before next before g) s.1 (omega (arith, s.0)) none)
        ∙ ap (λ ys. o.over client site first earlier later ++ ys)
        (splits since until one two ∙ ap (λ ys. ys ++ during since until two) (whole since until true one here ∙ (theirs next before g s).first_is)
        ∙ ap (λ ys. first_theirs o before next client site ++ ys) (whole since until false two late) ∙ append-nil _)

  -- ---- in a life

  abbrev list_of : List RunEvent → List Session
  list_of es = mine (gone_after es) ++ mine (table_after es)

  record Held (es : List RunEvent) : Type 0 where
    content : passing es ≡ flat_map own_of (list_of es)
    order : InOrder o.at own_of 0 (list_of es) (last_moment es + 1)
    few : AtMostOne (mine (table_after es))

  right_one : (es : List RunEvent) → Right es → (s : Session) → mine (table_after es) ≡ s ∷ [] → HasEvents limit s.flow s.events
  right_one es h s is =
      (subst (AllByRecursion (IsRightSession limit)) is (all_filtered (IsRightSession limit) (is_between client site) (table_after es) (rights_after law assets limit es (are_of es h)))).0

  five : (g x y z t : List Session) → (g ++ (x ++ (y ++ z))) ++ t ≡ (g ++ (x ++ y)) ++ (z ++ t)
  five g x y z t = simp append_assoc

  step : (e : RunEvent) (es : List RunEvent) → Right (e ∷ es) → Rises (e ∷ es) → Held es → Held (e ∷ es)
  step e es h r held =
      let tick = tick_of e.input in
      let table = table_after es in
      let there = found table e in
      let until = last_moment es + 1 in
      let event = (are_of (e ∷ es) h).0 in
      let its = theirs e es h r in
      let c = first_passing es e in
      let d = second_passing es e in
      let one = first_turn o limit client site tick table e.ticks event.ticks c until (omega (arith, r.0)) held.few (right_one es (right_before e es h)) its.first_is (first_at e es h r) in
      let two = second_turn o limit client site tick there one.here d (second_at e es h r) assets e.input.packet e.received event.received its.second_is in
      let G = mine (gone_after es) in
      let T = mine (table_after (e ∷ es)) in
      let past = one.moves G in
      let now = two.moves (G ++ one.left) in
      let gone : mine (gone_after (e ∷ es)) ≡ G ++ (one.expired ++ (one.cut ++ two.left)) =
      filter-append (is_between client site) (gone_after es) (left_in table e)
      ∙ ap (λ l. G ++ l) (filter-append (is_between client site) (filter (λ s. is_expired s.flow s.events tick) table) _
      ∙ ap (λ l. l ++ mine (filter leaves (with_events (kept tick table) e.ticks) ++ left_by_packet e.received there)) one.expired_is
      ∙ ap (λ l. one.expired ++ l) (filter-append (is_between client site) (filter leaves (with_events (kept tick table) e.ticks)) (left_by_packet e.received there)
      ∙ ap (λ l. l ++ mine (left_by_packet e.received there)) one.cut_is ∙ ap (λ l. one.cut ++ l) two.left_is)) in
      let lists : list_of (e ∷ es) ≡ (G ++ one.left) ++ (two.left ++ T) =
      ap (λ l. l ++ T) gone ∙ five G one.expired one.cut two.left T ∙ ap (λ l. (G ++ l) ++ (two.left ++ T)) one.left_is in
      let joined : G ++ (one.left ++ mine there) ≡ (G ++ one.left) ++ mine there = sym (append_assoc G one.left (mine there)) in
      let moment : tick + 2 ≡ e.input.moment + 1 = omega (arith, r.0) in
      record {
        content =
            more e es ∙ ap (λ xs. xs ++ (c ++ d)) held.content ∙ sym (append_assoc (flat_map own_of (list_of es)) c d) ∙ ap (λ xs. xs ++ d) (sym past.content)
            ∙ ap (λ l. flat_map own_of l ++ d) joined ∙ sym now.content ∙ ap (flat_map own_of) (sym lists);
        order =
            subst (λ n. InOrder o.at own_of 0 (list_of (e ∷ es)) n) moment
            (subst (λ l. InOrder o.at own_of 0 l (tick + 2)) (sym lists) (now.order (subst (λ l. InOrder o.at own_of 0 l (tick + 1)) joined (past.order held.order))));
        few = two.few;
      }

  each_held : (es : List RunEvent) → Right es → Rises es → Held es
  each_held [] h r = record { content = ap (filter q) o.all_none; order = omega arith; few = none_there refl }
  each_held (e ∷ es) h r = step e es h r (each_held es (right_before e es h) r.1)

  alive : (es : List RunEvent) → Right es → Rises es → (s : Session) (before later : List Session) → mine (sessions_of es) ≡ before ++ s ∷ later →
      filter (λ x. q x && is_in_life (born_at s.events) later (o.at x)) (o.all es) ≡ own_of s
  alive es h r s before later is =
      let held = each_held es h r in
      let all : list_of es ≡ before ++ s ∷ later = sym (filter-append (is_between client site) (gone_after es) (table_after es)) ∙ is in
      filter_both q (λ x. is_in_life (born_at s.events) later (o.at x)) (o.all es) ∙ ap (filter (λ x. is_in_life (born_at s.events) later (o.at x))) (held.content ∙ ap (flat_map own_of) all)
      ∙ life o.at own_of 0 before s later (last_moment es + 1) (subst (λ l. InOrder o.at own_of 0 l (last_moment es + 1)) all held.order)

  -- ---- a run

  in_time : (es : List RunEvent) → Right es → Rises es → (has : HasSession flow es) →
      filter (λ x. q x && is_during (began_at has) (seen_until has) (o.at x)) (o.all es) ≡ o.over client site has.first has.earlier has.later
  in_time es h r has =
      let start = has.first ∷ has.earlier in
      let seen = has.later ++ start in
      let rises = subst Rises has.are r in
      let right = subst Right has.are h in
      let own_rise = back Rises (λ e es g. g.1) has.after seen rises in
      let own = back Right right_before has.after seen right in
      filter_both q (λ x. is_during (began_at has) (seen_until has) (o.at x)) (o.all es) ∙ ap (λ ds. during (began_at has) (seen_until has) (passing ds)) has.are
      ∙ without_after (began_at has) (seen_until has) has.after seen right rises (omega arith)
      ∙ stretch has.first has.earlier has.begun has.begins (back Right right_before has.later start own) (back Rises (λ e es g. g.1) has.later start own_rise) (seen_until has) has.later own own_rise (omega arith) has.none

  to_next : (es : List RunEvent) → Right es → Rises es → (has : HasSession flow es) (behind : NextEvent has) →
      filter (λ x. q x && is_during (began_at has) (tick_of behind.next.input) (o.at x)) (o.all es)
      ≡ o.over client site has.first has.earlier has.later ++ first_theirs o (has.later ++ has.first ∷ has.earlier) behind.next client site
  to_next es h r has behind =
      let start = has.first ∷ has.earlier in
      let seen = has.later ++ start in
      let until = tick_of behind.next.input in
      let is : es ≡ behind.after ++ (behind.next ∷ seen) = has.are ∙ ap (λ after. after ++ seen) behind.are ∙ append_assoc behind.after (behind.next ∷ []) seen in
      let rises = subst Rises is r in
      let right = subst Right is h in
      let next_rise = back Rises (λ e es g. g.1) behind.after (behind.next ∷ seen) rises in
      let next = back Right right_before behind.after (behind.next ∷ seen) right in
      filter_both q (λ x. is_during (began_at has) until (o.at x)) (o.all es) ∙ ap (λ ds. during (began_at has) until (passing ds)) is
      ∙ without_after (began_at has) until behind.after (behind.next ∷ seen) right rises (omega arith)
      ∙ half has.first has.earlier has.begun has.begins (back Right right_before has.later start (right_before behind.next seen next)) (back Rises (λ e es g. g.1) has.later start next_rise.1)
      has.later behind.next next next_rise has.none

  pub holds : (es : List RunEvent) → Right es → Rises es → Holds o flow q es
  holds es h r = record { content = (each_held es h r).content ∙ ap (flat_map own_of) (sym (filter-append (is_between client site) (gone_after es) (table_after es))); in_life = alive es h r; in_time = in_time es h r; to_next = to_next es h r }
