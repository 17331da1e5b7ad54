-- One stream towards each side of a session.
use Rattle.cf_lane.specs.Caller.{Caller, newcomer, none_before}
use Rattle.std.proofs.Common.{◌≡◌, ℕ, zero, suc, Bool, true, false, ◌&&◌, ◌||◌, ◌⊎◌, inl, inr, List, [], ◌∷◌, ◌++◌, map, Option, Some, None, refl, sym, ap, ◌∙◌, subst, arith}
use Rattle.std.specs.Prelude.{slice_get}
use Rattle.std.specs.List.{list_any}
use Rattle.std.proofs.lemmas.Bool.{false≢true, or_cases, or_left, or_right}
use Rattle.std.proofs.lemmas.List.{append-nil, map-append}
use Rattle.std.proofs.lemmas.List.Folds.{list_any-append}
use Rattle.std.proofs.lemmas.Option.{same_Some}
use Rattle.cf_audit.specs.declared.CutReason.{CutReason}
use Rattle.cf_lane.specs.Follows.{AreJudged}
use Rattle.cf_lane.specs.History.{Element, bytes_of, ended_of, is_side}
use Rattle.cf_lane.specs.Item.{AreItems, Completes, Placed, Took, last_after, placed}
use Rattle.cf_lane.specs.Judged.{Judged, ends, has_ended, place_of}
use Rattle.cf_lane.specs.Laws.{GoOn, QuietBehindEnd, StreamsGoOn}
use Rattle.cf_lane.specs.Output.{other, outputs, stream_to}
use Rattle.cf_lane.specs.Unit.{Left, Tail, UnitValue, Wrong}
use Rattle.cf_leg.specs.Event.{Ending, LegEvent, sent_in, stream_after, stream_at}
use Rattle.cf_leg.specs.OneStream.{CarryAll, Grows, IsOneStream}
use Rattle.cf_leg.specs.Told.{letters_sent, letters_sent_by, own_number}
use Rattle.cf_leg.specs.declared.Role.{Role}
use Rattle.cf_packet.specs.Packet.{PacketValue}
use Rattle.cf_policy.specs.Site.{SiteValue}
use Rattle.cf_policy.specs.declared.Protocol.{Protocol}
use Rattle.cf_stream.proofs.Extends.{extends_both, extends_none}
use Rattle.cf_stream.proofs.Taken.{same_stream}
use Rattle.cf_stream.specs.Stream.{Carries, Extends, Letter, Stream, letter_at, letters, no_letters}
use Rattle.cf_view.specs.declared.Endpoint.{Endpoint}
use Rattle.cf_view.specs.declared.Side.{Side}
use Rattle.cf_view.specs.declared.Side.TheVariants as side
use Rattle.cf_session.proofs.Fed.{other_bytes}
use Rattle.cf_session.specs.Event.{AreEvents, EndsPacket, EndsTick, IsEvent}
use Rattle.cf_session.specs.Laws.{IsFront, IsReassembly, Part, parts_in, parts_of}
use Rattle.cf_session.specs.Session.{Flow, SessionEvent, client_of, history, work_of}
use Rattle.cf_session.specs.Turn.{leg_in}
use Rattle.cf_session.specs.Work.{Work, Works, fed_at, no_work}

-- ---- an End among the items is one of the history

abbrev is_end : Side → Placed → Bool
is_end s q = ends s q.item

took_none : (s t : Side) (m : ℕ) (us : List UnitValue) → list_any (is_end s) (map (placed m) (map (Took t) us)) ≡ false
took_none s t m [] = refl
took_none s t m (u ∷ us) = took_none s t m us

or_no : (b : Bool) → (b || false) ≡ true → (b && true) ≡ true
or_no true e = refl
or_no false e = absurd (false≢true e)

last_any : (s t : Side) (m : ℕ) (was tail : Tail) (ended : Bool) → list_any (is_end s) (map (placed m) (last_after was t ended tail)) ≡ true → (is_side s t && ended) ≡ true
last_any s t m (Wrong r) tail ended e = absurd (false≢true e)
last_any s t m (Left rest) (Wrong r) ended e = absurd (false≢true e)
last_any s t m (Left rest) (Left now) true e = or_no (is_side s t) e
last_any s t m (Left rest) (Left now) false e = absurd (false≢true e)

completed_end : (p : Protocol) (s : Side) (earlier : List Element) (e : Element) (items : List Placed) → Completes p earlier e items → list_any (is_end s) items ≡ true → (is_side s e.side && e.letters.ended) ≡ true
completed_end p s earlier e items c h =
    last_any s e.side e.moment c.was c.tail e.letters.ended
    (sym (ap (list_any (is_end s)) (c.is_items ∙ map-append (placed e.moment) (map (Took e.side) c.more) (last_after c.was e.side e.letters.ended c.tail))
    ∙ list_any-append (is_end s) (map (placed e.moment) (map (Took e.side) c.more)) (map (placed e.moment) (last_after c.was e.side e.letters.ended c.tail))
    ∙ ap (λ b. b || list_any (is_end s) (map (placed e.moment) (last_after c.was e.side e.letters.ended c.tail))) (took_none s e.side e.moment c.more)) ∙ h)

items_end : (p : Protocol) (s : Side) (earlier later : List Element) (items : List Placed) → AreItems p earlier later items → list_any (is_end s) items ≡ true → ended_of s later ≡ true
items_end p s earlier [] items are h = absurd (false≢true (sym (ap (list_any (is_end s)) are) ∙ h))
items_end p s earlier (e ∷ later) items are h =
    let now = are.0 in
    let next = are.1 in
    let split : (list_any (is_end s) now || list_any (is_end s) next) ≡ true = sym (list_any-append (is_end s) now next) ∙ sym (ap (list_any (is_end s)) are.4) ∙ h in
    elim (or_cases (list_any (is_end s) now) (list_any (is_end s) next) split) [
      | inl a ↦ or_left (is_side s e.side && e.letters.ended) (ended_of s later) (completed_end p s earlier e now are.2 a)
      | inr a ↦ or_right (is_side s e.side && e.letters.ended) (ended_of s later) (items_end p s (earlier ++ e ∷ []) later next are.3 a)
    ]

placed_end : (s : Side) (js : List Judged) → list_any (is_end s) (map place_of js) ≡ has_ended s js
placed_end s [] = refl
placed_end s (j ∷ js) = ap (λ b. ends s j.item || b) (placed_end s js)

judged_end : (site : SiteValue) (client : Caller) (s : Side) (h : List Element) (js : List Judged) → AreJudged site client h js → has_ended s js ≡ true → ended_of s h ≡ true
judged_end site client s h js a e =
    items_end site.first.protocol s [] h a.items a.are_items
    (ap (list_any (is_end s)) a.are_first ∙ list_any-append (is_end s) (map place_of js) a.dropped
    ∙ or_left (list_any (is_end s) (map place_of js)) (list_any (is_end s) a.dropped) (placed_end s js ∙ e))

-- ---- the streams of the lane go on

works_none : (site : SiteValue) (client : Endpoint) → Works site client [] no_work
works_none site client = record { judged = []; are_judged = record { items = []; are_items = refl; dropped = []; are_first = refl; goes_on = refl; fates = tt }; is_work = refl }

works_one : (f : Flow) (limit : ℕ) (es : List SessionEvent) (e : SessionEvent) → IsEvent f limit es e → Works f.site (client_of f) (history es) (work_of es) → Works f.site (client_of f) (history (e ∷ es)) e.work
works_one f limit [] e h w = rw (h.fed, h.work) w
works_one f limit (d ∷ es) e (inl h) w = rw (h.fed, append-nil (history (d ∷ es)), h.work) w
works_one f limit (d ∷ es) e (inr h) w = h.5.work

pub works_of : (f : Flow) (limit : ℕ) (es : List SessionEvent) → AreEvents f limit es → Works f.site (client_of f) (history es) (work_of es)
works_of f limit [] h = works_none f.site (client_of f)
works_of f limit (e ∷ es) h = works_one f limit es e h.0 (works_of f limit es h.1)

-- a side whose End was taken brings no more bytes
quiet_side : (s t : Side) (now : ℕ) (l : Stream) (h : List Element) (fed : List Element) → fed ≡ fed_at now s l → (ended_of s h ≡ true → fed ≡ []) → ended_of t h ≡ true → bytes_of t fed ≡ []
quiet_side side.Client side.Client now l h fed e u d = ap (bytes_of side.Client) (u d)
quiet_side side.Client side.Controller now l h fed e u d = ap (bytes_of side.Controller) e ∙ other_bytes now side.Client l
quiet_side side.Controller side.Client now l h fed e u d = ap (bytes_of side.Client) e ∙ other_bytes now side.Controller l
quiet_side side.Controller side.Controller now l h fed e u d = ap (bytes_of side.Controller) (u d)

fed_quiet : (f : Flow) (limit : ℕ) (es : List SessionEvent) (e : SessionEvent) (t : Side) → IsEvent f limit es e → ended_of t (history es) ≡ true → bytes_of t e.fed ≡ []
fed_quiet f limit [] e t h d = ap (bytes_of t) h.fed
fed_quiet f limit (d0 ∷ es) e t (inl h) d = ap (bytes_of t) h.fed
fed_quiet f limit (d0 ∷ es) e t (inr h) d = quiet_side h.1 t _ h.5.fed.0 (history (d0 ∷ es)) e.fed h.5.fed.1 h.5.unended d

outputs_on : (site : SiteValue) (client : Endpoint) (to : Side) (js ks : List Judged) → (g : GoOn site client js ks) → outputs site to [] ks ≡ outputs site to [] js ++ outputs site to js g.ms
outputs_on site client side.Client js ks g = g.to_client
outputs_on site client side.Controller js ks g = g.to_controller

-- the lane's stream to a side
abbrev pub stream_of : Side → Work → Stream
stream_of side.Client w = w.to_client
stream_of side.Controller w = w.to_controller

is_stream : (to : Side) (site : SiteValue) (client : Endpoint) {h : List Element} (w : Work) (a : Works site client h w) → stream_of to w ≡ stream_to site to a.judged
is_stream side.Client site client w a = ap (λ (x : Work). x.to_client) a.is_work
is_stream side.Controller site client w a = ap (λ (x : Work). x.to_controller) a.is_work

module _ (go : StreamsGoOn) (quiet : QuietBehindEnd) (f : Flow) (limit : ℕ) where
  judged_extend : (es : List SessionEvent) (e : SessionEvent) (to : Side) → AreEvents f limit (e ∷ es) → (a : Works f.site (client_of f) (history es) (work_of es)) → (b : Works f.site (client_of f) (history (e ∷ es)) e.work) →
      Extends (stream_to f.site to a.judged) (stream_to f.site to b.judged)
  judged_extend es e to are a b =
      let g = go f.site none_before (client_of f) (history es) e.fed a.judged b.judged a.are_judged b.are_judged in
      record {
        more = outputs f.site to a.judged g.ms;
        bytes = outputs_on f.site (client_of f) to a.judged b.judged g;
        ended = λ d.
            (let still = fed_quiet f limit es e (other to) are.0 (judged_end f.site (newcomer (client_of f).address) (other to) (history es) a.judged a.are_judged d) in
            let none = quiet f.site (newcomer (client_of f).address) (history es) e.fed a.judged g.ms to a.are_judged (subst (AreJudged f.site (newcomer (client_of f).address) (history (e ∷ es))) g.all b.are_judged) d still in
            same_stream (stream_to f.site to b.judged) (stream_to f.site to a.judged)
            (outputs_on f.site (client_of f) to a.judged b.judged g ∙ ap (λ xs. outputs f.site to [] a.judged ++ xs) none ∙ append-nil (outputs f.site to [] a.judged))
            (ap (has_ended (other to)) g.all ∙ list_any-append (λ j. ends (other to) j.item) a.judged g.ms ∙ or_left (has_ended (other to) a.judged) (has_ended (other to) g.ms) d ∙ sym d));
      }

  work_on : (to : Side) (es : List SessionEvent) (e : SessionEvent) → AreEvents f limit (e ∷ es) → Extends (stream_of to (work_of es)) (stream_of to e.work)
  work_on to es e are =
      let a = works_of f limit es are.1 in
      let b = works_of f limit (e ∷ es) are in
      subst (λ (x : Stream). Extends x (stream_of to e.work)) (sym (is_stream to f.site (client_of f) (work_of es) a))
      (subst (λ (x : Stream). Extends (stream_to f.site to a.judged) x) (sym (is_stream to f.site (client_of f) e.work b)) (judged_extend es e to are a b))

-- ---- what a leg was to say

pub tick_still : (before : Stream) (c : Option CutReason) (x : Ending) → EndsTick c x → stream_at x before ≡ before
tick_still before None x h = ap (λ y. stream_at y before) h
tick_still before (Some r) x h = ap (λ y. stream_at y before) h.1

packet_says : (before w : Stream) (roomy : Bool) (c : Option CutReason) (x : Ending) → EndsPacket c w roomy x → (stream_at x before ≡ before) ⊎ ((c ≡ None) × (stream_at x before ≡ w))
packet_says before w roomy None x h = inr (refl, ap (λ y. stream_at y before) h.1)
packet_says before w roomy (Some r) x h = inl (ap (λ y. stream_at y before) h.1)

-- a leg was to say what it was before, or, where nothing cut, the lane's stream to its peer
pub leg_says : (f : Flow) (limit : ℕ) (es : List SessionEvent) (e : SessionEvent) (s : Side) → IsEvent f limit es e →
    (stream_after (map (leg_in s) (e ∷ es)) ≡ stream_after (map (leg_in s) es)) ⊎ ((e.cut ≡ None) × (stream_after (map (leg_in s) (e ∷ es)) ≡ stream_of s e.work))
leg_says f limit [] e side.Client h = inl (ap (λ (l : LegEvent). stream_at l.ending no_letters) h.client)
leg_says f limit [] e side.Controller h = inl (ap (λ (l : LegEvent). stream_at l.ending no_letters) h.controller)
leg_says f limit (d ∷ es) e side.Client (inl h) = inl (tick_still _ e.cut e.client.ending h.client_ending)
leg_says f limit (d ∷ es) e side.Controller (inl h) = inl (tick_still _ e.cut e.controller.ending h.controller_ending)
leg_says f limit (d ∷ es) e side.Client (inr h) = packet_says _ _ _ e.cut e.client.ending h.5.client_ending
leg_says f limit (d ∷ es) e side.Controller (inr h) = packet_says _ _ _ e.cut e.controller.ending h.5.controller_ending

pub record Grown (es : List LegEvent) (whole : Stream) : Type 0 where
  pub grows : Grows es
  pub on : Extends (stream_after es) whole

pub grown : (go : StreamsGoOn) (quiet : QuietBehindEnd) (f : Flow) (limit : ℕ) (s : Side) (es : List SessionEvent) → AreEvents f limit es → Grown (map (leg_in s) es) (stream_of s (work_of es))
grown go quiet f limit side.Client [] h = record { grows = tt; on = extends_none no_letters }
grown go quiet f limit side.Controller [] h = record { grows = tt; on = extends_none no_letters }
grown go quiet f limit s (e ∷ es) h =
    let g = grown go quiet f limit s es h.1 in
    let on = extends_both _ _ _ g.on (work_on go quiet f limit s es e h) in
    elim (leg_says f limit es e s h.0) [
      | inl same ↦ record { grows = (subst (Extends _) (sym same) (extends_none _), g.grows); on = subst (λ x. Extends x (stream_of s e.work)) (sym same) on }
      | inr said ↦ record { grows = (subst (Extends _) (sym said.1) on, g.grows); on = subst (λ x. Extends x (stream_of s e.work)) (sym said.1) (extends_none _) }
    ]

-- ---- parts

abbrev pub AreOf : Stream → List Part → Type 0
AreOf whole parts = (i : ℕ) (part : Part) → slice_get parts i ≡ Some part → Carries whole part.at part.text

of_none : (whole : Stream) → AreOf whole []
of_none whole i part e = cc

of_cons : (whole : Stream) (p : Part) (ps : List Part) → Carries whole p.at p.text → AreOf whole ps → AreOf whole (p ∷ ps)
of_cons whole p ps c h zero part e = subst (λ (q : Part). Carries whole q.at q.text) (same_Some p part e) c
of_cons whole p ps c h (suc i) part e = h i part e

of_both : (whole : Stream) (ps qs : List Part) → AreOf whole ps → AreOf whole qs → AreOf whole (ps ++ qs)
of_both whole [] qs h g = g
of_both whole (p ∷ ps) qs h g = of_cons whole p (ps ++ qs) (h 0 p refl) (of_both whole ps qs (λ i part e. h (suc i) part e) g)

parts_carry : (whole : Stream) (own sent : ℕ) (ps : List PacketValue) → CarryAll whole own sent ps → AreOf whole (parts_in own sent ps)
parts_carry whole own sent [] h = of_none whole
parts_carry whole own sent (p ∷ ps) h = of_cons whole _ (parts_in own (letters_sent_by own sent p) ps) h.0 (parts_carry whole own (letters_sent_by own sent p) ps h.1)

pub all_parts : (whole : Stream) (r : Role) (es : List LegEvent) → IsOneStream whole r es → AreOf whole (parts_of r es)
all_parts whole r [] h = of_none whole
all_parts whole r (e ∷ es) h =
    of_both whole (parts_of r es) _ (all_parts whole r es h.2)
    (of_both whole (parts_in (own_number r es) (letters_sent r es) e.fired) _ (parts_carry whole _ _ e.fired h.0) (parts_carry whole _ _ (sent_in e) h.1))

-- ---- reassembly

letter_behind : (b : ℕ) (bs : List ℕ) (ended : Bool) (p : ℕ) → letter_at (record { bytes = b ∷ bs; ended = ended }) (suc p) ≡ letter_at (record { bytes = bs; ended = ended }) p
letter_behind b bs ended p = grind arith

place : (bs : List ℕ) (ended : Bool) (p : ℕ) → slice_get (letters (record { bytes = bs; ended = ended })) p ≡ letter_at (record { bytes = bs; ended = ended }) p
place [] true zero = refl
place [] true (suc p) = grind arith
place [] false p = grind arith
place (b ∷ bs) ended zero = grind arith
place (b ∷ bs) ended (suc p) = place bs ended p ∙ sym (letter_behind b bs ended p)

begins_by_place : (xs ys : List Letter) → ((p : ℕ) (x : Letter) → slice_get xs p ≡ Some x → slice_get ys p ≡ Some x) → (more : List Letter) × (ys ≡ xs ++ more)
begins_by_place [] ys h = (ys, refl)
begins_by_place (x ∷ xs) [] h = let e = h 0 x refl in cc
begins_by_place (x ∷ xs) (y ∷ ys) h =
    let e = h 0 x refl in
    let rest = begins_by_place xs ys (λ p z g. h (suc p) z g) in
    (rest.0, cc (same_Some y x e, rest.1))

pub front : (whole : Stream) (parts : List Part) (r : List Letter) → AreOf whole parts → IsReassembly parts r → IsFront whole r
front whole parts r of re =
    let b = begins_by_place r (letters whole) (λ p l e. place whole.bytes whole.ended p ∙ (let x = re.each p l e in of x.index x.part x.is p l x.has)) in
    record { more = b.0; is = b.1 }
