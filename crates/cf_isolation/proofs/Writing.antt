-- What holds of every segment that an end sends. First, that it may be written.
use Rattle.std.proofs.Common.{◌≡◌, ℕ, ◌+◌, ◌-◌, ◌<◌, ◌≤◌, ◌==◌, ◌&&◌, Bool, true, false, min, inl, inr, List, [], ◌∷◌, length, drop, Option, Some, None, refl, sym, subst, length-take, arith, MatchBool, if◌then◌else◌, nat_lt}
use Rattle.cf_isolation.proofs.Common.{AllByRecursion, AllRight, Ends, IsRight, IsWritable, LegEvent, PacketValue, Role, said_by}
use Rattle.std.specs.Prelude.{⊤}
use Rattle.std.specs.Option.{option_or}
use Rattle.std.proofs.lemmas.Bool.{cases_Bool}
use Rattle.cf_leg.specs.Emits.{EndsBy, Greets, IsGreeting, Pieces, SpeaksOpen, again, cut_packet, fired_at, peer_mss, piece, repeat_open, repeats, rst, send_mss, way_of}
use Rattle.cf_leg.specs.Event.{Came, Cut, Ending, Greeting, Nothing, Packet, Spoke, Unspoken, greeted_by, stream_after}
use Rattle.cf_leg.specs.Heard.{acked, opened}
use Rattle.cf_leg.specs.Segment.{segment}
use Rattle.cf_leg.specs.Timer.{fires, tries}
use Rattle.cf_leg.specs.Told.{greeting, greeting_in, is_greeted, letters_sent, told}
use Rattle.cf_leg.specs.declared.ends.Advertised.{Advertised}
use Rattle.cf_leg.specs.declared.ends.Way.{Way}
use Rattle.cf_stream.specs.Stream.{Stream, letter_count, no_letters}
use Rattle.cf_leg.specs.declared.ends.Role.TheVariants as role

-- what an event sends, by its three parts
pub record Sends (P : PacketValue → Type 0) (e : LegEvent) : Type 0 where
  pub fired : AllByRecursion P e.fired
  pub greeted : AllByRecursion P (greeted_by e.came)
  pub said : AllByRecursion P (said_by e.ending)

mss_small : (o : Option ℕ) → send_mss o ≤ 1460
mss_small None = omega arith
mss_small (Some m) = omega arith

piece_short : (whole : Stream) (mss edge from : ℕ) → mss ≤ 1460 → length (piece whole mss edge from).bytes ≤ 1460
piece_short whole mss edge from h =
    let n = min mss (min edge (length whole.bytes) - from) in
    let a = length-take n (drop from whole.bytes) in
    omega (arith, a, h)

abbrev pub IfSome : (PacketValue → Type 0) → Option PacketValue → Type 0
IfSome P None = ⊤
IfSome P (Some p) = P p

-- what holds of greetings
module _ (ends : Ends) (P : PacketValue → Type 0) (greets : (p : PacketValue) → IsGreeting ends ends.role p → P p) where
  pub came_are : (es : List LegEvent) (c : Came) → Greets ends es c → AllByRecursion P (greeted_by c)
  came_are es Nothing h = tt
  came_are es (Greeting p) h = (greets p h.0, tt)
  came_are es (Packet p) h = tt

  or_is : (a b : Option PacketValue) → IfSome P a → IfSome P b → IfSome P (option_or a b)
  or_is None b h g = g
  or_is (Some p) b h g = h

  came_some : (es : List LegEvent) (c : Came) → Greets ends es c → IfSome P (greeting_in c)
  came_some es Nothing h = tt
  came_some es (Greeting p) h = greets p h.0
  came_some es (Packet p) h = tt

  pub greeted : (es : List LegEvent) → AllRight ends es → IfSome P (greeting es)
  greeted [] h = tt
  greeted (e ∷ es) h = or_is (greeting es) (greeting_in e.came) (greeted es h.1) (came_some es e.came h.0.came)

  pub again_are : (o : Option PacketValue) → IfSome P o → AllByRecursion P (again o)
  again_are None h = tt
  again_are (Some p) h = (h, tt)

-- what holds of segments and of RSTs
module _ (ends : Ends) (P : PacketValue → Type 0)
    (segments : (es : List LegEvent) (t : Advertised) (n : ℕ) (s : Stream) → length s.bytes ≤ 1460 → P (segment (way_of ends es) t n s))
    (resets : (number ack : ℕ) → P (rst ends number ack 20)) (takes_back : (number : ℕ) → P (rst ends number 0 4)) where
  pieces_are : (es : List LegEvent) (t : Advertised) (whole : Stream) (mss edge from : ℕ) (ps : List PacketValue) → mss ≤ 1460 → Pieces (way_of ends es) t whole mss edge from ps → AllByRecursion P ps
  pieces_are es t whole mss edge from [] h g = tt
  pieces_are es t whole mss edge from (p ∷ ps) h g = (
    subst P (sym g.1) (segments es t _ (piece whole mss edge from) (piece_short whole mss edge from h)),
    pieces_are es t whole mss edge (from + letter_count (piece whole mss edge from)) ps h g.2,
  )

  due_are : (es : List LegEvent) (t : Advertised) (n : ℕ) (due : Bool) → AllByRecursion P (if due then segment (way_of ends es) t n no_letters ∷ [] else [])
  due_are es t n true = (segments es t n no_letters (omega arith), tt)
  due_are es t n false = tt

  says_by : (b : Bool) (es : List LegEvent) (t : Advertised) (due : Bool) (whole : Stream) (mss edge from n : ℕ) (ps : List PacketValue) → mss ≤ 1460 →
      MatchBool b (Pieces (way_of ends es) t whole mss edge from ps) (ps ≡ (if due then segment (way_of ends es) t n no_letters ∷ [] else [])) → AllByRecursion P ps
  says_by true es t due whole mss edge from n ps h g = pieces_are es t whole mss edge from ps h g
  says_by false es t due whole mss edge from n ps h g = subst (AllByRecursion P) (sym g) (due_are es t n due)

  speaks_by : (b : Bool) (es : List LegEvent) (e : LegEvent) (whole : Stream) (roomy : Bool) (ps : List PacketValue) →
      MatchBool b (SpeaksOpen ends es e whole roomy ps) (ps ≡ []) → AllByRecursion P ps
  speaks_by true es e whole roomy ps g = says_by _ (e ∷ es) _ _ whole _ _ _ _ ps (mss_small (peer_mss ends.role (e ∷ es))) g.says
  speaks_by false es e whole roomy ps g = subst (AllByRecursion P) (sym g) tt

  cut_is : (es : List LegEvent) (from count : ℕ) (r : Role) → P (cut_packet ends es from count r)
  cut_is es from count (role.Active own) = elim (cases_Bool (opened ends.role es)) [ inl a ↦ rw a (resets _ _) | inr a ↦ rw a (takes_back _) ]
  cut_is es from count (role.Passive other mss) = elim (cases_Bool (is_greeted es)) [ inl a ↦ rw a (resets _ _) | inr a ↦ rw a (resets _ _) ]

  pub ending_are : (es : List LegEvent) (e : LegEvent) (x : Ending) → EndsBy ends es e x → AllByRecursion P (said_by x)
  ending_are es e Unspoken h = tt
  ending_are es e (Spoke whole roomy outs) h = speaks_by _ es e whole roomy outs h
  ending_are es e (Cut p) h = (subst P (sym h.rst) (cut_is (e ∷ es) _ _ ends.role), tt)

  pub repeat_is : (es : List LegEvent) → P (repeat_open ends es)
  repeat_is es = elim (cases_Bool (nat_lt (acked ends.role es) (letters_sent ends.role es))) [
    | inl a ↦ rw a (segments es (told ends.role es) _ (piece (stream_after es) _ _ _) (piece_short (stream_after es) _ _ _ (mss_small (peer_mss ends.role es))))
    | inr a ↦ rw a (segments es (told ends.role es) _ no_letters (omega arith))
  ]

-- what holds of all three holds of all that an end sends
module _ (ends : Ends) (P : PacketValue → Type 0)
    (segments : (es : List LegEvent) (t : Advertised) (n : ℕ) (s : Stream) → length s.bytes ≤ 1460 → P (segment (way_of ends es) t n s))
    (greets : (p : PacketValue) → IsGreeting ends ends.role p → P p)
    (resets : (number ack : ℕ) → P (rst ends number ack 20)) (takes_back : (number : ℕ) → P (rst ends number 0 4)) where
  repeats_are : (es : List LegEvent) → AllRight ends es → AllByRecursion P (repeats ends es)
  repeats_are es h = elim (cases_Bool (opened ends.role es)) [
    | inl a ↦ rw a (repeat_is ends P segments resets takes_back es, tt)
    | inr a ↦ rw a (again_are ends P greets (greeting es) (greeted ends P greets es h))
  ]

  fired_are : (es : List LegEvent) (e : LegEvent) → AllRight ends es → AllByRecursion P (fired_at ends es e)
  fired_are es e h = elim (cases_Bool (fires ends.role es e && nat_lt (tries ends.role es) 6)) [
    | inl a ↦ rw a (repeats_are es h)
    | inr a ↦ rw a tt
  ]

  pub sends_all : (es : List LegEvent) (e : LegEvent) → AllRight ends es → IsRight ends es e → Sends P e
  sends_all es e h r = record {
    fired = subst (AllByRecursion P) (sym r.fired) (fired_are es e h);
    greeted = came_are ends P greets es e.came r.came;
    said = ending_are ends P segments resets takes_back es e e.ending r.ending;
  }

-- ---- it may be written

flags_small_by : (a b : Bool) → 16 + (if a then 0 else 8) + (if b then 1 else 0) < 64
flags_small_by true true = omega arith
flags_small_by true false = omega arith
flags_small_by false true = omega arith
flags_small_by false false = omega arith

segment_writable : (way : Way) (t : Advertised) (n : ℕ) (s : Stream) → length s.bytes ≤ 1460 → IsWritable (segment way t n s)
segment_writable way t n s h = record { short = h; bare = tt; flags = flags_small_by (length s.bytes == 0) s.ended }

greeting_writable : (ends : Ends) (r : Role) (p : PacketValue) → IsGreeting ends r p → IsWritable p
greeting_writable ends (role.Active own) p h = subst IsWritable (sym h) (record { short = omega arith; bare = refl; flags = omega arith })
greeting_writable ends (role.Passive other mss) p h = subst IsWritable (sym h) (record { short = omega arith; bare = refl; flags = omega arith })

rst_writable : (ends : Ends) (number ack flags : ℕ) → flags < 64 → IsWritable (rst ends number ack flags)
rst_writable ends number ack flags h = record { short = omega arith; bare = tt; flags = h }

pub sends_writable : (ends : Ends) (es : List LegEvent) (e : LegEvent) → AllRight ends es → IsRight ends es e → Sends IsWritable e
sends_writable ends es e h r =
    sends_all ends IsWritable (λ xs t n s short. segment_writable (way_of ends xs) t n s short) (λ p g. greeting_writable ends ends.role p g)
    (λ number ack. rst_writable ends number ack 20 (omega arith)) (λ number. rst_writable ends number 0 4 (omega arith)) es e h r
