-- Two lists of right events in which the same is asked are one.
use Rattle.std.proofs.Common.{◌≡◌, ℕ, Bool, cond, List, [], ◌∷◌, refl, sym, ◌∙◌, ap, subst}
use Rattle.cf_packet.specs.Packet.{PacketValue}
use Rattle.cf_stream.proofs.Taken.{same_taken}
use Rattle.cf_stream.specs.FirstCopy.{first_copy}
use Rattle.cf_stream.specs.Position.{sequence_number}
use Rattle.cf_stream.specs.Stream.{Stream, letter_count}
use Rattle.cf_leg.proofs.Events.{own_same, peer_same}
use Rattle.cf_leg.proofs.Fixed.{same_speech}
use Rattle.cf_leg.specs.Asked.{AllAsked, SameAsked, SameCame, SameEnding}
use Rattle.cf_leg.specs.Emits.{AllRight, Cuts, Greets, IsGreeting, IsRight, cut_packet, fired_at, rst, syn_ack_for}
use Rattle.cf_leg.specs.Event.{Came, Nothing, Greeting, Packet, Ending, Unspoken, Spoke, Cut, LegEvent}
use Rattle.cf_leg.specs.Heard.{offers, opened}
use Rattle.cf_leg.specs.Told.{is_greeted, letters_sent_at}
use Rattle.cf_leg.specs.declared.ends.Ends.{Ends}
use Rattle.cf_leg.specs.declared.ends.Role.{Role}
use Rattle.cf_leg.specs.declared.ends.Role.TheVariants as role

same_greeting : (ends : Ends) (r : Role) (p q : PacketValue) → IsGreeting ends r p → IsGreeting ends r q → p.seq ≡ q.seq → p ≡ q
same_greeting ends (role.Active own) p q h k e = h ∙ sym k
same_greeting ends (role.Passive other mss) p q h k e = h ∙ ap (λ (n : ℕ). syn_ack_for ends other n) e ∙ sym k

same_came : (ends : Ends) (es : List LegEvent) (c d : Came) → Greets ends es c → Greets ends es d → SameCame c d → c ≡ d
same_came ends es Nothing Nothing g h s = refl
same_came ends es (Packet p) (Packet q) g h s = ap Packet s
same_came ends es (Greeting p) (Greeting q) g h s = ap Greeting (same_greeting ends ends.role p q g.0 h.0 s)
same_came ends es Nothing (Packet q) g h s = absurd s
same_came ends es Nothing (Greeting q) g h s = absurd s
same_came ends es (Packet p) Nothing g h s = absurd s
same_came ends es (Packet p) (Greeting q) g h s = absurd s
same_came ends es (Greeting p) Nothing g h s = absurd s
same_came ends es (Greeting p) (Packet q) g h s = absurd s

same_cut : (ends : Ends) (es : List LegEvent) (e : LegEvent) (p q : PacketValue) → Cuts ends es (record e { ending = Cut p }) p → Cuts ends es (record e { ending = Cut q }) q → p ≡ q
same_cut ends es e p q h k =
    h.rst ∙ ap (λ (s : Stream). cut_packet ends (record e { ending = Cut p } ∷ es) (letters_sent_at ends.role es e) (letter_count s) ends.role) took
    ∙ by ends.role ∙ sym k.rst
  where
    took : h.taken ≡ k.taken
    took = same_taken (first_copy (offers ends.role (record e { ending = Cut p } ∷ es))) h.taken k.taken h.is_taken k.is_taken

    by : (r : Role) → cut_packet ends (record e { ending = Cut p } ∷ es) (letters_sent_at ends.role es e) (letter_count k.taken) r ≡ cut_packet ends (record e { ending = Cut q } ∷ es) (letters_sent_at ends.role es e) (letter_count k.taken) r
    by (role.Active own) =
        ap (λ (n : ℕ). cond (opened ends.role (record e { ending = Cut p } ∷ es)) (rst ends (sequence_number own (letters_sent_at ends.role es e)) (sequence_number n (letter_count k.taken)) 20) (rst ends (sequence_number own 0) 0 4))
        (peer_same e es (Cut p) ends.role ∙ sym (peer_same e es (Cut q) ends.role))
    by (role.Passive other mss) =
        ap (λ (n : ℕ). cond (is_greeted (record e { ending = Cut p } ∷ es)) (rst ends (sequence_number n (letters_sent_at ends.role es e)) (sequence_number other (letter_count k.taken)) 20) (rst ends 0 (sequence_number other 0) 20))
        (own_same e es (Cut p) ends.role ∙ sym (own_same e es (Cut q) ends.role))

same_ending : (ends : Ends) (es : List LegEvent) (e : LegEvent) (m n : Ending) → IsRight ends es (record e { ending = m }) → IsRight ends es (record e { ending = n }) → SameEnding m n → m ≡ n
same_ending ends es e Unspoken Unspoken h k s = refl
same_ending ends es e (Cut p) (Cut q) h k s = ap Cut (same_cut ends es e p q h.ending k.ending)
same_ending ends es e (Spoke whole roomy xs) (Spoke there room ys) h k s =
    let moved = subst (λ (u : Stream). IsRight ends es (record e { ending = Spoke u room ys })) (sym s.0) k in
    let same = subst (λ (b : Bool). IsRight ends es (record e { ending = Spoke whole b ys })) (sym s.1) moved in
    ap (λ (ps : List PacketValue). Spoke whole roomy ps) (same_speech ends es e whole roomy xs ys h same)
    ∙ ap (λ (u : Stream). Spoke u roomy ys) s.0 ∙ ap (λ (b : Bool). Spoke there b ys) s.1
same_ending ends es e Unspoken (Cut q) h k s = absurd s
same_ending ends es e Unspoken (Spoke there room ys) h k s = absurd s
same_ending ends es e (Cut p) Unspoken h k s = absurd s
same_ending ends es e (Cut p) (Spoke there room ys) h k s = absurd s
same_ending ends es e (Spoke whole roomy xs) Unspoken h k s = absurd s
same_ending ends es e (Spoke whole roomy xs) (Cut q) h k s = absurd s

same_event : (ends : Ends) (es : List LegEvent) (e f : LegEvent) → IsRight ends es e → IsRight ends es f → SameAsked e f → e ≡ f
same_event ends es e f h k s =
    moved ∙ ap (λ (n : Ending). record f { ending = n }) (same_ending ends es f e.ending f.ending (subst (λ (x : LegEvent). IsRight ends es x) moved h) k s.ending)
  where
    fired : e.fired ≡ f.fired
    fired =
        h.fired ∙ (let x : fired_at ends es e ≡ fired_at ends es f = rw (s.tick, s.ticked) refl in x) ∙ sym k.fired

    moved : e ≡ record f { ending = e.ending }
    moved =
        rw (s.tick, s.ticked, fired, same_came ends es e.came f.came h.came k.came s.came) refl

pub same_events : (ends : Ends) (es fs : List LegEvent) → AllRight ends es → AllRight ends fs → AllAsked es fs → es ≡ fs
same_events ends [] [] a b s = refl
same_events ends [] (f ∷ fs) a b s = absurd s
same_events ends (e ∷ es) [] a b s = absurd s
same_events ends (e ∷ es) (f ∷ fs) a b s =
    let same = same_events ends es fs a.1 b.1 s.1 in
    ap (λ (x : LegEvent). x ∷ es) (same_event ends es e f a.0 (subst (λ (xs : List LegEvent). IsRight ends xs f) (sym same) b.0) s.0)
    ∙ ap (λ (xs : List LegEvent). f ∷ xs) same
