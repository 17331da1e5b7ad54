-- What the two halves of a session's event send and log, where one of them is not there.
use Rattle.std.proofs.Common.{◌≡◌, ℕ, ◌&&◌, Bool, true, false, not, List, [], ◌∷◌, ◌++◌, length, drop, cond, Option, Some, None, refl, sym, ap, ◌∙◌, nat_le, nat_lt}
use Rattle.cf_isolation.proofs.Common.{CutReason, Ends, Flow, IsBeginning, IsPacket, IsRight, IsTick, LegEvent, PacketValue, Role, SessionEvent, Side, append-nil, at, client_ends, controller_ends, is_first_half, logged_first, logged_second, moment, said_by, sent_first, sent_second}
use Rattle.std.proofs.Math.Seq.{drop-length}
use Rattle.cf_audit.specs.Line.{Close, Cut}
use Rattle.cf_leg.specs.Emits.{fired_at, repeats}
use Rattle.cf_leg.specs.Event.{Ending, Nothing, Unspoken, is_idle}
use Rattle.cf_leg.specs.Heard.{acked, acked_by, end_state}
use Rattle.cf_leg.specs.Timer.{armed, due, tries}
use Rattle.cf_session.specs.Event.{EndsTick, GoesOnFromHalf}
use Rattle.cf_session.specs.Sent.{cut_line, early, last_line, late, line, new_lines}
use Rattle.cf_session.specs.Session.{clients, closed_at, controllers, history, is_closed, was_closed}
use Rattle.cf_session.specs.Work.{Work}
use Rattle.cf_view.specs.declared.Side.TheVariants as side

-- ---- a leg

fired_same : (ends : Ends) (es : List LegEvent) (half e : LegEvent) → GoesOnFromHalf half e → fired_at ends es e ≡ fired_at ends es half
fired_same ends es half e on =
    ap (λ b. cond ((b && (armed ends.role es && nat_le (due ends.role es) e.tick)) && nat_lt (tries ends.role es) 6) (repeats ends es) []) on.1
    ∙ ap (λ n. cond ((half.ticked && (armed ends.role es && nat_le (due ends.role es) n)) && nat_lt (tries ends.role es) 6) (repeats ends es) []) on.0

same_fired : (ends : Ends) (es : List LegEvent) (half e : LegEvent) → IsRight ends es half → IsRight ends es e → GoesOnFromHalf half e → e.fired ≡ half.fired
same_fired ends es half e h g on = g.fired ∙ fired_same ends es half e on ∙ sym h.fired

unspoken : (c : Option CutReason) (x : Ending) → c ≡ None → EndsTick c x → x ≡ Unspoken
unspoken None x e h = h
unspoken (Some r) x e h = cc

acked_still : (r : Role) (e : LegEvent) (es : List LegEvent) → e.came ≡ Nothing → acked r (e ∷ es) ≡ acked r es
acked_still r e es h = ap (λ c. acked_by (end_state r es e) c (acked r es)) h

module _ (f : Flow) where
  -- ---- the first half of an event that goes on with a packet

  packet_half : (limit : ℕ) (es : List SessionEvent) (half : SessionEvent) (s : Side) (p : PacketValue) (e : SessionEvent) → IsPacket f limit es half s p e → is_first_half e ≡ false
  packet_half limit es half side.Client p e h = ap (λ c. is_idle c && is_idle e.client.came) h.controller_came ∙ ap is_idle h.client_came
  packet_half limit es half side.Controller p e h = ap (λ c. is_idle c && is_idle e.client.came) h.controller_came

  tick_half : (es : List SessionEvent) (tick : ℕ) (t : SessionEvent) → IsTick f es tick t → is_first_half t ≡ true
  tick_half es tick t h = ap (λ c. is_idle c && is_idle t.client.came) h.controller_came ∙ ap is_idle h.client_came

  pub same_sent : (limit tick : ℕ) (es : List SessionEvent) (half : SessionEvent) (s : Side) (p : PacketValue) (e : SessionEvent) → IsTick f es tick half → half.cut ≡ None →
      IsPacket f limit es half s p e → sent_first e ≡ sent_first half
  same_sent limit tick es half s p e h none g =
      let c = same_fired (controller_ends f) (controllers es) half.controller e.controller h.right.controller g.right.controller g.controller_on in
      let k = same_fired (client_ends f) (clients es) half.client e.client h.right.client g.right.client g.client_on in
      let cx = unspoken half.cut half.controller.ending none h.controller_ending in
      let kx = unspoken half.cut half.client.ending none h.client_ending in
      ap (λ b. at e.client.tick (early b e.controller ++ early b e.client)) (packet_half limit es half s p e g)
      ∙ ap (λ n. at n ((e.controller.fired ++ []) ++ (e.client.fired ++ []))) g.client_on.0
      ∙ ap (λ l. at half.client.tick ((l ++ []) ++ (e.client.fired ++ []))) c ∙ ap (λ l. at half.client.tick ((half.controller.fired ++ []) ++ (l ++ []))) k
      ∙ sym (ap (λ b. at half.client.tick (early b half.controller ++ early b half.client)) (tick_half es tick half h)
      ∙ ap (λ x. at half.client.tick ((half.controller.fired ++ said_by x) ++ (half.client.fired ++ said_by half.client.ending))) cx
      ∙ ap (λ x. at half.client.tick ((half.controller.fired ++ []) ++ (half.client.fired ++ said_by x))) kx)

  pub same_logged : (limit tick : ℕ) (es : List SessionEvent) (half : SessionEvent) (s : Side) (p : PacketValue) (e : SessionEvent) → IsTick f es tick half → half.cut ≡ None →
      IsPacket f limit es half s p e → logged_first f e ≡ logged_first f half
  same_logged limit tick es half s p e h none g =
      ap (λ b. cond b (cut_line f e.client.tick e.cut) []) (packet_half limit es half s p e g)
      ∙ sym (ap (λ b. cond b (cut_line f half.client.tick half.cut) []) (tick_half es tick half h) ∙ ap (cut_line f half.client.tick) none)

  -- ---- the second half of an event without a packet

  pub none_sent : (es : List SessionEvent) (tick : ℕ) (t : SessionEvent) → IsTick f es tick t → sent_second t ≡ []
  none_sent es tick t h =
      ap (λ b. at (moment t.client) (late b t.controller ++ late b t.client)) (tick_half es tick t h)
      ∙ rw (h.controller_came, h.client_came) refl

  closed_still : (es : List SessionEvent) (tick : ℕ) (t : SessionEvent) → IsTick f es tick t → is_closed f (t ∷ es) ≡ is_closed f es
  closed_still es tick t h =
      let a = acked_still (client_ends f).role t.client (clients es) h.client_came in
      let b = acked_still (controller_ends f).role t.controller (controllers es) h.controller_came in
      let hist : history (t ∷ es) ≡ history es = ap (λ l. history es ++ l) h.fed ∙ append-nil (history es) in
      rw (hist, h.work, a, b) refl

  closed_before : (d : SessionEvent) (es : List SessionEvent) (b : Bool) (o : Option ℕ) → is_closed f (d ∷ es) ≡ b → closed_at f es ≡ o → (is_closed f (d ∷ es) && not (was_closed f (d ∷ es))) ≡ false
  closed_before d es false o e g = ap (λ b. b && not (was_closed f (d ∷ es))) e
  closed_before d es true None e g = rw (e, g) refl
  closed_before d es true (Some n) e g = rw (e, g) refl

  no_closing : (d : SessionEvent) (es : List SessionEvent) (tick : ℕ) (t : SessionEvent) → IsTick f (d ∷ es) tick t → (c : Option CutReason) → last_line f (d ∷ es) t c ≡ []
  no_closing d es tick t h None =
      let lines = line f (moment t.client) (Close t.work.admitted t.work.refused) ∷ [] in
      ap (λ b. cond (b && not (was_closed f (d ∷ es))) lines []) (closed_still (d ∷ es) tick t h) ∙ ap (λ b. cond b lines []) (closed_before d es _ _ refl refl)
  no_closing d es tick t h (Some because) = ap (λ b. cond b [] (line f (moment t.client) (Cut because) ∷ [])) (tick_half (d ∷ es) tick t h)

  pub none_logged : (d : SessionEvent) (es : List SessionEvent) (tick : ℕ) (t : SessionEvent) → IsTick f (d ∷ es) tick t → logged_second f (d ∷ es) t ≡ []
  none_logged d es tick t h =
      let new : new_lines (d ∷ es) t ≡ [] = ap (λ (w : Work). drop (length d.work.log) w.log) h.work ∙ drop-length d.work.log in
      ap (λ l. ([] ++ l) ++ last_line f (d ∷ es) t t.cut) new ∙ no_closing d es tick t h t.cut

  -- ---- the first half of the event in which the session begins

  pub begins_sent : (tick : ℕ) (e : SessionEvent) → IsBeginning f tick e → sent_first e ≡ []
  begins_sent tick e h = rw (h.controller, h.client) refl

  pub begins_logged : (tick : ℕ) (e : SessionEvent) → IsBeginning f tick e → logged_first f e ≡ []
  begins_logged tick e h = rw h.controller refl
