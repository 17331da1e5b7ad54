-- Which letters are taken by a packet.
use Rattle.std.proofs.Math.Bool.{or-false}
use Rattle.std.proofs.Common.{◌≡◌, ℕ, ◌≤◌, Bool, true, false, cond, ◌||◌, List, [], ◌∷◌, ◌++◌, length, drop, refl, sym, ap, ◌∙◌, subst, arith, ℤ}
use Rattle.std.proofs.lemmas.List.{append-nil, append_cancel_left, drop-append-le}
use Rattle.cf_packet.specs.Packet.{PacketValue}
use Rattle.cf_outq.specs.SendQueue.{Queue}
use Rattle.cf_rebuild.specs.ReceiveWindow.{Window, unread, IsWindowOf}
use Rattle.cf_leg.specs.Calls.{Continues, Heard, Newly, leg_counted, leg_opened, with_letters}
use Rattle.cf_leg.specs.Event.{Packet, Unspoken}
use Rattle.cf_leg.specs.Heard.{counts, end_state, offers}
use Rattle.cf_leg.specs.LegValue.{LegValue}
use Rattle.cf_leg.specs.declared.ends.Ends.{Ends}
use Rattle.cf_leg.specs.declared.ends.LegAnswer.{LegAnswer}
use Rattle.cf_stream.specs.FirstCopy.{Offer, first_copy, IsTaken}
use Rattle.cf_stream.specs.Stream.{Stream, Extends, no_letters}
use Rattle.cf_stream.proofs.FirstCopy.{first_copy-append}
use Rattle.cf_stream.proofs.Taken.{same_stream, same_taken, taken_extends}

grows : (b : Bool) (o : Offer) (os : List Offer) (s t : Stream) → IsTaken (first_copy os) s → IsTaken (first_copy (cond b (o ∷ os) os)) t → Extends s t
grows true o os s t h g = taken_extends (first_copy os) (first_copy (o ∷ os)) (first_copy-append (o ∷ []) os) s t h g
grows false o os s t h g = taken_extends (first_copy os) (first_copy os) (first_copy-append [] os) s t h g

last_is : (a b : Bool) → b ≡ false → cond a true b ≡ a
last_is true b e = refl
last_is false b e = e

module _ (w v : Window) (os : List Offer) (b : Bool) (o : Offer) (t : Stream) (old : IsWindowOf w os) (new : IsWindowOf v (cond b (o ∷ os) os)) (same : v.consumed ≡ w.consumed) (x : Extends (unread w) (unread v)) (h : IsTaken (first_copy os) t) where
  old_is : old.taken ≡ t
  old_is = same_taken (first_copy os) old.taken t old.is_taken h

  went : Extends t new.taken
  went = grows b o os t new.taken h new.is_taken

  pending_was : w.pending ≡ drop w.consumed t.bytes
  pending_was = old.pending ∙ ap (λ (s : Stream). drop w.consumed s.bytes) old_is

  below : w.consumed ≤ length t.bytes
  below = (let c = old.count in let e = ap (λ (s : Stream). length s.bytes) old_is in omega (arith, c, e))

  more_is : went.more ≡ x.more
  more_is = append_cancel_left w.pending went.more x.more
      (ap (λ xs. xs ++ went.more) pending_was ∙ sym (drop-append-le w.consumed t.bytes went.more below) ∙ ap (drop w.consumed) (sym went.bytes) ∙ ap (λ n. drop n new.taken.bytes) (sym same) ∙ sym new.pending ∙ x.bytes)

  pub taken_on : w.ended ≡ false → IsTaken (first_copy (cond b (o ∷ os) os)) (with_letters t (record { bytes = x.more; ended = v.ended }))
  taken_on open_ =
      let e : t.ended ≡ false = ap (λ (s : Stream). s.ended) (sym old_is) ∙ sym old.ended ∙ open_ in
      subst (IsTaken (first_copy (cond b (o ∷ os) os)))
      (same_stream new.taken (with_letters t (record { bytes = x.more; ended = v.ended })) (went.bytes ∙ ap (λ xs. t.bytes ++ xs) more_is) (sym new.ended ∙ sym (last_is v.ended t.ended e)))
      new.is_taken

  pub taken_still : w.ended ≡ true → IsTaken (first_copy (cond b (o ∷ os) os)) (with_letters t no_letters)
  taken_still ended_ =
      let e : t.ended ≡ true = ap (λ (s : Stream). s.ended) (sym old_is) ∙ sym old.ended ∙ ended_ in
      subst (IsTaken (first_copy (cond b (o ∷ os) os))) (went.ended e ∙ same_stream t (with_letters t no_letters) (sym (append-nil t.bytes)) refl) new.is_taken

pub newly_of : (now : ℕ) (p : PacketValue) (leg new : LegValue) (q q' : Queue) (given : LegAnswer) → Heard now p leg new q q' given → new.ends ≡ leg.ends → Continues leg.window new.window → Newly now p leg new q
newly_of now p leg new q q' given h same c = by leg.window.ended refl
  where
    by : (b : Bool) → leg.window.ended ≡ b → Newly now p leg new q
    by true k = record {
      letters = no_letters;
      pending = ap (λ (s : Stream). s.bytes) (c.unread.ended k) ∙ sym (append-nil leg.window.pending);
      ended = ap (λ (s : Stream). s.ended) (c.unread.ended k) ∙ sym (or-false leg.window.ended);
      taken = λ e es t at s g.
          (let n = subst (λ (x : Ends). IsWindowOf new.window (offers x.role (record e { came = Packet p; ending = Unspoken } ∷ es))) same (h.stands e es at s).of_window in
          taken_still leg.window new.window (offers leg.ends.role es) (counts (end_state leg.ends.role es e) p) _ t s.of_window n c.consumed c.unread g k);
    }
    by false k = record {
      letters = record { bytes = c.unread.more; ended = new.window.ended };
      pending = c.unread.bytes;
      ended = sym (ap (λ (b : Bool). b || new.window.ended) k);
      taken = λ e es t at s g.
          (let n = subst (λ (x : Ends). IsWindowOf new.window (offers x.role (record e { came = Packet p; ending = Unspoken } ∷ es))) same (h.stands e es at s).of_window in
          taken_on leg.window new.window (offers leg.ends.role es) (counts (end_state leg.ends.role es e) p) _ t s.of_window n c.consumed c.unread g k);
    }

-- ---- neither opening nor counting moves an end elsewhere
pub ends_opened : (b : Bool) (leg : LegValue) (p : PacketValue) → (leg_opened b leg p).ends ≡ leg.ends
ends_opened true leg p = refl
ends_opened false leg p = refl

pub ends_counted : (b : Bool) (leg : LegValue) (window : Window) (acked : ℕ) (ack : ℤ) (size now : ℕ) → (leg_counted b leg window acked ack size now).ends ≡ leg.ends
ends_counted true leg window acked ack size now = refl
ends_counted false leg window acked ack size now = refl
