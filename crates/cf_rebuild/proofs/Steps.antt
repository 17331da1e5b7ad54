-- A window by the letters at its places, which count from the first byte that is not consumed.
use Rattle.std.proofs.Common.{◌≡◌, ℕ, ◌+◌, ◌-◌, ◌<◌, ◌≤◌, ℤ, pos, negsuc, ◌+ℤ◌, Bool, true, false, List, ◌∷◌, ◌++◌, length, take, drop, get_or, Option, Some, None, refl, sym, ◌∙◌, ap, arith}
use Rattle.std.specs.Option.{option_or}
use Rattle.std.proofs.Math.Seq.{take-add}
use Rattle.std.proofs.lemmas.Bool.{cases_lt, le-ltb, lt-ltb}
use Rattle.std.proofs.lemmas.Int.{ints}
use Rattle.std.proofs.lemmas.List.{length-take-le, length-drop, get_or-take, get_or-drop, drop-take}
use Rattle.cf_stream.specs.FirstCopy.{Offer, offered}
use Rattle.cf_stream.specs.Stream.{Stream, Letter, Byte, End, letter_from, Extends}
use Rattle.cf_rebuild.specs.ReceiveWindow.{Window, IsWindow, TakesIn, Consumes, IsWindowOf, filled, bytes_taken, unread}
use Rattle.cf_rebuild.proofs.Windows.{filled_past, window_after, stands_after, unread_grows, window_consumed, stands_consumed}
use Rattle.std.proofs.lemmas.Grind.{common_steps}

-- the letters of a text, counted from a place on
letter_from_shift : (y z : ℤ) (s : Stream) (n k : ℕ) → y +ℤ pos n ≡ z → letter_from y s k ≡ letter_from z s (n + k)
letter_from_shift (pos a) (pos b) s n k e = grind (arith, ints, common_steps, cases_lt, lt-ltb, le-ltb)
letter_from_shift (negsuc a) (pos b) s n k e = grind (arith, ints, common_steps, le-ltb)
letter_from_shift (negsuc a) (negsuc b) s n k e = grind (arith, ints, common_steps)
letter_from_shift (pos a) (negsuc b) s n k e = absurd (omega (arith, ints, e))

offered_shift : (y z : ℤ) (s : Stream) (n edge k : ℕ) → y +ℤ pos n ≡ z → n ≤ edge → offered (record { at = y; text = s; edge = edge - n }) k ≡ offered (record { at = z; text = s; edge = edge }) (n + k)
offered_shift y z s n edge k e l = grind (arith, common_steps, letter_from_shift, cases_lt, lt-ltb, le-ltb)

-- the window of these bytes, of which the first `ready` were taken, and of what is kept after them
abbrev pub seen : List ℕ → List (Option Letter) → ℕ → ℕ → ℕ → Bool → Window
seen bs ahead ready consumed edge ended = record { consumed = consumed; pending = take ready bs; ended = ended; ahead = ahead; edge = edge }

abbrev pub offer_of : ℤ → List ℕ → Bool → ℕ → Offer
offer_of at bytes ended edge = record { at = at; text = record { bytes = bytes; ended = ended }; edge = edge }

-- all that an offer does to a window
pub record Took (was : Window) (o : Offer) (is : Window) : Type 0 where
  pub window : IsWindow is
  pub takes : TakesIn was o is
  pub stands : (offers : List Offer) → IsWindowOf was offers → IsWindowOf is (o ∷ offers)
  pub grows : Extends (unread was) (unread is)

-- places that kept what was offered at z, which is y after the consumed bytes, and the first gap after that
module _ (at at' : ℕ → Option Letter) (bs bs' : List ℕ) (ahead ahead' : List (Option Letter)) (ready gap consumed edge : ℕ) (ended ended' : Bool) (y z : ℤ) (text : Stream)
    (shows : (k : ℕ) → get_or ahead k None ≡ at (ready + k))
    (shows' : (k : ℕ) → get_or ahead' k None ≡ at' (gap + k))
    (start : y +ℤ pos consumed ≡ z)
    (old : IsWindow (seen bs ahead ready consumed edge ended))
    (inside : ready ≤ length bs)
    (inside' : gap ≤ length bs')
    (range : (ready ≤ gap) × (gap ≤ edge - consumed))
    (kept : (k : ℕ) → ready ≤ k → at' k ≡ option_or (at k) (offered (record { at = y; text = text; edge = edge - consumed }) k))
    (front : take ready bs' ≡ take ready bs)
    (taken : (k : ℕ) → ready ≤ k → k < gap → at' k ≡ Some (Byte (get_or bs' k 0)))
    (at_end : ended' ≡ true → (gap < edge - consumed) × (at' gap ≡ Some End))
    (at_gap : ended' ≡ false → gap < edge - consumed → at' gap ≡ None) where
  abbrev was : Window
  was = seen bs ahead ready consumed edge ended

  abbrev is : Window
  is = seen bs' ahead' gap consumed edge ended'

  abbrev o : Offer
  o = record { at = z; text = text; edge = edge }

  abbrev more : List ℕ
  more = take (gap - ready) (drop ready bs')

  length-more : length more ≡ gap - ready
  length-more = length-take-le (gap - ready) (drop ready bs') (simp length-drop (omega (arith, range.0)))

  taken_before : bytes_taken was ≡ consumed + ready
  taken_before = ap (λ (n : ℕ). consumed + n) (length-take-le ready bs inside)

  opened : consumed ≤ edge
  opened = omega (arith, old.base)

  filled-cell : (k : ℕ) → filled was o k ≡ at' (ready + k)
  filled-cell k =
      let place : consumed + (ready + k) ≡ consumed + ready + k = omega arith in
      sym
      (kept (ready + k) (omega arith)
      ∙ rw (sym (shows k), offered_shift y z text consumed edge (ready + k) start opened, taken_before, place))

  filled_at : (k n : ℕ) → ready + k ≡ n → filled was o k ≡ at' n
  filled_at k n e = filled-cell k ∙ ap at' e

  to_gap : ready + length more ≡ gap
  to_gap = omega (arith, length-more, range.0)

  byte_more : (k : ℕ) → k < length more → filled was o k ≡ Some (Byte (get_or more k 0))
  byte_more k l = grind (arith, common_steps, length-more, filled-cell, get_or-take, get_or-drop)

  nothing_at_gap : ended' ≡ false → filled was o (length more) ≡ None
  nothing_at_gap e = grind (arith, common_steps, cases_lt, filled_at, to_gap, filled_past, taken_before)

  takes_in : TakesIn was o is
  takes_in = record {
    more = more;
    taken = record {
      bytes = byte_more;
      ended = λ e. filled_at (length more) gap to_gap ∙ (at_end e).1;
      unfinished = nothing_at_gap;
    };
    pending = (let sum : ready + (gap - ready) ≡ gap = omega (arith, range.0) in
        ap (λ (n : ℕ). take n bs') (sym sum)
        ∙ take-add ready (gap - ready) bs'
        ∙ ap (λ (xs : List ℕ). xs ++ more) front);
    ahead = λ k. shows' k ∙ sym (filled_at (length more + k) (gap + k) (omega (arith, to_gap)));
    consumed = refl;
    edge = refl;
  }

  pub took : Took was o is
  took = record {
    window = window_after was is o old takes_in refl;
    takes = takes_in;
    stands = λ offers s. stands_after was is o old takes_in refl offers s;
    grows = unread_grows was is o old takes_in refl;
  }

-- all that consuming does to a window
pub record Used (was : Window) (n : ℕ) (is : Window) : Type 0 where
  pub window : IsWindow is
  pub consumes : Consumes was n is
  pub stands : (offers : List Offer) → IsWindowOf was offers → IsWindowOf is offers

-- places of which the first n were consumed
module _ (at at' : ℕ → Option Letter) (bs bs' : List ℕ) (ahead ahead' : List (Option Letter)) (ready n consumed edge : ℕ) (ended : Bool)
    (shows : (k : ℕ) → get_or ahead k None ≡ at (ready + k))
    (shows' : (k : ℕ) → get_or ahead' k None ≡ at' ((ready - n) + k))
    (old : IsWindow (seen bs ahead ready consumed edge ended))
    (inside : ready ≤ length bs)
    (enough : n ≤ ready)
    (moved : (k : ℕ) → at' k ≡ at (n + k))
    (front : take (ready - n) bs' ≡ take (ready - n) (drop n bs)) where
  abbrev left : ℕ
  left = ready - n

  n_left : n + left ≡ ready
  n_left = omega arith

  consumes : Consumes (seen bs ahead ready consumed edge ended) n (seen bs' ahead' left (consumed + n) edge ended)
  consumes = record {
    pending = front ∙ sym (drop-take n left bs) ∙ ap (λ (m : ℕ). drop n (take m bs)) n_left;
    consumed = refl;
    ended = refl;
    edge = refl;
    ahead = λ k. (let place : n + (left + k) ≡ ready + k = omega arith in
        shows' k ∙ moved (left + k) ∙ ap at place ∙ sym (shows k));
  }

  pub used : Used (seen bs ahead ready consumed edge ended) n (seen bs' ahead' left (consumed + n) edge ended)
  used =
      let fits : n ≤ length (take ready bs) = omega (arith, length-take-le ready bs inside) in
      record {
        window = window_consumed _ _ n fits consumes old;
        consumes = consumes;
        stands = stands_consumed _ _ n fits consumes;
      }
