-- All segments of an end carry one stream.
use Rattle.std.proofs.lemmas.Option.{none-some}
use Rattle.std.proofs.Common.{◌≡◌, ℕ, ◌+◌, ◌^◌, ◌<◌, ◌≤◌, max, Bool, true, false, cond, List, [], ◌∷◌, length, refl, sym, ◌∙◌, ap, arith, pos, inl, inr, Option, Some, None, ◌+ℤ◌}
use Rattle.std.specs.Option.{option_or}
use Rattle.std.proofs.lemmas.Bool.{cases_lt, cases_Bool}
use Rattle.std.proofs.lemmas.List.{length-append}
use Rattle.cf_packet.specs.Packet.{PacketValue}
use Rattle.cf_stream.proofs.Extends.{extends_both}
use Rattle.cf_stream.specs.Position.{place_or_zero}
use Rattle.cf_stream.specs.Stream.{Stream, Letter, Extends, letter_at, letter_count}
use Rattle.cf_leg.proofs.Carried.{some_left, some_right}
use Rattle.cf_leg.proofs.Sent.{event_goes, fired_repeats}
use Rattle.cf_leg.specs.Emits.{AllRight}
use Rattle.cf_leg.specs.Event.{Came, Nothing, Greeting, Packet, LegEvent, sent_in, stream_after}
use Rattle.cf_leg.specs.Heard.{ack_place, counts, end_state, opens, shown, shown_by}
use Rattle.cf_leg.specs.OneStream.{CarryAll, Grows, IsOneStream, IsRightRun, first_carried, first_in, letter_in}
use Rattle.cf_leg.specs.Told.{letters_sent, letters_sent_at, letters_sent_by, own_number}
use Rattle.cf_leg.specs.declared.ends.EndState.{EndState}
use Rattle.cf_leg.specs.declared.ends.Ends.{Ends}
use Rattle.cf_leg.specs.declared.ends.Role.{Role}

pub count_grows : (s t : Stream) → Extends s t → letter_count s ≤ letter_count t
count_grows s t x =
    elim (cases_Bool s.ended) [
      | inl b ↦ (let same = ap (λ (u : Stream). letter_count u) (x.ended b) in omega (arith, same))
      | inr b ↦ (let long : length t.bytes ≡ length s.bytes + length x.more = rw x.bytes (length-append s.bytes x.more) in rw b (omega (arith, long)))
    ]

pub shown_grows : (at : EndState) (c : Came) (before : ℕ) → before ≤ shown_by at c before
shown_grows at Nothing before = omega arith
shown_grows at (Greeting p) before = omega arith
shown_grows at (Packet p) before = by (counts at p) (opens at (Packet p))
  where
    by : (b o : Bool) → before ≤ cond b (max before (place_or_zero (ack_place at p +ℤ pos p.window))) (cond o (max before p.window) before)
    by true o = omega arith
    by false true = omega arith
    by false false = omega arith

-- what holds along a list of right events
pub record Along (ends : Ends) (es : List LegEvent) (whole : Stream) : Type 0 where
  pub one : IsOneStream whole ends.role es
  pub within : letters_sent ends.role es ≤ letter_count (stream_after es)
  pub below : letters_sent ends.role es ≤ shown ends.role es
  pub some : (q : ℕ) → q < letters_sent ends.role es → (l : Letter) × (first_carried ends.role es q ≡ Some l)

pub along : (ends : Ends) (es : List LegEvent) (whole : Stream) → AllRight ends es → Grows es → Extends (stream_after es) whole → letter_count whole ≤ 2 ^ 31 → Along ends es whole
along ends [] whole a g x m = record { one = tt; within = omega arith; below = omega arith; some = λ q l. absurd (omega (arith, l)) }
along ends (e ∷ es) whole a g x m =
    let y = extends_both (stream_after es) (stream_after (e ∷ es)) whole g.0 x in
    let h = along ends es whole a.1 g.1 y m in
    let f = fired_repeats ends es a.1 whole y m h.within (count_grows (stream_after es) whole y) e a.0.fired in
    let s = event_goes ends es e whole a.0 x in
    let longer = count_grows (stream_after es) (stream_after (e ∷ es)) g.0 in
    let wider = shown_grows (end_state ends.role es e) e.came (shown ends.role es) in
    record {
      one = (f.carries, s.carries, h.one);
      within = omega (arith, s.high, f.same, h.within, longer);
      below = omega (arith, s.high, f.same, h.below, wider);
      some = λ q l.
          elim (cases_lt q (letters_sent ends.role es)) [
            | inl v ↦ (let old = h.some q v in
                some_left (first_carried ends.role es q)
                (option_or (first_in (own_number ends.role es) (letters_sent ends.role es) e.fired q) (first_in (own_number ends.role (e ∷ es)) (letters_sent_at ends.role es e) (sent_in e) q)) old.0 old.1)
            | inr v ↦ (let here = s.some q (omega (arith, f.same, v)) l in
                some_right (first_carried ends.role es q) _ (some_right (first_in (own_number ends.role es) (letters_sent ends.role es) e.fired q) _ here))
          ];
    }

-- ---- what went out first is the stream's
first_of : (whole : Stream) (own sent : ℕ) (ps : List PacketValue) (q : ℕ) (l : Letter) → CarryAll whole own sent ps → first_in own sent ps q ≡ Some l → letter_at whole q ≡ Some l
first_of whole own sent [] q l c e = absurd (none-some l e)
first_of whole own sent (p ∷ ps) q l c e = by (first_of whole own (letters_sent_by own sent p) ps q l c.1) (letter_in own sent p q) refl e
  where
    by : (first_in own (letters_sent_by own sent p) ps q ≡ Some l → letter_at whole q ≡ Some l) → (o : Option Letter) → letter_in own sent p q ≡ o
        → option_or o (first_in own (letters_sent_by own sent p) ps q) ≡ Some l → letter_at whole q ≡ Some l
    by rest None k f = rest f
    by rest (Some x) k f = c.0 q l (k ∙ f)

pub carried_of : (whole : Stream) (r : Role) (es : List LegEvent) (q : ℕ) (l : Letter) → IsOneStream whole r es → first_carried r es q ≡ Some l → letter_at whole q ≡ Some l
carried_of whole r [] q l c e = first_of whole 0 0 [] q l tt e
carried_of whole r (e ∷ es) q l c k = by (carried_of whole r es q l c.2) (first_carried r es q) refl k
  where
    two : (o : Option Letter) → first_in (own_number r es) (letters_sent r es) e.fired q ≡ o → option_or o (first_in (own_number r (e ∷ es)) (letters_sent_at r es e) (sent_in e) q) ≡ Some l → letter_at whole q ≡ Some l
    two None m n = first_of whole (own_number r (e ∷ es)) (letters_sent_at r es e) (sent_in e) q l c.1 n
    two (Some x) m n = first_of whole (own_number r es) (letters_sent r es) e.fired q l c.0 (m ∙ n)

    by : (first_carried r es q ≡ Some l → letter_at whole q ≡ Some l) → (o : Option Letter) → first_carried r es q ≡ o
        → option_or o (option_or (first_in (own_number r es) (letters_sent r es) e.fired q) (first_in (own_number r (e ∷ es)) (letters_sent_at r es e) (sent_in e) q)) ≡ Some l → letter_at whole q ≡ Some l
    by rest None m n = two (first_in (own_number r es) (letters_sent r es) e.fired q) refl n
    by rest (Some x) m n = rest (m ∙ n)

pub along_run : (ends : Ends) (es : List LegEvent) (whole : Stream) → IsRightRun ends es whole → Along ends es whole
along_run ends es whole r = along ends es whole r.right r.grows r.on r.limit

-- ---- a repeat carries what was carried
pub repeat_is_old : (ends : Ends) (e : LegEvent) (es : List LegEvent) (whole : Stream) (q : ℕ) (l : Letter) → IsRightRun ends (e ∷ es) whole
    → first_in (own_number ends.role es) (letters_sent ends.role es) e.fired q ≡ Some l → first_carried ends.role es q ≡ Some l
repeat_is_old ends e es whole q l r k =
    let x = extends_both (stream_after es) (stream_after (e ∷ es)) whole r.grows.0 r.on in
    let h = along ends es whole r.right.1 r.grows.1 x r.limit in
    let f = fired_repeats ends es r.right.1 whole x r.limit h.within (count_grows (stream_after es) whole x) e r.right.0.fired in
    let there = first_of whole (own_number ends.role es) (letters_sent ends.role es) e.fired q l f.carries k in
    let old = h.some q (f.old q l k) in
    let same = carried_of whole ends.role es q old.0 h.one old.1 in
    old.1 ∙ sym same ∙ there
