-- What a watched flow carried is what the segments of a session carry.
use Rattle.std.proofs.Common.{◌≡◌, ◌⊎◌, ◌+ℤ◌, ℕ, ℤ, pos, negsuc, ◌-◌, ◌==◌, max, Bool, true, false, inl, inr, List, [], ◌∷◌, ◌++◌, map, None, refl, sym, ap, ◌∙◌, subst, arith, if◌then◌else◌}
use Rattle.cf_unobjected.proofs.Common.{AllByRecursion, Carried, LegEvent, Numbered, PacketValue, Stream, carried_by, cases_Bool, has_syn, letter_at, letter_count, nat_tests, none-some, packets_of, sent_in, top_of, true≢false}
use Rattle.std.proofs.lemmas.Int.{ints}
use Rattle.cf_leg.specs.OneStream.{CarryAll, IsOneStream}
use Rattle.cf_leg.specs.Segment.{letters_in, letters_of}
use Rattle.cf_leg.specs.Told.{letters_sent, letters_sent_by, letters_sent_by_all}
use Rattle.cf_stream.specs.Position.{place_or_zero, position}
use Rattle.cf_stream.specs.Stream.{Carries, letter_from}
use Rattle.cf_watch.specs.Carried.{end_of}
use Rattle.cf_watch.specs.Watched.{text_place}
use Rattle.cf_unobjected.specs.OneFlow.{carried_on}
use Rattle.cf_leg.specs.declared.ends.Role.TheVariants as role

-- a packet with SYN has no letters
abbrev pub IsPlain : PacketValue → Type 0
IsPlain p = has_syn p ≡ true → letters_of p ≡ 0

empty_at : (s : Stream) (k : ℕ) → letter_count s ≡ 0 → letter_at s k ≡ None
empty_at s k h = grind (arith, nat_tests, h)

empty_from : (z : ℤ) (s : Stream) (p : ℕ) → letter_count s ≡ 0 → letter_from z s p ≡ None
empty_from (pos a) s p h = let e = empty_at s (p - a) h in grind (arith, nat_tests, e)
empty_from (negsuc a) s p h = empty_at s _ h

-- what has no letters carries those of any stream
pub empty_carries : (whole : Stream) (z : ℤ) (s : Stream) → letter_count s ≡ 0 → Carries whole z s
empty_carries whole z s h p l e = absurd (none-some l (sym (empty_from z s p h) ∙ e))

plus_none : (z : ℤ) → z +ℤ pos 0 ≡ z
plus_none z = omega (arith, ints)

place_by : (z : ℤ) (b : Bool) → b ≡ false → z +ℤ (if b then pos 1 else pos 0) ≡ z
place_by z true h = absurd (true≢false h)
place_by z false h = plus_none z

-- a packet without SYN stands where its sequence number says
place_plain : (own top : ℕ) (p : PacketValue) → has_syn p ≡ false → text_place own top p ≡ position p.seq own top
place_plain own top p h = place_by (position p.seq own top) (has_syn p) h

end_by : (count : ℕ) (a b : ℤ) (top : ℕ) → (count ≡ 0) ⊎ (a ≡ b) →
    max top (if count == 0 then 0 else place_or_zero (a +ℤ pos count)) ≡ (if count == 0 then top else max top (place_or_zero (b +ℤ pos count)))
end_by count a b top (inl h) = rw h (omega arith)
end_by count a b top (inr h) = rw h (elim (cases_Bool (count == 0)) [ inl e ↦ rw e (omega arith) | inr e ↦ rw e refl ])

plain_or : (own top : ℕ) (p : PacketValue) → IsPlain p → (letters_of p ≡ 0) ⊎ (text_place own top p ≡ position p.seq own top)
plain_or own top p h = elim (cases_Bool (has_syn p)) [ inl e ↦ inl (h e) | inr e ↦ inr (place_plain own top p e) ]

-- the top of what was carried is what counts as sent
pub top_on : (number own : ℕ) (cs : List Carried) (p : PacketValue) → IsPlain p → top_of (carried_by number own (top_of cs) p ∷ cs) ≡ letters_sent_by own (top_of cs) p
top_on number own cs p h =
    end_by (letters_of p) (text_place own (top_of cs) p) (position p.seq own (top_of cs)) (top_of cs) (plain_or own (top_of cs) p h)

carries_by : (whole : Stream) (s : Stream) (a b : ℤ) → (letter_count s ≡ 0) ⊎ (a ≡ b) → Carries whole b s → Carries whole a s
carries_by whole s a b (inl e) h = empty_carries whole a s e
carries_by whole s a b (inr e) h = subst (λ z. Carries whole z s) (sym e) h

abbrev pub CarryOne : Stream → List Carried → Type 0
CarryOne whole cs = AllByRecursion (λ c. Carries whole c.at c.text) cs

abbrev numbered : List Numbered → List PacketValue
numbered ns = map (λ n. n.packet) ns

-- over a list of packets
pub carry_all : (whole : Stream) (own : ℕ) (cs : List Carried) (ns : List Numbered) → AllByRecursion IsPlain (numbered ns) → CarryAll whole own (top_of cs) (numbered ns) → CarryOne whole cs → CarryOne whole (carried_on own cs ns)
carry_all whole own cs [] h c had = had
carry_all whole own cs (n ∷ ns) h c had =
    carry_all whole own (carried_by n.number own (top_of cs) n.packet ∷ cs) ns h.1 (subst (λ k. CarryAll whole own k (numbered ns)) (sym (top_on n.number own cs n.packet h.0)) c.1)
    (carries_by whole (letters_in n.packet) (text_place own (top_of cs) n.packet) (position n.packet.seq own (top_of cs)) (plain_or own (top_of cs) n.packet h.0) c.0, had)

-- ---- over the events of an end that knows its number from the first

carry_both : (whole : Stream) (own sent : ℕ) (ps qs : List PacketValue) → CarryAll whole own sent ps → CarryAll whole own (letters_sent_by_all own sent ps) qs → CarryAll whole own sent (ps ++ qs)
carry_both whole own sent [] qs h g = g
carry_both whole own sent (p ∷ ps) qs h g = (h.0, carry_both whole own (letters_sent_by own sent p) ps qs h.1 g)

sent_both : (own sent : ℕ) (ps qs : List PacketValue) → letters_sent_by_all own sent (ps ++ qs) ≡ letters_sent_by_all own (letters_sent_by_all own sent ps) qs
sent_both own sent [] qs = refl
sent_both own sent (p ∷ ps) qs = sent_both own (letters_sent_by own sent p) ps qs

pub sent_is : (own : ℕ) (es : List LegEvent) → letters_sent_by_all own 0 (packets_of es) ≡ letters_sent (role.Active own) es
sent_is own [] = refl
sent_is own (e ∷ es) =
    sent_both own 0 (packets_of es) (e.fired ++ sent_in e) ∙ ap (λ k. letters_sent_by_all own k (e.fired ++ sent_in e)) (sent_is own es)
    ∙ sent_both own (letters_sent (role.Active own) es) e.fired (sent_in e)

pub events_carry : (whole : Stream) (own : ℕ) (es : List LegEvent) → IsOneStream whole (role.Active own) es → CarryAll whole own 0 (packets_of es)
events_carry whole own [] h = tt
events_carry whole own (e ∷ es) h =
    carry_both whole own 0 (packets_of es) (e.fired ++ sent_in e) (events_carry whole own es h.2)
    (subst (λ k. CarryAll whole own k (e.fired ++ sent_in e)) (sym (sent_is own es)) (carry_both whole own (letters_sent (role.Active own) es) e.fired (sent_in e) h.0 h.1))

-- packets without letters leave the top where it is
pub silent_top : (cs : List Carried) → AllByRecursion (λ c. letter_count c.text ≡ 0) cs → top_of cs ≡ 0
silent_top [] h = refl
silent_top (c ∷ cs) h =
    let e : end_of c ≡ 0 = ap (λ n. if n == 0 then 0 else place_or_zero (c.at +ℤ pos n)) h.0 in
    omega (arith, silent_top cs h.1, e)

pub silent_carry : (whole : Stream) (cs : List Carried) → AllByRecursion (λ c. letter_count c.text ≡ 0) cs → CarryOne whole cs
silent_carry whole [] h = tt
silent_carry whole (c ∷ cs) h = (empty_carries whole c.at c.text h.0, silent_carry whole cs h.1)
