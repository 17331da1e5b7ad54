-- The flows of a client and an asset, session by session.
use Rattle.std.proofs.Common.{None, ◌≡◌, ◌&&◌, ◌||◌, ◌==◌, ℕ, Bool, true, false, not, inl, inr, List, [], ◌∷◌, map, refl, sym, ap, ◌∙◌, subst, arith}
use Rattle.cf_unobjected.proofs.Common.{AllByRecursion, Carried, Flow, GoesTo, IsSpoken, Numbered, PacketValue, SynsFirst, Watched, and_parts, begins_anew, carried_by, cases_Bool, controller_ends, has_syn, is_opening, letter_count, nat_tests, pair_on, pairs_on, sessions_on, syn, top_of, with_packet}
use Rattle.std.proofs.lemmas.Bool.{not-false, not-true, or_parts}
use Rattle.cf_leg.specs.Segment.{has_ack}
use Rattle.cf_unobjected.specs.OneFlow.{carried_on}
use Rattle.cf_unobjected.specs.PairFlows.{IsOfSession, Spoken}
use Rattle.cf_unobjected.proofs.Others.{number_is}

abbrev AreSilent : List Carried → Type 0
AreSilent cs = AllByRecursion (λ c. letter_count c.text ≡ 0) cs

-- as long as no packet with ACK came, nothing was carried
abbrev IsQuiet : Watched → Type 0
IsQuiet f = f.answered ≡ false → AreSilent f.carried

quiet_on : (number : ℕ) (p : PacketValue) (flow : Flow) (f : Watched) → GoesTo flow p → IsQuiet f → IsQuiet (with_packet number p f)
quiet_on number p flow f g q h = let parts = or_parts f.answered (has_ack p) h in (g.answers parts.1, q parts.0)

-- ---- a packet of the session that has the flow goes on with it

same_number : (a b : ℕ) → a ≡ b → (a == b) ≡ true
same_number a b e = grind (arith, nat_tests, e)

anew_by : (has rest same answered : Bool) → (has ≡ true → (same ≡ true) × (answered ≡ false)) → ((has && rest) && not (same && not answered)) ≡ false
anew_by true true same answered h = let x = h refl in rw (x.0, x.1) refl
anew_by _ _ same answered h = refl

goes_on : (flow : Flow) (p : PacketValue) (f : Watched) → GoesTo flow p → f.origin ≡ flow.syn.seq → (has_syn p ≡ true → f.answered ≡ false) → begins_anew p f ≡ false
goes_on flow p f g origin first =
    anew_by (has_syn p) _ (p.seq == f.origin) f.answered
    (λ s. (same_number p.seq f.origin (ap (λ (q : PacketValue). q.seq) (g.greets s) ∙ sym origin), first s))

pair_next : (number asset : ℕ) (p : PacketValue) (f : Watched) (fs : List Watched) → begins_anew p f ≡ false → pair_on number asset p (f ∷ fs) ≡ with_packet number p f ∷ fs
pair_next number asset p f fs e = rw e refl

-- a flow that the packets went on with
record WentOn (asset : ℕ) (flow : Flow) (ns : List Numbered) (f : Watched) (fs : List Watched) : Type 0 where
  last : Watched
  are : pairs_on asset ns (f ∷ fs) ≡ last ∷ fs
  carried : last.carried ≡ carried_on flow.syn.seq f.carried ns
  quiet : IsQuiet last

went_on : (asset : ℕ) (flow : Flow) (ns : List Numbered) (f : Watched) (fs : List Watched) → AllByRecursion (λ n. GoesTo flow n.packet) ns → SynsFirst f.answered (map (λ n. n.packet) ns) →
    f.origin ≡ flow.syn.seq → IsQuiet f → WentOn asset flow ns f fs
went_on asset flow [] f fs g o origin q = record { last = f; are = refl; carried = refl; quiet = q }
went_on asset flow (n ∷ ns) f fs g o origin q =
    let next = with_packet n.number n.packet f in
    let w = went_on asset flow ns next fs g.1 o.1 origin (quiet_on n.number n.packet flow f g.0 q) in
    let e = pair_next n.number asset n.packet f fs (goes_on flow n.packet f g.0 origin o.0) in
    record {
      last = w.last;
      are = ap (λ (xs : List Watched). pairs_on asset ns xs) e ∙ w.are;
      carried = w.carried ∙ ap (λ k. carried_on flow.syn.seq (carried_by n.number k (top_of f.carried) n.packet ∷ f.carried) ns) origin;
      quiet = w.quiet;
    }

-- ---- a SYN begins a flow, or goes on with one that has carried nothing

abbrev fresh : (asset : ℕ) (p : PacketValue) → Watched
fresh asset p = record { client = p.source; asset = asset; origin = p.seq; answered = false; midstream = None; carried = [] }

-- what a SYN goes on with
record Begins (asset : ℕ) (flow : Flow) (n : Numbered) (fs : List Watched) (P : Watched → Type 0) : Type 0 where
  from : Watched
  older : List Watched
  are : pair_on n.number asset n.packet fs ≡ with_packet n.number n.packet from ∷ older
  origin : from.origin ≡ flow.syn.seq
  unanswered : from.answered ≡ false
  silent : AreSilent from.carried
  others : AllByRecursion P older

abbrev HeadIsQuiet : List Watched → Type 0
HeadIsQuiet [] = Unit {0}
HeadIsQuiet (f ∷ fs) = IsQuiet f

opening_is : (flow : Flow) (p : PacketValue) → p ≡ syn (controller_ends flow) flow.syn.seq → is_opening p ≡ true
opening_is flow p e = subst (λ (q : PacketValue). is_opening q ≡ true) (sym e) refl

begins : (asset : ℕ) (flow : Flow) (n : Numbered) (fs : List Watched) (P : Watched → Type 0) → n.packet ≡ syn (controller_ends flow) flow.syn.seq → HeadIsQuiet fs → AllByRecursion P fs → Begins asset flow n fs P
begins asset flow n [] P e q h =
    let o = opening_is flow n.packet e in
    record { from = fresh asset n.packet; older = []; are = rw o refl; origin = ap (λ (p : PacketValue). p.seq) e; unanswered = refl; silent = tt; others = tt }
begins asset flow n (f ∷ fs) P e q h =
    let o = opening_is flow n.packet e in
    let number : n.packet.seq ≡ flow.syn.seq = ap (λ (p : PacketValue). p.seq) e in
    elim (cases_Bool (begins_anew n.packet f)) [
      | inl anew ↦ record { from = fresh asset n.packet; older = f ∷ fs; are = rw anew refl; origin = number; unanswered = refl; silent = tt; others = h }
      | inr on ↦
          let same : ((n.packet.seq == f.origin) && not f.answered) ≡ true = not-false _ (sym (ap (λ b. b && not ((n.packet.seq == f.origin) && not f.answered)) o) ∙ on) in
          let quiet : f.answered ≡ false = not-true f.answered ((and_parts (n.packet.seq == f.origin) _ same).1) in
          record {
            from = f;
            older = fs;
            are = rw on refl;
            origin = sym (number_is n.packet.seq f.origin ((and_parts (n.packet.seq == f.origin) _ same).0)) ∙ number;
            unanswered = quiet;
            silent = q quiet;
            others = h.1;
          }
    ]

-- ---- session by session

record After (Q : Spoken → Type 0) (fs : List Watched) : Type 0 where
  quiet : HeadIsQuiet fs
  are : AllByRecursion (IsOfSession Q) fs

after_one : (asset : ℕ) (Q : Spoken → Type 0) (s : Spoken) (fs : List Watched) → IsSpoken s → Q s → After Q fs → After Q (pairs_on asset (s.first ∷ s.rest) fs)
after_one asset Q s fs is holds before =
    let b = begins asset s.flow s.first fs (IsOfSession Q) is.greets before.quiet before.are in
    let next = with_packet s.first.number s.first.packet b.from in
    let order : SynsFirst next.answered (map (λ n. n.packet) s.rest) = subst (λ a. SynsFirst (a || has_ack s.first.packet) (map (λ n. n.packet) s.rest)) (sym b.unanswered) is.order.1 in
    let w = went_on asset s.flow s.rest next b.older is.goes.1 order b.origin (quiet_on s.first.number s.first.packet s.flow b.from is.goes.0 (λ x. b.silent)) in
    let all : pairs_on asset (s.first ∷ s.rest) fs ≡ w.last ∷ b.older = ap (λ (xs : List Watched). pairs_on asset s.rest xs) b.are ∙ w.are in
    subst (After Q) (sym all) (record {
      quiet = w.quiet;
      are = (
        record {
          session = s;
          holds = holds;
          silent = b.from.carried;
          are_silent = b.silent;
          is = w.carried ∙ ap (λ k. carried_on s.flow.syn.seq (carried_by s.first.number k (top_of b.from.carried) s.first.packet ∷ b.from.carried) s.rest) b.origin;
        },
        b.others,
      );
    })

after_all : (asset : ℕ) (Q : Spoken → Type 0) (ss : List Spoken) (fs : List Watched) → AllByRecursion IsSpoken ss → AllByRecursion Q ss → After Q fs → After Q (sessions_on asset ss fs)
after_all asset Q [] fs is holds h = h
after_all asset Q (s ∷ ss) fs is holds h = after_all asset Q ss (pairs_on asset (s.first ∷ s.rest) fs) is.1 holds.1 (after_one asset Q s fs is.0 holds.0 h)

pub all_of : (asset : ℕ) (Q : Spoken → Type 0) (ss : List Spoken) → AllByRecursion IsSpoken ss → AllByRecursion Q ss → AllByRecursion (IsOfSession Q) (sessions_on asset ss [])
all_of asset Q ss is holds = (after_all asset Q ss [] is holds (record { quiet = tt; are = tt })).are
