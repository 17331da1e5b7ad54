-- What a receiver makes of the first units of what goes to the controller.
use Rattle.std.proofs.Common.{Bool, List, None, [], ap, append_assoc, arith, drop, false, inl, inr, length, length-append, map, refl, reverse, subst, suc, sym, take, zero, ℕ, ◌*◌, ◌++◌, ◌+◌, ◌<◌, ◌∙◌, ◌∷◌, ◌≡◌, ◌≤◌, ◌⊎◌, true, if◌then◌else◌}
use Rattle.cf_decode.proofs.Common.{Addresses, AllByRecursion, Caller, Frame, SiteValue, start_behind, Fragment, Adu, Apdu, Judged, Passed, UnitValue, Whole, append-nil, count_of, data_frame, flat_map-cons, unit_spelling, units_from, units_of, user_again}
use Rattle.cf_decode.proofs.Decoding.{Decoded, decodes}
use Rattle.cf_decode.proofs.Right.{AreRight, passed_right, units_right}
use Rattle.cf_decode.proofs.Serving.{are_same, same_again}
use Rattle.cf_decode.proofs.Spelled.{spellings, stream_is_spelled}
use Rattle.cf_decode.specs.Laws.{DecodesTo, FragmentsDecode, IsBegun, IsOfNext, MakesFirstOf, StreamDecodes}
use Rattle.cf_decode.specs.Passed.{passed}
use Rattle.cf_decode.specs.Received.{completed_by, has_segment, is_between, made_of, received, segment_in, segments_in}
use Rattle.cf_decode.specs.Units.{same_addresses}
use Rattle.cf_policy.specs.declared.Protocol.{Protocol}
use Rattle.cf_dnptrans.specs.Passing.{AreOfNext, IsSent, PutTogether, all_segments, fragments_of, held}
use Rattle.cf_dnptrans.specs.Segments.{first_segments, segments_of}
use Rattle.cf_dnptrans.specs.Transport.{unfinished}
use Rattle.cf_dnptrans.proofs.Seams.{split_front}
use Rattle.cf_lane.proofs.Units.{nothing_unit}
use Rattle.cf_lane.specs.Follows.{AreJudged}
use Rattle.cf_lane.specs.History.{Element}
use Rattle.cf_lane.specs.Laws.{UnitsArePrefixFree}
use Rattle.cf_lane.specs.Output.{outputs}
use Rattle.cf_view.proofs.Units.{one_units_then_rest}
use Rattle.cf_view.specs.Units.{IsUnitsThenRest}
use Rattle.cf_lane.specs.Unit.{SpellsUnit}
use Rattle.std.proofs.Math.Seq.{take-append_seam}
use Rattle.std.proofs.lemmas.Bool.{cases_Bool, cases_lt}
use Rattle.std.proofs.lemmas.Grind.{flat_map-append}
use Rattle.std.proofs.lemmas.List.{length-drop, length-map, length-reverse, map-append, reverse-append, take-append-drop, take-map}
use Rattle.cf_view.specs.declared.Side.TheVariants as side

-- the law of the transport rule
abbrev pub PutsTogether : Type 0
PutsTogether =
    (earlier : List (List ℕ)) (start : ℕ) (fragments segments more : List (List ℕ)) → unfinished earlier ≡ None → AllByRecursion IsSent fragments →
    all_segments start fragments ≡ segments ++ more → PutTogether earlier start fragments segments

-- the newest first again, after one more
turned : {A : Type 0} (x : A) (xs earlier : List A) → reverse (x ∷ xs) ++ earlier ≡ reverse xs ++ (x ∷ earlier)
turned x xs earlier = ap (λ ys. ys ++ earlier) (reverse-append (x ∷ []) xs) ∙ append_assoc (reverse xs) (x ∷ []) earlier

length-segments : (f : List ℕ) (start n : ℕ) → length (first_segments f start n) ≡ n
length-segments f start zero = refl
length-segments f start (suc n) = ap suc (length-segments f start n)

long_segments : (o : List ℕ) (start n : ℕ) → length (reverse (first_segments o start n)) ≡ n
long_segments o start n = length-reverse (first_segments o start n) ∙ length-segments o start n

one_split : (o : List ℕ) (whole later : List (List ℕ)) → o ∷ [] ≡ whole ++ later → ((whole ≡ []) × (later ≡ o ∷ [])) ⊎ ((whole ≡ o ∷ []) × (later ≡ []))
one_split o [] later e = inl (refl, sym e)
one_split o (w ∷ []) later e = inr (cc, cc)
one_split o (w ∷ v ∷ whole) later e = cc

-- one fragment after others
module _ (law : PutsTogether) (o : List ℕ) (start : ℕ) (earlier : List (List ℕ)) (none : unfinished earlier ≡ None) (sent : IsSent o) where
  abbrev all : List (List ℕ)
  all = reverse (segments_of o start)

  record Whole_made (segs : List (List ℕ)) : Type 0 where
    makes : fragments_of earlier segs ≡ o ∷ []
    leaves : unfinished (reverse segs ++ earlier) ≡ None

  record Part_made (segs : List (List ℕ)) : Type 0 where
    makes : fragments_of earlier segs ≡ []
    count : ℕ
    short : count < count_of (length o)
    leaves : unfinished (reverse segs ++ earlier) ≡ held count (o ∷ [])

  one_made : (segs more : List (List ℕ)) → all ≡ segs ++ more → ((length segs < count_of (length o)) × Part_made segs) ⊎ ((count_of (length o) ≤ length segs) × Whole_made segs)
  one_made segs more e =
      let p : PutTogether earlier start (o ∷ []) segs = law earlier start (o ∷ []) segs more none (sent, tt) (append-nil all ∙ e) in
      let at = start + length (all_segments start p.whole) in
      elim (one_split o p.whole p.later p.first) [
        | inl w ↦
            let next : AreOfNext at (o ∷ []) p.count p.some = subst (λ ls. AreOfNext at ls p.count p.some) w.1 p.next in
            let is : segs ≡ p.some = p.are ∙ ap (λ ws. all_segments start ws ++ p.some) w.0 in
            let size = ap length (is ∙ next.1) ∙ long_segments o at p.count in
            inl (omega (arith, size, next.0), record { makes = p.makes ∙ w.0; count = p.count; short = next.0; leaves = p.leaves ∙ ap (held p.count) w.1 })
        | inr w ↦
            let next : AreOfNext at [] p.count p.some = subst (λ ls. AreOfNext at ls p.count p.some) w.1 p.next in
            let is : segs ≡ (all ++ []) ++ p.some = p.are ∙ ap (λ ws. all_segments start ws ++ p.some) w.0 in
            let size = ap length is ∙ length-append (all ++ []) p.some in
            let own = ap length (append-nil all) ∙ long_segments o start (count_of (length o)) in
            inr (omega (arith, size, own), record { makes = p.makes ∙ w.0; leaves = p.leaves ∙ ap (λ n. held n p.later) next.0 })
      ]

  whole_made : Whole_made all
  whole_made =
      elim (one_made all [] (sym (append-nil all))) [
        | inl p ↦ absurd (omega (arith, p.0, long_segments o start (count_of (length o))))
        | inr w ↦ w.1
      ]

  part_made : (segs more : List (List ℕ)) → all ≡ segs ++ more → length segs < count_of (length o) → Part_made segs
  part_made segs more e short =
      elim (one_made segs more e) [
        | inl p ↦ p.1
        | inr w ↦ absurd (omega (arith, w.0, short))
      ]

-- ---- segments between two addresses

segments_if : (b : Bool) (segment : List ℕ) (xs ys : List (List ℕ)) → (if b then segment ∷ (xs ++ ys) else xs ++ ys) ≡ (if b then segment ∷ xs else xs) ++ ys
segments_if true segment xs ys = refl
segments_if false segment xs ys = refl

pub segments_in-append : (to : Addresses) (us vs : List UnitValue) → segments_in to (us ++ vs) ≡ segments_in to us ++ segments_in to vs
segments_in-append to [] vs = refl
segments_in-append to (u ∷ us) vs =
    ap (λ xs. if is_between to u then segment_in u ∷ xs else xs) (segments_in-append to us vs)
    ∙ segments_if (is_between to u) (segment_in u) (segments_in to us) (segments_in to vs)

reverse_map : {X Y : Type 0} (f : X → Y) (xs : List X) → reverse (map f xs) ≡ map f (reverse xs)
reverse_map f [] = refl
reverse_map f (x ∷ xs) =
    reverse-append (f x ∷ []) (map f xs) ∙ ap (λ ys. ys ++ f x ∷ []) (reverse_map f xs)
    ∙ sym (ap (map f) (reverse-append (x ∷ []) xs) ∙ map-append f (reverse xs) (x ∷ []))

-- a data frame with a segment is between its addresses, and no others
segment_again : (to other : Addresses) (s : List ℕ) (us : List UnitValue) →
    segments_in other (data_frame to s ∷ us) ≡ (if same_addresses to other then s ∷ segments_in other us else segments_in other us)
segment_again to other s us = let u = user_again s in rw u refl

module _ (to : Addresses) where
  one_more : (s : List ℕ) (us : List UnitValue) → segments_in to (data_frame to s ∷ us) ≡ s ∷ segments_in to us
  one_more s us = segment_again to to s us ∙ ap (λ b. if b then s ∷ segments_in to us else segments_in to us) (same_again to)

  segments_data : (segs : List (List ℕ)) (us : List UnitValue) → segments_in to (map (data_frame to) segs ++ us) ≡ segs ++ segments_in to us
  segments_data [] us = refl
  segments_data (s ∷ segs) us = one_more s (map (data_frame to) segs ++ us) ∙ ap (λ zs. s ∷ zs) (segments_data segs us)

  segments_other : (other : Addresses) → same_addresses to other ≡ false → (segs : List (List ℕ)) (us : List UnitValue) → segments_in other (map (data_frame to) segs ++ us) ≡ segments_in other us
  segments_other other apart [] us = refl
  segments_other other apart (s ∷ segs) us =
      segment_again to other s (map (data_frame to) segs ++ us)
      ∙ ap (λ b. if b then s ∷ segments_in other (map (data_frame to) segs ++ us) else segments_in other (map (data_frame to) segs ++ us)) apart
      ∙ segments_other other apart segs us

  -- the same of units that came before, the newest first
  back_data : (segs : List (List ℕ)) (earlier : List UnitValue) → segments_in to (reverse (map (data_frame to) segs) ++ earlier) ≡ reverse segs ++ segments_in to earlier
  back_data segs earlier = ap (λ us. segments_in to (us ++ earlier)) (reverse_map (data_frame to) segs) ∙ segments_data (reverse segs) earlier

  back_other : (other : Addresses) → same_addresses to other ≡ false → (segs : List (List ℕ)) (earlier : List UnitValue) →
      segments_in other (reverse (map (data_frame to) segs) ++ earlier) ≡ segments_in other earlier
  back_other other apart segs earlier = ap (λ us. segments_in other (us ++ earlier)) (reverse_map (data_frame to) segs) ∙ segments_other other apart (reverse segs) earlier

  made_one : (earlier : List UnitValue) (s : List ℕ) → made_of earlier (data_frame to s) ≡ map (Fragment to) (completed_by (segments_in to earlier) s)
  made_one earlier s = let u = user_again s in rw u refl

  made_data : (earlier : List UnitValue) (segs : List (List ℕ)) (ys : List UnitValue) →
      received earlier (map (data_frame to) segs ++ ys)
      ≡ map (Fragment to) (fragments_of (segments_in to earlier) segs) ++ received (reverse (map (data_frame to) segs) ++ earlier) ys
  made_data earlier [] ys = refl
  made_data earlier (s ∷ segs) ys =
      let u = data_frame to s in
      let ours = map (data_frame to) segs in
      let before = segments_in to earlier in
      let now = completed_by before s in
      let later = fragments_of (s ∷ before) segs in
      ap (λ zs. zs ++ received (u ∷ earlier) (ours ++ ys)) (made_one earlier s)
      ∙ ap (λ zs. map (Fragment to) now ++ zs) (made_data (u ∷ earlier) segs ys)
      ∙ ap (λ before_it. map (Fragment to) now ++ (map (Fragment to) (fragments_of before_it segs) ++ received (reverse ours ++ (u ∷ earlier)) ys)) (one_more s earlier)
      ∙ sym (append_assoc (map (Fragment to) now) (map (Fragment to) later) (received (reverse ours ++ (u ∷ earlier)) ys))
      ∙ ap (λ zs. zs ++ received (reverse ours ++ (u ∷ earlier)) ys) (sym (map-append (Fragment to) now later))
      ∙ ap (λ es. map (Fragment to) (now ++ later) ++ received es ys) (sym (turned u ours earlier))

-- a unit without a segment stays itself, and is between no addresses
made_whole : (earlier : List UnitValue) (u : UnitValue) → has_segment u ≡ false → made_of earlier u ≡ Whole u ∷ []
made_whole earlier (Adu a) h = refl
made_whole earlier (Frame f) h = rw h refl
made_whole earlier (Apdu a) h = refl

between_none : (to : Addresses) (u : UnitValue) → has_segment u ≡ false → is_between to u ≡ false
between_none to (Adu a) h = refl
between_none to (Frame f) h = rw h refl
between_none to (Apdu a) h = refl

-- no fragment is begun, between any addresses
abbrev pub NoneBegun : List UnitValue → Type 0
NoneBegun earlier = (to : Addresses) → unfinished (segments_in to earlier) ≡ None

-- some first units of the next item, but not all, and the units that follow
abbrev pub AreBegun : (sent : List Passed) → List Passed → List UnitValue → List UnitValue → Type 0
AreBegun sent [] some more = (some ≡ []) × (more ≡ [])
AreBegun sent (i ∷ later) some more =
    (left behind : List UnitValue) × (0 < length left) × (units_of sent i ≡ some ++ left) × (more ≡ left ++ behind)

-- what is made of units after earlier ones
pub record Making (earlier : List UnitValue) (sent items : List Passed) (units more : List UnitValue) : Type 0 where
  pub following : List Passed
  pub first : items ≡ received earlier units ++ following
  pub some : List UnitValue
  pub are : units ≡ units_from sent (received earlier units) ++ some
  pub begins : AreBegun (sent ++ received earlier units) following some more
  pub leaves : (to : Addresses) → IsBegun to following (unfinished (segments_in to (reverse units ++ earlier)))

-- fewer segments than the first fragment's
part_of : (to : Addresses) (o : List ℕ) (items : List Passed) (n : ℕ) → n < count_of (length o) → IsBegun to (Fragment to o ∷ items) (held n (o ∷ []))
part_of to o items zero h = tt
part_of to o items (suc n) h = (refl, (drop (249 * suc n) o, omega (arith, h, length-drop (249 * suc n) o), sym (take-append-drop (249 * suc n) o)))

-- the same, of addresses that are the same
begun_same : (to other : Addresses) (o : List ℕ) (items : List Passed) (n : ℕ) (segs : List (List ℕ)) → to ≡ other → n < count_of (length o) → unfinished segs ≡ held n (o ∷ []) →
    IsBegun other (Fragment to o ∷ items) (unfinished segs)
begun_same to other o items n segs same h is = subst (λ a. IsBegun a (Fragment to o ∷ items) (unfinished segs)) same (subst (IsBegun to (Fragment to o ∷ items)) (sym is) (part_of to o items n h))

begun_none : (other : Addresses) (items : List Passed) (segs : List (List ℕ)) → unfinished segs ≡ None → IsBegun other items (unfinished segs)
begun_none other items segs is = subst (IsBegun other items) (sym is) tt

module _ (p : Protocol) (law : PutsTogether) where
  -- no unit
  making_none : (earlier : List UnitValue) (sent : List Passed) (i : Passed) (items : List Passed) (more : List UnitValue) → NoneBegun earlier →
      (left behind : List UnitValue) → 0 < length left → units_of sent i ≡ left → more ≡ left ++ behind → Making earlier sent (i ∷ items) [] more
  making_none earlier sent i items more none left behind h e is = record {
    following = i ∷ items;
    first = refl;
    some = [];
    are = refl;
    begins = subst (λ before. AreBegun before (i ∷ items) [] more) (sym (append-nil sent)) (left, behind, h, e, is);
    leaves = λ to. begun_none to (i ∷ items) (segments_in to earlier) (none to);
  }

  whole_more : (u : UnitValue) (earlier : List UnitValue) (sent items : List Passed) (units more : List UnitValue) → has_segment u ≡ false →
      Making (u ∷ earlier) (sent ++ Whole u ∷ []) items units more → Making earlier sent (Whole u ∷ items) (u ∷ units) more
  whole_more u earlier sent items units more h m =
      let rest = received (u ∷ earlier) units in
      let makes : received earlier (u ∷ units) ≡ Whole u ∷ rest = ap (λ zs. zs ++ rest) (made_whole earlier u h) in
      record {
        following = m.following;
        first = ap (λ zs. Whole u ∷ zs) m.first ∙ ap (λ zs. zs ++ m.following) (sym makes);
        some = m.some;
        are = ap (λ zs. u ∷ zs) m.are ∙ ap (λ zs. units_from sent zs ++ m.some) (sym makes);
        begins = subst (λ zs. AreBegun (sent ++ zs) m.following m.some more) (sym makes) (subst (λ zs. AreBegun zs m.following m.some more) (append_assoc sent (Whole u ∷ []) rest) m.begins);
        leaves = λ to. subst (λ us. IsBegun to m.following (unfinished (segments_in to us))) (sym (turned u units earlier)) (m.leaves to);
      }

  none_whole : (u : UnitValue) (earlier : List UnitValue) → has_segment u ≡ false → NoneBegun earlier → NoneBegun (u ∷ earlier)
  none_whole u earlier h none to = ap (λ b. unfinished (if b then segment_in u ∷ segments_in to earlier else segments_in to earlier)) (between_none to u h) ∙ none to

  fragment_begins : (to : Addresses) (o : List ℕ) (earlier : List UnitValue) (sent items : List Passed) (units more left behind : List UnitValue) → NoneBegun earlier → IsSent o →
      length units < count_of (length o) → units_of sent (Fragment to o) ≡ units ++ left → more ≡ left ++ behind → Making earlier sent (Fragment to o ∷ items) units more
  fragment_begins to o earlier sent items units more left behind none is_sent short e after =
      let n = length units in
      let start = start_behind to sent in
      let s = reverse (segments_of o start) in
      let segs = take n s in
      let before = segments_in to earlier in
      let long : length s ≡ count_of (length o) = long_segments o start (count_of (length o)) in
      let is : units ≡ map (data_frame to) segs = sym (take-append_seam units left) ∙ ap (take n) (sym e) ∙ take-map (data_frame to) n s in
      let ended : units ≡ map (data_frame to) segs ++ [] = is ∙ sym (append-nil (map (data_frame to) segs)) in
      let size : length segs ≡ n = sym (length-map segs (data_frame to)) ∙ ap length (sym is) in
      let p = part_made law o start before (none to) is_sent segs (drop n s) (sym (take-append-drop n s)) (omega (arith, size, short)) in
      let makes : received earlier units ≡ [] = ap (received earlier) ended ∙ made_data to earlier segs [] ∙ ap (λ zs. map (Fragment to) zs ++ []) p.makes in
      let some : 0 < length left = omega (arith, ap length e, length-append units left, length-map s (data_frame to), long, short) in
      record {
        following = Fragment to o ∷ items;
        first = ap (λ zs. zs ++ Fragment to o ∷ items) (sym makes);
        some = units;
        are = ap (λ zs. units_from sent zs ++ units) (sym makes);
        begins = subst (λ zs. AreBegun (sent ++ zs) (Fragment to o ∷ items) units more) (sym makes)
            (subst (λ zs. AreBegun zs (Fragment to o ∷ items) units more) (sym (append-nil sent)) (left, behind, some, e, after));
        leaves = λ other. elim (cases_Bool (same_addresses to other)) [
          | inl same ↦
              (let here = are_same to other same in
              begun_same to other o items p.count (segments_in other (reverse units ++ earlier)) here p.short
              (subst (λ a. unfinished (segments_in a (reverse units ++ earlier)) ≡ held p.count (o ∷ [])) here
              (ap (λ us. unfinished (segments_in to (reverse us ++ earlier))) is ∙ ap unfinished (back_data to segs earlier) ∙ p.leaves)))
          | inr apart ↦
              begun_none other (Fragment to o ∷ items) (segments_in other (reverse units ++ earlier))
              (ap (λ us. unfinished (segments_in other (reverse us ++ earlier))) is ∙ ap unfinished (back_other to other apart segs earlier) ∙ none other)
        ];
      }

  -- all units of the first fragment, and then some
  fragment_more : (to : Addresses) (o : List ℕ) (earlier : List UnitValue) (sent items : List Passed) (units more : List UnitValue) → NoneBegun earlier → IsSent o →
      Making (reverse (units_of sent (Fragment to o)) ++ earlier) (sent ++ Fragment to o ∷ []) items units more →
      Making earlier sent (Fragment to o ∷ items) (units_of sent (Fragment to o) ++ units) more
  fragment_more to o earlier sent items units more none is_sent m =
      let start = start_behind to sent in
      let s = reverse (segments_of o start) in
      let before = segments_in to earlier in
      let w = whole_made law o start before (none to) is_sent in
      let ours = units_of sent (Fragment to o) in
      let rest = received (reverse ours ++ earlier) units in
      let makes : received earlier (ours ++ units) ≡ Fragment to o ∷ rest = made_data to earlier s units ∙ ap (λ zs. map (Fragment to) zs ++ rest) w.makes in
      record {
        following = m.following;
        first = ap (λ zs. Fragment to o ∷ zs) m.first ∙ ap (λ zs. zs ++ m.following) (sym makes);
        some = m.some;
        are = ap (λ zs. ours ++ zs) m.are ∙ sym (append_assoc ours (units_from (sent ++ Fragment to o ∷ []) rest) m.some)
            ∙ ap (λ zs. units_from sent zs ++ m.some) (sym makes);
        begins = subst (λ zs. AreBegun (sent ++ zs) m.following m.some more) (sym makes)
            (subst (λ zs. AreBegun zs m.following m.some more) (append_assoc sent (Fragment to o ∷ []) rest) m.begins);
        leaves = λ other. subst (λ us. IsBegun other m.following (unfinished (segments_in other us)))
            (sym (ap (λ us. us ++ earlier) (reverse-append ours units) ∙ append_assoc (reverse units) (reverse ours) earlier)) (m.leaves other);
      }

  none_fragment : (to : Addresses) (o : List ℕ) (earlier : List UnitValue) (sent : List Passed) → NoneBegun earlier → IsSent o → NoneBegun (reverse (units_of sent (Fragment to o)) ++ earlier)
  none_fragment to o earlier sent none is_sent other =
      let start = start_behind to sent in
      let s = reverse (segments_of o start) in
      elim (cases_Bool (same_addresses to other)) [
        | inl same ↦
            subst (λ a. unfinished (segments_in a (reverse (units_of sent (Fragment to o)) ++ earlier)) ≡ None) (are_same to other same)
            (ap unfinished (back_data to s earlier) ∙ (whole_made law o start (segments_in to earlier) (none to) is_sent).leaves)
        | inr apart ↦ ap unfinished (back_other to other apart s earlier) ∙ none other
      ]

  making : (earlier : List UnitValue) (sent items : List Passed) (units more : List UnitValue) → NoneBegun earlier → AreRight p items →
      units_from sent items ≡ units ++ more → Making earlier sent items units more
  making earlier sent [] [] more none right e =
      record { following = []; first = refl; some = []; are = refl; begins = (refl, sym e); leaves = λ to. begun_none to [] (segments_in to earlier) (none to) }
  making earlier sent [] (u ∷ units) more none right e = cc
  making earlier sent (Whole u ∷ items) [] more none right e =
      making_none earlier sent (Whole u) items more none (u ∷ []) (units_from (sent ++ Whole u ∷ []) items) (omega arith) refl (sym e)
  making earlier sent (Whole u ∷ items) (v ∷ units) more none right e =
      let heads : u ≡ v = cc in
      let tails : units_from (sent ++ Whole u ∷ []) items ≡ units ++ more = cc in
      subst (λ x. Making earlier sent (Whole u ∷ items) (x ∷ units) more) heads
      (whole_more u earlier sent items units more right.0.0 (making (u ∷ earlier) (sent ++ Whole u ∷ []) items units more (none_whole u earlier right.0.0 none) right.1 tails))
  making earlier sent (Fragment to o ∷ items) units more none right e =
      let start = start_behind to sent in
      let s = reverse (segments_of o start) in
      let ours = units_of sent (Fragment to o) in
      let behind = units_from (sent ++ Fragment to o ∷ []) items in
      let long : length ours ≡ count_of (length o) = length-map s (data_frame to) ∙ long_segments o start (count_of (length o)) in
      elim (cases_lt (length units) (count_of (length o))) [
        | inl short ↦
            (let r = split_front units more ours behind (omega (arith, long, short)) (sym e) in
            fragment_begins to o earlier sent items units more r.0 behind none right.0.0 short r.1 r.2)
        | inr past ↦
            (let r = split_front ours behind units more (omega (arith, long, past)) e in
            let m = making (reverse ours ++ earlier) (sent ++ Fragment to o ∷ []) items r.0 more (none_fragment to o earlier sent none right.0.0) right.1 r.2 in
            subst (λ us. Making earlier sent (Fragment to o ∷ items) us more) (sym r.1) (fragment_more to o earlier sent items r.0 more none right.0.0 m))
      ]

within : (sent : List Passed) (i : Passed) (some left others : List UnitValue) (rest : List ℕ) → 0 < length left → units_of sent i ≡ some ++ left → IsOfNext unit_spelling (left ++ others) rest →
    (more : List ℕ) × (0 < length more) × (spellings (units_of sent i) ≡ (spellings some ++ rest) ++ more)
within sent i some [] others rest h e n = absurd (omega (arith, h))
within sent i some (u ∷ left) others rest h e n =
    let more = n.0 ++ spellings left in (
      more,
      omega (arith, n.1, length-append n.0 (spellings left)),
      ap spellings e ∙ flat_map-append unit_spelling some (u ∷ left)
          ∙ ap (λ xs. spellings some ++ xs) (flat_map-cons unit_spelling u left ∙ ap (λ xs. xs ++ spellings left) n.2 ∙ append_assoc rest n.0 (spellings left))
          ∙ sym (append_assoc (spellings some) rest more),
    )

-- some units of the next item and a proper prefix of the unit after them are a proper prefix of it
next_part : (sent following : List Passed) (some behind : List UnitValue) (rest : List ℕ) → AreBegun sent following some behind → IsOfNext unit_spelling behind rest →
    IsOfNext (λ i. spellings (units_of sent i)) following (spellings some ++ rest)
next_part sent [] some behind rest b n =
    let none : IsOfNext unit_spelling [] rest = subst (λ us. IsOfNext unit_spelling us rest) b.1 n in
    ap (λ us. spellings us ++ rest) b.0 ∙ none
next_part sent (i ∷ later) some behind rest b n = within sent i some b.0 b.1 rest b.2 b.3 (subst (λ us. IsOfNext unit_spelling us rest) b.4 n)

-- the units of any beginning of the stream
module _ (free : UnitsArePrefixFree) (site : SiteValue) (client : Caller) (h : List Element) (js : List Judged) (bytes more : List ℕ) (a : AreJudged site client h js)
    (front : outputs site side.Controller [] js ≡ bytes ++ more) where
  abbrev p : Protocol
  p = site.first.protocol

  abbrev sent : List UnitValue
  sent = units_from [] (passed site js)

  abbrev Front : Type 0
  Front = Decoded (SpellsUnit p) unit_spelling sent bytes

  front_units : Front
  front_units =
      decodes (SpellsUnit p) unit_spelling (nothing_unit p) sent bytes more (units_right p [] (passed site js) (passed_right p site client h js refl a))
      (sym (stream_is_spelled site client h js a) ∙ front)

  front_decodes : Front → DecodesTo p sent bytes
  front_decodes d = record {
    units = d.units;
    rest = d.rest;
    are_units = d.are_units;
    no_others = λ others left is. one_units_then_rest (SpellsUnit p) (free p) others d.units bytes left d.rest is d.are_units;
    following = d.following;
    are_first = d.are_first;
    of_next = d.of_next;
  }

  front_makes : PutsTogether → Front → MakesFirstOf site (passed site js) bytes
  unfolding front_decodes
  front_makes law d =
      let m = making p law [] [] (passed site js) d.units d.following (λ to. refl) (passed_right p site client h js refl a) d.are_first in
      let whole = received [] d.units in
      record {
        decoded = front_decodes d;
        whole = whole;
        makes = refl;
        following = m.following;
        are_first = m.first;
        part = spellings m.some ++ d.rest;
        are = d.are ∙ ap (λ us. spellings us ++ d.rest) m.are
            ∙ ap (λ xs. xs ++ d.rest) (flat_map-append unit_spelling (units_from [] whole) m.some)
            ∙ append_assoc (spellings (units_from [] whole)) (spellings m.some) d.rest;
        of_next = next_part whole m.following m.some d.following d.rest m.begins d.of_next;
        begun = λ to. subst (λ us. IsBegun to m.following (unfinished (segments_in to us))) (append-nil (reverse d.units)) (m.leaves to);
      }

pub stream_decodes : UnitsArePrefixFree → StreamDecodes
stream_decodes free site client h js bytes more a front = front_decodes free site client h js bytes more a front (front_units free site client h js bytes more a front)

pub fragments_decode : UnitsArePrefixFree → PutsTogether → FragmentsDecode
fragments_decode free law site client h js bytes more a front = front_makes free site client h js bytes more a front law (front_units free site client h js bytes more a front)

-- the units of any beginning of the stream, and what is made of them
pub front_of : UnitsArePrefixFree → PutsTogether → (site : SiteValue) (client : Caller) (h : List Element) (js : List Judged) (bytes more : List ℕ) → AreJudged site client h js →
    outputs site side.Controller [] js ≡ bytes ++ more → (units : List UnitValue) (rest : List ℕ) → IsUnitsThenRest (SpellsUnit site.first.protocol) units bytes rest →
    (following : List Passed) × (passed site js ≡ received [] units ++ following)
front_of free law site client h js bytes more a front units rest are =
    let m = fragments_decode free law site client h js bytes more a front in
    let same = m.decoded.no_others units rest are in
    (m.following, m.are_first ∙ ap (λ whole. whole ++ m.following) (sym m.makes ∙ ap (received []) (sym same.0)))
