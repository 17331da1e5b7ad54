-- The acts of a client's bytes, unit by unit.
use Rattle.std.proofs.Common.{◌≡◌, ℕ, zero, suc, ◌+◌, ◌-◌, ◌<◌, ◌≤◌, ◌⊎◌, ◌↔◌, inl, inr, Bool, true, false, List, [], ◌∷◌, ◌++◌, length, drop, take, map, reverse, Option, Some, None, refl, sym, ap, subst, ◌∙◌, arith, append_assoc, if◌then◌else◌}
use mathlib.Core.Logic.{⊎_elim}
use Rattle.std.specs.List.{flat_map}
use Rattle.std.proofs.lemmas.Grind.{flat_map-append}
use Rattle.std.proofs.lemmas.List.{append-nil, drop-drop, length-drop, map-append, reverse-append, take_all}
use Rattle.cf_dnplink.specs.UserOctets.{user_of}
use Rattle.cf_dnptrans.specs.AssemblyValue.{AssemblyValue, IsAssemblyOf}
use Rattle.cf_dnptrans.specs.Passing.{fragments_of}
use Rattle.cf_dnptrans.specs.Passing.{completed}
use Rattle.cf_dnptrans.specs.Transport.{answer_to, last_fragment}
use Rattle.cf_dnptrans.specs.declared.SegmentAnswer.TheVariants as answers
use Rattle.cf_dnplink.specs.LinkFrame.{FrameValue}
use Rattle.cf_lane.proofs.Units.{IsGrammarOf, begins_by, breaks_by, free_unit, nothing_unit, partial_by}
use Rattle.cf_lane.specs.Unit.{Adu, Apdu, AreUnits, Frame, Left, SpellsUnit, Tail, UnitValue, Wrong, unit_break, frame_unit}
use Rattle.cf_policy.specs.declared.Asset.{Asset}
use Rattle.cf_policy.specs.declared.Protocol.{Protocol}
use Rattle.cf_policy.specs.declared.Protocol.TheVariants.{Dnp3}
use Rattle.cf_view.proofs.Units.{begins_with_more, one_units_then_break, one_units_then_rest, rest_not_break}
use Rattle.cf_view.specs.Framing.{Begins, BreaksAt, IsPartial}
use Rattle.cf_view.specs.declared.Break.{Break}
use Rattle.cf_view.specs.Units.{BeginsWithUnits}
use Rattle.cf_view.specs.declared.Act.{Act}
use Rattle.cf_learn.specs.Reading.{Adds, AddsSame, GathersFront, HaveSame, TakesFront, TakesNone, TakesUnit, made_whole, new_messages}
use Rattle.cf_learn.specs.Shown.{Fragment, HasAct, HaveAct, IsShown, is_segment, message_in, messages, segment_of}
use Rattle.cf_learn.specs.declared.seen.Seen.{Seen}
use Rattle.cf_learn.proofs.Adding.{adds_both, adds_none, adds_same, have_one}
use Rattle.cf_learn.proofs.Elements.{apart, nothing, together_first, together_second}

-- a unit has one segment at most
one_at_most : (b : Bool) (s : List ℕ) → length (if b then s ∷ [] else []) ≤ 1
one_at_most true s = omega arith
one_at_most false s = omega arith

few_segments : (asset : Asset) (u : UnitValue) → length (segment_of asset u) ≤ 1
few_segments asset (Adu a) = omega arith
few_segments asset (Frame f) = one_at_most (is_segment asset f) (user_of f.blocks)
few_segments asset (Apdu a) = omega arith

-- of one segment more the fragment that it makes whole
turned : (x : List ℕ) (xs earlier : List (List ℕ)) → reverse (x ∷ xs) ++ earlier ≡ reverse xs ++ (x ∷ earlier)
turned x xs earlier = ap (λ ys. ys ++ earlier) (reverse-append (x ∷ []) xs) ∙ append_assoc (reverse xs) (x ∷ []) earlier

fragments_more : (xs : List (List ℕ)) (s : List ℕ) (earlier : List (List ℕ)) → fragments_of earlier (xs ++ s ∷ []) ≡ fragments_of earlier xs ++ made_whole (reverse xs ++ earlier) s
fragments_more [] s earlier = append-nil (made_whole earlier s)
fragments_more (x ∷ xs) s earlier =
    let now = made_whole earlier x in
    ap (λ fs. now ++ fs) (fragments_more xs s (x ∷ earlier) ∙ ap (λ es. fragments_of (x ∷ earlier) xs ++ made_whole es s) (sym (turned x xs earlier)))
    ∙ sym (append_assoc now (fragments_of (x ∷ earlier) xs) (made_whole (reverse (x ∷ xs) ++ earlier) s))

fragments_some : (xs ss : List (List ℕ)) → length ss ≤ 1 → fragments_of [] (xs ++ ss) ≡ fragments_of [] xs ++ flat_map (made_whole (reverse xs)) ss
fragments_some xs [] few = ap (fragments_of []) (append-nil xs) ∙ sym (append-nil (fragments_of [] xs))
fragments_some xs (s ∷ []) few =
    fragments_more xs s []
    ∙ ap (λ l. fragments_of [] xs ++ l) (ap (λ es. made_whole es s) (append-nil (reverse xs)) ∙ sym (append-nil (made_whole (reverse xs) s)))
fragments_some xs (s ∷ t ∷ ss) few = absurd (omega (arith, few))

-- one or none, turned round
same_turned : (ss : List (List ℕ)) → length ss ≤ 1 → reverse (ss ++ []) ≡ ss
same_turned [] few = refl
same_turned (s ∷ []) few = refl
same_turned (s ∷ t ∷ ss) few = absurd (omega (arith, few))

module _ (asset : Asset) (units : List UnitValue) (u : UnitValue) where
  abbrev segments : List (List ℕ)
  segments = flat_map (segment_of asset) units

  segments_more : flat_map (segment_of asset) (units ++ u ∷ []) ≡ segments ++ segment_of asset u
  segments_more = flat_map-append (segment_of asset) units (u ∷ []) ∙ ap (λ l. segments ++ l) (append-nil (segment_of asset u))

  pub newest_first : reverse (flat_map (segment_of asset) (units ++ u ∷ [])) ≡ segment_of asset u ++ reverse segments
  newest_first =
      ap reverse (flat_map-append (segment_of asset) units (u ∷ []))
      ∙ (reverse-append segments (segment_of asset u ++ []) ∙ ap (λ l. l ++ reverse segments) (same_turned (segment_of asset u) (few_segments asset u)))

  messages_more : messages asset (units ++ u ∷ []) ≡
      (flat_map message_in units ++ message_in u) ++ (map Fragment (fragments_of [] segments) ++ map Fragment (flat_map (made_whole (reverse segments)) (segment_of asset u)))
  messages_more = λ i.
      (flat_map-append message_in units (u ∷ []) ∙ ap (λ l. flat_map message_in units ++ l) (append-nil (message_in u))) i
      ++ (ap (λ l. map Fragment (fragments_of [] l)) segments_more
      ∙ (ap (map Fragment) (fragments_some segments (segment_of asset u) (few_segments asset u))
      ∙ map-append Fragment (fragments_of [] segments) (flat_map (made_whole (reverse segments)) (segment_of asset u)))) i

  pub acts_more : (act : Act) → (HaveAct asset (messages asset units) act ⊎ HaveAct asset (new_messages asset (reverse segments) u) act) ↔ HaveAct asset (messages asset (units ++ u ∷ [])) act
  acts_more act =
      let a = flat_map message_in units in
      let b = message_in u in
      let c = map Fragment (fragments_of [] segments) in
      let d = map Fragment (flat_map (made_whole (reverse segments)) (segment_of asset u)) in (
        λ h. subst (λ ms. HaveAct asset ms act) (sym messages_more) (⊎_elim
            (λ early. (early.0, together_first a b c d early.0 early.1, early.2))
            (λ late. (late.0, together_second a b c d late.0 late.1, late.2))
            h),
        λ h. let all : HaveAct asset ((a ++ b) ++ (c ++ d)) act = subst (λ ms. HaveAct asset ms act) messages_more h in
            ⊎_elim (λ early. inl (all.0, early, all.2)) (λ late. inr (all.0, late, all.2)) (apart a b c d all.0 all.1),
      )

-- the bytes of a client, read up to a place
pub record ReadTo (asset : Asset) (client : ℕ) (bytes : List ℕ) (place : ℕ) (assembly : AssemblyValue) (old seen : List Seen) : Type 0 where
  pub inside : place ≤ length bytes
  pub units : List UnitValue
  pub starts : BeginsWithUnits (SpellsUnit asset.protocol) units bytes (drop place bytes)
  pub assembly_is : IsAssemblyOf assembly (reverse (flat_map (segment_of asset) units))
  pub adds : Adds asset.protocol client (HaveAct asset (messages asset units)) old seen

module _ (asset : Asset) (client : ℕ) (bytes : List ℕ) where
  pub read_first : (assembly : AssemblyValue) (old : List Seen) → IsAssemblyOf assembly [] → ReadTo asset client bytes 0 assembly old old
  read_first assembly old is = record {
    inside = omega arith;
    units = [];
    starts = refl;
    assembly_is = is;
    adds = adds_none asset.protocol client (HaveAct asset []) old old refl (λ act h. nothing h.0 h.1);
  }

  module _ (place : ℕ) (assembly : AssemblyValue) (old seen : List Seen) (r : ReadTo asset client bytes place assembly old seen) (rest : List ℕ) (lent : rest ≡ drop place bytes) where
    pub inside_on : (used : ℕ) (now : AssemblyValue) (new : List Seen) → TakesUnit asset client (reverse (flat_map (segment_of asset) r.units)) rest seen new now used → place + used ≤ length bytes
    inside_on used now new t =
        let in_rest = t.begins.inside in
        let size : length rest ≡ length bytes - place = ap length lent ∙ length-drop place bytes in
        let before = r.inside in
        omega (arith, in_rest, size, before)

    pub read_on : (used : ℕ) (now : AssemblyValue) (new : List Seen) → TakesUnit asset client (reverse (flat_map (segment_of asset) r.units)) rest seen new now used
        → ReadTo asset client bytes (place + used) now old new
    read_on used now new t = record {
      inside = inside_on used now new t;
      units = r.units ++ t.unit ∷ [];
      starts = subst (BeginsWithUnits (SpellsUnit asset.protocol) (r.units ++ t.unit ∷ []) bytes) (drop-drop used place bytes)
          (begins_with_more (SpellsUnit asset.protocol) r.units t.unit bytes (drop place bytes) used r.starts
          (subst (λ xs. Begins (SpellsUnit asset.protocol) xs t.unit used) lent t.begins));
      assembly_is = subst (IsAssemblyOf now) (sym (newest_first asset r.units t.unit)) t.stands;
      adds = adds_both asset.protocol client (HaveAct asset (messages asset r.units)) (HaveAct asset (new_messages asset (reverse (flat_map (segment_of asset) r.units)) t.unit))
          (HaveAct asset (messages asset (r.units ++ t.unit ∷ []))) old seen new (acts_more asset r.units t.unit) r.adds t.adds;
    }

    pub read_end : (new : List Seen) → TakesNone asset rest seen new → Adds asset.protocol client (IsShown asset bytes) old new
    read_end new t =
        subst (λ l. Adds asset.protocol client (IsShown asset bytes) old l) (sym t.same)
        (adds_same asset.protocol client (HaveAct asset (messages asset r.units)) (IsShown asset bytes) old seen (λ act. (
          λ h. record { units = r.units; tail = t.tail; are = all; have = h },
          λ s. subst (λ us. HaveAct asset (messages asset us) act) (one_units asset.protocol bytes s.units r.units s.tail t.tail s.are all) s.have,
        )) r.adds)
      where
        behind : (p : Protocol) (units : List UnitValue) (bytes rest : List ℕ) (tail : Tail) → BeginsWithUnits (SpellsUnit p) units bytes rest → AreUnits p rest [] tail → AreUnits p bytes units tail
        behind p units bytes rest (Left left) starts are = record { starts = subst (BeginsWithUnits (SpellsUnit p) units bytes) are.starts starts; partial = are.partial }
        behind p units bytes rest (Wrong reason) starts are =
            (are.0, record { rest = are.1.rest; starts = subst (BeginsWithUnits (SpellsUnit p) units bytes) are.1.starts starts; breaks = are.1.breaks }, are.2)

        one_units : (p : Protocol) (bytes : List ℕ) (us vs : List UnitValue) (t w : Tail) → AreUnits p bytes us t → AreUnits p bytes vs w → us ≡ vs
        one_units p bytes us vs (Left a) (Left b) x y = (one_units_then_rest (SpellsUnit p) (free_unit p) us vs bytes a b x y).0
        one_units p bytes us vs (Left a) (Wrong b) x y = absurd (rest_not_break (SpellsUnit p) (free_unit p) us vs bytes a y.0 x y.1)
        one_units p bytes us vs (Wrong a) (Left b) x y = absurd (rest_not_break (SpellsUnit p) (free_unit p) vs us bytes b x.0 y x.1)
        one_units p bytes us vs (Wrong a) (Wrong b) x y = (one_units_then_break (SpellsUnit p) (free_unit p) us vs bytes x.0 y.0 x.1 y.1).0

        all : AreUnits asset.protocol bytes r.units t.tail
        all = behind asset.protocol r.units bytes (drop place bytes) t.tail r.starts (subst (λ xs. AreUnits asset.protocol xs [] t.tail) lent t.are)

-- the bytes as they were read when the front after a place was told: a unit, whose acts are added, or none
abbrev pub IsToldAt : (asset : Asset) (client : ℕ) (bytes : List ℕ) (place : ℕ) (assembly : AssemblyValue) (old seen : List Seen) → Option ℕ → Type 0
IsToldAt asset client bytes place assembly old seen (Some used) = (0 < used) × ReadTo asset client bytes (place + used) assembly old seen
IsToldAt asset client bytes place assembly old seen None = Adds asset.protocol client (IsShown asset bytes) old seen

pub told_next : (asset : Asset) (client : ℕ) (bytes : List ℕ) (place : ℕ) (assembly : AssemblyValue) (old seen : List Seen) (r : ReadTo asset client bytes place assembly old seen)
    → (rest : List ℕ) → rest ≡ drop place bytes → (now : AssemblyValue) (new : List Seen) (front : Option ℕ)
    → TakesFront asset client (reverse (flat_map (segment_of asset) r.units)) rest seen new now front → IsToldAt asset client bytes place now old new front
told_next asset client bytes place assembly old seen r rest lent now new (Some used) t = (t.some, read_on asset client bytes place assembly old seen r rest lent used now new t)
told_next asset client bytes place assembly old seen r rest lent now new None t = read_end asset client bytes place assembly old seen r rest lent new t

-- the same of what was gathered, which has the same as all that was added
abbrev pub IsGatheredAt : (asset : Asset) (client : ℕ) (bytes : List ℕ) (place : ℕ) (assembly : AssemblyValue) (old seen : List Seen) → Option ℕ → Type 0
IsGatheredAt asset client bytes place assembly old seen front = (all : List Seen) × HaveSame seen all × IsToldAt asset client bytes place assembly old all front

pub gathered_next : (asset : Asset) (client : ℕ) (bytes : List ℕ) (place : ℕ) (assembly : AssemblyValue) (old all seen : List Seen) → HaveSame seen all
    → ReadTo asset client bytes place assembly old all → (rest : List ℕ) → rest ≡ drop place bytes → (now : AssemblyValue) (new : List Seen) (front : Option ℕ)
    → ((earlier : List (List ℕ)) (all : List Seen) → IsAssemblyOf assembly earlier → HaveSame seen all → GathersFront asset client earlier rest all new now front)
    → IsGatheredAt asset client bytes place now old new front
gathered_next asset client bytes place assembly old all seen same r rest lent now new front gathers =
    let g = gathers (reverse (flat_map (segment_of asset) r.units)) all r.assembly_is same in
    (g.after, g.same, told_next asset client bytes place assembly old all r rest lent now g.after front g.takes)

pub gathered_all : (asset : Asset) (client : ℕ) (bytes : List ℕ) (place : ℕ) (assembly : AssemblyValue) (old seen : List Seen)
    → IsGatheredAt asset client bytes place assembly old seen None → AddsSame asset.protocol client (IsShown asset bytes) old seen
gathered_all asset client bytes place assembly old seen g = record { all = g.0; same = g.1; adds = g.2 }

-- what was taken apart from all others, behind them
pub adds_behind : (p : Protocol) (client : ℕ) (P : Act → Type 0) (all fresh : List Seen) → Adds p client P [] fresh → Adds p client P all (all ++ fresh)
adds_behind p client P all fresh a = record { acts = a.acts; appended = ap (λ l. all ++ l) a.appended; exactly = a.exactly; of_commands = a.of_commands }

pub takes_behind : (asset : Asset) (client : ℕ) (earlier : List (List ℕ)) (bytes : List ℕ) (all fresh : List Seen) (assembly : AssemblyValue) (front : Option ℕ)
    → TakesFront asset client earlier bytes [] fresh assembly front → TakesFront asset client earlier bytes all (all ++ fresh) assembly front
takes_behind asset client earlier bytes all fresh assembly (Some used) t = record {
  unit = t.unit;
  begins = t.begins;
  some = t.some;
  adds = adds_behind asset.protocol client (HaveAct asset (new_messages asset earlier t.unit)) all fresh t.adds;
  stands = t.stands;
}
takes_behind asset client earlier bytes all fresh assembly None t = record { tail = t.tail; are = t.are; same = ap (λ l. all ++ l) t.same ∙ append-nil all }

-- what is lent from a place on
pub lent_from : (bytes rest : List ℕ) (place : ℕ) → rest ≡ take (length bytes - place) (drop place bytes) → rest ≡ drop place bytes
lent_from bytes rest place is = is ∙ take_all (length bytes - place) (drop place bytes) (omega (arith, length-drop place bytes))

-- a unit has an octet
some_octet : (p : Protocol) (xs : List ℕ) (u : UnitValue) (n : ℕ) → Begins (SpellsUnit p) xs u n → 0 < n
some_octet p xs u zero b =
    let w = nothing_unit p in
    let same = free_unit p u w.whole [] w.more w.more [] b.spells w.spells (sym (append-nil w.more)) in
    let none : length w.more ≡ 0 = sym (ap length same.1) in
    let proper = w.proper in
    omega (arith, none, proper)
some_octet p xs u (suc n) b = omega arith

-- the same of the grammar of one protocol, about octets that are lent
module _ {U : Type 0} {Spells : U → List ℕ → Type 0} {p : Protocol} {unit : U → UnitValue} {break_at : ℕ → Break} (g : IsGrammarOf Spells p unit break_at) where
  pub takes_unit : (asset : Asset) (client : ℕ) (earlier : List (List ℕ)) (told bytes : List ℕ) (old new : List Seen) (now : AssemblyValue) (u : U) (used : ℕ) → asset.protocol ≡ p → told ≡ bytes
      → Begins Spells told u used → Adds p client (HaveAct asset (new_messages asset earlier (unit u))) old new → IsAssemblyOf now (segment_of asset (unit u) ++ earlier)
      → TakesUnit asset client earlier bytes old new now used
  takes_unit asset client earlier told bytes old new now u used of lent b adds stands =
      let begins = subst (λ xs. Begins (SpellsUnit p) xs (unit u) used) lent (begins_by g told u used b) in
      record {
        unit = unit u;
        begins = subst (λ q. Begins (SpellsUnit q) bytes (unit u) used) (sym of) begins;
        some = some_octet p bytes (unit u) used begins;
        adds = subst (λ q. Adds q client (HaveAct asset (new_messages asset earlier (unit u))) old new) (sym of) adds;
        stands = stands;
      }

  pub takes_part : (asset : Asset) (told bytes : List ℕ) (old : List Seen) → asset.protocol ≡ p → told ≡ bytes → IsPartial Spells told → TakesNone asset bytes old old
  takes_part asset told bytes old of lent b = record {
    tail = Left bytes;
    are = record { starts = refl; partial = subst (λ q. IsPartial (SpellsUnit q) bytes) (sym of) (subst (IsPartial (SpellsUnit p)) lent (partial_by g told b)) };
    same = refl;
  }

  pub takes_break : (asset : Asset) (told bytes : List ℕ) (old : List Seen) (place : ℕ) → asset.protocol ≡ p → told ≡ bytes → BreaksAt Spells told place → TakesNone asset bytes old old
  takes_break asset told bytes old place of lent b = record {
    tail = Wrong (unit_break asset.protocol place);
    are = (
      place,
      record {
        rest = bytes;
        starts = refl;
        breaks = subst (λ q. BreaksAt (SpellsUnit q) bytes place) (sym of) (subst (λ xs. BreaksAt (SpellsUnit p) xs place) lent (breaks_by g told place b));
      },
      refl,
    );
    same = refl;
  }

-- a frame that makes a fragment whole
pub frame_added : (asset : Asset) (client : ℕ) (old new : List Seen) (earlier : List (List ℕ)) (f : FrameValue) (octets : List ℕ) → is_segment asset f ≡ true
    → answer_to earlier (user_of f.blocks) ≡ answers.Whole → last_fragment (user_of f.blocks ∷ earlier) ≡ Some octets → Adds Dnp3 client (HasAct asset (Fragment octets)) old new
    → Adds Dnp3 client (HaveAct asset (new_messages asset earlier (frame_unit f))) old new
frame_added asset client old new earlier f octets served whole made a =
    let user = user_of f.blocks in
    have_one Dnp3 asset client old new (new_messages asset earlier (frame_unit f)) (Fragment octets)
    (ap (λ (b : Bool). map Fragment (flat_map (made_whole earlier) (if b then user ∷ [] else []))) served
    ∙ (λ i. map Fragment (completed (whole i) (made i) ++ []))) a
