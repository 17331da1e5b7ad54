-- The units of each protocol among those of all.
use Rattle.cf_apci.proofs.Fronts.{apdu_front, apdus_free}
use Rattle.cf_apci.specs.Apdu.{ApduValue, Info, SpellsApdu, apdu_break, spelling}
use Rattle.cf_dnplink.proofs.Frames.{spelled_free, spelled_front}
use Rattle.cf_dnplink.proofs.Writing.{length-blocks_by}
use Rattle.cf_dnplink.specs.LinkFrame.{FrameValue, SpellsFrame, blocks_of, frame_break}
use Rattle.cf_lane.specs.Handled.{Breaks}
use Rattle.cf_lane.specs.Unit.{Adu, Apdu, AreUnits, Frame, Left, SpellsUnit, Tail, UnitValue, Wrong, unit_break}
use Rattle.cf_modbus.proofs.Framing.{prefix_free}
use Rattle.cf_modbus.proofs.Fronts.{adu_front}
use Rattle.cf_modbus.specs.Adu.{AduValue, SpellsAdu, mbap_break}
use Rattle.cf_policy.specs.Site.{SiteValue}
use Rattle.cf_policy.specs.declared.Protocol.{Protocol}
use Rattle.cf_view.proofs.Units.{units_exist}
use Rattle.cf_view.specs.Framing.{Begins, BreaksAt, HasFront, IsFront, IsPartial, IsPrefixFree}
use Rattle.cf_view.specs.Octets.{IsOctets}
use Rattle.cf_view.specs.Units.{HasUnits}
use Rattle.cf_view.specs.declared.Break.{Break}
use Rattle.cf_view.specs.declared.Side.{Side}
use Rattle.std.proofs.Common.{List, [], ap, arith, inl, inr, length, refl, subst, sym, take, ℕ, ◌++◌, ◌+◌, ◌<◌, ◌∙◌, ◌≡◌, ◌≤◌}
use Rattle.std.proofs.lemmas.List.{length-append}
use Rattle.cf_audit.specs.declared.line.CutReason.TheVariants as cut
use Rattle.cf_policy.specs.declared.Protocol.TheVariants as protocol
use Rattle.cf_apci.specs.Apdu as apci
use Rattle.cf_dnplink.specs.LinkFrame as link

-- a grammar whose units, and the reasons of whose breaks, are those of a protocol
pub record IsGrammarOf {U : Type 0} (Spells : U → List ℕ → Type 0) (p : Protocol) (unit : U → UnitValue) (break_at : ℕ → Break) : Type 0 where
  pub into : (u : U) (xs : List ℕ) → Spells u xs → SpellsUnit p (unit u) xs
  pub from : (v : UnitValue) (xs : List ℕ) → SpellsUnit p v xs → (u : U) × (v ≡ unit u) × Spells u xs
  pub break_is : (i : ℕ) → break_at i ≡ unit_break p i

module _ {U : Type 0} {Spells : U → List ℕ → Type 0} {p : Protocol} {unit : U → UnitValue} {break_at : ℕ → Break} (g : IsGrammarOf Spells p unit break_at) where
  pub begins_by : (xs : List ℕ) (u : U) (n : ℕ) → Begins Spells xs u n → Begins (SpellsUnit p) xs (unit u) n
  begins_by xs u n b = record { inside = b.inside; spells = g.into u (take n xs) b.spells }

  pub partial_by : (xs : List ℕ) → IsPartial Spells xs → IsPartial (SpellsUnit p) xs
  partial_by xs b = record { whole = unit b.whole; more = b.more; proper = b.proper; spells = g.into b.whole (xs ++ b.more) b.spells }

  front_of : (xs : List ℕ) → IsFront (SpellsUnit p) xs → IsFront Spells xs
  front_of xs f = let u = g.from f.whole (xs ++ f.more) f.spells in record { whole = u.0; more = f.more; spells = u.2 }

  pub breaks_by : (xs : List ℕ) (i : ℕ) → BreaksAt Spells xs i → BreaksAt (SpellsUnit p) xs i
  breaks_by xs i b = record { inside = b.inside; before = partial_by (take i xs) b.before; here = λ f. b.here (front_of (take (i + 1) xs) f) }

  front_by : (xs : List ℕ) → HasFront Spells xs → HasFront (SpellsUnit p) xs
  front_by xs (inl v) = inl (unit v.0, v.1, begins_by xs v.0 v.1 v.2, v.3)
  front_by xs (inr (inl w)) = inr (inl (partial_by xs w))
  front_by xs (inr (inr w)) = inr (inr (w.0, breaks_by xs w.0 w.1))

  free_by : IsPrefixFree Spells → IsPrefixFree (SpellsUnit p)
  free_by free u v a b x y s t e =
      let k = g.from u a s in
      let l = g.from v b t in
      let same = free k.0 l.0 a b x y k.2 l.2 e in
      (k.1 ∙ ap unit same.0 ∙ sym l.1, same.1)

  -- where no unit has more than 300 octets, a proper prefix of one has fewer
  short_by : ((u : U) (xs : List ℕ) → Spells u xs → length xs ≤ 300) → (xs : List ℕ) → IsPartial (SpellsUnit p) xs → length xs < 300
  short_by most xs b =
      let u = g.from b.whole (xs ++ b.more) b.spells in
      omega (arith, most u.0 (xs ++ b.more) u.2, length-append xs b.more, b.proper)

adu_from : (v : UnitValue) (xs : List ℕ) → SpellsUnit protocol.Modbus v xs → (a : AduValue) × (v ≡ Adu a) × SpellsAdu a xs
adu_from (Adu a) xs s = (a, refl, s)
adu_from v xs s = absurd s

frame_from : (v : UnitValue) (xs : List ℕ) → SpellsUnit protocol.Dnp3 v xs → (f : FrameValue) × (v ≡ Frame f) × SpellsFrame f xs
frame_from (Frame f) xs s = (f, refl, s)
frame_from v xs s = absurd s

apdu_from : (v : UnitValue) (xs : List ℕ) → SpellsUnit protocol.Iec104 v xs → (a : ApduValue) × (v ≡ Apdu a) × SpellsApdu a xs
apdu_from (Apdu a) xs s = (a, refl, s)
apdu_from v xs s = absurd s

-- the grammar of each protocol
pub adus : (p : Protocol) → p ≡ protocol.Modbus → IsGrammarOf SpellsAdu p Adu mbap_break
adus p is = subst (λ p. IsGrammarOf SpellsAdu p Adu mbap_break) (sym is) (record { into = λ u xs s. s; from = adu_from; break_is = λ i. refl })

pub frames : (p : Protocol) → p ≡ protocol.Dnp3 → IsGrammarOf SpellsFrame p Frame frame_break
frames p is = subst (λ p. IsGrammarOf SpellsFrame p Frame frame_break) (sym is) (record { into = λ u xs s. s; from = frame_from; break_is = λ i. refl })

pub apdus : (p : Protocol) → p ≡ protocol.Iec104 → IsGrammarOf SpellsApdu p Apdu apdu_break
apdus p is = subst (λ p. IsGrammarOf SpellsApdu p Apdu apdu_break) (sym is) (record { into = λ u xs s. s; from = apdu_from; break_is = λ i. refl })

-- an ADU has at most 260 octets, a frame 292, an APDU 255
adu_most : (a : AduValue) (xs : List ℕ) → SpellsAdu a xs → length xs ≤ 300
adu_most a xs s = omega (arith, ap length s.spelled, s.at_most)

frame_most : (f : FrameValue) (xs : List ℕ) → SpellsFrame f xs → length xs ≤ 300
frame_most f xs s =
    omega (
      arith,
      ap length s.spelled,
      length-append (link.header_of (length s.user + 5) f.control f.dest f.source) (blocks_of s.user),
      length-blocks_by _ s.user refl,
      s.at_most,
    )

apdu_size : (a : ApduValue) → apci.Fits a → length (spelling a) ≤ 300
apdu_size (Info send receive asdu) f = omega (arith, f.2)
apdu_size a f = omega arith

apdu_most : (a : ApduValue) (xs : List ℕ) → SpellsApdu a xs → length xs ≤ 300
apdu_most a xs s = omega (arith, ap length s.spelled, apdu_size a s.fits)

-- no unit begins another
pub free_unit : (p : Protocol) → IsPrefixFree (SpellsUnit p)
free_unit protocol.Modbus = free_by (adus protocol.Modbus refl) prefix_free
free_unit protocol.Dnp3 = free_by (frames protocol.Dnp3 refl) spelled_free
free_unit protocol.Iec104 = free_by (apdus protocol.Iec104 refl) apdus_free

-- a proper prefix of a unit has fewer than 300 octets
pub short_unit : (p : Protocol) (xs : List ℕ) → IsPartial (SpellsUnit p) xs → length xs < 300
short_unit protocol.Modbus = short_by (adus protocol.Modbus refl) adu_most
short_unit protocol.Dnp3 = short_by (frames protocol.Dnp3 refl) frame_most
short_unit protocol.Iec104 = short_by (apdus protocol.Iec104 refl) apdu_most

-- octets begin with a unit, are a proper prefix of one, or break
pub front_unit : (p : Protocol) (xs : List ℕ) → IsOctets xs → HasFront (SpellsUnit p) xs
front_unit protocol.Modbus xs o = front_by (adus protocol.Modbus refl) xs (adu_front xs o)
front_unit protocol.Dnp3 xs o = front_by (frames protocol.Dnp3 refl) xs (spelled_front xs o)
front_unit protocol.Iec104 xs o = front_by (apdus protocol.Iec104 refl) xs (apdu_front xs o)

nothing_by : (p : Protocol) → HasFront (SpellsUnit p) [] → IsPartial (SpellsUnit p) []
nothing_by p (inl v) = let b = v.2 in let some = v.3 in absurd (omega (arith, b.inside, some))
nothing_by p (inr (inl w)) = w
nothing_by p (inr (inr w)) = let b = w.1 in absurd (omega (arith, b.inside))

-- no octets are a proper prefix of a unit
pub nothing_unit : (p : Protocol) → IsPartial (SpellsUnit p) []
nothing_unit p = nothing_by p (front_unit p [] (λ i. omega arith))

tail_of : (p : Protocol) (xs : List ℕ) → HasUnits (SpellsUnit p) xs → (us : List UnitValue) × (t : Tail) × AreUnits p xs us t
tail_of p xs h = elim h.1 [
  | inl c ↦ (h.0, Left c.0, c.1)
  | inr w ↦ (h.0, Wrong (unit_break p w.0), (w.0, w.1, refl))
]

-- octets are units and a tail
pub units_of_octets : (p : Protocol) (xs : List ℕ) → IsOctets xs → (us : List UnitValue) × (t : Tail) × AreUnits p xs us t
units_of_octets p xs o = tail_of p xs (units_exist (SpellsUnit p) (front_unit p) xs o)

-- a unit stands at the front of octets that are the same
module _ {U : Type 0} {Spells : U → List ℕ → Type 0} {u : U} {n : ℕ} {read bytes : List ℕ} where
  pub begins_same : read ≡ bytes → Begins Spells read u n → Begins Spells bytes u n
  begins_same same b = subst (λ xs. Begins Spells xs u n) same b

-- what a step says of octets that are no whole unit, where its reader spoke of octets that are the same
module _ {U : Type 0} {Spells : U → List ℕ → Type 0} {unit : U → UnitValue} {break_at : ℕ → Break} (site : SiteValue) (g : IsGrammarOf Spells site.first.protocol unit break_at)
    (read bytes : List ℕ) (same : read ≡ bytes) where
  pub step_waits : IsPartial Spells read → IsPartial (SpellsUnit site.first.protocol) bytes
  step_waits b = partial_by g bytes (subst (IsPartial Spells) same b)

  pub step_breaks : (s : Side) (reason : Break) → (i : ℕ) × BreaksAt Spells read i × (reason ≡ break_at i) → Breaks site s bytes (cut.Framing s reason)
  step_breaks s reason b = record {
    place = b.0;
    breaks = breaks_by g bytes b.0 (subst (λ xs. BreaksAt Spells xs b.0) same b.1);
    is_reason = ap (cut.Framing s) (b.2 ∙ g.break_is b.0);
  }
