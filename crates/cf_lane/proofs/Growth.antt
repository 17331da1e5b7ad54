-- The weights of items, and where a history goes on.
use Rattle.cf_lane.specs.Caller.{Caller, caller_at}
use Rattle.cf_audit.specs.declared.line.CutReason.{CutReason}
use Rattle.cf_dnplink.proofs.Frames.{user_is}
use Rattle.cf_lane.proofs.Earlier.{in_turn-append}
use Rattle.cf_lane.proofs.Histories.{bytes_apart, bytes_own}
use Rattle.cf_lane.proofs.Judgements.{after_break, one_fate, one_items, one_units, same_judged}
use Rattle.cf_lane.proofs.Sides.{same_side, side_is}
use Rattle.cf_lane.proofs.Units.{free_unit, short_unit}
use Rattle.cf_lane.specs.Fate.{HasFate, HaveFates}
use Rattle.cf_lane.specs.Follows.{DropsBehindCut, GoesOnAfter}
use Rattle.cf_lane.specs.History.{Element, bytes_of, is_side}
use Rattle.cf_lane.specs.Item.{AreItems, Broke, Completes, Ended, Item, Placed, Took, last_after, placed}
use Rattle.cf_lane.specs.Judged.{Judged, fate_cut, place_of}
use Rattle.cf_lane.specs.Laws.{HasOneJudgement, StreamsGoOn, letters_of}
use Rattle.cf_lane.specs.Log.{item_lines, lines}
use Rattle.cf_lane.specs.Output.{output, outputs}
use Rattle.cf_lane.specs.Unit.{Adu, Apdu, AreUnits, Frame, Left, SpellsUnit, Tail, UnitValue, Wrong, unit_spelling}
use Rattle.cf_policy.specs.Site.{SiteValue}
use Rattle.cf_policy.specs.declared.Protocol.{Protocol}
use Rattle.cf_view.specs.Units.{BeginsWithUnits, IsUnitsThenRest}
use Rattle.cf_view.specs.declared.Side.{Side}
use Rattle.std.proofs.Common.{Bool, List, None, Option, Some, [], ap, append_assoc, arith, drop, false, inl, inr, length, map, refl, subst, sym, take, true, ℕ, ◌++◌, ◌+◌, ◌∙◌, ◌∷◌, ◌≡◌, ◌≤◌}
use Rattle.std.proofs.lemmas.List.{append-nil, length-append, length-drop, length-take}
use Rattle.std.specs.Prelude.{if◌then◌else◌}
use Rattle.cf_dnplink.specs.LinkFrame as link
use Rattle.cf_policy.specs.declared.Protocol.TheVariants as protocol
use Rattle.cf_view.specs.declared.Side.TheVariants as side

-- how many octets units have
abbrev weigh : List UnitValue → ℕ
weigh [] = 0
weigh (u ∷ us) = length (unit_spelling u) + weigh us

abbrev pub weight : Item → ℕ
weight (Took s u) = length (unit_spelling u)
weight (Ended s n) = 0
weight (Broke s b) = 0

abbrev pub weights : List Placed → ℕ
weights [] = 0
weights (p ∷ ps) = weight p.item + weights ps

-- an item is of a protocol: a unit is one of its
abbrev pub IsItemOf : Protocol → Item → Type 0
IsItemOf p (Took s u) = (octets : List ℕ) × SpellsUnit p u octets
IsItemOf p (Ended s n) = Unit {0}
IsItemOf p (Broke s b) = Unit {0}

abbrev pub AreItemsOf : Protocol → List Placed → Type 0
AreItemsOf p [] = Unit {0}
AreItemsOf p (i ∷ items) = IsItemOf p i.item × AreItemsOf p items

pub weights-append : (ps qs : List Placed) → weights (ps ++ qs) ≡ weights ps + weights qs
weights-append [] qs = omega arith
weights-append (p ∷ ps) qs = omega (arith, weights-append ps qs)

of-append : (p : Protocol) (ps qs : List Placed) → AreItemsOf p ps → AreItemsOf p qs → AreItemsOf p (ps ++ qs)
of-append p [] qs a b = b
of-append p (i ∷ ps) qs a b = (a.0, of-append p ps qs a.1 b)

pub of_front : (p : Protocol) (ps qs : List Placed) → AreItemsOf p (ps ++ qs) → AreItemsOf p ps
of_front p [] qs a = tt
of_front p (i ∷ ps) qs a = (a.0, of_front p ps qs a.1)

pub spelled_length : (p : Protocol) (u : UnitValue) (xs : List ℕ) → SpellsUnit p u xs → length xs ≡ length (unit_spelling u)
spelled_length protocol.Modbus (Adu a) xs s = ap length s.spelled
spelled_length protocol.Dnp3 (Frame x) xs s =
    ap length s.spelled ∙ ap (λ user. length (link.spelling x.control x.dest x.source user)) (sym (user_is x (xs, s)))
spelled_length protocol.Iec104 (Apdu x) xs s = ap length s.spelled
spelled_length p u xs s = absurd s

-- units and what follows them are all octets
started : (p : Protocol) (us : List UnitValue) (xs left : List ℕ) → BeginsWithUnits (SpellsUnit p) us xs left → weigh us + length left ≡ length xs
started p [] xs left s = omega (arith, ap length s)
started p (u ∷ us) xs left s =
    omega (arith, started p us (drop s.0 xs) left s.2, length-drop s.0 xs, length-take s.0 xs, s.1.inside, spelled_length p u (take s.0 xs) s.1.spells)

weigh-append : (us vs : List UnitValue) → weigh (us ++ vs) ≡ weigh us + weigh vs
weigh-append [] vs = omega arith
weigh-append (u ∷ us) vs = omega (arith, weigh-append us vs)

weights_of : (m : ℕ) (s : Side) (us : List UnitValue) (last : List Item) → weights (map (placed m) last) ≡ 0 → weights (map (placed m) (map (Took s) us ++ last)) ≡ weigh us
weights_of m s [] last none = none
weights_of m s (u ∷ us) last none = omega (arith, weights_of m s us last none)

no_weight : (m : ℕ) (s : Side) (ended : Bool) (w t : Tail) → weights (map (placed m) (last_after w s ended t)) ≡ 0
no_weight m s true (Left a) (Left r) = omega arith
no_weight m s false (Left a) (Left r) = refl
no_weight m s ended w t = omega arith

abbrev left_of : Tail → ℕ
left_of (Left r) = length r
left_of (Wrong b) = 0

units_weigh : (p : Protocol) (xs : List ℕ) (us : List UnitValue) (t : Tail) → AreUnits p xs us t → weigh us + left_of t ≤ length xs
units_weigh p xs us (Left r) a = omega (arith, started p us xs r a.starts)
units_weigh p xs us (Wrong b) a = omega (arith, started p us xs a.1.rest a.1.starts)

abbrev pub HasCaps : Protocol → List Element → (Side → ℕ) → Type 0
HasCaps p h cap = (s : Side) (us : List UnitValue) (r : List ℕ) → AreUnits p (bytes_of s h) us (Left r) → length r ≤ cap s

abbrev cap_with : Side → ℕ → (Side → ℕ) → Side → ℕ
cap_with t n cap s = if is_side s t then n else cap s

caps_sum : (t : Side) (n : ℕ) (cap : Side → ℕ) →
    cap_with t n cap side.Client + cap_with t n cap side.Controller + cap t ≡ cap side.Client + cap side.Controller + n
caps_sum side.Client n cap = omega arith
caps_sum side.Controller n cap = omega arith

items_of : (p : Protocol) (m : ℕ) (s : Side) (us : List UnitValue) (xs left : List ℕ) (last : List Item) → BeginsWithUnits (SpellsUnit p) us xs left →
    AreItemsOf p (map (placed m) last) → AreItemsOf p (map (placed m) (map (Took s) us ++ last))
items_of p m s [] xs left last a b = b
items_of p m s (u ∷ us) xs left last a b = ((take a.0 xs, a.1.spells), items_of p m s us (drop a.0 xs) left last a.2 b)

last_of : (p : Protocol) (m : ℕ) (s : Side) (ended : Bool) (w t : Tail) → AreItemsOf p (map (placed m) (last_after w s ended t))
last_of p m s true (Left a) (Left r) = (tt, tt)
last_of p m s false (Left a) (Left r) = tt
last_of p m s true (Left a) (Wrong b) = (tt, tt)
last_of p m s false (Left a) (Wrong b) = (tt, tt)
last_of p m s ended (Wrong a) t = tt

-- the last of units that follow each other follow each other
starts_behind : (p : Protocol) (us vs : List UnitValue) (xs left : List ℕ) → BeginsWithUnits (SpellsUnit p) (us ++ vs) xs left → (m : List ℕ) × BeginsWithUnits (SpellsUnit p) vs m left
starts_behind p [] vs xs left a = (xs, a)
starts_behind p (u ∷ us) vs xs left a = starts_behind p us vs (drop a.0 xs) left a.2

units_start : (p : Protocol) (xs : List ℕ) (us : List UnitValue) (t : Tail) → AreUnits p xs us t → (left : List ℕ) × BeginsWithUnits (SpellsUnit p) us xs left
units_start p xs us (Left r) a = (r, a.starts)
units_start p xs us (Wrong b) a = (a.1.rest, a.1.starts)

module _ (p : Protocol) (earlier : List Element) (e : Element) (now : List Placed) (c : Completes p earlier e now) where
  own_weight : weights now ≡ weigh c.more
  own_weight = ap weights c.is_items ∙ weights_of e.moment e.side c.more (last_after c.was e.side e.letters.ended c.tail) (no_weight e.moment e.side e.letters.ended c.was c.tail)

  -- what an element completes weighs no more than what it adds and what was left
  weight_by : (w : Tail) → c.was ≡ w → weights now + left_of c.tail ≤ left_of w + length e.letters.bytes
  weight_by (Left r) is =
      let all = units_weigh p (bytes_of e.side (earlier ++ e ∷ [])) (c.before ++ c.more) c.tail c.are in
      let were : IsUnitsThenRest (SpellsUnit p) c.before (bytes_of e.side earlier) r = subst (λ t. AreUnits p (bytes_of e.side earlier) c.before t) is c.were in
      let old = started p c.before (bytes_of e.side earlier) r were.starts in
      omega (arith, all, old, own_weight, weigh-append c.before c.more, ap length (bytes_own earlier e) ∙ length-append (bytes_of e.side earlier) e.letters.bytes)
  weight_by (Wrong b) is =
      let none = after_break p (free_unit p) earlier e now c b is in
      omega (arith, own_weight, ap weigh none.0, ap left_of none.1)

  pub one_weight : (weights now + left_of c.tail ≤ left_of c.was + length e.letters.bytes) × AreItemsOf p now
  one_weight =
      let start = units_start p (bytes_of e.side (earlier ++ e ∷ [])) (c.before ++ c.more) c.tail c.are in
      let behind = starts_behind p c.before c.more (bytes_of e.side (earlier ++ e ∷ [])) start.0 start.1 in (
        weight_by c.was refl,
        subst (AreItemsOf p) (sym c.is_items) (items_of p e.moment e.side c.more behind.0 start.0 (last_after c.was e.side e.letters.ended c.tail) behind.1 (last_of p e.moment e.side e.letters.ended c.was c.tail)),
      )

left_capped : (p : Protocol) (h : List Element) (s : Side) (cap : Side → ℕ) → HasCaps p h cap → (us : List UnitValue) (w : Tail) → AreUnits p (bytes_of s h) us w → left_of w ≤ cap s
left_capped p h s cap caps us (Left r) a = caps s us r a
left_capped p h s cap caps us (Wrong b) a = omega arith

module _ (p : Protocol) (h : List Element) (e : Element) (now : List Placed) (c : Completes p h e now) (cap : Side → ℕ) (caps : HasCaps p h cap) where
  caps_next : HasCaps p (h ++ e ∷ []) (cap_with e.side (left_of c.tail) cap)
  caps_next s us r a = elim (side_is s e.side) [
    | inl apart ↦ rw apart (caps s us r (subst (λ xs. AreUnits p xs us (Left r)) (bytes_apart s h e apart) a))
    | inr same ↦
        (let here : is_side s e.side ≡ true = ap (is_side s) same ∙ same_side s in
        let own = subst (λ t. AreUnits p (bytes_of t (h ++ e ∷ [])) us (Left r)) (sym same) a in
        let one = one_units p (free_unit p) (c.before ++ c.more) us (bytes_of e.side (h ++ e ∷ [])) c.tail (Left r) c.are own in
        rw here (omega (arith, ap left_of one.1)))
  ]

pub all_weight : (p : Protocol) (h later : List Element) (items : List Placed) (cap : Side → ℕ) → HasCaps p h cap → AreItems p h later items →
    (weights items ≤ cap side.Client + cap side.Controller + letters_of later) × AreItemsOf p items
all_weight p h [] items cap caps a = (omega (arith, ap weights a), subst (AreItemsOf p) (sym a) tt)
all_weight p h (e ∷ later) items cap caps a =
    let c = a.2 in
    let one = one_weight p h e a.0 c in
    let cap' = cap_with e.side (left_of c.tail) cap in
    let rest = all_weight p (h ++ e ∷ []) later a.1 cap' (caps_next p h e a.0 c cap caps) a.3 in
    let sum = caps_sum e.side (left_of c.tail) cap in
    let here = left_capped p h e.side cap caps c.before c.was c.were in (
      omega (arith, ap weights a.4, weights-append a.0 a.1, one.0, rest.0, sum, here),
      subst (AreItemsOf p) (sym a.4) (of-append p a.0 a.1 one.1 rest.1),
    )

pub items_split : (p : Protocol) (earlier h more : List Element) (items : List Placed) → AreItems p earlier (h ++ more) items →
    (is ks : List Placed) × AreItems p earlier h is × AreItems p (earlier ++ h) more ks × (items ≡ is ++ ks)
items_split p earlier [] more items a = ([], items, refl, subst (λ e. AreItems p e more items) (sym (append-nil earlier)) a, refl)
items_split p earlier (e ∷ h) more items a =
    let r = items_split p (earlier ++ e ∷ []) h more a.1 a.3 in (
      a.0 ++ r.0,
      r.1,
      (a.0, r.0, a.2, r.2, refl),
      subst (λ x. AreItems p x more r.1) (append_assoc earlier (e ∷ []) h) r.3,
      a.4 ∙ ap (λ xs. a.0 ++ xs) r.4 ∙ sym (append_assoc a.0 r.0 r.1),
    )

-- what is left of each side is short
pub short_caps : (p : Protocol) (h : List Element) → HasCaps p h (λ s. 300)
short_caps p h s us r u = let short = short_unit p r u.partial in omega (arith, short)

-- later judged items are the earlier ones and then some of the later items
abbrev pub Further : List Judged → List Judged → List Placed → Type 0
Further js ks more = (ms : List Judged) × (rest : List Placed) × (ks ≡ js ++ ms) × (map place_of ms ++ rest ≡ more)

further_by : (c : Option CutReason) (j : Judged) (js ks : List Judged) (more : List Placed) (P Q : Type 0) → (P → Q → Further js ks more) →
    GoesOnAfter c js P → GoesOnAfter c ks Q → Further js ks more
further_by None j js ks more P Q both a b = both a b
further_by (Some r) j js ks more P Q both a b = ([], more, b ∙ sym (append-nil js ∙ a), refl)

pub further : (site : SiteValue) (client : Caller) (earlier js ks : List Judged) (ds es more : List Placed) → (map place_of js ++ ds) ++ more ≡ map place_of ks ++ es →
    HaveFates site client earlier js → HaveFates site client earlier ks → DropsBehindCut js ds → DropsBehindCut ks es → Further js ks more
further site client earlier [] ks ds es more same x y a b =
    (ks, es, refl, sym same ∙ ap (λ xs. xs ++ more) a)
further site client earlier (j ∷ js) [] ds es more same x y a b = cc
further site client earlier (j ∷ js) (k ∷ ks) ds es more same x y a b =
    let place : place_of j ≡ place_of k = cc in
    let places : (map place_of js ++ ds) ++ more ≡ map place_of ks ++ es = cc in
    let item : j.item ≡ k.item = ap (λ (p : Placed). p.item) place in
    let fate : j.fate ≡ k.fate = one_fate site client earlier (place_of k) j.fate k.fate (subst (λ p. HasFate site client earlier p j.fate) place x.0) y.0 in
    let same_one : j ≡ k = same_judged j k place fate in
    let fates = subst (λ i. HaveFates site client (earlier ++ i ∷ []) js) same_one x.1 in
    let goes = subst (λ f. GoesOnAfter (fate_cut f) js (DropsBehindCut js ds)) fate a in
    let r = further_by (fate_cut k.fate) k js ks more (DropsBehindCut js ds) (DropsBehindCut ks es)
    (λ p q. further site client (earlier ++ k ∷ []) js ks ds es more places fates y.1 p q) goes b in
    (r.0, r.1, cc (same_one, r.2), r.3)

no_places : (ms : List Judged) (rest : List Placed) → map place_of ms ++ rest ≡ [] → ms ≡ []
no_places [] rest e = refl
no_places (m ∷ ms) rest e = cc

pub has_one_judgement : HasOneJudgement
has_one_judgement site client h js ks a b =
    let same = one_items site.first.protocol (free_unit site.first.protocol) [] h a.items b.items a.are_items b.are_items in
    let f = further site client [] js ks a.dropped b.dropped []
    (append-nil (map place_of js ++ a.dropped) ∙ sym a.are_first ∙ same ∙ b.are_first) a.fates b.fates a.goes_on b.goes_on in
    sym (f.2 ∙ ap (λ ms. js ++ ms) (no_places f.0 f.1 f.3) ∙ append-nil js)

pub streams_go_on : StreamsGoOn
streams_go_on site past client h more js ks a b =
    let free = free_unit site.first.protocol in
    let split = items_split site.first.protocol [] h more b.items b.are_items in
    let same = one_items site.first.protocol free [] h a.items split.0 a.are_items split.2 in
    let f = further site (caller_at client.address past) [] js ks a.dropped b.dropped split.1
    (ap (λ xs. xs ++ split.1) (sym a.are_first ∙ same) ∙ sym split.4 ∙ b.are_first) a.fates b.fates a.goes_on b.goes_on in
    record {
      ms = f.0;
      all = f.2;
      to_client = ap (outputs site side.Client []) f.2 ∙ in_turn-append (output site side.Client) [] js f.0;
      to_controller = ap (outputs site side.Controller []) f.2 ∙ in_turn-append (output site side.Controller) [] js f.0;
      in_log = ap (lines site client []) f.2 ∙ in_turn-append (λ b j. item_lines site client b j j.item) [] js f.0;
    }

-- the items of a history are those of its protocol
pub all_of : (p : Protocol) (h : List Element) (items : List Placed) → AreItems p [] h items → AreItemsOf p items
all_of p h items a = (all_weight p [] h items (λ s. 300) (short_caps p []) a).1
