-- Laws of the items of histories.
use Rattle.cf_lane.specs.Caller.{Caller, own}
use Rattle.cf_lane.specs.Parts.{bears, part}
use Rattle.cf_lane.specs.Rates.{Says, says_at}
use Rattle.cf_lane.specs.Site.{item_place}
use Rattle.cf_lane.proofs.Commands.{has_one_fate}
use Rattle.cf_lane.proofs.Histories.{bytes_of-append}
use Rattle.cf_lane.proofs.Pieces.{units_stay}
use Rattle.cf_lane.proofs.Units.{free_unit}
use Rattle.cf_lane.specs.Fate.{HasFate, HasItemFate, HasUnitFate}
use Rattle.cf_lane.specs.History.{Element, bytes_at, bytes_in, bytes_of, is_side, letters_at}
use Rattle.cf_lane.specs.Item.{AreItems, Broke, Completes, Item, Placed, Took, last_after, last_items, placed}
use Rattle.cf_lane.specs.Judged.{Judged, place_of}
use Rattle.cf_lane.specs.Laws.{PiecesJoin}
use Rattle.cf_lane.specs.Modbus.{HasAduFate}
use Rattle.cf_lane.specs.Unit.{Adu, AreUnits, Left, SpellsUnit, Tail, UnitValue, Wrong, unit_break}
use Rattle.cf_lane.specs.declared.fate.Fate.{Fate}
use Rattle.cf_modbus.specs.Adu.{AduValue}
use Rattle.cf_policy.specs.Site.{SiteValue, asset_of}
use Rattle.cf_policy.specs.declared.Asset.{Asset}
use Rattle.cf_policy.specs.declared.Protocol.{Protocol}
use Rattle.cf_view.proofs.Units.{one_units_then_break, one_units_then_rest, rest_not_break}
use Rattle.cf_view.specs.Framing.{IsPrefixFree}
use Rattle.cf_view.specs.declared.Break.{Break}
use Rattle.cf_view.specs.declared.Side.{Side}
use Rattle.std.proofs.Common.{Bool, List, [], ap, append_assoc, false, inl, inr, map, refl, subst, sym, ℕ, ◌++◌, ◌∙◌, ◌∷◌, ◌≡◌}
use Rattle.std.proofs.lemmas.Bool.{cases_Bool}
use Rattle.std.proofs.lemmas.List.{append-nil, append_cancel_left, map-append}
use Rattle.cf_view.specs.declared.Side.TheVariants as side

module _ (p : Protocol) (free : IsPrefixFree (SpellsUnit p)) where
  -- bytes have one list of units and one tail
  pub one_units : (us vs : List UnitValue) (xs : List ℕ) (t u : Tail) → AreUnits p xs us t → AreUnits p xs vs u → (us ≡ vs) × (t ≡ u)
  one_units us vs xs (Left a) (Left b) x y = let same = one_units_then_rest (SpellsUnit p) free us vs xs a b x y in (same.0, ap Left same.1)
  one_units us vs xs (Left a) (Wrong b) x y = absurd (rest_not_break (SpellsUnit p) free us vs xs a y.0 x y.1)
  one_units us vs xs (Wrong a) (Left b) x y = absurd (rest_not_break (SpellsUnit p) free vs us xs b x.0 y x.1)
  one_units us vs xs (Wrong a) (Wrong b) x y =
      let same = one_units_then_break (SpellsUnit p) free us vs xs x.0 y.0 x.1 y.1 in
      (same.0, ap Wrong (x.2 ∙ ap (unit_break p) same.1 ∙ sym y.2))

  one_completes : (earlier : List Element) (e : Element) (is ks : List Placed) → Completes p earlier e is → Completes p earlier e ks → is ≡ ks
  one_completes earlier e is ks c d =
      let were = one_units c.before d.before (bytes_of e.side earlier) c.was d.was c.were d.were in
      let are = one_units (c.before ++ c.more) (d.before ++ d.more) (bytes_of e.side (earlier ++ e ∷ [])) c.tail d.tail c.are d.are in
      let more : c.more ≡ d.more = append_cancel_left d.before c.more d.more (ap (λ us. us ++ c.more) (sym were.0) ∙ are.0) in
      c.is_items ∙ ap (λ us. map (placed e.moment) (map (Took e.side) us ++ last_after c.was e.side e.letters.ended c.tail)) more
      ∙ ap (λ t. map (placed e.moment) (map (Took e.side) d.more ++ last_after c.was e.side e.letters.ended t)) are.1
      ∙ ap (λ t. map (placed e.moment) (map (Took e.side) d.more ++ last_after t e.side e.letters.ended d.tail)) were.1 ∙ sym d.is_items

  -- after a break there is nothing
  pub after_break : (earlier : List Element) (e : Element) (items : List Placed) (c : Completes p earlier e items) (reason : Break) → c.was ≡ Wrong reason →
      (c.more ≡ []) × (c.tail ≡ Wrong reason)
  after_break earlier e items c reason is =
      let were = subst (λ t. AreUnits p (bytes_of e.side earlier) c.before t) is c.were in
      let are = subst (λ xs. AreUnits p xs (c.before ++ c.more) c.tail) (bytes_of-append e.side earlier e) c.are in
      let same = one_units c.before (c.before ++ c.more) (bytes_of e.side earlier ++ bytes_in e.side e) (Wrong reason) c.tail
      (units_stay p c.before (bytes_of e.side earlier) (bytes_in e.side e) reason were) are in
      (append_cancel_left c.before c.more [] (sym same.0 ∙ sym (append-nil c.before)), sym same.1)

  pub one_items : (earlier later : List Element) (is ks : List Placed) → AreItems p earlier later is → AreItems p earlier later ks → is ≡ ks
  one_items earlier [] is ks a b = a ∙ sym b
  one_items earlier (e ∷ later) is ks a b =
      let now = one_completes earlier e a.0 b.0 a.2 b.2 in
      let next = one_items (earlier ++ e ∷ []) later a.1 b.1 a.3 b.3 in
      a.4 ∙ ap (λ xs. xs ++ a.1) now ∙ ap (λ xs. b.0 ++ xs) next ∙ sym b.4

  -- items read nothing of the earlier elements but the bytes of each side
  pub same_earlier : (h k later : List Element) (items : List Placed) → ((s : Side) → bytes_of s h ≡ bytes_of s k) → AreItems p h later items → AreItems p k later items
  same_earlier h k [] items same a = a
  same_earlier h k (e ∷ later) items same a =
      let c = a.2 in
      let now = bytes_of-append e.side h e ∙ ap (λ xs. xs ++ bytes_in e.side e) (same e.side) ∙ sym (bytes_of-append e.side k e) in
      let completes : Completes p k e a.0 = record {
        before = c.before;
        more = c.more;
        was = c.was;
        tail = c.tail;
        were = subst (λ xs. AreUnits p xs c.before c.was) (same e.side) c.were;
        are = subst (λ xs. AreUnits p xs (c.before ++ c.more) c.tail) now c.are;
        is_items = c.is_items;
      } in (
        a.0,
        a.1,
        completes,
        same_earlier (h ++ e ∷ []) (k ++ e ∷ []) later a.1
            (λ s. bytes_of-append s h e ∙ ap (λ xs. xs ++ bytes_in s e) (same s) ∙ sym (bytes_of-append s k e)) a.3,
        a.4,
      )

both_in : (t s : Side) (m : ℕ) (xs ys : List ℕ) (ended : Bool) → bytes_in t (bytes_at m s xs) ++ bytes_in t (letters_at m s ys ended) ≡ bytes_in t (letters_at m s (xs ++ ys) ended)
both_in t s m xs ys ended = elim (cases_Bool (is_side t s)) [ inl e ↦ rw e refl | inr e ↦ rw e refl ]

-- what two parts of an element complete is what it completes as a whole
items_join : (m : ℕ) (s : Side) (ended : Bool) (us vs : List UnitValue) (was mid now : Tail) → ((r : Break) → was ≡ Wrong r → mid ≡ Wrong r) →
    ((r : Break) → mid ≡ Wrong r → (vs ≡ []) × (now ≡ Wrong r)) →
    map (placed m) (map (Took s) us ++ last_after was s false mid) ++ map (placed m) (map (Took s) vs ++ last_after mid s ended now)
    ≡ map (placed m) (map (Took s) (us ++ vs) ++ last_after was s ended now)
items_join m s ended us vs (Left a) (Left b) now f g =
    ap (λ zs. map (placed m) zs ++ map (placed m) (map (Took s) vs ++ last_items s ended now)) (append-nil (map (Took s) us))
    ∙ sym (map-append (placed m) (map (Took s) us) (map (Took s) vs ++ last_items s ended now))
    ∙ ap (map (placed m)) (sym (append_assoc (map (Took s) us) (map (Took s) vs) (last_items s ended now))
    ∙ ap (λ zs. zs ++ last_items s ended now) (sym (map-append (Took s) us vs)))
items_join m s ended us vs (Left a) (Wrong r) now f g =
    let e = g r refl in
    let here = map (placed m) (map (Took s) us ++ Broke s r ∷ []) in
    ap (λ xs. here ++ map (placed m) (map (Took s) xs ++ [])) e.0 ∙ append-nil here
    ∙ ap (λ xs. map (placed m) (map (Took s) xs ++ Broke s r ∷ [])) (sym (append-nil us) ∙ ap (λ xs. us ++ xs) (sym e.0))
    ∙ ap (λ t. map (placed m) (map (Took s) (us ++ vs) ++ last_items s ended t)) (sym e.1)
items_join m s ended us vs (Wrong r) mid now f g =
    let e = f r refl in
    let h = g r e in
    let here = map (placed m) (map (Took s) us ++ []) in
    ap (λ xs. here ++ map (placed m) (map (Took s) xs ++ last_after mid s ended now)) h.0
    ∙ ap (λ t. here ++ map (placed m) (last_after t s ended now)) e ∙ append-nil here
    ∙ ap (λ xs. map (placed m) (map (Took s) xs ++ [])) (sym (append-nil us) ∙ ap (λ xs. us ++ xs) (sym h.0))

module _ (p : Protocol) (free : IsPrefixFree (SpellsUnit p)) (earlier : List Element) (m : ℕ) (s : Side) (xs ys : List ℕ) (ended : Bool) where
  abbrev first : Element
  first = bytes_at m s xs

  abbrev second : Element
  second = letters_at m s ys ended

  abbrev whole : Element
  whole = letters_at m s (xs ++ ys) ended

  pub same_bytes : (t : Side) → bytes_of t ((earlier ++ first ∷ []) ++ second ∷ []) ≡ bytes_of t (earlier ++ whole ∷ [])
  same_bytes t =
      bytes_of-append t (earlier ++ first ∷ []) second ∙ ap (λ zs. zs ++ bytes_in t second) (bytes_of-append t earlier first)
      ∙ append_assoc (bytes_of t earlier) (bytes_in t first) (bytes_in t second)
      ∙ ap (λ zs. bytes_of t earlier ++ zs) (both_in t s m xs ys ended) ∙ sym (bytes_of-append t earlier whole)

  pub join : (is ks : List Placed) → Completes p earlier first is → Completes p (earlier ++ first ∷ []) second ks → Completes p earlier whole (is ++ ks)
  join is ks c d =
      let same = one_units p free (c.before ++ c.more) d.before (bytes_of s (earlier ++ first ∷ [])) c.tail d.was c.are d.were in
      let us = append_assoc c.before c.more d.more in
      record {
        before = c.before;
        was = c.was;
        more = c.more ++ d.more;
        tail = d.tail;
        were = c.were;
        are = subst (λ zs. AreUnits p zs (c.before ++ (c.more ++ d.more)) d.tail) (same_bytes s)
            (subst (λ vs. AreUnits p (bytes_of s ((earlier ++ first ∷ []) ++ second ∷ [])) vs d.tail) (ap (λ vs. vs ++ d.more) (sym same.0) ∙ us) d.are);
        is_items =
            ap (λ zs. zs ++ ks) c.is_items
            ∙ ap (λ zs. map (placed m) (map (Took s) c.more ++ last_after c.was s false c.tail) ++ zs)
            (d.is_items ∙ ap (λ t. map (placed m) (map (Took s) d.more ++ last_after t s ended d.tail)) (sym same.1))
            ∙ items_join m s ended c.more d.more c.was c.tail d.tail
            (λ r e. (after_break p free earlier first is c r e).1)
            (λ r e. after_break p free (earlier ++ first ∷ []) second ks d r (sym same.1 ∙ e));
      }

pub pieces_join : PiecesJoin
pieces_join p earlier later m s xs ys ended items a =
    let free = free_unit p in
    let rest = a.3 in
    let both = join p free earlier m s xs ys ended a.0 rest.0 a.2 rest.2 in (
      a.0 ++ rest.0,
      rest.1,
      both,
      same_earlier p free ((earlier ++ bytes_at m s xs ∷ []) ++ letters_at m s ys ended ∷ []) (earlier ++ letters_at m s (xs ++ ys) ended ∷ []) later rest.1
          (same_bytes p free earlier m s xs ys ended) rest.3,
      a.4 ∙ ap (λ zs. a.0 ++ zs) rest.4 ∙ sym (append_assoc a.0 rest.0 rest.1),
    )

one_adu_fate : (asset : Asset) (says : Says) (s : Side) (a : AduValue) (f g : Fate) → HasAduFate asset says s a f → HasAduFate asset says s a g → f ≡ g
one_adu_fate asset says side.Client a f g x y = has_one_fate asset says a f g x y
one_adu_fate asset says side.Controller a f g x y = x ∙ sym y

one_unit_fate : (asset : Asset) (says : Says) (earlier : List Judged) (s : Side) (u : UnitValue) (f g : Fate) → HasUnitFate asset says earlier s u f → HasUnitFate asset says earlier s u g → f ≡ g
one_unit_fate asset says earlier s (Adu a) f g x y = one_adu_fate asset says s a f g x y
one_unit_fate asset says earlier s u f g x y = x ∙ sym y

-- an item has one fate
pub one_item_fate : (asset : Asset) (says : Says) (earlier : List Judged) (i : Item) (f g : Fate) → HasItemFate asset says earlier i f → HasItemFate asset says earlier i g → f ≡ g
one_item_fate asset says earlier (Took s u) f g x y = one_unit_fate asset says earlier s u f g x y
one_item_fate asset says earlier i f g x y = x ∙ sym y

-- an item of a site's session has one fate
pub one_fate : (site : SiteValue) (client : Caller) (earlier : List Judged) (p : Placed) (f g : Fate) → HasFate site client earlier p f → HasFate site client earlier p g → f ≡ g
one_fate site client earlier p f g x y =
    let k = item_place site p.item in
    one_item_fate (asset_of site k) (says_at (asset_of site k) (own k client) (part site k earlier) p.moment) (bears p.item earlier (part site k earlier)) p.item f g x y

pub same_judged : (j k : Judged) → place_of j ≡ place_of k → j.fate ≡ k.fate → j ≡ k
same_judged j k a b =
    let moment : j.moment ≡ k.moment = ap (λ (p : Placed). p.moment) a in
    let item : j.item ≡ k.item = ap (λ (p : Placed). p.item) a in
    rw (moment, item, b) refl
