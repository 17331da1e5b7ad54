-- Each history of octets has judged items: a history goes on with any octets.
use Rattle.cf_lane.specs.Caller.{Caller, own}
use Rattle.cf_lane.specs.Parts.{bears, part}
use Rattle.cf_lane.specs.Site.{item_place}
use Rattle.cf_lane.specs.Rates.{Says, says_at}
use Rattle.cf_apci.proofs.Fronts.{apdu_octets}
use Rattle.cf_audit.specs.declared.line.CutReason.{CutReason}
use Rattle.cf_dnplink.proofs.Frames.{to_places}
use Rattle.cf_lane.proofs.Growth.{AreItemsOf, IsItemOf, one_weight}
use Rattle.cf_lane.proofs.Histories.{bytes_apart, bytes_of-append, bytes_own, goes_cut, items_more, judged_more, to_going}
use Rattle.cf_lane.proofs.Pieces.{units_pieces, units_stay}
use Rattle.cf_lane.proofs.Sides.{side_is}
use Rattle.cf_lane.proofs.Units.{nothing_unit, units_of_octets}
use Rattle.cf_lane.specs.Acts.{fate_of_acts}
use Rattle.cf_lane.specs.Dnp3.{fate_of_frame, stray_of}
use Rattle.cf_lane.specs.Fate.{HasFate, HasItemFate, HasUnitFate, HaveFates}
use Rattle.cf_lane.specs.Follows.{AreJudged, DropsBehindCut, GoesOnAfter}
use Rattle.cf_lane.specs.History.{Element, bytes_in, bytes_of}
use Rattle.cf_lane.specs.Iec104.{fate_of_apdu}
use Rattle.cf_lane.specs.Item.{AreItems, Broke, Completes, Ended, Item, Placed, Took, last_items, placed}
use Rattle.cf_lane.specs.Judged.{Judged, fate_cut, cut_of, place_of}
use Rattle.cf_lane.specs.Laws.{JudgementsGoOn}
use Rattle.cf_lane.specs.Modbus.{HasAduFate, HasCommandFate, form_refusal, of_its_acts, of_no_form, of_other_station, station_refusal}
use Rattle.cf_lane.specs.Unit.{Adu, Apdu, AreUnits, Frame, Left, SpellsUnit, Tail, UnitValue, Wrong}
use Rattle.cf_lane.specs.declared.fate.Fate.{Fate}
use Rattle.cf_modbus.specs.Acts.{acts}
use Rattle.cf_modbus.specs.Adu.{AduValue, SpellsAdu}
use Rattle.cf_modbus.specs.Request.{Reads, RequestValue}
use Rattle.cf_modbus.specs.declared.RequestRefusal.{RequestRefusal}
use Rattle.cf_policy.specs.Site.{SiteValue, asset_of}
use Rattle.cf_policy.specs.declared.Asset.{Asset}
use Rattle.cf_policy.specs.declared.Protocol.{Protocol}
use Rattle.cf_view.proofs.OctetLists.{IsOctets-append, IsOctets-take}
use Rattle.cf_view.specs.Framing.{IsPartial}
use Rattle.cf_view.specs.Octets.{IsOctets, u16_be_octets}
use Rattle.cf_view.specs.declared.Side.{Side}
use Rattle.std.proofs.Common.{Err, List, None, Ok, Option, Result, Some, [], ap, append_assoc, arith, inl, inr, length, map, refl, subst, suc, sym, zero, ℕ, ◌++◌, ◌+◌, ◌/◌, ◌%◌, ◌<◌, ◌^◌, ◌∙◌, ◌∷◌, ◌≡◌}
use Rattle.std.proofs.Math.Seq.{take-append_seam}
use Rattle.std.proofs.lemmas.Bool.{cases_eq}
use Rattle.std.proofs.lemmas.List.{append-nil}
use Rattle.std.specs.Option.{option_or}
use Rattle.cf_lane.specs.declared.fate.Fate.TheVariants as fate
use Rattle.cf_policy.specs.declared.Protocol.TheVariants as protocol
use Rattle.cf_view.specs.declared.Side.TheVariants as side

-- about each PDU some answer is true
abbrev pub EachPduHasAnAnswer : Type 0
EachPduHasAnAnswer = (pdu : List ℕ) → IsOctets pdu → (answer : Result RequestValue RequestRefusal) × Reads answer pdu

-- ---- the octets of units

octets_cons : (x : ℕ) (xs : List ℕ) → x < 256 → IsOctets xs → IsOctets (x ∷ xs)
octets_cons x xs h o zero = h
octets_cons x xs h o (suc i) = o i

two_octets : (n : ℕ) → n < 2 ^ 16 → IsOctets (u16_be_octets n)
two_octets n h = octets_cons (n / 256) (n % 256 ∷ []) (omega (arith, h)) (octets_cons (n % 256) [] (omega arith) (λ i. omega arith))

adu_octets : (a : AduValue) (xs : List ℕ) → SpellsAdu a xs → IsOctets xs
adu_octets a xs s =
    subst IsOctets (sym s.spelled)
    (IsOctets-append (u16_be_octets a.transaction ++ u16_be_octets 0 ++ u16_be_octets (length a.pdu + 1)) (a.unit ∷ a.pdu)
    (IsOctets-append (u16_be_octets a.transaction ++ u16_be_octets 0) (u16_be_octets (length a.pdu + 1))
    (IsOctets-append (u16_be_octets a.transaction) (u16_be_octets 0) (two_octets a.transaction s.transaction) (two_octets 0 (omega arith))) (two_octets (length a.pdu + 1) (let most = s.at_most in omega (arith, most))))
    (octets_cons a.unit a.pdu s.unit s.pdu))

unit_octets : (p : Protocol) (u : UnitValue) (xs : List ℕ) → SpellsUnit p u xs → IsOctets xs
unit_octets protocol.Modbus (Adu a) xs s = adu_octets a xs s
unit_octets protocol.Dnp3 (Frame f) xs s = (to_places f xs s).unit.octets_are
unit_octets protocol.Iec104 (Apdu a) xs s = apdu_octets a xs s
unit_octets p u xs s = absurd s

left_octets : (p : Protocol) (xs : List ℕ) → IsPartial (SpellsUnit p) xs → IsOctets xs
left_octets p xs b =
    subst IsOctets (take-append_seam xs b.more) (IsOctets-take (xs ++ b.more) (length xs) (unit_octets p b.whole (xs ++ b.more) b.spells))

pdu_octets : (p : Protocol) (a : AduValue) (xs : List ℕ) → SpellsUnit p (Adu a) xs → IsOctets a.pdu
pdu_octets protocol.Modbus a xs s = s.pdu
pdu_octets p a xs s = absurd s

-- ---- items that can be judged

module _ (each : EachPduHasAnAnswer) (asset : Asset) (says : Says) where
  read_fate : (a : AduValue) → a.unit ≡ asset.station → (answer : Result RequestValue RequestRefusal) → Reads answer a.pdu → (f : Fate) × HasCommandFate asset says a f
  read_fate a own (Ok r) reads = (fate_of_acts asset says (acts r), of_its_acts own r reads refl)
  read_fate a own (Err refusal) reads = (fate.Refused (form_refusal a refusal), of_no_form own refusal reads refl)

  command_fate : (a : AduValue) → IsOctets a.pdu → (f : Fate) × HasCommandFate asset says a f
  command_fate a o =
      elim (cases_eq a.unit asset.station) [
        | inl own ↦ (let r = each a.pdu o in read_fate a own r.0 r.1)
        | inr other ↦ (fate.Refused (station_refusal a), of_other_station other refl)
      ]

  adu_fate : (s : Side) (a : AduValue) → IsOctets a.pdu → (f : Fate) × HasAduFate asset says s a f
  adu_fate side.Client a o = command_fate a o
  adu_fate side.Controller a o = (fate.Carried, refl)

  unit_fate : (p : Protocol) (earlier : List Judged) (s : Side) (u : UnitValue) → IsItemOf p (Took s u) → (f : Fate) × HasUnitFate asset says earlier s u f
  unit_fate p earlier s (Adu a) is = adu_fate s a (pdu_octets p a is.0 is.1)
  unit_fate p earlier s (Frame x) is = (fate_of_frame asset says s earlier x (stray_of asset s x), refl)
  unit_fate p earlier s (Apdu x) is = (fate_of_apdu asset says s earlier x, refl)

  item_fate : (p : Protocol) (earlier : List Judged) (i : Item) → IsItemOf p i → (f : Fate) × HasItemFate asset says earlier i f
  item_fate p earlier (Took s u) is = unit_fate p earlier s u is
  item_fate p earlier (Ended s rest) is = (fate.Carried, refl)
  item_fate p earlier (Broke s because) is = (_, refl)

module _ (each : EachPduHasAnAnswer) (site : SiteValue) (client : Caller) where
  -- items judged up to the first that cuts
  record JudgesAll (earlier : List Judged) (places : List Placed) : Type 0 where
    js : List Judged
    dropped : List Placed
    are : places ≡ map place_of js ++ dropped
    goes : DropsBehindCut js dropped
    fates : HaveFates site client earlier js

  judge_one : (earlier : List Judged) (x : Placed) (xs : List Placed) (f : Fate) → HasFate site client earlier x f →
      ((j : Judged) → JudgesAll (earlier ++ j ∷ []) xs) → (c : Option CutReason) → fate_cut f ≡ c → JudgesAll earlier (x ∷ xs)
  judge_one earlier x xs f has rest None e =
      let j : Judged = record { moment = x.moment; item = x.item; fate = f } in
      let r = rest j in
      record { js = j ∷ r.js; dropped = r.dropped; are = ap (λ ys. x ∷ ys) r.are; goes = to_going (fate_cut f) r.js (DropsBehindCut r.js r.dropped) e r.goes; fates = (has, r.fates) }
  judge_one earlier x xs f has rest (Some c) e =
      let j : Judged = record { moment = x.moment; item = x.item; fate = f } in
      record { js = j ∷ []; dropped = xs; are = refl; goes = goes_cut (fate_cut f) c _ e; fates = (has, tt) }

  judge_all : (xs : List Placed) (earlier : List Judged) → AreItemsOf site.first.protocol xs → JudgesAll earlier xs
  judge_all [] earlier a = record { js = []; dropped = []; are = refl; goes = refl; fates = tt }
  judge_all (x ∷ xs) earlier a =
      let k = item_place site x.item in
      let f = item_fate each (asset_of site k) (says_at (asset_of site k) (own k client) (part site k earlier) x.moment) site.first.protocol (bears x.item earlier (part site k earlier)) x.item a.0 in
      judge_one earlier x xs f.0 f.1 (λ j. judge_all xs (earlier ++ j ∷ []) a.1) (fate_cut f.0) refl

-- ---- a side's bytes are units and a tail

abbrev HasTail : Protocol → List ℕ → Type 0
HasTail p xs = (us : List UnitValue) × (t : Tail) × AreUnits p xs us t

module _ (p : Protocol) where
  tail_by : (h : List Element) (e : Element) → HasTail p (bytes_of e.side (h ++ e ∷ [])) → (s : Side) → HasTail p (bytes_of s h) → HasTail p (bytes_of s (h ++ e ∷ []))
  tail_by h e now s before =
      elim (side_is s e.side) [
        | inl apart ↦ subst (HasTail p) (sym (bytes_apart s h e apart)) before
        | inr same ↦ subst (λ t. HasTail p (bytes_of t (h ++ e ∷ []))) same now
      ]

  tails_of : (later earlier : List Element) (items : List Placed) → ((s : Side) → HasTail p (bytes_of s earlier)) → AreItems p earlier later items → (s : Side) → HasTail p (bytes_of s (earlier ++ later))
  tails_of [] earlier items before a s = subst (λ h. HasTail p (bytes_of s h)) (sym (append-nil earlier)) (before s)
  tails_of (e ∷ later) earlier items before a s =
      let c = a.2 in
      subst (λ h. HasTail p (bytes_of s h)) (append_assoc earlier (e ∷ []) later)
      (tails_of later (earlier ++ e ∷ []) a.1 (λ t. tail_by earlier e (c.before ++ c.more, c.tail, c.are) t (before t)) a.3 s)

  -- an element completes items after any history
  complete : (h : List Element) (e : Element) (us : List UnitValue) (t : Tail) → AreUnits p (bytes_of e.side h) us t → IsOctets e.letters.bytes → (now : List Placed) × Completes p h e now
  complete h e us (Wrong reason) a o =
      let stays = subst (λ vs. AreUnits p (bytes_of e.side h ++ bytes_in e.side e) vs (Wrong reason)) (sym (append-nil us)) (units_stay p us (bytes_of e.side h) (bytes_in e.side e) reason a) in
      let c : Completes p h e [] = record {
        before = us;
        was = Wrong reason;
        more = [];
        tail = Wrong reason;
        were = a;
        are = subst (λ xs. AreUnits p xs (us ++ []) (Wrong reason)) (sym (bytes_of-append e.side h e)) stays;
        is_items = refl;
      } in
      ([], c)
  complete h e us (Left rest) a o =
      let more = units_of_octets p (rest ++ e.letters.bytes) (IsOctets-append rest e.letters.bytes (left_octets p rest a.partial) o) in
      let all = units_pieces p us more.0 (bytes_of e.side h) rest e.letters.bytes more.1 a more.2 in
      let now = map (placed e.moment) (map (Took e.side) more.0 ++ last_items e.side e.letters.ended more.1) in
      let c : Completes p h e now = record {
        before = us;
        was = Left rest;
        more = more.0;
        tail = more.1;
        were = a;
        are = subst (λ xs. AreUnits p xs (us ++ more.0) more.1) (sym (bytes_own h e)) all;
        is_items = refl;
      } in
      (now, c)

-- ---- after a cut nothing is judged

cut_step : (c : Option CutReason) (js : List Judged) (P Q : Type 0) (r : CutReason) → (cut_of js ≡ Some r → P → Q) → option_or c (cut_of js) ≡ Some r → GoesOnAfter c js P → GoesOnAfter c js Q
cut_step None js P Q r on e g = on e g
cut_step (Some x) js P Q r on e g = g

dropped_cut : (js : List Judged) (ds es : List Placed) (r : CutReason) → cut_of js ≡ Some r → DropsBehindCut js ds → DropsBehindCut js es
dropped_cut [] ds es r e g = cc
dropped_cut (j ∷ js) ds es r e g = cut_step (fate_cut j.fate) js (DropsBehindCut js ds) (DropsBehindCut js es) r (λ e g. dropped_cut js ds es r e g) e g

module _ (each : EachPduHasAnAnswer) (site : SiteValue) (client : Caller) (h : List Element) (e : Element) (js : List Judged) (a : AreJudged site client h js)
    (now : List Placed) (c : Completes site.first.protocol h e now) (all : AreItemsOf site.first.protocol now) where
  on_by : (cut : Option CutReason) → cut_of js ≡ cut → (ks : List Judged) × AreJudged site client (h ++ e ∷ []) ks
  on_by None uncut =
      let r = judge_all each site client now js all in
      (js ++ r.js, judged_more site client h e js r.js now r.dropped a uncut c r.are r.goes r.fates)
  on_by (Some r) cuts = (
    js,
    record {
      items = a.items ++ now;
      are_items = items_more site.first.protocol [] h e a.items now a.are_items c;
      dropped = a.dropped ++ now;
      are_first = ap (λ xs. xs ++ now) a.are_first ∙ append_assoc (map place_of js) a.dropped now;
      goes_on = dropped_cut js a.dropped (a.dropped ++ now) r cuts a.goes_on;
      fates = a.fates;
    },
  )

pub judgements_go_on : EachPduHasAnAnswer → JudgementsGoOn
judgements_go_on each site client h e js a o =
    let p = site.first.protocol in
    let t = tails_of p h [] a.items (λ s. ([], Left [], record { starts = refl; partial = nothing_unit p })) a.are_items e.side in
    let c = complete p h e t.0 t.1 t.2 o in
    on_by each site client h e js a c.0 c.1 (one_weight p h e c.0 c.1).1 (cut_of js) refl
