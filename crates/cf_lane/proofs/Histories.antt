-- Laws of lanes over histories.
use Rattle.cf_lane.specs.Caller.{Caller, RateMoments, caller_at}
use Rattle.cf_lane.proofs.Saying.{all_still_known}
use Rattle.cf_lane.specs.Rings.{KnowsRules}
use Rattle.cf_audit.specs.declared.line.CutReason.{CutReason}
use Rattle.cf_lane.proofs.Earlier.{cut_of-append, first_none, in_turn-append}
use Rattle.cf_lane.proofs.Handling.{count-more, ended-more, fates-append, handled_more, push-nothing, with_lines-both, with_lines-nothing}
use Rattle.cf_lane.proofs.Pieces.{covers_rest, starts_join, starts_within, units_pieces}
use Rattle.cf_lane.proofs.Sides.{own_bytes}
use Rattle.cf_lane.specs.Follows.{AddsTo, AreJudged, AreRests, Began, BeganWithin, FailsApart, FailsWithin, Follows, DropsBehindCut, GoesOnAfter, IsRest, Rests, no_rests, over, rest_of, with_rest}
use Rattle.cf_lane.specs.Fate.{HasFate, HaveFates}
use Rattle.cf_lane.specs.declared.fate.Fate.{Fate}
use Rattle.cf_lane.specs.Handled.{Breaks, Does, Handled, Knows, LaneValue, Misses, State, TakesUnit, judged, state}
use Rattle.cf_lane.specs.History.{Element, bytes_at, bytes_in, bytes_of, end_at, is_side, letters_at}
use Rattle.cf_lane.specs.Item.{AreItems, Broke, Completes, Placed, Took, last_items, placed}
use Rattle.cf_lane.specs.Judged.{Judged, fate_cut, cut_of, has_ended, is_admitted, is_refused, place_of}
use Rattle.cf_lane.specs.Kept.{KnowsWire}
use Rattle.cf_lane.specs.Log.{item_lines, lines, with_lines}
use Rattle.cf_lane.specs.Output.{other, output, outputs, stream_to}
use Rattle.cf_lane.specs.Unit.{AreUnits, Left, SpellsUnit, Tail, UnitValue, Wrong, unit_break}
use Rattle.cf_outq.specs.SendQueue.{Queue, IsQueueOf, after_end, after_push}
use Rattle.cf_policy.specs.Site.{SiteValue}
use Rattle.cf_policy.specs.declared.Protocol.{Protocol}
use Rattle.cf_stream.specs.Stream.{Stream, no_letters, with_bytes, with_end}
use Rattle.cf_view.proofs.Units.{begins_with_more}
use Rattle.cf_view.specs.Framing.{Begins, IsPartial, IsPrefixFree}
use Rattle.cf_view.specs.Units.{BeginsWithUnits}
use Rattle.cf_view.specs.declared.Break.{Break}
use Rattle.cf_view.specs.declared.Endpoint.{Endpoint}
use Rattle.cf_view.specs.declared.Side.{Side}
use Rattle.std.proofs.Common.{Bool, List, None, Option, Some, [], ap, append_assoc, arith, drop, false, inl, inr, length, map, refl, rules, subst, sym, take, take-append-drop, true, ℕ, ◌++◌, ◌+◌, ◌-◌, ◌∙◌, ◌∷◌, ◌≡◌}
use Rattle.std.proofs.Math.Seq.{drop-append_seam, take-add, take-append_seam}
use Rattle.std.proofs.lemmas.Bool.{cases_Bool, cond_both}
use Rattle.std.proofs.lemmas.Grind.{common_steps}
use Rattle.std.proofs.lemmas.List.{append-nil, drop-drop, map-append}
use Rattle.std.specs.List.{concat}
use Rattle.std.specs.Option.{option_or}
use Rattle.std.specs.Prelude.{if◌then◌else◌}
use Rattle.cf_audit.specs.declared.line.CutReason.TheVariants as cut
use Rattle.cf_lane.specs.declared.fate.Fate.TheVariants as fate
use Rattle.cf_view.specs.declared.Side.TheVariants as side

pub bytes_of-append : (s : Side) (h : List Element) (e : Element) → bytes_of s (h ++ e ∷ []) ≡ bytes_of s h ++ bytes_in s e
bytes_of-append s [] e = append-nil (bytes_in s e)
bytes_of-append s (d ∷ h) e = ap (λ xs. bytes_in s d ++ xs) (bytes_of-append s h e) ∙ sym (append_assoc (bytes_in s d) (bytes_of s h) (bytes_in s e))

-- bytes after those of their side, or of the other
pub bytes_own : (h : List Element) (e : Element) → bytes_of e.side (h ++ e ∷ []) ≡ bytes_of e.side h ++ e.letters.bytes
bytes_own h e = bytes_of-append e.side h e ∙ ap (λ xs. bytes_of e.side h ++ xs) (own_bytes e)

pub bytes_apart : (s : Side) (h : List Element) (e : Element) → is_side s e.side ≡ false → bytes_of s (h ++ e ∷ []) ≡ bytes_of s h
bytes_apart s h e apart =
    bytes_of-append s h e ∙ ap (λ (b : Bool). bytes_of s h ++ (if b then e.letters.bytes else [])) apart ∙ append-nil (bytes_of s h)

pub no_bytes : (s t : Side) (m : ℕ) → bytes_in t (end_at m s) ≡ []
no_bytes s t m = cond_both (is_side t s) [] [] (λ xs. xs ≡ []) (λ _. refl) (λ _. refl)

pub items_more : (p : Protocol) (earlier later : List Element) (e : Element) (items now : List Placed) → AreItems p earlier later items →
    Completes p (earlier ++ later) e now → AreItems p earlier (later ++ e ∷ []) (items ++ now)
items_more p earlier [] e items now are c =
    let here : Completes p earlier e now = subst (λ (h : List Element). Completes p h e now) (append-nil earlier) c in
    (now, [], here, refl, ap (λ xs. xs ++ now) are ∙ sym (append-nil now))
items_more p earlier (d ∷ later) e items now are c =
    let one = are.0 in let next = are.1 in
    let rest = items_more p (earlier ++ d ∷ []) later e next now are.3
    (subst (λ (h : List Element). Completes p h e now) (sym (append_assoc earlier (d ∷ []) later)) c) in
    (one, next ++ now, are.2, rest, ap (λ xs. xs ++ now) are.4 ∙ append_assoc one next now)

pub nothing_dropped : (js : List Judged) (dropped : List Placed) → cut_of js ≡ None → DropsBehindCut js dropped → dropped ≡ []
nothing_dropped [] dropped e g = g
nothing_dropped (j ∷ js) dropped e g =
    let both = first_none (fate_cut j.fate) (cut_of js) e in
    nothing_dropped js dropped both.1 (subst (λ o. GoesOnAfter o js (DropsBehindCut js dropped)) both.0 g)

pub to_going : (c : Option CutReason) (later : List Judged) (going : Type 0) → c ≡ None → going → GoesOnAfter c later going
to_going c later going e g = subst (λ o. GoesOnAfter o later going) (sym e) g

pub goes_cut : (c : Option CutReason) (r : CutReason) (going : Type 0) → c ≡ Some r → GoesOnAfter c [] going
goes_cut c r going e = subst (λ o. GoesOnAfter o [] going) (sym e) refl

pub goes_more : (js ks : List Judged) (dropped : List Placed) → cut_of js ≡ None → DropsBehindCut ks dropped → DropsBehindCut (js ++ ks) dropped
goes_more [] ks dropped e g = g
goes_more (j ∷ js) ks dropped e g =
    let both = first_none (fate_cut j.fate) (cut_of js) e in
    to_going (fate_cut j.fate) (js ++ ks) (DropsBehindCut (js ++ ks) dropped) both.0 (goes_more js ks dropped both.1 g)

-- the items that an element completes, judged after those before it
pub judged_more : (site : SiteValue) (client : Caller) (h : List Element) (e : Element) (before js : List Judged) (now dropped : List Placed) → AreJudged site client h before →
    cut_of before ≡ None → Completes site.first.protocol h e now → now ≡ map place_of js ++ dropped → DropsBehindCut js dropped → HaveFates site client before js →
    AreJudged site client (h ++ e ∷ []) (before ++ js)
judged_more site client h e before js now dropped a uncut completes are goes fates = record {
  items = a.items ++ now;
  are_items = items_more site.first.protocol [] h e a.items now a.are_items completes;
  dropped = dropped;
  are_first = ap (λ xs. xs ++ now)
      (a.are_first ∙ ap (λ xs. map place_of before ++ xs) (nothing_dropped before a.dropped uncut a.goes_on) ∙ append-nil (map place_of before))
      ∙ ap (λ xs. map place_of before ++ xs) are
      ∙ sym (append_assoc (map place_of before) (map place_of js) dropped) ∙ ap (λ xs. xs ++ dropped) (sym (map-append place_of before js));
  goes_on = goes_more before js dropped uncut goes;
  fates = fates-append site client [] before js a.fates fates;
}

-- a log with the lines of items, and then those of more
pub lines_after : (site : SiteValue) (client : Endpoint) (first was : Option (List (List ℕ))) (before js : List Judged) → was ≡ with_lines first (lines site client [] before) →
    with_lines was (lines site client before js) ≡ with_lines first (lines site client [] (before ++ js))
lines_after site client first was before js is =
    ap (λ t. with_lines t (lines site client before js)) is ∙ with_lines-both first (lines site client [] before) (lines site client before js)
    ∙ ap (with_lines first) (sym (in_turn-append (λ b j. item_lines site client b j j.item) [] before js))

-- a log that has the lines of the first of these items, and a beginning of those of the others, has the first lines of the history
pub began_by : (site : SiteValue) (past : RateMoments) (client : Endpoint) (h : List Element) (first was log : Option (List (List ℕ))) (part : List ℕ) (before js fore later : List Judged) (k : ℕ) →
    AreJudged site (caller_at client.address past) h (before ++ js) → js ≡ fore ++ later → was ≡ with_lines first (lines site client [] before) →
    log ≡ with_lines was (lines site client before fore) → part ≡ take k (concat (lines site client (before ++ fore) later)) → Began site past client h first log part
began_by site past client h first was log part before js fore later k are parts of_lines is begins =
    let some = lines site client [] (before ++ fore) in
    let more = lines site client (before ++ fore) later in
    let all : some ++ more ≡ lines site client [] (before ++ js) =
    sym (in_turn-append (λ b j. item_lines site client b j j.item) [] (before ++ fore) later)
    ∙ ap (lines site client []) (append_assoc before fore later ∙ ap (λ xs. before ++ xs) (sym parts)) in
    record {
      judged = before ++ js;
      are_judged = are;
      count = length some;
      of_lines = is ∙ lines_after site client first was before fore of_lines ∙ ap (with_lines first) (sym (take-append_seam some more) ∙ ap (take (length some)) all);
      some = k;
      of_part = begins ∙ ap (λ xs. take k (concat xs)) (sym (drop-append_seam some more) ∙ ap (drop (length some)) all);
    }

-- what stands for a stream stands for it with more bytes, none of them after an End
open_push : (q : Queue) (w : Stream) (bytes : List ℕ) → q.ended ≡ false → IsQueueOf q w → IsQueueOf (after_push q bytes) (with_bytes w bytes)
open_push q w bytes o h = search (rules, common_steps)

pub stands_push : (q : Queue) (w : Stream) (bytes : List ℕ) → (q.ended ≡ true → bytes ≡ []) → IsQueueOf q w → IsQueueOf (after_push q bytes) (with_bytes w bytes)
stands_push q w bytes quiet h =
    elim (cases_Bool q.ended) [
      | inl e ↦ (let P : List ℕ → Type 0 = λ xs. IsQueueOf (after_push q xs) (with_bytes w xs) in
          let none : IsQueueOf (after_push q []) (with_bytes w []) = rw (push-nothing q, ap (λ (xs : List ℕ). record w { bytes = xs }) (append-nil w.bytes)) h in
          subst P (sym (quiet e)) none)
      | inr e ↦ open_push q w bytes e h
    ]

pub stands_end : (q : Queue) (w : Stream) → q.ended ≡ false → IsQueueOf q w → IsQueueOf (after_end q) (with_end w)
stands_end q w o h = search (rules, common_steps)

pub rest_by : (p : Protocol) (h : List Element) (rests : Rests) (s : Side) → AreRests p h rests None → IsRest p (bytes_of s h) (rest_of s rests)
rest_by p h rests side.Client a = a.0
rest_by p h rests side.Controller a = a.1

-- the bytes of the other side stay
pub rests_more : (p : Protocol) (h : List Element) (rests : Rests) (s : Side) (m : ℕ) (piece left : List ℕ) (ended : Bool) → AreRests p h rests None →
    IsRest p (bytes_of s (h ++ letters_at m s piece ended ∷ [])) left → AreRests p (h ++ letters_at m s piece ended ∷ []) (with_rest s rests left) None
rests_more p h rests side.Client m piece left ended a r =
    (r, subst (λ xs. IsRest p xs rests.controller) (sym (bytes_apart side.Controller h (letters_at m side.Client piece ended) refl)) a.1)
rests_more p h rests side.Controller m piece left ended a r =
    (subst (λ xs. IsRest p xs rests.client) (sym (bytes_apart side.Client h (letters_at m side.Controller piece ended) refl)) a.0, r)

pub same_stream : (v w : Stream) → v.bytes ≡ w.bytes → v.ended ≡ w.ended → v ≡ w
same_stream v w a b = rw (a, b) refl

module _ (site : SiteValue) (past : RateMoments) (h : List Element) (rests : Rests) (first : Option (List (List ℕ))) (moment : ℕ) (s : Side) (piece bytes : List ℕ) (ended : Bool) (old new : State)
    (is : bytes ≡ rest_of s rests ++ piece) (f : Follows site past h rests None first old)
    (units : List UnitValue) (tail : Tail) (are : AreUnits site.first.protocol bytes units tail)
    (js : List Judged) (dropped : List Placed)
    (are_js : map (placed moment) (map (Took s) units ++ last_items s ended tail) ≡ map place_of js ++ dropped)
    (goes : DropsBehindCut js dropped) (client : new.lane.client ≡ old.lane.client) (does : Does site past f.judged js old new) where
  abbrev e : Element
  e = letters_at moment s piece ended

  abbrev now : List Placed
  now = map (placed moment) (map (Took s) units ++ last_items s ended tail)

  abbrev before : List Judged
  before = f.judged

  pub rest_before : IsRest site.first.protocol (bytes_of s h) (rest_of s rests)
  rest_before = rest_by site.first.protocol h rests s f.are_rests

  pub units_now : AreUnits site.first.protocol (bytes_of s (h ++ e ∷ [])) (rest_before.units ++ units) tail
  units_now =
      subst (λ xs. AreUnits site.first.protocol xs (rest_before.units ++ units) tail)
      (sym (bytes_own h e))
      (units_pieces site.first.protocol rest_before.units units (bytes_of s h) (rest_of s rests) piece tail rest_before.cut
      (subst (λ xs. AreUnits site.first.protocol xs units tail) is are))

  completes : Completes site.first.protocol h e now
  completes = record { before = rest_before.units; was = Left (rest_of s rests); more = units; tail = tail; were = rest_before.cut; are = units_now; is_items = refl }

  are_judged_now : AreJudged site (caller_at old.lane.client.address past) (h ++ e ∷ []) (before ++ js)
  are_judged_now = judged_more site (caller_at old.lane.client.address past) h e before js now dropped f.are_judged f.is_cut completes are_js goes does.fates

  stream_now : (to : Side) → has_ended (other to) (before ++ js) ≡ has_ended (other to) before →
      stream_to site to (before ++ js) ≡ with_bytes (stream_to site to before) (outputs site to before js)
  stream_now to same = same_stream (stream_to site to (before ++ js)) (with_bytes (stream_to site to before) (outputs site to before js))
      (in_turn-append (output site to) [] before js) same

  client_now : IsQueueOf new.to_client (stream_to site side.Client (before ++ js))
  client_now =
      let same = sym does.knows.client_ended ∙ ap (λ (q : Queue). q.ended) does.of_client ∙ f.knows.client_ended in
      rw (does.of_client, stream_now side.Client same)
      (stands_push old.to_client (stream_to site side.Client before) (outputs site side.Client before js) does.client_quiet f.client_stream)

  controller_now : IsQueueOf new.to_controller (stream_to site side.Controller (before ++ js))
  controller_now =
      let same = sym does.knows.controller_ended ∙ ap (λ (q : Queue). q.ended) does.of_controller ∙ f.knows.controller_ended in
      rw (does.of_controller, stream_now side.Controller same)
      (stands_push old.to_controller (stream_to site side.Controller before) (outputs site side.Controller before js) does.controller_quiet f.controller_stream)

  pub fed : (rests' : Rests) (cut : Option CutReason) → cut_of js ≡ cut → AreRests site.first.protocol (h ++ e ∷ []) rests' cut →
      Follows site past (h ++ e ∷ []) rests' cut first new
  fed rests' cut c r = record {
    judged = before ++ js;
    are_judged = subst (λ (c : Endpoint). AreJudged site (caller_at c.address past) (h ++ e ∷ []) (before ++ js)) (sym client) are_judged_now;
    is_cut = cut_of-append before js f.is_cut ∙ c;
    are_rests = r;
    knows = does.knows;
    client_stream = client_now;
    controller_stream = controller_now;
    of_lines = does.of_lines ∙ lines_after site old.lane.client first old.lines before js f.of_lines
        ∙ ap (λ c. with_lines first (lines site c [] (before ++ js))) (sym client);
  }

-- the judged items with those of a piece, by their fates alone
pub judged_by : (site : SiteValue) (past : RateMoments) (h : List Element) (rests : Rests) (first : Option (List (List ℕ))) (moment : ℕ) (s : Side) (piece bytes : List ℕ) (ended : Bool) (old : State) →
    bytes ≡ rest_of s rests ++ piece → (f : Follows site past h rests None first old) → (units : List UnitValue) (tail : Tail) → AreUnits site.first.protocol bytes units tail →
    (js : List Judged) (dropped : List Placed) → map (placed moment) (map (Took s) units ++ last_items s ended tail) ≡ map place_of js ++ dropped →
    DropsBehindCut js dropped → HaveFates site (caller_at old.lane.client.address past) f.judged js →
    AreJudged site (caller_at old.lane.client.address past) (h ++ letters_at moment s piece ended ∷ []) (f.judged ++ js)
judged_by site past h rests first moment s piece bytes ended old is f units tail are js dropped are_js goes fates =
    let e : Element = letters_at moment s piece ended in
    let before = rest_by site.first.protocol h rests s f.are_rests in
    let now : AreUnits site.first.protocol (bytes_of s (h ++ e ∷ [])) (before.units ++ units) tail =
    subst (λ xs. AreUnits site.first.protocol xs (before.units ++ units) tail) (sym (bytes_own h e))
    (units_pieces site.first.protocol before.units units (bytes_of s h) (rest_of s rests) piece tail before.cut (subst (λ xs. AreUnits site.first.protocol xs units tail) is are)) in
    let completes : Completes site.first.protocol h e (map (placed moment) (map (Took s) units ++ last_items s ended tail)) =
    record { before = before.units; was = Left (rest_of s rests); more = units; tail = tail; were = before.cut; are = now; is_items = refl } in
    judged_more site (caller_at old.lane.client.address past) h e f.judged js (map (placed moment) (map (Took s) units ++ last_items s ended tail)) dropped f.are_judged f.is_cut completes are_js goes fates

-- what is known of earlier items does not read the log
pub knows_over : (site : SiteValue) (past : RateMoments) (own : Option (List (List ℕ))) (s : State) (earlier : List Judged) → Knows site past (over own s) earlier →
    Knows site past s earlier
knows_over site past own s earlier k = record { admitted = k.admitted; refused = k.refused; client_ended = k.client_ended; controller_ended = k.controller_ended; rules = k.rules; wire = k.wire }

-- and items do the same over another log
does_over : (site : SiteValue) (past : RateMoments) (own : Option (List (List ℕ))) (earlier js : List Judged) (old new : State) → Does site past earlier js old new →
    Does site past earlier js (over own old) (over (with_lines own (lines site old.lane.client earlier js)) new)
does_over site past own earlier js old new d = record {
  knows = knows_over site past new.lines (over (with_lines own (lines site old.lane.client earlier js)) new) (earlier ++ js) d.knows;
  fates = d.fates;
  of_client = d.of_client;
  of_controller = d.of_controller;
  of_lines = refl;
  client_quiet = d.client_quiet;
  controller_quiet = d.controller_quiet;
}

-- units handled so far at the front of bytes, each of them one item that does not cut
pub record Along (site : SiteValue) (moment : ℕ) (s : Side) (bytes : List ℕ) (used : ℕ) (old now : State) : Type 0 where
  pub units : List UnitValue
  pub js : List Judged
  pub starts : BeginsWithUnits (SpellsUnit site.first.protocol) units bytes (drop used bytes)
  pub are_js : map place_of js ≡ map (placed moment) (map (Took s) units)
  pub uncut : cut_of js ≡ None
  pub handled : Handled site js old now

-- one unit more at the front of bytes
pub starts_more : (p : Protocol) (units : List UnitValue) (unit : UnitValue) (bytes : List ℕ) (at used : ℕ) → BeginsWithUnits (SpellsUnit p) units bytes (drop at bytes) →
    Begins (SpellsUnit p) (drop at bytes) unit used → BeginsWithUnits (SpellsUnit p) (units ++ unit ∷ []) bytes (drop (at + used) bytes)
starts_more p units unit bytes at used starts begins =
    subst (λ rest. BeginsWithUnits (SpellsUnit p) (units ++ unit ∷ []) bytes rest) (drop-drop used at bytes) (begins_with_more (SpellsUnit p) units unit bytes (drop at bytes) used starts begins)

pub are_more : (moment : ℕ) (s : Side) (units : List UnitValue) (unit : UnitValue) (js : List Judged) (f : Fate) → map place_of js ≡ map (placed moment) (map (Took s) units) →
    map place_of (js ++ judged moment (Took s unit) f ∷ []) ≡ map (placed moment) (map (Took s) (units ++ unit ∷ []))
are_more moment s units unit js f are =
    map-append place_of js (judged moment (Took s unit) f ∷ []) ∙ ap (λ xs. xs ++ placed moment (Took s unit) ∷ []) are
    ∙ sym (map-append (placed moment) (map (Took s) units) (Took s unit ∷ []))
    ∙ ap (map (placed moment)) (sym (map-append (Took s) units (unit ∷ [])))

abbrev pub along_more : (site : SiteValue) (moment : ℕ) (s : Side) (bytes : List ℕ) (at used : ℕ) (old now new : State) → Along site moment s bytes at old now →
    TakesUnit site moment s (drop at bytes) used None now new → Along site moment s bytes (at + used) old new
along_more site moment s bytes at used old now new a t =
    let j : Judged = judged moment (Took s t.unit) t.fate in
    record {
      units = a.units ++ t.unit ∷ [];
      js = a.js ++ j ∷ [];
      starts = starts_more site.first.protocol a.units t.unit bytes at used a.starts t.begins;
      are_js = are_more moment s a.units t.unit a.js t.fate a.are_js;
      uncut = cut_of-append a.js (j ∷ []) a.uncut ∙ ap (λ c. option_or c None) t.is_cut;
      handled = handled_more site a.js (j ∷ []) old now new a.uncut a.handled t.handled;
    }

goes_none : (js : List Judged) → cut_of js ≡ None → DropsBehindCut js []
goes_none [] e = refl
goes_none (j ∷ js) e = let both = first_none (fate_cut j.fate) (cut_of js) e in to_going (fate_cut j.fate) js (DropsBehindCut js []) both.0 (goes_none js both.1)

-- where a break stands nothing is done
handled_break : (site : SiteValue) (moment : ℕ) (s : Side) (b : Break) (now : State) →
    Handled site (judged moment (Broke s b) (fate.Cuts (cut.Framing s b)) ∷ []) now now
handled_break site moment s b now = record {
  client = refl;
  does = λ past earlier before knows. record {
    knows = record {
      admitted = knows.admitted ∙ sym (count-more (λ i. is_admitted i.fate) earlier (judged moment (Broke s b) (fate.Cuts (cut.Framing s b))) ∙ omega arith);
      refused = knows.refused ∙ sym (count-more (λ i. is_refused i.fate) earlier (judged moment (Broke s b) (fate.Cuts (cut.Framing s b))) ∙ omega arith);
      client_ended = knows.client_ended ∙ sym (ended-more side.Controller earlier (judged moment (Broke s b) (fate.Cuts (cut.Framing s b))) refl);
      controller_ended = knows.controller_ended ∙ sym (ended-more side.Client earlier (judged moment (Broke s b) (fate.Cuts (cut.Framing s b))) refl);
      rules = all_still_known site past now.lane.rules earlier (judged moment (Broke s b) (fate.Cuts (cut.Framing s b))) refl knows.rules;
      wire = λ e. cc (e, cut_of-append earlier (judged moment (Broke s b) (fate.Cuts (cut.Framing s b)) ∷ []) before);
    };
    fates = (refl, tt);
    of_client = sym (push-nothing now.to_client);
    of_controller = sym (push-nothing now.to_controller);
    of_lines = sym (with_lines-nothing now.lines);
    client_quiet = λ e. refl;
    controller_quiet = λ e. refl;
  };
}

-- judged items add their lines to a history that stands over lines of its own
module _ (site : SiteValue) (past : RateMoments) (h : List Element) (rests : Rests) (first own : Option (List (List ℕ))) (moment : ℕ) (s : Side) (piece bytes : List ℕ) (ended : Bool) (old new : State)
    (is : bytes ≡ rest_of s rests ++ piece) (f : Follows site past h rests None first (over own old))
    (units : List UnitValue) (tail : Tail) (are : AreUnits site.first.protocol bytes units tail) (js : List Judged) (dropped : List Placed)
    (are_js : map (placed moment) (map (Took s) units ++ last_items s ended tail) ≡ map place_of js ++ dropped) (goes : DropsBehindCut js dropped) (all : Handled site js old new) where
  abbrev more : List (List ℕ)
  more = lines site old.lane.client f.judged js

  does_apart : Does site past f.judged js (over own old) (over (with_lines own more) new)
  does_apart = does_over site past own f.judged js old new (all.does past f.judged f.is_cut (knows_over site past own old f.judged f.knows))

  units_apart : AreUnits site.first.protocol (bytes_of s (h ++ letters_at moment s piece ended ∷ [])) ((rest_by site.first.protocol h rests s f.are_rests).units ++ units) tail
  unfolding rest_by rest_before
  units_apart = units_now site past h rests first moment s piece bytes ended (over own old) (over (with_lines own more) new) is f units tail are js dropped are_js goes all.client does_apart

  adds : (rests' : Rests) (cut : Option CutReason) → cut_of js ≡ cut → AreRests site.first.protocol (h ++ letters_at moment s piece ended ∷ []) rests' cut →
      AddsTo site past (h ++ letters_at moment s piece ended ∷ []) rests' cut first own old.lines new
  adds rests' cut c r = record {
    more = more;
    added = (all.does past f.judged f.is_cut (knows_over site past own old f.judged f.knows)).of_lines;
    follows = fed site past h rests first moment s piece bytes ended (over own old) (over (with_lines own more) new) is f units tail are js dropped are_js goes all.client does_apart rests' cut c r;
  }

module _ (site : SiteValue) (past : RateMoments) (h : List Element) (rests : Rests) (first own : Option (List (List ℕ))) (moment : ℕ) (s : Side) (piece bytes : List ℕ) (used : ℕ) (old now : State)
    (is : bytes ≡ rest_of s rests ++ piece) (f : Follows site past h rests None first (over own old)) (a : Along site moment s bytes used old now) where
  -- the bytes are used up to a proper prefix of a unit
  pub fed_whole : IsPartial (SpellsUnit site.first.protocol) (drop used bytes) →
      AddsTo site past (h ++ bytes_at moment s piece ∷ []) (with_rest s rests (drop used bytes)) None first own old.lines now
  fed_whole partial =
      let left = drop used bytes in
      let are : AreUnits site.first.protocol bytes a.units (Left left) = record { starts = a.starts; partial = partial } in
      let are_js : map (placed moment) (map (Took s) a.units ++ []) ≡ map place_of a.js ++ [] =
      ap (map (placed moment)) (append-nil (map (Took s) a.units)) ∙ sym a.are_js ∙ sym (append-nil (map place_of a.js)) in
      let goes = goes_none a.js a.uncut in
      let r : IsRest site.first.protocol (bytes_of s (h ++ bytes_at moment s piece ∷ [])) left = record {
        units = (rest_by site.first.protocol h rests s f.are_rests).units ++ a.units;
        cut = units_apart site past h rests first own moment s piece bytes false old now is f a.units (Left left) are a.js [] are_js goes a.handled;
      } in
      adds site past h rests first own moment s piece bytes false old now is f a.units (Left left) are a.js [] are_js goes a.handled
      (with_rest s rests left) None a.uncut (rests_more site.first.protocol h rests s moment piece left false f.are_rests r)

  -- or up to an octet that no unit has there
  pub fed_broken : (ended : Bool) (reason : CutReason) → Breaks site s (drop used bytes) reason →
      AddsTo site past (h ++ letters_at moment s piece ended ∷ []) (with_rest s rests (drop used bytes)) (Some reason) first own old.lines now
  fed_broken ended reason b =
      let broken = unit_break site.first.protocol b.place in
      let j : Judged = judged moment (Broke s broken) (fate.Cuts (cut.Framing s broken)) in
      let all : Handled site (a.js ++ j ∷ []) old now = handled_more site a.js (j ∷ []) old now now a.uncut a.handled (handled_break site moment s broken now) in
      let are : AreUnits site.first.protocol bytes a.units (Wrong broken) =
      (b.place, record { rest = drop used bytes; starts = a.starts; breaks = b.breaks }, refl) in
      let are_js : map (placed moment) (map (Took s) a.units ++ Broke s broken ∷ []) ≡ map place_of (a.js ++ j ∷ []) ++ [] =
      map-append (placed moment) (map (Took s) a.units) (Broke s broken ∷ []) ∙ ap (λ xs. xs ++ placed moment (Broke s broken) ∷ []) (sym a.are_js)
      ∙ sym (map-append place_of a.js (j ∷ [])) ∙ sym (append-nil (map place_of (a.js ++ j ∷ []))) in
      adds site past h rests first own moment s piece bytes ended old now is f a.units (Wrong broken) are (a.js ++ j ∷ []) [] are_js
      (goes_more a.js (j ∷ []) [] a.uncut refl) all
      (with_rest s rests (drop used bytes)) (Some reason) (cut_of-append a.js (j ∷ []) a.uncut ∙ ap Some (sym b.is_reason)) tt

-- the line of a unit failed
module _ (site : SiteValue) (free : IsPrefixFree (SpellsUnit site.first.protocol)) (nothing : IsPartial (SpellsUnit site.first.protocol) []) (moment : ℕ) (s : Side) (bytes : List ℕ) (used : ℕ)
    (old mid : State) (log : Option (List (List ℕ))) (part : List ℕ) (a : Along site moment s bytes used old mid) (m : Misses site moment s (drop used bytes) mid log part) where
  abbrev one : Judged
  one = judged moment (Took s m.unit) m.fate

  pub fails_apart : FailsApart site moment s bytes old log part
  fails_apart past h rests first own piece is f =
      let rest = rest_of s rests in
      let n = used + m.used in
      let units = a.units ++ m.unit ∷ [] in
      let js = a.js ++ one ∷ [] in
      let starts = starts_more site.first.protocol a.units m.unit bytes used m.used a.starts m.begins in
      let P : List ℕ → Type 0 = λ xs. BeginsWithUnits (SpellsUnit site.first.protocol) units xs (drop n xs) in
      let before = rest_by site.first.protocol h rests s f.are_rests in
      let covers = covers_rest (SpellsUnit site.first.protocol) free a.units m.unit rest piece n before.cut.partial (subst P is starts) in
      let k = n - length rest in
      let front = take k piece in
      let whole : take n bytes ≡ rest ++ front =
      ap (take n) is ∙ ap (λ i. take i (rest ++ piece)) (omega (arith, covers)) ∙ take-add (length rest) k (rest ++ piece)
      ∙ ap (λ xs. xs ++ take k (drop (length rest) (rest ++ piece))) (take-append_seam rest piece)
      ∙ ap (λ xs. rest ++ take k xs) (drop-append_seam rest piece) in
      let Q : List ℕ → Type 0 = λ xs. BeginsWithUnits (SpellsUnit site.first.protocol) units xs (drop n bytes) in
      let are : AreUnits site.first.protocol (take n bytes) units (Left []) = record {
        starts = starts_within (SpellsUnit site.first.protocol) units (take n bytes) (drop n bytes) (subst Q (sym (take-append-drop n bytes)) starts);
        partial = nothing;
      } in
      let are_js : map (placed moment) (map (Took s) units ++ []) ≡ map place_of js ++ [] =
      ap (map (placed moment)) (append-nil (map (Took s) units)) ∙ sym (are_more moment s a.units m.unit a.js m.fate a.are_js) ∙ sym (append-nil (map place_of js)) in
      let goes = goes_none js (cut_of-append a.js (one ∷ []) a.uncut ∙ ap (λ c. option_or c None) m.uncut) in
      let knows = knows_over site past own old f.judged f.knows in
      let does = a.handled.does past f.judged f.is_cut knows in
      let uncut = cut_of-append f.judged a.js f.is_cut ∙ a.uncut in
      let fated = subst (λ (c : Endpoint). HasFate site (caller_at c.address past) (f.judged ++ a.js) (place_of one) m.fate) a.handled.client (m.has past (f.judged ++ a.js) uncut does.knows) in
      let fates = fates-append site (caller_at old.lane.client.address past) f.judged a.js (one ∷ []) does.fates (fated, tt) in
      let some = lines site old.lane.client f.judged a.js in
      let every = lines site old.lane.client f.judged js in
      let more : lines site old.lane.client (f.judged ++ a.js) (one ∷ []) ≡ m.more =
      ap (λ c. lines site c (f.judged ++ a.js) (one ∷ [])) (sym a.handled.client) ∙ m.are_more past (f.judged ++ a.js) uncut does.knows in
      let last : some ++ m.more ≡ every =
      ap (λ xs. some ++ xs) (sym more) ∙ sym (in_turn-append (λ b j. item_lines site old.lane.client b j j.item) f.judged a.js (one ∷ [])) in
      let judged_now = judged_by site past h rests first moment s front (take n bytes) false (over own old) whole f units (Left []) are js [] are_js goes fates in
      elim m.line [
        | inl none ↦ record {
          more = some;
          added = none.0 ∙ does.of_lines;
          began = record {
            handled = front;
            rest = drop k piece;
            piece_is = sym (take-append-drop k piece);
            began = began_by site past old.lane.client (h ++ bytes_at moment s front ∷ []) first own (with_lines own some) part f.judged js a.js (one ∷ []) none.1.0
                judged_now refl f.of_lines refl (none.1.1 ∙ ap (λ xs. take none.1.0 (concat xs)) (sym more));
          };
        }
        | inr all ↦ record {
          more = every;
          added = all.0 ∙ ap (λ t. with_lines t m.more) does.of_lines ∙ with_lines-both old.lines some m.more ∙ ap (with_lines old.lines) last;
          began = record {
            handled = front;
            rest = drop k piece;
            piece_is = sym (take-append-drop k piece);
            began = began_by site past old.lane.client (h ++ bytes_at moment s front ∷ []) first own (with_lines own every) part f.judged js js [] 0
                judged_now (sym (append-nil js)) f.of_lines refl all.1;
          };
        }
      ]

-- what holds of lines of its own holds of the whole log
pub of_whole_log : (site : SiteValue) (past : RateMoments) (h : List Element) (rests : Rests) (cut : Option CutReason) (first : Option (List (List ℕ))) (old now : State) →
    AddsTo site past h rests cut first old.lines old.lines now → Follows site past h rests cut first now
of_whole_log site past h rests cut first old now a =
    subst (λ (log : Option (List (List ℕ))). Follows site past h rests cut first (over log now)) (sym a.added) a.follows

pub fails_of_whole : (site : SiteValue) (moment : ℕ) (s : Side) (bytes : List ℕ) (old : State) (log : Option (List (List ℕ))) (part : List ℕ) →
    FailsApart site moment s bytes old log part → FailsWithin site moment s bytes old log part
fails_of_whole site moment s bytes old log part fails past h rests first piece is f =
    let a = fails past h rests first old.lines piece is f in
    subst (λ l. BeganWithin site past old.lane.client h moment s piece first l part) (sym a.added) a.began

-- one more unit in front
unit_before : (p : Protocol) (u : UnitValue) (n : ℕ) (xs : List ℕ) (us : List UnitValue) (t : Tail) → Begins (SpellsUnit p) xs u n → AreUnits p (drop n xs) us t →
    AreUnits p xs (u ∷ us) t
unit_before p u n xs us (Left r) b a = record { starts = (n, b, a.starts); partial = a.partial }
unit_before p u n xs us (Wrong w) b a = (a.0, record { rest = a.1.rest; starts = (n, b, a.1.starts); breaks = a.1.breaks }, a.2)

units_behind : (p : Protocol) (us vs : List UnitValue) (xs rest : List ℕ) (t : Tail) → BeginsWithUnits (SpellsUnit p) us xs rest → AreUnits p rest vs t →
    AreUnits p xs (us ++ vs) t
units_behind p us vs xs rest (Left r) s a = record { starts = starts_join (SpellsUnit p) us vs xs rest r s a.starts; partial = a.partial }
units_behind p us vs xs rest (Wrong w) s a =
    (a.0, record { rest = a.1.rest; starts = starts_join (SpellsUnit p) us vs xs rest a.1.rest s a.1.starts; breaks = a.1.breaks }, a.2)

module _ (site : SiteValue) (past : RateMoments) (h : List Element) (rests : Rests) (first own : Option (List (List ℕ))) (moment : ℕ) (s : Side) (piece bytes : List ℕ) (used n : ℕ) (old mid new : State)
    (is : bytes ≡ rest_of s rests ++ piece) (f : Follows site past h rests None first (over own old)) (a : Along site moment s bytes used old mid) where
  -- units up to one that cuts: the bytes after it have units, which are dropped, and so is an End after them
  pub fed_cut : (ended : Bool) (reason : CutReason) → TakesUnit site moment s (drop used bytes) n (Some reason) mid new →
      ((us : List UnitValue) × (t : Tail) × AreUnits site.first.protocol (drop n (drop used bytes)) us t) → (rests' : Rests) →
      AddsTo site past (h ++ letters_at moment s piece ended ∷ []) rests' (Some reason) first own old.lines new
  fed_cut ended reason t exists rests' =
      let us = exists.0 in
      let tail = exists.1 in
      let j : Judged = judged moment (Took s t.unit) t.fate in
      let behind = map (Took s) us ++ last_items s ended tail in
      let are : AreUnits site.first.protocol bytes (a.units ++ t.unit ∷ us) tail =
      units_behind site.first.protocol a.units (t.unit ∷ us) bytes (drop used bytes) tail a.starts (unit_before site.first.protocol t.unit n (drop used bytes) us tail t.begins exists.2) in
      let items : map (Took s) (a.units ++ t.unit ∷ us) ++ last_items s ended tail ≡ map (Took s) a.units ++ Took s t.unit ∷ behind =
      ap (λ xs. xs ++ last_items s ended tail) (map-append (Took s) a.units (t.unit ∷ us))
      ∙ append_assoc (map (Took s) a.units) (Took s t.unit ∷ map (Took s) us) (last_items s ended tail) in
      let are_js : map (placed moment) (map (Took s) (a.units ++ t.unit ∷ us) ++ last_items s ended tail) ≡ map place_of (a.js ++ j ∷ []) ++ map (placed moment) behind =
      ap (map (placed moment)) items ∙ map-append (placed moment) (map (Took s) a.units) (Took s t.unit ∷ behind)
      ∙ ap (λ xs. xs ++ placed moment (Took s t.unit) ∷ map (placed moment) behind) (sym a.are_js)
      ∙ sym (append_assoc (map place_of a.js) (placed moment (Took s t.unit) ∷ []) (map (placed moment) behind))
      ∙ ap (λ xs. xs ++ map (placed moment) behind) (sym (map-append place_of a.js (j ∷ []))) in
      let all : Handled site (a.js ++ j ∷ []) old new = handled_more site a.js (j ∷ []) old mid new a.uncut a.handled t.handled in
      adds site past h rests first own moment s piece bytes ended old new is f (a.units ++ t.unit ∷ us) tail are (a.js ++ j ∷ []) (map (placed moment) behind) are_js
      (goes_more a.js (j ∷ []) (map (placed moment) behind) a.uncut (goes_cut (fate_cut t.fate) reason (DropsBehindCut [] (map (placed moment) behind)) t.is_cut))
      all rests' (Some reason) (cut_of-append a.js (j ∷ []) a.uncut ∙ ap (λ c. option_or c None) t.is_cut) tt

-- at first nothing was taken
pub follows_new : (site : SiteValue) (past : RateMoments) → IsPartial (SpellsUnit site.first.protocol) [] → (lane : LaneValue) → lane.admitted ≡ 0 → lane.refused ≡ 0 → KnowsRules site past lane.rules [] → KnowsWire site lane.wire [] →
    (to_client to_controller : Queue) (first : Option (List (List ℕ))) → IsQueueOf to_client no_letters → IsQueueOf to_controller no_letters →
    Follows site past [] no_rests None first (state lane to_client to_controller first)
follows_new site past nothing lane admitted refused rules wire to_client to_controller first c s =
    let r : IsRest site.first.protocol [] [] = record { units = []; cut = record { starts = refl; partial = nothing } } in
    record {
      judged = [];
      are_judged = record { items = []; are_items = refl; dropped = []; are_first = refl; goes_on = refl; fates = tt };
      is_cut = refl;
      are_rests = (r, r);
      knows = record { admitted = admitted; refused = refused; client_ended = c.ended; controller_ended = s.ended; rules = rules; wire = λ e. wire };
      client_stream = c;
      controller_stream = s;
      of_lines = sym (with_lines-nothing first);
    }
