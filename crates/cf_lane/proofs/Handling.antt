-- Laws of lanes over items.
use Rattle.cf_lane.specs.Caller.{Caller, RateMoments, caller_at, own_at}
use Rattle.cf_lane.specs.Rings.{AllGoOn, KnowsRules}
use Rattle.cf_lane.specs.Rates.{says_at}
use Rattle.cf_lane.proofs.Earlier.{cut_of-append, in_turn-append, wire_stays}
use Rattle.cf_lane.proofs.Parting.{ended_part}
use Rattle.cf_lane.proofs.Saying.{all_known}
use Rattle.cf_lane.specs.Fate.{HasFateBy, HaveFates}
use Rattle.cf_lane.specs.Handled.{Does, Handled, Knows, State, judged}
use Rattle.cf_lane.specs.Item.{Took}
use Rattle.cf_lane.specs.Judged.{Judged, cut_of, ends, has_ended, is_admitted, is_refused, one_if, place_of}
use Rattle.cf_lane.specs.Kept.{KnowsWire}
use Rattle.cf_lane.specs.Log.{is_some_bytes, item_lines, lines, lines_by, unit_lines, with_lines}
use Rattle.cf_lane.specs.Numbers.{item_event}
use Rattle.cf_lane.specs.Modbus.{HasAduFate, adu_output}
use Rattle.cf_lane.specs.Output.{output, output_by, outputs}
use Rattle.cf_lane.specs.Parts.{part}
use Rattle.cf_lane.specs.Site.{place_for}
use Rattle.cf_lane.specs.Unit.{Adu, UnitValue}
use Rattle.cf_lane.specs.declared.fate.Fate.{Fate}
use Rattle.cf_modbus.specs.Adu.{AduValue, spelling}
use Rattle.cf_outq.specs.SendQueue.{Queue, after_push}
use Rattle.cf_policy.specs.Site.{SiteValue, asset_of}
use Rattle.cf_view.specs.declared.Endpoint.{Endpoint}
use Rattle.cf_view.specs.declared.Side.{Side}
use Rattle.std.proofs.Common.{Bool, List, None, Option, Some, [], ap, append_assoc, arith, cond, false, refl, subst, sym, true, ℕ, ◌++◌, ◌+◌, ◌∙◌, ◌∷◌, ◌≡◌}
use Rattle.std.proofs.lemmas.Bool.{or_left}
use Rattle.std.proofs.lemmas.List.{append-nil, length-append}
use Rattle.std.proofs.lemmas.List.Folds.{list_any-append}
use Rattle.std.proofs.lemmas.List.Sums.{sum_by-append}
use Rattle.std.specs.List.{list_any}
use Rattle.std.specs.Prelude.{count_by, ◌||◌}
use Rattle.cf_view.specs.declared.Side.TheVariants as side

pub fates-append : (site : SiteValue) (client : Caller) (earlier js ks : List Judged) → HaveFates site client earlier js → HaveFates site client (earlier ++ js) ks →
    HaveFates site client earlier (js ++ ks)
fates-append site client earlier [] ks a b = subst (λ before. HaveFates site client before ks) (append-nil earlier) b
fates-append site client earlier (j ∷ js) ks a b =
    (a.0, fates-append site client (earlier ++ j ∷ []) js ks a.1 (subst (λ before. HaveFates site client before ks) (sym (append_assoc earlier (j ∷ []) js)) b))

-- the fates of items behind others
pub fates_behind : (site : SiteValue) (client : Caller) (earlier js ms : List Judged) → HaveFates site client earlier (js ++ ms) → HaveFates site client (earlier ++ js) ms
fates_behind site client earlier [] ms f = subst (λ before. HaveFates site client before ms) (sym (append-nil earlier)) f
fates_behind site client earlier (j ∷ js) ms f =
    subst (λ before. HaveFates site client before ms) (append_assoc earlier (j ∷ []) js) (fates_behind site client (earlier ++ j ∷ []) js ms f.1)

same_queue : (p q : Queue) → p.kept ≡ q.kept → p.pushed ≡ q.pushed → p.ended ≡ q.ended → p.acked ≡ q.acked → p.sent ≡ q.sent → p.shown ≡ q.shown → p ≡ q
same_queue p q a b c d e f = rw (a, b, c, d, e, f) refl

pub push-nothing : (q : Queue) → after_push q [] ≡ q
push-nothing q = same_queue (after_push q []) q (append-nil q.kept) (omega arith) refl refl refl refl

pub push-push : (q : Queue) (xs ys : List ℕ) → after_push (after_push q xs) ys ≡ after_push q (xs ++ ys)
push-push q xs ys =
    same_queue (after_push (after_push q xs) ys) (after_push q (xs ++ ys)) (append_assoc q.kept xs ys) (omega (arith, length-append xs ys)) refl refl refl refl

pub with_lines-nothing : (log : Option (List (List ℕ))) → with_lines log [] ≡ log
with_lines-nothing None = refl
with_lines-nothing (Some all) = ap Some (append-nil all)

pub with_lines-both : (log : Option (List (List ℕ))) (xs ys : List (List ℕ)) → with_lines (with_lines log xs) ys ≡ with_lines log (xs ++ ys)
with_lines-both None xs ys = refl
with_lines-both (Some all) xs ys = ap Some (append_assoc all xs ys)

-- no items do nothing
pub handled_none : (site : SiteValue) (s : State) → Handled site [] s s
handled_none site s = record {
  client = refl;
  does = λ past earlier uncut knows. record {
    knows = subst (Knows site past s) (sym (append-nil earlier)) knows;
    fates = tt;
    of_client = sym (push-nothing s.to_client);
    of_controller = sym (push-nothing s.to_controller);
    of_lines = sym (with_lines-nothing s.lines);
    client_quiet = λ e. refl;
    controller_quiet = λ e. refl;
  };
}

-- what both parts leave out, the whole does
none-append : (xs ys zs : List ℕ) → xs ≡ ys ++ zs → ys ≡ [] → zs ≡ [] → xs ≡ []
none-append xs ys zs e a b = rw (e, a, b) refl

module _ (site : SiteValue) (js ks : List Judged) (a b c : State) (uncut : cut_of js ≡ None) (first : Handled site js a b) (then_ : Handled site ks b c) where
  more_does : (past : RateMoments) (earlier : List Judged) → cut_of earlier ≡ None → Knows site past a earlier → Does site past earlier (js ++ ks) a c
  more_does past earlier before knows =
      let one = first.does past earlier before knows in
      let two = then_.does past (earlier ++ js) (cut_of-append earlier js before ∙ uncut) one.knows in
      let address : b.lane.client ≡ a.lane.client = first.client in
      record {
        knows = subst (Knows site past c) (append_assoc earlier js ks) two.knows;
        fates = fates-append site (caller_at a.lane.client.address past) earlier js ks one.fates
            (subst (λ (e : Endpoint). HaveFates site (caller_at e.address past) (earlier ++ js) ks) address two.fates);
        of_client = two.of_client ∙ ap (λ q. after_push q (outputs site side.Client (earlier ++ js) ks)) one.of_client
            ∙ push-push a.to_client (outputs site side.Client earlier js) (outputs site side.Client (earlier ++ js) ks)
            ∙ ap (after_push a.to_client) (sym (in_turn-append (output site side.Client) earlier js ks));
        of_controller = two.of_controller ∙ ap (λ q. after_push q (outputs site side.Controller (earlier ++ js) ks)) one.of_controller
            ∙ push-push a.to_controller (outputs site side.Controller earlier js) (outputs site side.Controller (earlier ++ js) ks)
            ∙ ap (after_push a.to_controller) (sym (in_turn-append (output site side.Controller) earlier js ks));
        of_lines = two.of_lines ∙ ap (λ t. with_lines t (lines site b.lane.client (earlier ++ js) ks)) one.of_lines
            ∙ ap (λ e. with_lines (with_lines a.lines (lines site a.lane.client earlier js)) (lines site e (earlier ++ js) ks)) address
            ∙ with_lines-both a.lines (lines site a.lane.client earlier js) (lines site a.lane.client (earlier ++ js) ks)
            ∙ ap (with_lines a.lines) (sym (in_turn-append (λ before j. item_lines site a.lane.client before j j.item) earlier js ks));
        client_quiet = λ e.
            none-append (outputs site side.Client earlier (js ++ ks)) (outputs site side.Client earlier js) (outputs site side.Client (earlier ++ js) ks)
            (in_turn-append (output site side.Client) earlier js ks) (one.client_quiet e) (two.client_quiet (ap (λ (q : Queue). q.ended) one.of_client ∙ e));
        controller_quiet = λ e.
            none-append (outputs site side.Controller earlier (js ++ ks)) (outputs site side.Controller earlier js) (outputs site side.Controller (earlier ++ js) ks)
            (in_turn-append (output site side.Controller) earlier js ks) (one.controller_quiet e) (two.controller_quiet (ap (λ (q : Queue). q.ended) one.of_controller ∙ e));
      }

  -- items and then more items
  pub handled_more : Handled site (js ++ ks) a c
  handled_more = record { client = then_.client ∙ first.client; does = more_does }

single : (b : Bool) → 0 + cond b 1 0 ≡ one_if b
single true = refl
single false = refl

pub count-more : (p : Judged → Bool) (js : List Judged) (j : Judged) → count_by p (js ++ j ∷ []) ≡ count_by p js + one_if (p j)
count-more p js j = sum_by-append (λ i. cond (p i) 1 0) js (j ∷ []) ∙ ap (λ n. count_by p js + n) (single (p j))

or-false : (b : Bool) → (b || (false || false)) ≡ b
or-false true = refl
or-false false = refl

-- an item that is no End of a side ends nothing
pub ended-more : (t : Side) (js : List Judged) (j : Judged) → ends t j.item ≡ false → has_ended t (js ++ j ∷ []) ≡ has_ended t js
ended-more t js j here =
    list_any-append (λ i. ends t i.item) js (j ∷ []) ∙ ap (λ b. list_any (λ i. ends t i.item) js || (b || false)) here ∙ or-false (list_any (λ i. ends t i.item) js)

adu_event : (s : Side) (a : AduValue) (f : Fate) (earlier : List Judged) → item_event earlier f (Took s (Adu a)) ≡ []
adu_event side.Client a f earlier = refl
adu_event side.Controller a f earlier = refl

-- a side that has ended stays so
pub ended_stays : (t : Side) (js : List Judged) (j : Judged) → has_ended t js ≡ true → has_ended t (js ++ j ∷ []) ≡ true
ended_stays t js j e =
    list_any-append (λ i. ends t i.item) js (j ∷ []) ∙ or_left (has_ended t js) (list_any (λ i. ends t i.item) (j ∷ [])) e

-- what a unit does by the asset of a place after the earlier items, beside what is counted
pub record DoesUnit (site : SiteValue) (k : ℕ) (past : RateMoments) (earlier : List Judged) (j : Judged) (s : Side) (u : UnitValue) (old new : State) : Type 0 where
  pub fate : HasFateBy site k (caller_at old.lane.client.address past) earlier (place_of j) j.fate
  pub of_client : new.to_client ≡ after_push old.to_client (output_by site k side.Client earlier j)
  pub of_controller : new.to_controller ≡ after_push old.to_controller (output_by site k side.Controller earlier j)
  pub of_lines : new.lines ≡ with_lines old.lines (lines_by site k old.lane.client earlier j s u)
  pub client_quiet : old.to_client.ended ≡ true → output_by site k side.Client earlier j ≡ []
  pub controller_quiet : old.to_controller.ended ≡ true → output_by site k side.Controller earlier j ≡ []
  pub wire : cut_of (earlier ++ j ∷ []) ≡ None → KnowsWire site new.lane.wire (earlier ++ j ∷ [])

-- a unit that did so by the asset that it is for, and was counted, was handled
pub unit_handled : (site : SiteValue) (place moment : ℕ) (s : Side) (u : UnitValue) → place ≡ place_for site s u → (f : Fate) (old new : State) → new.lane.client ≡ old.lane.client →
    new.lane.admitted ≡ old.lane.admitted + one_if (is_admitted f) → new.lane.refused ≡ old.lane.refused + one_if (is_refused f) → AllGoOn place f moment old.lane.rules new.lane.rules →
    ((past : RateMoments) (earlier : List Judged) → cut_of earlier ≡ None → Knows site past old earlier → DoesUnit site place past earlier (judged moment (Took s u) f) s u old new) →
    Handled site (judged moment (Took s u) f ∷ []) old new
unit_handled site place moment s u here f old new client admitted refused rules each = record {
  client = client;
  does = λ past earlier uncut knows.
      (let j : Judged = judged moment (Took s u) f in
      let d = subst (λ k. DoesUnit site k past earlier (judged moment (Took s u) f) s u old new) here (each past earlier uncut knows) in
      let nil = λ (to : Side). sym (append-nil (output site to earlier j)) in
      record {
        knows = record {
          admitted = admitted ∙ ap (λ n. n + one_if (is_admitted f)) knows.admitted ∙ sym (count-more (λ i. is_admitted i.fate) earlier j);
          refused = refused ∙ ap (λ n. n + one_if (is_refused f)) knows.refused ∙ sym (count-more (λ i. is_refused i.fate) earlier j);
          client_ended = ap (λ (q : Queue). q.ended) d.of_client ∙ knows.client_ended ∙ sym (ended-more side.Controller earlier j refl);
          controller_ended = ap (λ (q : Queue). q.ended) d.of_controller ∙ knows.controller_ended ∙ sym (ended-more side.Client earlier j refl);
          rules = all_known site past place s u f moment old.lane.rules new.lane.rules here rules earlier knows.rules;
          wire = d.wire;
        };
        fates = (d.fate, tt);
        of_client = d.of_client ∙ ap (after_push old.to_client) (nil side.Client);
        of_controller = d.of_controller ∙ ap (after_push old.to_controller) (nil side.Controller);
        of_lines = d.of_lines ∙ ap (with_lines old.lines) (sym (append-nil (item_lines site old.lane.client earlier j j.item)));
        client_quiet = λ e. sym (nil side.Client) ∙ d.client_quiet e;
        controller_quiet = λ e. sym (nil side.Controller) ∙ d.controller_quiet e;
      });
}

module _ (site : SiteValue) (place moment : ℕ) (s : Side) (a : AduValue) (here : place ≡ place_for site s (Adu a)) (f : Fate) (old new : State)
    (has : (past : RateMoments) (earlier : List Judged) → KnowsRules site past old.lane.rules earlier →
    HasAduFate (asset_of site place) (says_at (asset_of site place) (own_at old.lane.client.address (past place)) (part site place earlier) moment) s a f)
    (rules : AllGoOn place f moment old.lane.rules new.lane.rules)
    (client : new.lane.client ≡ old.lane.client) (wire : new.lane.wire ≡ old.lane.wire)
    (admitted : new.lane.admitted ≡ old.lane.admitted + one_if (is_admitted f)) (refused : new.lane.refused ≡ old.lane.refused + one_if (is_refused f))
    (of_client : new.to_client ≡ after_push old.to_client (adu_output side.Client old.to_client.ended s f a))
    (of_controller : new.to_controller ≡ after_push old.to_controller (adu_output side.Controller old.to_client.ended s f a))
    (of_lines : new.lines ≡ with_lines old.lines (unit_lines (asset_of site place) old.lane.client moment (is_some_bytes (adu_output side.Client old.to_client.ended s f a)) s (spelling a) f))
    (client_quiet : old.to_client.ended ≡ true → adu_output side.Client old.to_client.ended s f a ≡ [])
    (controller_quiet : old.to_controller.ended ≡ true → adu_output side.Controller old.to_client.ended s f a ≡ []) where
  pub adu_handled : Handled site (judged moment (Took s (Adu a)) f ∷ []) old new
  adu_handled = unit_handled site place moment s (Adu a) here f old new client admitted refused rules (λ past earlier before knows.
      (let e = knows.client_ended ∙ sym (ended_part site place side.Controller earlier) in
      let j : Judged = judged moment (Took s (Adu a)) f in
      record {
        fate = has past earlier knows.rules;
        of_client = of_client ∙ ap (λ b. after_push old.to_client (adu_output side.Client b s f a)) e;
        of_controller = of_controller ∙ ap (λ b. after_push old.to_controller (adu_output side.Controller b s f a)) e;
        of_lines = of_lines ∙ ap (λ b. with_lines old.lines (unit_lines (asset_of site place) old.lane.client moment (is_some_bytes (adu_output side.Client b s f a)) s (spelling a) f)) e;
        client_quiet = λ x. ap (λ b. adu_output side.Client b s f a) (sym e) ∙ client_quiet x;
        controller_quiet = λ x. ap (λ b. adu_output side.Controller b s f a) (sym e) ∙ controller_quiet x;
        wire = λ c. subst (λ w. KnowsWire site w (earlier ++ j ∷ [])) (sym wire)
            (wire_stays site earlier j (λ x t. refl) (λ x t b. refl) (adu_event s a f earlier) old.lane.wire (knows.wire before));
      }))
