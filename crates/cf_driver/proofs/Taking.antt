-- Letters of a side that the lane took.
use Rattle.cf_lane.specs.Caller.{RateMoments}
use Rattle.std.proofs.Common.{Bool, Err, List, None, Ok, Option, Result, Some, [], ap, arith, drop, false, length, refl, subst, sym, ℕ, ◌*◌, ◌++◌, ◌+◌, ◌<◌, ◌∙◌, ◌∷◌, ◌≡◌, ◌≤◌, ◌||◌}
use Rattle.std.specs.Prelude.{OnErr}
use Rattle.std.proofs.Math.Bool.{or-false, or-true}
use Rattle.std.proofs.lemmas.List.{append-nil, length-append, length-drop}
use Rattle.cf_audit.specs.declared.line.CutReason.{CutReason}
use Rattle.cf_lane.specs.Follows.{AddsTo, BeganApart, Follows, IsEndBehindCut, Rests, rest_of, with_rest}
use Rattle.cf_lane.specs.Handled.{CountsBy, EndsOther, Grows, IsLaneOf, LaneValue, State, debt, debt_limit, state}
use Rattle.cf_lane.specs.History.{Element, bytes_at, bytes_of, end_at, ended_of, letters_at}
use Rattle.cf_outq.specs.SendQueue.{Queue, after_end}
use Rattle.cf_policy.specs.Site.{SiteValue}
use Rattle.cf_view.specs.declared.Side.{Side}
use Rattle.cf_view.specs.declared.Side.TheVariants as side
use Rattle.cf_driver.specs.Takes.{OnlyPushed, Takes}

-- a fact that stands anyway stands after an error
pub on_err : {A E : Type 0} (r : Result A E) (P : Type 0) → P → OnErr r P
on_err (Ok x) P p = tt
on_err (Err e) P p = p

same_rest : (s : Side) (rests : Rests) → with_rest s rests (rest_of s rests) ≡ rests
same_rest side.Client rests = refl
same_rest side.Controller rests = refl

-- ---- a piece

own_bytes : (m : ℕ) (s : Side) (piece : List ℕ) → bytes_of s (bytes_at m s piece ∷ []) ≡ piece
own_bytes m side.Client piece = append-nil piece
own_bytes m side.Controller piece = append-nil piece

no_end : (m : ℕ) (t s : Side) (piece : List ℕ) → ended_of t (bytes_at m s piece ∷ []) ≡ false
no_end m side.Client side.Client piece = refl
no_end m side.Client side.Controller piece = refl
no_end m side.Controller side.Client piece = refl
no_end m side.Controller side.Controller piece = refl

same_pushed : {q : Queue} → OnlyPushed q q
same_pushed = record { acked = refl; sent = refl; shown = refl }

end_pushed : {q : Queue} → OnlyPushed q (after_end q)
end_pushed = record { acked = refl; sent = refl; shown = refl }

only_pushed : (most before now : ℕ) (old new : Queue) → Grows most before now old new → OnlyPushed old new
only_pushed most before now old new g = record {
  acked = ap (λ (q : Queue). q.acked) g.rest;
  sent = ap (λ (q : Queue). q.sent) g.rest;
  shown = ap (λ (q : Queue). q.shown) g.rest;
}

goes_on : (m : ℕ) (t s : Side) (piece : List ℕ) (most before now : ℕ) (old new : Queue) → Grows most before now old new → new.ended ≡ (old.ended || ended_of t (bytes_at m s piece ∷ []))
goes_on m t s piece most before now old new g = ap (λ (q : Queue). q.ended) g.rest ∙ sym (ap (λ b. old.ended || b) (no_end m t s piece) ∙ or-false old.ended)

-- after a cut no rest is of account
any_rests : (site : SiteValue) (past : RateMoments) (h : List Element) (r r' : Rests) (reason : CutReason) (first own old : Option (List (List ℕ))) (now : State) →
    AddsTo site past h r (Some reason) first own old now → AddsTo site past h r' (Some reason) first own old now
any_rests site past h r r' reason first own old now a =
    let f = a.follows in
    record {
      more = a.more;
      added = a.added;
      follows = record {
        judged = f.judged;
        are_judged = f.are_judged;
        is_cut = f.is_cut;
        are_rests = tt;
        knows = f.knows;
        client_stream = f.client_stream;
        controller_stream = f.controller_stream;
        of_lines = f.of_lines;
      };
    }

module _ (site : SiteValue) (moment : ℕ) (s : Side) (lane lane' : LaneValue) (c k c' k' : Queue) (log log' : Option (List (List ℕ))) where
  -- a piece was fed behind the rest
  module _ (piece rest view : List ℕ) (used : ℕ) (cut : Option CutReason) (is : view ≡ rest ++ piece) (inside : used ≤ length view)
      (fed : (past : RateMoments) (h : List Element) (rests : Rests) (first own : Option (List (List ℕ))) (more : List ℕ) (ended : Bool) → IsEndBehindCut ended cut → view ≡ rest_of s rests ++ more →
      Follows site past h rests None first (state lane c k own) → AddsTo site past (h ++ letters_at moment s more ended ∷ []) (with_rest s rests (drop used view)) cut first own log (state lane' c' k' log'))
      (of_site : IsLaneOf site lane') (owed : debt lane' ≤ debt_limit site) (client : lane'.client ≡ lane.client)
      (cs : Grows (2 * used) (debt lane) (debt lane') c c') (ks : Grows (2 * used) (debt lane) (debt lane') k k') (counts : CountsBy used lane lane') where
    fed_with : (rest' : List ℕ) (why : Option CutReason) →
        ((past : RateMoments) (h : List Element) (rests : Rests) (first own : Option (List (List ℕ))) → rest ≡ rest_of s rests → Follows site past h rests None first (state lane c k own) →
        AddsTo site past (h ++ bytes_at moment s piece ∷ []) (with_rest s rests rest') why first own log (state lane' c' k' log')) →
        length rest' < 300 → length rest' + used ≤ length view → Takes site s (bytes_at moment s piece ∷ []) why rest rest' (state lane c k log) (state lane' c' k' log')
    fed_with rest' why follows short left = record {
      follows = follows;
      short = short;
      of_site = of_site;
      debt = owed;
      client = client;
      to_client = only_pushed _ _ _ c c' cs;
      to_controller = only_pushed _ _ _ k k' ks;
      client_ended = goes_on moment side.Client s piece _ _ _ k k' ks;
      controller_ended = goes_on moment side.Controller s piece _ _ _ c c' cs;
      counts = omega (arith, counts, left, ap length is, length-append rest piece, ap length (own_bytes moment s piece));
    }

    pub takes_piece : (rest' : List ℕ) → cut ≡ None → length rest' < 300 → rest' ≡ drop used view →
        Takes site s (bytes_at moment s piece ∷ []) None rest rest' (state lane c k log) (state lane' c' k' log')
    takes_piece rest' none short left =
        fed_with rest' None
        (λ past h rests first own same f. subst (λ r. AddsTo site past (h ++ bytes_at moment s piece ∷ []) (with_rest s rests r) None first own log (state lane' c' k' log')) (sym left)
        (subst (λ w. AddsTo site past (h ++ bytes_at moment s piece ∷ []) (with_rest s rests (drop used view)) w first own log (state lane' c' k' log')) none
        (fed past h rests first own piece false tt (is ∙ ap (λ xs. xs ++ piece) same) f)))
        short (omega (arith, inside, ap length left, length-drop used view))

    pub takes_cut : (rest' : List ℕ) (reason : CutReason) → cut ≡ Some reason → rest' ≡ [] →
        Takes site s (bytes_at moment s piece ∷ []) (Some reason) rest rest' (state lane c k log) (state lane' c' k' log')
    takes_cut rest' reason why none =
        fed_with rest' (Some reason)
        (λ past h rests first own same f. any_rests site past _ (with_rest s rests (drop used view)) (with_rest s rests rest') reason first own log _
        (subst (λ w. AddsTo site past (h ++ bytes_at moment s piece ∷ []) (with_rest s rests (drop used view)) w first own log (state lane' c' k' log')) why
        (fed past h rests first own piece false tt (is ∙ ap (λ xs. xs ++ piece) same) f)))
        (omega (arith, ap length none)) (omega (arith, inside, ap length none))

  -- ---- an End

  end_of_client : (t : Side) → EndsOther t c k c' k' → k'.ended ≡ (k.ended || ended_of side.Client (end_at moment t ∷ []))
  end_of_client side.Client e = ap (λ (q : Queue). q.ended) e.1 ∙ sym (or-true k.ended)
  end_of_client side.Controller e = ap (λ (q : Queue). q.ended) e.1 ∙ sym (or-false k.ended)

  end_of_controller : (t : Side) → EndsOther t c k c' k' → c'.ended ≡ (c.ended || ended_of side.Controller (end_at moment t ∷ []))
  end_of_controller side.Client e = ap (λ (q : Queue). q.ended) e.0 ∙ sym (or-false c.ended)
  end_of_controller side.Controller e = ap (λ (q : Queue). q.ended) e.0 ∙ sym (or-true c.ended)

  ends_pushed : (t : Side) → EndsOther t c k c' k' → OnlyPushed c c' × OnlyPushed k k'
  ends_pushed side.Client e = (rw e.0 same_pushed, rw e.1 end_pushed)
  ends_pushed side.Controller e = (rw e.0 end_pushed, rw e.1 same_pushed)

  pub takes_end : (rest : List ℕ) (size : ℕ) → size ≡ length rest →
      ((past : RateMoments) (h : List Element) (rests : Rests) (first own : Option (List (List ℕ))) → size ≡ length (rest_of s rests) →
      Follows site past h rests None first (state lane c k own) → AddsTo site past (h ++ end_at moment s ∷ []) rests None first own log (state lane' c' k' log')) →
      length rest < 300 → IsLaneOf site lane → debt lane ≤ debt_limit site → lane' ≡ lane → EndsOther s c k c' k' →
      Takes site s (end_at moment s ∷ []) None rest rest (state lane c k log) (state lane' c' k' log')
  takes_end rest size e ends short of_site owed same queues =
      let pushed = ends_pushed s queues in
      record {
        follows = λ past h rests first own is f. subst (λ r. AddsTo site past (h ++ end_at moment s ∷ []) r None first own log (state lane' c' k' log')) (sym (ap (with_rest s rests) is ∙ same_rest s rests))
            (ends past h rests first own (e ∙ ap length is) f);
        short = short;
        of_site = subst (IsLaneOf site) (sym same) of_site;
        debt = subst (λ (l : LaneValue). debt l ≤ debt_limit site) (sym same) owed;
        client = ap (λ (l : LaneValue). l.client) same;
        to_client = pushed.0;
        to_controller = pushed.1;
        client_ended = end_of_client s queues;
        controller_ended = end_of_controller s queues;
        counts = omega (arith, ap (λ (l : LaneValue). l.admitted) same, ap (λ (l : LaneValue). l.refused) same);
      }

  pub misses_end : (rest : List ℕ) (size : ℕ) (lines : Option (List (List ℕ))) (part : List ℕ) → size ≡ length rest →
      ((past : RateMoments) (h : List Element) (rests : Rests) (first own : Option (List (List ℕ))) → size ≡ length (rest_of s rests) →
      Follows site past h rests None first (state lane c k own) → BeganApart site past lane.client (h ++ end_at moment s ∷ []) first own log lines part) →
      (past : RateMoments) (h : List Element) (rests : Rests) (first own : Option (List (List ℕ))) → rest ≡ rest_of s rests → Follows site past h rests None first (state lane c k own) →
      BeganApart site past lane.client (h ++ end_at moment s ∷ []) first own log lines part
  misses_end rest size lines part e fails past h rests first own is f = fails past h rests first own (e ∙ ap length is) f
