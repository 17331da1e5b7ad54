-- What a session has to pay for behind one turn more, and how many of its commands were refused.
use Rattle.cf_lane.specs.Caller.{RateMoments, caller_at}
use Rattle.std.proofs.Common.{Bool, List, None, Option, Some, ap, arith, refl, subst, sym, true, false, ℕ, ◌++◌, ◌-◌, ◌∙◌, ◌∷◌, ◌≡◌, []}
use Rattle.std.proofs.Common.{if◌then◌else◌}
use Rattle.std.specs.Prelude.{◌==◌}
use Rattle.std.specs.List.{AllByRecursion}
use Rattle.std.proofs.lemmas.List.{append-nil, append_assoc}
use Rattle.cf_lane.specs.Follows.{AreJudged}
use Rattle.cf_lane.specs.Judged.{is_admitted, is_refused}
use Rattle.cf_lane.specs.declared.fate.Fate.{Fate}
use Rattle.cf_outside.specs.Pair.{Entry, Moment, met_at}
use Rattle.cf_relay.proofs.Starting.{empty_judged}
use Rattle.cf_lane.specs.SiteRates.{used_at}
use Rattle.cf_relay.specs.Answers.{client_of, history_of}
use Rattle.cf_relay.specs.Turn.{AreItemsOf}
use Rattle.cf_view.specs.declared.Endpoint.{Endpoint}
use Rattle.cf_serve.specs.Debt.{Admits, AreMeasured, Counts, HasAdmitted, HasCounted, HasRefused, IsMeasured, Refuses, debt_behind, debt_from, debt_of, debt_with, no_debt}
use Rattle.cf_serve.specs.Phase.{KnowsOf, LeavesOf, LinkedValue, StandsAs, TurnLeaves, admitted_at, refused_at}
use Rattle.cf_serve.specs.Rounds.{TurnOf}
use Rattle.cf_serve.specs.Session.{Listening}
use Rattle.cf_serve.specs.declared.debt.Debt.{Debt}
use Rattle.cf_serve.specs.declared.end.SessionEnd.{SessionEnd}

-- ---- the debt

debt_more : (k : ℕ) (d : Debt) (past : List TurnOf) (t : TurnOf) → debt_from k d (past ++ t ∷ []) ≡ debt_behind k (debt_from k d past) t
debt_more k d [] t = refl
debt_more k d (u ∷ past) t = debt_more k (debt_behind k d u) past t

pub debt_own : (k : ℕ) (past : List TurnOf) (t : TurnOf) → (t.seat.session == k) ≡ true → debt_of k (past ++ t ∷ []) ≡ debt_with (debt_of k past) t.moment t.refused
debt_own k past t e = debt_more k no_debt past t ∙ ap (λ (b : Bool). if b then debt_with (debt_of k past) t.moment t.refused else debt_of k past) e

pub debt_other : (k : ℕ) (past : List TurnOf) (t : TurnOf) → (t.seat.session == k) ≡ false → debt_of k (past ++ t ∷ []) ≡ debt_of k past
debt_other k past t e = debt_more k no_debt past t ∙ ap (λ (b : Bool). if b then debt_with (debt_of k past) t.moment t.refused else debt_of k past) e

pub debt_none : (k : ℕ) (d : Debt) (past : List TurnOf) → AllByRecursion (λ (t : TurnOf). (t.seat.session == k) ≡ false) past → debt_from k d past ≡ d
debt_none k d [] h = refl
debt_none k d (t ∷ past) (e, h) =
    ap (λ (x : Debt). debt_from k x past) (ap (λ (b : Bool). if b then debt_with d t.moment t.refused else d) e) ∙ debt_none k d past h

-- ---- the turns

module _ (places : List Listening) where
  pub measured_more : (past ts : List TurnOf) (t : TurnOf) → AreMeasured places past ts → IsMeasured places (past ++ ts) t → AreMeasured places past (ts ++ t ∷ [])
  measured_more past [] t h m = (subst (λ (p : List TurnOf). IsMeasured places p t) (append-nil past) m, tt)
  measured_more past (u ∷ ts) t (p, h) m =
      (p, measured_more (past ++ u ∷ []) ts t h (subst (λ (q : List TurnOf). IsMeasured places q t) (sym (append_assoc past (u ∷ []) ts)) m))

  pub measured_behind : (past xs ys : List TurnOf) → AreMeasured places past (xs ++ ys) → AreMeasured places (past ++ xs) ys
  measured_behind past [] ys h = subst (λ (q : List TurnOf). AreMeasured places q ys) (sym (append-nil past)) h
  measured_behind past (x ∷ xs) ys (p, h) = subst (λ (q : List TurnOf). AreMeasured places q ys) (append_assoc past (x ∷ []) xs) (measured_behind (past ++ x ∷ []) xs ys h)

  pub measured_front : (past xs ys : List TurnOf) → AreMeasured places past (xs ++ ys) → AreMeasured places past xs
  measured_front past [] ys h = tt
  measured_front past (x ∷ xs) ys (p, h) = (p, measured_front (past ++ x ∷ []) xs ys h)

-- ---- the commands that were refused

-- both numbers of its commands are those of its own answers
abbrev IsCountedAs : Listening → (before : RateMoments) → List Entry → Option LinkedValue → Type 0
IsCountedAs at before es linked = HasAdmitted at before es (admitted_at linked) × HasRefused at before es (refused_at linked)

-- of a session that took nothing there are no items
pub no_items : (at : Listening) (before : RateMoments) (es : List Entry) → history_of es ≡ [] → AreItemsOf at.site before es []
no_items at before es none = subst (λ h. AreJudged at.site (caller_at (client_of es).address before) h []) (sym none) (empty_judged at.site (caller_at (client_of es).address before))

no_commands : (at : Listening) (before : RateMoments) (es : List Entry) → history_of es ≡ [] → IsCountedAs at before es None
no_commands at before es none = (([], (no_items at before es none, refl)), ([], (no_items at before es none, refl)))

-- what a relay that stands knows
pub stands_knows : (at : Listening) (before : RateMoments) (most : ℕ) (es : List Entry) (own : List (List ℕ)) (o : Option LinkedValue) → StandsAs at before most es own o → KnowsOf at before es o
stands_knows at before most es own None h = ap history_of h.0
stands_knows at before most es own (Some v) h =
    let all = met_at at.port at.site.first.endpoint v.met ∷ Moment h.moment ∷ h.answers in
    let f = h.stands.follows in
    let items = subst (λ (c : Endpoint). AreJudged at.site (caller_at c.address before) (history_of all) f.judged) h.stands.client f.are_judged in
    subst (λ (xs : List Entry). KnowsOf at before xs (Some v)) (sym h.split) (f.judged, (items, (record { admitted = f.knows.admitted; refused = f.knows.refused }, f.knows.rules)))

knows_counted : (at : Listening) (before : RateMoments) (es : List Entry) (o : Option LinkedValue) → KnowsOf at before es o → IsCountedAs at before es o
knows_counted at before es None h = no_commands at before es h
knows_counted at before es (Some v) (js, (items, (counts, rules))) = ((js, (items, counts.admitted)), (js, (items, counts.refused)))

-- what a turn leaves has its numbers, whether it stands or ended
pub leaves_knows : (at : Listening) (before : RateMoments) (most : ℕ) (client : Endpoint) (es : List Entry) (own : List (List ℕ)) (o : Option LinkedValue) (e : Option SessionEnd) →
    TurnLeaves at before most client es own o e → KnowsOf at before es o
leaves_knows at before most client es own o None leaves = stands_knows at before most es own o leaves
leaves_knows at before most client es own o (Some e) leaves = leaves.1

-- a session leaves so
pub leaves_left : (at : Listening) (before found : RateMoments) (es : List Entry) (o : Option LinkedValue) → KnowsOf at before es o → (left : RateMoments) × LeavesOf at before found es o left
leaves_left at before found es None h = (found, refl)
leaves_left at before found es (Some v) (js, (items, (counts, rules))) = (used_at at.site before js, (js, (items, (rules, refl))))

-- a turn admitted and refused the differences
module _ (at : Listening) (before : RateMoments) (most : ℕ) (client : Endpoint) (es answers : List Entry) (own own' : List (List ℕ)) (old new : Option LinkedValue) (e : Option SessionEnd)
    (stands : StandsAs at before most es own old) (leaves : TurnLeaves at before most client (es ++ answers) own' new e) where
  was : IsCountedAs at before es old
  was = knows_counted at before es old (stands_knows at before most es own old stands)

  is : IsCountedAs at before (es ++ answers) new
  is = knows_counted at before (es ++ answers) new (leaves_knows at before most client (es ++ answers) own' new e leaves)

  pub admits_by : Admits at before es answers (admitted_at new - admitted_at old)
  admits_by = (admitted_at old, admitted_at new, (was.0, (is.0, refl)))

  pub refuses_by : Refuses at before es answers (refused_at new - refused_at old)
  refuses_by = (refused_at old, refused_at new, (was.1, (is.1, refl)))

-- one that has no turn admitted and refused nothing
counts_none : (is : Fate → Bool) (at : Listening) (before : RateMoments) (es : List Entry) (n : ℕ) → HasCounted is at before es n → Counts is at before es [] 0
counts_none is at before es n h = (n, n, (h, (subst (λ (xs : List Entry). HasCounted is at before xs n) (sym (append-nil es)) h, omega arith)))

pub admits_none : (at : Listening) (before : RateMoments) (most : ℕ) (es : List Entry) (own : List (List ℕ)) (o : Option LinkedValue) → StandsAs at before most es own o → Admits at before es [] 0
admits_none at before most es own o stands = counts_none is_admitted at before es (admitted_at o) (knows_counted at before es o (stands_knows at before most es own o stands)).0

pub refuses_none : (at : Listening) (before : RateMoments) (most : ℕ) (es : List Entry) (own : List (List ℕ)) (o : Option LinkedValue) → StandsAs at before most es own o → Refuses at before es [] 0
refuses_none at before most es own o stands = counts_none is_refused at before es (refused_at o) (knows_counted at before es o (stands_knows at before most es own o stands)).1
