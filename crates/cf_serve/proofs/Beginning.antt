-- With what the sessions of a client begin and what they leave, behind one turn more.
use Rattle.std.proofs.Common.{Bool, List, None, Option, Some, ap, inl, inr, refl, subst, sym, true, false, ℕ, ◌++◌, ◌∙◌, ◌∷◌, ◌≡◌, []}
use Rattle.std.proofs.Common.{if◌then◌else◌}
use Rattle.std.specs.List.{list_any}
use Rattle.std.specs.Prelude.{is_some, option_to_list, slice_get, ◌&&◌, ◌+◌, ◌||◌}
use Rattle.std.proofs.lemmas.List.{append-nil, append_assoc}
use Rattle.std.proofs.lemmas.Option.{same_Some}
use Rattle.cf_lane.specs.Caller.{OwnMoments, RateMoments, none_before}
use Rattle.cf_lane.specs.Rates.{and_rated, rated_from}
use Rattle.cf_lane.specs.Ring.{RingValue}
use Rattle.cf_lane.specs.Rings.{IsLeft}
use Rattle.cf_outside.specs.Pair.{Entry}
use Rattle.cf_policy.specs.Site.{SiteValue, assets_of}
use Rattle.cf_policy.specs.declared.Asset.{Asset}
use Rattle.cf_policy.specs.declared.Rate.{Rate}
use Rattle.cf_policy.specs.declared.Rule.{Rule}
use Rattle.cf_relay.specs.Answers.{history_of}
use Rattle.cf_view.specs.declared.Endpoint.{Endpoint}
use Rattle.cf_serve.proofs.Parting.{none_any}
use Rattle.cf_serve.specs.Kept.{AreBegun, Begins, IsBegun, IsForgotten, IsOverAt, IsOwnOverAt, Leaves, before_of, left_behind, left_from, left_to}
use Rattle.cf_serve.specs.Lending.{Has, IsFree, KeptRings, KeptValue, Lent, Stored, kept_at, rings_in}
use Rattle.cf_serve.specs.Phase.{BeginsBy, BeginsWith, LeavesOf, LinkedValue, StandsAs, TurnLeaves, begun_by}
use Rattle.cf_serve.specs.Rounds.{Seat, TurnOf, has_own_rates, has_rates, is_client}
use Rattle.cf_serve.specs.Session.{Listening}
use Rattle.cf_serve.specs.Table.{BegunAs}
use Rattle.cf_serve.specs.declared.end.SessionEnd.{SessionEnd}

-- ---- turns one after the other

module _ (places : List Listening) where
  pub begun_more : (past ts : List TurnOf) (t : TurnOf) → AreBegun places past ts → IsBegun places (past ++ ts) t → AreBegun places past (ts ++ t ∷ [])
  begun_more past [] t h m = (subst (λ (p : List TurnOf). IsBegun places p t) (append-nil past) m, tt)
  begun_more past (u ∷ ts) t (p, h) m =
      (p, begun_more (past ++ u ∷ []) ts t h (subst (λ (q : List TurnOf). IsBegun places q t) (sym (append_assoc past (u ∷ []) ts)) m))

-- ---- what was left

left_one : (place address : ℕ) (left : RateMoments) (past : List TurnOf) (t : TurnOf) →
    left_from place address left (past ++ t ∷ []) ≡ left_behind place address (left_from place address left past) t
left_one place address left [] t = refl
left_one place address left (u ∷ past) t = left_one place address (left_behind place address left u) past t

never : (b : Bool) → (b && false) ≡ false
never true = refl
never false = refl

module _ (place address : ℕ) (past : List TurnOf) (t : TurnOf) where
  chosen_by : (b : Bool) → (is_client place address t.seat && is_some t.end) ≡ b →
      left_to place address (past ++ t ∷ []) ≡ (if b then t.left else left_to place address past)
  chosen_by b is = left_one place address none_before past t ∙ ap (λ (x : Bool). if x then t.left else left_to place address past) is

  pub left_stay : t.end ≡ None → left_to place address (past ++ t ∷ []) ≡ left_to place address past
  left_stay none = chosen_by false (ap (λ (e : Option SessionEnd). is_client place address t.seat && is_some e) none ∙ never (is_client place address t.seat))

  pub left_other : is_client place address t.seat ≡ false → left_to place address (past ++ t ∷ []) ≡ left_to place address past
  left_other not = chosen_by false (ap (λ (b : Bool). b && is_some t.end) not)

  pub left_own : is_client place address t.seat ≡ true → (e : SessionEnd) → t.end ≡ Some e → left_to place address (past ++ t ∷ []) ≡ t.left
  left_own is e some = chosen_by true (ap (λ (b : Bool). b && is_some t.end) is ∙ ap (λ (o : Option SessionEnd). is_some o) some)

-- ---- what may be forgotten

module _ (site : SiteValue) (left : RateMoments) where
  pub forgotten_more : (ts us : List TurnOf) → IsForgotten site left ts → IsForgotten site left (ts ++ us)
  forgotten_more [] us h = absurd h
  forgotten_more (t ∷ ts) us (inl h) = inl h
  forgotten_more (t ∷ ts) us (inr h) = inr (forgotten_more ts us h)

  pub forgotten_last : (ts : List TurnOf) (t : TurnOf) → IsOverAt site left t.moment → IsForgotten site left (ts ++ t ∷ [])
  forgotten_last [] t h = inl h
  forgotten_last (u ∷ ts) t h = inr (forgotten_last ts t h)

  pub stored_more : (ts us : List TurnOf) (k : Option KeptRings) → Stored site ts left k → Stored site (ts ++ us) left k
  stored_more ts us None (inl h) = inl h
  stored_more ts us None (inr h) = inr (forgotten_more ts us h)
  stored_more ts us (Some (Has rings)) h = h
  stored_more ts us (Some (Lent session)) h = tt

-- of an asset without rates no rule is rated
rated_one : (o : Option Rate) (more : Bool) → (is_some o || more) ≡ false → (o ≡ None) × (more ≡ false)
rated_one None more h = (refl, h)
rated_one (Some r) more h = cc

no_rated : (number : ℕ) (rules : List Rule) → list_any (λ (r : Rule). is_some r.rate) rules ≡ false → rated_from number rules ≡ []
no_rated number [] not = refl
no_rated number (r ∷ rules) not =
    let x = rated_one r.rate (list_any (λ (q : Rule). is_some q.rate) rules) not in
    ap (λ (o : Option Rate). and_rated number o (rated_from (number + 1) rules)) x.0 ∙ no_rated (number + 1) rules x.1

abbrev no_rules : List (ℕ × Rate)
no_rules = []

none_there : (place number : ℕ) (rate : Rate) {A : Type 0} → slice_get no_rules place ≡ Some (number, rate) → A
none_there place number rate is = cc is

own_unrated : (asset : Asset) (used : OwnMoments) (moment : ℕ) → has_own_rates asset ≡ false → IsOwnOverAt asset used moment
own_unrated asset used moment not place number rate is =
    none_there place number rate (ap (λ (xs : List (ℕ × Rate)). slice_get xs place) (sym (no_rated 0 asset.rules not)) ∙ is)

pub over_unrated : (site : SiteValue) (used : RateMoments) (moment : ℕ) → has_rates site ≡ false → IsOverAt site used moment
over_unrated site used moment not k asset at = own_unrated asset (used k) moment (none_any has_own_rates (assets_of site) k asset not at)

-- ---- with what it begins

-- all that was left where rings stand for it, and else nothing
abbrev pub chosen : (rated : Bool) → Option KeptRings → (left : RateMoments) → RateMoments
chosen false k left = none_before
chosen true None left = none_before
chosen true (Some (Has rings)) left = left
chosen true (Some (Lent session)) left = none_before

pub chosen_left : (is_rated : Bool) (site : SiteValue) (past : List TurnOf) (left : RateMoments) (k : Option KeptRings) → (is_rated ≡ true → Stored site past left k) →
    IsLeft (if is_rated then rings_in k else None) (chosen is_rated k left)
chosen_left false site past left k stored = refl
chosen_left true site past left None stored = refl
chosen_left true site past left (Some (Has rings)) stored = stored refl
chosen_left true site past left (Some (Lent session)) stored = refl

begins_none : (site : SiteValue) (past : List TurnOf) (t : TurnOf) (left : RateMoments) → Stored site past left None → Begins site left (past ++ t ∷ []) none_before
begins_none site past t left (inl h) = inl (sym h)
begins_none site past t left (inr h) = inr (refl, forgotten_more site left past (t ∷ []) h)

-- a session may begin so, where what is kept of its client is free
pub chosen_begins : (is_rated : Bool) (site : SiteValue) (past : List TurnOf) (t : TurnOf) (left : RateMoments) (k : Option KeptRings) → has_rates site ≡ is_rated →
    (is_rated ≡ true → Stored site past left k) → (is_rated ≡ true → IsFree k) → Begins site left (past ++ t ∷ []) (chosen is_rated k left)
chosen_begins false site past t left k not stored free = inr (refl, forgotten_last site left past t (over_unrated site left t.moment not))
chosen_begins true site past t left None is stored free = begins_none site past t left (stored refl)
chosen_begins true site past t left (Some (Has rings)) is stored free = inl refl
chosen_begins true site past t left (Some (Lent session)) is stored free = absurd (free refl)

-- what a session began with up to a turn, and in it
module _ (bs : List RateMoments) (b : RateMoments) where
  abbrev pub now_of : (old new : Option LinkedValue) → List RateMoments
  now_of old new = bs ++ option_to_list (begun_by b old new)

  abbrev pub before_now : (old new : Option LinkedValue) → RateMoments
  before_now old new = before_of (now_of old new)

  module _ (site : SiteValue) (seat : Seat) (store : List KeptValue) (stays_on : Bool) where
    pub begun_as : (old new : Option LinkedValue) → BegunAs old bs → BeginsBy site seat store stays_on old new → BegunAs new (now_of old new)
    begun_as None None h by = append-nil bs ∙ h
    begun_as None (Some v) h by = (b, ap (λ (xs : List RateMoments). xs ++ b ∷ []) h)
    begun_as (Some u) None h by = absurd by
    begun_as (Some u) (Some v) h by = (h.0, append-nil bs ∙ h.1)

    -- a relay has begun with what is told as before
    pub begun_before : (old : Option LinkedValue) (v : LinkedValue) → BegunAs old bs → now_of old (Some v) ≡ before_now old (Some v) ∷ []
    begun_before None v h = ap (λ (xs : List RateMoments). xs ++ b ∷ []) h ∙ ap (λ (xs : List RateMoments). before_of (xs ++ b ∷ []) ∷ []) (sym h)
    begun_before (Some u) v h =
        let e : now_of (Some u) (Some v) ≡ h.0 ∷ [] = append-nil bs ∙ h.1 in
        e ∙ ap (λ (xs : List RateMoments). before_of xs ∷ []) (sym e)

  pub now_is : (old new : Option LinkedValue) → BegunAs old bs → bs ++ option_to_list (begun_by (before_now old new) old new) ≡ now_of old new
  now_is None None h = refl
  now_is None (Some v) h = ap (λ (xs : List RateMoments). bs ++ before_of (xs ++ b ∷ []) ∷ []) h
  now_is (Some u) new h = refl

  pub now_stands : (at : Listening) (most : ℕ) (es : List Entry) (own : List (List ℕ)) (old new : Option LinkedValue) → StandsAs at (before_of bs) most es own old →
      StandsAs at (before_now old new) most es own old
  now_stands at most es own None new h = h
  now_stands at most es own (Some u) new h = subst (λ (xs : List RateMoments). StandsAs at (before_of xs) most es own (Some u)) (sym (append-nil bs)) h

  pub now_begins : (left : Option (List (List RingValue))) (old new : Option LinkedValue) → BegunAs old bs → IsLeft left b → BeginsWith left (before_now old new) old new
  now_begins left None None h is = tt
  now_begins left None (Some v) h is = subst (λ (xs : List RateMoments). IsLeft left (before_of (xs ++ b ∷ []))) (sym h) is
  now_begins left (Some u) new h is = tt

  -- one that is not a relay behind the turn has not begun; and one that begins in it does so with that
  pub not_begun : (site : SiteValue) (seat : Seat) (store : List KeptValue) (stays_on : Bool) (old new : Option LinkedValue) → BegunAs old bs → BeginsBy site seat store stays_on old new → now_of old new ≡ [] → new ≡ None
  not_begun site seat store stays_on None None h by none = refl
  not_begun site seat store stays_on None (Some v) h by none = let e : b ∷ [] ≡ [] = sym (ap (λ (xs : List RateMoments). xs ++ b ∷ []) h) ∙ none in cc
  not_begun site seat store stays_on (Some u) None h by none = absurd by
  not_begun site seat store stays_on (Some u) (Some v) h by none = let e : h.0 ∷ [] ≡ [] = sym (append-nil bs ∙ h.1) ∙ none in cc

  -- one that begins in a turn
  pub begun_some : (old new : Option LinkedValue) → BegunAs old bs → (b' : RateMoments) → begun_by (before_now old new) old new ≡ Some b' → b' ≡ b
  begun_some None None h b' is = cc is
  begun_some None (Some v) h b' is = sym (same_Some _ _ is) ∙ ap (λ (xs : List RateMoments). before_of (xs ++ b ∷ [])) h
  begun_some (Some u) new h b' is = cc is

pub begun_free : (site : SiteValue) (seat : Seat) (store : List KeptValue) (stays_on : Bool) (before b : RateMoments) (old new : Option LinkedValue) → BeginsBy site seat store stays_on old new →
    begun_by before old new ≡ Some b → has_rates site ≡ true → IsFree (kept_at store seat.place seat.client.address)
begun_free site seat store stays_on before b None None by is = cc is
begun_free site seat store stays_on before b None (Some v) by is = by.1.1
begun_free site seat store stays_on before b (Some u) new by is = cc is

pub begun_first : (at : Listening) (now before b : RateMoments) (most : ℕ) (es : List Entry) (own : List (List ℕ)) (old new : Option LinkedValue) → StandsAs at before most es own old →
    begun_by now old new ≡ Some b → es ≡ []
begun_first at now before b most es own None new h is = h.0
begun_first at now before b most es own (Some u) new h is = cc is

-- of what is no relay behind a turn nothing was taken
pub nothing_taken : (at : Listening) (before : RateMoments) (most : ℕ) (client : Endpoint) (es : List Entry) (own : List (List ℕ)) (new : Option LinkedValue) (end : Option SessionEnd) →
    TurnLeaves at before most client es own new end → new ≡ None → history_of es ≡ []
nothing_taken at before most client es own None None h none = ap history_of h.0
nothing_taken at before most client es own None (Some e) h none = h.1
nothing_taken at before most client es own (Some v) end h none = cc none

pub leaves_as : (at : Listening) (before found : RateMoments) (es : List Entry) (new : Option LinkedValue) (left : RateMoments) (bs : List RateMoments) → LeavesOf at before found es new left →
    BegunAs new bs → ((v : LinkedValue) → new ≡ Some v → bs ≡ before ∷ []) → Leaves at.site found bs es left
leaves_as at before found es None left bs l h once = subst (λ (xs : List RateMoments). Leaves at.site found xs es left) (sym h) l
leaves_as at before found es (Some v) left bs (js, (items, (rules, is))) h once = subst (λ (xs : List RateMoments). Leaves at.site found xs es left) (sym (once v refl)) (js, (items, is))
