-- Rates over the sessions of a client: what its earlier sessions left, with which a later one begins. The main definitions are
-- `left_to`, `before_in` and `IsBegun`. This project's own.
--
-- A client is an address at a listening place. A session whose relay begins does so with the moments at which the client's earlier
-- sessions used the rules that have a rate, those that ended; as it ends it leaves them with its own. What counts no more may be
-- forgotten as a whole.
use Rattle.cf_lane.specs.Caller.{OwnMoments, RateMoments, none_before}
use Rattle.cf_lane.specs.Judged.{Judged}
use Rattle.cf_lane.specs.Over.{is_over}
use Rattle.cf_lane.specs.Rates.{rated}
use Rattle.cf_lane.specs.SiteRates.{used_at}
use Rattle.cf_outside.specs.Pair.{Entry}
use Rattle.cf_policy.specs.Site.{SiteValue, assets_of}
use Rattle.cf_policy.specs.declared.Asset.{Asset}
use Rattle.cf_policy.specs.declared.Rate.{Rate}
use Rattle.cf_relay.specs.Answers.{client_of, history_of}
use Rattle.cf_relay.specs.Turn.{AreItemsOf}
use Rattle.std.specs.Prelude.{List, Some, [], if◌then◌else◌, is_some, option_to_list, slice_get, true, ℕ, ◌&&◌, ◌++◌, ◌∷◌}
use Rattle.std.specs.Prelude.{◌≡◌, ◌⊎◌}
use Rattle.cf_serve.specs.Rounds.{TurnOf, answers_in, is_client, part}
use Rattle.cf_serve.specs.Session.{Listening}
use Rattle.cf_serve.specs.declared.end.SessionEnd.{SessionEnd}

-- what the sessions of a client left behind a turn: where one of them ended, what that one left
abbrev pub left_behind : (place address : ℕ) → RateMoments → TurnOf → RateMoments
left_behind place address left t = if is_client place address t.seat && is_some t.end then t.left else left

-- and behind turns
abbrev pub left_from : (place address : ℕ) → RateMoments → List TurnOf → RateMoments
left_from place address left [] = left
left_from place address left (t ∷ ts) = left_from place address (left_behind place address left t) ts

-- what the sessions of a client that ended used, all of them
abbrev pub left_to : (place address : ℕ) → List TurnOf → RateMoments
left_to place address past = left_from place address none_before past

-- what a session began with, which is nothing as long as it has not begun, and else once
abbrev pub begins_in : (session : ℕ) → List TurnOf → List RateMoments
begins_in session past = part (λ (t : TurnOf). option_to_list t.begun) session past

abbrev pub before_of : List RateMoments → RateMoments
before_of [] = none_before
before_of (b ∷ bs) = b

-- what the earlier sessions of its client had used as a session began
abbrev pub before_in : (session : ℕ) → List TurnOf → RateMoments
before_in session past = before_of (begins_in session past)

-- nothing of what was used of an asset's rules counts any more at a moment, by any that has a rate
abbrev pub IsOwnOverAt : Asset → (used : OwnMoments) → (moment : ℕ) → Type 0
IsOwnOverAt asset used moment =
    (place number : ℕ) (rate : Rate) → slice_get (rated asset.rules) place ≡ Some (number, rate) → is_over rate moment (used place) ≡ true

-- so it is of each asset of the site, each by what was used of its own rules
abbrev pub IsOverAt : SiteValue → (used : RateMoments) → (moment : ℕ) → Type 0
IsOverAt site used moment = (k : ℕ) (asset : Asset) → slice_get (assets_of site) k ≡ Some asset → IsOwnOverAt asset (used k) moment

-- it counted no more at the moment of one of these turns
abbrev pub IsForgotten : SiteValue → (used : RateMoments) → List TurnOf → Type 0
IsForgotten site used [] = ⊥
IsForgotten site used (t ∷ ts) = IsOverAt site used t.moment ⊎ IsForgotten site used ts

-- with what a session may begin, where so much was left: with all of it, or, once it counts no more, with nothing
abbrev pub Begins : SiteValue → (left : RateMoments) → List TurnOf → (before : RateMoments) → Type 0
Begins site left past before = (before ≡ left) ⊎ ((before ≡ none_before) × IsForgotten site left past)

-- what a session that ended leaves: what it began with and what it used itself; and what it found where it never began
abbrev pub Leaves : SiteValue → (found : RateMoments) → (begun : List RateMoments) → List Entry → (left : RateMoments) → Type 0
Leaves site found [] es left = left ≡ found
Leaves site found (b ∷ bs) es left = (js : List Judged) × (AreItemsOf site b es js × (left ≡ used_at site b js))

-- a turn behind others: with what a session begins, and what it leaves
pub record IsBegun (places : List Listening) (past : List TurnOf) (t : TurnOf) : Type 0 where
  pub begins : (b : RateMoments) → t.begun ≡ Some b → (at : Listening) → slice_get places t.seat.place ≡ Some at
      → Begins at.site (left_to t.seat.place t.seat.client.address past) (past ++ t ∷ []) b
  -- it begins with its first answers, by which the client that was met has the address that came
  pub first : (b : RateMoments) → t.begun ≡ Some b → answers_in t.seat.session past ≡ []
  pub met : (b : RateMoments) → t.begun ≡ Some b → (client_of t.answers).address ≡ t.seat.client.address
  -- nothing is taken of a session that has not begun
  pub takes : (at : Listening) → slice_get places t.seat.place ≡ Some at → begins_in t.seat.session (past ++ t ∷ []) ≡ []
      → history_of (answers_in t.seat.session (past ++ t ∷ [])) ≡ []
  pub leaves : (e : SessionEnd) → t.end ≡ Some e → (at : Listening) → slice_get places t.seat.place ≡ Some at
      → Leaves at.site (left_to t.seat.place t.seat.client.address past) (begins_in t.seat.session (past ++ t ∷ []))
      (answers_in t.seat.session (past ++ t ∷ [])) t.left

-- turns one after the other, behind others
abbrev pub AreBegun : List Listening → (past : List TurnOf) → List TurnOf → Type 0
AreBegun places past [] = Unit {0}
AreBegun places past (t ∷ ts) = IsBegun places past t × AreBegun places (past ++ t ∷ []) ts
