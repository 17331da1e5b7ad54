-- Steps of the proof: what is kept of the clients of a service between their sessions, as rings, and how it is lent: `kept_at`, and
-- `IsStored`, which stands last.
use Rattle.cf_lane.specs.Caller.{RateMoments, none_before}
use Rattle.cf_lane.specs.Over.{are_over}
use Rattle.cf_lane.specs.Ring.{RingValue}
use Rattle.cf_lane.specs.Rings.{AreRingsOf, KnowRings}
use Rattle.cf_policy.specs.Site.{SiteValue}
use Rattle.std.specs.Prelude.{List, None, Option, Some, [], false, if◌then◌else◌, length, slice_get, true, ℕ, ◌&&◌, ◌<◌, ◌==◌, ◌∷◌, ◌≡◌, ◌⊎◌}
use Rattle.cf_serve.specs.Kept.{IsForgotten, left_to}
use Rattle.cf_serve.specs.Rounds.{TurnOf, has_rates}
use Rattle.cf_serve.specs.Session.{Listening}

-- the rings that the sessions of a client left, of each asset of their site; or a session has them, or had
pub data KeptRings : Type 0 where
  Has : (rings : List (List RingValue)) → KeptRings
  Lent : (session : ℕ) → KeptRings

-- what is kept of a client
pub record KeptValue : Type 0 where
  pub place : ℕ
  pub address : ℕ
  pub kept : KeptRings

-- what is kept of the client of this place and address, if there is something
abbrev pub kept_at : List KeptValue → (place address : ℕ) → Option KeptRings
kept_at [] place address = None
kept_at (k ∷ store) place address = if k.place == place && k.address == address then Some k.kept else kept_at store place address

-- the rings that are there
abbrev pub rings_in : Option KeptRings → Option (List (List RingValue))
rings_in None = None
rings_in (Some (Has rings)) = Some rings
rings_in (Some (Lent session)) = None

-- of how many clients something is kept at most. This project's own choice
abbrev pub most_kept : ℕ
most_kept = 1024

-- a session may have what is kept of its client: no other one has it, and where nothing is kept there is room
abbrev pub IsToLend : List KeptValue → Option KeptRings → Type 0
IsToLend store None = length store < most_kept
IsToLend store (Some (Has rings)) = Unit {0}
IsToLend store (Some (Lent session)) = ⊥

abbrev pub MayLend : (place address : ℕ) → List KeptValue → Type 0
MayLend place address store = IsToLend store (kept_at store place address)

-- of every other client the same is kept
abbrev pub KeepsOthers : (place address : ℕ) → (old new : List KeptValue) → Type 0
KeepsOthers place address old new =
    (p a : ℕ) → ((p == place) && (a == address)) ≡ false → kept_at new p a ≡ kept_at old p a

-- what is kept counts no more at a moment
abbrev pub IsDropped : (moment : ℕ) → Option KeptRings → Type 0
IsDropped moment None = ⊥
IsDropped moment (Some (Has rings)) = are_over moment rings ≡ true
IsDropped moment (Some (Lent session)) = ⊥

-- of each client the same is kept, or nothing where it counts no more
abbrev pub Drops : (moment : ℕ) → (old new : List KeptValue) → Type 0
Drops moment old new =
    (p a : ℕ) → (kept_at new p a ≡ kept_at old p a) ⊎ (IsDropped moment (kept_at old p a) × (kept_at new p a ≡ None))

-- no session has it
abbrev pub IsFree : Option KeptRings → Type 0
IsFree None = Unit {0}
IsFree (Some (Has rings)) = Unit {0}
IsFree (Some (Lent session)) = ⊥

-- what a turn of a session leaves: of each client the same, or nothing where it counts no more; or the session has it from now on
abbrev pub Lends : (session moment : ℕ) → (old new : List KeptValue) → Type 0
Lends session moment old new =
    (p a : ℕ) → (kept_at new p a ≡ kept_at old p a)
    ⊎ ((IsDropped moment (kept_at old p a) × (kept_at new p a ≡ None)) ⊎ (IsFree (kept_at old p a) × (kept_at new p a ≡ Some (Lent session))))

-- the rings are those of the site of their place
abbrev pub Fits : List Listening → List KeptValue → Type 0
Fits places store =
    (place address : ℕ) (rings : List (List RingValue)) → kept_at store place address ≡ Some (Has rings)
    → (at : Listening) → slice_get places place ≡ Some at → AreRingsOf at.site rings

-- what is kept stands for what was left
abbrev pub Stored : SiteValue → List TurnOf → (left : RateMoments) → Option KeptRings → Type 0
Stored site past left None = (left ≡ none_before) ⊎ IsForgotten site left past
Stored site past left (Some (Has rings)) = KnowRings rings left
Stored site past left (Some (Lent session)) = Unit {0}

-- of each client at a site with rates there is kept what its sessions left in these turns
abbrev pub IsStored : List Listening → List KeptValue → (past : List TurnOf) → Type 0
IsStored places store past =
    (place address : ℕ) (at : Listening) → slice_get places place ≡ Some at → has_rates at.site ≡ true
    → Stored at.site past (left_to place address past) (kept_at store place address)
