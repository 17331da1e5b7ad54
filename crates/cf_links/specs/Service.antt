-- Steps of the proof: what links tell of sessions that come and go: `Opens`, `Wakes`, `Arrives`, `TellsReady` and `Leaves`, one for
-- each call, and `FaultsPlace` and `ChangesPlace`.
use Rattle.std.specs.Prelude.{◌≡◌, ◌≤◌, ◌==◌, ℕ, Bool, true, false, List, [], ◌∷◌, ◌++◌, Option, option_map}
use Rattle.cf_outside.specs.Pair.{FaultsBy}
use Rattle.cf_outside.specs.declared.pair.MomentAnswer.{MomentAnswer}
use Rattle.cf_outside.specs.declared.pair.MomentAnswer.TheVariants as moment
use Rattle.cf_links.specs.Links.{Came, Left, LinksEntry, LinksPlace, Opened, Ready, Woke}
use Rattle.cf_links.specs.declared.service.ArriveAnswer.{ArriveAnswer}
use Rattle.cf_links.specs.declared.service.ArriveAnswer.TheVariants as arrive

-- the list with one entry more, where it is told
abbrev pub with_more : Option (List LinksEntry) → LinksEntry → Option (List LinksEntry)
with_more told entry = option_map (λ es. es ++ entry ∷ []) told

-- a place at which this machine listens
abbrev pub Opens : (place : ℕ) → Option (List LinksEntry) → Option (List LinksEntry) → MomentAnswer → Type 0
Opens place old new (moment.Told now) = new ≡ with_more old (Opened place now)
Opens place old new moment.Failed = new ≡ old

-- a round begins
abbrev pub Wakes : Option (List LinksEntry) → Option (List LinksEntry) → MomentAnswer → Type 0
Wakes old new (moment.Told now) = new ≡ with_more old (Woke now)
Wakes old new moment.Failed = new ≡ old

-- a client came to a place, and has this number
abbrev pub Arrives : (session place : ℕ) → Option (List LinksEntry) → Option (List LinksEntry) → ArriveAnswer → Type 0
Arrives session place old new (arrive.Came client) = new ≡ with_more old (Came session place client)
Arrives session place old new arrive.Nobody = new ≡ old

-- a session is ready for a turn
abbrev pub TellsReady : (session : ℕ) → Option (List LinksEntry) → Option (List LinksEntry) → Bool → Type 0
TellsReady session old new true = new ≡ with_more old (Ready session)
TellsReady session old new false = new ≡ old

-- a session that the object has, with this number or a later one
abbrev pub IsServedFrom : (from : ℕ) → LinksPlace → (session : ℕ) → Type 0
IsServedFrom from place session = (from ≤ session) × (place.serves session ≡ true)

-- a session was left
abbrev pub Leaves : (session : ℕ) → Option (List LinksEntry) → Option (List LinksEntry) → Type 0
Leaves session old new = new ≡ with_more old (Left session)

-- the sessions stay, and the lender; the count of failures of calls that are of no session rises where this one failed, and there
-- alone
pub record FaultsPlace (old new : LinksPlace) (failed : Type 0) : Type 0 where
  pub serves : new.serves ≡ old.serves
  pub lender : new.lender ≡ old.lender
  pub round : FaultsBy old.round_faults new.round_faults failed

-- the object has the session besides; every other one that it had it has still
pub record GetsSession (session : ℕ) (old new : LinksPlace) : Type 0 where
  pub served : new.serves session ≡ true
  pub others : (other : ℕ) → (session == other) ≡ false → new.serves other ≡ old.serves other
  pub lender : new.lender ≡ old.lender
  pub round : new.round_faults ≡ old.round_faults

-- the object does not have the session any more; every other one that it had it has still
pub record LosesSession (session : ℕ) (old new : LinksPlace) : Type 0 where
  pub gone : new.serves session ≡ false
  pub others : (other : ℕ) → (session == other) ≡ false → new.serves other ≡ old.serves other
  pub lender : new.lender ≡ old.lender
  pub round : new.round_faults ≡ old.round_faults

-- a session was added where a client came
abbrev pub ChangesPlace : (session : ℕ) → LinksPlace → LinksPlace → ArriveAnswer → Type 0
ChangesPlace session old new (arrive.Came client) = GetsSession session old new
ChangesPlace session old new arrive.Nobody = new ≡ old
