-- Who calls, `Caller`: a client, and what earlier sessions of it used. A client without earlier sessions is a `newcomer`.
use Rattle.std.specs.Prelude.{List, [], ℕ}

-- of one asset: for each of its rules with a rate, by its place among them, moments at which it was used
abbrev pub OwnMoments : Type 0
OwnMoments = (place : ℕ) → List ℕ

-- the same for each asset of a site, by its place in the site
abbrev pub RateMoments : Type 0
RateMoments = (asset : ℕ) → OwnMoments

-- no rule of any asset was used
abbrev pub none_before : RateMoments
none_before asset place = []

-- the address by which rules decide, and the moments at which earlier sessions from it used those that have a rate
pub record Caller : Type 0 where
  pub address : ℕ
  pub before : RateMoments

abbrev pub caller_at : (address : ℕ) → RateMoments → Caller
caller_at address before = record { address = address; before = before }

-- a client of which no session was before
abbrev pub newcomer : (address : ℕ) → Caller
newcomer address = caller_at address none_before

-- what the rules of one asset know of a client: its address, and what its earlier sessions used of them
pub record OwnCaller : Type 0 where
  pub address : ℕ
  pub before : OwnMoments

abbrev pub own_at : (address : ℕ) → OwnMoments → OwnCaller
own_at address before = record { address = address; before = before }

-- what those of the asset of a place know of it: no asset's rules are used by commands to another
abbrev pub own : (k : ℕ) → Caller → OwnCaller
own k client = own_at client.address (client.before k)
