-- `MakesFirstOf`: any beginning of the stream to a controller decodes to the first of what was let through to it, in order. Read this
-- file first.
--
-- What goes to the controller is a list, in the order of the judged items (`passed`): the commands that are admitted, what is
-- carried beside them, and the S frames that refused commands leave, of all assets of the site. An ADU of Modbus and an APDU of
-- IEC 60870-5-104 are one unit each, an APDU with the numbers of its place; a fragment of DNP3 is cut anew into data frames of its
-- asset. The stream is the spellings of all these units, one after the other (`StreamIsSpelled`).
--
-- A controller may have got any number of octets from the front of the stream. They are units in one way: the first of those that
-- went, in order, and then a proper prefix of the next one, or nothing where none follows (`StreamDecodes`). Once it has put
-- together the fragments of DNP3, those between each two addresses for themselves, it has the first of the list, in order, and then a
-- proper prefix of the next (`FragmentsDecode`). What the units with the station of one asset make is in `Stations`.
--
-- Exactly those commands are admitted that the policy allows (`AdmitsWhatIsAllowed`, in `Commands`).
use Rattle.cf_lane.specs.Caller.{Caller}
use Rattle.cf_decode.specs.Passed.{passed}
use Rattle.cf_decode.specs.Received.{received, segments_in}
use Rattle.cf_decode.specs.Units.{Addresses, Fragment, Passed, Whole, units_from, units_of}
use Rattle.cf_dnptrans.specs.Transport.{unfinished}
use Rattle.cf_lane.specs.Follows.{AreJudged}
use Rattle.cf_lane.specs.History.{Element}
use Rattle.cf_lane.specs.Judged.{Judged}
use Rattle.cf_lane.specs.Output.{outputs}
use Rattle.cf_lane.specs.Unit.{SpellsUnit, UnitValue, unit_spelling}
use Rattle.cf_policy.specs.Site.{SiteValue}
use Rattle.cf_policy.specs.declared.Protocol.{Protocol}
use Rattle.cf_view.specs.Units.{IsUnitsThenRest}
use Rattle.std.specs.List.{flat_map}
use Rattle.std.specs.Prelude.{List, None, Option, Some, [], length, reverse, ℕ, ◌++◌, ◌<◌, ◌∷◌, ◌≡◌}
use Rattle.cf_view.specs.declared.Side.TheVariants as side

-- the stream to the controller is the spellings of the units in which what goes there goes
abbrev pub StreamIsSpelled : Type 0
StreamIsSpelled =
    (site : SiteValue) (client : Caller) (h : List Element) (js : List Judged) → AreJudged site client h js →
    outputs site side.Controller [] js ≡ flat_map unit_spelling (units_from [] (passed site js))

-- octets are nothing, where nothing follows, and else a proper prefix of what follows next
abbrev pub IsOfNext : {X : Type 0} → (spell : X → List ℕ) → (following : List X) → List ℕ → Type 0
IsOfNext spell [] octets = octets ≡ []
IsOfNext spell (x ∷ later) octets = (more : List ℕ) × (0 < length more) × (spell x ≡ octets ++ more)

-- the bytes are units and a rest in one way; the units are the first of these, and the rest is of the next one
pub record DecodesTo (p : Protocol) (sent : List UnitValue) (bytes : List ℕ) : Type 0 where
  pub units : List UnitValue
  pub rest : List ℕ
  pub are_units : IsUnitsThenRest (SpellsUnit p) units bytes rest
  pub no_others :
      (others : List UnitValue) (left : List ℕ) → IsUnitsThenRest (SpellsUnit p) others bytes left → (others ≡ units) × (left ≡ rest)
  pub following : List UnitValue
  pub are_first : sent ≡ units ++ following
  pub of_next : IsOfNext unit_spelling following rest

-- any beginning of the stream to the controller has the first of the units that go there
abbrev pub StreamDecodes : Type 0
StreamDecodes =
    (site : SiteValue) (client : Caller) (h : List Element) (js : List Judged) (bytes more : List ℕ) → AreJudged site client h js →
    outputs site side.Controller [] js ≡ bytes ++ more → DecodesTo site.first.protocol (units_from [] (passed site js)) bytes

-- a fragment between two addresses that is begun and not whole is a proper prefix of the one that follows
abbrev pub IsBegun : Addresses → (following : List Passed) → Option (List ℕ) → Type 0
IsBegun to following None = Unit {0}
IsBegun to [] (Some part) = ⊥
IsBegun to (Whole u ∷ later) (Some part) = ⊥
IsBegun to (Fragment addresses octets ∷ later) (Some part) =
    (addresses ≡ to) × ((more : List ℕ) × (0 < length more) × (octets ≡ part ++ more))

-- What a receiver makes of the units of the bytes are the first of these. The bytes are the octets in which those went, and then a
-- proper prefix of the octets in which the next one goes.
pub record MakesFirstOf (site : SiteValue) (sent : List Passed) (bytes : List ℕ) : Type 0 where
  pub decoded : DecodesTo site.first.protocol (units_from [] sent) bytes
  pub whole : List Passed
  pub makes : received [] decoded.units ≡ whole
  pub following : List Passed
  pub are_first : sent ≡ whole ++ following
  pub part : List ℕ
  pub are : bytes ≡ flat_map unit_spelling (units_from [] whole) ++ part
  pub of_next : IsOfNext (λ i. flat_map unit_spelling (units_of whole i)) following part
  pub begun : (to : Addresses) → IsBegun to following (unfinished (segments_in to (reverse decoded.units)))

-- a receiver makes of any beginning of the stream to the controller the first of what went there
abbrev pub FragmentsDecode : Type 0
FragmentsDecode =
    (site : SiteValue) (client : Caller) (h : List Element) (js : List Judged) (bytes more : List ℕ) → AreJudged site client h js →
    outputs site side.Controller [] js ≡ bytes ++ more → MakesFirstOf site (passed site js) bytes
