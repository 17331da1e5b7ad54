-- Steps of the proof: what holds of every history: `HasOneJudgement`, `LanePassesAllowed` and `RatesHold`, and how a history goes on.
use Rattle.cf_audit.specs.declared.line.CutReason.{CutReason}
use Rattle.cf_lane.specs.Caller.{Caller, RateMoments, caller_at, none_before}
use Rattle.cf_lane.specs.Follows.{AreJudged, Follows, Rests}
use Rattle.cf_lane.specs.Handled.{State, debt_limit}
use Rattle.cf_lane.specs.History.{Element, bytes_at, bytes_of, end_at, letters_at}
use Rattle.cf_lane.specs.Item.{AreItems, Placed}
use Rattle.cf_lane.specs.Judged.{Judged, has_ended}
use Rattle.cf_lane.specs.Log.{lines}
use Rattle.cf_lane.specs.Passes.{Passes}
use Rattle.cf_lane.specs.SiteRates.{KeepsRates, used_at}
use Rattle.cf_lane.specs.Output.{other, outputs}
use Rattle.cf_lane.specs.Unit.{SpellsUnit}
use Rattle.cf_policy.specs.Site.{SiteValue}
use Rattle.cf_policy.specs.declared.Protocol.{Protocol}
use Rattle.cf_view.specs.Framing.{IsPrefixFree}
use Rattle.cf_view.specs.Octets.{IsOctets}
use Rattle.cf_view.specs.declared.Endpoint.{Endpoint}
use Rattle.cf_view.specs.declared.Side.{Side}
use Rattle.std.specs.List.{flat_map}
use Rattle.std.specs.Prelude.{Bool, List, Option, [], length, true, ℕ, ◌*◌, ◌++◌, ◌+◌, ◌∷◌, ◌≡◌, ◌≤◌}
use Rattle.cf_view.specs.declared.Side.TheVariants as side

-- a history has one list of judged items
abbrev pub HasOneJudgement : Type 0
HasOneJudgement =
    (site : SiteValue) (client : Caller) (h : List Element) (js ks : List Judged) →
    AreJudged site client h js → AreJudged site client h ks → js ≡ ks

-- histories with judged items have some with any octets of a side after them, and with an End after them. So each
-- history of octets has judged items
abbrev pub JudgementsGoOn : Type 0
JudgementsGoOn =
    (site : SiteValue) (client : Caller) (h : List Element) (e : Element) (js : List Judged) →
    AreJudged site client h js → IsOctets e.letters.bytes → (ks : List Judged) × AreJudged site client (h ++ e ∷ []) ks

-- an element that is cut in two has the items that it has as a whole, broken or not
abbrev pub PiecesJoin : Type 0
PiecesJoin =
    (p : Protocol) (earlier later : List Element) (moment : ℕ) (s : Side) (xs ys : List ℕ) (ended : Bool) (items : List Placed) →
    AreItems p earlier (bytes_at moment s xs ∷ letters_at moment s ys ended ∷ later) items →
    AreItems p earlier (letters_at moment s (xs ++ ys) ended ∷ later) items

-- a history in which an element is cut in two has the judged items that it has with it whole
abbrev pub JudgedJoin : Type 0
JudgedJoin =
    (site : SiteValue) (client : Caller) (earlier later : List Element) (moment : ℕ) (s : Side) (xs ys : List ℕ) (ended : Bool)
    (js : List Judged) →
    AreJudged site client (earlier ++ bytes_at moment s xs ∷ letters_at moment s ys ended ∷ later) js →
    AreJudged site client (earlier ++ letters_at moment s (xs ++ ys) ended ∷ later) js

-- an element without letters is as none
abbrev pub NothingTaken : Type 0
NothingTaken =
    (site : SiteValue) (client : Caller) (earlier later : List Element) (moment : ℕ) (s : Side) (js : List Judged) →
    AreJudged site client (earlier ++ bytes_at moment s [] ∷ later) js → AreJudged site client (earlier ++ later) js

-- bytes and then the End of their side at one moment are one element
abbrev pub EndJoins : Type 0
EndJoins =
    (site : SiteValue) (before : RateMoments) (h : List Element) (rests : Rests) (cut : Option CutReason) (first : Option (List (List ℕ)))
    (now : State) (moment : ℕ) (s : Side) (piece : List ℕ) →
    Follows site before ((h ++ bytes_at moment s piece ∷ []) ++ end_at moment s ∷ []) rests cut first now →
    Follows site before (h ++ letters_at moment s piece true ∷ []) rests cut first now

-- no unit of a protocol begins another
abbrev pub UnitsArePrefixFree : Type 0
UnitsArePrefixFree = (p : Protocol) → IsPrefixFree (SpellsUnit p)

-- the number of bytes of elements
abbrev pub letters_of : List Element → ℕ
letters_of [] = 0
letters_of (e ∷ es) = length e.letters.bytes + letters_of es

-- between two places of a history each stream grows by at most twice the letters taken in between, 2,892 for what was left of both sides,
-- and what unfinished fragments may put out: with one asset of DNP3 8,192
abbrev pub GrowsLittle : Type 0
GrowsLittle =
    (site : SiteValue) (client : Caller) (h more : List Element) (js ks : List Judged) (to : Side) →
    AreJudged site client h js → AreJudged site client (h ++ more) ks →
    length (outputs site to [] ks) ≤ length (outputs site to [] js) + (2 * letters_of more + (2892 + debt_limit site))

-- streams and lines that go on where a history goes on
pub record GoOn (site : SiteValue) (client : Endpoint) (js ks : List Judged) : Type 0 where
  pub ms : List Judged
  pub all : ks ≡ js ++ ms
  pub to_client : outputs site side.Client [] ks ≡ outputs site side.Client [] js ++ outputs site side.Client js ms
  pub to_controller : outputs site side.Controller [] ks ≡ outputs site side.Controller [] js ++ outputs site side.Controller js ms
  pub in_log : lines site client [] ks ≡ lines site client [] js ++ lines site client js ms

abbrev pub StreamsGoOn : Type 0
StreamsGoOn =
    (site : SiteValue) (before : RateMoments) (client : Endpoint) (h more : List Element) (js ks : List Judged) →
    AreJudged site (caller_at client.address before) h js → AreJudged site (caller_at client.address before) (h ++ more) ks →
    GoOn site client js ks

-- nothing comes into the stream to the other side after the End of a side that has no more bytes
abbrev pub QuietBehindEnd : Type 0
QuietBehindEnd =
    (site : SiteValue) (client : Caller) (h more : List Element) (js ms : List Judged) (to : Side) →
    AreJudged site client h js → AreJudged site client (h ++ more) (js ++ ms) → has_ended (other to) js ≡ true
    → bytes_of (other to) more ≡ [] →
    outputs site to js ms ≡ []

-- the commands of a history that go to the controller: exactly those that are allowed by the rules of the asset that they are for, in
-- their spelling and at their place
abbrev pub LanePassesAllowed : Type 0
LanePassesAllowed =
    (site : SiteValue) (client : Caller) (h : List Element) (js : List Judged) → AreJudged site client h js
    → Passes site client [] js (outputs site side.Controller [] js)

-- whatever a history's commands are, no rule of an asset lets more of them through than its rate, with what earlier sessions used of it:
-- no rate is shared by two assets
abbrev pub RatesHold : Type 0
RatesHold = (site : SiteValue) (client : Caller) (h : List Element) (js : List Judged) → AreJudged site client h js
    → KeepsRates site client.before js

-- the items of sessions of a client, one session after the other: each was judged after what those before it used
abbrev pub AreInTurn : SiteValue → (address : ℕ) → (before : RateMoments) → (sessions : List (List Judged)) → Type 0
AreInTurn site address before [] = Unit {0}
AreInTurn site address before (js ∷ later) =
    ((h : List Element) × AreJudged site (caller_at address before) h js) × AreInTurn site address (used_at site before js) later

-- over all sessions of a client, one after the other, no rule lets more through than its rate
abbrev pub RatesLast : Type 0
RatesLast =
    (site : SiteValue) (address : ℕ) (sessions : List (List Judged)) → AreInTurn site address none_before sessions
    → KeepsRates site none_before (flat_map (λ js. js) sessions)
