-- The history of a stored stream, stored_history, and how far a history goes: GoesUpTo.
use Rattle.cf_lane.specs.Caller.{newcomer}
use Rattle.std.specs.Prelude.{◌≡◌, ℕ, zero, suc, List, [], ◌∷◌, ◌++◌, length, take, drop, Option, None}
use Rattle.std.specs.Option.{option_or}
use Rattle.cf_audit.specs.declared.line.CutReason.{CutReason}
use Rattle.cf_lane.specs.Follows.{AreJudged}
use Rattle.cf_lane.specs.History.{Element, bytes_at, end_at}
use Rattle.cf_lane.specs.Judged.{Judged, cut_of}
use Rattle.cf_lane.specs.Limit.{limit_cut}
use Rattle.cf_lane.specs.Output.{stream_to}
use Rattle.cf_lane.specs.declared.limit.TheConstants.{LETTER_LIMIT}
use Rattle.cf_policy.specs.Site.{SiteValue}
use Rattle.cf_view.specs.declared.Side.TheVariants as side

-- bytes in pieces of 4,096, the last one perhaps shorter, each an element of the client at moment 0: so many pieces at most
abbrev pub pieces_within : (most : ℕ) → List ℕ → List Element
pieces_within zero bytes = []
pieces_within (suc most) [] = []
pieces_within (suc most) (x ∷ xs) = bytes_at 0 side.Client (take 4096 (x ∷ xs)) ∷ pieces_within most (drop 4096 (x ∷ xs))

-- the history of a stored stream: its pieces, and then End alone
abbrev pub stored_history : List ℕ → List Element
stored_history bytes = pieces_within (length bytes) bytes ++ end_at 0 side.Client ∷ []

-- why a history is cut after its last element, if it is: by an item, or else by the length of a stream
abbrev pub cut_behind : SiteValue → List Element → List Judged → Option CutReason
cut_behind site history judged =
    option_or (cut_of judged) (limit_cut LETTER_LIMIT history (stream_to site side.Client judged) (stream_to site side.Controller judged))

-- no beginning of a history is cut, nor is the whole of it
abbrev pub IsUncut : SiteValue → (client : ℕ) → List Element → Type 0
IsUncut site client history =
    (front back : List Element) (judged : List Judged) → history ≡ front ++ back → AreJudged site (newcomer client) front judged →
    cut_behind site front judged ≡ None

-- a history goes up to these elements, which have these judged items: up to the first element after which it is cut, or to
-- its end where it is not
pub record GoesUpTo (site : SiteValue) (client : ℕ) (whole : List Element) (cut : Option CutReason) (history : List Element)
    (judged : List Judged) : Type 0 where
  pub later : List Element
  pub begins : whole ≡ history ++ later
  pub are_judged : AreJudged site (newcomer client) history judged
  pub is_cut : cut_behind site history judged ≡ cut
  pub first : (front : List Element) (last : Element) → history ≡ front ++ last ∷ [] → IsUncut site client front
  pub all : cut ≡ None → later ≡ []
