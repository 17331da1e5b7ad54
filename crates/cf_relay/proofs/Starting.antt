-- How a relay begins: its first lines and answers, what it keeps before its first turn, and how it ends there.
use Rattle.cf_lane.specs.Caller.{Caller, RateMoments, caller_at}
use Rattle.std.proofs.Common.{List, None, Option, ap, arith, inl, inr, length, refl, subst, sym, take, true, ℕ, ◌++◌, ◌<◌, ◌∙◌, ◌∷◌, ◌≡◌, []}
use Rattle.std.specs.List.{concat}
use Rattle.std.proofs.Math.Seq.{drop-append_seam, take-append_seam}
use Rattle.std.proofs.lemmas.List.{append-nil}
use Rattle.cf_audit.specs.Line.{Begun}
use Rattle.cf_driver.proofs.Limits.{limit_is}
use Rattle.cf_lane.specs.Follows.{AreJudged, Follows, no_rests}
use Rattle.cf_lane.specs.Handled.{IsLaneOf, LaneValue, MayHaveMore, debt, state}
use Rattle.cf_lane.specs.History.{ended_of, taken}
use Rattle.cf_lane.specs.Log.{line_about, with_lines}
use Rattle.cf_lane.specs.Output.{other, outputs}
use Rattle.cf_lane.specs.declared.limit.TheConstants.{LETTER_LIMIT}
use Rattle.cf_outq.specs.SendQueue.{IsQueueOf, Queue, empty}
use Rattle.cf_outside.specs.Pair.{Entry, Moment, met_at}
use Rattle.cf_policy.specs.Site.{SiteValue}
use Rattle.cf_stream.specs.Stream.{letter_count, no_letters}
use Rattle.cf_view.specs.declared.Endpoint.{Endpoint}
use Rattle.cf_view.specs.declared.Side.{Side}
use Rattle.cf_relay.proofs.Doing.{by_side}
use Rattle.cf_relay.proofs.Lined.{lines_both, lines_none}
use Rattle.cf_relay.proofs.Stages.{breaks_nothing, does_broken}
use Rattle.cf_relay.specs.Answers.{given, history_of, is_finished}
use Rattle.cf_relay.specs.Closing.{BeginsLines}
use Rattle.cf_relay.specs.Ends.{LogContents, IsLinkEnd, IsWriteEnd}
use Rattle.cf_relay.specs.Relaying.{IsSound, begun_value, is_closed, letters_from, queue_to}
use Rattle.cf_relay.specs.Stands.{GivenPrefixes, IsNewLane, StandsFor}
use Rattle.cf_relay.specs.Turn.{IsUnstopped, DoesStages, IsRelayed, Meeting, Telling, stages}
use Rattle.cf_relay.specs.declared.directions.Directions.{Directions}

-- ---- the lines of a log

-- a last line failed after lines that stand there
pub begins_last : (base log : Option (List (List ℕ))) (part : List ℕ) (xs : List (List ℕ)) (line : List ℕ) → MayHaveMore (line ∷ []) (with_lines base xs) log part → BeginsLines base log part (xs ++ line ∷ [])
begins_last base log part xs line (inl (same, (k, some))) =
    (length xs, k, same ∙ ap (with_lines base) (sym (take-append_seam xs (line ∷ []))), some ∙ ap (λ ls. take k (concat ls)) (sym (drop-append_seam xs (line ∷ []))))
begins_last base log part xs line (inr (added, none)) =
    (length (xs ++ line ∷ []), 0, added ∙ lines_both base xs (line ∷ []) ∙ ap (with_lines base) (sym (take-append_seam (xs ++ line ∷ []) []) ∙ ap (take (length (xs ++ line ∷ []))) (append-nil (xs ++ line ∷ []))), none)

pub some_idle : (idle most : ℕ) → idle < most → 0 < most
some_idle idle most h = omega (arith, h)

-- ---- the beginning

pub empty_judged : (site : SiteValue) (client : Caller) → AreJudged site client [] []
empty_judged site client = record { items = []; are_items = refl; dropped = []; are_first = refl; goes_on = refl; fates = tt }

module _ (site : SiteValue) (past : RateMoments) (listen most : ℕ) (few : 0 < most) where
  pub goes_first : IsUnstopped site past most []
  goes_first = record { judged = []; are_items = empty_judged site (caller_at 0 past); uncut = refl; idle = few }

  pub goes_met : (client : Endpoint) → IsUnstopped site past most (met_at listen site.first.endpoint client ∷ [])
  goes_met client = record { judged = []; are_items = empty_judged site (caller_at client.address past); uncut = refl; idle = few }

  pub start_does : (client : Endpoint) (m : ℕ) → DoesStages site past most (Meeting listen ∷ Telling ∷ []) [] (met_at listen site.first.endpoint client ∷ Moment m ∷ [])
  start_does client m = (met_at listen site.first.endpoint client ∷ [], Moment m ∷ [], refl, (goes_first, (client, refl)), (Moment m ∷ [], [], refl, (goes_met client, (refl, (m, refl))), refl))

  pub relayed_none : (dirs : Directions) → IsRelayed dirs site past listen most []
  relayed_none dirs = (0, breaks_nothing site past most (stages dirs listen 0) [])

  pub relayed_met : (dirs : Directions) (client : Endpoint) → IsRelayed dirs site past listen most (met_at listen site.first.endpoint client ∷ [])
  relayed_met dirs client = (0, inr (met_at listen site.first.endpoint client ∷ [], [], refl, (goes_first, (client, refl)), breaks_nothing site past most (Telling ∷ []) (met_at listen site.first.endpoint client ∷ [])))

  pub relayed_told : (dirs : Directions) (client : Endpoint) (m : ℕ) → IsRelayed dirs site past listen most (met_at listen site.first.endpoint client ∷ Moment m ∷ [])
  relayed_told dirs client m = (0, does_broken site past most (Meeting listen ∷ Telling ∷ []) [] [] (met_at listen site.first.endpoint client ∷ Moment m ∷ []) [] (start_does client m) refl)

-- ---- the ends before the first turn

no_prefixes : (site : SiteValue) (es : List Entry) → ((s : Side) → given s es ≡ []) → GivenPrefixes site es []
no_prefixes site es none s = ([], sym (append-nil (given s es) ∙ none s))

module _ (dirs : Directions) (site : SiteValue) (past : RateMoments) (listen most : ℕ) (few : 0 < most) (log : LogContents) where
  -- no client was met
  pub link_first : log.Holds [] → IsLinkEnd dirs site past listen most log []
  unfolding goes_first
  link_first none = record {
    relayed = relayed_none site past listen most few dirs;
    goes = goes_first site past listen most few;
    prefixes = no_prefixes site [] (λ s. refl);
    holds_log = none;
  }

  -- no moment was told
  pub link_met : (client : Endpoint) → log.Holds [] → IsLinkEnd dirs site past listen most log (met_at listen site.first.endpoint client ∷ [])
  unfolding goes_met
  link_met client none = record {
    relayed = relayed_met site past listen most few dirs client;
    goes = goes_met site past listen most few client;
    prefixes = no_prefixes site (met_at listen site.first.endpoint client ∷ []) (λ s. refl);
    holds_log = none;
  }

  -- the line of the beginning failed
  pub write_told : (client : Endpoint) (m : ℕ) (base all : Option (List (List ℕ))) (part : List ℕ) → MayHaveMore (line_about site.first client m Begun ∷ []) base all part →
      ((ls : List (List ℕ)) → BeginsLines base all part ls → log.Begins ls) → IsWriteEnd dirs site past listen most log (met_at listen site.first.endpoint client ∷ Moment m ∷ [])
  write_told client m base all part may begins = record {
    relayed = relayed_told site past listen most few dirs client m;
    history = [];
    is_short = inl refl;
    judged = [];
    are_judged = empty_judged site (caller_at client.address past);
    prefixes = no_prefixes site (met_at listen site.first.endpoint client ∷ Moment m ∷ []) (λ s. refl);
    last = [];
    is_last = inl refl;
    begins = begins _ (begins_last base all part [] (line_about site.first client m Begun) (subst (λ x. MayHaveMore (line_about site.first client m Begun ∷ []) x all part) (lines_none base) may));
  }

-- ---- the beginning of the turns

empty_stands : IsQueueOf empty no_letters
empty_stands = record { ended = refl; pushed = refl; kept = refl; acked = omega arith; sent = omega arith; shown = omega arith }

first_by : (site : SiteValue) (past : RateMoments) (listen : ℕ) (client : Endpoint) (m : ℕ) (first : Option (List (List ℕ))) (lane : LaneValue) → lane.client ≡ client → Follows site past [] no_rests None first (state lane empty empty first) →
    StandsFor site past first (met_at listen site.first.endpoint client ∷ Moment m ∷ []) (begun_value lane m) first
first_by site past listen client m first lane is f = record {
  follows = f;
  uncut = sym (limit_is LETTER_LIMIT site [] f.judged 0 0 empty empty refl refl f.client_stream f.controller_stream);
  client = is;
  acked = by_side (λ s. (queue_to s (begun_value lane m)).acked ≡ length (given s (met_at listen site.first.endpoint client ∷ Moment m ∷ []))) refl refl;
  front = by_side (λ s. outputs site s [] f.judged ≡ given s (met_at listen site.first.endpoint client ∷ Moment m ∷ []) ++ (queue_to s (begun_value lane m)).kept) (sym f.client_stream.kept) (sym f.controller_stream.kept);
  ended = by_side (λ s. (queue_to s (begun_value lane m)).ended ≡ ended_of (other s) (history_of (met_at listen site.first.endpoint client ∷ Moment m ∷ []))) refl refl;
  letters = by_side (λ s. letters_from s (begun_value lane m) ≡ letter_count (taken s (history_of (met_at listen site.first.endpoint client ∷ Moment m ∷ [])))) refl refl;
  closed = by_side (λ s. is_closed s (begun_value lane m) ≡ is_finished s (met_at listen site.first.endpoint client ∷ Moment m ∷ [])) refl refl;
  done = by_side (λ s. is_closed s (begun_value lane m) ≡ true → ((queue_to s (begun_value lane m)).kept ≡ []) × ((queue_to s (begun_value lane m)).ended ≡ true)) (λ e. cc) (λ e. cc);
  moment = omega arith;
  idle = refl;
}

pub first_stands : (site : SiteValue) (past : RateMoments) (listen : ℕ) (client : Endpoint) (m : ℕ) (first : Option (List (List ℕ))) (lane : LaneValue) → IsNewLane site past client lane →
    StandsFor site past first (met_at listen site.first.endpoint client ∷ Moment m ∷ []) (begun_value lane m) first
first_stands site past listen client m first lane new = first_by site past listen client m first lane new.of_client (new.follows empty empty first empty_stands empty_stands)

pub first_sound : (site : SiteValue) (past : RateMoments) (client : Endpoint) (most m : ℕ) (lane : LaneValue) → 0 < most → IsNewLane site past client lane → IsSound site most (begun_value lane m)
first_sound site past client most m lane few new = record {
  of_site = new.of_site;
  debt = omega (arith, new.counts.2);
  short = record { client = omega arith; controller = omega arith; to_client = omega arith; to_controller = omega arith };
  to_client = omega arith;
  to_controller = omega arith;
  client_rest = omega arith;
  controller_rest = omega arith;
  counts = omega (arith, new.counts.0, new.counts.1);
  few = few;
}

-- a lane that was just made
pub new_lane : (site : SiteValue) (past : RateMoments) (client : Endpoint) (lane : LaneValue) → IsLaneOf site lane → lane.client ≡ client → (lane.admitted ≡ 0) × (lane.refused ≡ 0) × (debt lane ≡ 0) →
    ((c k : Queue) (x : Option (List (List ℕ))) → IsQueueOf c no_letters → IsQueueOf k no_letters → Follows site past [] no_rests None x (state lane c k x)) → IsNewLane site past client lane
new_lane site past client lane of_site is counts follows = record { of_site = of_site; of_client = is; counts = counts; follows = follows }

-- a relay of a lane, of two empty queues, and of two sides of which nothing was heard
pub begun_is : (lane : LaneValue) (c k : Queue) (rest : List ℕ) (letters : ℕ) (rest' : List ℕ) (letters' moment : ℕ) → c ≡ empty → k ≡ empty → rest ≡ [] → letters ≡ 0 → rest' ≡ [] → letters' ≡ 0 →
    record (begun_value lane moment) {
      to_client = c;
      to_controller = k;
      client_rest = rest;
      client_letters = letters;
      controller_rest = rest';
      controller_letters = letters';
    } ≡ begun_value lane moment
begun_is lane c k rest letters rest' letters' moment p q r s r' s' = rw (p, q, r, s, r', s') refl
