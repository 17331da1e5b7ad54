-- Steps of the proof: how flows in memory stand for those that were watched: `IsWatchOf`.
use Rattle.std.specs.Prelude.{◌≡◌, ◌≢◌, ◌*◌, ◌+◌, ◌≤◌, ◌^◌, ◌⊎◌, ◌++◌, ◌∷◌, [], ℕ, zero, suc, List, drop, length, map, set, slice_get, Option, Some, None, false}
use Rattle.std.specs.BTreeMap.{BTreeMap, get}
use Rattle.std.specs.Ordering.{nat_cmp, ordering_then}
use Rattle.std.specs.declared.cmp.Ordering.{Ordering}
use Rattle.cf_view.specs.declared.Endpoint.{Endpoint}
use Rattle.cf_watch.specs.Carried.{copy_of, top_of}
use Rattle.cf_watch.specs.FlowValue.{FlowValue, flow_value}
use Rattle.cf_watch.specs.Flow.{IsFlowOf}
use Rattle.cf_watch.specs.Kept.{Grows, kept, known, with_gone}
use Rattle.cf_watch.specs.Stretches.{first_letter, is_own}
use Rattle.cf_watch.specs.Watched.{Watched, last_place}
use Rattle.cf_watch.specs.declared.flow.Conflict.{Conflict}
use Rattle.cf_watch.specs.declared.flow.Flow.{Flow}
use Rattle.cf_watch.specs.declared.watching.FlowKey.{FlowKey}
use Rattle.cf_watch.specs.declared.watching.Trail.{Trail}
use Rattle.cf_watch.specs.declared.watching.Watch.{Watch}
use Rattle.cf_watch.specs.declared.scope.Scope.{Scope}
use Rattle.cf_watch.specs.declared.scope.Scope.TheVariants as scope

-- a flow that was heard, with all of its bytes, and how many of these are kept no more
pub record Heard : Type 0 where
  pub value : FlowValue
  pub base : ℕ

-- of a recording bytes that stand more than 1 MiB below the newest position may be kept no more
abbrev pub MayBeGone : Scope → (base top : ℕ) → Type 0
MayBeGone by base top = (base ≡ 0) ⊎ ((by ≡ scope.Recording) × (base + 2 ^ 20 ≤ top))

-- a flow, with what is kept of it besides, is that which was watched
pub record IsHeard (by : Scope) (f : Flow) (t : Trail) (w : Watched) (h : Heard) : Type 0 where
  pub gone : List ℕ
  pub gone_born : List ℕ
  pub gone_count : length gone ≡ h.base
  pub born_count : length gone_born ≡ h.base
  pub value : h.value ≡ with_gone gone gone_born f
  pub base : t.base ≡ h.base
  pub may_be_gone : MayBeGone by t.base t.top
  pub flow : IsFlowOf w h.value
  pub origin : t.origin ≡ w.origin
  pub answered : t.answered ≡ w.answered
  pub top : t.top ≡ top_of w.carried
  pub knows : (p : ℕ) → known h.value.bytes t.ahead p ≡ copy_of w.carried p
  pub holds : (q : ℕ) → is_own (length h.value.bytes) q ≡ false → kept t.ahead q ≡ first_letter w.carried q

-- the conflict of a flow is as it was, or it has one with this record
abbrev pub IsConflictNow : (number : ℕ) → (was now : Option Conflict) → Type 0
IsConflictNow number was now = (now ≡ was) ⊎ ((c : Conflict) × (now ≡ Some c) × (c.at_record ≡ number))

-- a flow that was heard has gone on
pub record GoesOn (number : ℕ) (old new : Heard) : Type 0 where
  pub grows : Grows number old.value new.value
  pub conflict : IsConflictNow number old.value.conflict new.value.conflict
  pub base : new.base ≡ old.base

-- a flow of which nothing was heard, and which begins with a SYN or, amid its stream, with this record
pub record IsNew (number : ℕ) (h : Heard) : Type 0 where
  pub bytes : h.value.bytes ≡ []
  pub born : h.value.born ≡ []
  pub conflict : h.value.conflict ≡ None
  pub midstream : (h.value.midstream ≡ None) ⊎ (h.value.midstream ≡ Some number)
  pub base : h.base ≡ 0

-- so a flow is heard after a record of its own
pub record HearsOn (by : Scope) (number : ℕ) (f : Flow) (t : Trail) (w : Watched) (old : Heard) : Type 0 where
  pub now : Heard
  pub is : IsHeard by f t w now
  pub goes_on : GoesOn number old now

-- the order of flows: by client address, then port, then asset
abbrev pub key_cmp : FlowKey → FlowKey → Ordering
key_cmp a b = ordering_then (nat_cmp a.address b.address) (ordering_then (nat_cmp a.port b.port) (nat_cmp a.asset b.asset))

abbrev pub key_of : Endpoint → ℕ → FlowKey
key_of client asset = record { address = client.address; port = client.port; asset = asset }

-- flow by flow; and the last flow of each client and asset is found
pub record AreHeard (by : Scope) (records : ℕ) (flows : List Flow) (trails : List Trail) (last : BTreeMap FlowKey ℕ) (ws : List Watched) (hs : List Heard) :
    Type 0 where
  pub flow_count : length flows ≡ length ws
  pub trail_count : length trails ≡ length ws
  pub heard_count : length hs ≡ length ws
  pub each : (i : ℕ) (f : Flow) (t : Trail) (w : Watched) (h : Heard) → slice_get flows i ≡ Some f → slice_get trails i ≡ Some t
      → slice_get ws i ≡ Some w → slice_get hs i ≡ Some h → IsHeard by f t w h
  pub low : (i : ℕ) (t : Trail) → slice_get trails i ≡ Some t → t.top ≤ records * 2 ^ 32
  pub found : (client : Endpoint) (asset : ℕ) → get key_cmp last (key_of client asset) ≡ last_place client asset ws

abbrev pub IsWatchOf : Scope → (records : ℕ) → Watch → List Watched → List Heard → Type 0
IsWatchOf by records watch ws hs = AreHeard by records watch.flows.items watch.trails.items watch.last ws hs

-- a watch that has heard some flows
abbrev pub HasHeard : Scope → (records : ℕ) → Watch → Type 0
HasHeard by records watch = (ws : List Watched) × (hs : List Heard) × IsWatchOf by records watch ws hs

-- the flow at a place has gone on, or begins there, and the others are the same
abbrev pub Moves : (number : ℕ) → (place : Option ℕ) → (old new : List Heard) → Type 0
Moves number None old new = new ≡ old
Moves number (Some place) old new =
    ((was now : Heard) × (slice_get old place ≡ Some was) × GoesOn number was now × (new ≡ set old place now))
    ⊎ ((was now : Heard) × IsNew number was × GoesOn number was now × (place ≡ length old) × (new ≡ old ++ now ∷ []))

-- so a watch stands after a record, which was of a flow at this place, if of any: of the other flows nothing more was watched
pub record TakesRecord (by : Scope) (number : ℕ) (place : Option ℕ) (new : Watch) (old ws : List Watched) (hs : List Heard) : Type 0 where
  pub now : List Heard
  pub heard : IsWatchOf by number new ws now
  pub moves : Moves number place hs now
  pub others : (i : ℕ) → place ≢ Some i → slice_get ws i ≡ slice_get old i

-- all bytes of each flow are kept
abbrev pub KeepsAll : Watch → Type 0
KeepsAll watch = (i : ℕ) (t : Trail) → slice_get watch.trails.items i ≡ Some t → t.base ≡ 0

-- flows that are heard as they stand in memory, with all of their bytes
abbrev pub all_kept : List Flow → List Heard
all_kept flows = map (λ f. record { value = flow_value f; base = 0 }) flows

-- so many bytes more of the flow at a place are kept no more
abbrev pub forgets : (place count : ℕ) → List Heard → List Heard
forgets place count [] = []
forgets zero count (h ∷ hs) = record h { base = h.base + count } ∷ hs
forgets (suc place) count (h ∷ hs) = h ∷ forgets place count hs

-- so many of the bytes of the flow at a place that are kept stand more than 1 MiB below the newest position
pub record IsSpare (watch : Watch) (place count : ℕ) : Type 0 where
  pub kept : (f : Flow) → slice_get watch.flows.items place ≡ Some f → count ≤ length f.bytes.items
  pub below : (t : Trail) → slice_get watch.trails.items place ≡ Some t → (count ≡ 0) ⊎ (t.base + count + 2 ^ 20 ≤ t.top)

-- a flow without its first bytes, so many
abbrev pub IsWithout : (count : ℕ) → (old new : FlowValue) → Type 0
IsWithout count old new = new ≡ record old { bytes = drop count old.bytes; born = drop count old.born }

-- whatever of a flow at a place stands apart from its bytes is kept: there is nothing
abbrev pub IsSettled : Watch → (place : ℕ) → Type 0
IsSettled watch place =
    (by : Scope) (records : ℕ) (ws : List Watched) (hs : List Heard) (w : Watched) (h : Heard) → IsWatchOf by records watch ws hs
    → slice_get ws place ≡ Some w → slice_get hs place ≡ Some h
    → (q : ℕ) → is_own (length h.value.bytes) q ≡ false → first_letter w.carried q ≡ None
