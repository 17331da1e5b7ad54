-- What is said of the flows of a capture, as the answer of the command.
use Rattle.std.proofs.Common.{[], ◌∷◌, ◌<◌, length, slice_get, suc, zero, ◌≡◌, ◌≢◌, ℕ, List, Some, Result, Ok, Err, refl, subst, ◌∙◌, arith, inl, inr}
use Rattle.cf_outside.specs.Faults.{Rose}
use Rattle.cf_policy.specs.declared.Asset.{Asset}
use Rattle.cf_policy.specs.declared.Policy.{Policy}
use Rattle.cf_watch.specs.FlowValue.{FlowValue}
use Rattle.cf_watch.specs.Watch.{HasFlows, WatchesAs}
use Rattle.cf_watch.specs.declared.WatchFault.{WatchFault}
use Rattle.cf_watch.specs.declared.WatchFault.TheVariants as fault
use Rattle.cf_box.specs.Check.{ChangesNothing, CheckLeaves}
use Rattle.cf_words.specs.Command.{Judge}
use Rattle.cf_box.specs.Ends.{Meets, PassesPolicy}
use Rattle.cf_box.specs.Judge.{SaysOfFlows}
use Rattle.cf_box.specs.Watching.{HasWatched, fault_stop}
use Rattle.cf_ending.specs.Outside.{Outside, ReadsOnly}
use Rattle.cf_box.specs.PolicyFile.{HasPolicy}
use Rattle.cf_ending.specs.declared.Denial.TheVariants as denial
use Rattle.cf_ending.specs.declared.Done.{Done}
use Rattle.cf_ending.specs.declared.Stop.{Stop}
use Rattle.cf_ending.specs.declared.Stop.TheVariants as stop
use Rattle.cf_box.proofs.CaptureStops.{not_a_write, unwatched}
use Rattle.cf_box.proofs.Passing.{policy_passes}

-- the asset at a place of a policy
pub asset_at : (assets : List Asset) (place : ℕ) → place < length assets → (asset : Asset) × (slice_get assets place ≡ Some asset)
asset_at [] place below = absurd (omega (arith, below))
asset_at (asset ∷ assets) zero below = (asset, refl)
asset_at (asset ∷ assets) (suc place) below = asset_at assets place (omega (arith, below))

module _ (policy capture : List ℕ) (before middle after : Outside) (p : Policy) (has : HasPolicy (before.files.content policy) p)
    (first : ReadsOnly (policy ∷ []) before.files middle.files) (kept : after.files.content ≡ middle.files.content) (sink : after.sink ≡ before.sink) (pair : after.pair ≡ before.pair) where
  same : ChangesNothing before after
  same = record { content = kept ∙ first.content; sink = sink; pair = pair }

  passes : PassesPolicy (Judge policy capture) before
  passes = policy_passes (Judge policy capture) before policy p refl refl refl has

  leaves : (s : Stop) → s ≢ stop.WriteFault → CheckLeaves before after s
  leaves s other = record { unwritten = other; same = same }

  -- the capture was not watched to its end
  pub watch_stops : (f : WatchFault) → WatchesAs p.assets (middle.files.content capture) (Err f) → (f ≡ fault.Read → Rose (middle.files.read_faults capture) (after.files.read_faults capture)) → Meets (Judge policy capture) before after (Err (fault_stop f))
  watch_stops f w r = (unwatched (Judge policy capture) before after capture (λ r h. h) (λ place h. h) (λ rose. inr (inl rose)) passes middle first f r w, leaves (fault_stop f) (not_a_write f))

  said : (flows : List FlowValue) → HasWatched policy capture before p flows → (r : Result Done Stop) → SaysOfFlows p flows r → Meets (Judge policy capture) before after r
  said flows w (Ok d) s = record { keeps = (p, flows, w, s); same = same }
  said flows w (Err (stop.Denied (denial.Objects tells))) s = (((p, flows, w, s), passes), leaves (stop.Denied (denial.Objects tells)) (λ e. cc e))
  said flows w (Err stop.NoMemory) s = (tt, leaves stop.NoMemory (λ e. cc e))
  said flows w (Err other) s = absurd s

  -- it was, and this was said of its flows
  pub flows_meet : (flows : List FlowValue) → HasFlows p.assets (middle.files.content capture) flows → (r : Result Done Stop) → SaysOfFlows p flows r → Meets (Judge policy capture) before after r
  flows_meet flows has_flows r s =
      said flows (record { has_policy = has; has_flows = subst (λ c. HasFlows p.assets (c capture) flows) first.content has_flows }) r s
