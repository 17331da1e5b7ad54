-- A watch that keeps all bytes of its flows: what it has heard are these flows.
use Rattle.std.proofs.Common.{◌≡◌, ◌∙◌, ℕ, suc, List, [], ◌∷◌, length, map, slice_get, Some, refl, sym, ap, subst, arith}
use Rattle.std.proofs.lemmas.List.{nil_from_length}
use Rattle.cf_watch.specs.Flow.{AreFlowsOf}
use Rattle.cf_watch.specs.FlowValue.{flow_value}
use Rattle.cf_watch.specs.Kept.{with_gone}
use Rattle.cf_watch.specs.Trail.{Heard, IsHeard, IsWatchOf, KeepsAll, all_kept}
use Rattle.cf_watch.specs.Watched.{Watched}
use Rattle.cf_watch.specs.declared.flow.Flow.{Flow}
use Rattle.cf_watch.specs.declared.scope.Scope.{Scope}
use Rattle.cf_watch.specs.declared.watching.Trail.{Trail}
use Rattle.cf_watch.specs.declared.watching.Watch.{Watch}

module _ (by : Scope) where
  abbrev AreEach : List Flow → List Trail → List Watched → List Heard → Type 0
  AreEach fs ts ws hs = (i : ℕ) (f : Flow) (t : Trail) (w : Watched) (h : Heard) → slice_get fs i ≡ Some f → slice_get ts i ≡ Some t → slice_get ws i ≡ Some w →
      slice_get hs i ≡ Some h → IsHeard by f t w h

  -- the flows that were heard are those that were watched, whatever is kept of them
  flows_heard : (fs : List Flow) (ts : List Trail) (ws : List Watched) (hs : List Heard) → length fs ≡ length ws → length ts ≡ length ws → length hs ≡ length ws →
      AreEach fs ts ws hs → AreFlowsOf ws (map (λ h. h.value) hs)
  flows_heard fs ts [] [] a b c each = refl
  flows_heard fs ts [] (h ∷ hs) a b c each = absurd (omega (arith, c))
  flows_heard fs ts (w ∷ ws) [] a b c each = absurd (omega (arith, c))
  flows_heard [] ts (w ∷ ws) (h ∷ hs) a b c each = absurd (omega (arith, a))
  flows_heard (f ∷ fs) [] (w ∷ ws) (h ∷ hs) a b c each = absurd (omega (arith, b))
  flows_heard (f ∷ fs) (t ∷ ts) (w ∷ ws) (h ∷ hs) a b c each = (
    (each 0 f t w h refl refl refl refl).flow,
    flows_heard fs ts ws hs (omega (arith, a)) (omega (arith, b)) (omega (arith, c)) (λ i g u v k x y z o. each (suc i) g u v k x y z o),
  )

  -- a flow of which all bytes are kept is heard as it stands in memory
  one_kept : (f : Flow) (t : Trail) (w : Watched) (h : Heard) → IsHeard by f t w h → t.base ≡ 0 → h ≡ record { value = flow_value f; base = 0 }
  one_kept f t w h is none =
      let base : h.base ≡ 0 = sym is.base ∙ none in
      let value : h.value ≡ flow_value f = is.value ∙ ap (λ xs. with_gone xs is.gone_born f) (nil_from_length is.gone (is.gone_count ∙ base))
      ∙ ap (λ xs. with_gone [] xs f) (nil_from_length is.gone_born (is.born_count ∙ base)) in
      ap (λ v. record h { value = v }) value ∙ ap (λ n. record { value = flow_value f; base = n }) base

  each_kept : (fs : List Flow) (ts : List Trail) (ws : List Watched) (hs : List Heard) → length fs ≡ length ws → length ts ≡ length ws → length hs ≡ length ws →
      AreEach fs ts ws hs → ((i : ℕ) (t : Trail) → slice_get ts i ≡ Some t → t.base ≡ 0) → hs ≡ all_kept fs
  each_kept [] ts [] [] a b c each none = refl
  each_kept (f ∷ fs) ts [] hs a b c each none = absurd (omega (arith, a))
  each_kept fs ts [] (h ∷ hs) a b c each none = absurd (omega (arith, c))
  each_kept fs ts (w ∷ ws) [] a b c each none = absurd (omega (arith, c))
  each_kept [] ts (w ∷ ws) (h ∷ hs) a b c each none = absurd (omega (arith, a))
  each_kept (f ∷ fs) [] (w ∷ ws) (h ∷ hs) a b c each none = absurd (omega (arith, b))
  each_kept (f ∷ fs) (t ∷ ts) (w ∷ ws) (h ∷ hs) a b c each none =
      ap (λ x. x ∷ hs) (one_kept f t w h (each 0 f t w h refl refl refl refl) (none 0 t refl))
      ∙ ap (λ xs. record { value = flow_value f; base = 0 } ∷ xs) (each_kept fs ts ws hs (omega (arith, a)) (omega (arith, b)) (omega (arith, c))
      (λ i g u v k x y z o. each (suc i) g u v k x y z o) (λ i u e. none (suc i) u e))

  module _ (records : ℕ) (watch : Watch) (ws : List Watched) (hs : List Heard) (is : IsWatchOf by records watch ws hs) where
    pub are_flows : AreFlowsOf ws (map (λ h. h.value) hs)
    are_flows = flows_heard watch.flows.items watch.trails.items ws hs is.flow_count is.trail_count is.heard_count is.each

    pub all_heard : KeepsAll watch → hs ≡ all_kept watch.flows.items
    all_heard none = each_kept watch.flows.items watch.trails.items ws hs is.flow_count is.trail_count is.heard_count is.each none

    -- a watch that keeps all has heard the flows that it has
    pub has_all : KeepsAll watch → IsWatchOf by records watch ws (all_kept watch.flows.items)
    has_all none = subst (IsWatchOf by records watch ws) (all_heard none) is

-- the flows that are so heard
pub values_kept : (fs : List Flow) → map (λ h. h.value) (all_kept fs) ≡ map flow_value fs
values_kept [] = refl
values_kept (f ∷ fs) = ap (λ xs. flow_value f ∷ xs) (values_kept fs)
