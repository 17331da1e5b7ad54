-- Runs of a window.
use Rattle.std.proofs.Common.{◌≡◌, ℕ, ◌+◌, List, [], ◌∷◌, drop, refl, ◌∙◌, ap, arith}
use Rattle.std.proofs.lemmas.Int.{ints}
use Rattle.cf_stream.proofs.Taken.{same_taken}
use Rattle.cf_stream.proofs.PlaceOrZero.{place_or_zero_from}
use Rattle.cf_stream.specs.FirstCopy.{first_copy, IsTaken}
use Rattle.cf_stream.specs.Position.{place_or_zero}
use Rattle.cf_stream.specs.Stream.{Stream, letter_count}
use Rattle.cf_rebuild.specs.ReceiveWindow.{Window, IsWindow, IsWindowOf, base_of}
use Rattle.cf_rebuild.specs.WindowCalls.{WindowCall, Offered, Consumed, Opened, IsWindowRun, edge_by, consumed_by, offers_by}
use Rattle.cf_rebuild.proofs.Windows.{new_is_window, new_stands, window_after, stands_after, window_consumed, stands_consumed, window_opened, stands_opened}
use Rattle.std.proofs.lemmas.Grind.{common_steps}

run_is_window : (calls : List WindowCall) (w : Window) → IsWindowRun calls w → IsWindow w
run_is_window [] w r = new_is_window w r
run_is_window (Offered at text ∷ earlier) w r = window_after r.0 w _ (run_is_window earlier r.0 r.1) r.2 refl
run_is_window (Consumed n ∷ earlier) w r = window_consumed r.0 w n r.2.0 r.2.1 (run_is_window earlier r.0 r.1)
run_is_window (Opened edge ∷ earlier) w r =
    let h = run_is_window earlier r.0 r.1 in
    let at = place_or_zero_from r.0.edge edge r.2.0 in
    rw r.2.4
    (window_opened r.0 (place_or_zero edge)
    (omega (arith, ints, at, r.2.0)) (omega (arith, ints, at, r.2.1)) (omega (arith, ints, at, r.2.2)) (omega (arith, ints, at, r.2.3)) h)

pub edge_run : (calls : List WindowCall) (w : Window) → IsWindowRun calls w → w.edge ≡ edge_by calls
edge_run [] w r = r.edge
edge_run (Offered at text ∷ earlier) w r = r.2.edge ∙ edge_run earlier r.0 r.1
edge_run (Consumed n ∷ earlier) w r = r.2.1.edge ∙ edge_run earlier r.0 r.1
edge_run (Opened edge ∷ earlier) w r = rw r.2.4

pub consumed_run : (calls : List WindowCall) (w : Window) → IsWindowRun calls w → w.consumed ≡ consumed_by calls
consumed_run [] w r = omega (arith, r.base)
consumed_run (Offered at text ∷ earlier) w r = r.2.consumed ∙ consumed_run earlier r.0 r.1
consumed_run (Consumed n ∷ earlier) w r = r.2.1.consumed ∙ ap (λ (m : ℕ). m + n) (consumed_run earlier r.0 r.1)
consumed_run (Opened edge ∷ earlier) w r = rw r.2.4 (consumed_run earlier r.0 r.1)

pub stands_run : (calls : List WindowCall) (w : Window) → IsWindowRun calls w → IsWindowOf w (offers_by calls)
stands_run [] w r = new_stands w r
stands_run (Offered at text ∷ earlier) w r = grind (arith, common_steps, stands_run earlier r.0 r.1, stands_after, run_is_window, edge_run)
stands_run (Consumed n ∷ earlier) w r = stands_consumed r.0 w n r.2.0 r.2.1 (offers_by earlier) (stands_run earlier r.0 r.1)
stands_run (Opened edge ∷ earlier) w r = rw r.2.4 (stands_opened r.0 (place_or_zero edge) (offers_by earlier) (stands_run earlier r.0 r.1))

module _ (calls : List WindowCall) (w : Window) (s : Stream) (r : IsWindowRun calls w) (t : IsTaken (first_copy (offers_by calls)) s) where
  h : IsWindowOf w (offers_by calls)
  h = stands_run calls w r

  same : h.taken ≡ s
  same = same_taken (first_copy (offers_by calls)) h.taken s h.is_taken t

  pub base_run : base_of w ≡ letter_count s
  base_run = grind (arith, common_steps, same)

  pub pending_run : w.pending ≡ drop (consumed_by calls) s.bytes
  pending_run = h.pending ∙ ap (λ (n : ℕ). drop n h.taken.bytes) (consumed_run calls w r) ∙ ap (λ (x : Stream). drop (consumed_by calls) x.bytes) same

  pub ended_run : w.ended ≡ s.ended
  ended_run = h.ended ∙ ap (λ (x : Stream). x.ended) same
