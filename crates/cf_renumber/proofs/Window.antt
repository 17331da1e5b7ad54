-- In calls in order few frames are not acknowledged, so that a number stands for at most one count.
use Rattle.std.proofs.Common.{◌≡◌, ℕ, ◌+◌, ◌-◌, ◌<◌, ◌≤◌, Bool, true, false, List, [], ◌∷◌, ◌++◌, length, Option, Some, None, Ok, Err, sym, ◌∙◌, ap, arith, length-append, count_by}
use Rattle.std.specs.Option.{option_or}
use Rattle.std.proofs.lemmas.Bool.{false≢true, cases_lt}
use Rattle.std.proofs.lemmas.List.Sums.{count_by-le-length}
use Rattle.cf_renumber.specs.declared.answer.Stamp.{Stamp}
use Rattle.cf_renumber.specs.declared.answer.RefusedStamp.{RefusedStamp}
use Rattle.cf_renumber.specs.declared.answer.NumberRefusal.{NumberRefusal}
use Rattle.cf_renumber.specs.declared.mark.FrameFate.{FrameFate}
use Rattle.cf_renumber.specs.declared.mark.FrameFate.TheVariants as fates
use Rattle.cf_renumber.specs.declared.mark.Origin.TheVariants as origins
use Rattle.cf_renumber.specs.Counts.{NumberEvent, Admitted, Refused, ClientAck, Carried, ControllerAck, IsCountOf, client_frames, frames_to_client, from_client, to_controller, to_client, is_admitted, count_from, is_counted, covered_by, acked_by_client, acked_by_controller, send_refusal, receive_refusal, outstanding_refusal, unacked_by_controller, client_refusal, client_ack_refusal, controller_refusal, controller_ack_refusal, from_controller}
use Rattle.cf_renumber.specs.Numbers.{uncovered}
use Rattle.cf_renumber.specs.NumbersCalls.{NumbersCall, Start, Stop, MaySend, FromClient, Admit, Refuse, AckOfClient, FromController, AckOfController, Turn, Idle, Waiting, Over, MayCall, IsInOrder, AllAnswered, turn_after, events_of, judged, answer}
use Rattle.cf_renumber.proofs.Greatest.{counted, count_is, is_count}
use Rattle.cf_renumber.proofs.Lists.{count_by-append, uncovered-add, uncovered-append, count-uncovered, length-uncovered}
use Rattle.std.proofs.lemmas.Grind.{common_steps}

-- refusals that do not stand
neither : (a b : Option NumberRefusal) → option_or a b ≡ None → (a ≡ None) × (b ≡ None)
neither a b h1 = grind (arith, common_steps, false≢true)

not_full : (n : ℕ) → outstanding_refusal n ≡ None → n ≡ 4096 → ⊥
not_full n e h = grind (arith, common_steps, false≢true)

received : (low high nr : ℕ) → receive_refusal low high nr ≡ None → count_from low nr ≤ high
received low high nr e = grind (arith, common_steps, is_count, false≢true)

answered_ok : {A : Type 0} (o : Option NumberRefusal) (x y : A) → Ok y ≡ answer o x → o ≡ None
answered_ok o x y h1 = grind (arith, common_steps, false≢true)

-- one more frame of the client, and more that the controller acknowledges
unacked_more : (m : ℕ) (frames : List FrameFate) (f : FrameFate) → m ≤ count_by is_admitted frames →
    length (frames ++ f ∷ []) - covered_by m (frames ++ f ∷ []) ≤ length frames - covered_by m frames + 1
unacked_more m frames f h =
    let left = uncovered m frames in
    let e : length (uncovered m (frames ++ f ∷ [])) ≡ length (uncovered 0 (left ++ f ∷ [])) = ap length (uncovered-append m frames (f ∷ []) h) in
    let a = length-uncovered m (frames ++ f ∷ []) in
    let b = length-uncovered 0 (left ++ f ∷ []) in
    let c = length-append left (f ∷ []) in
    let d = length-uncovered m frames in
    omega (arith, a, b, c, d, e)

unacked_less : (m n : ℕ) (frames : List FrameFate) → m ≤ n → length frames - covered_by n frames ≤ length frames - covered_by m frames
unacked_less m n frames h =
    let k : m + (n - m) ≡ n = omega (arith, h) in
    let e : length (uncovered n frames) ≡ length (uncovered (n - m) (uncovered m frames)) =
    ap (λ (i : ℕ). length (uncovered i frames)) (sym k) ∙ ap length (uncovered-add m (n - m) frames) in
    let a = length-uncovered n frames in
    let b = length-uncovered (n - m) (uncovered m frames) in
    let c = length-uncovered m frames in
    omega (arith, a, b, c, e)

-- where the client has acknowledged j frames
record IsNear (es : List NumberEvent) (j : ℕ) : Type 0 where
  pub within : j ≤ to_client es
  pub few : to_client es ≤ j + 4096
  pub back : acked_by_controller es ≤ to_controller es
  pub unacked : unacked_by_controller es ≤ 4096

record IsNearer (es : List NumberEvent) (j : ℕ) : Type 0 where
  pub within : j ≤ to_client es
  pub few : to_client es < j + 4096
  pub back : acked_by_controller es ≤ to_controller es
  pub unacked : unacked_by_controller es < 4096

abbrev Near : Turn → List NumberEvent → Type 0
Near Idle es = IsNear es (acked_by_client es)
Near (Waiting nr) es = IsNear es (acked_by_client es) × IsNearer es (count_from (acked_by_client es) nr)
Near Over es = Unit {0}

-- a difference that is at most 4,096 and not that is less
less : (n : ℕ) → n ≤ 4096 → outstanding_refusal n ≡ None → n < 4096
less n h e = grind (arith, common_steps, cases_lt, not_full)

module _ (es : List NumberEvent) (n : IsNear es (acked_by_client es)) where
  nearer : (ns nr : ℕ) → client_refusal es ns nr ≡ None → IsNearer es (count_from (acked_by_client es) nr)
  nearer ns nr e =
      let j = count_from (acked_by_client es) nr in
      let a = neither (send_refusal (from_client es) ns) (option_or (client_ack_refusal es nr) (option_or (outstanding_refusal (unacked_by_controller es)) (outstanding_refusal (to_client es - j)))) e in
      let b = neither (client_ack_refusal es nr) (option_or (outstanding_refusal (unacked_by_controller es)) (outstanding_refusal (to_client es - j))) a.1 in
      let c = neither (outstanding_refusal (unacked_by_controller es)) (outstanding_refusal (to_client es - j)) b.1 in
      let w = received (acked_by_client es) (to_client es) nr b.0 in
      let l = less (to_client es - j) (omega (arith, n.few)) c.1 in
      record {
        within = w;
        few = omega (arith, w, l);
        back = n.back;
        unacked = less (unacked_by_controller es) n.unacked c.0;
      }

  near_client_ack : (nr : ℕ) → client_ack_refusal es nr ≡ None → IsNear (ClientAck nr ∷ es) (count_from (acked_by_client es) nr)
  near_client_ack nr e =
      record { within = received (acked_by_client es) (to_client es) nr e; few = omega (arith, n.few); back = n.back; unacked = n.unacked }

  near_controller_ack : (nr : ℕ) → controller_ack_refusal es nr ≡ None → IsNear (ControllerAck nr ∷ es) (acked_by_client es)
  near_controller_ack nr e =
      record {
        within = n.within;
        few = n.few;
        back = received (acked_by_controller es) (to_controller es) nr e;
        unacked = (let l = unacked_less (acked_by_controller es) (count_from (acked_by_controller es) nr) (client_frames es) (omega arith) in omega (arith, l, n.unacked));
      }

  near_carried : (ns nr : ℕ) → controller_refusal es ns nr ≡ None → IsNear (Carried nr ∷ es) (acked_by_client es)
  near_carried ns nr e =
      let a = neither (send_refusal (from_controller es) ns) (option_or (controller_ack_refusal es nr) (outstanding_refusal (to_client es - acked_by_client es))) e in
      let b = neither (controller_ack_refusal es nr) (outstanding_refusal (to_client es - acked_by_client es)) a.1 in
      let m = near_controller_ack nr b.0 in
      let l = less (to_client es - acked_by_client es) (omega (arith, n.few)) b.1 in
      let more = length-append (frames_to_client es) (origins.Controller ∷ []) in
      record {
        within = omega (arith, n.within, more);
        few = omega (arith, l, n.within, more);
        back = m.back;
        unacked = m.unacked;
      }

module _ (es : List NumberEvent) (nr : ℕ) (n : IsNearer es (count_from (acked_by_client es) nr)) where
  near_admitted : IsNear (Admitted nr ∷ es) (count_from (acked_by_client es) nr)
  near_admitted =
      let one : count_by is_admitted (client_frames es ++ fates.Admitted ∷ []) ≡ to_controller es + 1 =
      count_by-append is_admitted (client_frames es) (fates.Admitted ∷ []) in
      let u = unacked_more (acked_by_controller es) (client_frames es) fates.Admitted n.back in
      record { within = n.within; few = omega (arith, n.few); back = omega (arith, n.back, one); unacked = omega (arith, u, n.unacked) }

  near_refused : (reply : Bool) → IsNear (Refused nr reply ∷ es) (count_from (acked_by_client es) nr)
  near_refused reply =
      let none : count_by is_admitted (client_frames es ++ fates.Refused ∷ []) ≡ to_controller es + 0 =
      count_by-append is_admitted (client_frames es) (fates.Refused ∷ []) in
      let u = unacked_more (acked_by_controller es) (client_frames es) fates.Refused n.back in
      let more = length-append (frames_to_client es) (origins.Mirror ∷ []) in
      elim reply as (λ b. IsNear (Refused nr b ∷ es) (count_from (acked_by_client es) nr)) [
        | true ↦ record {
          within = omega (arith, n.within, more);
          few = omega (arith, n.few, more);
          back = omega (arith, n.back, none);
          unacked = omega (arith, u, n.unacked);
        }
        | false ↦ record { within = n.within; few = omega (arith, n.few); back = omega (arith, n.back, none); unacked = omega (arith, u, n.unacked) }
      ]

over : (call : NumbersCall) → MayCall Over call → ⊥
over call h1 = grind (arith, common_steps)

-- a call that may be made only between frames
only_idle : (call : NumbersCall) (p : Turn) (es : List NumberEvent) → ((nr : ℕ) → MayCall (Waiting nr) call → ⊥) → MayCall p call → Near p es →
    IsNear es (acked_by_client es)
only_idle call p es h1 h2 h3 = grind (arith, common_steps, over)

near_admit : (s : Stamp) (p : Turn) (es : List NumberEvent) → MayCall p (Admit s) → Near p es →
    IsNear (judged p (λ nr. Admitted nr) es) (acked_by_client (judged p (λ nr. Admitted nr) es))
near_admit s p es h1 h2 = grind (arith, common_steps, near_admitted)

near_refuse : (reply : Bool) (s : RefusedStamp) (p : Turn) (es : List NumberEvent) → MayCall p (Refuse reply s) → Near p es →
    IsNear (judged p (λ nr. Refused nr reply) es) (acked_by_client (judged p (λ nr. Refused nr reply) es))
near_refuse reply s Idle es m n = absurd m
near_refuse reply s (Waiting nr) es m n = near_refused es nr n.1 reply
near_refuse reply s Over es m n = absurd m

-- what stays where frames neither come nor go
same : (es more : List NumberEvent) → IsNear es (acked_by_client es) → frames_to_client more ≡ frames_to_client es → client_frames more ≡ client_frames es →
    acked_by_client more ≡ acked_by_client es → acked_by_controller more ≡ acked_by_controller es → IsNear more (acked_by_client more)
same es more n a b c d =
    record { within = rw (a, c) n.within; few = rw (a, c) n.few; back = rw (b, d) n.back; unacked = rw (b, d) n.unacked }

near : (calls : List NumbersCall) → IsInOrder calls → AllAnswered calls → Near (turn_after calls) (events_of calls)
near [] o a = record { within = omega arith; few = omega arith; back = omega arith; unacked = omega arith }
near (Start ∷ earlier) o a = grind (arith, common_steps, near earlier o.1 a.1, only_idle, same)
near (Stop ∷ earlier) o a = grind (arith, common_steps, near earlier o.1 a.1, only_idle, same)
near (MaySend side b ∷ earlier) o a = only_idle (MaySend side b) (turn_after earlier) (events_of earlier) (λ nr m. m) o.0 (near earlier o.1 a.1)
near (FromClient ns nr None ∷ earlier) o a = grind (arith, common_steps, near earlier o.1 a.1, only_idle, nearer)
near (FromClient ns nr (Some e) ∷ earlier) o a = tt
near (Admit s ∷ earlier) o a = near_admit s (turn_after earlier) (events_of earlier) o.0 (near earlier o.1 a.1)
near (Refuse reply s ∷ earlier) o a = near_refuse reply s (turn_after earlier) (events_of earlier) o.0 (near earlier o.1 a.1)
near (AckOfClient nr (Ok x) ∷ earlier) o a = grind (arith, common_steps, near earlier o.1 a.1, only_idle, near_client_ack, answered_ok)
near (AckOfClient nr (Err e) ∷ earlier) o a = tt
near (FromController ns nr (Ok x) ∷ earlier) o a = grind (arith, common_steps, near earlier o.1 a.1, only_idle, near_carried, answered_ok)
near (FromController ns nr (Err e) ∷ earlier) o a = tt
near (AckOfController nr (Ok x) ∷ earlier) o a =
    grind (arith, common_steps, near earlier o.1 a.1, only_idle, near_controller_ack, answered_ok)
near (AckOfController nr (Err e) ∷ earlier) o a = tt

-- the ranges of a number where no call was refused
ranges_at : (p : Turn) (es : List NumberEvent) → (p ≡ Over → ⊥) → Near p es → IsNear es (acked_by_client es)
ranges_at p es h1 h2 = grind (arith, common_steps)

module _ (calls : List NumbersCall) (o : IsInOrder calls) (a : AllAnswered calls) (going : turn_after calls ≡ Over → ⊥) (number count : ℕ) where
  here : IsNear (events_of calls) (acked_by_client (events_of calls))
  here = ranges_at (turn_after calls) (events_of calls) going (near calls o a)

  pub one_for_client : IsCountOf (acked_by_client (events_of calls)) (to_client (events_of calls)) number count →
      (is_counted (acked_by_client (events_of calls)) (to_client (events_of calls)) number ≡ true)
      × (count ≡ count_from (acked_by_client (events_of calls)) number)
  one_for_client k =
      let es = events_of calls in
      let h : to_client es < acked_by_client es + 32768 = omega (arith, here.few) in
      (counted (acked_by_client es) (to_client es) number count h k, count_is (acked_by_client es) (to_client es) number count h k)

  pub one_for_controller : IsCountOf (acked_by_controller (events_of calls)) (to_controller (events_of calls)) number count →
      (is_counted (acked_by_controller (events_of calls)) (to_controller (events_of calls)) number ≡ true)
      × (count ≡ count_from (acked_by_controller (events_of calls)) number)
  one_for_controller k =
      let es = events_of calls in
      let c = count-uncovered (acked_by_controller es) (client_frames es) here.back in
      let l = length-uncovered (acked_by_controller es) (client_frames es) in
      let m = count_by-le-length is_admitted (uncovered (acked_by_controller es) (client_frames es)) in
      let h : to_controller es < acked_by_controller es + 32768 = omega (arith, c, l, m, here.unacked) in
      (counted (acked_by_controller es) (to_controller es) number count h k, count_is (acked_by_controller es) (to_controller es) number count h k)
