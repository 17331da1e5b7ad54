-- Each answer of a turn raises the progress of a relay, and stages without one leave it as it was.
use Rattle.std.proofs.Common.{Bool, List, Ok, Option, ap, arith, cond, false, inl, inr, length, map, refl, sym, true, ℕ, ◌++◌, ◌*◌, ◌+◌, ◌-◌, ◌<◌, ◌^◌, ◌∙◌, ◌∷◌, ◌≡◌, ◌≤◌, ◌⊎◌, []}
use Rattle.std.specs.List.{concat}
use Rattle.std.proofs.Math.Nat.{mul-le-mul_left}
use Rattle.std.proofs.lemmas.List.{length-append}
use Rattle.cf_driver.proofs.Limits.{owed_most}
use Rattle.cf_lane.specs.Handled.{IsOpen}
use Rattle.cf_lane.specs.Output.{other}
use Rattle.cf_links.specs.Links.{SessionTold}
use Rattle.cf_outq.specs.SendQueue.{Queue}
use Rattle.cf_outside.specs.Desk.{DeskValue}
use Rattle.cf_outside.specs.Pair.{Entry, Idle, Took}
use Rattle.cf_policy.specs.Site.{IsSiteWithin, SiteValue}
use Rattle.cf_stream.specs.Sizes.{window_size}
use Rattle.cf_view.specs.declared.Side.{Side}
use Rattle.cf_view.specs.declared.Side.TheVariants as side
use Rattle.cf_relay.proofs.Asking.{take_state_of}
use Rattle.cf_relay.proofs.Doing.{ClosesTo, GivesTo, by_own, by_side}
use Rattle.cf_relay.proofs.Giving.{given_more, given_pieces}
use Rattle.cf_relay.proofs.Lists.{by_answer, own_bytes, own_end}
use Rattle.cf_relay.proofs.Standing.{TakesTo}
use Rattle.cf_relay.specs.Answers.{given, idles_after}
use Rattle.cf_relay.specs.Gave.{FinishesBy, Gave, GaveBy}
use Rattle.cf_relay.specs.Relaying.{AreClosed, AsksOrRests, IsSound, RelayingValue, ServesOrRests, Unmoved, is_closed, letters_from, moved, progress, queue_to}
use Rattle.cf_relay.specs.Reading.{most_back}
use Rattle.cf_relay.specs.Taken.{MayTakeNow, TakeState, TakesBy, WaitAtMost, letters_brought}
use Rattle.cf_relay.specs.Turn.{GivesQueued, HasBytes, IsTakeAnswer, TookPieces}
use Rattle.cf_relay.specs.declared.directions.Directions.{Directions}
use Rattle.cf_relay.specs.declared.directions.Directions.TheVariants as both

-- ---- progress

pub rises : (most a b i j : ℕ) → a < b → i < most → a * most + i < b * most + j
rises most a b i j h g = let k : most * (a + 1) ≤ most * b = mul-le-mul_left most (omega (arith, h)) in omega (arith, k, g)

pub unmoved_progress : (most : ℕ) (old new : RelayingValue) → Unmoved old new → progress most new ≡ progress most old
unmoved_progress most old new u =
    let a : moved new ≡ moved old = omega (arith, u.letters side.Client, u.letters side.Controller, u.acked side.Client, u.acked side.Controller) in
    ap (λ n. n * most + new.idle) a ∙ ap (λ n. moved old * most + n) u.idle

-- ---- giving

-- nothing was queued; or a byte went; or Idle came alone
gave_cases : (s : Side) (idle : ℕ) (queued : List ℕ) (answers : List Entry) (pieces : List (List ℕ)) (rest : List ℕ) → TookPieces s queued pieces rest →
    ((rest ≡ []) × (answers ≡ map (Took s) pieces)) ⊎ (HasBytes rest × (answers ≡ map (Took s) pieces ++ Idle s ∷ [])) →
    ((queued ≡ []) × (answers ≡ [])) ⊎ ((1 ≤ length (given s answers)) ⊎ ((length (given s answers) ≡ 0) × (idles_after idle answers ≡ idle + 1)))
gave_cases s idle queued answers [] rest took (inl (none, e)) = inl (took.split ∙ none, e)
gave_cases s idle queued answers [] rest took (inr (some, e)) = inr (inr (ap (λ xs. length (given s xs)) e, ap (idles_after idle) e ∙ omega arith))
gave_cases s idle queued answers (p ∷ pieces) rest took (inl (none, e)) =
    inr (inl (omega (arith, took.each.0.0, length-append p (concat pieces), ap length (ap (given s) e ∙ given_pieces s (p ∷ pieces)))))
gave_cases s idle queued answers (p ∷ pieces) rest took (inr (some, e)) =
    inr (inl (omega (
      arith,
      took.each.0.0,
      length-append p (concat pieces),
      ap length (given_pieces s (p ∷ pieces)),
      ap length (ap (given s) e ∙ given_more s (map (Took s) (p ∷ pieces)) (Idle s ∷ [])),
      length-append (given s (map (Took s) (p ∷ pieces))) (given s (Idle s ∷ [])),
    )))

acked_sum : (s : Side) (old new : RelayingValue) (n : ℕ) → (queue_to s new).acked ≡ (queue_to s old).acked + n → queue_to (other s) new ≡ queue_to (other s) old →
    new.to_client.acked + new.to_controller.acked ≡ old.to_client.acked + old.to_controller.acked + n
acked_sum side.Client old new n e same = omega (arith, e, ap (λ (q : Queue). q.acked) same)
acked_sum side.Controller old new n e same = omega (arith, e, ap (λ (q : Queue). q.acked) same)

module _ (most : ℕ) (s : Side) (old mid : RelayingValue) (few : old.idle < most) (to : GivesTo s old mid) where
  -- what was given raises the progress, or nothing was queued
  gives_or_rests : (told told' : SessionTold) (answers : List Entry) → Gave s (queue_to s old) (queue_to s mid) told told' old.idle mid.idle answers → GivesQueued s (queue_to s old).kept answers →
      (progress most old < progress most mid) ⊎ (((queue_to s old).kept ≡ []) × (answers ≡ []))
  gives_or_rests told told' answers gave gives =
      elim (gave_cases s old.idle (queue_to s old).kept answers gives.pieces gives.rest gives.took gives.until) [
        | inl none ↦ inr none
        | inr (inl some) ↦ inl (rises most (moved old) (moved mid) old.idle mid.idle
            (omega (arith, some, acked_sum s old mid _ gave.acked to.same, to.letters side.Client, to.letters side.Controller)) few)
        | inr (inr (none, one)) ↦ inl (
            let a : moved mid ≡ moved old = omega (arith, none, acked_sum s old mid _ gave.acked to.same, to.letters side.Client, to.letters side.Controller) in
            omega (arith, ap (λ n. n * most) a, gave.counts, one))
      ]

  rests_unmoved : (told told' : SessionTold) (answers : List Entry) → Gave s (queue_to s old) (queue_to s mid) told told' old.idle mid.idle answers → answers ≡ [] → Unmoved old mid
  rests_unmoved told told' answers gave none = record {
    kept = by_own (λ t. (queue_to t mid).kept ≡ (queue_to t old).kept) s (sym (gave.kept ∙ ap (λ xs. given s xs ++ (queue_to s mid).kept) none)) (ap (λ (q : Queue). q.kept) to.same);
    acked = by_own (λ t. (queue_to t mid).acked ≡ (queue_to t old).acked) s (omega (arith, gave.acked, ap (λ xs. length (given s xs)) none)) (ap (λ (q : Queue). q.acked) to.same);
    ended = by_own (λ t. (queue_to t mid).ended ≡ (queue_to t old).ended) s gave.ended (ap (λ (q : Queue). q.ended) to.same);
    letters = to.letters;
    idle = gave.counts ∙ ap (idles_after old.idle) none;
  }

closes_unmoved : (s : Side) (mid new : RelayingValue) → ClosesTo s mid new → Unmoved mid new
closes_unmoved s mid new to = record {
  kept = λ t. ap (λ (q : Queue). q.kept) (to.keeps.queues t);
  acked = λ t. ap (λ (q : Queue). q.acked) (to.keeps.queues t);
  ended = λ t. ap (λ (q : Queue). q.ended) (to.keeps.queues t);
  letters = to.keeps.letters;
  idle = to.idle;
}

pub both_unmoved : (a b c : RelayingValue) → Unmoved a b → Unmoved b c → Unmoved a c
both_unmoved a b c h g = record {
  kept = λ t. g.kept t ∙ h.kept t;
  acked = λ t. g.acked t ∙ h.acked t;
  ended = λ t. g.ended t ∙ h.ended t;
  letters = λ t. g.letters t ∙ h.letters t;
  idle = g.idle ∙ h.idle;
}

-- nothing is queued, so a queue with End has its side closed
closed_last : (s : Side) (q : Queue) (before after : Bool) (told told' : SessionTold) (x : Unit {0}) → FinishesBy s q before after told told' (Ok x) → q.kept ≡ [] → q.ended ≡ true → after ≡ true
closed_last s q before after told told' x (inl (last, closed, tells)) none ends = closed
closed_last s q true after told told' x (inr (never, same, tells)) none ends = same
closed_last s q false after told told' x (inr (never, same, tells)) none ends = absurd (never (none, ends, refl))

module _ (most : ℕ) (s : Side) (old mid new : RelayingValue) (few : old.idle < most) (to : GivesTo s old mid) (closes : ClosesTo s mid new) where
  pub serve_moves : (a b c d : SessionTold) (x y : Unit {0}) → GaveBy s most (queue_to s old) (queue_to s mid) a b old.idle mid.idle (Ok x) →
      FinishesBy s (queue_to s mid) (is_closed s mid) (is_closed s new) c d (Ok y) → ServesOrRests s most old new
  serve_moves a b c d x y (answers, gave, gives, goes) finishes =
      elim (gives_or_rests most s old mid few to a b answers gave gives) [
        | inl more ↦ inl (omega (arith, more, unmoved_progress most mid new (closes_unmoved s mid new closes)))
        | inr (none, nothing) ↦ (
            let u = rests_unmoved most s old mid few to a b answers gave nothing in
            inr (
              none,
              both_unmoved old mid new u (closes_unmoved s mid new closes),
              closes.others ∙ to.closed (other s),
              λ ends. closed_last s (queue_to s mid) (is_closed s mid) (is_closed s new) c d y finishes (u.kept s ∙ none) (u.ended s ∙ ends),
            ))
      ]

-- ---- asking

answer_moves : (m : ℕ) (s : Side) (e : Entry) (letters letters' idle idle' : ℕ) → IsTakeAnswer s e → letters' ≡ letters + letters_brought m s e → idle' ≡ idles_after idle (e ∷ []) →
    (letters < letters') ⊎ ((letters' ≡ letters) × (idle' ≡ idle + 1))
answer_moves m s e letters letters' idle idle' is more i =
    by_answer s (λ x. letters' ≡ letters + letters_brought m s x → idle' ≡ idles_after idle (x ∷ []) → (letters < letters') ⊎ ((letters' ≡ letters) × (idle' ≡ idle + 1)))
    (λ bytes some n j. inl (omega (arith, some, n, own_bytes m s bytes))) (λ n j. inl (omega (arith, n, own_end m s)))
    (λ n j. inr (omega (arith, n), omega (arith, j))) e is more i

letters_sum : (s : Side) (old new : RelayingValue) → letters_from s old < letters_from s new → letters_from (other s) new ≡ letters_from (other s) old →
    old.client_letters + old.controller_letters < new.client_letters + new.controller_letters
letters_sum side.Client old new h same = omega (arith, h, same)
letters_sum side.Controller old new h same = omega (arith, h, same)

letters_still : (s : Side) (old new : RelayingValue) → letters_from s new ≡ letters_from s old → letters_from (other s) new ≡ letters_from (other s) old →
    new.client_letters + new.controller_letters ≡ old.client_letters + old.controller_letters
letters_still side.Client old new h same = omega (arith, h, same)
letters_still side.Controller old new h same = omega (arith, h, same)

module _ (dirs : Directions) (site : SiteValue) (most : ℕ) (s : Side) (old new : RelayingValue) (log log' : Option (List (List ℕ))) (told told' : SessionTold) (desk : DeskValue) (few : old.idle < most) (to : TakesTo s old new) where
  pub ask_moves : (x : Unit {0}) → TakesBy dirs site old.moment most s (take_state_of s old log told) (take_state_of s new log' told') desk (Ok x) → AsksOrRests dirs site s most old new
  ask_moves x (inl (never, same)) = inr (
    record {
      kept = by_side (λ t. (queue_to t new).kept ≡ (queue_to t old).kept) (ap (λ (z : TakeState). z.state.to_client.kept) same) (ap (λ (z : TakeState). z.state.to_controller.kept) same);
      acked = by_side (λ t. (queue_to t new).acked ≡ (queue_to t old).acked) (ap (λ (z : TakeState). z.state.to_client.acked) same) (ap (λ (z : TakeState). z.state.to_controller.acked) same);
      ended = by_side (λ t. (queue_to t new).ended ≡ (queue_to t old).ended) (ap (λ (z : TakeState). z.state.to_client.ended) same) (ap (λ (z : TakeState). z.state.to_controller.ended) same);
      letters = by_own (λ t. letters_from t new ≡ letters_from t old) s (ap (λ (z : TakeState). z.letters) same) to.other_letters;
      idle = ap (λ (z : TakeState). z.idle) same;
    },
    never,
  )
  ask_moves x (inr (may, goes, takes)) =
      let acked : new.to_client.acked + new.to_controller.acked ≡ old.to_client.acked + old.to_controller.acked = omega (arith, takes.hears.to_client.acked, takes.hears.to_controller.acked) in
      elim (answer_moves old.moment s takes.answer (letters_from s old) (letters_from s new) old.idle new.idle takes.answers.is_taken takes.answers.letters takes.answers.idles) [
        | inl more ↦ inl (rises most (moved old) (moved new) old.idle new.idle (omega (arith, acked, letters_sum s old new more to.other_letters)) few)
        | inr (still, one) ↦ inl (
            let a : moved new ≡ moved old = omega (arith, acked, letters_still s old new still to.other_letters) in
            omega (arith, ap (λ n. n * most) a, one))
      ]

-- ---- a turn

waits_at : (most : ℕ) (q r : Queue) → r.kept ≡ q.kept → r.ended ≡ q.ended → WaitAtMost most q → WaitAtMost most r
waits_at most q r e d small = omega (arith, small, ap length e, ap {B = ℕ} (λ b. cond b 1 0) d)

open_at : (s : Side) (old new : RelayingValue) → Unmoved old new → IsOpen s old.to_client old.to_controller → IsOpen s new.to_client new.to_controller
open_at side.Client old new u is = u.ended side.Controller ∙ is
open_at side.Controller old new u is = u.ended side.Client ∙ is

same_may : (dirs : Directions) (site : SiteValue) (s : Side) (old new : RelayingValue) → Unmoved old new → MayTakeNow dirs site s old.to_client old.to_controller → MayTakeNow dirs site s new.to_client new.to_controller
same_may dirs site side.Client old new u may = record {
  open_still = open_at side.Client old new u may.open_still;
  onward = waits_at window_size old.to_controller new.to_controller (u.kept side.Controller) (u.ended side.Controller) may.onward;
  back = waits_at (most_back dirs site) old.to_client new.to_client (u.kept side.Client) (u.ended side.Client) may.back;
}
same_may dirs site side.Controller old new u may = record {
  open_still = open_at side.Controller old new u may.open_still;
  onward = waits_at window_size old.to_client new.to_client (u.kept side.Client) (u.ended side.Client) may.onward;
  back = waits_at (most_back dirs site) old.to_controller new.to_controller (u.kept side.Controller) (u.ended side.Controller) may.back;
}

-- a side was asked; or both were passed over
abbrev ListensOrRests : Directions → SiteValue → (most : ℕ) → (old new : RelayingValue) → Type 0
ListensOrRests dirs site most old new =
    (progress most old < progress most new)
    ⊎ (Unmoved old new × (MayTakeNow dirs site side.Client old.to_client old.to_controller → ⊥) ×
    (MayTakeNow dirs site side.Controller old.to_client old.to_controller → ⊥))

-- the moment, and two sides asked
listen_moves : (dirs : Directions) (site : SiteValue) (most : ℕ) (a b c d : RelayingValue) → Unmoved a b → AsksOrRests dirs site side.Client most b c → AsksOrRests dirs site side.Controller most c d → ListensOrRests dirs site most a d
listen_moves dirs site most a b c d u (inl m) (inl n) = inl (omega (arith, m, n, unmoved_progress most a b u))
listen_moves dirs site most a b c d u (inl m) (inr (v, passed)) = inl (omega (arith, m, unmoved_progress most a b u, unmoved_progress most c d v))
listen_moves dirs site most a b c d u (inr (v, passed)) (inl n) = inl (omega (arith, n, unmoved_progress most a b u, unmoved_progress most b c v))
listen_moves dirs site most a b c d u (inr (v, passed)) (inr (w, never)) =
    inr (both_unmoved a c d (both_unmoved a b c u v) w, (λ may. passed (same_may dirs site side.Client a b u may)), (λ may. never (same_may dirs site side.Controller a c (both_unmoved a b c u v) may)))

one_at_most : (b : Bool) → cond b 1 0 ≤ 1
one_at_most true = omega arith
one_at_most false = omega arith

waits_empty : (most : ℕ) (q : Queue) → 1 ≤ most → q.kept ≡ [] → WaitAtMost most q
waits_empty most q some none = omega (arith, some, ap length none, one_at_most q.ended)

some_back : (dirs : Directions) (site : SiteValue) → IsSiteWithin site → 1 ≤ most_back dirs site
some_back both.Together site within = omega arith
some_back both.Separate site within = omega (arith, owed_most site within)

not_open : (b : Bool) → (b ≡ false → ⊥) → b ≡ true
not_open true passed = refl
not_open false passed = absurd (passed refl)

-- a turn moves something, or both sides are closed after it
moves_all : (dirs : Directions) (site : SiteValue) (within : IsSiteWithin site) (most : ℕ) (a b c d : RelayingValue) → ListensOrRests dirs site most a b → ServesOrRests side.Controller most b c → ServesOrRests side.Client most c d → (progress most a < progress most d) ⊎ AreClosed d
moves_all dirs site within most a b c d (inl l) (inl m) (inl n) = inl (omega (arith, l, m, n))
moves_all dirs site within most a b c d (inl l) (inl m) (inr (none, v, same, closed)) = inl (omega (arith, l, m, unmoved_progress most c d v))
moves_all dirs site within most a b c d (inl l) (inr (none, v, same, closed)) (inl n) = inl (omega (arith, l, n, unmoved_progress most b c v))
moves_all dirs site within most a b c d (inl l) (inr (none, v, same, closed)) (inr (none', v', same', closed')) = inl (omega (arith, l, unmoved_progress most b c v, unmoved_progress most c d v'))
moves_all dirs site within most a b c d (inr (u, passed, never)) (inl m) (inl n) = inl (omega (arith, m, n, unmoved_progress most a b u))
moves_all dirs site within most a b c d (inr (u, passed, never)) (inl m) (inr (none, v, same, closed)) = inl (omega (arith, m, unmoved_progress most a b u, unmoved_progress most c d v))
moves_all dirs site within most a b c d (inr (u, passed, never)) (inr (none, v, same, closed)) (inl n) = inl (omega (arith, n, unmoved_progress most a b u, unmoved_progress most b c v))
moves_all dirs site within most a b c d (inr (u, passed, never)) (inr (none, v, same, closed)) (inr (none', v', same', closed')) =
    let client : (most : ℕ) → 1 ≤ most → WaitAtMost most a.to_client = λ most some. waits_empty most a.to_client some (sym (u.kept side.Client) ∙ sym (v.kept side.Client) ∙ none') in
    let controller : (most : ℕ) → 1 ≤ most → WaitAtMost most a.to_controller = λ most some. waits_empty most a.to_controller some (sym (u.kept side.Controller) ∙ none) in
    let small : 1 ≤ window_size = omega arith in
    let ended_c : a.to_client.ended ≡ true = not_open a.to_client.ended (λ e. never (record { open_still = e; onward = client window_size small; back = controller (most_back dirs site) (some_back dirs site within) })) in
    let ended_k : a.to_controller.ended ≡ true = not_open a.to_controller.ended (λ e. passed (record { open_still = e; onward = controller window_size small; back = client (most_back dirs site) (some_back dirs site within) })) in
    inr (closed' (v.ended side.Client ∙ u.ended side.Client ∙ ended_c), same' ∙ closed (u.ended side.Controller ∙ ended_k))

pub turn_moves : (dirs : Directions) (site : SiteValue) (within : IsSiteWithin site) (most : ℕ) (a b c d e f : RelayingValue) → Unmoved a b → AsksOrRests dirs site side.Client most b c → AsksOrRests dirs site side.Controller most c d → ServesOrRests side.Controller most d e → ServesOrRests side.Client most e f →
    (progress most a < progress most f) ⊎ AreClosed f
turn_moves dirs site within most a b c d e f told client controller served last = moves_all dirs site within most a d e f (listen_moves dirs site most a b c d told client controller) served last

-- the progress of a relay that goes on is below this
pub progress_below : (site : SiteValue) (most : ℕ) (now : RelayingValue) → IsSound site most now → progress most now < 2 ^ 32 * most
progress_below site most now h =
    let few : moved now + 1 ≤ 2 ^ 32 = omega (arith, h.short.client, h.short.controller, h.short.to_client, h.short.to_controller, h.to_client, h.to_controller) in
    let all : most * (moved now + 1) ≤ most * (2 ^ 32) = mul-le-mul_left most few in
    omega (arith, all, h.few)

pub nearer : (bound a b : ℕ) → a < b → b < bound → bound - b < bound - a
nearer bound a b h g = omega (arith, h, g)

pub goes_nearer : (site : SiteValue) (most : ℕ) (old new : RelayingValue) → IsSound site most new → (progress most old < progress most new) ⊎ AreClosed new → (AreClosed new → ⊥) →
    2 ^ 32 * most - progress most new < 2 ^ 32 * most - progress most old
goes_nearer site most old new sound (inl more) still = nearer (2 ^ 32 * most) (progress most old) (progress most new) more (progress_below site most new sound)
goes_nearer site most old new sound (inr closed) still = absurd (still closed)

pub not_both : (b : Bool) → b ≡ false → b ≡ true → ⊥
not_both b f t = cc
