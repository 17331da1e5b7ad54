-- The moments of a run's events: they rise, and two runs of equal moments have them at the same places.
use Rattle.std.proofs.Common.{◌≡◌, ℕ, zero, suc, ◌+◌, ◌<◌, ◌≤◌, true, false, List, [], ◌∷◌, ◌++◌, get_or, length, map, reverse, refl, sym, ap, ◌∙◌, length-append, arith}
use Rattle.cf_isolation.proofs.Common.{AllByRecursion, Asset, Endpoint, Flow, HasSession, Input, Rises, RunEvent, client_of, is_during, moments_of, nat_tests}
use Rattle.std.proofs.lemmas.List.{length-map, map-append, reverse-append}
use Rattle.cf_run.specs.Isolation.{AreMatched, AreMatchedAlike}
use Rattle.cf_run.specs.Run.{inputs_of}
use Rattle.cf_run.specs.Selected.{last_moment}
use Rattle.cf_isolation.specs.Isolated.{HaveOneTime}
use Rattle.cf_isolation.proofs.Lists.{all_back, all_front}

-- what holds of events and of those before each holds of all that are behind some
pub back : (P : List RunEvent → Type 0) → ((e : RunEvent) (es : List RunEvent) → P (e ∷ es) → P es) → (after es : List RunEvent) → P (after ++ es) → P es
back P before [] es h = h
back P before (e ∷ after) es h = back P before after es (before e (after ++ es) h)

-- what holds of all inputs holds of the input of each event
pub inputs_all : (P : Input → Type 0) (es : List RunEvent) → AllByRecursion P (inputs_of es) → AllByRecursion (λ e. P e.input) es
inputs_all P [] h = tt
inputs_all P (e ∷ es) h = ((all_back P (inputs_of es) (e.input ∷ []) h).0, inputs_all P es (all_front P (inputs_of es) (e.input ∷ []) h))

pub last_grows : (after es : List RunEvent) → Rises (after ++ es) → last_moment es ≤ last_moment (after ++ es)
last_grows [] es r = omega arith
last_grows (e ∷ after) es r = let more = last_grows after es r.1 in omega (arith, more, r.0)

pub during_yes : (since until m : ℕ) → since ≤ m → m ≤ until → is_during since until m ≡ true
during_yes since until m a b = grind (arith, nat_tests, a, b)

pub during_early : (since until m : ℕ) → m < since → is_during since until m ≡ false
during_early since until m a = grind (arith, nat_tests, a)

pub during_late : (since until m : ℕ) → until < m → is_during since until m ≡ false
during_late since until m a = grind (arith, nat_tests, a)

-- ---- two runs

-- the moments of events, the newest first
abbrev times : List RunEvent → List ℕ
times es = map (λ (e : RunEvent). e.input.moment) es

reversed : (es : List RunEvent) → reverse (moments_of (inputs_of es)) ≡ times es
reversed [] = refl
reversed (e ∷ es) = ap reverse (map-append (λ (i : Input). i.moment) (inputs_of es) (e.input ∷ [])) ∙ reverse-append (moments_of (inputs_of es)) (e.input.moment ∷ []) ∙ ap (λ l. e.input.moment ∷ l) (reversed es)

-- the moments behind some events, by their places
time_behind : (after es : List RunEvent) (n place : ℕ) → place ≡ length after + n → get_or (times (after ++ es)) place 0 ≡ get_or (times es) n 0
time_behind [] es n place h = let same : place ≡ n = omega (arith, h) in ap (λ k. get_or (times es) k 0) same
time_behind (e ∷ after) es n zero h = absurd (omega (arith, h))
time_behind (e ∷ after) es n (suc place) h = time_behind after es n place (omega (arith, h))

last_is : (es : List RunEvent) → get_or (times es) 0 0 ≡ last_moment es
last_is [] = refl
last_is (e ∷ es) = refl

matched_length : (assets : List Asset) (client site : Endpoint) (here there xs ys : List RunEvent) → AreMatched assets client site here there xs ys → length xs ≡ length ys
matched_length assets client site here there [] [] h = refl
matched_length assets client site here there (x ∷ xs) (y ∷ ys) h = ap suc (matched_length assets client site here there xs ys h.1)
matched_length assets client site here there _ _ h = absurd h

module _ (flow : Flow) (events : List RunEvent) (has : HasSession flow events) where
  abbrev whole : List RunEvent
  whole = has.later ++ has.first ∷ has.earlier

  places : length (times events) ≡ length has.after + (length has.later + length (has.first ∷ has.earlier))
  places =
      length-map events (λ (e : RunEvent). e.input.moment) ∙ ap length has.are ∙ length-append has.after whole
      ∙ ap (λ n. length has.after + n) (length-append has.later (has.first ∷ has.earlier))

  seen_is : get_or (times events) (length has.after) 0 ≡ last_moment whole
  seen_is = ap (λ es. get_or (times es) (length has.after) 0) has.are ∙ time_behind has.after whole 0 (length has.after) (omega arith) ∙ last_is whole

  began_is : get_or (times events) (length has.after + length has.later) 0 ≡ has.first.input.moment
  began_is =
      ap (λ es. get_or (times es) (length has.after + length has.later) 0) has.are ∙ time_behind has.after whole (length has.later) (length has.after + length has.later) refl
      ∙ time_behind has.later (has.first ∷ has.earlier) 0 (length has.later) (omega arith)

pub one_time : (assets : List Asset) (flow : Flow) (events others : List RunEvent) (one : HasSession flow events) (other : HasSession flow others) →
    moments_of (inputs_of events) ≡ moments_of (inputs_of others) → length one.earlier ≡ length other.earlier → AreMatchedAlike assets flow one other → HaveOneTime flow one other
one_time assets flow events others one other moments earlier matched =
    let later = matched_length assets (client_of flow) flow.site.first.endpoint (one.first ∷ one.earlier) (other.first ∷ other.earlier) one.later other.later matched in
    let from : length (one.first ∷ one.earlier) ≡ length (other.first ∷ other.earlier) = ap suc earlier in
    let same : times events ≡ times others = sym (reversed events) ∙ ap reverse moments ∙ reversed others in
    let sizes = ap length same in
    let here = places flow events one in
    let there = places flow others other in
    let after : length one.after ≡ length other.after = omega (arith, sizes, here, there, later, from) in
    let place : length one.after + length one.later ≡ length other.after + length other.later = omega (arith, after, later) in
    record {
      began = sym (began_is flow events one) ∙ ap (λ n. get_or (times events) n 0) place ∙ ap (λ ms. get_or ms (length other.after + length other.later) 0) same ∙ began_is flow others other;
      seen = sym (seen_is flow events one) ∙ ap (λ n. get_or (times events) n 0) after ∙ ap (λ ms. get_or ms (length other.after) 0) same ∙ seen_is flow others other;
    }
