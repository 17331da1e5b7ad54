-- What is read of the letters of a packet, near the newest position.
use Rattle.std.proofs.Common.{◌≡◌, ◌+◌, ◌^◌, ◌≤◌, ◌&&◌, ◌+ℤ◌, ◌-ℤ◌, ◌≤ℤ◌, ◌==◌, if◌then◌else◌, ℕ, ℤ, pos, negsuc, Bool, true, false, nat_le, length, refl, ap, ◌∙◌, inl, inr, arith}
use Rattle.std.proofs.lemmas.Bool.Decides.{nat_tests}
use Rattle.std.proofs.lemmas.Int.{ints}
use Rattle.cf_stream.specs.Position.{place_or_zero}
use Rattle.cf_stream.specs.Stream.{Stream}
use Rattle.cf_watch.specs.Carried.{Carried, end_after}
use Rattle.cf_watch.specs.Kept.{IsKept}
use Rattle.cf_watch.specs.Seen.{far, near, without_first}
use Rattle.cf_watch.specs.Trail.{MayBeGone}
use Rattle.cf_watch.specs.declared.scope.Scope.{Scope}
use Rattle.cf_watch.specs.declared.scope.Scope.TheVariants as scope

-- ---- where the letters begin that are read

far_from : (top : ℕ) (at z : ℤ) → (pos top -ℤ pos (2 ^ 20) -ℤ at) ≡ z → (pos top -ℤ pos (2 ^ 20)) ≤ℤ (at +ℤ pos (place_or_zero z))
far_from top at (pos m) e = omega (arith, ints, e)
far_from top at (negsuc m) e = omega (arith, ints, e)

far_to : (top : ℕ) (at z : ℤ) → (pos top -ℤ pos (2 ^ 20) -ℤ at) ≡ z → at ≤ℤ pos (top + 2 ^ 31) → (at +ℤ pos (place_or_zero z)) ≤ℤ pos (top + 2 ^ 31)
far_to top at (pos m) e to = omega (arith, ints, e)
far_to top at (negsuc m) e to = omega (arith, ints, to)

-- so many letters are not read
abbrev pub IsFar : Scope → (top : ℕ) → (at : ℤ) → (first : ℕ) → Type 0
IsFar by top at first = (by ≡ scope.Connections → first ≡ 0) × (by ≡ scope.Recording → first ≡ far top at)

-- those that are read stand at places whose bytes are kept
pub near_kept : (by : Scope) (base top first : ℕ) (at : ℤ) → MayBeGone by base top → IsFar by top at first → IsKept base (at +ℤ pos first)
near_kept by base top first at (inl none) is = inl none
near_kept by base top first at (inr (recording, below)) is =
    let from = far_from top at (pos top -ℤ pos (2 ^ 20) -ℤ at) refl in
    let few = is.1 recording in
    inr (omega (arith, ints, from, few, below))

pub near_to : (by : Scope) (top first : ℕ) (at : ℤ) → IsFar by top at first → at ≤ℤ pos (top + 2 ^ 31) → (at +ℤ pos first) ≤ℤ pos (top + 2 ^ 31)
near_to scope.Connections top first at is to = let none = is.0 refl in omega (arith, ints, none, to)
near_to scope.Recording top first at is to =
    let most = far_to top at (pos top -ℤ pos (2 ^ 20) -ℤ at) refl to in
    let few = is.1 refl in
    omega (arith, ints, few, most)

-- ---- what is read

all_ended : (ended : Bool) (count : ℕ) → (ended && nat_le 0 count) ≡ ended
all_ended true count = grind (arith, nat_tests)
all_ended false count = refl

without_none : (c : Carried) → without_first 0 c ≡ c
without_none c =
    let at : (c.at +ℤ pos 0) ≡ c.at = omega (arith, ints) in
    let text : Stream = record { bytes = c.text.bytes; ended = c.text.ended && nat_le 0 (length c.text.bytes) } in
    ap (λ (z : ℤ). let d : Carried = record { number = c.number; at = z; text = text } in d) at
    ∙ ap (λ (b : Bool). let d : Carried = record { number = c.number; at = c.at; text = record { bytes = c.text.bytes; ended = b } } in d) (all_ended c.text.ended (length c.text.bytes))

pub near_is : (by : Scope) (top first : ℕ) (c : Carried) → IsFar by top c.at first → without_first first c ≡ near by top c
near_is scope.Connections top first c is = ap (λ (n : ℕ). without_first n c) (is.0 refl) ∙ without_none c
near_is scope.Recording top first c is = ap (λ (n : ℕ). without_first n c) (is.1 refl)

-- ---- the newest position

place_low : (z : ℤ) (most : ℕ) → z ≤ℤ pos most → place_or_zero z ≤ most
place_low (pos m) most low = omega (arith, ints, low)
place_low (negsuc m) most low = omega arith

end_by : (b : Bool) (z : ℤ) (most : ℕ) → z ≤ℤ pos most → (if b then 0 else place_or_zero z) ≤ most
end_by true z most low = omega arith
end_by false z most low = place_low z most low

pub end_low : (at : ℤ) (count most : ℕ) → (at +ℤ pos count) ≤ℤ pos most → end_after at count ≤ most
end_low at count most low = end_by (count == 0) (at +ℤ pos count) most low

-- what is kept no more stands below a newer position too
pub still_gone : (by : Scope) (base top newer : ℕ) → top ≤ newer → MayBeGone by base top → MayBeGone by base newer
still_gone by base top newer less (inl none) = inl none
still_gone by base top newer less (inr (recording, below)) = inr (recording, omega (arith, less, below))
