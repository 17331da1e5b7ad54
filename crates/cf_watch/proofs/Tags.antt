-- Tags of a frame, passed over one after the other.
use Rattle.std.proofs.Common.{◌≡◌, ◌≤◌, ◌+◌, ◌&&◌, ◌||◌, ◌==◌, ℕ, zero, suc, Bool, true, false, List, length, drop, nat_le, refl, arith}
use Rattle.std.proofs.lemmas.Bool.Decides.{nat_tests}
use Rattle.cf_view.specs.Octets.{u16_be_at}
use Rattle.cf_watch.specs.Tagged.{has_tag, without_tags}

long_by : (at n : ℕ) (b : Bool) → (nat_le (at + 2) n && b) ≡ true → at + 2 ≤ n
long_by at n b e = grind (arith, nat_tests, e)

pub tag_long : (at : ℕ) (frame : List ℕ) → has_tag at frame ≡ true → at + 2 ≤ length frame
tag_long at frame e = long_by at (length frame) ((u16_be_at frame at == 0x8100) || (u16_be_at frame at == 0x88A8)) e

pub tag_passed : (at left : ℕ) (frame : List ℕ) → 14 ≤ left → has_tag at frame ≡ true →
    (m : ℕ) × (left ≡ suc m) × (without_tags at left frame ≡ without_tags at m (drop 4 frame))
tag_passed at zero frame h e = absurd (omega (arith, h))
tag_passed at (suc m) frame h e = (m, refl, rw e refl)

pub no_tag : (at left : ℕ) (frame : List ℕ) → has_tag at frame ≡ false → without_tags at left frame ≡ frame
no_tag at zero frame e = refl
no_tag at (suc m) frame e = rw e refl
