-- A side and the other one.
use Rattle.cf_dnptrans.specs.AssemblyValue.{IsAssemblyOf}
use Rattle.cf_lane.specs.Dnp3.{segments_of}
use Rattle.cf_lane.specs.History.{Element, bytes_in, is_side}
use Rattle.cf_lane.specs.Judged.{Judged}
use Rattle.cf_lane.specs.Kept.{KnowsFragments, of_side}
use Rattle.cf_lane.specs.Output.{other}
use Rattle.cf_lane.specs.declared.wire.Fragments.{Fragments}
use Rattle.cf_policy.specs.declared.Asset.{Asset}
use Rattle.cf_view.specs.declared.Side.{Side}
use Rattle.std.proofs.Common.{Bool, List, [], arith, false, inl, inr, refl, true, ℕ, ◌+◌, ◌≡◌, ◌⊎◌}
use Rattle.std.specs.Prelude.{if◌then◌else◌}
use Rattle.cf_view.specs.declared.Side.TheVariants as side

pub if_none : {A : Type 0} (b : Bool) (xs : List A) → xs ≡ [] → (if b then xs else []) ≡ []
if_none true xs e = e
if_none false xs e = refl

-- what holds at a side and at the other one holds at both
pub at_both : (s : Side) (P : Side → Type 0) → P s → P (other s) → P side.Client × P side.Controller
at_both side.Client P own others = (own, others)
at_both side.Controller P own others = (others, own)

pub same_side : (s : Side) → is_side s s ≡ true
same_side side.Client = refl
same_side s = refl

pub side_is : (s t : Side) → (is_side s t ≡ false) ⊎ (t ≡ s)
side_is side.Client side.Client = inr refl
side_is side.Controller side.Controller = inr refl
side_is s t = inl refl

pub other_side : (s : Side) → is_side (other s) s ≡ false
other_side side.Client = refl
other_side s = refl

pub other_again : (s : Side) → other (other s) ≡ s
other_again side.Client = refl
other_again s = refl

-- the bytes of an element are its own side's
pub own_bytes : (e : Element) → bytes_in e.side e ≡ e.letters.bytes
own_bytes e = rw (same_side e.side) refl

-- a sum over both sides begins with either
pub sum_sides : (s : Side) (f : Side → ℕ) → f side.Client + f side.Controller ≡ f s + f (other s)
sum_sides side.Client f = refl
sum_sides side.Controller f = omega arith

-- the segments of a side are those of its assembly
pub side_known : (asset : Asset) (f : Fragments) (s : Side) (earlier : List Judged) → KnowsFragments asset f earlier → IsAssemblyOf (of_side s f) (segments_of asset s earlier)
side_known asset f side.Client earlier k = k.client
side_known asset f side.Controller earlier k = k.controller
