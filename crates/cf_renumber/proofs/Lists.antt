-- Fronts of lists of frames, and what is left of them.
use Rattle.std.proofs.Common.{◌≡◌, ℕ, zero, suc, ◌+◌, ◌-◌, ◌<◌, ◌≤◌, Bool, List, Some, get_or, [], ◌∷◌, ◌++◌, length, take, drop, refl, sym, ◌∙◌, ap, arith, cond, count_by}
use Rattle.std.proofs.Math.Nat.{suc-add}
use Rattle.std.proofs.Math.Seq.{take-add}
use Rattle.std.specs.List.{slice_get}
use Rattle.std.proofs.lemmas.Option.{get_or_from_slice_get, slice_get_within}
use Rattle.std.proofs.lemmas.List.{take_more, take-append-drop, length-drop, take-append-le}
use Rattle.std.proofs.lemmas.List.Sums.{sum_by-append}
use Rattle.cf_renumber.specs.declared.mark.FrameFate.{FrameFate}
use Rattle.cf_renumber.specs.declared.mark.FrameFate.TheVariants as fates
use Rattle.cf_renumber.specs.declared.mark.Origin.{Origin}
use Rattle.cf_renumber.specs.declared.mark.Origin.TheVariants as origins
use Rattle.cf_renumber.specs.Counts.{is_admitted, is_controllers, controllers_among, covered_by}
use Rattle.cf_renumber.specs.Numbers.{uncovered}
use Rattle.std.proofs.lemmas.Grind.{common_steps}

pub count_by-append : {X : Type 0} (p : X → Bool) (xs ys : List X) → count_by p (xs ++ ys) ≡ count_by p xs + count_by p ys
count_by-append p xs ys = sum_by-append (λ x. cond (p x) 1 0) xs ys

-- a count is that of a front and that of the rest
pub count_by-split : {X : Type 0} (p : X → Bool) (n : ℕ) (xs : List X) → count_by p xs ≡ count_by p (take n xs) + count_by p (drop n xs)
count_by-split p n xs = sym (ap (count_by p) (take-append-drop n xs)) ∙ count_by-append p (take n xs) (drop n xs)

-- the first j + n are the first j, and the first n of the rest
pub among-add : (j n : ℕ) (frames : List Origin) → controllers_among (j + n) frames ≡ controllers_among j frames + controllers_among n (drop j frames)
among-add j n frames = grind (arith, common_steps, take-add, count_by-append)

-- a front does not change as the list grows
pub among-append : (j : ℕ) (frames more : List Origin) → j ≤ length frames → controllers_among j (frames ++ more) ≡ controllers_among j frames
among-append j frames more h = ap (count_by is_controllers) (take-append-le j frames more h)

pub covered_by-le : (m : ℕ) (frames : List FrameFate) → covered_by m frames ≤ length frames
covered_by-le m [] = omega arith
covered_by-le m (fates.Refused ∷ frames) = omega (arith, covered_by-le m frames)
covered_by-le zero (fates.Admitted ∷ frames) = omega arith
covered_by-le (suc m) (fates.Admitted ∷ frames) = omega (arith, covered_by-le m frames)

-- what m + a leave is what a leave of what m leave
pub uncovered-add : (m a : ℕ) (frames : List FrameFate) → uncovered (m + a) frames ≡ uncovered a (uncovered m frames)
uncovered-add m a [] = refl
uncovered-add m a (fates.Refused ∷ frames) = uncovered-add m a frames
uncovered-add zero a (fates.Admitted ∷ frames) = (let e : zero + a ≡ a = omega arith in ap (λ (n : ℕ). uncovered n (fates.Admitted ∷ frames)) e)
uncovered-add (suc m) a (fates.Admitted ∷ frames) = grind (arith, common_steps, uncovered-add m a frames, suc-add)

pub one_more : (frames : List FrameFate) → count_by is_admitted (fates.Admitted ∷ frames) ≡ 1 + count_by is_admitted frames
one_more frames = count_by-append is_admitted (fates.Admitted ∷ []) frames

-- where the list grows, what is left grows with it, unless nothing is left
pub uncovered-append : (m : ℕ) (frames more : List FrameFate) → m ≤ count_by is_admitted frames →
    uncovered m (frames ++ more) ≡ uncovered 0 (uncovered m frames ++ more)
uncovered-append zero [] more h = refl
uncovered-append (suc m) [] more h = absurd (omega arith)
uncovered-append m (fates.Refused ∷ frames) more h = uncovered-append m frames more (omega arith)
uncovered-append zero (fates.Admitted ∷ frames) more h = refl
uncovered-append (suc m) (fates.Admitted ∷ frames) more h = uncovered-append m frames more (omega (arith, one_more frames))

pub count-uncovered : (m : ℕ) (frames : List FrameFate) → m ≤ count_by is_admitted frames →
    m + count_by is_admitted (uncovered m frames) ≡ count_by is_admitted frames
count-uncovered zero [] h = refl
count-uncovered (suc m) [] h = absurd (omega arith)
count-uncovered m (fates.Refused ∷ frames) h = (let k = count-uncovered m frames (omega arith) in omega arith)
count-uncovered zero (fates.Admitted ∷ frames) h = omega arith
count-uncovered (suc m) (fates.Admitted ∷ frames) h =
    (let k = count-uncovered m frames (omega (arith, one_more frames)) in omega (arith, one_more frames))

pub length-uncovered : (m : ℕ) (frames : List FrameFate) → length (uncovered m frames) ≡ length frames - covered_by m frames
length-uncovered m frames = length-drop (covered_by m frames) frames

among-next : (frames : List Origin) (i : ℕ) (o : Origin) → slice_get frames i ≡ Some o →
    controllers_among (i + 1) frames ≡ controllers_among i frames + count_by is_controllers (o ∷ [])
among-next frames i o e =
    let within = slice_get_within frames i o e in
    ap (count_by is_controllers) (take_more frames i o within)
    ∙ count_by-append is_controllers (take i frames) (get_or frames i o ∷ [])
    ∙ ap (λ (x : Origin). controllers_among i frames + count_by is_controllers (x ∷ [])) (get_or_from_slice_get frames i o o e)

pub among_controller : (frames : List Origin) (i : ℕ) → slice_get frames i ≡ Some origins.Controller →
    controllers_among (i + 1) frames ≡ controllers_among i frames + 1
among_controller frames i e = among-next frames i origins.Controller e

pub among_mirror : (frames : List Origin) (i : ℕ) → slice_get frames i ≡ Some origins.Mirror →
    controllers_among (i + 1) frames ≡ controllers_among i frames + 0
among_mirror frames i e = among-next frames i origins.Mirror e

pub uncovered_again : (m : ℕ) (frames : List FrameFate) → uncovered 0 (uncovered m frames) ≡ uncovered m frames
uncovered_again m frames = (let e : m + 0 ≡ m = omega arith in sym (uncovered-add m 0 frames) ∙ ap (λ (n : ℕ). uncovered n frames) e)

-- a list that begins with an admitted frame
pub uncovered_keeps : (frames more : List FrameFate) → uncovered 0 frames ≡ frames → 0 < length frames → uncovered 0 (frames ++ more) ≡ frames ++ more
uncovered_keeps [] more h l = absurd (omega arith)
uncovered_keeps (fates.Refused ∷ frames) more h l =
    (let e : length (uncovered 0 frames) ≡ length (fates.Refused ∷ frames) = ap length h in
    absurd (omega (arith, length-uncovered 0 frames)))
uncovered_keeps (fates.Admitted ∷ frames) more h l = refl

pub uncovered_admitted : (frames : List FrameFate) → uncovered 0 frames ≡ frames →
    uncovered 0 (frames ++ fates.Admitted ∷ []) ≡ frames ++ fates.Admitted ∷ []
uncovered_admitted frames h1 = grind (arith, common_steps, uncovered_keeps)
