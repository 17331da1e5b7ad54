-- The records with which the units of a flow became whole.
use Rattle.std.proofs.Common.{◌≡◌, ◌+◌, ◌-◌, ◌<◌, ◌≤◌, ◌∙◌, ℕ, List, [], ◌∷◌, ◌++◌, length, drop, get_or, Option, Some, None, refl, ap, subst, arith}
use Rattle.std.proofs.lemmas.List.{drop-drop, get_or-drop, get_or_default, length-drop}
use Rattle.std.proofs.lemmas.Option.{slice_get_read}
use Rattle.cf_lane.specs.Judged.{Judged}
use Rattle.cf_policy.specs.Site.{SiteValue}
use Rattle.cf_watch.specs.Carried.{AreBorn, Carried, IsBornWith}
use Rattle.cf_watch.specs.FlowValue.{FlowValue}
use Rattle.cf_judge.specs.Plain.{AreRead, Breaks, Ending, HasEnding, Whole}
use Rattle.cf_review.specs.FirstUnit.{IsReadPartBy}
use Rattle.cf_review.specs.Fronts.{AreTold, IsEndTold, RecordsComeFirst}

module _ (site : SiteValue) (client : ℕ) (carried : List Carried) (whole born : List ℕ) (are_born : AreBorn carried whole born) where
  -- the record at a place is the first with which the bytes reached it
  born_at : (from i number : ℕ) → from + i < length whole → number ≡ get_or (drop from born) i 0 → IsBornWith carried (from + i) number
  born_at from i number inside is =
      let below : from + i < length born = let size = are_born.count in omega (arith, inside, size) in
      let at : number ≡ get_or born (from + i) 0 = is ∙ get_or-drop from born i 0 in
      are_born.each (from + i) number (slice_get_read born (length born) (from + i) number refl below (at ∙ get_or_default born (from + i) 0 number below))

  end_told : (from : ℕ) (bytes : List ℕ) (ending : Ending) → bytes ≡ drop from whole → HasEnding site bytes (drop from born) ending → IsEndTold site carried from bytes ending
  end_told from bytes Whole e has = tt
  end_told from bytes (Breaks number reason) e (place, breaks, is, number_is) =
      let size : length bytes ≡ length whole - from = ap length e ∙ length-drop from whole in
      let inside : place < length bytes = breaks.inside in
      (place, breaks, born_at from place number (omega (arith, size, inside)) number_is)

  told : (from : ℕ) (bytes : List ℕ) (earlier js : List Judged) (ending : Ending) → bytes ≡ drop from whole → AreRead site client earlier bytes (drop from born) js ending →
      AreTold site carried from bytes js ending
  told from bytes earlier [] ending e has = end_told from bytes ending e has
  told from bytes earlier (j ∷ js) ending e (unit, n, begins, some, is, fate, rest) =
      let size : length bytes ≡ length whole - from = ap length e ∙ length-drop from whole in
      let inside : n ≤ length bytes = begins.inside in
      let place : from + (n - 1) ≡ from + n - 1 = omega (arith, some) in
      let moment : j.moment ≡ get_or (drop from born) (n - 1) 0 = ap (λ (x : Judged). x.moment) is in
      let here = born_at from (n - 1) j.moment (omega (arith, size, inside, some)) moment in
      let next : drop n bytes ≡ drop (from + n) whole = ap (drop n) e ∙ drop-drop n from whole in (
        unit,
        n,
        begins,
        some,
        ap (λ (x : Judged). x.item) is,
        subst (λ p. IsBornWith carried p j.moment) place here,
        told (from + n) (drop n bytes) (earlier ++ j ∷ []) js ending next
            (subst (λ ys. AreRead site client (earlier ++ j ∷ []) (drop n bytes) ys js ending) (drop-drop n from born) rest),
      )

module _ (site : SiteValue) (carried : List Carried) (f : FlowValue) (are_born : AreBorn carried f.bytes f.born) where
  part_told : (midstream : Option ℕ) (read : FlowValue) (js : List Judged) (ending : Ending) → IsReadPartBy site.first.protocol midstream f read →
      AreRead site read.client.address [] read.bytes read.born js ending → (from : ℕ) × (read.bytes ≡ drop from f.bytes) × AreTold site carried from read.bytes js ending
  part_told None read js ending is are =
      let bytes : read.bytes ≡ f.bytes = ap (λ (x : FlowValue). x.bytes) is in
      let born : read.born ≡ f.born = ap (λ (x : FlowValue). x.born) is in
      (0, bytes, told site read.client.address carried f.bytes f.born are_born 0 read.bytes [] js ending bytes (subst (λ ys. AreRead site read.client.address [] read.bytes ys js ending) born are))
  part_told (Some number) read js ending (place, from, is) are =
      let bytes : read.bytes ≡ drop place f.bytes = ap (λ (x : FlowValue). x.bytes) is in
      let born : read.born ≡ drop place f.born = ap (λ (x : FlowValue). x.born) is in
      (place, bytes, told site read.client.address carried f.bytes f.born are_born place read.bytes [] js ending bytes (subst (λ ys. AreRead site read.client.address [] read.bytes ys js ending) born are))

pub come_first : RecordsComeFirst
come_first site w f read js ending flow part are = part_told site w.carried f flow.born f.midstream read js ending part are
