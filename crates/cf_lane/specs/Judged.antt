-- Items with their moments and fates, `Judged`, and what is counted of them.
use Rattle.cf_audit.specs.declared.line.CutReason.{CutReason}
use Rattle.cf_lane.specs.History.{is_side}
use Rattle.cf_lane.specs.Item.{Broke, Ended, Item, Placed, Took}
use Rattle.cf_lane.specs.declared.fate.Fate.{Fate}
use Rattle.cf_view.specs.declared.Side.{Side}
use Rattle.std.specs.List.{list_any}
use Rattle.std.specs.Option.{option_or}
use Rattle.std.specs.Prelude.{Bool, List, None, Option, Some, [], false, true, ℕ, ◌++◌, ◌∷◌}
use Rattle.cf_lane.specs.declared.fate.Fate.TheVariants as fate

-- an item that has its fate: when it completed, what it is, and what becomes of it
pub record Judged : Type 0 where
  pub moment : ℕ
  pub item : Item
  pub fate : Fate

-- the item without its fate
abbrev pub place_of : Judged → Placed
place_of j = record { moment = j.moment; item = j.item }

-- the item is this side's End
abbrev pub ends : Side → Item → Bool
ends s (Took of unit) = false
ends s (Ended of rest) = is_side s of
ends s (Broke of reason) = false

-- whether a side's End is among the items
abbrev pub has_ended : Side → List Judged → Bool
has_ended s js = list_any (λ j. ends s j.item) js

-- the fate is that of an admitted command
abbrev pub is_admitted : Fate → Bool
is_admitted (fate.Admitted used) = true
is_admitted f = false

-- the fate is that of a refused command
abbrev pub is_refused : Fate → Bool
is_refused (fate.Refused refusal) = true
is_refused f = false

-- 1 where a thing is so, and 0 where it is not
abbrev pub one_if : Bool → ℕ
one_if true = 1
one_if false = 0

-- why an item of this fate cuts, if it does
abbrev pub fate_cut : Fate → Option CutReason
fate_cut (fate.Cuts reason) = Some reason
fate_cut f = None

-- the reason of the first that cuts
abbrev pub cut_of : List Judged → Option CutReason
cut_of [] = None
cut_of (j ∷ js) = option_or (fate_cut j.fate) (cut_of js)

-- what items put out one after the other, where each may read the earlier ones
abbrev pub in_turn : {X : Type 0} → (List Judged → Judged → List X) → List Judged → List Judged → List X
in_turn put earlier [] = []
in_turn put earlier (j ∷ js) = put earlier j ++ in_turn put (earlier ++ j ∷ []) js

-- an item of this fate goes on to the other side
abbrev pub goes_on : Fate → Bool
goes_on fate.Carried = true
goes_on (fate.Admitted used) = true
goes_on (fate.Refused refusal) = false
goes_on (fate.Stray because) = false
goes_on fate.Lengthens = false
goes_on (fate.Cuts because) = false
