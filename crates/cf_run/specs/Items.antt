-- Steps of the proof: items that follow each other in octets, each spelled by octets of which no beginning spells one: `items_from`.
use Rattle.std.specs.Prelude.{ℕ, Option, None, Some, List, [], ◌∷◌, ◌++◌}

-- the items, by what the octets since the last item are
abbrev pub next_item : {A : Type 0} → Option A → List A → List A → List A
next_item None more fresh = more
next_item (Some item) more fresh = item ∷ fresh

-- the items of octets after a part of one, by what spells an item
abbrev pub items_from : {A : Type 0} → (List ℕ → Option A) → List ℕ → List ℕ → List A
items_from unit part [] = []
items_from unit part (octet ∷ octets) =
    next_item (unit (part ++ octet ∷ [])) (items_from unit (part ++ octet ∷ []) octets) (items_from unit [] octets)

-- what stands after the last item
abbrev pub next_part : {A : Type 0} → Option A → List ℕ → List ℕ → List ℕ
next_part None more fresh = more
next_part (Some item) more fresh = fresh

abbrev pub part_from : {A : Type 0} → (List ℕ → Option A) → List ℕ → List ℕ → List ℕ
part_from unit part [] = part
part_from unit part (octet ∷ octets) =
    next_part (unit (part ++ octet ∷ [])) (part_from unit (part ++ octet ∷ []) octets) (part_from unit [] octets)
