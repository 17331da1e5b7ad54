-- Files that are created in their order: AreCreated and CreationFails.
use Rattle.std.specs.Prelude.{◌≡◌, ◌⊎◌, ℕ, List, [], ◌∷◌}
use Rattle.cf_outside.specs.Files.{Content, content_after_create}

module _ (before after : List ℕ → Content) where
  -- each of the files is as it was
  abbrev pub AreSame : List (List ℕ) → Type 0
  AreSame [] = Unit {0}
  AreSame (name ∷ names) = (after name ≡ before name) × AreSame names

  -- each was created
  abbrev pub AreCreated : List (List ℕ) → Type 0
  AreCreated [] = Unit {0}
  AreCreated (name ∷ names) = (after name ≡ content_after_create (before name)) × AreCreated names

  -- the creation of one failed: those before it were created, it is as it was or empty, and those after it are as they were
  abbrev pub CreationFails : List (List ℕ) → Type 0
  CreationFails [] = ⊥
  CreationFails (name ∷ names) =
      (((after name ≡ before name) ⊎ (after name ≡ content_after_create (before name))) × AreSame names)
      ⊎ ((after name ≡ content_after_create (before name)) × CreationFails names)
