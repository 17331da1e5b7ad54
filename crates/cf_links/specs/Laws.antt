-- Steps of the proof: laws of one session among many: `SessionsAreApart`.
use Rattle.std.specs.Prelude.{◌≡◌, ◌==◌, ℕ, List, ◌++◌, false, map}
use Rattle.cf_outside.specs.Pair.{Entry}
use Rattle.cf_links.specs.Links.{LinksEntry, Of, answers_of}

-- what a session adds to the list of all is added to its own list, and changes no other session's
abbrev pub SessionsAreApart : Type 0
SessionsAreApart = (session : ℕ) (es : List LinksEntry) (answers : List Entry) →
    (answers_of session (es ++ map (Of session) answers) ≡ answers_of session es ++ answers)
    × ((other : ℕ) → (session == other) ≡ false → answers_of other (es ++ map (Of session) answers) ≡ answers_of other es)
