-- The lines of a log that name a client and an asset of a site, from one moment to another: lines_naming.
--
-- A line is its moment, its client, the name of its asset and what happened, with one space between them.
use Rattle.std.specs.Prelude.{ℕ, ◌==◌, not, Bool, ◌&&◌, if◌then◌else◌, List, [], ◌∷◌, filter, bytes_eq, map}
use Rattle.std.specs.List.{list_any}
use Rattle.std.specs.Str.Parse.{digits_value}
use Rattle.cf_policy.specs.Site.{SiteValue, assets_of}
use Rattle.cf_view.specs.Text.{endpoint_text}
use Rattle.cf_view.specs.declared.Endpoint.{Endpoint}
use Rattle.cf_isolation.specs.Records.{is_during}

-- the octets before the first space, and those after it
abbrev pub first_word : List ℕ → List ℕ
first_word [] = []
first_word (octet ∷ octets) = if octet == 32 then [] else octet ∷ first_word octets

-- the octets after the first space
abbrev pub behind_word : List ℕ → List ℕ
behind_word [] = []
behind_word (octet ∷ octets) = if octet == 32 then octets else behind_word octets

-- the moment of a line in microseconds: the number of the digits of its first word, with the point left out
abbrev pub moment_in : List ℕ → ℕ
moment_in line = digits_value 10 (filter (λ octet. not (octet == 46)) (first_word line))

-- the names of the assets of a site
abbrev pub names_of : SiteValue → List (List ℕ)
names_of site = map (λ a. a.name) (assets_of site)

-- a line whose second word is the client's endpoint, and whose third one is one of these names
abbrev pub names_both : (client : Endpoint) → (names : List (List ℕ)) → List ℕ → Bool
names_both client names line =
    bytes_eq (first_word (behind_word line)) (endpoint_text client)
    && list_any (λ name. bytes_eq (first_word (behind_word (behind_word line))) name) names

-- the line names this client and one of these assets, and its moment is among these
abbrev pub is_line_naming : (client : Endpoint) → (names : List (List ℕ)) → (since until : ℕ) → List ℕ → Bool
is_line_naming client names since until line = names_both client names line && is_during since until (moment_in line)

-- the lines that do, in their order
abbrev pub lines_naming : (client : Endpoint) → (names : List (List ℕ)) → (since until : ℕ) → List (List ℕ) → List (List ℕ)
lines_naming client names since until lines = filter (is_line_naming client names since until) lines
