-- `serve POLICY SECONDS LOG NAME=A.B.C.D:PORT..`: the words of a service. The main definition is `service_of`. This project's own.
use Rattle.std.specs.Prelude.{ℕ, ◌≤◌, ◌==◌, Bool, true, not, ◌&&◌, ◌||◌, nat_le, if◌then◌else◌, List, [], ◌∷◌, length, map, Option, None}
use Rattle.std.specs.Prelude.{Some, bytes_eq, codes, option_and_then, option_map}
use Rattle.std.specs.List.{list_any}
use Rattle.cf_policylang.specs.Numbers.{address, split_at_mark}
use Rattle.cf_view.specs.declared.Endpoint.{Endpoint}
use Rattle.cf_words.specs.Names.{are_names, printed_number_in}
use Rattle.cf_box.specs.declared.service.PlaceWord.{PlaceWord as PlaceFields}
use Rattle.cf_box.specs.declared.service.Service.{Service as ServiceFields}

-- the name of an asset, and the endpoint of this machine at which its clients come
pub record PlaceWord : Type 0 where
  pub asset : List ℕ
  pub at : Endpoint

-- what the words of a service say
pub record ServiceWords : Type 0 where
  pub policy : List ℕ
  pub seconds : ℕ
  pub log : List ℕ
  pub places : List PlaceWord

-- what a contract sees of them
abbrev pub place_word_value : PlaceFields → PlaceWord
place_word_value place = record { asset = place.asset.now; at = place.at }

abbrev pub service_value : ServiceFields → ServiceWords
service_value service = record {
  policy = service.policy.now;
  seconds = service.seconds;
  log = service.log.now;
  places = map place_word_value service.places.items;
}

-- what the reader of the words has tested of the numbers
abbrev pub IsFitService : ServiceFields → Type 0
IsFitService service = (2 ≤ service.seconds) × ((service.seconds ≤ 1000000) × (length service.places.items ≤ 256))

-- an address and a port from 1 to 65,535
abbrev pub endpoint_of : (host port : List ℕ) → Option Endpoint
endpoint_of host port = option_and_then (λ a. option_map (λ p. record { address = a; port = p }) (printed_number_in 1 65535 port))
    (address host)

-- `A.B.C.D:PORT`
abbrev pub endpoint_word : List ℕ → Option Endpoint
endpoint_word text = option_and_then (λ halves. endpoint_of halves.0 halves.1) (split_at_mark (codes ":") text)

-- `NAME=A.B.C.D:PORT`
abbrev pub place_word : List ℕ → Option PlaceWord
place_word text =
    option_and_then (λ halves. option_map (λ at. record { asset = halves.0; at = at }) (endpoint_word halves.1))
    (split_at_mark (codes "=") text)

-- one place for each word, if each is one
abbrev pub place_words : List (List ℕ) → Option (List PlaceWord)
place_words [] = Some []
place_words (word ∷ words) = option_and_then (λ place. option_map (λ places. place ∷ places) (place_words words)) (place_word word)

-- places that have one asset or one endpoint
abbrev pub is_same_place : PlaceWord → PlaceWord → Bool
is_same_place p q = bytes_eq p.asset q.asset || ((p.at.address == q.at.address) && (p.at.port == q.at.port))

-- no asset and no endpoint stands twice
abbrev pub are_apart : List PlaceWord → Bool
are_apart [] = true
are_apart (p ∷ ps) = not (list_any (is_same_place p) ps) && are_apart ps

-- 1 to 256 words, each a place, no asset and no endpoint twice
abbrev pub places_of : List (List ℕ) → Option (List PlaceWord)
places_of words =
    if nat_le 1 (length words) && nat_le (length words) 256 then
    option_and_then (λ places. if are_apart places then Some places else None) (place_words words)
    else None

-- the words of a service with 2 to 1,000,000 seconds
abbrev pub service_with : (policy seconds log : List ℕ) → List (List ℕ) → Option ServiceWords
service_with policy seconds log words =
    option_and_then (λ n. option_map (λ places. record { policy = policy; seconds = n; log = log; places = places }) (places_of words))
    (printed_number_in 2 1000000 seconds)

-- the service that the words are: the first is `serve`, and the names of the two files are not empty and differ
abbrev pub service_of : List (List ℕ) → Option ServiceWords
service_of (name ∷ policy ∷ seconds ∷ log ∷ words) =
    if bytes_eq name (codes "serve") && are_names (policy ∷ log ∷ []) then service_with policy seconds log words else None
service_of _ = None
