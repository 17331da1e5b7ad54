-- The places of a service, and why it stops.
use Rattle.std.proofs.Common.{◌≡◌, ◌≤◌, ◌*◌, ◌++◌, ◌-◌, ◌<◌, ◌^◌, ◌⊎◌, ℕ, Option, Some, None, Result, Ok, Err, List, [], ◌∷◌, ap, inl, inr, length, map, refl, subst, suc, sym, ◌∙◌}
use Rattle.std.specs.Prelude.{Bool, IfErr, OnOk, false, true, ◌||◌}
use Rattle.std.specs.Result.{IsErrAnd}
use Rattle.std.specs.List.{AllByRecursion, list_any}
use Rattle.std.proofs.lemmas.Option.{same_Some}
use Rattle.cf_links.specs.Links.{LinksEntry}
use Rattle.cf_outside.specs.Faults.{HasCause, Rose}
use Rattle.cf_outside.specs.Files.{content_gone_on}
use Rattle.cf_outside.specs.Lines.{file_lines}
use Rattle.cf_outside.specs.Pair.{FaultsBy}
use Rattle.cf_outside.specs.PairValue.{PairValue}
use Rattle.cf_policy.specs.AtEndpoint.{has_asset_at}
use Rattle.cf_policy.specs.Site.{IsSiteWithin}
use Rattle.cf_policy.specs.declared.Policy.{Policy}
use Rattle.cf_policylang.specs.declared.PolicyRefusal.{PolicyRefusal}
use Rattle.cf_serve.specs.Broken.{BreaksLog}
use Rattle.cf_serve.specs.Served.{HasMade, Serves}
use Rattle.cf_serve.specs.Table.{IfWhole}
use Rattle.cf_serve.specs.declared.ServeFault.{ServeFault}
use Rattle.cf_serve.specs.declared.ServeFault.TheVariants as fault
use Rattle.cf_serve.specs.declared.table.Place.{Place}
use Rattle.cf_box.proofs.Reading.{since_read}
use Rattle.cf_words.specs.Command.{Check}
use Rattle.cf_box.specs.Ends.{RefusesPolicy, StopsFor}
use Rattle.cf_ending.specs.Outside.{FilesValue, ReadsOnly, SinkValue, outside}
use Rattle.cf_box.specs.PolicyFile.{HasPolicy, IsRefusedBy, StopsPolicy}
use Rattle.cf_box.specs.Service.{ArePlaces, EndsService, HasBroken, HasServed, LacksPlace, MissesSites, NothingServed, StopsService, is_same_site, service_stop, shares_site, takes_endpoint}
use Rattle.cf_box.specs.ServiceWords.{PlaceWord, ServiceWords, place_word_value}
use Rattle.cf_ending.specs.declared.Stop.{Stop}
use Rattle.cf_ending.specs.declared.Stop.TheVariants as stop
use Rattle.cf_box.specs.declared.serve.Unserved.{Unserved}
use Rattle.cf_box.specs.declared.serve.Unserved.TheVariants as unserved
use Rattle.cf_box.specs.declared.service.PlaceWord.{PlaceWord as PlaceFields}

-- as many places as words
places_count : (policy : Policy) (words : List PlaceWord) (places : List Place) → ArePlaces policy words places → length places ≡ length words
places_count policy [] [] all = refl
places_count policy (word ∷ words) (place ∷ places) all = ap suc (places_count policy words places all.1.1.1)
places_count policy _ _ all = absurd all

-- each within the limits
pub places_within : (policy : Policy) (words : List PlaceWord) (places : List Place) → ArePlaces policy words places
    → AllByRecursion (λ (place : Place). IsSiteWithin place.site) places
places_within policy [] [] all = tt
places_within policy (word ∷ words) (place ∷ places) all = (all.1.1.0, places_within policy words places all.1.1.1)
places_within policy _ _ all = absurd all

-- what was found, where nothing was before
pub found_alone : (policy : Policy) (words : List PlaceFields) (old new : List Place) → old ≡ []
    → ((more : List Place) × (new ≡ old ++ more) × ArePlaces policy (map place_word_value words) more) → ArePlaces policy (map place_word_value words) new
found_alone policy words old new none (more, added, are) =
    subst (λ ps. ArePlaces policy (map place_word_value words) ps) (sym (added ∙ ap (λ xs. xs ++ more) none)) are

-- the same of the words and the places as they are looked at
pub found_places : (policy : Policy) (words there : List PlaceFields) → there ≡ words → (new all : List Place) → all ≡ new
    → ArePlaces policy (map place_word_value there) new → ArePlaces policy (map place_word_value words) all
found_places policy words there same new all is are =
    subst (λ ws. ArePlaces policy (map place_word_value ws) all) same (subst (λ ps. ArePlaces policy (map place_word_value there) ps) (sym is) are)

-- why the places of words are not found
pub misses_place : (policy : Policy) (words : List PlaceWord) (r : Result Unit Stop) → (r ≡ Err stop.UnknownAsset → LacksPlace policy words)
    → (s : Stop) → r ≡ Err s → (s ≡ stop.UnknownAsset) ⊎ (s ≡ stop.NoMemory) → MissesSites policy words (unserved.Stopped s)
misses_place policy words r lacks s is (inl unknown) =
    subst (λ (t : Stop). MissesSites policy words (unserved.Stopped t)) (sym unknown) (lacks (is ∙ ap Err unknown))
misses_place policy words r lacks s is (inr memory) = subst (λ (t : Stop). MissesSites policy words (unserved.Stopped t)) (sym memory) tt

pub misses_by : (policy : Policy) (words there : List PlaceFields) → there ≡ words → (u : Unserved) → MissesSites policy (map place_word_value there) u
    → MissesSites policy (map place_word_value words) u
misses_by policy words there same u h = subst (λ ws. MissesSites policy (map place_word_value ws) u) same h

-- what the exit of a `?` returns
pub handed_on : (r : Result Unit Unserved) (u : Unserved) (P : Unserved → Type 0) → IsErrAnd r (λ x. x ≡ u) → P u → IfErr r P
handed_on (Ok x) u P is p = tt
handed_on (Err x) u P is p = subst P (sym is) p

-- ---- two places of one site

-- the first is of the site of a later one
pub shares_here : (places rest : List Place) (place : Place) → places ≡ place ∷ rest → true ≡ list_any (λ other. is_same_site place other) rest
    → true ≡ shares_site places
shares_here places rest place is same = ap (λ b. b || shares_site rest) same ∙ ap shares_site (sym is)

-- one that is not leaves the question to the others
pub shares_later : (places rest : List Place) (place : Place) → places ≡ place ∷ rest → false ≡ list_any (λ other. is_same_site place other) rest
    → shares_site rest ≡ shares_site places
shares_later places rest place is other = ap (λ b. b || shares_site rest) other ∙ ap shares_site (sym is)

-- whether two are, by the places as they are looked at
pub shares_by : (places there : List Place) (b : Bool) → there ≡ places → b ≡ shares_site there → shares_site places ≡ b
shares_by places there b same is = ap shares_site (sym same) ∙ sym is

map_count : (words : List PlaceFields) → length (map place_word_value words) ≡ length words
map_count [] = refl
map_count (word ∷ words) = ap suc (map_count words)

pub few_places : (policy : Policy) (words : List PlaceFields) (all : List Place) → length words ≤ 256 → ArePlaces policy (map place_word_value words) all
    → length all ≤ 256
few_places policy words all few are =
    subst (λ n. n ≤ 256) (sym (places_count policy (map place_word_value words) all are ∙ map_count words)) few

module _ (w : ServiceWords) (told told' : Option (List LinksEntry)) (waits waits' : ℕ) where
  -- how a service stops by its fault
  pub stops_of : (before after : FilesValue) (policy : Policy) (places : List Place) → HasPolicy (before.content w.policy) policy
      → takes_endpoint policy w.places ≡ false
      → ArePlaces policy w.places places → shares_site places ≡ false → (f : ServeFault) → (r : Result Unit ServeFault) → r ≡ Err f
      → IfWhole r (Serves places (2 * w.seconds) (HasMade r) told told' (file_lines (content_gone_on (before.content w.log))) (file_lines (after.content w.log)))
      → (r ≡ Err fault.Write → BreaksLog places (2 * w.seconds) told told' (before.content w.log) (after.content w.log))
      → HasCause before.write_faults after.write_faults (r ≡ Err fault.Write) → FaultsBy waits waits' (r ≡ Err fault.Loop)
      → (r ≡ Err fault.NoMemory → (told' ≡ told) × (after.content w.log ≡ content_gone_on (before.content w.log)))
      → StopsService w before after told told' waits waits' (service_stop f)
  stops_of before after policy places has apart found sites fault.Write r is serves breaks cause loops memory =
      (record { policy = policy; has = has; apart = apart; places = places; found = found; sites = sites; breaks = breaks is }, cause.rose is)
  stops_of before after policy places has apart found sites fault.Loop r is serves breaks cause loops memory = (
    record {
      policy = policy;
      has = has;
      apart = apart;
      places = places;
      found = found;
      sites = sites;
      serves = subst (λ q. IfWhole q (Serves places (2 * w.seconds) (HasMade q) told told' (file_lines (content_gone_on (before.content w.log))) (file_lines (after.content w.log)))) is serves;
    },
    loops.rose is,
  )
  stops_of before after policy places has apart found sites fault.NoMemory r is serves breaks cause loops memory = let m = memory is in record { log = inr m.1; same = m.0 }

  -- why it is not begun, before anything changed
  pub misses_so : (files : FilesValue) (policy : Policy) → HasPolicy (files.content w.policy) policy → takes_endpoint policy w.places ≡ false → (u : Unserved)
      → MissesSites policy w.places u → EndsService w files files told told waits waits u
  misses_so files policy has apart unserved.OwnEndpoint h = absurd h
  misses_so files policy has apart unserved.SharedSite h = (
    record { policy = policy; has = has; apart = apart; places = h.0; found = h.1; shares = h.2 },
    record { content = refl; same = refl },
  )
  misses_so files policy has apart (unserved.Stopped stop.UnknownAsset) h = (
    record { policy = policy; has = has; apart = apart; lacks = h },
    record { content = refl; same = refl },
  )
  misses_so files policy has apart (unserved.Stopped stop.NoMemory) h = record { log = inl refl; same = refl }
  misses_so files policy has apart (unserved.Stopped s) h = absurd h

  module _ (old middle after : FilesValue) (only : ReadsOnly (w.policy ∷ []) old middle) where
    -- what was served after a file was read
    served_after : (Made : ℕ → Type 0) → HasServed w middle after told told' waits waits' Made → HasServed w old after told told' waits waits' Made
    served_after Made h = record {
      policy = h.policy;
      has = subst (λ content. HasPolicy (content w.policy) h.policy) only.content h.has;
      apart = h.apart;
      places = h.places;
      found = h.found;
      sites = h.sites;
      serves = subst (λ content. Serves h.places (2 * w.seconds) Made told told' (file_lines (content_gone_on (content w.log))) (file_lines (after.content w.log))) only.content h.serves;
    }

    broken_after : HasBroken w middle after told told' waits waits' → HasBroken w old after told told' waits waits'
    broken_after h = record {
      policy = h.policy;
      has = subst (λ content. HasPolicy (content w.policy) h.policy) only.content h.has;
      apart = h.apart;
      places = h.places;
      found = h.found;
      sites = h.sites;
      breaks = subst (λ content. BreaksLog h.places (2 * w.seconds) told told' (content w.log) (after.content w.log)) only.content h.breaks;
    }

    stops_after : (s : Stop) → StopsService w middle after told told' waits waits' s → StopsService w old after told told' waits waits' s
    stops_after stop.ReadFault h =
        (since_read old middle after only w.policy h.0, record { content = h.1.content ∙ only.content; same = h.1.same })
    stops_after (stop.PolicyRefused r) h =
        (subst (λ content. IsRefusedBy (content w.policy) r) only.content h.0, record { content = h.1.content ∙ only.content; same = h.1.same })
    stops_after stop.UnknownAsset h = (
      record { policy = h.0.policy; has = subst (λ content. HasPolicy (content w.policy) h.0.policy) only.content h.0.has; apart = h.0.apart; lacks = h.0.lacks },
      record { content = h.1.content ∙ only.content; same = h.1.same },
    )
    stops_after stop.WriteFault h = (broken_after h.0, subst (λ n. Rose n after.write_faults) only.writes h.1)
    stops_after stop.LinkFault h = (served_after (λ made. made < 2 ^ 64 - 1) h.0, h.1)
    stops_after stop.NoMemory h = record {
      log = subst (λ content. (after.content w.log ≡ content w.log) ⊎ (after.content w.log ≡ content_gone_on (content w.log))) only.content h.log;
      same = h.same;
    }
    stops_after s h = absurd h

    ends_after : (u : Unserved) → EndsService w middle after told told' waits waits' u → EndsService w old after told told' waits waits' u
    ends_after unserved.OwnEndpoint h = (
      record { policy = h.0.policy; has = subst (λ content. HasPolicy (content w.policy) h.0.policy) only.content h.0.has; takes = h.0.takes },
      record { content = h.1.content ∙ only.content; same = h.1.same },
    )
    ends_after unserved.SharedSite h = (
      record {
        policy = h.0.policy;
        has = subst (λ content. HasPolicy (content w.policy) h.0.policy) only.content h.0.has;
        apart = h.0.apart;
        places = h.0.places;
        found = h.0.found;
        shares = h.0.shares;
      },
      record { content = h.1.content ∙ only.content; same = h.1.same },
    )
    ends_after (unserved.Stopped s) h = stops_after s h

    pub all_served : (Made : ℕ → Type 0) (r : Result Unit Unserved) → OnOk r (HasServed w middle after told told' waits waits' Made) → OnOk r (HasServed w old after told told' waits waits' Made)
    all_served Made (Ok done) h = served_after Made h
    all_served Made (Err s) h = h

    pub all_stopped : (r : Result Unit Unserved) → IfErr r (λ u. EndsService w middle after told told' waits waits' u)
        → IfErr r (λ u. EndsService w old after told told' waits waits' u)
    all_stopped (Ok done) h = h
    all_stopped (Err u) h = ends_after u h

-- whether a place is an endpoint, by the words as they are kept
pub takes_by : (policy : Policy) (words there : List PlaceFields) (b : Bool) → there ≡ words → b ≡ list_any (λ word. has_asset_at policy.assets (place_word_value word).at) there
    → takes_endpoint policy (map place_word_value words) ≡ b
takes_by policy words there b same is =
    of_all words ∙ ap (λ (ws : List PlaceFields). list_any (λ word. has_asset_at policy.assets (place_word_value word).at) ws) (sym same) ∙ sym is where
      of_all : (ws : List PlaceFields) → takes_endpoint policy (map place_word_value ws) ≡ list_any (λ word. has_asset_at policy.assets (place_word_value word).at) ws
      of_all [] = refl
      of_all (x ∷ ws) = ap (λ (b : Bool). has_asset_at policy.assets (place_word_value x).at || b) (of_all ws)

-- a policy that was not read stops the service
module _ (w : ServiceWords) (told : Option (List LinksEntry)) (waits : ℕ) (before after : FilesValue) (sink : SinkValue) (pair : PairValue)
    (only : ReadsOnly (w.policy ∷ []) before after) where
  nothing : NothingServed w before after told told waits waits
  nothing = record { content = only.content; same = refl }

  refused : (r : PolicyRefusal) → RefusesPolicy (Check w.policy) (outside before sink pair) r → IsRefusedBy (before.content w.policy) r
  refused r (inl (file, is, h)) = subst (λ name. IsRefusedBy (before.content name) r) (sym (same_Some _ _ is)) h
  refused r (inr (inl (file, first, is, first_is, policy))) = absurd (no_other file is) where
    no_other : (file : List ℕ) → None ≡ Some file → ⊥
    no_other file e = cc
  refused r (inr (inr made)) = absurd made

  pub policy_stops : (s : Stop) → StopsPolicy s → StopsFor (Check w.policy) (outside before sink pair) (outside after sink pair) s
      → StopsService w before after told told waits waits s
  policy_stops stop.ReadFault early (inl rose) = (rose, nothing)
  policy_stops stop.ReadFault early (inr never) = absurd never
  policy_stops (stop.PolicyRefused r) early h = (refused r h, nothing)
  policy_stops stop.NoMemory early h = record { log = inl (ap (λ content. content w.log) only.content); same = refl }
  policy_stops s early h = absurd early
