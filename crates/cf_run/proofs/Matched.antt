-- What a packet is to the sessions in memory is what it is to those of the table.
use Rattle.std.proofs.Common.{◌≡◌, ℕ, zero, suc, ◌+◌, ◌<◌, ◌&&◌, nat_lt, inl, inr, Bool, true, false, List, [], ◌∷◌, length, cond, if◌then◌else◌, Option, option_and_then, option_map, Some, None, refl, sym, ap, ◌∙◌, subst, arith}
use Rattle.std.specs.Prelude.{find, position, slice_get}
use Rattle.std.specs.List.{position_or_len, remove, take_while}
use Rattle.std.specs.Option.{is_some}
use Rattle.std.proofs.lemmas.List.Edits.{length-remove}
use Rattle.std.proofs.lemmas.Bool.{and_right, cases_Bool, or_parts}
use Rattle.std.proofs.lemmas.Bool.Decides.{nat_tests}
use Rattle.cf_policy.specs.AtEndpoint.{asset_at, asset_place, has_asset_at}
use Rattle.cf_packet.specs.Packet.{PacketValue}
use Rattle.cf_policy.specs.Site.{SiteValue, site_at, site_from}
use Rattle.cf_policy.specs.declared.Asset.{Asset}
use Rattle.cf_session.specs.Session.{Flow, SessionEvent, client_of, was_closed}
use Rattle.cf_view.specs.declared.Endpoint.{Endpoint}
use Rattle.cf_run.proofs.Sites.{first_at}
use Rattle.cf_run.specs.Engine.{AreAll, IsOneWith}
use Rattle.cf_run.specs.Entries.{goes_in_client, begins_at, begins_in, entry_between, entry_match, goes_in, is_at, is_closed_in, others, place_in}
use Rattle.cf_run.specs.Receiving.{may_begin_one}
use Rattle.cf_run.specs.Table.{Begins, Full, Goes, Match, Outside, Session, begins, begins_or_full, goes, goes_from_client, is_between, is_closed_at, match_of, may_begin, place_of, table_size, without}
use Rattle.cf_view.specs.Endpoints.{same_endpoint}
use Rattle.cf_run.specs.declared.entry.Entry.{Entry}
use Rattle.cf_run.specs.declared.matching.Match.{Match as EntryMatch}
use Rattle.cf_run.specs.declared.matching.Match.TheVariants as match

-- two lists of which each element passes as the one at its place does
abbrev Alike : {A B : Type 0} → (A → Bool) → (B → Bool) → List A → List B → Type 0
Alike p q [] [] = Unit {0}
Alike p q [] (y ∷ ys) = ⊥
Alike p q (x ∷ xs) [] = ⊥
Alike p q (x ∷ xs) (y ∷ ys) = (p x ≡ q y) × Alike p q xs ys

between_with : (assets : List Asset) (last : ℕ) (client endpoint : Endpoint) (x : Entry) (flow : Flow) (events : List SessionEvent) → IsOneWith assets last x flow events →
    entry_between assets client endpoint x ≡ is_between client endpoint (record { flow = flow; events = events })
between_with assets last client endpoint x flow [] one = absurd one
between_with assets last client endpoint x flow (event ∷ earlier) one =
    ap (λ c. same_endpoint c client && is_at endpoint (slice_get assets x.asset)) one.stands.source
    ∙ ap (λ a. same_endpoint (client_of flow) client && is_at endpoint a) (first_at assets x.asset flow.site one.site)

are_alike : (assets : List Asset) (last : ℕ) (client endpoint : Endpoint) (xs : List Entry) (ss : List Session) → AreAll assets last xs ss →
    Alike (entry_between assets client endpoint) (is_between client endpoint) xs ss
are_alike assets last client endpoint [] [] all = tt
are_alike assets last client endpoint (x ∷ xs) (s ∷ ss) all =
    (between_with assets last client endpoint x s.flow s.events all.0, are_alike assets last client endpoint xs ss all.1)
are_alike assets last client endpoint xs ss all = absurd all

alike_length : {A B : Type 0} (p : A → Bool) (q : B → Bool) (xs : List A) (ys : List B) → Alike p q xs ys → length xs ≡ length ys
alike_length p q [] [] h = refl
alike_length p q (x ∷ xs) (y ∷ ys) h = ap suc (alike_length p q xs ys h.1)
alike_length p q xs ys h = absurd h

prefix_by : {A : Type 0} (p : A → Bool) (x : A) (xs : List A) (b : Bool) → p x ≡ b → position_or_len p (x ∷ xs) ≡ cond b 0 (1 + position_or_len p xs)
prefix_by p x xs true e = rw e refl
prefix_by p x xs false e = rw e refl

alike_first : {A B : Type 0} (p : A → Bool) (q : B → Bool) (xs : List A) (ys : List B) → Alike p q xs ys → position_or_len p xs ≡ position_or_len q ys
alike_first p q [] [] h = refl
alike_first p q (x ∷ xs) (y ∷ ys) h =
    prefix_by p x xs (p x) refl ∙ ap (λ b. cond b 0 (1 + position_or_len p xs)) h.0 ∙ ap (λ n. cond (q y) 0 (1 + n)) (alike_first p q xs ys h.1) ∙ sym (prefix_by q y ys (q y) refl)
alike_first p q xs ys h = absurd h

alike_position : {A B : Type 0} (p : A → Bool) (q : B → Bool) (xs : List A) (ys : List B) → Alike p q xs ys → position p xs ≡ position q ys
alike_position p q xs ys h = rw (alike_first p q xs ys h, alike_length p q xs ys h) refl

pub same_place : (assets : List Asset) (last : ℕ) (client endpoint : Endpoint) (xs : List Entry) (ss : List Session) → AreAll assets last xs ss →
    place_in assets client endpoint xs ≡ place_of client endpoint ss
same_place assets last client endpoint xs ss all =
    alike_position (entry_between assets client endpoint) (is_between client endpoint) xs ss (are_alike assets last client endpoint xs ss all)

closed_with : (assets : List Asset) (last : ℕ) (x : Entry) (flow : Flow) (events : List SessionEvent) → IsOneWith assets last x flow events →
    is_some x.session.closed ≡ was_closed flow events
closed_with assets last x flow [] one = absurd one
closed_with assets last x flow (event ∷ earlier) one = ap is_some one.stands.closed

closed_at_place : (assets : List Asset) (last : ℕ) (xs : List Entry) (ss : List Session) (i : ℕ) → AreAll assets last xs ss →
    is_closed_in xs (Some i) ≡ is_closed_at ss (Some i)
closed_at_place assets last [] [] i all = refl
closed_at_place assets last (x ∷ xs) (s ∷ ss) zero all = closed_with assets last x s.flow s.events all.0
closed_at_place assets last (x ∷ xs) (s ∷ ss) (suc i) all = closed_at_place assets last xs ss i all.1
closed_at_place assets last xs ss i all = absurd all

same_closed : (assets : List Asset) (last : ℕ) (xs : List Entry) (ss : List Session) (o : Option ℕ) → AreAll assets last xs ss → is_closed_in xs o ≡ is_closed_at ss o
same_closed assets last xs ss None all = refl
same_closed assets last xs ss (Some i) all = closed_at_place assets last xs ss i all

-- what the code has of a match, and what the table has
abbrev pub IsMatch : List Asset → List Session → PacketValue → EntryMatch → Match → Type 0
IsMatch assets table packet (match.Begins place closed) m =
    (flow : Flow) × (m ≡ Begins flow) × (site_from assets place ≡ Some flow.site) × (flow.syn ≡ packet)
    × (closed ≡ place_of (client_of flow) flow.site.first.endpoint table)
IsMatch assets table packet match.Full m = m ≡ Full
IsMatch assets table packet (match.Goes place from) m = m ≡ Goes place from
IsMatch assets table packet match.Outside m = m ≡ Outside

-- the site at an endpoint, and the place of its first asset
data Found (assets : List Asset) (endpoint : Endpoint) : Type 0 where
  none : asset_place assets endpoint ≡ None → asset_at assets endpoint ≡ None → Found assets endpoint
  some : (place : ℕ) (site : SiteValue) → asset_place assets endpoint ≡ Some place → asset_at assets endpoint ≡ Some site.first → site_from assets place ≡ Some site →
      same_endpoint site.first.endpoint endpoint ≡ true → Found assets endpoint

pub place_by : {A : Type 0} (p : A → Bool) (x : A) (xs : List A) (b : Bool) → p x ≡ b → position p (x ∷ xs) ≡ cond b (Some 0) (option_map suc (position p xs))
place_by p x xs true e =
    let inside : nat_lt 0 (length (x ∷ xs)) ≡ true = grind (arith, nat_tests) in
    rw (prefix_by p x xs true e, inside) refl
place_by p x xs false e =
    let n = position_or_len p xs in
    let one_more : 1 + n ≡ suc n = omega arith in
    elim (cases_Bool (nat_lt n (length xs))) [
      | inl here ↦
          let inside : nat_lt (1 + n) (length (x ∷ xs)) ≡ true = grind (arith, nat_tests, here) in
          rw (prefix_by p x xs false e, inside, here) (ap Some one_more)
      | inr gone ↦
          let past : nat_lt (1 + n) (length (x ∷ xs)) ≡ false = grind (arith, nat_tests, gone) in
          rw (prefix_by p x xs false e, past, gone) refl
    ]

-- where no asset stands at an endpoint, that of no place does
none_is_at : (assets : List Asset) (endpoint : Endpoint) (place : ℕ) → has_asset_at assets endpoint ≡ false → is_at endpoint (slice_get assets place) ≡ false
none_is_at [] endpoint place free = refl
none_is_at (a ∷ assets) endpoint zero free = (or_parts (same_endpoint a.endpoint endpoint) (has_asset_at assets endpoint) free).0
none_is_at (a ∷ assets) endpoint (suc place) free = none_is_at assets endpoint place (or_parts (same_endpoint a.endpoint endpoint) (has_asset_at assets endpoint) free).1

-- and no session is with it
pub place_in_none : (assets : List Asset) (client endpoint : Endpoint) (table : List Entry) → has_asset_at assets endpoint ≡ false → place_in assets client endpoint table ≡ None
place_in_none assets client endpoint [] free = refl
place_in_none assets client endpoint (x ∷ table) free =
    place_by (entry_between assets client endpoint) x table false
    (and_right (same_endpoint x.session.source client) (is_at endpoint (slice_get assets x.asset)) (none_is_at assets endpoint x.asset free))
    ∙ ap (option_map suc) (place_in_none assets client endpoint table free)

position_inside : {A : Type 0} (p : A → Bool) (xs : List A) (i : ℕ) → position p xs ≡ Some i → i < length xs
position_inside p xs i e =
    elim (cases_Bool (nat_lt (position_or_len p xs) (length xs))) [
      | inl here ↦ let f : Some (position_or_len p xs) ≡ Some i = rw here at e in let same : position_or_len p xs ≡ i = cc in grind (arith, nat_tests, here, same)
      | inr gone ↦ let f : None ≡ Some i = rw gone at e in cc
    ]

find_by : (p : Asset → Bool) (x : Asset) (xs : List Asset) (b : Bool) → p x ≡ b → find p (x ∷ xs) ≡ cond b (Some x) (find p xs)
find_by p x xs b e = ap (λ c. cond c (Some x) (find p xs)) e

found_more : (a : Asset) (later : List Asset) (endpoint : Endpoint) (b : Bool) → same_endpoint a.endpoint endpoint ≡ b → Found later endpoint → Found (a ∷ later) endpoint
found_more a later endpoint true e f =
    some 0 (record { first = a; others = take_while (λ (x : Asset). same_endpoint x.endpoint a.endpoint) later }) (place_by (λ x. same_endpoint x.endpoint endpoint) a later true e) (find_by (λ x. same_endpoint x.endpoint endpoint) a later true e) refl e
found_more a later endpoint false e (none p q) =
    none (place_by (λ x. same_endpoint x.endpoint endpoint) a later false e ∙ ap (option_map suc) p) (find_by (λ x. same_endpoint x.endpoint endpoint) a later false e ∙ q)
found_more a later endpoint false e (some place site p q r s) =
    some (suc place) site (place_by (λ x. same_endpoint x.endpoint endpoint) a later false e ∙ ap (option_map suc) p) (find_by (λ x. same_endpoint x.endpoint endpoint) a later false e ∙ q) r s

found : (assets : List Asset) (endpoint : Endpoint) → Found assets endpoint
found [] endpoint = none refl refl
found (a ∷ later) endpoint = found_more a later endpoint (same_endpoint a.endpoint endpoint) refl (found later endpoint)

-- two endpoints that test as the same are the same
pub same_is : (a b : Endpoint) → same_endpoint a b ≡ true → a ≡ b
same_is a b e =
    let p : a.address ≡ b.address = grind (arith, nat_tests, e) in
    let q : a.port ≡ b.port = grind (arith, nat_tests, e) in
    ap (λ x. let r : Endpoint = record { address = x; port = a.port } in r) p ∙ ap (λ y. let r : Endpoint = record { address = b.address; port = y } in r) q

abbrev without_by : List Session → Option ℕ → ℕ
without_by ss None = length ss
without_by ss (Some place) = length (remove ss place)

without_is : (ss : List Session) (o : Option ℕ) → length {A = Session} (elim o [ Some place ↦ remove ss place | None ↦ ss ]) ≡ without_by ss o
without_is ss None = refl
without_is ss (Some place) = refl

-- a packet that begins a session may, and goes to a site
never_begins : (o p : Option ℕ) (place : ℕ) (closed : Option ℕ) → goes_in_client o p ≡ match.Begins place closed → ⊥
never_begins (Some i) p place closed e = cc
never_begins None (Some i) place closed e = cc
never_begins None None place closed e = cc

begins_found : (assets : List Asset) (xs : List Entry) (packet : PacketValue) (place : ℕ) (closed : Option ℕ) → Found assets packet.dest →
    begins_at assets xs packet (asset_place assets packet.dest) ≡ match.Begins place closed → is_some (asset_at assets packet.dest) ≡ true
begins_found assets xs packet place closed (none p q) e = absurd (never_begins _ _ place closed (ap (begins_at assets xs packet) (sym p) ∙ e))
begins_found assets xs packet place closed (some at site p q r s) e = ap is_some q

begins_by : (assets : List Asset) (xs : List Entry) (packet : PacketValue) (place : ℕ) (closed : Option ℕ) (b : Bool) →
    (if b then begins_at assets xs packet (asset_place assets packet.dest) else goes_in assets xs packet) ≡ match.Begins place closed → (b && is_some (asset_at assets packet.dest)) ≡ true
begins_by assets xs packet place closed true e = begins_found assets xs packet place closed (found assets packet.dest) e
begins_by assets xs packet place closed false e = absurd (never_begins _ _ place closed e)

pub begins_means : (assets : List Asset) (xs : List Entry) (packet : PacketValue) (place : ℕ) (closed : Option ℕ) → entry_match assets xs packet ≡ match.Begins place closed →
    may_begin_one assets packet ≡ true
begins_means assets xs packet place closed e = begins_by assets xs packet place closed (may_begin assets packet) e

module _ (assets : List Asset) (last : ℕ) (xs : List Entry) (ss : List Session) (packet : PacketValue) (all : AreAll assets last xs ss) where
  same_goes : (o p : Option ℕ) → IsMatch assets ss packet (goes_in_client o p) (goes_from_client o p)
  same_goes (Some place) p = refl
  same_goes None (Some place) = refl
  same_goes None None = refl

  goes_match : IsMatch assets ss packet (goes_in assets xs packet) (goes ss packet)
  goes_match =
      rw (same_place assets last packet.source packet.dest xs ss all, same_place assets last packet.dest packet.source xs ss all)
      (same_goes (place_of packet.source packet.dest ss) (place_of packet.dest packet.source ss))

  all_length : length xs ≡ length ss
  all_length = alike_length (entry_between assets packet.source packet.dest) (is_between packet.source packet.dest) xs ss (are_alike assets last packet.source packet.dest xs ss all)

  without_length : (o : Option ℕ) (endpoint : Endpoint) → place_of packet.source endpoint ss ≡ o → length (without packet.source endpoint ss) ≡ others (length ss) o
  without_length None endpoint e = without_is ss (place_of packet.source endpoint ss) ∙ ap (without_by ss) e
  without_length (Some place) endpoint e =
      let inside : place < length ss = position_inside (is_between packet.source endpoint) ss place e in
      without_is ss (place_of packet.source endpoint ss) ∙ ap (without_by ss) e ∙ omega (arith, length-remove ss place inside)

  by_room : (place : ℕ) (flow : Flow) (o : Option ℕ) (b : Bool) → site_from assets place ≡ Some flow.site → o ≡ place_of (client_of flow) flow.site.first.endpoint ss →
      IsMatch assets ss flow.syn (if b then match.Begins place o else match.Full) (if b then Begins flow else Full)
  by_room place flow o true at is = (flow, refl, at, refl, is)
  by_room place flow o false at is = refl

  begin_match : (place : ℕ) (site : SiteValue) → site_from assets place ≡ Some site → same_endpoint site.first.endpoint packet.dest ≡ true → (o : Option ℕ) → o ≡ place_of packet.source packet.dest ss →
      IsMatch assets ss packet (begins_in (length xs) place o) (begins_or_full ss (record { site = site; syn = packet }))
  begin_match place site at same o is =
      let flow : Flow = record { site = site; syn = packet } in
      let there : o ≡ place_of packet.source site.first.endpoint ss = is ∙ ap (λ e. place_of packet.source e ss) (sym (same_is site.first.endpoint packet.dest same)) in
      let size : others (length xs) o ≡ length (without packet.source site.first.endpoint ss) =
      ap (λ n. others n o) all_length ∙ sym (without_length o site.first.endpoint (sym there)) in
      rw (← size) (by_room place flow o (nat_lt (others (length xs) o) table_size) at there)

  closed_by : (place : ℕ) (site : SiteValue) → site_from assets place ≡ Some site → same_endpoint site.first.endpoint packet.dest ≡ true → (b : Bool) →
      IsMatch assets ss packet (if b then begins_in (length xs) place (place_of packet.source packet.dest ss) else goes_in assets xs packet)
      (if b then begins_or_full ss (record { site = site; syn = packet }) else goes ss packet)
  closed_by place site at same true = begin_match place site at same (place_of packet.source packet.dest ss) refl
  closed_by place site at same false = goes_match

  closed_or_goes : (place : ℕ) (site : SiteValue) → site_from assets place ≡ Some site → same_endpoint site.first.endpoint packet.dest ≡ true →
      IsMatch assets ss packet (begins_at assets xs packet (Some place)) (begins ss packet (Some site))
  closed_or_goes place site at same =
      let o = place_of packet.source packet.dest ss in
      let P : Option ℕ → Type 0 = λ z. IsMatch assets ss packet (if is_closed_in xs z then begins_in (length xs) place z else goes_in assets xs packet) (begins ss packet (Some site)) in
      let Q : Bool → Type 0 = λ b. IsMatch assets ss packet (if b then begins_in (length xs) place o else goes_in assets xs packet) (begins ss packet (Some site)) in
      subst P (sym (same_place assets last packet.source packet.dest xs ss all))
      (subst Q (sym (same_closed assets last xs ss o all)) (closed_by place site at same (is_closed_at ss o)))

  begins_match : Found assets packet.dest → IsMatch assets ss packet (begins_at assets xs packet (asset_place assets packet.dest)) (begins ss packet (site_at assets packet.dest))
  begins_match (none p q) =
      subst (λ (o : Option ℕ). IsMatch assets ss packet (begins_at assets xs packet o) (begins ss packet (option_and_then (site_from assets) o))) (sym p) goes_match
  begins_match (some place site p q at same) =
      subst (λ (o : Option ℕ). IsMatch assets ss packet (begins_at assets xs packet o) (begins ss packet (option_and_then (site_from assets) o))) (sym p)
      (subst (λ (o : Option SiteValue). IsMatch assets ss packet (begins_at assets xs packet (Some place)) (begins ss packet o)) (sym at) (closed_or_goes place site at same))

  by_beginning : (b : Bool) → IsMatch assets ss packet (if b then begins_at assets xs packet (asset_place assets packet.dest) else goes_in assets xs packet)
      (if b then begins ss packet (site_at assets packet.dest) else goes ss packet)
  by_beginning true = begins_match (found assets packet.dest)
  by_beginning false = goes_match

  -- what a packet is to those in memory it is to the table
  pub there : (m : EntryMatch) → entry_match assets xs packet ≡ m → IsMatch assets ss packet m (match_of assets ss packet)
  there m e = subst (λ x. IsMatch assets ss packet x (match_of assets ss packet)) e (by_beginning (may_begin assets packet))
