-- The flows of a review that begin with a SYN, as records come.
use Rattle.std.proofs.Common.{◌≡◌, ◌∙◌, ◌++◌, ◌∷◌, [], ◌+◌, ◌==◌, ◌&&◌, ◌||◌, ℕ, zero, suc, Bool, true, false, not, if◌then◌else◌, cond, List, length, set, slice_get, Option, Some, None, Result, Ok, Err, unwrap_or, refl, sym, ap, subst, arith}
use Rattle.std.specs.List.{AllByRecursion, filter}
use Rattle.std.specs.Prelude.{nat_le}
use Rattle.std.proofs.Math.Bool.{and-true}
use Rattle.std.proofs.Math.Dec.{leb-zero}
use Rattle.std.proofs.Math.IntN.{+ℤ_idr}
use Rattle.std.proofs.lemmas.Bool.{and_parts, cond-false, cond-true, cond_both, false≢true, or_left}
use Rattle.std.proofs.lemmas.Bool.Decides.{nat_tests}
use Rattle.std.proofs.lemmas.List.Elements.{filter-append}
use Rattle.std.proofs.lemmas.Option.{none-some}
use Rattle.cf_leg.specs.Segment.{has_ack, has_fin, has_rst, has_syn, is_opening}
use Rattle.cf_packet.specs.Packet.{PacketValue, read_record}
use Rattle.cf_packet.specs.declared.PacketRefusal.{PacketRefusal}
use Rattle.cf_policy.specs.declared.Asset.{Asset}
use Rattle.cf_records.specs.Capture.{Record}
use Rattle.cf_policy.specs.AtEndpoint.{asset_place}
use Rattle.cf_view.specs.Endpoints.{same_endpoint}
use Rattle.cf_view.specs.declared.Endpoint.{Endpoint}
use Rattle.cf_watch.specs.Carried.{Carried, top_of}
use Rattle.cf_watch.specs.Seen.{begins_amid, begun_with, far, goes_from, goes_in, goes_to_asset, near, opening_amid, opening_by, packet_by, seen_by, with_frame, with_packet_by, without_first}
use Rattle.cf_watch.specs.Watched.{Watched, begins_anew, begun_by, carried_by, goes, goes_at, goes_to, is_between, last_place, later_place, watched, with_packet, with_record}
use Rattle.cf_watch.specs.declared.Scope.TheVariants as scope
use Rattle.cf_review.proofs.Alls.{all_append, all_before, all_behind, all_front, all_get, all_here, all_set}
use Rattle.cf_review.specs.SynFlows.{IsNear, IsReadAlike, SynFlowsAreWatched, begins_with_syn}

-- ---- lists

abbrev syn_flows : List Watched → List Watched
syn_flows ws = filter begins_with_syn ws

if_behind : (b : Bool) (w : Watched) (xs ys : List Watched) → (if b then w ∷ xs else w ∷ ys) ≡ w ∷ (if b then xs else ys)
if_behind true w xs ys = refl
if_behind false w xs ys = refl

kept : (b : Bool) (w : Watched) (xs : List Watched) → b ≡ true → cond b (w ∷ xs) xs ≡ w ∷ xs
kept b w xs = cond-true b (w ∷ xs) xs

dropped : (b : Bool) (w : Watched) (xs : List Watched) → b ≡ false → cond b (w ∷ xs) xs ≡ xs
dropped b w xs = cond-false b (w ∷ xs) xs

kept_if : (b : Bool) (xs ys : List Watched) → syn_flows (if b then xs else ys) ≡ (if b then syn_flows xs else syn_flows ys)
kept_if true xs ys = refl
kept_if false xs ys = refl

-- ---- a flow that begins amid its stream is the first of its client and asset, and counts as answered

abbrev IsBefore : Watched → List Watched → Type 0
IsBefore w ws = (client : Endpoint) (asset : ℕ) → is_between client asset w ≡ true → AllByRecursion (λ v. begins_with_syn v ≡ false → is_between client asset v ≡ false) ws

abbrev AreFirst : List Watched → Type 0
AreFirst [] = Unit {0}
AreFirst (w ∷ ws) = (begins_with_syn w ≡ false → w.answered ≡ true) × IsBefore w ws × AreFirst ws

abbrev IsApart : (x w : Watched) → Type 0
IsApart x w = (client : Endpoint) (asset : ℕ) → is_between client asset w ≡ true → begins_with_syn x ≡ false → is_between client asset x ≡ false

first_append : (ws : List Watched) (x : Watched) → AreFirst ws → (begins_with_syn x ≡ false → x.answered ≡ true) → AllByRecursion (IsApart x) ws → AreFirst (ws ++ x ∷ [])
first_append [] x f h a = (h, (λ client asset e. tt), tt)
first_append (w ∷ ws) x f h a =
    (f.0, (λ client asset e. all_append (λ v. begins_with_syn v ≡ false → is_between client asset v ≡ false) ws (x ∷ []) (f.1 client asset e) (a.0 client asset e, tt)), first_append ws x f.2 h a.1)

module _ (number : ℕ) (p : PacketValue) where
  first_set : (ws : List Watched) (i : ℕ) (x : Watched) → slice_get ws i ≡ Some x → AreFirst ws → AreFirst (set ws i (with_packet_by scope.Recording number p x))
  first_set [] i x e f = tt
  first_set (w ∷ ws) zero x e f =
      let same : w ≡ x = ap (λ o. unwrap_or o w) e in
      subst (λ y. AreFirst (with_packet_by scope.Recording number p y ∷ ws)) same ((λ s. or_left w.answered (has_ack p) (f.0 s)), f.1, f.2)
  first_set (w ∷ ws) (suc i) x e f = (
    f.0,
    (λ client asset b.
        let P : Watched → Type 0 = λ v. begins_with_syn v ≡ false → is_between client asset v ≡ false in
        let all = f.1 client asset b in
        all_set P ws i (with_packet_by scope.Recording number p x) all (all_get P ws i x all e)),
    first_set ws i x e f.2,
  )

-- ---- one packet to an asset

number_is : (a b : ℕ) → (a == b) ≡ true → a ≡ b
number_is a b e = grind (arith, nat_tests, e)

-- a packet that begins a flow amid its stream is no SYN
no_syn : (s r x t : Bool) → (not (s || r) && t) ≡ true → (s && x) ≡ false
no_syn true r x t e = absurd (false≢true e)
no_syn false r x t e = refl

-- where a flow counts as answered, each SYN begins another
always_anew : (o s a : Bool) → a ≡ true → (o && not (s && not a)) ≡ o
always_anew true true true e = refl
always_anew true false true e = refl
always_anew false s true e = refl
always_anew o s false e = absurd (false≢true e)

module _ (number asset : ℕ) (p : PacketValue) where
  abbrev Mine : Watched → Bool
  Mine f = is_between p.source asset f

  abbrev new : Watched
  new = begun_with scope.Recording (opening_by p) number asset p

  abbrev amid : Watched
  amid = begun_with scope.Recording (opening_amid number p) number asset p

  abbrev last : List Watched → Option ℕ
  last ws = last_place p.source asset ws

  -- so a packet goes where no flow begins amid its stream
  abbrev go_at : Option ℕ → List Watched → List Watched
  go_at None ws = if is_opening p then ws ++ new ∷ [] else ws
  go_at (Some place) ws = goes_in scope.Recording number asset place p (slice_get ws place) ws

  abbrev go : List Watched → List Watched
  go ws = go_at (last ws) ws

  abbrev go_all : List Watched → List Watched
  go_all ws = goes_from scope.Recording number asset p (last ws) ws

  behind_to : (w : Watched) (ws : List Watched) (i : ℕ) (o : Option Watched) → goes_in scope.Recording number asset (suc i) p o (w ∷ ws) ≡ w ∷ goes_in scope.Recording number asset i p o ws
  behind_to w ws i None = refl
  behind_to w ws i (Some f) = if_behind (begins_anew p f) w (ws ++ new ∷ []) (set ws i (with_packet_by scope.Recording number p f))

  later : (w : Watched) (ws : List Watched) (o : Option ℕ) → last ws ≡ o → last (w ∷ ws) ≡ later_place o (Mine w)
  later w ws o h = ap (λ q. later_place q (Mine w)) h

  -- a flow before the one that a packet is of stays as it is
  go_some : (w : Watched) (ws : List Watched) (i : ℕ) → last ws ≡ Some i → go (w ∷ ws) ≡ w ∷ go ws
  go_some w ws i h = ap (λ o. go_at o (w ∷ ws)) (later w ws (Some i) h) ∙ behind_to w ws i (slice_get ws i) ∙ sym (ap (λ o. w ∷ go_at o ws) h)

  all_some : (w : Watched) (ws : List Watched) (i : ℕ) → last ws ≡ Some i → go_all (w ∷ ws) ≡ w ∷ go_all ws
  all_some w ws i h =
      ap (λ o. goes_from scope.Recording number asset p o (w ∷ ws)) (later w ws (Some i) h) ∙ behind_to w ws i (slice_get ws i)
      ∙ sym (ap (λ o. w ∷ goes_from scope.Recording number asset p o ws) h)

  none_later : (w : Watched) (ws : List Watched) → last ws ≡ None → Mine w ≡ false → last (w ∷ ws) ≡ None
  none_later w ws h m = later w ws None h ∙ ap (later_place None) m

  zero_later : (w : Watched) (ws : List Watched) → last ws ≡ None → Mine w ≡ true → last (w ∷ ws) ≡ Some 0
  zero_later w ws h m = later w ws None h ∙ ap (later_place None) m

  go_none : (w : Watched) (ws : List Watched) → last ws ≡ None → Mine w ≡ false → go (w ∷ ws) ≡ w ∷ go ws
  go_none w ws h m =
      ap (λ o. go_at o (w ∷ ws)) (none_later w ws h m) ∙ if_behind (is_opening p) w (ws ++ new ∷ []) ws ∙ sym (ap (λ o. w ∷ go_at o ws) h)

  all_none : (w : Watched) (ws : List Watched) → last ws ≡ None → Mine w ≡ false → go_all (w ∷ ws) ≡ w ∷ go_all ws
  all_none w ws h m =
      ap (λ o. goes_from scope.Recording number asset p o (w ∷ ws)) (none_later w ws h m)
      ∙ ap (λ xs. if begins_amid scope.Recording p then w ∷ (ws ++ amid ∷ []) else xs) (if_behind (is_opening p) w (ws ++ new ∷ []) ws)
      ∙ if_behind (begins_amid scope.Recording p) w (ws ++ amid ∷ []) (if is_opening p then ws ++ new ∷ [] else ws)
      ∙ sym (ap (λ o. w ∷ goes_from scope.Recording number asset p o ws) h)

  go_other : (w : Watched) (ws : List Watched) (o : Option ℕ) → last ws ≡ o → Mine w ≡ false → go (w ∷ ws) ≡ w ∷ go ws
  go_other w ws None h m = go_none w ws h m
  go_other w ws (Some i) h m = go_some w ws i h

  -- of flows none of which begins amid its stream the last one stays
  abbrev SynOnly : List Watched → Type 0
  SynOnly ws = AllByRecursion (λ v. begins_with_syn v ≡ false → Mine v ≡ false) ws

  some_front : (w : Watched) (ws : List Watched) (o : Option ℕ) → Mine w ≡ true → last (syn_flows ws) ≡ o → last (syn_flows (w ∷ ws)) ≡ last (w ∷ syn_flows ws) → (j : ℕ) × (last (syn_flows (w ∷ ws)) ≡ Some j)
  some_front w ws (Some k) m h e = (suc k, e ∙ later w (syn_flows ws) (Some k) h)
  some_front w ws None m h e = (0, e ∙ zero_later w (syn_flows ws) h m)

  some_stays_by : (w : Watched) (ws : List Watched) (o : Option ℕ) (s m : Bool) (i : ℕ) → last ws ≡ o → begins_with_syn w ≡ s → Mine w ≡ m → (s ≡ false → m ≡ false) →
      ((k : ℕ) → o ≡ Some k → (j : ℕ) × (last (syn_flows ws) ≡ Some j)) → later_place o m ≡ Some i → (j : ℕ) × (last (syn_flows (w ∷ ws)) ≡ Some j)
  some_stays_by w ws (Some k) true m i h s mine apart ih e =
      let (j, is) = ih k refl in (suc j, ap last (kept (begins_with_syn w) w (syn_flows ws) s) ∙ later w (syn_flows ws) (Some j) is)
  some_stays_by w ws (Some k) false m i h s mine apart ih e = let (j, is) = ih k refl in (j, ap last (dropped (begins_with_syn w) w (syn_flows ws) s) ∙ is)
  some_stays_by w ws None true true i h s mine apart ih e =
      let front = ap last (kept (begins_with_syn w) w (syn_flows ws) s) in
      some_front w ws (last (syn_flows ws)) mine refl front
  some_stays_by w ws None false true i h s mine apart ih e = absurd (false≢true (sym (apart refl)))
  some_stays_by w ws None s false i h e mine apart ih l = absurd (none-some i l)

  some_stays : (ws : List Watched) (i : ℕ) → SynOnly ws → last ws ≡ Some i → (j : ℕ) × (last (syn_flows ws) ≡ Some j)
  some_stays [] i a e = absurd (none-some i e)
  some_stays (w ∷ ws) i a e = some_stays_by w ws (last ws) (begins_with_syn w) (Mine w) i refl refl refl a.0 (λ k is. some_stays ws k a.1 is) e

  none_left : (o : Option ℕ) (m : Bool) → later_place o m ≡ None → (o ≡ None) × (m ≡ false)
  none_left (Some k) m e = absurd (none-some (suc k) (sym e))
  none_left None true e = absurd (none-some 0 (sym e))
  none_left None false e = (refl, refl)

  none_stays_by : (w : Watched) (ws : List Watched) (s : Bool) → begins_with_syn w ≡ s → Mine w ≡ false → last (syn_flows ws) ≡ None → last (syn_flows (w ∷ ws)) ≡ None
  none_stays_by w ws true s m h = ap last (kept (begins_with_syn w) w (syn_flows ws) s) ∙ none_later w (syn_flows ws) h m
  none_stays_by w ws false s m h = ap last (dropped (begins_with_syn w) w (syn_flows ws) s) ∙ h

  none_stays : (ws : List Watched) → last ws ≡ None → last (syn_flows ws) ≡ None
  none_stays [] e = refl
  none_stays (w ∷ ws) e = let left = none_left (last ws) (Mine w) e in none_stays_by w ws (begins_with_syn w) refl left.1 (none_stays ws left.0)

  -- ---- what a packet does to the flows that begin with a SYN

  front : (a o : Bool) → (a ≡ true → o ≡ false) → syn_flows (if a then amid ∷ [] else if o then new ∷ [] else []) ≡ (if o then new ∷ [] else [])
  front true o apart = ap (λ b. if b then new ∷ [] else []) (sym (apart refl))
  front false true apart = refl
  front false false apart = refl

  goes_on : (w : Watched) (ws : List Watched) (s : Bool) → begins_with_syn w ≡ s → go_all (w ∷ ws) ≡ w ∷ go_all ws → (s ≡ true → go (w ∷ syn_flows ws) ≡ w ∷ go (syn_flows ws)) →
      syn_flows (go_all ws) ≡ go (syn_flows ws) → syn_flows (go_all (w ∷ ws)) ≡ go (syn_flows (w ∷ ws))
  goes_on w ws true s all one ih =
      ap syn_flows all ∙ kept (begins_with_syn w) w (syn_flows (go_all ws)) s ∙ ap (λ xs. w ∷ xs) ih ∙ sym (one refl) ∙ ap go (sym (kept (begins_with_syn w) w (syn_flows ws) s))
  goes_on w ws false s all one ih =
      ap syn_flows all ∙ dropped (begins_with_syn w) w (syn_flows (go_all ws)) s ∙ ih ∙ ap go (sym (dropped (begins_with_syn w) w (syn_flows ws) s))

  mine_here : (w : Watched) (ws : List Watched) (s : Bool) → begins_with_syn w ≡ s → Mine w ≡ true → last ws ≡ None → (begins_with_syn w ≡ false → w.answered ≡ true) →
      syn_flows (go_all (w ∷ ws)) ≡ go (syn_flows (w ∷ ws))
  mine_here w ws true s m h answered =
      let here : go_all (w ∷ ws) ≡ (if begins_anew p w then w ∷ (ws ++ new ∷ []) else with_packet_by scope.Recording number p w ∷ ws) =
      ap (λ o. goes_from scope.Recording number asset p o (w ∷ ws)) (zero_later w ws h m) in
      let there : go (w ∷ syn_flows ws) ≡ (if begins_anew p w then w ∷ (syn_flows ws ++ new ∷ []) else with_packet_by scope.Recording number p w ∷ syn_flows ws) =
      ap (λ o. go_at o (w ∷ syn_flows ws)) (zero_later w (syn_flows ws) (none_stays ws h) m) in
      let one : syn_flows (w ∷ (ws ++ new ∷ [])) ≡ w ∷ (syn_flows ws ++ new ∷ []) =
      kept (begins_with_syn w) w (syn_flows (ws ++ new ∷ [])) s ∙ ap (λ xs. w ∷ xs) (filter-append begins_with_syn ws (new ∷ [])) in
      let two : syn_flows (with_packet_by scope.Recording number p w ∷ ws) ≡ with_packet_by scope.Recording number p w ∷ syn_flows ws = kept (begins_with_syn w) (with_packet_by scope.Recording number p w) (syn_flows ws) s in
      ap syn_flows here ∙ kept_if (begins_anew p w) (w ∷ (ws ++ new ∷ [])) (with_packet_by scope.Recording number p w ∷ ws)
      ∙ ap (λ xs. if begins_anew p w then xs else syn_flows (with_packet_by scope.Recording number p w ∷ ws)) one
      ∙ ap (λ xs. if begins_anew p w then w ∷ (syn_flows ws ++ new ∷ []) else xs) two
      ∙ sym there ∙ ap go (sym (kept (begins_with_syn w) w (syn_flows ws) s))
  mine_here w ws false s m h answered =
      let here : go_all (w ∷ ws) ≡ (if begins_anew p w then w ∷ (ws ++ new ∷ []) else with_packet_by scope.Recording number p w ∷ ws) =
      ap (λ o. goes_from scope.Recording number asset p o (w ∷ ws)) (zero_later w ws h m) in
      let there : go (syn_flows ws) ≡ (if is_opening p then syn_flows ws ++ new ∷ [] else syn_flows ws) =
      ap (λ o. go_at o (syn_flows ws)) (none_stays ws h) in
      let one : syn_flows (w ∷ (ws ++ new ∷ [])) ≡ syn_flows ws ++ new ∷ [] = dropped (begins_with_syn w) w (syn_flows (ws ++ new ∷ [])) s ∙ filter-append begins_with_syn ws (new ∷ []) in
      let two : syn_flows (with_packet_by scope.Recording number p w ∷ ws) ≡ syn_flows ws = dropped (begins_with_syn w) (with_packet_by scope.Recording number p w) (syn_flows ws) s in
      let anew : begins_anew p w ≡ is_opening p = always_anew (is_opening p) (p.seq == w.origin) w.answered (answered s) in
      ap syn_flows here ∙ kept_if (begins_anew p w) (w ∷ (ws ++ new ∷ [])) (with_packet_by scope.Recording number p w ∷ ws)
      ∙ ap (λ xs. if begins_anew p w then xs else syn_flows (with_packet_by scope.Recording number p w ∷ ws)) one
      ∙ ap (λ xs. if begins_anew p w then syn_flows ws ++ new ∷ [] else xs) two
      ∙ ap (λ b. if b then syn_flows ws ++ new ∷ [] else syn_flows ws) anew
      ∙ sym there ∙ ap go (sym (dropped (begins_with_syn w) w (syn_flows ws) s))

  by_cases : (w : Watched) (ws : List Watched) (o : Option ℕ) (m : Bool) → last ws ≡ o → Mine w ≡ m → AreFirst (w ∷ ws) → syn_flows (go_all ws) ≡ go (syn_flows ws) →
      syn_flows (go_all (w ∷ ws)) ≡ go (syn_flows (w ∷ ws))
  by_cases w ws (Some i) false h m f ih = goes_on w ws (begins_with_syn w) refl (all_some w ws i h) (λ s. go_other w (syn_flows ws) (last (syn_flows ws)) refl m) ih
  by_cases w ws (Some i) true h m f ih =
      let (j, is) = some_stays ws i (f.1 p.source asset m) h in
      goes_on w ws (begins_with_syn w) refl (all_some w ws i h) (λ s. go_some w (syn_flows ws) j is) ih
  by_cases w ws None false h m f ih = goes_on w ws (begins_with_syn w) refl (all_none w ws h m) (λ s. go_other w (syn_flows ws) (last (syn_flows ws)) refl m) ih
  by_cases w ws None true h m f ih = mine_here w ws (begins_with_syn w) refl m h f.0

  commutes : (ws : List Watched) → AreFirst ws → syn_flows (go_all ws) ≡ go (syn_flows ws)
  commutes [] f = front (begins_amid scope.Recording p) (is_opening p) (λ e. no_syn (has_syn p) (has_rst p) (not (has_ack p || (has_rst p || has_fin p))) (not (length p.text == 0)) e)
  commutes (w ∷ ws) f = by_cases w ws (last ws) (Mine w) refl refl f (commutes ws f.2)

  -- ---- and what is kept of those that do not

  none_mine : (ws : List Watched) → last ws ≡ None → AllByRecursion (λ w. Mine w ≡ false) ws
  none_mine [] e = tt
  none_mine (w ∷ ws) e = let left = none_left (last ws) (Mine w) e in (left.1, none_mine ws left.0)

  apart_by : (w : Watched) (client : Endpoint) (other : ℕ) (b : Bool) → Mine w ≡ false → is_between client other w ≡ true → is_between client other amid ≡ b → b ≡ false
  apart_by w client other false m e same = refl
  apart_by w client other true m e same =
      let (ends, at) = and_parts (same_endpoint p.source client) (asset == other) same in
      let (address, port) = and_parts (p.source.address == client.address) (p.source.port == client.port) ends in
      let a = number_is p.source.address client.address address in
      let b = number_is p.source.port client.port port in
      let c = number_is asset other at in
      let mine : Mine w ≡ is_between client other w =
      ap (λ n. ((w.client.address == n) && (w.client.port == p.source.port)) && (w.asset == asset)) a
      ∙ ap (λ n. ((w.client.address == client.address) && (w.client.port == n)) && (w.asset == asset)) b
      ∙ ap (λ n. ((w.client.address == client.address) && (w.client.port == client.port)) && (w.asset == n)) c in
      absurd (false≢true (sym m ∙ mine ∙ e))

  all_apart : (ws : List Watched) → AllByRecursion (λ w. Mine w ≡ false) ws → AllByRecursion (IsApart amid) ws
  all_apart [] a = tt
  all_apart (w ∷ ws) a = ((λ client other e s. apart_by w client other (is_between client other amid) a.0 e refl), all_apart ws a.1)

  all_new : (ws : List Watched) → AllByRecursion (IsApart new) ws
  all_new [] = tt
  all_new (w ∷ ws) = ((λ client other e s. absurd (false≢true (sym s))), all_new ws)

  with_new : (ws : List Watched) → AreFirst ws → AreFirst (ws ++ new ∷ [])
  with_new ws f = first_append ws new f (λ s. absurd (false≢true (sym s))) (all_new ws)

  first_to : (i : ℕ) (o : Option Watched) (ws : List Watched) → slice_get ws i ≡ o → AreFirst ws → AreFirst (goes_in scope.Recording number asset i p o ws)
  first_to i None ws e f = f
  first_to i (Some x) ws e f = cond_both (begins_anew p x) (ws ++ new ∷ []) (set ws i (with_packet_by scope.Recording number p x)) AreFirst (λ _. with_new ws f) (λ _. first_set number p ws i x e f)

  first_from : (o : Option ℕ) (ws : List Watched) → last ws ≡ o → AreFirst ws → AreFirst (goes_from scope.Recording number asset p o ws)
  first_from None ws e f =
      cond_both (begins_amid scope.Recording p) (ws ++ amid ∷ []) (go_at None ws) AreFirst
      (λ _. first_append ws amid f (λ s. refl) (all_apart ws (none_mine ws e)))
      (λ _. cond_both (is_opening p) (ws ++ new ∷ []) ws AreFirst (λ _. with_new ws f) (λ _. f))
  first_from (Some i) ws e f = first_to i (slice_get ws i) ws refl f

-- ---- where no packet begins far below the newest position, all of its letters are read

abbrev AllNear : List Watched → Type 0
AllNear ws = AllByRecursion (λ w. IsNear w.carried) ws

none_far : (top : ℕ) (c : Carried) → far top c.at ≡ 0 → near scope.Recording top c ≡ c
none_far top c e =
    ap (λ n. without_first n c) e ∙ ap (λ at. record c { at = at; text = record c.text { ended = c.text.ended && nat_le 0 (length c.text.bytes) } }) (+ℤ_idr c.at)
    ∙ ap (λ b. record c { text = record c.text { ended = c.text.ended && b } }) (leb-zero (length c.text.bytes)) ∙ ap (λ b. record c { text = record c.text { ended = b } }) (and-true c.text.ended)

both_if : (b : Bool) (xs ys us vs : List Watched) → AllNear (if b then us else vs) → (AllNear us → xs ≡ us) → (AllNear vs → ys ≡ vs) → (if b then xs else ys) ≡ (if b then us else vs)
both_if true xs ys us vs h f g = f h
both_if false xs ys us vs h f g = g h

near_if : (b : Bool) (us vs ws : List Watched) → AllNear (if b then us else vs) → (AllNear us → AllNear ws) → (AllNear vs → AllNear ws) → AllNear ws
near_if true us vs ws h f g = f h
near_if false us vs ws h f g = g h

module _ (number : ℕ) (p : PacketValue) where
  same_on : (w : Watched) → IsNear (with_packet number p w).carried → with_packet_by scope.Recording number p w ≡ with_packet number p w
  same_on w h = ap (λ c. record (with_packet number p w) { carried = c ∷ w.carried }) (none_far (top_of w.carried) (carried_by number w.origin (top_of w.carried) p) h.0)

  module _ (asset : ℕ) where
    same_new : (ws : List Watched) → AllNear (ws ++ begun_by number asset p ∷ []) → ws ++ new number asset p ∷ [] ≡ ws ++ begun_by number asset p ∷ []
    same_new ws h =
        let begun : Watched = record { client = p.source; asset = asset; origin = p.seq; answered = false; midstream = None; carried = [] } in
        ap (λ w. ws ++ w ∷ []) (same_on begun (all_behind (λ w. IsNear w.carried) ws (begun_by number asset p ∷ []) h).0)

    same_to : (i : ℕ) (o : Option Watched) (ws : List Watched) → slice_get ws i ≡ o → AllNear (goes_to number asset i p o ws) →
        goes_in scope.Recording number asset i p o ws ≡ goes_to number asset i p o ws
    same_to i None ws e h = refl
    same_to i (Some w) ws e h =
        both_if (begins_anew p w) (ws ++ new number asset p ∷ []) (set ws i (with_packet_by scope.Recording number p w)) (ws ++ begun_by number asset p ∷ []) (set ws i (with_packet number p w)) h
        (same_new ws) (λ a. ap (set ws i) (same_on w (all_here (λ v. IsNear v.carried) ws i (with_packet number p w) w a e)))

    same_at : (o : Option ℕ) (ws : List Watched) → AllNear (goes_at number asset p o ws) → go_at number asset p o ws ≡ goes_at number asset p o ws
    same_at None ws h = both_if (is_opening p) (ws ++ new number asset p ∷ []) ws (ws ++ begun_by number asset p ∷ []) ws h (same_new ws) (λ _. refl)
    same_at (Some i) ws h = same_to i (slice_get ws i) ws refl h

    -- and no packet did before
    near_to : (i : ℕ) (o : Option Watched) (ws : List Watched) → slice_get ws i ≡ o → AllNear (goes_to number asset i p o ws) → AllNear ws
    near_to i None ws e h = h
    near_to i (Some w) ws e h =
        near_if (begins_anew p w) (ws ++ begun_by number asset p ∷ []) (set ws i (with_packet number p w)) ws h
        (all_front (λ v. IsNear v.carried) ws (begun_by number asset p ∷ [])) (λ a. all_before (λ v. IsNear v.carried) ws i (with_packet number p w) w a e (λ n. n.1))

    near_at : (o : Option ℕ) (ws : List Watched) → AllNear (goes_at number asset p o ws) → AllNear ws
    near_at None ws h = near_if (is_opening p) (ws ++ begun_by number asset p ∷ []) ws ws h (all_front (λ v. IsNear v.carried) ws (begun_by number asset p ∷ [])) (λ a. a)
    near_at (Some i) ws h = near_to i (slice_get ws i) ws refl h

near_goes : (number : ℕ) (p : PacketValue) (o : Option ℕ) (ws : List Watched) → AllNear (goes number p o ws) → AllNear ws
near_goes number p None ws h = h
near_goes number p (Some asset) ws h = near_at number p asset (last_place p.source asset ws) ws h

near_record : (assets : List Asset) (number : ℕ) (r : Result PacketValue PacketRefusal) (ws : List Watched) → AllNear (with_record assets number r ws) → AllNear ws
near_record assets number (Err refusal) ws h = h
near_record assets number (Ok p) ws h = near_goes number p (asset_place assets p.dest) ws h

-- ---- record by record

alike_goes : (number : ℕ) (p : PacketValue) (o : Option ℕ) (ws : List Watched) → AreFirst ws → AllNear (goes number p o (syn_flows ws)) →
    AreFirst (goes_to_asset scope.Recording number p o ws) × (syn_flows (goes_to_asset scope.Recording number p o ws) ≡ goes number p o (syn_flows ws))
alike_goes number p None ws f h = (f, refl)
alike_goes number p (Some asset) ws f h = (
  first_from number asset p (last_place p.source asset ws) ws refl f,
  commutes number asset p ws f ∙ same_at number p asset (last_place p.source asset (syn_flows ws)) (syn_flows ws) h,
)

alike_record : (assets : List Asset) (number : ℕ) (r : Result PacketValue PacketRefusal) (ws : List Watched) → AreFirst ws → AllNear (with_record assets number r (syn_flows ws)) →
    AreFirst (with_frame scope.Recording assets number r ws) × (syn_flows (with_frame scope.Recording assets number r ws) ≡ with_record assets number r (syn_flows ws))
alike_record assets number (Err refusal) ws f h = (f, refl)
alike_record assets number (Ok p) ws f h = alike_goes number p (asset_place assets p.dest) ws f h

alike : (assets : List Asset) (newest : List Record) → AllByRecursion IsReadAlike newest → AllNear (watched assets newest) →
    AreFirst (seen_by scope.Recording assets newest) × (syn_flows (seen_by scope.Recording assets newest) ≡ watched assets newest)
alike assets [] none near = (tt, refl)
alike assets (r ∷ earlier) none near =
    let number = length earlier + 1 in
    let before = alike assets earlier none.1 (near_record assets number (read_record r.link r.body) (watched assets earlier) near) in
    let same : with_record assets number (packet_by scope.Recording r.link r.body) (syn_flows (seen_by scope.Recording assets earlier)) ≡ watched assets (r ∷ earlier) =
    ap (λ packet. with_record assets number packet (syn_flows (seen_by scope.Recording assets earlier))) none.0 ∙ ap (with_record assets number (read_record r.link r.body)) before.1 in
    let one = alike_record assets number (packet_by scope.Recording r.link r.body) (seen_by scope.Recording assets earlier) before.0 (subst AllNear (sym same) near) in
    (one.0, one.1 ∙ same)

pub are_watched : SynFlowsAreWatched
are_watched assets newest none near = (alike assets newest none near).1
