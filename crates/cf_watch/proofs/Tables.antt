-- The flows in memory as records come.
use Rattle.std.proofs.Common.{◌≡◌, ◌≢◌, ◌==◌, ◌+◌, ◌-◌, ◌*◌, ◌^◌, ◌<◌, ◌≤◌, ◌⊎◌, ◌&&◌, ℕ, zero, suc, Bool, true, false, cond, nat_lt, List, [], ◌∷◌, ◌++◌, length, set, slice_get, take, drop, Option, Some, None, Result, Ok, Err, unwrap_or, refl, sym, ap, ◌∙◌, inl, inr, arith, subst, length-append, append_assoc}
use Rattle.std.proofs.lemmas.Bool.{cases_lt, false≢true}
use Rattle.std.proofs.lemmas.Bool.Decides.{nat_tests}
use Rattle.std.proofs.lemmas.List.{length-set, length-take-le, take-append-drop}
use Rattle.std.proofs.lemmas.Option.{none-some, slice_get_within}
use Rattle.std.specs.BTreeMap.{BTreeMap, get}
use Rattle.std.specs.Ordering.{is_eq, nat_cmp, ordering_then}
use Rattle.std.specs.declared.cmp.Ordering.{Ordering}
use Rattle.std.specs.declared.cmp.Ordering.TheVariants.{Equal, Greater, Less}
use Rattle.cf_view.specs.declared.Endpoint.{Endpoint}
use Rattle.cf_watch.specs.declared.flow.Flow.{Flow}
use Rattle.cf_watch.specs.FlowValue.{FlowValue, flow_value}
use Rattle.cf_watch.specs.Trail.{AreHeard, Heard, IsHeard, IsWatchOf, IsWithout, MayBeGone, TakesRecord, forgets, key_cmp, key_of}
use Rattle.cf_packet.specs.Packet.{PacketValue}
use Rattle.cf_packet.specs.declared.packet.PacketRefusal.{PacketRefusal}
use Rattle.cf_watch.specs.Carried.{AreBorn, HasBytes}
use Rattle.cf_watch.specs.Kept.{kept, known, with_gone}
use Rattle.cf_view.specs.Endpoints.{same_endpoint}
use Rattle.cf_policy.specs.AtEndpoint.{asset_place}
use Rattle.cf_policy.specs.declared.Asset.{Asset}
use Rattle.cf_leg.specs.Segment.{is_opening}
use Rattle.cf_watch.specs.Seen.{begins_amid, begun_with, goes_first, goes_from, goes_to_asset, opening_amid, opening_by, with_frame, with_packet_by}
use Rattle.cf_watch.specs.declared.scope.Scope.{Scope}
use Rattle.cf_watch.specs.declared.scope.Scope.TheVariants as scope
use Rattle.cf_watch.specs.Watched.{Watched, begins_anew, is_between, last_place, later_place}
use Rattle.cf_watch.specs.declared.ahead.Portion.{Portion}
use Rattle.cf_watch.proofs.Portions.{nothing_kept}
use Rattle.cf_watch.specs.declared.watching.FlowKey.{FlowKey}
use Rattle.cf_watch.specs.declared.watching.Trail.{Trail}
use Rattle.cf_watch.specs.declared.watching.Watch.{Watch}

-- ---- keys

same_by : (b : Bool) → is_eq (cond b Equal Greater) ≡ b
same_by true = refl
same_by false = refl

cmp_same : (x y : ℕ) → is_eq (nat_cmp x y) ≡ (x == y)
cmp_same x y = elim (cases_lt x y) [
  | inl v ↦ (let a : nat_lt x y ≡ true = grind (arith, nat_tests, v) in let b : (x == y) ≡ false = grind (arith, nat_tests, v) in rw (a, b) refl)
  | inr v ↦ (let a : nat_lt x y ≡ false = grind (arith, nat_tests, v) in rw a (same_by (x == y)))
]

then_same : (o p : Ordering) → is_eq (ordering_then o p) ≡ (is_eq o && is_eq p)
then_same Less p = refl
then_same Equal p = refl
then_same Greater p = refl

and_assoc : (a b c : Bool) → (a && (b && c)) ≡ ((a && b) && c)
and_assoc true b c = refl
and_assoc false b c = refl

key_same : (one other : Endpoint) (a b : ℕ) → is_eq (key_cmp (key_of one a) (key_of other b)) ≡ (same_endpoint one other && (a == b))
key_same one other a b =
    then_same (nat_cmp one.address other.address) (ordering_then (nat_cmp one.port other.port) (nat_cmp a b))
    ∙ ap (λ p. is_eq (nat_cmp one.address other.address) && p) (then_same (nat_cmp one.port other.port) (nat_cmp a b))
    ∙ rw (cmp_same one.address other.address, cmp_same one.port other.port, cmp_same a b) (and_assoc (one.address == other.address) (one.port == other.port) (a == b))

-- ---- the last flow of a client and an asset

later_some : (n : ℕ) (b : Bool) → later_place (Some n) b ≡ Some (suc n)
later_some n b = refl

append_none : (b : Bool) → later_place None b ≡ cond b (Some 0) None
append_none true = refl
append_none false = refl

append_some : (b : Bool) (n : ℕ) (o : Option ℕ) (here : Bool) → later_place (cond b (Some n) o) here ≡ cond b (Some (suc n)) (later_place o here)
append_some true n o here = refl
append_some false n o here = refl

last_append : (client : Endpoint) (asset : ℕ) (ws : List Watched) (w : Watched) →
    last_place client asset (ws ++ w ∷ []) ≡ cond (is_between client asset w) (Some (length ws)) (last_place client asset ws)
last_append client asset [] w = append_none (is_between client asset w)
last_append client asset (v ∷ ws) w =
    ap (λ o. later_place o (is_between client asset v)) (last_append client asset ws w)
    ∙ append_some (is_between client asset w) (length ws) (last_place client asset ws) (is_between client asset v)

last_set : (client : Endpoint) (asset : ℕ) (ws : List Watched) (i : ℕ) (w now : Watched) → slice_get ws i ≡ Some w → is_between client asset now ≡ is_between client asset w →
    last_place client asset (set ws i now) ≡ last_place client asset ws
last_set client asset [] i w now h e = refl
last_set client asset (v ∷ ws) zero w now h e =
    let same : v ≡ w = ap (λ o. unwrap_or o v) h in
    ap (later_place (last_place client asset ws)) (e ∙ ap (is_between client asset) (sym same))
last_set client asset (v ∷ ws) (suc i) w now h e = ap (λ o. later_place o (is_between client asset v)) (last_set client asset ws i w now h e)

inside_by : (o : Option ℕ) (b : Bool) (n i : ℕ) → ((k : ℕ) → o ≡ Some k → k < n) → later_place o b ≡ Some i → i < suc n
inside_by (Some k) b n i ih h =
    let e : suc k ≡ i = ap (λ o. unwrap_or o i) h in
    let l = ih k refl in
    omega (arith, e, l)
inside_by None true n i ih h = let e : 0 ≡ i = ap (λ o. unwrap_or o i) h in omega (arith, e)
inside_by None false n i ih h = absurd (none-some i h)

pub last_inside : (client : Endpoint) (asset : ℕ) (ws : List Watched) (i : ℕ) → last_place client asset ws ≡ Some i → i < length ws
last_inside client asset [] i h = absurd (none-some i h)
last_inside client asset (v ∷ ws) i h = inside_by (last_place client asset ws) (is_between client asset v) (length ws) i (last_inside client asset ws) h

-- ---- lists

pub get_push : {X : Type 0} (xs : List X) (x : X) (i : ℕ) (y : X) → slice_get (xs ++ x ∷ []) i ≡ Some y → (slice_get xs i ≡ Some y) ⊎ ((i ≡ length xs) × (x ≡ y))
get_push [] x zero y h = inr (refl, ap (λ o. unwrap_or o x) h)
get_push [] x (suc i) y h = absurd (none-some y h)
get_push (z ∷ xs) x zero y h = inl h
get_push (z ∷ xs) x (suc i) y h = elim (get_push xs x i y h) [ inl a ↦ inl a | inr (l, e) ↦ inr (ap suc l, e) ]

pub get_set : {X : Type 0} (xs : List X) (p : ℕ) (x : X) (i : ℕ) (y : X) → slice_get (set xs p x) i ≡ Some y → ((i ≢ p) × (slice_get xs i ≡ Some y)) ⊎ ((i ≡ p) × (x ≡ y))
get_set [] p x i y h = absurd (none-some y h)
get_set (z ∷ xs) zero x zero y h = inr (refl, ap (λ o. unwrap_or o x) h)
get_set (z ∷ xs) zero x (suc i) y h = inl ((λ e. omega (arith, e)), h)
get_set (z ∷ xs) (suc p) x zero y h = inl ((λ e. omega (arith, e)), h)
get_set (z ∷ xs) (suc p) x (suc i) y h = elim (get_set xs p x i y h) [
  | inl (d, a) ↦ inl ((λ e. d (omega (arith, e))), a)
  | inr (l, e) ↦ inr (ap suc l, e)
]

push_below : {X : Type 0} (xs : List X) (x : X) (i : ℕ) (y : X) → i < length xs → slice_get (xs ++ x ∷ []) i ≡ Some y → slice_get xs i ≡ Some y
push_below xs x i y below h = elim (get_push xs x i y h) [ inl a ↦ a | inr (l, e) ↦ absurd (omega (arith, below, l)) ]

push_last : {X : Type 0} (xs : List X) (x : X) (i : ℕ) (y : X) → i ≡ length xs → slice_get (xs ++ x ∷ []) i ≡ Some y → x ≡ y
push_last xs x i y last h = elim (get_push xs x i y h) [ inl a ↦ (let below = slice_get_within xs i y a in absurd (omega (arith, below, last))) | inr (l, e) ↦ e ]

set_other : {X : Type 0} (xs : List X) (p : ℕ) (x : X) (i : ℕ) (y : X) → i ≢ p → slice_get (set xs p x) i ≡ Some y → slice_get xs i ≡ Some y
set_other xs p x i y other h = elim (get_set xs p x i y h) [ inl (d, a) ↦ a | inr (l, e) ↦ absurd (other l) ]

set_here : {X : Type 0} (xs : List X) (p : ℕ) (x : X) (i : ℕ) (y : X) → i ≡ p → slice_get (set xs p x) i ≡ Some y → x ≡ y
set_here xs p x i y here h = elim (get_set xs p x i y h) [ inl (d, a) ↦ absurd (d here) | inr (l, e) ↦ e ]

-- at other places a list is the same where one of its elements is set, or one is put behind them
pub get_set_other : {X : Type 0} (xs : List X) (p : ℕ) (x : X) (i : ℕ) → i ≢ p → slice_get (set xs p x) i ≡ slice_get xs i
get_set_other [] p x i other = refl
get_set_other (y ∷ xs) zero x zero other = absurd (other refl)
get_set_other (y ∷ xs) zero x (suc i) other = refl
get_set_other (y ∷ xs) (suc p) x zero other = refl
get_set_other (y ∷ xs) (suc p) x (suc i) other = get_set_other xs p x i (λ e. other (ap suc e))

pub get_push_other : {X : Type 0} (xs : List X) (x : X) (i : ℕ) → i ≢ length xs → slice_get (xs ++ x ∷ []) i ≡ slice_get xs i
get_push_other [] x zero other = absurd (other refl)
get_push_other [] x (suc i) other = refl
get_push_other (y ∷ xs) x zero other = refl
get_push_other (y ∷ xs) x (suc i) other = get_push_other xs x i (λ e. other (ap suc e))

pub set_same : {X : Type 0} (xs : List X) (p : ℕ) (x : X) → slice_get xs p ≡ Some x → set xs p x ≡ xs
set_same [] p x h = refl
set_same (y ∷ xs) zero x h = ap (λ z. z ∷ xs) (sym (ap (λ o. unwrap_or o y) h))
set_same (y ∷ xs) (suc p) x h = ap (λ zs. y ∷ zs) (set_same xs p x h)

-- ---- flow by flow

-- a record without a flow of its own
pub heard_more : (by : Scope) (n : ℕ) (flows : List Flow) (trails : List Trail) (last : BTreeMap FlowKey ℕ) (ws : List Watched) (hs : List Heard) →
    AreHeard by n flows trails last ws hs → AreHeard by (n + 1) flows trails last ws hs
heard_more by n flows trails last ws hs s = record {
  flow_count = s.flow_count;
  trail_count = s.trail_count;
  heard_count = s.heard_count;
  each = s.each;
  low = λ i t e. let l = s.low i t e in omega (arith, l);
  found = s.found;
}

-- a flow that begins
pub heard_append : (by : Scope) (n : ℕ) (flows : List Flow) (trails : List Trail) (last now : BTreeMap FlowKey ℕ) (ws : List Watched) (hs : List Heard) (f : Flow) (t : Trail) (w : Watched)
    (h : Heard) → AreHeard by n flows trails last ws hs → IsHeard by f t w h → t.top ≤ (n + 1) * 2 ^ 32 →
    ((q : FlowKey) → get key_cmp now q ≡ cond (is_eq (key_cmp (key_of w.client w.asset) q)) (Some (length flows)) (get key_cmp last q)) →
    AreHeard by (n + 1) (flows ++ f ∷ []) (trails ++ t ∷ []) now (ws ++ w ∷ []) (hs ++ h ∷ [])
heard_append by n flows trails last now ws hs f t w h s is low updates =
    let fc = s.flow_count in
    let tc = s.trail_count in
    let hc = s.heard_count in
    record {
      flow_count = length-append flows (f ∷ []) ∙ ap (λ k. k + 1) fc ∙ sym (length-append ws (w ∷ []));
      trail_count = length-append trails (t ∷ []) ∙ ap (λ k. k + 1) tc ∙ sym (length-append ws (w ∷ []));
      heard_count = length-append hs (h ∷ []) ∙ ap (λ k. k + 1) hc ∙ sym (length-append ws (w ∷ []));
      each = λ i g u v k a b e d. elim (get_push ws w i v e) [
        | inl x ↦
            (let below = slice_get_within ws i v x in
            s.each i g u v k (push_below flows f i g (omega (arith, below, fc)) a) (push_below trails t i u (omega (arith, below, tc)) b) x (push_below hs h i k (omega (arith, below, hc)) d))
        | inr (l, x) ↦
            subst (λ k'. IsHeard by g u v k') (push_last hs h i k (omega (arith, l, hc)) d)
            (subst (λ v'. IsHeard by g u v' h) x
            (subst (λ u'. IsHeard by g u' w h) (push_last trails t i u (omega (arith, l, tc)) b) (subst (λ g'. IsHeard by g' t w h) (push_last flows f i g (omega (arith, l, fc)) a) is)))
      ];
      low = λ i u e. elim (get_push trails t i u e) [
        | inl x ↦ (let l = s.low i u x in omega (arith, l))
        | inr (k, x) ↦ subst (λ u'. u'.top ≤ (n + 1) * 2 ^ 32) x low
      ];
      found = λ client asset.
          updates (key_of client asset)
          ∙ rw (key_same w.client client w.asset asset, s.found client asset, fc) (sym (last_append client asset ws w));
    }

-- a flow at a place is another, of the same client and asset
pub heard_set : (by : Scope) (n : ℕ) (flows : List Flow) (trails : List Trail) (last : BTreeMap FlowKey ℕ) (ws : List Watched) (hs : List Heard) (p : ℕ) (f : Flow) (t : Trail)
    (old w : Watched) (h : Heard) → AreHeard by n flows trails last ws hs → slice_get ws p ≡ Some old → w.client ≡ old.client → w.asset ≡ old.asset → IsHeard by f t w h →
    t.top ≤ n * 2 ^ 32 → AreHeard by n (set flows p f) (set trails p t) last (set ws p w) (set hs p h)
heard_set by n flows trails last ws hs p f t old w h s at client_is asset_is is low = record {
  flow_count = length-set flows p f ∙ s.flow_count ∙ sym (length-set ws p w);
  trail_count = length-set trails p t ∙ s.trail_count ∙ sym (length-set ws p w);
  heard_count = length-set hs p h ∙ s.heard_count ∙ sym (length-set ws p w);
  each = λ i g u v k a b e d. elim (get_set ws p w i v e) [
    | inl (o, x) ↦ s.each i g u v k (set_other flows p f i g o a) (set_other trails p t i u o b) x (set_other hs p h i k o d)
    | inr (l, x) ↦
        subst (λ k'. IsHeard by g u v k') (set_here hs p h i k l d)
        (subst (λ v'. IsHeard by g u v' h) x (subst (λ u'. IsHeard by g u' w h) (set_here trails p t i u l b) (subst (λ g'. IsHeard by g' t w h) (set_here flows p f i g l a) is)))
  ];
  low = λ i u e. elim (get_set trails p t i u e) [
    | inl (d, x) ↦ s.low i u x
    | inr (k, x) ↦ subst (λ u'. u'.top ≤ n * 2 ^ 32) x low
  ];
  found = λ client asset. s.found client asset ∙ sym (last_set client asset ws p old w at (ap (λ c. same_endpoint c client && (w.asset == asset)) client_is ∙ ap (λ a. same_endpoint old.client client && (a == asset)) asset_is));
}

nothing_known : (a : BTreeMap ℕ Portion) (p : ℕ) → a.entries ≡ [] → known [] a p ≡ None
nothing_known a p e =
    let l : nat_lt p 0 ≡ false = grind (arith, nat_tests) in
    let g : kept a (p + 2 ^ 31) ≡ None = nothing_kept a (p + 2 ^ 31) e in
    rw (l, g) refl

-- a flow with nothing carried
pub heard_first : (by : Scope) (f : Flow) (t : Trail) (client : Endpoint) (asset origin : ℕ) (answered : Bool) (midstream : Option ℕ) → f.client ≡ client → f.asset ≡ asset → f.midstream ≡ midstream →
    f.bytes.items ≡ [] → f.born ≡ [] → f.conflict ≡ None → t.origin ≡ origin → t.answered ≡ answered → t.top ≡ 0 → t.base ≡ 0 → t.ahead.entries ≡ [] →
    IsHeard by f t (record { client = client; asset = asset; origin = origin; answered = answered; midstream = midstream; carried = [] }) (record { value = flow_value f; base = 0 })
heard_first by f t client asset origin answered midstream c a m bs ns k o r z b e = record {
  gone = [];
  gone_born = [];
  gone_count = refl;
  born_count = refl;
  value = refl;
  base = b;
  may_be_gone = inl b;
  flow = record {
    client = c;
    asset = a;
    midstream = m;
    bytes = subst (λ xs. HasBytes [] xs) (sym bs) (false, record { bytes = λ p l. absurd (omega (arith, l)); ended = λ d. absurd (false≢true d); unfinished = λ _. refl });
    born = subst (λ xs. AreBorn [] xs f.born) (sym bs) (subst (λ ys. AreBorn [] [] ys) (sym ns) (record { count = refl; each = λ place number h. absurd (none-some number h) }));
    conflict = k;
  };
  origin = o;
  answered = r;
  top = z;
  knows = λ p. ap (λ xs. known xs t.ahead p) bs ∙ nothing_known t.ahead p e;
  holds = λ q none. nothing_kept t.ahead q e;
}

pub record_number : (number : ℕ) → 1 ≤ number → number - 1 + 1 ≡ number
record_number number h = omega (arith, h)

-- where no flow changes, the flows in memory stand for them after one more record too
pub still_heard : (by : Scope) (number : ℕ) (watch : Watch) (ws vs : List Watched) (hs : List Heard) → 1 ≤ number → ws ≡ vs → IsWatchOf by (number - 1) watch ws hs →
    TakesRecord by number None watch ws vs hs
still_heard by number watch ws vs hs h same s = record {
  now = hs;
  heard =
      subst (λ (us : List Watched). IsWatchOf by number watch us hs) same
      (subst (λ (n : ℕ). IsWatchOf by n watch ws hs) (record_number number h) (heard_more by (number - 1) watch.flows.items watch.trails.items watch.last ws hs s));
  moves = refl;
  others = λ i other. ap (λ (us : List Watched). slice_get us i) (sym same);
}

-- ---- the first bytes of a flow are kept no more

pub forgets_set : (place count : ℕ) (hs : List Heard) (h : Heard) → slice_get hs place ≡ Some h → set hs place (record h { base = h.base + count }) ≡ forgets place count hs
forgets_set place count [] h e = refl
forgets_set zero count (g ∷ hs) h e =
    let same : g ≡ h = ap (λ o. unwrap_or o g) e in
    ap (λ (x : Heard). let y : Heard = record x { base = x.base + count } in y ∷ hs) (sym same)
forgets_set (suc place) count (g ∷ hs) h e = ap (λ (xs : List Heard). g ∷ xs) (forgets_set place count hs h e)

without_spare : (count n base top : ℕ) → count ≤ n → ((n ≡ 0) ⊎ (base + n + 2 ^ 20 ≤ top)) → MayBeGone scope.Recording base top → MayBeGone scope.Recording (base + count) top
without_spare count n base top few (inr below) was = inr (refl, omega (arith, few, below))
without_spare count n base top few (inl none) (inl all) = inl (omega (arith, few, none, all))
without_spare count n base top few (inl none) (inr (is, low)) = inr (refl, omega (arith, few, none, low))

parts_joined : (gone xs : List ℕ) (count : ℕ) → gone ++ xs ≡ (gone ++ take count xs) ++ drop count xs
parts_joined gone xs count = ap (λ (ys : List ℕ). gone ++ ys) (sym (take-append-drop count xs)) ∙ sym (append_assoc gone (take count xs) (drop count xs))

abbrev with_lists : (bytes born : List ℕ) → FlowValue → FlowValue
with_lists bytes born f = record f { bytes = bytes; born = born }

gone_more : (gone gone_born : List ℕ) (f g : Flow) (count : ℕ) → IsWithout count (flow_value f) (flow_value g) →
    with_gone gone gone_born f ≡ with_gone (gone ++ take count f.bytes.items) (gone_born ++ take count f.born) g
gone_more gone gone_born f g count out =
    let front = gone ++ take count f.bytes.items in
    let front_born = gone_born ++ take count f.born in
    ap (λ (xs : List ℕ). with_lists xs (gone_born ++ f.born) (flow_value f)) (parts_joined gone f.bytes.items count)
    ∙ ap (λ (xs : List ℕ). with_lists (front ++ drop count f.bytes.items) xs (flow_value f)) (parts_joined gone_born f.born count)
    ∙ ap (λ (v : FlowValue). with_lists (front ++ v.bytes) (front_born ++ v.born) v) (sym out)

part_length : (gone xs : List ℕ) (count base : ℕ) → length gone ≡ base → count ≤ length xs → length (gone ++ take count xs) ≡ base + count
part_length gone xs count base size few =
    let taken = length-take-le count xs few in
    length-append gone (take count xs) ∙ omega (arith, size, taken)

-- a flow whose first bytes are kept no more is heard as before
pub heard_without : (f g : Flow) (t u : Trail) (w : Watched) (h : Heard) (count n : ℕ) → IsHeard scope.Recording f t w h → IsWithout count (flow_value f) (flow_value g) →
    u ≡ record t { base = t.base + count } → count ≤ n → n ≤ length f.bytes.items → length f.born ≡ length f.bytes.items → ((n ≡ 0) ⊎ (t.base + n + 2 ^ 20 ≤ t.top)) →
    IsHeard scope.Recording g u w (record h { base = h.base + count })
heard_without f g t u w h count n is out after few inside born spare =
    subst (λ (v : Trail). IsHeard scope.Recording g v w (record h { base = h.base + count })) (sym after) (record {
      gone = is.gone ++ take count f.bytes.items;
      gone_born = is.gone_born ++ take count f.born;
      gone_count = part_length is.gone f.bytes.items count h.base is.gone_count (omega (arith, few, inside));
      born_count = part_length is.gone_born f.born count h.base is.born_count (omega (arith, few, inside, born));
      value = is.value ∙ gone_more is.gone is.gone_born f g count out;
      base = ap (λ (b : ℕ). b + count) is.base;
      may_be_gone = without_spare count n t.base t.top few spare is.may_be_gone;
      flow = is.flow;
      origin = is.origin;
      answered = is.answered;
      top = is.top;
      knows = is.knows;
      holds = is.holds;
    })

-- ---- which flow a packet goes to

pub goes_begins : (scope : Scope) (number asset place : ℕ) (packet : PacketValue) (ws : List Watched) (w : Watched) → slice_get ws place ≡ Some w → begins_anew packet w ≡ true →
    goes_from scope number asset packet (Some place) ws ≡ ws ++ begun_with scope (opening_by packet) number asset packet ∷ []
goes_begins scope number asset place packet ws w at b = rw (at, b) refl

pub goes_further : (scope : Scope) (number asset place : ℕ) (packet : PacketValue) (ws : List Watched) (w : Watched) → slice_get ws place ≡ Some w → begins_anew packet w ≡ false →
    goes_from scope number asset packet (Some place) ws ≡ set ws place (with_packet_by scope number packet w)
goes_further scope number asset place packet ws w at b = rw (at, b) refl

-- a packet of no flow begins one amid its stream or as a SYN, or none
pub begins_here : (scope : Scope) (number asset : ℕ) (packet : PacketValue) (ws : List Watched) → begins_amid scope packet ≡ true →
    goes_first scope number asset packet ws ≡ ws ++ begun_with scope (opening_amid number packet) number asset packet ∷ []
begins_here scope number asset packet ws e = rw e refl

pub opens_here : (scope : Scope) (number asset : ℕ) (packet : PacketValue) (ws : List Watched) → begins_amid scope packet ≡ false → is_opening packet ≡ true →
    goes_first scope number asset packet ws ≡ ws ++ begun_with scope (opening_by packet) number asset packet ∷ []
opens_here scope number asset packet ws later e = rw (later, e) refl

pub passes_here : (scope : Scope) (number asset : ℕ) (packet : PacketValue) (ws : List Watched) → begins_amid scope packet ≡ false → is_opening packet ≡ false →
    ws ≡ goes_first scope number asset packet ws
passes_here scope number asset packet ws later e = rw (later, e) refl

pub flow_at : {X : Type 0} (ws : List X) (place : ℕ) → place < length ws → (w : X) × (slice_get ws place ≡ Some w)
flow_at [] place h = absurd (omega (arith, h))
flow_at (w ∷ ws) zero h = (w, refl)
flow_at (w ∷ ws) (suc place) h = flow_at ws place (omega (arith, h))

-- ---- which records go to no asset, and to one

-- whatever a record is read as, if that is for no asset then no flow changes
pub passed_over : (scope : Scope) (assets : List Asset) (number : ℕ) (r : Result PacketValue PacketRefusal) (ws : List Watched) →
    ((p : PacketValue) → r ≡ Ok p → None ≡ asset_place assets p.dest) → ws ≡ with_frame scope assets number r ws
passed_over scope assets number (Err refusal) ws none = refl
passed_over scope assets number (Ok p) ws none = ap (λ (o : Option ℕ). goes_to_asset scope number p o ws) (none p refl)

pub goes_on : (scope : Scope) (assets : List Asset) (number asset : ℕ) (r : Result PacketValue PacketRefusal) (p : PacketValue) (ws : List Watched) →
    Ok p ≡ r → Some asset ≡ asset_place assets p.dest → goes_to_asset scope number p (Some asset) ws ≡ with_frame scope assets number r ws
goes_on scope assets number asset r p ws is at =
    ap (λ (o : Option ℕ). goes_to_asset scope number p o ws) at ∙ ap (λ (a : Result PacketValue PacketRefusal). with_frame scope assets number a ws) is

-- ---- all bytes are kept

pub keeps_append : (trails : List Trail) (t : Trail) → ((i : ℕ) (u : Trail) → slice_get trails i ≡ Some u → u.base ≡ 0) → t.base ≡ 0 → (i : ℕ) (u : Trail) →
    slice_get (trails ++ t ∷ []) i ≡ Some u → u.base ≡ 0
keeps_append trails t all base i u e = elim (get_push trails t i u e) [ inl x ↦ all i u x | inr (k, x) ↦ subst (λ (v : Trail). v.base ≡ 0) x base ]

pub keeps_set : (trails : List Trail) (p : ℕ) (t : Trail) → ((i : ℕ) (u : Trail) → slice_get trails i ≡ Some u → u.base ≡ 0) → t.base ≡ 0 → (i : ℕ) (u : Trail) →
    slice_get (set trails p t) i ≡ Some u → u.base ≡ 0
keeps_set trails p t all base i u e = elim (get_set trails p t i u e) [ inl (d, x) ↦ all i u x | inr (k, x) ↦ subst (λ (v : Trail). v.base ≡ 0) x base ]
