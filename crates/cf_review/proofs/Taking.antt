-- A reviewer takes one more record: `IsReviewing` of all that it took.
use Rattle.std.proofs.Common.{◌≡◌, ◌≢◌, ◌+◌, ◌-◌, ◌<◌, ◌≤◌, ◌∙◌, ◌⊎◌, ℕ, zero, suc, Bool, true, false, List, [], ◌∷◌, ◌++◌, All, length, map, drop, reverse, set, slice_get, Option, None, Some, refl, sym, ap, subst, inl, inr, arith, length-append}
use Rattle.std.proofs.lemmas.Bool.Decides.{nat_tests}
use Rattle.std.proofs.lemmas.List.{append-nil, drop-drop, length-map, length-reverse, length-set, map-append, reverse-append}
use Rattle.std.proofs.lemmas.Option.{none-some, same_Some, slice_get_within}
use Rattle.std.specs.Vec.{with_item}
use Rattle.std.specs.declared.vec.Vec.{Vec}
use Rattle.cf_judge.specs.declared.front.Reader.{Reader}
use Rattle.cf_lane.proofs.Parting.{get_set_other, get_set_same}
use Rattle.cf_policy.specs.Site.{SiteValue, site_from}
use Rattle.cf_policy.specs.declared.Asset.{Asset}
use Rattle.cf_records.specs.Capture.{Record}
use Rattle.cf_watch.specs.FlowValue.{FlowValue}
use Rattle.cf_watch.specs.Seen.{packet_by, seen_by, with_frame}
use Rattle.cf_watch.specs.Stretches.{FirstLetter, first_letter, is_own}
use Rattle.cf_watch.specs.Trail.{GoesOn, HasHeard, Heard, IsNew, IsSettled, IsWatchOf, TakesRecord, forgets}
use Rattle.cf_watch.specs.Watched.{Watched}
use Rattle.cf_watch.specs.declared.Flow.{Flow}
use Rattle.cf_watch.specs.declared.Scope.{Scope}
use Rattle.cf_watch.specs.declared.Scope.TheVariants as scope
use Rattle.cf_watch.specs.declared.Watch.{Watch}
use Rattle.cf_review.specs.Follow.{AllTold, IsAtRest, IsBegun, IsFollowed, IsTail, unread}
use Rattle.cf_review.specs.Remark.{remark_value}
use Rattle.cf_review.specs.Reviewer.{AddsMissing, ApartAre, HasTaken, IsDoneWith, IsReviewing, IsUnread}
use Rattle.cf_review.specs.Stamps.{AreStamps, has_stamp}
use Rattle.cf_review.specs.declared.following.Following.{Following}
use Rattle.cf_review.specs.declared.following.Stage.{Stage}
use Rattle.cf_review.specs.declared.following.Stage.TheVariants as stage
use Rattle.cf_review.specs.declared.remark.Remark.{Remark}
use Rattle.cf_review.specs.declared.reviewer.Reviewer.{Reviewer}
use Rattle.cf_review.specs.declared.stamps.Stamp.{Stamp}
use Rattle.cf_review.proofs.Growing.{begun_grows}
use Rattle.cf_review.proofs.ReadOn.{IsKnownOr, IsToldBut, element, even, heard_at, heard_of_flow, tails, told_again, told_all, told_first, told_more, told_on, told_quiet}
use Rattle.cf_review.proofs.Stamping.{stamps_on}
use Rattle.cf_review.proofs.Records.{HasLetters, inside_seen, letters_taken}

-- ---- what a record adds

get_last : {X : Type 0} (xs : List X) (x : X) → slice_get (xs ++ x ∷ []) (length xs) ≡ Some x
get_last [] x = refl
get_last (y ∷ xs) x = get_last xs x

get_before : {X : Type 0} (xs : List X) (x : X) (i : ℕ) → i ≢ length xs → slice_get (xs ++ x ∷ []) i ≡ slice_get xs i
get_before [] x zero other = absurd (other refl)
get_before [] x (suc i) other = refl
get_before (y ∷ xs) x zero other = refl
get_before (y ∷ xs) x (suc i) other = get_before xs x i (λ e. other (ap suc e))

-- places beside the first bytes of a flow are beside fewer ones too
own_fewer : (few many q : ℕ) → few ≤ many → is_own many q ≡ false → is_own few q ≡ false
own_fewer few many q low h = grind (arith, nat_tests, low, h)

-- the stamps of the records so far
abbrev stamps_in : List Record → List ℕ
stamps_in newest = map (λ (x : Record). x.stamp) (reverse newest)

stamps_more : (one : Record) (earlier : List Record) → stamps_in (one ∷ earlier) ≡ stamps_in earlier ++ one.stamp ∷ []
stamps_more one earlier =
    ap (map (λ (x : Record). x.stamp)) (reverse-append (one ∷ []) earlier) ∙ map-append (λ (x : Record). x.stamp) (reverse earlier) (one ∷ [])

stamps_count : (newest : List Record) → length (stamps_in newest) ≡ length newest
stamps_count newest = length-map (reverse newest) (λ (x : Record). x.stamp) ∙ length-reverse newest

-- the letters beside the first bytes of a flow came with a record of which this holds, or with the newest
abbrev ApartBut : (known : ℕ → Bool) → (number : ℕ) → Watched → Heard → Type 0
ApartBut known number w h =
    (q : ℕ) (l : FirstLetter) → is_own (length h.value.bytes) q ≡ false → first_letter w.carried q ≡ Some l → IsKnownOr known number l.number

-- ---- before the flow is read on

-- a record of the flow at a place was taken, and there is a place for what is read of it
pub record IsReady (assets : List Asset) (ws : List Watched) (watch : Watch) (old now : List Heard) (known : ℕ → Bool) (place number : ℕ) (before gs : List Following) : Type 0 where
  pub heard_others : (i : ℕ) → i ≢ place → slice_get now i ≡ slice_get old i
  pub others : (i : ℕ) → i ≢ place → slice_get gs i ≡ slice_get before i
  pub count : length gs ≡ length now
  pub h : Heard
  pub h_at : slice_get now place ≡ Some h
  pub g : Following
  pub g_at : slice_get gs place ≡ Some g
  pub begun : (site : SiteValue) → site_from assets h.value.asset ≡ Some site → IsBegun site h g
  pub told : (f : Flow) → slice_get watch.flows.items place ≡ Some f → IsToldBut known number f g
  pub apart : (w : Watched) → slice_get ws place ≡ Some w → ApartBut known number w h

-- the letters of a flow after a record
letters_at : (assets : List Asset) (newest earlier : List Record) (one : Record) (number : ℕ) → newest ≡ one ∷ earlier → number ≡ length earlier + 1 → (i : ℕ) (w : Watched) →
    slice_get (seen_by scope.Recording assets newest) i ≡ Some w → HasLetters number (seen_by scope.Recording assets earlier) i w
letters_at assets newest earlier one number are numbered i w at =
    subst (λ n. HasLetters n (seen_by scope.Recording assets earlier) i w) (sym numbered)
    (letters_taken assets (length earlier + 1) (packet_by scope.Recording one.link one.body) (seen_by scope.Recording assets earlier) i w (subst (λ rs. slice_get (seen_by scope.Recording assets rs) i ≡ Some w) are at))

followed_begun : (o : Option SiteValue) (site : SiteValue) (h : Heard) (g : Following) → o ≡ Some site → IsFollowed o h g → IsBegun site h g
followed_begun o site h g e is = (subst (λ x. IsFollowed x h g) e is).0

module _ (assets : List Asset) (newest : List Record) (place number stamp : ℕ) (r : Reviewer) (taken : HasTaken assets newest place number stamp r) where
  abbrev was : IsReviewing scope.Recording assets taken.earlier taken.old
  was = taken.was

  abbrev Ready : List Following → Type 0
  Ready gs = IsReady assets (seen_by scope.Recording assets newest) r.watch taken.was.heard taken.takes.now (has_stamp taken.old.stamps) place number taken.old.followings.items gs

  letters : (w : Watched) → slice_get (seen_by scope.Recording assets newest) place ≡ Some w → HasLetters number (seen_by scope.Recording assets taken.earlier) place w
  letters w at = letters_at assets newest taken.earlier taken.one number taken.are taken.numbered place w at

  -- the flow has gone on
  ready_on : (h later : Heard) → slice_get taken.was.heard place ≡ Some h → GoesOn number h later → taken.takes.now ≡ set taken.was.heard place later →
      Ready taken.old.followings.items
  ready_on h later at goes now_is =
      let low : place < length taken.was.heard = slice_get_within taken.was.heard place h at in
      let (g, g_at) = element taken.old.followings.items place (omega (arith, low, was.followed_count)) in
      let (f, t, w, f_at, w_at, is) = heard_at scope.Recording taken.old.count taken.old.watch (seen_by scope.Recording assets taken.earlier) taken.was.heard was.watches place h at in
      let later_at : slice_get taken.takes.now place ≡ Some later = ap (λ hs. slice_get hs place) now_is ∙ get_set_same taken.was.heard place later low in
      let tail = tails scope.Recording taken.old.count taken.old.watch (seen_by scope.Recording assets taken.earlier) taken.was.heard was.watches place h f at f_at in
      record {
        heard_others = λ i other. ap (λ hs. slice_get hs i) now_is ∙ get_set_other taken.was.heard place i later (λ e. other (sym e));
        others = λ i other. refl;
        count = was.followed_count ∙ sym (length-set taken.was.heard place later) ∙ ap length (sym now_is);
        h = later;
        h_at = later_at;
        g = g;
        g_at = g_at;
        begun = λ site site_is. begun_grows site h later g number goes tail.sizes
            (followed_begun (site_from assets h.value.asset) site h g (ap (site_from assets) (sym goes.grows.asset) ∙ site_is) (was.followed place h g at g_at));
        told = λ now now_at. told_on (has_stamp taken.old.stamps) number h later f now g goes tail
            (tails scope.Recording number r.watch (seen_by scope.Recording assets newest) taken.takes.now taken.takes.heard place later now later_at now_at) (was.told place f g f_at g_at);
        apart = λ v v_at q l own came.
            let longer : length later.value.bytes ≡ length h.value.bytes + length goes.grows.more = ap length goes.grows.bytes ∙ length-append h.value.bytes goes.grows.more in
            elim (letters v v_at q l came) [
              | inl (u, u_at, old) ↦ inl (was.apart place u h u_at at q l (own_fewer (length h.value.bytes) (length later.value.bytes) q (omega (arith, longer)) own) old)
              | inr new ↦ inr new
            ];
      }

  -- the flow begins
  ready_first : (h later : Heard) (g : Following) → IsNew number h → GoesOn number h later → place ≡ length taken.was.heard → taken.takes.now ≡ taken.was.heard ++ later ∷ [] → IsUnread g →
      (gs : List Following) → gs ≡ taken.old.followings.items ++ g ∷ [] → Ready gs
  ready_first h later g new goes last now_is none_read gs gs_is =
      let count = was.followed_count in
      let here : place ≡ length taken.old.followings.items = last ∙ sym count in
      let later_at : slice_get taken.takes.now place ≡ Some later = ap (λ hs. slice_get hs place) now_is ∙ ap (slice_get (taken.was.heard ++ later ∷ [])) last ∙ get_last taken.was.heard later in
      record {
        heard_others = λ i other. ap (λ hs. slice_get hs i) now_is ∙ get_before taken.was.heard later i (λ e. other (e ∙ sym last));
        others = λ i other. ap (λ xs. slice_get xs i) gs_is ∙ get_before taken.old.followings.items g i (λ e. other (e ∙ sym here));
        count = ap length gs_is ∙ length-append taken.old.followings.items (g ∷ []) ∙ ap (λ n. n + 1) count ∙ sym (length-append taken.was.heard (later ∷ [])) ∙ ap length (sym now_is);
        h = later;
        h_at = later_at;
        g = g;
        g_at = ap (λ xs. slice_get xs place) gs_is ∙ ap (slice_get (taken.old.followings.items ++ g ∷ [])) here ∙ get_last taken.old.followings.items g;
        begun = λ site site_is. none_read.begun site later (goes.base ∙ new.base);
        told = λ now now_at. told_first (has_stamp taken.old.stamps) number h later now g new goes
            (tails scope.Recording number r.watch (seen_by scope.Recording assets newest) taken.takes.now taken.takes.heard place later now later_at now_at) none_read.stage none_read.remarks;
        apart = λ v v_at q l own came. elim (letters v v_at q l came) [
          | inl (u, u_at, old) ↦ (
              let low = slice_get_within (seen_by scope.Recording assets taken.earlier) place u u_at in
              absurd (let heard_count = was.watches.heard_count in omega (arith, low, last, heard_count)))
          | inr now ↦ inr now
        ];
      }

  pub ready : (gs : List Following) → AddsMissing place r.followings.items gs → Ready gs
  ready gs adds =
      let same : r.followings.items ≡ taken.old.followings.items = ap (λ (v : Vec Following _). v.items) taken.followings in
      let count = was.followed_count in
      elim taken.takes.moves [
        | inl (h, later, at, goes, now_is) ↦ elim adds [
          | inl (other, is) ↦ subst Ready (sym (is ∙ same)) (ready_on h later at goes now_is)
          | inr (here, (g, none_read, is)) ↦ (
              let low = slice_get_within taken.was.heard place h at in
              absurd (let place_is = here ∙ ap length same in omega (arith, low, place_is, count)))
        ]
        | inr (h, later, new, goes, last, now_is) ↦ elim adds [
          | inl (other, is) ↦ absurd (other (last ∙ sym count ∙ ap length (sym same)))
          | inr (here, (g, none_read, is)) ↦ ready_first h later g new goes last now_is none_read gs (is ∙ ap (λ xs. xs ++ g ∷ []) same)
        ]
      ]

-- the stamps that are kept are of earlier records
pub newest_past : (assets : List Asset) (newest : List Record) (place number stamp : ℕ) (r : Reviewer) → HasTaken assets newest place number stamp r →
    (i : ℕ) (x : Stamp) → slice_get r.stamps i ≡ Some x → x.number < number
newest_past assets newest place number stamp r taken i x at =
    let past = taken.was.stamps.past i x (ap (λ (s : List Stamp). slice_get s i) (sym taken.stamps) ∙ at) in
    let known = stamps_count taken.earlier in
    omega (arith, past, known, taken.numbered)

-- ---- after it was read on

here_or_other : (i place : ℕ) → (i ≡ place) ⊎ (i ≢ place)
here_or_other zero zero = inl refl
here_or_other zero (suc place) = inr (λ e. omega (arith, e))
here_or_other (suc i) zero = inr (λ e. omega (arith, e))
here_or_other (suc i) (suc place) = elim (here_or_other i place) [ inl e ↦ inl (ap suc e) | inr other ↦ inr (λ e. other (omega (arith, e))) ]

no_more : {X : Type 0} (before now more : List X) → now ≡ before ++ more → length now ≤ length before → now ≡ before
no_more before now [] is few = is ∙ append-nil before
no_more before now (x ∷ more) is few = let size = ap length is ∙ length-append before (x ∷ more) in absurd (omega (arith, size, few))

-- what is heard of a flow is to an asset of the policy
assets_inside : (assets : List Asset) (newest : List Record) (records : ℕ) (watch : Watch) (hs : List Heard) → IsWatchOf scope.Recording records watch (seen_by scope.Recording assets newest) hs →
    (i : ℕ) (h : Heard) → slice_get hs i ≡ Some h → h.value.asset < length assets
assets_inside assets newest records watch hs s i h at =
    let (f, t, w, f_at, w_at, is) = heard_at scope.Recording records watch (seen_by scope.Recording assets newest) hs s i h at in
    subst (λ a. a < length assets) (sym is.flow.asset) (inside_seen assets newest i w w_at)

module _ (assets : List Asset) (newest : List Record) (place number stamp : ℕ) (r : Reviewer) (taken : HasTaken assets newest place number stamp r) (gs : List Following)
    (ready : IsReady assets (seen_by scope.Recording assets newest) r.watch taken.was.heard taken.takes.now (has_stamp taken.old.stamps) place number taken.old.followings.items gs) where
  abbrev ws : List Watched
  ws = seen_by scope.Recording assets newest

  abbrev old_ws : List Watched
  old_ws = seen_by scope.Recording assets taken.earlier

  pub in_flows : place < length r.watch.flows.items
  in_flows = let low = slice_get_within taken.takes.now place ready.h ready.h_at in omega (arith, low, taken.takes.heard.heard_count, taken.takes.heard.flow_count)

  pub in_trails : place < length r.watch.trails.items
  in_trails = let low = slice_get_within taken.takes.now place ready.h ready.h_at in omega (arith, low, taken.takes.heard.heard_count, taken.takes.heard.trail_count)

  pub in_followings : place < length gs
  in_followings = slice_get_within gs place ready.g ready.g_at

  module _ (f : Flow) (f_at : slice_get r.watch.flows.items place ≡ Some f) where
    pub tail : IsTail ready.h f
    tail = tails scope.Recording number r.watch ws taken.takes.now taken.takes.heard place ready.h f ready.h_at f_at

    pub in_assets : f.asset < length assets
    in_assets = subst (λ a. a < length assets) (sym tail.asset) (assets_inside assets newest number r.watch taken.takes.now taken.takes.heard place ready.h ready.h_at)

    module _ (site : SiteValue) (site_is : site_from assets f.asset ≡ Some site) (g : Following) (g_at : slice_get gs place ≡ Some g) where
      site_here : site_from assets ready.h.value.asset ≡ Some site
      site_here = ap (site_from assets) (sym tail.asset) ∙ site_is

      same : ready.g ≡ g
      same = same_Some ready.g g (sym ready.g_at ∙ g_at)

      pub begun_here : IsBegun site ready.h g
      begun_here = subst (IsBegun site ready.h) same (ready.begun site site_here)

      told_here : IsToldBut (has_stamp taken.old.stamps) number f g
      told_here = subst (IsToldBut (has_stamp taken.old.stamps) number f) same (ready.told f f_at)

      -- the flow is read on, and the stamp of the record is kept where it is told
      module _ (now : Following) (mid new : Reviewer) (begun_on : (h : Heard) → IsTail h f → IsBegun site h g → IsBegun site h now)
          (rest_on : (h : Heard) → IsTail h f → IsBegun site h g → IsAtRest site h now.stage now.at)
          (adds : (more : List Remark) × (now.remarks.items ≡ g.remarks.items ++ more))
          (told_now : (known : ℕ → Bool) → AllTold known f g → AllTold known f now)
          (set_is : new.followings.items ≡ set gs place now) (mid_is : mid.followings ≡ new.followings) (mid_watch : mid.watch ≡ r.watch) (watch_is : new.watch ≡ r.watch) (count_is : new.count ≡ r.count)
          (done : (has_stamp new.stamps number ≡ true) ⊎ IsDoneWith mid place number (length g.remarks.items))
          (others : (n : ℕ) → has_stamp taken.old.stamps n ≡ true → has_stamp new.stamps n ≡ true)
          (stamps_new : (stamps : List ℕ) → length stamps < number → number ≤ length stamps + 1 → AreStamps stamps taken.old.stamps → AreStamps (stamps ++ stamp ∷ []) new.stamps) where
        abbrev all : ℕ → Bool
        all = has_stamp new.stamps

        now_at : slice_get new.followings.items place ≡ Some now
        now_at = ap (λ xs. slice_get xs place) set_is ∙ get_set_same gs place now in_followings

        others_at : (i : ℕ) → i ≢ place → slice_get new.followings.items i ≡ slice_get taken.old.followings.items i
        others_at i other = ap (λ xs. slice_get xs i) set_is ∙ get_set_other gs place i now (λ e. other (sym e)) ∙ ready.others i other

        told_by : (has_stamp new.stamps number ≡ true) ⊎ IsDoneWith mid place number (length g.remarks.items) → AllTold all f now
        told_by (inl has) = told_now all (told_all (has_stamp taken.old.stamps) number all others f g told_here has)
        told_by (inr d) =
            let at : slice_get mid.followings.items place ≡ Some now = ap (λ (v : Vec Following _). slice_get v.items place) mid_is ∙ now_at in
            let kept : now.remarks.items ≡ g.remarks.items = no_more g.remarks.items now.remarks.items adds.0 adds.1 (d.none now at) in
            told_quiet (has_stamp taken.old.stamps) number all others f g told_here now kept (d.quiet f now (ap (λ (w : Watch). slice_get w.flows.items place) mid_watch ∙ f_at) at)

        apart_by : (has_stamp new.stamps number ≡ true) ⊎ IsDoneWith mid place number (length g.remarks.items) → (w : Watched) → slice_get ws place ≡ Some w → ApartAre all w ready.h
        apart_by (inl has) w w_at q l own came = elim (ready.apart w w_at q l own came) [ inl k ↦ others l.number k | inr e ↦ ap all e ∙ has ]
        apart_by (inr d) w w_at q l own came =
            let settled = subst (λ (x : Watch). IsSettled x place) mid_watch d.settled in
            absurd (none-some l (sym (settled scope.Recording number ws taken.takes.now w ready.h taken.takes.heard w_at ready.h_at q own) ∙ came))

        followed_at : (i : ℕ) (h : Heard) (x : Following) → slice_get taken.takes.now i ≡ Some h → slice_get new.followings.items i ≡ Some x → IsFollowed (site_from assets h.value.asset) h x
        followed_at i h x h_at x_at = elim (here_or_other i place) [
          | inl here ↦ (
              let h_is : ready.h ≡ h = same_Some ready.h h (sym ready.h_at ∙ ap (slice_get taken.takes.now) (sym here) ∙ h_at) in
              let x_is : now ≡ x = same_Some now x (sym now_at ∙ ap (slice_get new.followings.items) (sym here) ∙ x_at) in
              subst (λ y. IsFollowed (site_from assets h.value.asset) h y) x_is
              (subst (λ k. IsFollowed (site_from assets k.value.asset) k now) h_is
              (subst (λ o. IsFollowed o ready.h now) (sym site_here) (begun_on ready.h tail begun_here, rest_on ready.h tail begun_here))))
          | inr other ↦ taken.was.followed i h x (sym (ready.heard_others i other) ∙ h_at) (sym (others_at i other) ∙ x_at)
        ]

        told_at : (i : ℕ) (x : Flow) (y : Following) → slice_get r.watch.flows.items i ≡ Some x → slice_get new.followings.items i ≡ Some y → AllTold all x y
        told_at i x y x_at y_at = elim (here_or_other i place) [
          | inl here ↦
              subst (λ z. AllTold all x z) (same_Some now y (sym now_at ∙ ap (slice_get new.followings.items) (sym here) ∙ y_at))
              (subst (λ z. AllTold all z now) (same_Some f x (sym f_at ∙ ap (slice_get r.watch.flows.items) (sym here) ∙ x_at)) (told_by done))
          | inr other ↦ (
              let (h, h_at) = heard_of_flow scope.Recording number r.watch ws taken.takes.now taken.takes.heard i x x_at in
              let old_at = sym (ready.heard_others i other) ∙ h_at in
              let (e, t, w, e_at, w_at, is) = heard_at scope.Recording taken.old.count taken.old.watch old_ws taken.was.heard taken.was.watches i h old_at in
              told_more (has_stamp taken.old.stamps) all others x y
              (told_again (has_stamp taken.old.stamps) h e x y (tails scope.Recording taken.old.count taken.old.watch old_ws taken.was.heard taken.was.watches i h e old_at e_at)
              (tails scope.Recording number r.watch ws taken.takes.now taken.takes.heard i h x h_at x_at) (taken.was.told i e y e_at (sym (others_at i other) ∙ y_at))))
        ]

        apart_at : (i : ℕ) (w : Watched) (h : Heard) → slice_get ws i ≡ Some w → slice_get taken.takes.now i ≡ Some h → ApartAre all w h
        apart_at i w h w_at h_at = elim (here_or_other i place) [
          | inl here ↦ subst (ApartAre all w) (same_Some ready.h h (sym ready.h_at ∙ ap (slice_get taken.takes.now) (sym here) ∙ h_at)) (apart_by done w (ap (slice_get ws) (sym here) ∙ w_at))
          | inr other ↦ (λ q l own came. others l.number
              (taken.was.apart i w h (sym (taken.takes.others i (λ e. other (sym (same_Some place i e)))) ∙ w_at) (sym (ready.heard_others i other) ∙ h_at) q l own came))
        ]

        pub reviews_on : IsReviewing scope.Recording assets newest new
        reviews_on =
            let numbered = taken.numbered in
            let few = taken.few in
            let total : new.count ≡ number = count_is ∙ taken.count in
            let size : length newest ≡ length taken.earlier + 1 = ap length taken.are ∙ omega arith in
            let known = stamps_count taken.earlier in
            record {
              recording = refl;
              within = taken.was.within;
              count = omega (arith, size, numbered, total);
              few = omega (arith, few, total);
              heard = taken.takes.now;
              watches = subst (λ (w : Watch). IsWatchOf scope.Recording new.count w ws taken.takes.now) (sym watch_is)
                  (subst (λ (n : ℕ). IsWatchOf scope.Recording n r.watch ws taken.takes.now) (sym total) taken.takes.heard);
              inside = assets_inside assets newest number r.watch taken.takes.now taken.takes.heard;
              followed_count = ap length set_is ∙ length-set gs place now ∙ ready.count;
              followed = followed_at;
              stamps = subst (λ xs. AreStamps xs new.stamps) (sym (ap stamps_in taken.are ∙ stamps_more taken.one taken.earlier ∙ ap (λ x. stamps_in taken.earlier ++ x ∷ []) taken.stamped))
                  (stamps_new (stamps_in taken.earlier) (omega (arith, known, numbered)) (omega (arith, known, numbered)) taken.was.stamps);
              told = λ i x y x_at y_at. told_at i x y (ap (λ (w : Watch). slice_get w.flows.items i) (sym watch_is) ∙ x_at) y_at;
              apart = apart_at;
            }

-- ---- the first bytes of a flow are kept no more

forgets_other : (place count : ℕ) (hs : List Heard) (i : ℕ) → i ≢ place → slice_get (forgets place count hs) i ≡ slice_get hs i
forgets_other place count [] i other = refl
forgets_other zero count (h ∷ hs) zero other = absurd (other refl)
forgets_other zero count (h ∷ hs) (suc i) other = refl
forgets_other (suc place) count (h ∷ hs) zero other = refl
forgets_other (suc place) count (h ∷ hs) (suc i) other = forgets_other place count hs i (λ e. other (ap suc e))

forgets_here : (place count : ℕ) (hs : List Heard) (h : Heard) → slice_get hs place ≡ Some h → slice_get (forgets place count hs) place ≡ Some (record h { base = h.base + count })
forgets_here place count [] h e = absurd (none-some h e)
forgets_here zero count (x ∷ hs) h e = ap (λ (y : Heard). Some (record y { base = y.base + count })) (same_Some x h e)
forgets_here (suc place) count (x ∷ hs) h e = forgets_here place count hs h e

forgets_length : (place count : ℕ) (hs : List Heard) → length (forgets place count hs) ≡ length hs
forgets_length place count [] = refl
forgets_length zero count (h ∷ hs) = refl
forgets_length (suc place) count (h ∷ hs) = ap suc (forgets_length place count hs)

pub born_at : (assets : List Asset) (newest : List Record) (r : Reviewer) → IsReviewing scope.Recording assets newest r → (place : ℕ) (f : Flow) → slice_get r.watch.flows.items place ≡ Some f →
    length f.born ≡ length f.bytes.items
born_at assets newest r is place f at =
    let ws = seen_by scope.Recording assets newest in
    let (h, h_at) = heard_of_flow scope.Recording r.count r.watch ws is.heard is.watches place f at in
    even h f (tails scope.Recording r.count r.watch ws is.heard is.watches place h f h_at at)

-- what is not read yet is the same
unread_later : (s : Stage) (at count : ℕ) (h : Heard) (f later : Flow) → IsTail h f → IsTail (record h { base = h.base + count }) later → ((r : Reader) → s ≡ stage.Reads r → count ≤ at) →
    (s ≡ stage.Waits → count ≡ 0) → unread s (at - count) later ≡ unread s at f
unread_later stage.Waits at count h f later was is reads waits =
    let none = waits refl in
    let base : h.base + count ≡ h.base = omega (arith, none) in
    is.born ∙ ap (λ n. drop n h.value.born) base ∙ sym was.born
unread_later (stage.Reads r) at count h f later was is reads waits =
    let low = reads r refl in
    let place : h.base + count + (at - count) ≡ h.base + at = omega (arith, low) in
    ap (drop (at - count)) is.born ∙ drop-drop (at - count) (h.base + count) h.value.born ∙ ap (λ n. drop n h.value.born) place ∙ sym (drop-drop at h.base h.value.born) ∙ ap (drop at) (sym was.born)
unread_later stage.Broke at count h f later was is reads waits = refl

module _ (assets : List Asset) (newest : List Record) (place count : ℕ) (r : Reviewer) (is : IsReviewing scope.Recording assets newest r) (g now : Following) (g_at : slice_get r.followings.items place ≡ Some g)
    (watch : Watch) (heard_is : (records : ℕ) (vs : List Watched) (hs : List Heard) → IsWatchOf scope.Recording records r.watch vs hs → IsWatchOf scope.Recording records watch vs (forgets place count hs))
    (begun_later : (site : SiteValue) (h later : Heard) → later.value ≡ h.value → later.base ≡ h.base + count → IsBegun site h g → IsBegun site later now)
    (rest_later : (site : SiteValue) (h later : Heard) → later.value ≡ h.value → later.base ≡ h.base + count → IsAtRest site h g.stage g.at → IsAtRest site later now.stage now.at)
    (stage_is : now.stage ≡ g.stage) (at_is : now.at ≡ g.at - count) (remarks_are : now.remarks ≡ g.remarks)
    (reads : (x : Reader) → g.stage ≡ stage.Reads x → count ≤ g.at) (waits : g.stage ≡ stage.Waits → count ≡ 0) where
  abbrev seen : List Watched
  seen = seen_by scope.Recording assets newest

  later_hs : IsWatchOf scope.Recording r.count watch seen (forgets place count is.heard)
  later_hs = heard_is r.count seen is.heard is.watches

  in_gs : place < length r.followings.items
  in_gs = slice_get_within r.followings.items place g g_at

  here_before : (h : Heard) × (slice_get is.heard place ≡ Some h)
  here_before = let low = in_gs in element is.heard place (omega (arith, low, is.followed_count))

  -- the flow at a place, and how it was before
  was_heard : (i : ℕ) (h : Heard) → slice_get (forgets place count is.heard) i ≡ Some h → (old : Heard) × (slice_get is.heard i ≡ Some old) × (h.value ≡ old.value) × (i ≡ place → h.base ≡ old.base + count) × (i ≢ place → old ≡ h)
  was_heard i h at = elim (here_or_other i place) [
    | inl here ↦ (
        let (old, old_at) = here_before in
        let same : record old { base = old.base + count } ≡ h = same_Some (record old { base = old.base + count }) h (sym (forgets_here place count is.heard old old_at) ∙ ap (slice_get (forgets place count is.heard)) (sym here) ∙ at) in
        (old, ap (slice_get is.heard) here ∙ old_at, ap (λ (x : Heard). x.value) (sym same), (λ e. ap (λ (x : Heard). x.base) (sym same)), (λ other. absurd (other here))))
    | inr other ↦ (h, sym (forgets_other place count is.heard i other) ∙ at, refl, (λ e. absurd (other e)), (λ e. refl))
  ]

  followed_later : (o : Option SiteValue) (h later : Heard) → later.value ≡ h.value → later.base ≡ h.base + count → IsFollowed o h g → IsFollowed o later now
  followed_later None h later v b x = x
  followed_later (Some site) h later v b x = (begun_later site h later v b x.0, rest_later site h later v b x.1)

  told_later : (f : Flow) → slice_get watch.flows.items place ≡ Some f → AllTold (has_stamp r.stamps) f now
  told_later f f_at =
      let (h, h_at) = here_before in
      let (old, t, w, old_at, w_at, heard) = heard_at scope.Recording r.count r.watch seen is.heard is.watches place h h_at in
      let was = tails scope.Recording r.count r.watch seen is.heard is.watches place h old h_at old_at in
      let tail = tails scope.Recording r.count watch seen (forgets place count is.heard) later_hs place (record h { base = h.base + count }) f (forgets_here place count is.heard h h_at) f_at in
      let told = is.told place old g old_at g_at in
      let unread_is : unread now.stage now.at f ≡ unread g.stage g.at old =
      ap (λ s. unread s now.at f) stage_is ∙ ap (λ n. unread g.stage n f) at_is ∙ unread_later g.stage g.at count h old f was tail reads waits in
      record {
        remarks = subst (λ (v : Vec Remark _). All (λ x. has_stamp r.stamps x.at_record ≡ true) (map remark_value v.items)) (sym remarks_are) told.remarks;
        unread = subst (All (λ n. has_stamp r.stamps n ≡ true)) (sym unread_is) told.unread;
        midstream = λ n e. told.midstream n (was.midstream ∙ sym tail.midstream ∙ e);
        conflict = λ c e. told.conflict c (was.conflict ∙ sym tail.conflict ∙ e);
      }

  pub forgets_on : IsReviewing scope.Recording assets newest (record { watch = watch; followings = with_item r.followings place now; stamps = r.stamps; count = r.count })
  forgets_on = record {
    recording = refl;
    within = is.within;
    count = is.count;
    few = is.few;
    heard = forgets place count is.heard;
    watches = later_hs;
    inside = assets_inside assets newest r.count watch (forgets place count is.heard) later_hs;
    followed_count = length-set r.followings.items place now ∙ is.followed_count ∙ sym (forgets_length place count is.heard);
    followed = λ i h x h_at x_at.
        let (old, old_at, v, b, same) = was_heard i h h_at in
        elim (here_or_other i place) [
          | inr other ↦ (
              let y = sym (get_set_other r.followings.items place i now (λ e. other (sym e))) ∙ x_at in
              subst (λ z. IsFollowed (site_from assets z.value.asset) z x) (same other) (is.followed i old x old_at y))
          | inl here ↦
              subst (λ z. IsFollowed (site_from assets h.value.asset) h z)
              (same_Some now x (sym (get_set_same r.followings.items place now in_gs) ∙ ap (slice_get (set r.followings.items place now)) (sym here) ∙ x_at))
              (subst (λ (z : FlowValue). IsFollowed (site_from assets z.asset) h now) (sym v)
              (followed_later (site_from assets old.value.asset) old h v (b here) (is.followed i old g old_at (ap (slice_get r.followings.items) here ∙ g_at))))
        ];
    stamps = is.stamps;
    told = λ i f x f_at x_at. elim (here_or_other i place) [
      | inl here ↦
          subst (λ z. AllTold (has_stamp r.stamps) f z)
          (same_Some now x (sym (get_set_same r.followings.items place now in_gs) ∙ ap (slice_get (set r.followings.items place now)) (sym here) ∙ x_at))
          (told_later f (ap (slice_get watch.flows.items) (sym here) ∙ f_at))
      | inr other ↦ (
          let y = sym (get_set_other r.followings.items place i now (λ e. other (sym e))) ∙ x_at in
          let (h, h_at) = heard_of_flow scope.Recording r.count watch seen (forgets place count is.heard) later_hs i f f_at in
          let old_at = sym (forgets_other place count is.heard i other) ∙ h_at in
          let (e, t, w, e_at, w_at, heard) = heard_at scope.Recording r.count r.watch seen is.heard is.watches i h old_at in
          told_again (has_stamp r.stamps) h e f x (tails scope.Recording r.count r.watch seen is.heard is.watches i h e old_at e_at)
          (tails scope.Recording r.count watch seen (forgets place count is.heard) later_hs i h f h_at f_at) (is.told i e x e_at y))
    ];
    apart = λ i w h w_at h_at.
        let (old, old_at, v, b, same) = was_heard i h h_at in
        λ q l own came. is.apart i w old w_at old_at q l (subst (λ (z : FlowValue). is_own (length z.bytes) q ≡ false) v own) came;
  }

-- ---- a record is taken

module _ (by : Scope) (assets : List Asset) (newest : List Record) (r : Reviewer) (is : IsReviewing by assets newest r) where
  plain : IsReviewing scope.Recording assets newest r
  plain = subst (λ b. IsReviewing b assets newest r) is.recording is

  -- it watches records
  pub has_heard : HasHeard by (r.count + 1 - 1) r.watch
  has_heard =
      let before : r.count ≡ r.count + 1 - 1 = omega arith in (
        seen_by scope.Recording assets newest,
        plain.heard,
        subst (λ b. IsWatchOf b (r.count + 1 - 1) r.watch (seen_by scope.Recording assets newest) plain.heard) (sym is.recording)
            (subst (λ (n : ℕ). IsWatchOf scope.Recording n r.watch (seen_by scope.Recording assets newest) plain.heard) before plain.watches),
      )

  pub by_scope : (more : List Record) (new : Reviewer) → IsReviewing scope.Recording assets more new → IsReviewing by assets more new
  by_scope more new h = subst (λ b. IsReviewing b assets more new) (sym is.recording) h

  module _ (one : Record) (watch : Watch) where
    abbrev after : Reviewer
    after = record { watch = watch; followings = r.followings; stamps = r.stamps; count = r.count + 1 }

    module _ (place : Option ℕ) (h : (vs : List Watched) (hs : List Heard) → IsWatchOf by (r.count + 1 - 1) r.watch vs hs →
        TakesRecord by (r.count + 1) place watch vs (with_frame by assets (r.count + 1) (packet_by by one.link one.body) vs) hs) where
      took : TakesRecord scope.Recording (r.count + 1) place watch (seen_by scope.Recording assets newest) (seen_by scope.Recording assets (one ∷ newest)) plain.heard
      took =
          let seen = seen_by scope.Recording assets newest in
          let before : r.count ≡ r.count + 1 - 1 = omega arith in
          let size : r.count + 1 ≡ length newest + 1 = ap (λ n. n + 1) (sym is.count) in
          let heard = subst (λ (n : ℕ). IsWatchOf scope.Recording n r.watch seen plain.heard) before plain.watches in
          subst (λ (n : ℕ). TakesRecord scope.Recording (r.count + 1) place watch seen (with_frame scope.Recording assets n (packet_by scope.Recording one.link one.body) seen) plain.heard) size
          (subst (λ b. (vs : List Watched) (hs : List Heard) → IsWatchOf b (r.count + 1 - 1) r.watch vs hs →
          TakesRecord b (r.count + 1) place watch vs (with_frame b assets (r.count + 1) (packet_by b one.link one.body) vs) hs) is.recording h seen plain.heard heard)

    pub taken_at : (place : ℕ) → r.count < 134217728 → ((vs : List Watched) (hs : List Heard) → IsWatchOf by (r.count + 1 - 1) r.watch vs hs →
        TakesRecord by (r.count + 1) (Some place) watch vs (with_frame by assets (r.count + 1) (packet_by by one.link one.body) vs) hs) →
        HasTaken assets (one ∷ newest) place (r.count + 1) one.stamp after
    taken_at place few h = record {
      one = one;
      earlier = newest;
      are = refl;
      stamped = refl;
      numbered = ap (λ n. n + 1) (sym is.count);
      few = omega (arith, few);
      old = r;
      was = plain;
      count = refl;
      takes = took (Some place) h;
      followings = refl;
      stamps = refl;
    }

    -- a record of no flow
    pub passes : r.count < 134217728 → ((vs : List Watched) (hs : List Heard) → IsWatchOf by (r.count + 1 - 1) r.watch vs hs →
        TakesRecord by (r.count + 1) None watch vs (with_frame by assets (r.count + 1) (packet_by by one.link one.body) vs) hs) →
        IsReviewing scope.Recording assets (one ∷ newest) after
    passes few h =
        let t = took None h in
        let seen = seen_by scope.Recording assets newest in
        let now = seen_by scope.Recording assets (one ∷ newest) in
        let same : t.now ≡ plain.heard = t.moves in
        let size = is.count in
        record {
          recording = refl;
          within = is.within;
          count = omega (arith, size);
          few = omega (arith, few);
          heard = t.now;
          watches = t.heard;
          inside = assets_inside assets (one ∷ newest) (r.count + 1) watch t.now t.heard;
          followed_count = plain.followed_count ∙ ap length (sym same);
          followed = λ i x g x_at g_at. plain.followed i x g (ap (λ hs. slice_get hs i) (sym same) ∙ x_at) g_at;
          stamps = subst (λ xs. AreStamps xs r.stamps) (sym (stamps_more one newest)) (stamps_on (stamps_in newest) one.stamp r.stamps plain.stamps);
          told = λ i f g f_at g_at.
              let (x, x_at) = heard_of_flow scope.Recording (r.count + 1) watch now t.now t.heard i f f_at in
              let old_at = ap (λ hs. slice_get hs i) (sym same) ∙ x_at in
              let (e, u, w, e_at, w_at, heard) = heard_at scope.Recording r.count r.watch seen plain.heard plain.watches i x old_at in
              told_again (has_stamp r.stamps) x e f g (tails scope.Recording r.count r.watch seen plain.heard plain.watches i x e old_at e_at)
              (tails scope.Recording (r.count + 1) watch now t.now t.heard i x f x_at f_at) (plain.told i e g e_at g_at);
          apart = λ i w x w_at x_at. plain.apart i w x (sym (t.others i (λ e. none-some i e)) ∙ w_at) (ap (λ hs. slice_get hs i) (sym same) ∙ x_at);
        }
