-- The remarks on a flow that was read as its bytes came, or waited to be read.
use Rattle.std.proofs.Common.{◌≡◌, ◌+◌, ◌-◌, ◌<◌, ◌^◌, ◌∙◌, ◌⊎◌, ℕ, List, [], ◌∷◌, ◌++◌, Bool, true, length, map, min, drop, take, get_or, slice_get, Option, None, Some, All, refl, sym, ap, subst, arith, inl, inr}
use Rattle.std.proofs.lemmas.List.{append-nil, length-drop, map_more}
use Rattle.std.proofs.lemmas.List.Elements.{All-append, All-cons, All-nil}
use Rattle.std.proofs.lemmas.Option.{slice_get-get_or}
use Rattle.cf_judge.specs.Plain.{AreRead, Breaks, Whole}
use Rattle.cf_judge.specs.declared.front.Reader.{Reader}
use Rattle.cf_lane.specs.Unit.{SpellsUnit}
use Rattle.cf_policy.specs.Site.{SiteValue, site_from}
use Rattle.cf_policy.specs.declared.Asset.{Asset}
use Rattle.cf_view.specs.Framing.{IsPartial}
use Rattle.cf_view.specs.declared.Endpoint.{Endpoint}
use Rattle.cf_watch.specs.FlowValue.{FlowValue, flow_value}
use Rattle.cf_watch.specs.Trail.{Heard}
use Rattle.cf_watch.specs.declared.Conflict.{Conflict}
use Rattle.cf_watch.specs.declared.Flow.{Flow}
use Rattle.cf_review.proofs.FollowedOn.{place_behind}
use Rattle.cf_review.proofs.Growing.{read_part}
use Rattle.cf_review.proofs.Reading.{adds_review, reviewed_on}
use Rattle.cf_review.specs.FirstUnit.{IsReadPart, from_place}
use Rattle.cf_review.specs.Follow.{AllTold, HasBroken, IsAtRest, IsFollowed, IsStaged, IsTail, SoFar, Waits}
use Rattle.cf_review.specs.Remark.{RemarkValue}
use Rattle.cf_review.specs.Review.{AddsReview, AddsUnits, AreReviewed, conflict_remarks, midstream_remarks}
use Rattle.cf_review.specs.Reviewer.{AreFollowed}
use Rattle.cf_review.specs.declared.following.Following.{Following}
use Rattle.cf_review.specs.declared.following.Stage.{Stage}
use Rattle.cf_review.specs.declared.following.Stage.TheVariants as stage

-- ---- what is kept of a flow

abbrev of_parts : Endpoint → ℕ → Option ℕ → List ℕ → List ℕ → Option Conflict → FlowValue
of_parts client asset midstream bytes born conflict =
    record { client = client; asset = asset; midstream = midstream; bytes = bytes; born = born; conflict = conflict }

module _ (h : Heard) (f : Flow) (t : IsTail h f) where
  -- all of its bytes are kept
  pub all_here : h.base ≡ 0 → flow_value f ≡ h.value
  all_here none =
      let bytes : f.bytes.items ≡ h.value.bytes = t.bytes ∙ ap (λ n. drop n h.value.bytes) none in
      let born : f.born ≡ h.value.born = t.born ∙ ap (λ n. drop n h.value.born) none in
      ap (λ x. of_parts x f.asset f.midstream f.bytes.items f.born f.conflict) t.client
      ∙ ap (λ x. of_parts h.value.client x f.midstream f.bytes.items f.born f.conflict) t.asset
      ∙ ap (λ x. of_parts h.value.client h.value.asset x f.bytes.items f.born f.conflict) t.midstream
      ∙ ap (λ x. of_parts h.value.client h.value.asset h.value.midstream x f.born f.conflict) bytes
      ∙ ap (λ x. of_parts h.value.client h.value.asset h.value.midstream h.value.bytes x f.conflict) born
      ∙ ap (λ x. of_parts h.value.client h.value.asset h.value.midstream h.value.bytes h.value.born x) t.conflict

  -- each byte that is kept has a record
  pub even_tail : length f.born ≡ length f.bytes.items
  even_tail =
      ap length t.born ∙ length-drop h.base h.value.born ∙ ap (λ n. n - h.base) t.sizes ∙ sym (length-drop h.base h.value.bytes) ∙ ap length (sym t.bytes)

  midstream_by : (o : Option ℕ) → midstream_remarks (flow_value f) o ≡ midstream_remarks h.value o
  midstream_by None = refl
  midstream_by (Some number) = let client = t.client in let asset = t.asset in cc

  conflict_by : (o : Option Conflict) → conflict_remarks (flow_value f) o ≡ conflict_remarks h.value o
  conflict_by None = refl
  conflict_by (Some c) = let client = t.client in let asset = t.asset in cc

  pub midstream_told : midstream_remarks (flow_value f) f.midstream ≡ midstream_remarks h.value h.value.midstream
  midstream_told = midstream_by f.midstream ∙ ap (midstream_remarks h.value) t.midstream

  pub conflict_told : conflict_remarks (flow_value f) f.conflict ≡ conflict_remarks h.value h.value.conflict
  conflict_told = conflict_by f.conflict ∙ ap (conflict_remarks h.value) t.conflict

-- ---- the remarks on a flow, behind others

module _ (site : SiteValue) (f : FlowValue) (admitted : ℕ) (units before now : List RemarkValue) (added : now ≡ before ++ units) where
  -- its bytes end where those end that were read
  units_read : (place : ℕ) (r : Reader) → SoFar site f [] place r admitted units → Waits site f place → AddsUnits site f before now admitted
  units_read place r so waits = record {
    judged = so.units;
    ending = Whole;
    are_read = subst (λ xs. AreRead site f.client.address [] f.bytes f.born xs Whole) (append-nil so.units)
        (subst (λ xs. AreRead site f.client.address [] f.bytes xs (so.units ++ []) Whole) (append-nil f.born)
        (subst (λ xs. AreRead site f.client.address [] xs (f.born ++ []) (so.units ++ []) Whole) (append-nil f.bytes)
        (so.leads [] [] [] Whole (subst (IsPartial (SpellsUnit site.first.protocol)) (sym (append-nil (drop place f.bytes))) waits))));
    admitted_is = so.admitted_is;
    remarks = added ∙ ap (λ xs. before ++ xs) (so.told ∙ sym (append-nil _));
  }

  -- its bytes break
  units_broke : HasBroken site f [] admitted units → AddsUnits site f before now admitted
  units_broke b = record {
    judged = b.units;
    ending = Breaks b.number b.reason;
    are_read = subst (λ xs. AreRead site f.client.address [] f.bytes xs b.units (Breaks b.number b.reason)) (append-nil f.born)
        (subst (λ xs. AreRead site f.client.address [] xs (f.born ++ []) b.units (Breaks b.number b.reason)) (append-nil f.bytes) (b.breaks [] []));
    admitted_is = b.admitted_is;
    remarks = added ∙ ap (λ xs. before ++ xs) b.told;
  }

module _ (site : SiteValue) (h : Heard) (f : Flow) (t : IsTail h f) (start first second now : List RemarkValue)
    (one : first ≡ start ++ midstream_remarks (flow_value f) f.midstream) (two : second ≡ first ++ conflict_remarks (flow_value f) f.conflict) where
  amid : first ≡ start ++ midstream_remarks h.value h.value.midstream
  amid = one ∙ ap (λ xs. start ++ xs) (midstream_told h f t)

  conflicting : second ≡ first ++ conflict_remarks h.value h.value.conflict
  conflicting = two ∙ ap (λ xs. first ++ xs) (conflict_told h f t)

  -- it was read as its bytes came
  pub read_before : (s : Stage) (at admitted : ℕ) (units : List RemarkValue) → (s ≡ stage.Waits → ⊥) → IsStaged site h s at admitted units →
      IsAtRest site h s at → now ≡ second ++ units → AddsReview site h.value start now admitted
  read_before stage.Waits at admitted units other staged rest added = absurd (other refl)
  read_before (stage.Reads r) at admitted units other staged rest added =
      let p = site.first.protocol in
      let v = from_place staged.start h.value in
      let partial : Waits site v (h.base + at - staged.start) =
      subst (IsPartial (SpellsUnit p)) (sym (place_behind staged.start (h.base + at) h.value.bytes staged.behind)) rest in
      adds_review site h.value staged.start start first second now admitted (read_part p h.value staged.start staged.starts) amid conflicting
      (units_read site v admitted units second now added (h.base + at - staged.start) r staged.so_far partial)
  read_before stage.Broke at admitted units other staged rest added =
      let p = site.first.protocol in
      adds_review site h.value staged.start start first second now admitted (read_part p h.value staged.start staged.starts) amid conflicting
      (units_broke site (from_place staged.start h.value) admitted units second now added staged.broken)

  -- it waited
  pub read_now : (place at before admitted : ℕ) (units : List RemarkValue) → IsStaged site h stage.Waits at before units →
      IsReadPart site.first.protocol (flow_value f) (from_place place (flow_value f)) → AddsUnits site (from_place place (flow_value f)) second now admitted →
      AddsReview site h.value start now admitted
  read_now place at before admitted units staged part adds =
      let same = all_here h f t staged.0 in
      adds_review site h.value place start first second now admitted
      (subst (λ x. IsReadPart site.first.protocol x (from_place place x)) same part) amid conflicting
      (subst (λ x. AddsUnits site (from_place place x) second now admitted) same adds)

-- a stage that is read, or broke, is another than that which waits
pub not_waiting : (s : Stage) → ((r : Reader) × (s ≡ stage.Reads r)) ⊎ (s ≡ stage.Broke) → s ≡ stage.Waits → ⊥
not_waiting s (inl (r, is)) e = cc
not_waiting s (inr is) e = cc

-- ---- the flow at a place, of all

module _ (assets : List Asset) (hs : List Heard) (flows : List Flow) (followings : List Following) (are : AreFollowed assets hs flows followings)
    (i : ℕ) (f : Flow) (inside : i < length followings) (in_flows : slice_get flows i ≡ Some f) where
  -- it was heard
  abbrev heard_at : Heard
  heard_at = get_or hs i (record { value = flow_value f; base = 0 })

  is_there : slice_get hs i ≡ Some heard_at
  is_there = slice_get-get_or hs i (record { value = flow_value f; base = 0 }) (omega (arith, inside, are.following_count))

  tail_at : IsTail heard_at f
  tail_at = are.tails i heard_at f is_there in_flows

  pub asset_inside : f.asset < length assets
  asset_inside = subst (λ n. n < length assets) (sym tail_at.asset) (are.inside i heard_at is_there)

  -- and followed
  module _ (g : Following) (in_followings : slice_get followings i ≡ Some g) (site : SiteValue) (at : site_from assets f.asset ≡ Some site) where
    followed_at : IsFollowed (Some site) heard_at g
    followed_at = subst (λ o. IsFollowed o heard_at g) (ap (site_from assets) (sym tail_at.asset) ∙ at) (are.followed i heard_at g is_there in_followings)

    pub is_followed : (h : Heard) × IsTail h f × IsFollowed (Some site) h g
    is_followed = (heard_at, tail_at, followed_at)

    -- with it one more is reviewed
    pub reviewed_more : (admitted more counted : ℕ) (old new : List RemarkValue) → AreReviewed assets (map (λ h. h.value) (take i hs)) admitted old →
        ((h : Heard) → IsTail h f → IsFollowed (Some site) h g → AddsReview site h.value old new more) → min (admitted + more) (2 ^ 64 - 1) ≡ counted →
        AreReviewed assets (map (λ h. h.value) (take (i + 1) hs)) counted new
    reviewed_more admitted more counted old new so adds is =
        let values : map (λ (h : Heard). h.value) (take i hs) ++ heard_at.value ∷ [] ≡ map (λ (h : Heard). h.value) (take (i + 1) hs) =
        sym (map_more (λ (h : Heard). h.value) hs i (record { value = flow_value f; base = 0 }) (omega (arith, inside, are.following_count))) in
        let there : site_from assets heard_at.value.asset ≡ Some site = ap (site_from assets) (sym tail_at.asset) ∙ at in
        subst (λ fs. AreReviewed assets fs counted new) values
        (subst (λ n. AreReviewed assets (map (λ h. h.value) (take i hs) ++ heard_at.value ∷ []) n new) is
        (reviewed_on assets (map (λ h. h.value) (take i hs)) admitted more old new heard_at.value site so there (adds heard_at tail_at followed_at)))

-- ---- the records that they are of

module _ (known : ℕ → Bool) where
  abbrev AreOf : List RemarkValue → Type 0
  AreOf rs = All (λ (r : RemarkValue). known r.at_record ≡ true) rs

  one_of : (r : RemarkValue) → known r.at_record ≡ true → AreOf (r ∷ [])
  one_of r k = All-cons (λ (x : RemarkValue). known x.at_record ≡ true) r [] k (All-nil (λ (x : RemarkValue). known x.at_record ≡ true))

  midstream_of : (f : FlowValue) (o : Option ℕ) → ((number : ℕ) → o ≡ Some number → known number ≡ true) → AreOf (midstream_remarks f o)
  midstream_of f None k = All-nil (λ (x : RemarkValue). known x.at_record ≡ true)
  midstream_of f (Some number) k = one_of _ (k number refl)

  conflict_of : (f : FlowValue) (o : Option Conflict) → ((c : Conflict) → o ≡ Some c → known c.at_record ≡ true) → AreOf (conflict_remarks f o)
  conflict_of f None k = All-nil (λ (x : RemarkValue). known x.at_record ≡ true)
  conflict_of f (Some c) k = one_of _ (k c refl)

  pub more_of : (old more new : List RemarkValue) → new ≡ old ++ more → AreOf old → AreOf more → AreOf new
  more_of old more new is a b = subst AreOf (sym is) (All-append (λ (r : RemarkValue). known r.at_record ≡ true) old more a b)

  module _ (f : Flow) (g : Following) (told : AllTold known f g) (start first second : List RemarkValue) (one : first ≡ start ++ midstream_remarks (flow_value f) f.midstream)
      (two : second ≡ first ++ conflict_remarks (flow_value f) f.conflict) where
    -- what is told before its units
    pub before_of : AreOf start → AreOf second
    before_of a =
        more_of first _ second two (more_of start _ first one a (midstream_of (flow_value f) f.midstream told.midstream))
        (conflict_of (flow_value f) f.conflict told.conflict)
