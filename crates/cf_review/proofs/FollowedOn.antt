-- A flow that is read as its bytes come, after its units were read on.
use Rattle.std.proofs.Common.{◌≡◌, ◌+◌, ◌-◌, ◌≤◌, ◌⊎◌, ◌∙◌, Bool, ℕ, true, List, [], All, Option, None, Some, Result, Err, Ok, drop, length, map, refl, sym, ap, subst, inl, inr, arith}
use Rattle.std.specs.Option.{is_some}
use Rattle.std.specs.Prelude.{OnOk}
use Rattle.std.proofs.lemmas.List.{drop-drop, length-drop}
use Rattle.std.proofs.lemmas.List.Elements.{All-drop, All-nil}
use Rattle.cf_judge.specs.Front.{IsReaderOf}
use Rattle.cf_judge.specs.declared.front.Reader.{Reader}
use Rattle.cf_lane.specs.Unit.{SpellsUnit}
use Rattle.cf_policy.specs.Site.{SiteValue}
use Rattle.cf_view.specs.Framing.{IsPartial}
use Rattle.cf_watch.specs.FlowValue.{FlowValue}
use Rattle.cf_watch.specs.Trail.{Heard}
use Rattle.cf_watch.specs.declared.flow.Flow.{Flow}
use Rattle.cf_review.proofs.Reading.{so_far_first}
use Rattle.cf_review.proofs.Telling.{AreKnownAt}
use Rattle.cf_policy.specs.declared.Protocol.{Protocol}
use Rattle.cf_view.specs.declared.Endpoint.{Endpoint}
use Rattle.cf_review.specs.FirstUnit.{UnitBegins, from_place}
use Rattle.cf_review.specs.Follow.{AllTold, BreaksBehind, HasBroken, HasRead, HasUnitBy, IsAtRest, IsBegun, IsPartOf, IsSearched, IsSearchedBy, IsStaged, IsTail, SoFar, Waits, unread}
use Rattle.cf_review.specs.Remark.{RemarkValue, remark_value}
use Rattle.cf_review.specs.declared.following.Following.{Following}
use Rattle.cf_review.specs.declared.following.Stage.{Stage}
use Rattle.cf_review.specs.declared.following.Stage.TheVariants as stage
use Rattle.cf_review.specs.declared.remark.Remark.{Remark}

-- a place of a list from another place on
pub place_behind : (start at : ℕ) (xs : List ℕ) → start ≤ at → drop (at - start) (drop start xs) ≡ drop at xs
place_behind start at xs behind = drop-drop (at - start) start xs ∙ ap (λ n. drop n xs) (omega (arith, behind))

-- the bytes that are kept of a flow are those of it from where they begin on
pub part_of_tail : (h : Heard) (f : Flow) (at : ℕ) → IsTail h f → IsPartOf h.value (h.base + at) f at
part_of_tail h f at tail = record {
  bytes = sym (drop-drop at h.base h.value.bytes) ∙ ap (drop at) (sym tail.bytes);
  born = sym (drop-drop at h.base h.value.born) ∙ ap (drop at) (sym tail.born);
  client = sym tail.client;
  asset = sym tail.asset;
}

-- and those of what it has from its start on
part_of_start : (h : Heard) (f : Flow) (start at : ℕ) → start ≤ h.base + at → IsTail h f → IsPartOf (from_place start h.value) (h.base + at - start) f at
part_of_start h f start at behind tail =
    let p = part_of_tail h f at tail in
    record {
      bytes = place_behind start (h.base + at) h.value.bytes behind ∙ p.bytes;
      born = place_behind start (h.base + at) h.value.born behind ∙ p.born;
      client = p.client;
      asset = p.asset;
    }

-- a flow whose units are not read rests
pub rests : (site : SiteValue) (h : Heard) (s : Stage) (at : ℕ) → (s ≡ stage.Waits) ⊎ (s ≡ stage.Broke) → IsAtRest site h s at
rests site h stage.Waits at is = tt
rests site h (stage.Reads r) at (inl waits) = absurd (cc waits)
rests site h (stage.Reads r) at (inr broke) = absurd (cc broke)
rests site h stage.Broke at is = tt

-- it is read from the place on that was searched for
pub begun_at : (site : SiteValue) (h : Heard) (r : Reader) (at admitted : ℕ) (remarks : List RemarkValue) → IsStaged site h stage.Waits at admitted remarks → length h.value.born ≡ length h.value.bytes →
    IsReaderOf site h.value.client.address [] r → HasUnitBy site.first.protocol h.value.midstream h.value.bytes at → IsStaged site h (stage.Reads r) at admitted remarks
begun_at site h r at admitted remarks (base, searched, none, nothing) sizes reader unit =
    let f = from_place at h.value in
    let even : length f.born ≡ length f.bytes = length-drop at h.value.born ∙ ap (λ n. n - at) sizes ∙ sym (length-drop at h.value.bytes) in
    let so : SoFar site f [] 0 r 0 remarks = so_far_first site f [] remarks r even reader nothing in
    let place : 0 ≡ h.base + at - at = omega (arith, base) in
    record {
      start = at;
      starts = record { searched = searched; unit = unit };
      behind = omega arith;
      so_far = subst (λ n. SoFar site f [] n r admitted remarks) place (subst (λ n. SoFar site f [] 0 r n remarks) (sym none) so);
    }

-- the first unit of one that begins amid its stream was found
found_by : (p : Protocol) (o : Option ℕ) (bytes : List ℕ) (at place : ℕ) → is_some o ≡ true → (IsSearched p bytes at → IsSearched p bytes place) → UnitBegins p (drop place bytes) →
    IsSearchedBy p o bytes at → IsSearchedBy p o bytes place × HasUnitBy p o bytes place
found_by p None bytes at place amid on unit was = absurd (cc amid)
found_by p (Some number) bytes at place amid on unit was = (on was, unit)

module _ (site : SiteValue) (h : Heard) (f : Flow) (tail : IsTail h f) (g : Following) (waits : g.stage ≡ stage.Waits) (begun : IsBegun site h g) (r : Reader)
    (reader : IsReaderOf site f.client.address [] r) where
  waiting : IsStaged site h stage.Waits g.at g.admitted (map remark_value g.remarks.items)
  waiting = subst (λ s. IsStaged site h s g.at g.admitted (map remark_value g.remarks.items)) waits begun

  of_client : IsReaderOf site h.value.client.address [] r
  of_client = subst (λ (c : Endpoint). IsReaderOf site c.address [] r) tail.client reader

  bytes_all : f.bytes.items ≡ h.value.bytes
  bytes_all = tail.bytes ∙ ap (λ n. drop n h.value.bytes) waiting.0

  -- its first unit was found
  pub begun_found : (place : ℕ) (p : Protocol) (bytes : List ℕ) → p ≡ site.first.protocol → bytes ≡ f.bytes.items → is_some f.midstream ≡ true →
      (IsSearched p bytes g.at → IsSearched p bytes place) → UnitBegins p (drop place bytes) →
      IsStaged site h (stage.Reads r) place g.admitted (map remark_value g.remarks.items)
  begun_found place p bytes of_site are amid on unit =
      let q = site.first.protocol in
      let xs = h.value.bytes in
      let all : bytes ≡ xs = are ∙ bytes_all in
      let found = found_by q h.value.midstream xs g.at place (ap is_some (sym tail.midstream) ∙ amid)
      (subst (λ (p : Protocol). IsSearched p xs g.at → IsSearched p xs place) of_site (subst (λ ys. IsSearched p ys g.at → IsSearched p ys place) all on))
      (subst (λ (p : Protocol). UnitBegins p (drop place xs)) of_site (subst (λ ys. UnitBegins p (drop place ys)) all unit)) waiting.1 in
      begun_at site h r place g.admitted (map remark_value g.remarks.items) (waiting.0, found.0, waiting.2, waiting.3) tail.sizes of_client found.1

pub on_ok : {T E : Type 0} (r : Result T E) (A B : Type 0) → (A → B) → OnOk r A → OnOk r B
on_ok (Ok x) A B f a = f a
on_ok (Err x) A B f a = tt

-- what may be told of it is no more than before
pub told_begun : (known : ℕ → Bool) (f : Flow) (g new : Following) (r : Reader) → g.stage ≡ stage.Waits → new.stage ≡ stage.Reads r → new.remarks.items ≡ g.remarks.items → AllTold known f g → AllTold known f new
told_begun known f g new r waits reads same all =
    let P : ℕ → Type 0 = λ n. known n ≡ true in
    record {
      remarks = subst (AreKnownAt known) (sym same) all.remarks;
      unread = subst (λ s. All P (unread s new.at f)) (sym reads) (All-drop P new.at f.born (subst (λ s. All P (unread s g.at f)) waits all.unread));
      midstream = all.midstream;
      conflict = all.conflict;
    }

-- where so many of its bytes are kept no more
pub forgotten : (site : SiteValue) (h now : Heard) (s : Stage) (at left count admitted : ℕ) (remarks : List RemarkValue) → now.value ≡ h.value → now.base ≡ h.base + count → left ≡ at - count →
    ((r : Reader) → s ≡ stage.Reads r → count ≤ at) → (s ≡ stage.Waits → count ≡ 0) → IsStaged site h s at admitted remarks → IsStaged site now s left admitted remarks
forgotten site h now stage.Waits at left count admitted remarks value base is reads waits (first, searched, none, nothing) =
    let few = waits refl in
    let same : at ≡ left = omega (arith, is, few) in (
      omega (arith, base, first, few),
      subst (λ n. IsSearchedBy site.first.protocol now.value.midstream now.value.bytes n) same
          (subst (λ (v : FlowValue). IsSearchedBy site.first.protocol v.midstream v.bytes at) (sym value) searched),
      none,
      nothing,
    )
forgotten site h now (stage.Reads r) at left count admitted remarks value base is reads waits read =
    let few = reads r refl in
    let same : h.base + at ≡ now.base + left = omega (arith, base, is, few) in
    subst (λ n. HasRead site now.value n r admitted remarks) same (subst (λ (v : FlowValue). HasRead site v (h.base + at) r admitted remarks) (sym value) read)
forgotten site h now stage.Broke at left count admitted remarks value base is reads waits broke =
    subst (λ (v : FlowValue). BreaksBehind site v admitted remarks) (sym value) broke

-- units of it are read
module _ (site : SiteValue) (f : Flow) (g : Following) (r : Reader) (reads : g.stage ≡ stage.Reads r) where
  pub is_read : (h : Heard) → IsBegun site h g → IsStaged site h (stage.Reads r) g.at g.admitted (map remark_value g.remarks.items)
  is_read h is = subst (λ s. IsStaged site h s g.at g.admitted (map remark_value g.remarks.items)) reads is

  -- as far as there are whole ones
  pub read_on : (new : Reader) (at admitted : ℕ) (remarks : List RemarkValue) → g.at ≤ at →
      ((v : FlowValue) (start : List RemarkValue) (place : ℕ) → IsPartOf v place f g.at → SoFar site v start place r g.admitted (map remark_value g.remarks.items) →
      SoFar site v start (place + (at - g.at)) new admitted remarks × Waits site v (place + (at - g.at))) →
      (h : Heard) → IsTail h f → IsBegun site h g → IsStaged site h (stage.Reads new) at admitted remarks × Waits site h.value (h.base + at)
  read_on new at admitted remarks past whole h tail is =
      let old = is_read h is in
      let v = from_place old.start h.value in
      let place = h.base + g.at - old.start in
      let all = whole v [] place (part_of_start h f old.start g.at old.behind tail) old.so_far in
      let on : place + (at - g.at) ≡ h.base + at - old.start = omega (arith, past, old.behind) in
      let behind : old.start ≤ h.base + at = omega (arith, past, old.behind) in (
        record { start = old.start; starts = old.starts; behind = behind; so_far = subst (λ n. SoFar site v [] n new admitted remarks) on all.0 },
        subst (IsPartial (SpellsUnit site.first.protocol)) (place_behind old.start (h.base + at) h.value.bytes behind) (subst (Waits site v) on all.1),
      )

  -- and then it breaks
  pub breaks_on : (admitted : ℕ) (remarks : List RemarkValue) →
      ((v : FlowValue) (start : List RemarkValue) (place : ℕ) → IsPartOf v place f g.at → SoFar site v start place r g.admitted (map remark_value g.remarks.items) → HasBroken site v start admitted remarks) →
      (h : Heard) → IsTail h f → IsBegun site h g → BreaksBehind site h.value admitted remarks
  breaks_on admitted remarks broke h tail is =
      let old = is_read h is in
      record {
        start = old.start;
        starts = old.starts;
        broken = broke (from_place old.start h.value) [] (h.base + g.at - old.start) (part_of_start h f old.start g.at old.behind tail) old.so_far;
      }

  unread_is : (known : ℕ → Bool) → AllTold known f g → All (λ n. known n ≡ true) (drop g.at f.born)
  unread_is known all = subst (λ s. All (λ n. known n ≡ true) (unread s g.at f)) reads all.unread

  -- all that may be told is known as before
  module _ (now : List Remark) (told : (known : ℕ → Bool) → All (λ n. known n ≡ true) (drop g.at f.born) → AreKnownAt known g.remarks.items → AreKnownAt known now) where
    pub told_whole : (new : Following) (s : Reader) → new.stage ≡ stage.Reads s → new.remarks.items ≡ now → g.at ≤ new.at → (known : ℕ → Bool) → AllTold known f g → AllTold known f new
    told_whole new s is remarks past known all =
        let P : ℕ → Type 0 = λ n. known n ≡ true in
        let on : g.at + (new.at - g.at) ≡ new.at = omega (arith, past) in
        let rest : All P (drop new.at f.born) = subst (λ n. All P (drop n f.born)) on (subst (All P) (drop-drop (new.at - g.at) g.at f.born) (All-drop P (new.at - g.at) (drop g.at f.born) (unread_is known all))) in
        record {
          remarks = subst (AreKnownAt known) (sym remarks) (told known (unread_is known all) all.remarks);
          unread = subst (λ x. All P (unread x new.at f)) (sym is) rest;
          midstream = all.midstream;
          conflict = all.conflict;
        }

    pub told_broke : (new : Following) → new.stage ≡ stage.Broke → new.remarks.items ≡ now → (known : ℕ → Bool) → AllTold known f g → AllTold known f new
    told_broke new is remarks known all =
        let P : ℕ → Type 0 = λ n. known n ≡ true in
        record {
          remarks = subst (AreKnownAt known) (sym remarks) (told known (unread_is known all) all.remarks);
          unread = subst (λ x. All P (unread x new.at f)) (sym is) (All-nil P);
          midstream = all.midstream;
          conflict = all.conflict;
        }
