-- What a reader keeps of each asset of a site, from one unit to the next.
use Rattle.std.proofs.Common.{◌≡◌, ◌≢◌, ◌⊎◌, ◌+◌, ◌++◌, ◌∷◌, ◌∙◌, ℕ, zero, suc, Bool, true, false, List, [], Some, None, ap, inl, inr, length, refl, subst, sym}
use Rattle.std.specs.Prelude.{set, slice_get}
use Rattle.std.proofs.lemmas.Bool.{eq-eqb, eqb-true, false≢true}
use Rattle.std.proofs.lemmas.List.{length-append, length-set}
use Rattle.cf_dnplink.specs.LinkFrame.{FrameValue}
use Rattle.cf_dnptrans.specs.AssemblyValue.{IsAssemblyOf}
use Rattle.cf_lane.proofs.Earlier.{segments_of-more}
use Rattle.cf_lane.proofs.Parting.{get_set_is, get_set_other, get_set_same, inside_by, part_apart, part_mine}
use Rattle.cf_lane.specs.Dnp3.{segment_in, segments_of}
use Rattle.cf_lane.specs.Item.{Took}
use Rattle.cf_lane.specs.Judged.{Judged}
use Rattle.cf_lane.specs.Parts.{concerns, part}
use Rattle.cf_lane.specs.Site.{asset_for, place_for}
use Rattle.cf_lane.specs.Unit.{Frame, UnitValue}
use Rattle.cf_lane.specs.declared.fate.Fate.{Fate}
use Rattle.cf_lane.specs.declared.fate.Refusal.{Refusal}
use Rattle.cf_policy.specs.Index.{IsIndexOf}
use Rattle.cf_policy.specs.Site.{SiteValue, asset_of}
use Rattle.cf_policy.specs.declared.Asset.{Asset}
use Rattle.cf_judge.specs.Front.{AreNewReaders, HasWhole, IsOwnReaderOf, IsReaderOf, JudgesFrameAt}
use Rattle.cf_judge.specs.Plain.{completed_in, frame_fate}
use Rattle.cf_judge.specs.Ruling.{ruling_of}
use Rattle.cf_judge.specs.declared.front.OwnReader.{OwnReader}
use Rattle.cf_judge.specs.declared.front.Reader.{Reader}
use Rattle.cf_judge.specs.declared.ruling.Ruling.{Ruling}
use Rattle.cf_judge.specs.declared.ruling.Ruling.TheVariants as ruling
use Rattle.cf_view.specs.declared.Side.TheVariants as side

-- ---- as many as the site has assets, made one by one

no_element : {A : Type 0} (x : A) → None ≡ Some x → ⊥
no_element x e = cc

last_or_before : (all : List OwnReader) (x : OwnReader) (k : ℕ) (o : OwnReader) → slice_get (all ++ x ∷ []) k ≡ Some o → (slice_get all k ≡ Some o) ⊎ ((k ≡ length all) × (x ≡ o))
last_or_before [] x zero o at = (let is : x ≡ o = cc in inr (refl, is))
last_or_before [] x (suc k) o at = absurd (no_element o at)
last_or_before (y ∷ ys) x zero o at = inl at
last_or_before (y ∷ ys) x (suc k) o at = elim (last_or_before ys x k o at) [
  | inl before ↦ inl before
  | inr last ↦ inr (ap suc last.0, last.1)
]

module _ (site : SiteValue) (client place : ℕ) (old new : List OwnReader) (one : OwnReader) (asset : Asset) (is : asset ≡ asset_of site place) (own : IsOwnReaderOf asset client [] one)
    (added : new ≡ old ++ one ∷ []) (count : length old ≡ place) where
  pub one_more : length new ≡ place + 1
  one_more = ap length added ∙ length-append old (one ∷ []) ∙ ap (λ n. n + 1) count

  pub each_more : AreNewReaders site client old → AreNewReaders site client new
  each_more each k o at = elim (last_or_before old one k o (ap (λ all. slice_get all k) (sym added) ∙ at)) [
    | inl before ↦ each k o before
    | inr last ↦ subst (λ x. IsOwnReaderOf (asset_of site k) client [] x) last.1
        (subst (λ a. IsOwnReaderOf a client [] one) (is ∙ ap (asset_of site) (sym (last.0 ∙ count))) own)
  ]

-- none is kept before the first asset
pub none_kept : (site : SiteValue) (client : ℕ) (all : List OwnReader) → all ≡ [] → AreNewReaders site client all
none_kept site client all none = λ k o at. no_reader k o (ap (λ xs. slice_get xs k) (sym none) ∙ at) where
  no_reader : (k : ℕ) (o : OwnReader) → slice_get [] k ≡ Some o → IsOwnReaderOf (asset_of site k) client [] o
  no_reader k o at = absurd (no_element o at)

-- ---- the asset of a place

-- what is told of the asset by its place holds of the asset that the unit is for
pub asset_is : (site : SiteValue) (u : UnitValue) (place : ℕ) (asset : Asset) → asset ≡ asset_of site place → place ≡ place_for site side.Client u → asset ≡ asset_for site side.Client u
asset_is site u place asset is at = is ∙ ap (asset_of site) at

-- what is kept of it has its index
pub own_index : (site : SiteValue) (client : ℕ) (earlier : List Judged) (r : Reader) (all : List OwnReader) (place : ℕ) (o : OwnReader) (asset : Asset) → IsReaderOf site client earlier r → r.own.items ≡ all →
    slice_get all place ≡ Some o → asset ≡ asset_of site place → IsIndexOf asset client o.index
own_index site client earlier r all place o asset h same at is =
    subst (λ a. IsIndexOf a client o.index) (sym is) (h.each place o (ap (λ xs. slice_get xs place) same ∙ at)).index

-- ---- after a unit without a segment

own_on : (asset : Asset) (client : ℕ) (earlier : List Judged) (o : OwnReader) (number : ℕ) (u : UnitValue) (f : Fate) → segment_in asset side.Client (Took side.Client u) ≡ [] →
    IsOwnReaderOf asset client earlier o → IsOwnReaderOf asset client (earlier ++ completed_in number u f ∷ []) o
own_on asset client earlier o number u f none h = record {
  index = h.index;
  assembly = subst (IsAssemblyOf o.assembly) (sym (segments_of-more asset side.Client earlier (completed_in number u f) ∙ ap (λ xs. xs ++ segments_of asset side.Client earlier) none)) h.assembly;
}

module _ (site : SiteValue) (client : ℕ) (earlier : List Judged) (number : ℕ) (u : UnitValue) (f : Fate) where
  part_on : (none : (asset : Asset) → segment_in asset side.Client (Took side.Client u) ≡ []) (k : ℕ) (o : OwnReader) (b : Bool) → concerns site k (Took side.Client u) ≡ b →
      IsOwnReaderOf (asset_of site k) client (part site k earlier) o → IsOwnReaderOf (asset_of site k) client (part site k (earlier ++ completed_in number u f ∷ [])) o
  part_on none k o true e h =
      subst (λ xs. IsOwnReaderOf (asset_of site k) client xs o) (sym (part_mine site k earlier (completed_in number u f) e))
      (own_on (asset_of site k) client (part site k earlier) o number u f (none (asset_of site k)) h)
  part_on none k o false e h = subst (λ xs. IsOwnReaderOf (asset_of site k) client xs o) (sym (part_apart site k earlier (completed_in number u f) e)) h

  pub reader_on : (r : Reader) → ((asset : Asset) → segment_in asset side.Client (Took side.Client u) ≡ []) → IsReaderOf site client earlier r →
      IsReaderOf site client (earlier ++ completed_in number u f ∷ []) r
  reader_on r none h = record {
    one_each = h.one_each;
    each = λ k o at. part_on none k o (concerns site k (Took side.Client u)) refl (h.each k o at);
  }

-- ---- after a frame, which is put to what is kept of its asset

module _ (site : SiteValue) (client : ℕ) (earlier : List Judged) (r new : Reader) (before after : List OwnReader) (x : FrameValue) (place : ℕ) (asset : Asset) (found : Ruling)
    (h : IsReaderOf site client earlier r) (was : r.own.items ≡ before) (becomes : new.own.items ≡ after) (at : place ≡ place_for site side.Client (Frame x)) (is : asset ≡ asset_of site place)
    (j : JudgesFrameAt asset x place before after found) where
  own_reader : IsOwnReaderOf asset client (part site place earlier) j.was
  own_reader = subst (λ a. IsOwnReaderOf a client (part site place earlier) j.was) (sym is) (h.each place j.was (ap (λ xs. slice_get xs place) was ∙ j.at))

  pub frame_counts : found ≡ ruling_of (frame_fate (asset_for site side.Client (Frame x)) client (part site (place_for site side.Client (Frame x)) earlier) x)
  frame_counts =
      j.judges.counts client (part site place earlier) own_reader
      ∙ ap (λ a. ruling_of (frame_fate a client (part site place earlier) x)) (asset_is site (Frame x) place asset is at)
      ∙ ap (λ k. ruling_of (frame_fate (asset_for site side.Client (Frame x)) client (part site k earlier) x)) at

  pub frame_whole : (refusal : Refusal) → found ≡ ruling.Refused refusal → HasWhole site place new
  frame_whole refusal told = λ dnp3. (
    j.now,
    ap (λ xs. slice_get xs place) (becomes ∙ j.set_is) ∙ get_set_same before place j.now (inside_by before place j.was j.at),
    j.judges.whole refusal told,
  )

  frame_at : (number : ℕ) (f : Fate) (k : ℕ) (o : OwnReader) (b : Bool) → concerns site k (Took side.Client (Frame x)) ≡ b → slice_get (set before place j.now) k ≡ Some o →
      IsOwnReaderOf (asset_of site k) client (part site k (earlier ++ completed_in number (Frame x) f ∷ [])) o
  frame_at number f k o true e here =
      let same : place ≡ k = at ∙ eqb-true (place_for site side.Client (Frame x)) k e in
      let is_now : j.now ≡ o = get_set_is before place k j.now o (inside_by before place j.was j.at) (eq-eqb place k same) here in
      subst (λ xs. IsOwnReaderOf (asset_of site k) client xs o) (sym (part_mine site k earlier (completed_in number (Frame x) f) e))
      (subst (λ y. IsOwnReaderOf (asset_of site k) client (part site k earlier ++ completed_in number (Frame x) f ∷ []) y) is_now
      (subst (λ m. IsOwnReaderOf (asset_of site m) client (part site m earlier ++ completed_in number (Frame x) f ∷ []) j.now) same
      (subst (λ a. IsOwnReaderOf a client (part site place earlier ++ completed_in number (Frame x) f ∷ []) j.now) is
      (j.judges.goes_on client (part site place earlier) number f own_reader))))
  frame_at number f k o false e here =
      let apart : place ≢ k = (λ same. false≢true (sym e ∙ eq-eqb (place_for site side.Client (Frame x)) k (sym at ∙ same))) in
      subst (λ xs. IsOwnReaderOf (asset_of site k) client xs o) (sym (part_apart site k earlier (completed_in number (Frame x) f) e))
      (h.each k o (ap (λ xs. slice_get xs k) was ∙ sym (get_set_other before place k j.now apart) ∙ here))

  pub frame_goes_on : (number : ℕ) (f : Fate) → IsReaderOf site client (earlier ++ completed_in number (Frame x) f ∷ []) new
  frame_goes_on number f = record {
    one_each = ap length (becomes ∙ j.set_is) ∙ length-set before place j.now ∙ ap length (sym was) ∙ h.one_each;
    each = λ k o here. frame_at number f k o (concerns site k (Took side.Client (Frame x))) refl (ap (λ xs. slice_get xs k) (sym (becomes ∙ j.set_is)) ∙ here);
  }

-- ---- what is kept of the asset whose command was refused

pub own_refused : (site : SiteValue) (client : ℕ) (earlier : List Judged) (r : Reader) (number : ℕ) (u : UnitValue) (f : Fate) (place : ℕ) (o : OwnReader) → place ≡ place_for site side.Client u →
    slice_get r.own.items place ≡ Some o → IsReaderOf site client (earlier ++ completed_in number u f ∷ []) r →
    IsOwnReaderOf (asset_of site place) client (part site place earlier ++ completed_in number u f ∷ []) o
own_refused site client earlier r number u f place o at here h =
    subst (λ xs. IsOwnReaderOf (asset_of site place) client xs o) (part_mine site place earlier (completed_in number u f) (eq-eqb (place_for site side.Client u) place (sym at))) (h.each place o here)
