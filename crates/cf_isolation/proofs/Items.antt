-- The moments of the items by which a history goes on.
use Rattle.std.proofs.Common.{◌≡◌, ℕ, zero, suc, Bool, true, false, None, Option, Some, List, [], ◌∷◌, ◌++◌, map, refl, sym, ap, ◌∙◌, subst}
use Rattle.cf_isolation.proofs.Common.{AllByRecursion, Asset, Endpoint, Side}
use Rattle.cf_lane.specs.Caller.{newcomer}
use Rattle.cf_lane.proofs.Earlier.{in_turn-append}
use Rattle.cf_lane.proofs.Growth.{further, items_split}
use Rattle.cf_lane.proofs.Judgements.{one_items}
use Rattle.cf_lane.proofs.Units.{free_unit}
use Rattle.cf_lane.specs.Follows.{AreJudged}
use Rattle.cf_lane.specs.History.{Element}
use Rattle.cf_lane.specs.Item.{AreItems, Broke, Ended, Item, Placed, Took, placed}
use Rattle.cf_lane.specs.Judged.{Judged, place_of}
use Rattle.cf_lane.specs.Log.{admission_line, command_octets, end_lines, has_unfinished, is_some_bytes, item_lines, line_about, lines, lines_by, refusal_line, shown_lines, unit_lines}
use Rattle.cf_lane.specs.Output.{output_by}
use Rattle.cf_lane.specs.declared.fate.Fate.{Fate}
use Rattle.cf_lane.specs.declared.fate.Shown.{Shown}
use Rattle.cf_audit.specs.Line.{Partial, Stray, WhatValue}
use Rattle.cf_lane.specs.Parts.{bears, part}
use Rattle.cf_lane.specs.Site.{place_for}
use Rattle.cf_policy.specs.Site.{SiteValue, asset_of}
use Rattle.cf_policy.specs.declared.Protocol.{Protocol}
use Rattle.cf_isolation.proofs.Lists.{all_both, all_front, all_map}
use Rattle.cf_lane.specs.declared.fate.Fate.TheVariants as fate
use Rattle.cf_view.specs.declared.Side.TheVariants as side

-- ---- moments

module _ (now : ℕ) where
  abbrev AreNow : List Placed → Type 0
  AreNow items = AllByRecursion (λ i. i.moment ≡ now) items

  placed_now : (moment : ℕ) (items : List Item) → moment ≡ now → AreNow (map (placed moment) items)
  placed_now moment [] h = tt
  placed_now moment (i ∷ items) h = (h, placed_now moment items h)

  items_now : (p : Protocol) (earlier later : List Element) (items : List Placed) → AreItems p earlier later items → AllByRecursion (λ e. e.moment ≡ now) later → AreNow items
  items_now p earlier [] items a h = subst AreNow (sym a) tt
  items_now p earlier (e ∷ later) items a h =
      subst AreNow (sym a.4) (all_both _ a.0 a.1 (subst AreNow (sym a.2.is_items) (placed_now e.moment _ h.0)) (items_now p (earlier ++ e ∷ []) later a.1 a.3 h.1))

  judged_now : (js : List Judged) → AreNow (map place_of js) → AllByRecursion (λ j. j.moment ≡ now) js
  judged_now [] h = tt
  judged_now (j ∷ js) h = (h.0, judged_now js h.1)

  -- ---- lines

  module _ (client : Endpoint) where
    -- a line about the client and an asset at that moment
    abbrev IsOf : Asset → List ℕ → Type 0
    IsOf asset line = (what : WhatValue) × (line ≡ line_about asset client now what)

    abbrev AreOf : Asset → List (List ℕ) → Type 0
    AreOf asset lines = AllByRecursion (IsOf asset) lines

    shown_about : (asset : Asset) (octets : List ℕ) (shown : Option Shown) → AreOf asset (shown_lines asset client now octets shown)
    shown_about asset octets None = tt
    shown_about asset octets (Some shown) = ((admission_line asset shown octets, refl), tt)

    unit_about : (asset : Asset) (replied : Bool) (s : Side) (octets : List ℕ) (f : Fate) → AreOf asset (unit_lines asset client now replied s octets f)
    unit_about asset replied s octets (fate.Refused refusal) = ((refusal_line asset refusal replied octets, refl), tt)
    unit_about asset replied s octets (fate.Stray because) = ((Stray s because, refl), tt)
    unit_about asset replied s octets (fate.Admitted admitted) = shown_about asset octets admitted.shown
    unit_about asset replied s octets _ = tt

    end_about : (asset : Asset) (s : Side) (unfinished : Bool) (rest : ℕ) → AreOf asset (end_lines asset client now s unfinished rest)
    end_about asset s false zero = tt
    end_about asset s true zero = ((Partial s 0, refl), tt)
    end_about asset s false (suc n) = ((Partial s (suc n), refl), tt)
    end_about asset s true (suc n) = ((Partial s (suc n), refl), tt)

    module _ (site : SiteValue) where
      -- a line about the client and an asset of the site
      abbrev pub IsAbout : List ℕ → Type 0
      IsAbout line = (k : ℕ) × IsOf (asset_of site k) line

      abbrev pub AreAbout : List (List ℕ) → Type 0
      AreAbout lines = AllByRecursion IsAbout lines

      pub of_asset : (k : ℕ) (lines : List (List ℕ)) → AreOf (asset_of site k) lines → AreAbout lines
      of_asset k lines h = all_map (IsOf (asset_of site k)) IsAbout (λ line g. (k, g)) lines h

      item_about : (earlier : List Judged) (j : Judged) (i : Item) → j.moment ≡ now → AreAbout (item_lines site client earlier j i)
      item_about earlier j (Took s unit) h =
          let k = place_for site s unit in
          let asset = asset_of site k in
          let replied = is_some_bytes (output_by site k side.Client earlier j) in
          let octets = command_octets asset (bears (Took s unit) earlier (part site k earlier)) s unit in
          of_asset k (lines_by site k client earlier j s unit)
          (subst (λ m. AreOf asset (unit_lines asset client m replied s octets j.fate)) (sym h) (unit_about asset replied s octets j.fate))
      item_about earlier j (Ended s rest) h =
          let unfinished = has_unfinished site site.first.protocol s earlier in
          of_asset 0 (end_lines site.first client j.moment s unfinished rest)
          (subst (λ m. AreOf site.first (end_lines site.first client m s unfinished rest)) (sym h) (end_about site.first s unfinished rest))
      item_about earlier j (Broke s because) h = tt

      lines_about : (earlier js : List Judged) → AllByRecursion (λ j. j.moment ≡ now) js → AreAbout (lines site client earlier js)
      lines_about earlier [] h = tt
      lines_about earlier (j ∷ js) h = all_both IsAbout (item_lines site client earlier j j.item) _ (item_about earlier j j.item h.0) (lines_about (earlier ++ j ∷ []) js h.1)

      -- the lines by which a history goes on
      pub new_about : (h fed : List Element) (js ks : List Judged) → AreJudged site (newcomer client.address) h js → AreJudged site (newcomer client.address) (h ++ fed) ks →
          AllByRecursion (λ e. e.moment ≡ now) fed → (more : List (List ℕ)) × (lines site client [] ks ≡ lines site client [] js ++ more) × AreAbout more
      new_about h fed js ks a b all =
          let p = site.first.protocol in
          let split = items_split p [] h fed b.items b.are_items in
          let same = one_items p (free_unit p) [] h a.items split.0 a.are_items split.2 in
          let f = further site (newcomer client.address) [] js ks a.dropped b.dropped split.1
          (ap (λ xs. xs ++ split.1) (sym a.are_first ∙ same) ∙ sym split.4 ∙ b.are_first) a.fates b.fates a.goes_on b.goes_on in
          let moments = items_now p h fed split.1 split.3 all in
          let own = judged_now f.0 (all_front _ (map place_of f.0) f.1 (subst AreNow (sym f.3) moments)) in (
            lines site client js f.0,
            ap (lines site client []) f.2 ∙ in_turn-append (λ before j. item_lines site client before j j.item) [] js f.0,
            lines_about js f.0 own,
          )
