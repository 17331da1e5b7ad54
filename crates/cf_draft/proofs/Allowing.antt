-- What rules allow that were held against what was shown, and what a learned asset allows.
use Rattle.std.proofs.Common.{◌≡◌, ◌+◌, ◌<◌, ℕ, zero, suc, List, [], ◌∷◌, length, slice_get, get_or, Some, refl, ap, subst, ◌∙◌, below_more}
use Rattle.std.specs.Prelude.{Contains}
use Rattle.std.proofs.lemmas.Option.{get_or_from_slice_get, none-some, same_Some, slice_get-get_or}
use Rattle.cf_acts.specs.Commands.{IsOfCommand}
use Rattle.cf_compare.specs.Inclusion.{AllowsAllOf, IsSameController}
use Rattle.cf_learn.specs.Assets.{AreLearned, AreSeen, IsLearnedAsset, with_rules}
use Rattle.cf_learn.specs.Seen.{act_of, seen_of}
use Rattle.cf_learn.specs.Shown.{site_place}
use Rattle.cf_learn.specs.declared.Seen.{Seen}
use Rattle.cf_policy.specs.declared.Asset.{Asset}
use Rattle.cf_policy.specs.Laws.{IsAllowed}
use Rattle.cf_policy.specs.Verdict.{verdict_of}
use Rattle.cf_watch.specs.FlowValue.{FlowValue}
use Rattle.cf_draft.specs.Draft.{AllowsOnlyShown, AllowsShown, AreDrafted, IsDraftedAsset}

-- one controller under one name differs in its rules alone
pub same_asset : (drafted asset : Asset) → IsSameController drafted asset → drafted ≡ with_rules asset drafted.rules
same_asset drafted asset s = rw (← s.name, ← s.endpoint, ← s.protocol, ← s.station, ← s.master) refl

module _ (asset : Asset) (place : ℕ) (flows : List FlowValue) where
  pub shown_all : (seen : List Seen) (drafted : Asset) → AreSeen asset place flows seen →
      ((s : Seen) → Contains seen s → IsAllowed (verdict_of drafted s.kind.client (act_of s))) → AllowsShown asset place flows drafted
  shown_all seen drafted are all = λ client act is. all (seen_of client act) ((are.exactly client act).1 is)

  pub only_shown : (drafted exact : Asset) → IsLearnedAsset asset place flows exact → AllowsAllOf drafted exact → AllowsOnlyShown asset place flows drafted
  only_shown drafted exact learned all = λ client act in_range of allowed. (learned.exact client act of).0 (all client act in_range allowed)

  -- a learned asset is drafted
  learned_is : (widened : ℕ) (own : Asset) → IsLearnedAsset asset place flows own → IsDraftedAsset asset place flows widened own
  learned_is widened own learned = record {
    same = learned.same;
    shown = λ client act is.
        let of : IsOfCommand asset.protocol act = learned.are_seen.of_commands client act ((learned.are_seen.exactly client act).1 is) in
        (learned.exact client act of).1 is;
    only = λ none client act in_range of allowed. (learned.exact client act of).0 allowed;
  }

each_learned : (flows : List FlowValue) (all assets learned : List Asset) → AreLearned flows all assets learned → (place : ℕ) (asset own : Asset) → slice_get assets place ≡ Some asset →
    slice_get learned place ≡ Some own → IsLearnedAsset asset (site_place all asset) flows own
each_learned flows all [] learned are place asset own a l = absurd (none-some asset a)
each_learned flows all (x ∷ assets) [] are place asset own a l = absurd are
each_learned flows all (x ∷ assets) (y ∷ learned) are zero asset own a l =
    subst (λ z. IsLearnedAsset z (site_place all z) flows own) (same_Some x asset a)
    (subst (λ z. IsLearnedAsset x (site_place all x) flows z) (same_Some y own l) are.0)
each_learned flows all (x ∷ assets) (y ∷ learned) are (suc place) asset own a l = each_learned flows all assets learned are.1 place asset own a l

as_many : (flows : List FlowValue) (all assets learned : List Asset) → AreLearned flows all assets learned → length learned ≡ length assets
as_many flows all [] [] are = refl
as_many flows all [] (y ∷ learned) are = absurd are
as_many flows all (x ∷ assets) [] are = absurd are
as_many flows all (x ∷ assets) (y ∷ learned) are = ap suc (as_many flows all assets learned are.1)

-- so are learned assets
pub learned_drafts : (flows : List FlowValue) (widened : ℕ) (assets learned : List Asset) → AreLearned flows assets assets learned → AreDrafted flows widened assets learned
learned_drafts flows widened assets learned are = record {
  count = as_many flows assets assets learned are;
  each = λ place asset own a l. learned_is asset (site_place assets asset) flows widened own (each_learned flows assets assets learned are place asset own a l);
}

-- what was seen up to a place is allowed, and what stands there too
pub all_more : (seen : List Seen) (drafted : Asset) (i : ℕ) (d : Seen) → i < length seen →
    ((k : ℕ) → k < i → (s : Seen) → slice_get seen k ≡ Some s → IsAllowed (verdict_of drafted s.kind.client (act_of s))) →
    IsAllowed (verdict_of drafted (get_or seen i d).kind.client (act_of (get_or seen i d))) →
    (k : ℕ) → k < i + 1 → (s : Seen) → slice_get seen k ≡ Some s → IsAllowed (verdict_of drafted s.kind.client (act_of s))
all_more seen drafted i d inside before allowed = below_more (λ k. (s : Seen) → slice_get seen k ≡ Some s → IsAllowed (verdict_of drafted s.kind.client (act_of s))) i before
    (λ s at. subst (λ x. IsAllowed (verdict_of drafted x.kind.client (act_of x))) (get_or_from_slice_get seen i s d at) allowed)

-- all of it is
pub all_allowed : (seen : List Seen) (drafted : Asset) →
    ((k : ℕ) → k < length seen → (s : Seen) → slice_get seen k ≡ Some s → IsAllowed (verdict_of drafted s.kind.client (act_of s))) →
    (s : Seen) → Contains seen s → IsAllowed (verdict_of drafted s.kind.client (act_of s))
all_allowed seen drafted each s here =
    each here.0 here.1 s (slice_get-get_or seen here.0 s here.1 ∙ ap Some here.2)

-- what was tested of the assets at a place is so of those that stand there
pub drafted_here : (flows : List FlowValue) (widened : ℕ) (assets drafted : List Asset) (place : ℕ) (d e : Asset) → d ≡ get_or assets place d → e ≡ get_or drafted place e →
    IsDraftedAsset d (site_place assets d) flows widened e → (asset own : Asset) → slice_get assets place ≡ Some asset → slice_get drafted place ≡ Some own →
    IsDraftedAsset asset (site_place assets asset) flows widened own
drafted_here flows widened assets drafted place d e here there is asset own a o =
    subst (λ x. IsDraftedAsset x (site_place assets x) flows widened own) (here ∙ get_or_from_slice_get assets place asset d a)
    (subst (λ y. IsDraftedAsset d (site_place assets d) flows widened y) (there ∙ get_or_from_slice_get drafted place own e o) is)
