-- A client that no rule of an asset of a site names is allowed nothing at any of them.
use Rattle.std.proofs.Common.{Bool, List, Some, ap, false, refl, sym, suc, true, zero, ℕ, ◌&&◌, ◌∙◌, ◌∷◌, ◌≡◌, []}
use Rattle.std.specs.Prelude.{get_or, pos, slice_get, ◌||◌}
use Rattle.std.specs.List.{list_any}
use Rattle.std.proofs.lemmas.Option.{same_Some}
use Rattle.cf_policy.specs.Laws.{AllowsByFirstRule}
use Rattle.cf_policy.specs.Site.{SiteValue, asset_of, assets_of}
use Rattle.cf_policy.specs.Verdict.{has_act, has_function, has_point, is_allow, takes}
use Rattle.cf_policy.specs.declared.policy.Asset.{Asset}
use Rattle.cf_policy.specs.declared.policy.Rule.{Rule}
use Rattle.cf_view.specs.declared.base.Act.{Act}
use Rattle.cf_serve.specs.Door.{is_named, is_named_by}
use Rattle.cf_serve.specs.Laws.{StrangersAreRefused}

or_true : (b : Bool) → (b || true) ≡ true
or_true true = refl
or_true false = refl

left_true : (a b : Bool) → (a && b) ≡ true → a ≡ true
left_true true b h = refl
left_true false b h = h

any_at : (P : Rule → Bool) (rs : List Rule) (i : ℕ) (r : Rule) → slice_get rs i ≡ Some r → P r ≡ true → list_any P rs ≡ true
any_at P [] i r e h = cc
any_at P (x ∷ rs) zero r e h = ap (λ (b : Bool). b || list_any P rs) (ap P (same_Some x r e) ∙ h)
any_at P (x ∷ rs) (suc i) r e h = ap (λ (b : Bool). P x || b) (any_at P rs i r e h) ∙ or_true (P x)

-- a rule that allows and has an act of the client names it
names : (r : Rule) (client : ℕ) (act : Act) → is_allow r.action ≡ true → has_act r client act ≡ true → (is_allow r.action && takes r.clients (pos client)) ≡ true
names r client act allows has =
    ap (λ (b : Bool). b && takes r.clients (pos client)) allows
    ∙ left_true (takes r.clients (pos client)) _ (left_true (has_function r client act) _ (left_true (has_point r client act) _ has))

or_none : (a b : Bool) → (a || b) ≡ false → (a ≡ false) × (b ≡ false)
or_none true b e = cc e
or_none false b e = (refl, e)

none_at : (client : ℕ) (assets : List Asset) (k : ℕ) (d : Asset) → is_named_by d client ≡ false → list_any (λ a. is_named_by a client) assets ≡ false →
    is_named_by (get_or assets k d) client ≡ false
none_at client [] k d own none = own
none_at client (a ∷ assets) zero d own none = (or_none (is_named_by a client) (list_any (λ x. is_named_by x client) assets) none).0
none_at client (a ∷ assets) (suc k) d own none = none_at client assets k d own (or_none (is_named_by a client) (list_any (λ x. is_named_by x client) assets) none).1

-- whom no asset's rules name, those of each do not
unnamed : (site : SiteValue) (client k : ℕ) → is_named site client ≡ false → is_named_by (asset_of site k) client ≡ false
unnamed site client k none =
    none_at client (assets_of site) k site.first (or_none (is_named_by site.first client) (list_any (λ x. is_named_by x client) site.others) none).0 none

pub refused : AllowsByFirstRule → StrangersAreRefused
refused law site client k act stranger allowed =
    let asset = asset_of site k in
    let rule = (law asset client act).0 allowed in
    let named = any_at (λ (r : Rule). is_allow r.action && takes r.clients (pos client)) asset.rules rule.number rule.rule rule.here
    (names rule.rule client act (ap is_allow rule.allows) rule.has) in
    let both : true ≡ false = sym named ∙ unnamed site client k stranger in
    cc
