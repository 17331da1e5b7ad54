-- What is known of a command at once is true of its fate: `plain_fate`.
use Rattle.cf_lane.specs.Acts.{by_refusal, fate_of_acts}
use Rattle.cf_lane.specs.Judgement.{fate_of_judgement}
use Rattle.cf_lane.specs.Modbus.{of_its_acts}
use Rattle.cf_lane.specs.Plain.{IsPlain, IsPlainFate, IsPlainForm, IsPlainOf, plain_by, plain_of}
use Rattle.cf_lane.specs.Rings.{IsRulesOf, says_by}
use Rattle.cf_lane.specs.declared.fate.Fate.{Fate}
use Rattle.cf_lane.specs.declared.fate.Judgement.{Judgement}
use Rattle.cf_lane.specs.declared.fate.Plain.{Plain}
use Rattle.cf_lane.specs.declared.fate.Refusal.{Refusal}
use Rattle.cf_lane.specs.declared.fate.Shown.{Shown}
use Rattle.cf_lane.specs.declared.rules.Rules.{Rules}
use Rattle.cf_lane.proofs.Unrated.{fate_without_rates}
use Rattle.cf_modbus.specs.Acts.{acts}
use Rattle.cf_modbus.specs.Adu.{AduValue}
use Rattle.cf_modbus.specs.Request.{Reads, RequestValue}
use Rattle.cf_policy.specs.declared.Asset.{Asset}
use Rattle.cf_view.specs.declared.Act.{Act}
use Rattle.std.proofs.Common.{Bool, List, None, Some, [], ap, false, inl, inr, length, refl, replicate, subst, sym, ℕ, ◌∙◌, ◌≡◌}
use Rattle.std.specs.Prelude.{Ok, Option}
use Rattle.cf_lane.specs.declared.fate.Fate.TheVariants as fate
use Rattle.cf_lane.specs.declared.fate.Judgement.TheVariants as judgement
use Rattle.cf_lane.specs.declared.fate.Plain.TheVariants as plain

-- the rated rules that an admitted command used
abbrev used_in : Fate → List Bool
used_in (fate.Admitted a) = a.used
used_in f = []

-- what is admitted with nothing shown, where no rule has a rate
by_shown : (shown : Option Shown) (used : List Bool) (first : Option Shown) (x : Option Refusal) →
    fate.Admitted (record { used = used; shown = shown }) ≡ by_refusal (record { used = replicate 16 false; shown = first }) x →
    IsPlain (plain_by shown) (by_refusal (record { used = replicate 16 false; shown = first }) x)
by_shown (Some s) used first x e = record {}
by_shown None used first None e = ap (λ u. fate.Admitted (record { used = u; shown = None })) (sym (ap used_in e)) ∙ e
by_shown None used first (Some r) e = cc

-- a judgement where no rule has a rate
pub of_judgement : (j : Judgement) (first : Option Shown) (x : Option Refusal) →
    fate_of_judgement j ≡ by_refusal (record { used = replicate 16 false; shown = first }) x →
    IsPlain (plain_of j) (by_refusal (record { used = replicate 16 false; shown = first }) x)
of_judgement (judgement.Admitted a) first x e = by_shown a.shown a.used first x e
of_judgement (judgement.Refused r) first x e = e

module _ (asset : Asset) (client : ℕ) (own : Rules) (moment : ℕ) (of : IsRulesOf asset client own) (no_ring : length own.rings.items ≡ 0) (a : AduValue)
    (station : a.unit ≡ asset.station) (r : RequestValue) (reads : Reads (Ok r) a.pdu) where
  -- what is known by the acts of a request, where no rule has a rate
  pub plain_fate : (p : Plain) (list : List Act) → acts r ≡ list → IsPlainOf asset client list p → IsPlainFate asset (says_by asset client own moment) a p
  plain_fate plain.Admitted list are is =
      of_its_acts station r reads (is ∙ fate_without_rates asset client own moment list of no_ring ∙ ap (fate_of_acts asset (says_by asset client own moment)) (sym are))
  plain_fate (plain.Refused refusal) list are is =
      of_its_acts station r reads (is ∙ fate_without_rates asset client own moment list of no_ring ∙ ap (fate_of_acts asset (says_by asset client own moment)) (sym are))
  plain_fate plain.Unknown list are is = record {}

-- and of an ADU that is no write of one point
pub plain_form_fate : (asset : Asset) (client : ℕ) (own : Rules) (moment : ℕ) → IsRulesOf asset client own → length own.rings.items ≡ 0 → (a : AduValue) →
    a.unit ≡ asset.station → (p : Plain) → IsPlainForm asset client a p → IsPlainFate asset (says_by asset client own moment) a p
plain_form_fate asset client own moment of no_ring a station p (inl none) = subst (IsPlainFate asset (says_by asset client own moment) a) (sym none) (record {})
plain_form_fate asset client own moment of no_ring a station p (inr (r, reads, is)) =
    plain_fate asset client own moment of no_ring a station r reads p (acts r) refl is
