-- Steps of the proof: the cut of every history is one: `HasOneCut`.
use Rattle.std.specs.Prelude.{◌≡◌, ℕ, List, Option}
use Rattle.cf_audit.specs.declared.line.CutReason.{CutReason}
use Rattle.cf_lane.specs.History.{Element}
use Rattle.cf_lane.specs.Judged.{Judged}
use Rattle.cf_policy.specs.Site.{SiteValue}
use Rattle.cf_sift.specs.Stored.{GoesUpTo}

-- a history goes up to one place, with one list of judged items, and is cut there for one reason or not at all
abbrev pub HasOneCut : Type 0
HasOneCut =
    (site : SiteValue) (client : ℕ) (whole h k : List Element) (cut other : Option CutReason) (js ks : List Judged) →
    GoesUpTo site client whole cut h js → GoesUpTo site client whole other k ks → (h ≡ k) × (js ≡ ks) × (cut ≡ other)
