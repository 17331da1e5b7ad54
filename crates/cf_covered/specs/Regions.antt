-- Beside the proof: regions of acts, and what settles them: `AreSettled`. Private functions alone cite it.
use Rattle.std.specs.Prelude.{◌≡◌, ℕ, ℤ, pos, ◌+ℤ◌, int_lt, Bool, true, ◌&&◌, if◌then◌else◌, List, [], ◌∷◌, Option, Some, None}
use Rattle.std.specs.List.{flat_map, list_any}
use Rattle.cf_view.specs.declared.base.Act.{Act}
use Rattle.cf_policy.specs.declared.policy.Span.{Span}
use Rattle.cf_policy.specs.declared.policy.Rule.{Rule}
use Rattle.cf_policy.specs.Verdict.{covers, has_act}
use Rattle.cf_acts.specs.declared.Groups.{Groups}
use Rattle.cf_acts.specs.declared.Groups.TheVariants as groups
use Rattle.cf_acts.specs.declared.Kind.{Kind}
use Rattle.cf_acts.specs.Acts.{between, up_to, has_value}
use Rattle.cf_covered.specs.declared.regions.Region.{Region}

-- the numbers of a span after one
abbrev pub behind : Span → ℤ → Option Span
behind s n = if int_lt n s.high then Some (record { low = n +ℤ pos 1; high = s.high }) else None

abbrev pub values_behind : Option Span → Option Span → Option Span
values_behind (Some s) (Some part) = behind s part.high
values_behind (Some s) None = None
values_behind None part = None

-- both have no number, or begin with the same
abbrev pub Begin : Option Span → Option Span → Type 0
Begin None None = Unit {0}
Begin None (Some s) = ⊥
Begin (Some part) None = ⊥
Begin (Some part) (Some s) = part.low ≡ s.low

-- the client and the act are in the region, whatever the code is
abbrev pub is_in : Region → ℕ → Act → Bool
is_in g client act =
    covers g.clients (pos client) && (covers g.groups (pos act.group) && (covers g.points (pos act.point) && has_value g.values act.value))

-- each of its spans begins as that of the other region
pub record Begins (part g : Region) : Type 0 where
  pub clients : part.clients.low ≡ g.clients.low
  pub groups : part.groups.low ≡ g.groups.low
  pub points : part.points.low ≡ g.points.low
  pub values : Begin part.values g.values

-- each act of this code that is in one of the regions and is the rule's is one of the other rules' too
abbrev pub AreSettled : Rule → List Rule → ℕ → List Region → Type 0
AreSettled rule others code regions =
    (client : ℕ) (act : Act) → act.code ≡ code → list_any (λ g. is_in g client act) regions ≡ true → has_act rule client act ≡ true
    → list_any (λ r. has_act r client act) others ≡ true

-- something as a list
abbrev pub listed : Option Region → List Region
listed None = []
listed (Some g) = g ∷ []

abbrev pub with_clients : Region → Option Span → Option Region
with_clients g None = None
with_clients g (Some s) = Some (record g { clients = s })

abbrev pub with_groups : Region → Option Span → Option Region
with_groups g None = None
with_groups g (Some s) = Some (record g { groups = s })

abbrev pub with_points : Region → Option Span → Option Region
with_points g None = None
with_points g (Some s) = Some (record g { points = s })

abbrev pub with_values : Region → Option Span → Option Region
with_values g None = None
with_values g (Some s) = Some (record g { values = Some s })

-- what a region has after a part with which it begins
abbrev pub rest : Region → Region → List Region
rest g part = flat_map listed (
    with_clients g (behind g.clients part.clients.high)
    ∷ with_groups (record g { clients = part.clients }) (behind g.groups part.groups.high)
    ∷ with_points (record g { clients = part.clients; groups = part.groups }) (behind g.points part.points.high)
    ∷ with_values part (values_behind g.values part.values) ∷ [])

-- every client, and the groups, points and values of a kind of acts
abbrev pub region_of : Kind → Span → Region
region_of k s = record { clients = up_to 4294967295; groups = s; points = k.points; values = k.values }

abbrev pub group_regions : Kind → Groups → List Region
group_regions k (groups.Span s) = region_of k s ∷ []
group_regions k groups.Causes = region_of k (between 5 5) ∷ region_of k (between 6 6) ∷ region_of k (between 8 8) ∷ []

abbrev pub kind_regions : Kind → List Region
kind_regions k = group_regions k k.groups
