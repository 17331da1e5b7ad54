-- The letters that may wait for a side of a service as it is read, as numbers.
use Rattle.std.proofs.Common.{◌≡◌, ◌≤◌, ◌*◌, ◌+◌, ◌-◌, arith, length, min, refl, subst}
use Rattle.cf_lane.specs.Handled.{debt_by, debt_limit}
use Rattle.cf_policy.specs.Site.{SiteValue, assets_of}
use Rattle.cf_policy.specs.declared.Protocol.{Protocol}
use Rattle.cf_policy.specs.declared.Protocol.TheVariants as protocol
use Rattle.cf_relay.specs.Reading.{most_back}
use Rattle.cf_relay.specs.declared.directions.Directions.TheVariants as both

-- what unfinished fragments may still put out, by the protocol
owes_by : (site : SiteValue) (p : Protocol) → site.first.protocol ≡ p → debt_limit site ≡ debt_by p (length (assets_of site))
owes_by site p is = subst (λ (q : Protocol). debt_limit site ≡ debt_by q (length (assets_of site))) is refl

owes_each : (site : SiteValue) → site.first.protocol ≡ protocol.Dnp3 → debt_limit site ≡ 5300 * length (assets_of site)
owes_each site is = owes_by site protocol.Dnp3 is

back_is : (site : SiteValue) → most_back both.Separate site ≡ min 98304 (113488 - debt_limit site)
back_is site = omega arith

pub back_modbus : (site : SiteValue) → site.first.protocol ≡ protocol.Modbus → most_back both.Separate site ≡ 98304
back_modbus site is = let none : debt_limit site ≡ 0 = owes_by site protocol.Modbus is in omega (arith, none, back_is site)

pub back_iec104 : (site : SiteValue) → site.first.protocol ≡ protocol.Iec104 → most_back both.Separate site ≡ 98304
back_iec104 site is = let none : debt_limit site ≡ 0 = owes_by site protocol.Iec104 is in omega (arith, none, back_is site)

pub back_few : (site : SiteValue) → site.first.protocol ≡ protocol.Dnp3 → length (assets_of site) ≤ 2 → most_back both.Separate site ≡ 98304
back_few site is few = omega (arith, owes_each site is, few, back_is site)

pub back_more : (site : SiteValue) → site.first.protocol ≡ protocol.Dnp3 → 3 ≤ length (assets_of site) → length (assets_of site) ≤ 8
    → most_back both.Separate site + 5300 * length (assets_of site) ≡ 113488
back_more site is some few = omega (arith, owes_each site is, some, few, back_is site)

pub back_eight : (site : SiteValue) → site.first.protocol ≡ protocol.Dnp3 → length (assets_of site) ≡ 8 → most_back both.Separate site ≡ 71088
back_eight site is eight = omega (arith, owes_each site is, eight, back_is site)
