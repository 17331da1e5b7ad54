-- Two link addresses that are the same.
use Rattle.std.proofs.Common.{◌≡◌, ◌∙◌, ◌&&◌, ap, nat_eq, refl, true}
use Rattle.std.proofs.lemmas.Bool.{and_parts, eq-eqb, eqb-true}
use Rattle.cf_decode.specs.Units.{Addresses, same_addresses}

pub are_same : (a b : Addresses) → same_addresses a b ≡ true → a ≡ b
are_same a b e =
    let both = and_parts (nat_eq a.station b.station) (nat_eq a.master b.master) e in
    ap (λ s. record { station = s; master = a.master }) (eqb-true a.station b.station both.0)
    ∙ ap (λ m. record { station = b.station; master = m }) (eqb-true a.master b.master both.1)

pub same_again : (a : Addresses) → same_addresses a a ≡ true
same_again a = ap (λ b. b && nat_eq a.master a.master) (eq-eqb a.station a.station refl) ∙ eq-eqb a.master a.master refl
