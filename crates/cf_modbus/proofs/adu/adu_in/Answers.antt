use Rattle.std.proofs.Common.{◌≡◌, ◌+◌, ◌*◌, ◌≤◌, get_or, length, arith, subst, sym}
use Rattle.cf_view.specs.Framing.{Begins}
use Rattle.cf_view.specs.Octets.{IsOctets, u16_be_at}
use Rattle.cf_modbus.specs.Adu.{AduValue, SpellsAdu}
use Rattle.cf_modbus.proofs.Framing.{HasHeader, whole_adu}
use Rattle.cf_modbus.proofs.adu.adu_in.Goals as goal

pub returns : goal.returns
returns c =
    let xs = c.args.octets.now in
    let octets : IsOctets xs = λ i. omega (arith, c.type_inv.octets i) in
    let enough : 6 ≤ length xs = omega arith in
    let header : HasHeader xs 6 = c.has_header.ensures c.if-not-has_header.false in
    let transaction : c.from.result * 256 + c.from-2.result ≡ u16_be_at xs 0 = omega (arith, c.from.ensures, c.from-2.ensures) in
    subst (λ (a : AduValue). Begins SpellsAdu xs a (6 + c.from-used.result))
    (λ i. record { transaction = sym transaction i; unit = get_or xs 6 0; pdu = sym c.one.ensures.bytes i })
    (whole_adu xs octets enough header (6 + c.from-used.result) (omega (arith, c.from-used.ensures)) (omega arith))
