use Rattle.std.proofs.Common.{Ok, ap, refl}
use Rattle.cf_box.proofs.compare.compared.Goals as goal

pub returns-in-Ok-Included : goal.returns-in-Ok-Included
returns-in-Ok-Included c =
    let is = ap Ok c.in-Ok-Included.field-0-is in
    (refl, record { included = c.in-Ok-Included.ensures.included is; nothing = c.in-Ok-Included.ensures.nothing is })
