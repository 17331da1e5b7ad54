use Rattle.std.proofs.Common.{refl}
use Rattle.cf_box.proofs.limits.limits_are.Goals as goal

pub returns : goal.returns
returns c = record {
  letters = refl;
  records = refl;
  captured = refl;
  watched = refl;
  block = refl;
  interfaces = refl;
  policy = record {
    text = refl;
    sets = refl;
    assets = refl;
    at_site = refl;
    dnp3_at_site = refl;
    rules = refl;
    rated = refl;
    spans = refl;
    name = refl;
    most = refl;
    seconds = refl;
    address = refl;
    code = refl;
    group = refl;
    point = refl;
    lowest = refl;
    highest = refl;
    unit = refl;
    link_address = refl;
    common_address = refl;
  };
}
