use Rattle.std.proofs.Common.{rules, map, ◌≡◌, ◌++◌, ◌∷◌, [], refl, subst, sym, ap, ◌∙◌, List, length}
use Rattle.cf_lane.specs.Rates.{own_used_at}
use Rattle.cf_lane.specs.Ring.{RingValue, ring_rate}
use Rattle.cf_lane.specs.Rings.{AreNoted, KnowOwnRings}
use Rattle.cf_lane.proofs.Rated.{rings_go_on, rates_go_on, whole_written}
use Rattle.cf_lane.proofs.rules.Rules.note.Goals as goal

pub returns : goal.returns
returns c =
    let new = c.note_all.new.rings in
    let old = c.args.self.now.rings.items in
    let used = c.args.admission.now.used in
    let noted = subst (λ (old : List RingValue). AreNoted (length old) used c.args.moment old new) c.as_mut_slice.ensures.value c.note_all.ensures in
    let size : c.args.self.now.rings.len ≡ length old = search rules in
    let whole = whole_written c.args.self.now.rings.len new old (size ∙ sym noted.count) in
    record {
      index = refl;
      rings = ap (map ring_rate) whole ∙ rates_go_on used c.args.moment old new noted;
      know = λ past earlier j f at know. subst (λ rings. KnowOwnRings rings (own_used_at past (earlier ++ j ∷ []))) (sym whole)
          (rings_go_on c.args.admission.now c.args.moment old new noted past earlier j f at know);
    }
