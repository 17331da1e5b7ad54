use Rattle.std.proofs.Common.{List, ap, length, subst, sym, ◌∙◌}
use Rattle.cf_dnptrans.specs.Transport.{unfinished}
use Rattle.cf_lane.specs.Kept.{StandOf}
use Rattle.cf_lane.specs.declared.wire.Fragments.{Fragments}
use Rattle.std.specs.List.{list_any, range_with_len}
use Rattle.std.specs.Prelude.{is_some}
use Rattle.cf_lane.proofs.wire.AllFragments.unfinished.Goals as goal

pub returns : goal.returns
returns c = λ segments stand.
    (let same = c.as_slice.ensures.value ∙ c.self.view_is in
    c.any_unfinished.ensures segments (subst (λ (all : List Fragments). StandOf c.args.side all segments) (sym same) stand)
    ∙ ap (λ (all : List Fragments). list_any (λ k. is_some (unfinished (segments k))) (range_with_len 0 (length all))) same)
