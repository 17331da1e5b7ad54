use Rattle.cf_records.proofs.RecordLists.{begin_at_two, go_on_by_two, none_after_the_last_moment, stay_below_the_limit}
use Rattle.cf_records.proofs.laws.moments_rise.Goals as goal

pub returns : goal.returns
returns c = record { first = begin_at_two; next = go_on_by_two; below = stay_below_the_limit; last = none_after_the_last_moment }
