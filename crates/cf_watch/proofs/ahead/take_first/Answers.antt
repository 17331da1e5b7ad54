use Rattle.std.proofs.Common.{rules, ◌≡◌, ◌≤◌, [], ℕ, None, length}
use Rattle.std.proofs.lemmas.List.{nil_from_length}
use Rattle.std.specs.BTreeMap.{get}
use Rattle.std.specs.Ordering.{nat_cmp}
use Rattle.cf_watch.proofs.Portions.{is_first, nothing_kept}
use Rattle.cf_watch.proofs.Ranges.{other_key}
use Rattle.cf_watch.proofs.ahead.take_first.Goals as goal

pub returns-in-Some-clause-some : goal.returns-in-Some-clause-some
returns-in-Some-clause-some c =
    let old = c.args.ahead.now in
    let new = c.pop_first.new.self in
    let start = c.in-Some.start in
    let up = c.in-Some.ensures.updates in
    let low : (r : ℕ) → r ≤ start → get nat_cmp new r ≡ None = search rules in
    is_first old new start c.in-Some.portion c.up_to_next.result c.in-Some.ensures.value (λ q d. up.2 q (other_key start q d)) low c.up_to_next.ensures c.in-Some.ensures.len

pub returns-in-None-clause-none : goal.returns-in-None-clause-none
returns-in-None-clause-none c = λ _ q.
    let zero : length c.args.ahead.now.entries ≡ 0 = search rules in
    let none : c.args.ahead.now.entries ≡ [] = nil_from_length c.args.ahead.now.entries zero in
    nothing_kept c.args.ahead.now q none
