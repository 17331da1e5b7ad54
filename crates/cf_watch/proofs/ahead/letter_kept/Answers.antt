use Rattle.std.proofs.Common.{rules, [], length, ◌≡◌, ◌∙◌, option_map, sym, ap}
use Rattle.cf_watch.specs.Stretches.{FirstLetter}
use Rattle.std.proofs.lemmas.List.{nil_from_length}
use Rattle.cf_watch.proofs.Portions.{nothing_kept}
use Rattle.cf_watch.proofs.Ranges.{kept_by_range, letter_alone, none_by_range}
use Rattle.cf_watch.proofs.ahead.letter_kept.Goals as goal

pub returns-in-Some : goal.returns-in-Some
returns-in-Some c =
    c.letter_in.ensures ∙ letter_alone c.in-Some.portion.now _
    ∙ sym (ap (option_map (λ (l : FirstLetter). l.letter)) (kept_by_range c.args.ahead.now c.args.place c.range.result c.next_back.new.self c.in-Some.start.now c.in-Some.portion.now (c.range.ensures.in_range tt) c.in-Some.ensures.steps))

pub returns-in-None : goal.returns-in-None
returns-in-None c = sym (ap (option_map (λ (l : FirstLetter). l.letter)) (none_by_range c.args.ahead.now c.args.place c.range.result (c.range.ensures.in_range tt) c.in-None.ensures.steps.0))

pub returns-then-is_empty : goal.returns-then-is_empty
returns-then-is_empty c =
    let zero : length c.args.ahead.now.entries ≡ 0 = search rules in
    let none : c.args.ahead.now.entries ≡ [] = nil_from_length c.args.ahead.now.entries zero in
    sym (ap (option_map (λ (l : FirstLetter). l.letter)) (nothing_kept c.args.ahead.now c.args.place none))
