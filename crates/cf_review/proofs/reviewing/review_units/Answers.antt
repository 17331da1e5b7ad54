use Rattle.std.proofs.Common.{◌≡◌, ◌∙◌, ◌+◌, ◌-◌, Ok, map, ap, refl, inl, inr, true}
use Rattle.std.proofs.lemmas.Bool.{cases_Bool}
use Rattle.std.proofs.lemmas.List.Elements.{All-drop}
use Rattle.cf_review.proofs.Reading.{found_broken, found_rest, part_from, same_sizes, so_far_first}
use Rattle.cf_review.specs.FirstUnit.{from_place}
use Rattle.cf_review.specs.Remark.{remark_value}
use Rattle.cf_watch.specs.FlowValue.{flow_value}
use Rattle.cf_review.proofs.reviewing.review_units.Goals as goal

pub read_units-requires-clause-so_far : goal.read_units-requires-clause-so_far
read_units-requires-clause-so_far c =
    let site = c.args.site.now in
    let flow = c.args.flow.now in
    let f = from_place c.args.start (flow_value flow) in
    let start = map remark_value c.args.remarks.now.items in
    (f, start, 0, part_from c.args.start flow, so_far_first site f start start c.in_ok-reader.reader (same_sizes flow.bytes.items flow.born c.args.start c.requires.born) c.in_ok-reader.ensures.reader refl)

pub returns-clause-adds : goal.returns-clause-adds
returns-clause-adds c =
    let site = c.args.site.now in
    let flow = c.args.flow.now in
    let f = from_place c.args.start (flow_value flow) in
    let start = map remark_value c.args.remarks.now.items in
    let now = map remark_value c.read_units.new.remarks.items in
    let part = part_from c.args.start flow in
    let so = so_far_first site f start start c.in_ok-reader.reader (same_sizes flow.bytes.items flow.born c.args.start c.requires.born) c.in_ok-reader.ensures.reader refl in
    elim (cases_Bool c.in_ok-read_units.field-0) [
      | inl broke ↦ found_broken site f start c.read_units.new.admitted now (c.read_units.ensures.broke (c.in_ok-read_units.was ∙ ap Ok broke) f start 0 part so)
      | inr whole ↦
          (let all = c.read_units.ensures.whole (c.in_ok-read_units.was ∙ ap Ok whole) f start 0 part so in
          found_rest site f start (0 + (c.read_units.new.at - c.args.start)) c.read_units.new.reader c.read_units.new.admitted now all.0 all.1)
    ]

pub returns-clause-told : goal.returns-clause-told
returns-clause-told c known all olds = c.in_ok-read_units.ensures.told known (All-drop (λ n. known n ≡ true) c.args.start c.args.flow.now.born all) olds
