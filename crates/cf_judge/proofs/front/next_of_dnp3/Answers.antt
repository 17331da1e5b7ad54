use Rattle.std.proofs.Common.{◌∙◌, ap, length, refl, subst, sym}
use Rattle.std.proofs.lemmas.List.{length-set}
use Rattle.cf_dnplink.specs.LinkFrame.{frame_value}
use Rattle.cf_lane.specs.Parts.{part}
use Rattle.cf_lane.specs.Site.{asset_for, place_for}
use Rattle.cf_lane.specs.Unit.{Frame, SpellsUnit}
use Rattle.cf_policy.specs.declared.Asset.{Asset}
use Rattle.cf_view.specs.Framing.{BreaksAt}
use Rattle.cf_lane.proofs.Units.{frames}
use Rattle.cf_judge.specs.Plain.{frame_fate}
use Rattle.cf_judge.proofs.Fronts.{some_octet, told_break, told_partial, told_unit}
use Rattle.cf_judge.proofs.Readers.{frame_counts, frame_goes_on, frame_whole}
use Rattle.cf_view.specs.declared.Side.TheVariants as side
use Rattle.cf_judge.proofs.front.next_of_dnp3.Goals as goal

pub returns-in-Unit-clause-one_each : goal.returns-in-Unit-clause-one_each
returns-in-Unit-clause-one_each c =
    let j = c.judge_frame_at-ruling.ensures in ap length j.set_is ∙ length-set c.args.own.now.items c.place_for_frame-place.result j.now

pub returns-in-Unit-clause-front : goal.returns-in-Unit-clause-front
returns-in-Unit-clause-front c =
    let site = c.args.site.now in
    let p = site.first.protocol in
    let x = frame_value c.in-Unit.unit in
    let place = c.place_for_frame-place.result in
    let asset = c.asset.result.now in
    let found = c.judge_frame_at-ruling.result in
    let j = c.judge_frame_at-ruling.ensures in
    let before = c.args.own.now.items in
    let after = c.judge_frame_at-ruling.new.own.items in
    let at = c.place_for_frame-place.ensures.place in
    let b = told_unit (frames p c.requires.dnp3) c.all.result.bytes c.args.bytes.now.bytes x c.in-Unit.used c.all.ensures c.in-Unit.ensures.true_answer in
    λ client earlier r new h was becomes. record {
      unit = Frame x;
      begins = b;
      some = some_octet p c.args.bytes.now.bytes (Frame x) c.in-Unit.used b;
      is_for = at;
      inside = c.place_for_frame-place.ensures.inside;
      fate = frame_fate (asset_for site side.Client (Frame x)) client (part site (place_for site side.Client (Frame x)) earlier) x;
      has_fate = refl;
      counts = frame_counts site client earlier r new before after x place asset found h was becomes at c.asset.ensures j;
      whole = frame_whole site client earlier r new before after x place asset found h was becomes at c.asset.ensures j;
      goes_on = λ number. frame_goes_on site client earlier r new before after x place asset found h was becomes at c.asset.ensures j number _;
    }

pub returns-in-More-clause-front : goal.returns-in-More-clause-front
returns-in-More-clause-front c = λ client earlier r new h was becomes.
    told_partial (frames c.args.site.now.first.protocol c.requires.dnp3) c.all.result.bytes c.args.bytes.now.bytes c.all.ensures c.in-More.ensures.true_answer

pub returns-in-Broken-clause-front : goal.returns-in-Broken-clause-front
returns-in-Broken-clause-front c = λ client earlier r new h was becomes.
    told_break (frames c.args.site.now.first.protocol c.requires.dnp3) c.all.result.bytes c.args.bytes.now.bytes c.in-Broken.reason c.break_place.result c.all.ensures
    c.in-Broken.ensures.true_answer (λ place breaks. c.break_place.ensures place (subst (λ (own : Asset). BreaksAt (SpellsUnit own.protocol) c.args.bytes.now.bytes place) (sym c.first.ensures) breaks))
