use Rattle.std.proofs.Common.{◌≡◌, ◌≤◌, ◌-◌, ◌∙◌, true, false, length, drop, take, refl, sym, ap, arith}
use Rattle.std.proofs.lemmas.List.{drop-drop, length-drop, take_all}
use Rattle.cf_watch.specs.Tagged.{has_tag, without_tags}
use Rattle.cf_watch.proofs.Tags.{no_tag, tag_long, tag_passed}
use Rattle.cf_watch.proofs.tag.without_tags.Goals as goal

pub tags-init : goal.tags-init
tags-init c = record { inside = omega arith; left = length c.args.frame.now; enough = omega arith; same = refl }

pub tags-preserved : goal.tags-preserved
tags-preserved c =
    let frame = c.args.frame.now in
    let at = c.tags.at in
    let type_at = c.args.type_at in
    let here = c.tags.invariant in
    let whole : take (length frame - at) (drop at frame) ≡ drop at frame = take_all (length frame - at) (drop at frame) (omega (arith, length-drop at frame)) in
    let is : has_tag type_at (drop at frame) ≡ true = ap (has_tag type_at) (sym whole) ∙ sym c.has_tag.ensures ∙ c.tags-test.true in
    let told = tag_long type_at (drop at frame) is in
    let long : 14 ≤ length (drop at frame) = omega (arith, told, c.requires.behind) in
    let size : length (drop at frame) ≡ length frame - at = length-drop at frame in
    let next = tag_passed type_at here.left (drop at frame) (omega (arith, long, size, here.enough)) is in
    record {
      inside = omega (arith, long, size);
      left = next.0;
      enough = omega (arith, here.enough, next.1);
      same = here.same ∙ next.2 ∙ ap (without_tags type_at next.0) (drop-drop 4 at frame);
    }

pub returns : goal.returns
returns c =
    let frame = c.args.frame.now in
    let at = c.tags.at in
    let type_at = c.args.type_at in
    let whole : take (length frame - at) (drop at frame) ≡ drop at frame = take_all (length frame - at) (drop at frame) (omega (arith, length-drop at frame)) in
    let is : has_tag type_at (drop at frame) ≡ false = ap (has_tag type_at) (sym whole) ∙ sym c.has_tag.ensures ∙ c.tags-test.false in
    whole ∙ sym (no_tag type_at c.tags.invariant.left (drop at frame) is) ∙ sym c.tags.invariant.same
