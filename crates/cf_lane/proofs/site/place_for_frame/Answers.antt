use Rattle.std.proofs.Common.{ap, false, sym, ◌∙◌, ◌≡◌}
use Rattle.cf_dnplink.specs.LinkFrame.{frame_value}
use Rattle.cf_lane.proofs.Places.{behind_none, behind_some, place_next}
use Rattle.cf_lane.specs.Dnp3.{has_addresses}
use Rattle.cf_policy.specs.declared.Asset.{Asset}
use Rattle.std.specs.List.{position}
use Rattle.cf_lane.proofs.site.place_for_frame.Goals as goal

pub returns-in-Some-clause-place : goal.returns-in-Some-clause-place
returns-in-Some-clause-place c =
    let frame = frame_value c.args.frame.now in
    let passes = λ (a : Asset). has_addresses a c.args.side frame in
    let none : has_addresses c.args.site.now.first c.args.side frame ≡ false =
    ap (λ (a : Asset). has_addresses a c.args.side frame) (sym c.first.ensures) ∙ sym c.has_addresses.ensures ∙ c.if-has_addresses.false in
    behind_some c.in-Some.behind _ c.in-Some.is
    ∙ sym (place_next passes c.args.site.now.first c.args.site.now.others _ none (c.position_of_addresses.ensures.position ∙ ap (position passes) c.others.ensures))

pub returns-in-None-clause-place : goal.returns-in-None-clause-place
returns-in-None-clause-place c =
    let frame = frame_value c.args.frame.now in
    let passes = λ (a : Asset). has_addresses a c.args.side frame in
    let none : has_addresses c.args.site.now.first c.args.side frame ≡ false =
    ap (λ (a : Asset). has_addresses a c.args.side frame) (sym c.first.ensures) ∙ sym c.has_addresses.ensures ∙ c.if-has_addresses.false in
    behind_none _ c.in-None.is
    ∙ sym (place_next passes c.args.site.now.first c.args.site.now.others _ none (c.position_of_addresses.ensures.position ∙ ap (position passes) c.others.ensures))
