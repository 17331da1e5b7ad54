use Rattle.std.proofs.Common.{arith, length, refl, sym, ap, ◌∙◌, subst}
use Rattle.cf_modbus.specs.Adu.{adu_value, spelling}
use Rattle.cf_outq.specs.SendQueue.{after_push}
use Rattle.cf_outside.specs.Desk.{DeskValue}
use Rattle.cf_lane.specs.Log.{admission_lines, with_lines}
use Rattle.cf_lane.specs.Modbus.{HasCommandFate}
use Rattle.cf_lane.specs.Rings.{IsRulesOf, says_by}
use Rattle.cf_lane.specs.Judgement.{fate_of_judgement}
use Rattle.cf_lane.specs.declared.fate.Judgement.{Judgement}
use Rattle.cf_policy.specs.Within.{IsAssetWithin}
use Rattle.cf_policy.specs.Verdict.{IsOneOf}
use Rattle.cf_policy.specs.declared.Asset.{Asset}
use Rattle.cf_lane.specs.Handled.{LaneValue, MayHaveMore}
use Rattle.cf_lane.specs.declared.fate.Fate.TheVariants as fate
use Rattle.cf_lane.proofs.Failing.{on_err, misses_admitted}
use Rattle.cf_lane.proofs.Fronts.{few_at}
use Rattle.cf_lane.proofs.Parting.{within_at}
use Rattle.cf_lane.proofs.Saying.{at_own, lane_on}
use Rattle.cf_lane.proofs.Taking.{grows_pushed, grows_same, room_less, takes_admitted}
use Rattle.cf_lane.specs.Fate.{HasOwnDecider}
use Rattle.cf_lane.proofs.lane.Lane.take_judged.Goals as goal

pub returns-in_ok-log_admission-in-Admitted-clause-takes : goal.returns-in_ok-log_admission-in-Admitted-clause-takes
returns-in_ok-log_admission-in-Admitted-clause-takes g c =
    let site = c.args.site.now in
    let place = c.place_for_adu-place.result in
    let own = c.rules_at-rules.result.now in
    let asset = c.asset-asset.result.now in
    let is = c.asset-asset.ensures in
    let a = adu_value c.args.adu.now in
    let moment = c.args.moment in
    let at = at_own _ _ _ place own c.self.view_is c.as_slice.ensures.value c.rules_at-rules.ensures in
    let of = c.requires.of_site.rules.each place own at in
    let client = c.args.self.now.client.address in
    let used = c.in-Admitted.admission in
    let text = DeskValue.lines (g.D.Desk.value c.args.desk.now) in
    let has = subst (λ (j : Judgement). HasCommandFate asset (says_by asset client own moment) a (fate_of_judgement j)) c.in-Admitted.is
    (c.judge.ensures.fate client (subst (λ (x : Asset). IsRulesOf x client own) (sym is) of)) in
    takes_admitted site place moment a c.place_for_adu-place.ensures.place _ _ c.admit.ensures.client c.admit.ensures.wire own at of used c.requires.«open»
    (subst (λ (x : Asset). HasCommandFate x (says_by x client own moment) a (fate.Admitted used)) is has)
    c.admit.ensures.rules
    c.admit.ensures.admitted c.admit.ensures.refused
    refl (c.push_octets.ensures.queue ∙ ap (after_push c.args.to_controller.now) c.requires.octets)
    (c.in_ok-log_admission-in-Admitted.ensures.lines
    ∙ ap (λ o. with_lines text (admission_lines asset c.self-in-Admitted.inside.client moment o used)) c.requires.octets
    ∙ ap (λ (l : LaneValue). with_lines text (admission_lines asset l.client moment (spelling a) used)) c.self-in-Admitted.view_is
    ∙ ap (λ e. with_lines text (admission_lines asset e moment (spelling a) used)) c.admit.ensures.client
    ∙ ap (λ (x : Asset). with_lines text (admission_lines x c.args.self.now.client moment (spelling a) used)) is)

pub returns-in_ok-log_admission-in-Admitted-clause-of_site : goal.returns-in_ok-log_admission-in-Admitted-clause-of_site
returns-in_ok-log_admission-in-Admitted-clause-of_site g c =
    lane_on c.args.site.now c.place_for_adu-place.result (fate.Admitted c.in-Admitted.admission) c.args.moment c.args.self.now c.admit.new.self c.requires.of_site
    c.admit.ensures.client
    c.admit.ensures.rules
    c.admit.ensures.wire

pub returns-in_err-log_admission-in-Admitted-clause-misses : goal.returns-in_err-log_admission-in-Admitted-clause-misses
returns-in_err-log_admission-in-Admitted-clause-misses g c =
    let site = c.args.site.now in
    let place = c.place_for_adu-place.result in
    let own = c.rules_at-rules.result.now in
    let asset = c.asset-asset.result.now in
    let is = c.asset-asset.ensures in
    let a = adu_value c.args.adu.now in
    let moment = c.args.moment in
    let at = at_own _ _ _ place own c.self.view_is c.as_slice.ensures.value c.rules_at-rules.ensures in
    let of = c.requires.of_site.rules.each place own at in
    let client = c.args.self.now.client.address in
    let used = c.in-Admitted.admission in
    let text = DeskValue.lines (g.D.Desk.value c.args.desk.now) in
    let log = DeskValue.lines (g.D.Desk.value c.log_admission.new.desk) in
    let part = DeskValue.line_part (g.D.Desk.value c.log_admission.new.desk) in
    let has = subst (λ (j : Judgement). HasCommandFate asset (says_by asset client own moment) a (fate_of_judgement j)) c.in-Admitted.is
    (c.judge.ensures.fate client (subst (λ (x : Asset). IsRulesOf x client own) (sym is) of)) in
    on_err _ _ (misses_admitted site place moment a c.place_for_adu-place.ensures.place _ _ _ own at of used
    (subst (λ (x : Asset). HasCommandFate x (says_by x client own moment) a (fate.Admitted used)) is has)
    (subst (λ (x : Asset). MayHaveMore (admission_lines x c.args.self.now.client moment (spelling a) used) text log part) is
    (subst (λ e. MayHaveMore (admission_lines asset e moment (spelling a) used) text log part) c.admit.ensures.client
    (subst (λ (l : LaneValue). MayHaveMore (admission_lines asset l.client moment (spelling a) used) text log part) c.self-in-Admitted.view_is
    (subst (λ o. MayHaveMore (admission_lines asset c.self-in-Admitted.inside.client moment o used) text log part) c.requires.octets
    c.in_err-log_admission-in-Admitted.ensures.fails)))))

pub rules_at-rules-requires : goal.rules_at-rules-requires
rules_at-rules-requires g c =
    omega (arith, c.place_for_adu-place.ensures.inside, c.requires.of_site.rules.one_each, ap (λ (l : LaneValue). length l.rules) c.self.view_is, ap length c.as_slice.ensures.value)

pub log_admission-requires-clause-within : goal.log_admission-requires-clause-within
log_admission-requires-clause-within g c = subst IsAssetWithin (sym c.asset-asset.ensures) (within_at c.args.site.now c.requires.within c.place_for_adu-place.result)

pub judge-requires-clause-few : goal.judge-requires-clause-few
judge-requires-clause-few g c =
    (c.requires.of_site.rules.each c.place_for_adu-place.result c.rules_at-rules.result.now
    (at_own _ _ _ c.place_for_adu-place.result c.rules_at-rules.result.now c.self.view_is c.as_slice.ensures.value c.rules_at-rules.ensures)).few

pub admit-requires-clause-few : goal.admit-requires-clause-few
admit-requires-clause-few g c =
    few_at c.args.site.now c.args.self.now.client.address c.place_for_adu-place.result c.args.self.now.rules c.requires.of_site.rules
    (omega (arith, c.place_for_adu-place.ensures.inside, c.requires.of_site.rules.one_each))

pub push_octets-requires-clause-room : goal.push_octets-requires-clause-room
push_octets-requires-clause-room g c = room_less _ _ _ (omega (arith, ap length c.requires.octets)) c.requires.controller_room

pub admit-requires-clause-counts : goal.admit-requires-clause-counts
admit-requires-clause-counts g c = omega (arith, c.requires.counts)

pub returns-in_ok-log_admission-in-Admitted-clause-client_grows : goal.returns-in_ok-log_admission-in-Admitted-clause-client_grows
returns-in_ok-log_admission-in-Admitted-clause-client_grows g c = grows_same _ _ _

pub returns-in_ok-log_admission-in-Admitted-clause-controller_grows : goal.returns-in_ok-log_admission-in-Admitted-clause-controller_grows
returns-in_ok-log_admission-in-Admitted-clause-controller_grows g c = grows_pushed _ _ _ _ c.push_octets.ensures.queue c.requires.octets

pub returns-in_ok-log_admission-in-Admitted-clause-counts : goal.returns-in_ok-log_admission-in-Admitted-clause-counts
returns-in_ok-log_admission-in-Admitted-clause-counts g c = omega (arith, c.admit.ensures.admitted, c.admit.ensures.refused)

pub returns-in_ok-log_admission-in-Admitted-clause-desk : goal.returns-in_ok-log_admission-in-Admitted-clause-desk
returns-in_ok-log_admission-in-Admitted-clause-desk g c = c.in_ok-log_admission-in-Admitted.ensures.desk

pub answer-requires-clause-refused : goal.answer-requires-clause-refused
answer-requires-clause-refused g c =
    let site = c.args.site.now in
    let place = c.place_for_adu-place.result in
    let own = c.rules_at-rules.result.now in
    let asset = c.asset-asset.result.now in
    let is = c.asset-asset.ensures in
    let a = adu_value c.args.adu.now in
    let moment = c.args.moment in
    let at = at_own _ _ _ place own c.self.view_is c.as_slice.ensures.value c.rules_at-rules.ensures in
    let of = c.requires.of_site.rules.each place own at in
    let client = c.args.self.now.client.address in
    let has = subst (λ (j : Judgement). HasCommandFate asset (says_by asset client own moment) a (fate_of_judgement j)) c.in-Refused.is
    (c.judge.ensures.fate client (subst (λ (x : Asset). IsRulesOf x client own) (sym is) of)) in
    (own, at, subst (λ (x : Asset). HasCommandFate x (says_by x client own moment) a (fate.Refused c.in-Refused.refusal)) is has)

pub answer-requires-clause-decider : goal.answer-requires-clause-decider
answer-requires-clause-decider g c =
    subst (λ (x : Asset). IsOneOf x.rules c.in-Refused.refusal.decider) c.asset-asset.ensures
    (subst (λ (j : Judgement). HasOwnDecider c.asset-asset.result.now.rules (fate_of_judgement j)) c.in-Refused.is c.judge.ensures.decider)

pub answer-requires-clause-client_room : goal.answer-requires-clause-client_room
answer-requires-clause-client_room g c = room_less _ _ _ (omega arith) c.requires.client_room
