use Rattle.cf_lane.specs.Rates.{Says}
use Rattle.std.proofs.Common.{[], ap, arith, length, subst, ◌+◌, ◌<◌, ◌∷◌, ◌≡◌, ◌≤◌}
use Rattle.cf_audit.specs.declared.line.Why.TheVariants as why
use Rattle.cf_dnptrans.specs.declared.assembly.SegmentAnswer.TheVariants as answers
use Rattle.cf_lane.proofs.Dnp3Segments.{fate_short, misses_quietly, recut_grows, recut_room, sends_one, stray_fragment, takes_back, takes_quietly}
use Rattle.cf_lane.proofs.Failing.{on_err}
use Rattle.cf_lane.proofs.Logging.{logs_none}
use Rattle.cf_lane.proofs.Taking.{grows_same}
use Rattle.cf_lane.specs.Fragments.{MissesSegment, Parts, Sends, parts}
use Rattle.cf_lane.specs.declared.fate.Fate.TheVariants as fate
use Rattle.cf_outq.specs.SendQueue.{Queue}
use Rattle.cf_outside.specs.Desk.{DeskValue}
use Rattle.cf_view.specs.declared.Side.TheVariants as side
use Rattle.cf_lane.proofs.wire.Fragments.take_controller.Goals as goal

pub returns-in_err-log_stray-clause-misses : goal.returns-in_err-log_stray-clause-misses
returns-in_err-log_stray-clause-misses g c =
    let f = c.args.self.now in
    let short : length f.controller.octets < 2 = omega (arith, c.if-len-lt2.true, c.len.ensures.length, ap length c.fragment-octets.ensures.octets) in
    let old : Queue → Parts = λ to_controller. parts f c.args.to_client.now to_controller (DeskValue.lines (g.D.Desk.value c.args.desk.now)) in
    let all : (says : Says) (to_controller : Queue) → MissesSegment c.args.asset.now says c.args.client.now c.args.moment side.Controller answers.Whole (f.controller.octets ∷ []) (old to_controller)
    (DeskValue.lines (g.D.Desk.value c.log_stray.new.desk)) (DeskValue.line_part (g.D.Desk.value c.log_stray.new.desk)) =
    λ says to_controller. misses_quietly c.args.asset.now says c.args.client.now c.args.moment side.Controller answers.Whole (f.controller.octets ∷ []) (fate.Stray why.Short)
    (old to_controller)
    (fate_short c.args.asset.now says side.Controller f.controller.octets short)
    (λ to. stray_fragment to side.Controller c.args.to_client.now.ended why.Short (f.controller.octets ∷ []))
    c.requires.to_client c.requires.to_controller _ _ c.in_err-log_stray.ensures.fails in
    on_err _ _ all

pub push_fragment-self-requires-clause-room : goal.push_fragment-self-requires-clause-room
push_fragment-self-requires-clause-room g c =
    recut_room c.args.asset.now side.Client c.args.self.now.to_client (length c.args.self.now.controller.octets + 2) c.fragment-octets.result.bytes c.args.to_client.now
    (omega (arith, ap length c.fragment-octets.ensures.octets)) c.requires.client_room

pub returns-clause-client_grows : goal.returns-clause-client_grows
returns-clause-client_grows g c =
    recut_grows c.args.asset.now side.Client c.args.self.now.to_client (length c.args.self.now.controller.octets + 2) c.fragment-octets.result.bytes c.args.to_client.now _
    (omega (arith, ap length c.fragment-octets.ensures.octets)) c.push_fragment-self.ensures.queue

pub returns-then-len-lt2-clause-takes : goal.returns-then-len-lt2-clause-takes
returns-then-len-lt2-clause-takes g c = λ says to_controller.
    (let f = c.args.self.now in
    let short : length f.controller.octets < 2 = omega (arith, c.if-len-lt2.true, c.len.ensures.length, ap length c.fragment-octets.ensures.octets) in
    takes_quietly c.args.asset.now says c.args.client.now c.args.moment side.Controller answers.Whole (f.controller.octets ∷ []) (fate.Stray why.Short)
    (parts f c.args.to_client.now to_controller (DeskValue.lines (g.D.Desk.value c.args.desk.now)))
    (fate_short c.args.asset.now says side.Controller f.controller.octets short)
    (λ to. stray_fragment to side.Controller c.args.to_client.now.ended why.Short (f.controller.octets ∷ []))
    c.requires.to_client c.requires.to_controller _ c.in_ok-log_stray.ensures.lines)

pub returns-then-len-lt2-clause-client_grows : goal.returns-then-len-lt2-clause-client_grows
returns-then-len-lt2-clause-client_grows g c = grows_same _ _ _

pub returns-clause-takes : goal.returns-clause-takes
returns-clause-takes g c = λ says to_controller.
    (let f = c.args.self.now in
    let asset = c.args.asset.now in
    let long : 2 ≤ length f.controller.octets = omega (arith, c.if-len-lt2.false, c.len.ensures.length, ap length c.fragment-octets.ensures.octets) in
    let same : c.fragment-octets.result.bytes ≡ f.controller.octets = c.fragment-octets.ensures.octets in
    takes_back asset says c.args.client.now c.args.moment f.controller.octets (parts f c.args.to_client.now to_controller (DeskValue.lines (g.D.Desk.value c.args.desk.now))) _ _ long c.requires.to_controller
    (subst (λ xs. Sends asset side.Client (xs ∷ []) f.to_client c.args.to_client.now c.push_fragment-self.result c.push_fragment-self.new.queue) same
    (sends_one asset side.Client c.fragment-octets.result.bytes f.to_client c.push_fragment-self.result c.args.to_client.now c.push_fragment-self.new.queue c.requires.«open» c.push_fragment-self.ensures.sequence c.push_fragment-self.ensures.queue)))

pub returns-clause-desk : goal.returns-clause-desk
returns-clause-desk g c = logs_none _ c.requires.desk
