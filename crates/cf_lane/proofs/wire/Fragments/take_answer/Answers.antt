use Rattle.cf_lane.specs.Rings.{says_by}
use Rattle.cf_outside.specs.Desk.{DeskValue}
use Rattle.cf_lane.proofs.Dnp3Segments.{misses_dropped, misses_of, most_of, takes_dropped, takes_more, takes_of}
use Rattle.cf_lane.proofs.Failing.{on_err}
use Rattle.cf_lane.proofs.Logging.{logs_none}
use Rattle.cf_lane.proofs.Taking.{grows_same}
use Rattle.cf_lane.specs.Fragments.{parts}
use Rattle.cf_lane.specs.Handled.{Grows, HasRoom}
use Rattle.cf_lane.specs.Kept.{of_side}
use Rattle.cf_view.specs.declared.Side.TheVariants as side
use Rattle.std.proofs.Common.{subst, sym, true, ℕ, ◌≡◌}
use Rattle.cf_lane.proofs.wire.Fragments.take_answer.Goals as goal

pub returns-in_err-log_stray-in-Dropped-clause-misses :
    goal.returns-in_err-log_stray-in-Dropped-clause-misses
returns-in_err-log_stray-in-Dropped-clause-misses g c =
    on_err _ _ (misses_dropped c.args.asset.now (says_by c.args.asset.now c.args.client.now.address c.args.rules.now c.args.moment) c.args.client.now c.args.moment c.args.side c.args.answer.now c.in-Dropped.reason (of_side c.args.side c.args.self.now)
    (parts c.args.self.now c.args.to_client.now c.args.to_controller.now (DeskValue.lines (g.D.Desk.value c.args.desk.now)))
    c.requires.to_client c.requires.to_controller c.in-Dropped.is _ _ c.drop_why-why.result c.drop_why-why.ensures c.in_err-log_stray-in-Dropped.ensures.fails)

pub returns-in-More-clause-takes : goal.returns-in-More-clause-takes
returns-in-More-clause-takes g c =
    takes_more c.args.asset.now (says_by c.args.asset.now c.args.client.now.address c.args.rules.now c.args.moment) c.args.client.now c.args.moment c.args.side c.args.answer.now (of_side c.args.side c.args.self.now)
    (parts c.args.self.now c.args.to_client.now c.args.to_controller.now (DeskValue.lines (g.D.Desk.value c.args.desk.now)))
    c.requires.to_client c.requires.to_controller c.in-More.is

pub returns-in-More-clause-client_grows : goal.returns-in-More-clause-client_grows
returns-in-More-clause-client_grows g c = grows_same _ _ _

pub returns-in-More-clause-controller_grows : goal.returns-in-More-clause-controller_grows
returns-in-More-clause-controller_grows g c = grows_same _ _ _

pub returns-in-More-clause-desk : goal.returns-in-More-clause-desk
returns-in-More-clause-desk g c = logs_none _ c.requires.desk

pub returns-in_ok-log_stray-in-Dropped-clause-takes : goal.returns-in_ok-log_stray-in-Dropped-clause-takes
returns-in_ok-log_stray-in-Dropped-clause-takes g c =
    takes_dropped c.args.asset.now (says_by c.args.asset.now c.args.client.now.address c.args.rules.now c.args.moment) c.args.client.now c.args.moment c.args.side c.args.answer.now c.in-Dropped.reason (of_side c.args.side c.args.self.now)
    (parts c.args.self.now c.args.to_client.now c.args.to_controller.now (DeskValue.lines (g.D.Desk.value c.args.desk.now)))
    c.requires.to_client c.requires.to_controller c.in-Dropped.is _ c.drop_why-why.result c.drop_why-why.ensures c.in_ok-log_stray-in-Dropped.ensures.lines

pub returns-in_ok-log_stray-in-Dropped-clause-client_grows : goal.returns-in_ok-log_stray-in-Dropped-clause-client_grows
returns-in_ok-log_stray-in-Dropped-clause-client_grows g c = grows_same _ _ _

pub returns-in_ok-log_stray-in-Dropped-clause-controller_grows : goal.returns-in_ok-log_stray-in-Dropped-clause-controller_grows
returns-in_ok-log_stray-in-Dropped-clause-controller_grows g c = grows_same _ _ _

pub take_client-requires-clause-completed : goal.take_client-requires-clause-completed
take_client-requires-clause-completed g c = subst (λ s. (of_side s c.args.self.now).whole ≡ true) c.in-Client.is (c.requires.completed c.in-Whole.is)

pub take_client-requires-clause-client_room : goal.take_client-requires-clause-client_room
take_client-requires-clause-client_room g c =
    subst (λ (n : ℕ). HasRoom n c.args.to_client.now) (most_of c.args.side side.Client c.args.answer.now c.args.self.now c.in-Client.is c.in-Whole.is) c.requires.client_room

pub take_client-requires-clause-controller_room : goal.take_client-requires-clause-controller_room
take_client-requires-clause-controller_room g c =
    subst (λ (n : ℕ). HasRoom n c.args.to_controller.now) (most_of c.args.side side.Client c.args.answer.now c.args.self.now c.in-Client.is c.in-Whole.is) c.requires.controller_room

pub take_controller-requires-clause-completed : goal.take_controller-requires-clause-completed
take_controller-requires-clause-completed g c = subst (λ s. (of_side s c.args.self.now).whole ≡ true) c.in-Controller.is (c.requires.completed c.in-Whole.is)

pub take_controller-requires-clause-client_room : goal.take_controller-requires-clause-client_room
take_controller-requires-clause-client_room g c =
    subst (λ (n : ℕ). HasRoom n c.args.to_client.now) (most_of c.args.side side.Controller c.args.answer.now c.args.self.now c.in-Controller.is c.in-Whole.is) c.requires.client_room

pub returns-in_ok-fate-in-Client-clause-takes : goal.returns-in_ok-fate-in-Client-clause-takes
returns-in_ok-fate-in-Client-clause-takes g c =
    takes_of c.args.asset.now (says_by c.args.asset.now c.args.client.now.address c.args.rules.now c.args.moment) c.args.client.now c.args.moment c.args.side side.Client c.args.answer.now c.args.self.now c.in-Client.is c.in-Whole.is
    c.in_ok-fate-in-Client.fate _ _ c.in_ok-fate-in-Client.ensures.takes

pub returns-in_err-fate-in-Client-clause-misses : goal.returns-in_err-fate-in-Client-clause-misses
returns-in_err-fate-in-Client-clause-misses g c =
    on_err _ _ (misses_of c.args.asset.now (says_by c.args.asset.now c.args.client.now.address c.args.rules.now c.args.moment) c.args.client.now c.args.moment c.args.side side.Client c.args.answer.now c.args.self.now c.in-Client.is c.in-Whole.is
    _ _ _ c.in_err-fate-in-Client.ensures.misses)

pub returns-in_ok-fate-in-Client-clause-client_grows : goal.returns-in_ok-fate-in-Client-clause-client_grows
returns-in_ok-fate-in-Client-clause-client_grows g c =
    subst (λ (n : ℕ). Grows n 0 0 c.args.to_client.now c.take_client.new.to_client) (sym (most_of c.args.side side.Client c.args.answer.now c.args.self.now c.in-Client.is c.in-Whole.is))
    c.in_ok-fate-in-Client.ensures.client_grows

pub returns-in_ok-fate-in-Client-clause-controller_grows : goal.returns-in_ok-fate-in-Client-clause-controller_grows
returns-in_ok-fate-in-Client-clause-controller_grows g c =
    subst (λ (n : ℕ). Grows n 0 0 c.args.to_controller.now c.take_client.new.to_controller) (sym (most_of c.args.side side.Client c.args.answer.now c.args.self.now c.in-Client.is c.in-Whole.is))
    c.in_ok-fate-in-Client.ensures.controller_grows

pub returns-in_ok-fate-in-Controller-clause-takes :
    goal.returns-in_ok-fate-in-Controller-clause-takes
returns-in_ok-fate-in-Controller-clause-takes g c =
    takes_of c.args.asset.now (says_by c.args.asset.now c.args.client.now.address c.args.rules.now c.args.moment) c.args.client.now c.args.moment c.args.side side.Controller c.args.answer.now c.args.self.now c.in-Controller.is c.in-Whole.is
    c.in_ok-fate-in-Controller.fate _ _ (c.in_ok-fate-in-Controller.ensures.takes (says_by c.args.asset.now c.args.client.now.address c.args.rules.now c.args.moment) c.args.to_controller.now)

pub returns-in_err-fate-in-Controller-clause-misses : goal.returns-in_err-fate-in-Controller-clause-misses
returns-in_err-fate-in-Controller-clause-misses g c =
    on_err _ _ (misses_of c.args.asset.now (says_by c.args.asset.now c.args.client.now.address c.args.rules.now c.args.moment) c.args.client.now c.args.moment c.args.side side.Controller c.args.answer.now c.args.self.now c.in-Controller.is c.in-Whole.is
    _ _ _ (c.in_err-fate-in-Controller.ensures.misses (says_by c.args.asset.now c.args.client.now.address c.args.rules.now c.args.moment) c.args.to_controller.now))

pub returns-in_ok-fate-in-Controller-clause-client_grows : goal.returns-in_ok-fate-in-Controller-clause-client_grows
returns-in_ok-fate-in-Controller-clause-client_grows g c =
    subst (λ (n : ℕ). Grows n 0 0 c.args.to_client.now c.take_controller.new.to_client) (sym (most_of c.args.side side.Controller c.args.answer.now c.args.self.now c.in-Controller.is c.in-Whole.is))
    c.in_ok-fate-in-Controller.ensures.client_grows

pub returns-in_ok-fate-in-Controller-clause-controller_grows : goal.returns-in_ok-fate-in-Controller-clause-controller_grows
returns-in_ok-fate-in-Controller-clause-controller_grows g c = grows_same _ _ _
