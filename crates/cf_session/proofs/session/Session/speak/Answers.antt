use Rattle.std.proofs.Common.{◌≡◌, [], ◌∷◌, ◌++◌, length, refl, sym, ap, ◌∙◌, subst, arith}
use Rattle.cf_leg.specs.Event.{Spoke, Unspoken}
use Rattle.cf_outq.specs.SendQueue.{IsQueueOf, Queue}
use Rattle.cf_rebuild.specs.ReceiveWindow.{Window, base_of}
use Rattle.cf_session.proofs.Legs.{spoken_of}
use Rattle.cf_session.proofs.Steady.{steady_first, steady_on}
use Rattle.cf_session.proofs.Telling.{then_sent, told_sent}
use Rattle.cf_session.specs.Parts.{IsLegBetween, SessionValue}
use Rattle.cf_session.specs.Session.{client_ends, controller_ends}
use Rattle.cf_session.specs.Told.{told}
use Rattle.cf_session.specs.Turn.{IsSteady, MaySpeak, OnlySpeaks, SaysBoth, came_greeted, greetings, is_roomy}
use Rattle.cf_leg.specs.Emits.{IsRight}
use Rattle.cf_leg.specs.declared.Ends.{Ends}
use Rattle.cf_session.proofs.Able.{can_answer}
use Rattle.cf_session.proofs.Amid.{amid_after, amid_as, amid_before, amid_sent, on_err}
use Rattle.cf_session.proofs.Legs.{right_of}
use Rattle.cf_session.proofs.Telling.{at-append}
use Rattle.cf_session.specs.Sent.{at}
use Rattle.cf_session.specs.Turn.{SaysAmid}
use Rattle.cf_session.proofs.session.Session.speak.Goals as goal

pub returns-clause-says : goal.returns-clause-says
returns-clause-says g c = λ flow x y cs ds w v at_c at_d may stands.
    let now = c.args.moment in
    let middle : SessionValue = record { client = c.self-2.inside.client; controller = c.self-2.inside.controller; lane = c.self-2.inside.lane; to_client = c.self-2.inside.to_client; to_controller = c.self-2.inside.to_controller; closed = c.self-2.inside.closed; limit = c.self-2.inside.limit; source = c.self-2.inside.source } in
    let path = c.self-2.view_is ∙ c.greet_client.ensures.same in
    let m = subst (MaySpeak flow x y cs ds w v) (sym c.self.view_is) stands in
    let a = c.in_ok-speak.ensures.spoken in
    let b = c.in_ok-speak-2.ensures.spoken in
    let roomy = c.are_small-roomy.result in
    let greeted = c.in_ok-greet_client.ensures.greets flow y ds at_d may m.client_stands in
    let d0 = g.D.Desk.value c.args.desk.now in
    let d1 = g.D.Desk.value c.speak.new.desk in
    let d2 = g.D.Desk.value c.greet_client.new.desk in
    let d3 = g.D.Desk.value c.speak-2.new.desk in
    let hello = record y { came = came_greeted flow c.args.number y.came } in
    let one = told_sent d0 d1 now a.outs a.packets c.speak.ensures.frame.lines in
    let three = told_sent d2 d3 now b.outs b.packets c.speak-2.ensures.frame.lines in
    let new : SessionValue = record middle { client = c.speak-2.new.self; to_client = c.speak-2.new.queue } in
    subst (λ r. SaysBoth flow now c.args.number x cs y ds w v r new (told d0) (told d3)) (c.are_small-roomy.ensures.value ∙ ap is_roomy c.self.view_is)
    (record {
      outs_c = a.outs;
      outs_d = b.outs;
      controller_stands = subst (λ (s : SessionValue). IsLegBetween (controller_ends flow) s.controller s.to_controller (record x { ending = Spoke v roomy a.outs } ∷ cs)) (sym path)
          (spoken_of (controller_ends flow) roomy now c.self.inside.controller c.speak.new.self c.self.inside.to_controller c.speak.new.queue _ _ x cs v a c.in_ok-speak.ensures.ends at_c m.controller_stands m.to_controller_stands);
      client_stands = spoken_of (client_ends flow) roomy now c.self-2.inside.client c.speak-2.new.self c.self-2.inside.to_client c.speak-2.new.queue _ _ hello ds w b c.in_ok-speak-2.ensures.ends at_d
          (subst (λ (s : SessionValue). IsLegBetween (client_ends flow) s.client s.to_client (record hello { ending = Unspoken } ∷ ds)) (sym c.self-2.view_is) greeted.stands)
          (subst (λ (s : SessionValue). IsQueueOf s.to_client w) (sym path) m.to_client_stands);
      told = then_sent (told d0) (told d1) (told d3) now a.outs (greetings flow c.args.number ++ b.outs) one (then_sent (told d1) (told d2) (told d3) now (greetings flow c.args.number) b.outs greeted.told three);
    })

pub returns-clause-steady : goal.returns-clause-steady
returns-clause-steady g c =
    let path = c.self-2.view_is ∙ c.greet_client.ensures.same in
    let steady = subst (λ s. IsSteady s _) (sym c.self-2.view_is) c.in_ok-greet_client.ensures.steady in
    let kept_c : length c.self-2.inside.to_client.kept ≡ length c.self.inside.to_client.kept = ap (λ (s : SessionValue). length s.to_client.kept) path in
    let kept_k : length c.self-2.inside.to_controller.kept ≡ length c.self.inside.to_controller.kept = ap (λ (s : SessionValue). length s.to_controller.kept) path ∙ ap (λ (q : Queue). length q.kept) c.in_ok-speak.ensures.queue in
    let base : base_of c.self-2.inside.controller.window ≡ base_of c.self.inside.controller.window = ap (λ (s : SessionValue). base_of s.controller.window) path ∙ ap (λ (w : Window). base_of w) c.in_ok-speak.ensures.window.same in
    let edge : c.self-2.inside.controller.window.edge ≡ c.speak.new.self.window.edge = ap (λ (s : SessionValue). s.controller.window.edge) path in
    let near = c.in_ok-speak.ensures.window.near in
    steady_on c.speak-2.new.self c.speak-2.new.queue c.are_small-roomy.result steady c.in_ok-speak-2.ensures.ends c.in_ok-speak-2.ensures.window c.in_ok-speak-2.ensures.queue
    (λ e. (let k = (c.are_small-roomy.ensures.kept e).0 in omega (arith, k, kept_c))) (λ e. (let k = (c.are_small-roomy.ensures.kept e).1 in omega (arith, k, kept_k))) (omega (arith, near, base, edge))

pub returns-clause-only : goal.returns-clause-only
returns-clause-only g c =
    let middle : SessionValue = record { client = c.self-2.inside.client; controller = c.self-2.inside.controller; lane = c.self-2.inside.lane; to_client = c.self-2.inside.to_client; to_controller = c.self-2.inside.to_controller; closed = c.self-2.inside.closed; limit = c.self-2.inside.limit; source = c.self-2.inside.source } in
    let path = c.self-2.view_is ∙ c.greet_client.ensures.same in
    let window = ap (λ (s : SessionValue). s.client.window) c.self-2.view_is ∙ c.in_ok-greet_client.ensures.window in
    let new : SessionValue = record middle { client = c.speak-2.new.self; to_client = c.speak-2.new.queue } in
    subst (λ s. OnlySpeaks s new) c.self.view_is
    (record {
      client_window = c.in_ok-speak-2.ensures.window.same ∙ ap (λ (w : Window). let r : Window = record w { edge = c.speak-2.new.self.window.edge } in r) window;
      controller_window = ap (λ (s : SessionValue). s.controller.window) path ∙ c.in_ok-speak.ensures.window.same
          ∙ ap (λ (s : SessionValue). let r : Window = record c.self.inside.controller.window { edge = s.controller.window.edge } in r) (sym path);
      to_client = c.in_ok-speak-2.ensures.queue ∙ ap (λ (s : SessionValue). let r : Queue = record s.to_client { sent = c.speak-2.new.queue.sent } in r) path;
      to_controller = ap (λ (s : SessionValue). s.to_controller) path ∙ c.in_ok-speak.ensures.queue
          ∙ ap (λ (s : SessionValue). let r : Queue = record c.self.inside.to_controller { sent = s.to_controller.sent } in r) (sym path);
      rest = ap (λ (s : SessionValue). let r : SessionValue = record s { client = c.speak-2.new.self; controller = c.self-2.inside.controller; to_client = c.speak-2.new.queue; to_controller = c.self-2.inside.to_controller } in r) path;
    })

pub greet_client-requires-clause-steady : goal.greet_client-requires-clause-steady
greet_client-requires-clause-steady g c =
    let steady = subst (λ s. IsSteady s _) (sym c.self.view_is) c.requires.steady in
    steady_first c.speak.new.self c.speak.new.queue c.are_small-roomy.result steady c.in_ok-speak.ensures.window c.in_ok-speak.ensures.queue
    (λ e. (c.are_small-roomy.ensures.kept e).0) (λ e. (c.are_small-roomy.ensures.kept e).1) c.has_ended.ensures.bounds.near

pub returns-in_err-speak-clause-broken : goal.returns-in_err-speak-clause-broken
returns-in_err-speak-clause-broken g c =
    on_err c.from_residual.result (λ flow x y cs ds w v at_c at_d may stands.
    let now = c.args.moment in
    let roomy = c.are_small-roomy.result in
    let m = subst (MaySpeak flow x y cs ds w v) (sym c.self.view_is) stands in
    let d0 = g.D.Desk.value c.args.desk.now in
    let d1 = g.D.Desk.value c.speak.new.desk in
    let a = c.in_err-speak.ensures.broken x cs v at_c m.controller_stands.stands m.to_controller_stands in
    let b = can_answer flow c.args.number _ _ y ds w roomy may m.client_stands in
    let rest = greetings flow c.args.number ++ b.0 in
    subst (λ r. SaysAmid flow now c.args.number x cs y ds w v r d0 d1) (c.are_small-roomy.ensures.value ∙ ap is_roomy c.self.view_is)
    (record {
      outs_c = a.outs;
      outs_d = b.0;
      controller_right = subst (λ (n : Ends). IsRight n cs (record x { ending = Spoke v roomy a.outs })) m.controller_stands.is a.right;
      client_right = b.1;
      amid = amid_as (at now a.outs ++ at now rest) _ [] [] d0 d1 (sym (at-append now a.outs rest)) refl
          (amid_before (at now a.outs) (at now rest) [] [] d0 d1 (amid_sent now a.outs d0 d1 a.breaks c.speak.ensures.frame));
    }))

pub returns-in_err-greet_client-clause-broken : goal.returns-in_err-greet_client-clause-broken
returns-in_err-greet_client-clause-broken g c =
    on_err c.from_residual-in_err-greet_client.result (λ flow x y cs ds w v at_c at_d may stands.
    let now = c.args.moment in
    let roomy = c.are_small-roomy.result in
    let m = subst (MaySpeak flow x y cs ds w v) (sym c.self.view_is) stands in
    let d0 = g.D.Desk.value c.args.desk.now in
    let d1 = g.D.Desk.value c.speak.new.desk in
    let d2 = g.D.Desk.value c.greet_client.new.desk in
    let a = c.in_ok-speak.ensures.spoken in
    let b = can_answer flow c.args.number _ _ y ds w roomy may m.client_stands in
    let said = spoken_of (controller_ends flow) roomy now c.self.inside.controller c.speak.new.self c.self.inside.to_controller c.speak.new.queue _ _ x cs v a c.in_ok-speak.ensures.ends at_c m.controller_stands m.to_controller_stands in
    let one = told_sent d0 d1 now a.outs a.packets c.speak.ensures.frame.lines in
    let greets = c.in_err-greet_client.ensures.broken flow y ds at_d may m.client_stands in
    let hi = greetings flow c.args.number in
    subst (λ r. SaysAmid flow now c.args.number x cs y ds w v r d0 d2) (c.are_small-roomy.ensures.value ∙ ap is_roomy c.self.view_is)
    (record {
      outs_c = a.outs;
      outs_d = b.0;
      controller_right = right_of (controller_ends flow) _ _ (record x { ending = Spoke v roomy a.outs }) cs said;
      client_right = b.1;
      amid = amid_as (at now a.outs ++ (at now hi ++ at now b.0)) _ [] [] d0 d2 (ap (λ xs. at now a.outs ++ xs) (sym (at-append now hi b.0)) ∙ sym (at-append now a.outs (hi ++ b.0))) refl
          (amid_after (at now a.outs) (at now hi ++ at now b.0) [] [] d0 d1 d2 one c.in_ok-speak.ensures.frame.rest
          (amid_before (at now hi) (at now b.0) [] [] d1 d2 greets));
    }))

pub returns-in_err-speak-2-clause-broken : goal.returns-in_err-speak-2-clause-broken
returns-in_err-speak-2-clause-broken g c =
    on_err c.from_residual-in_err-speak-2.result (λ flow x y cs ds w v at_c at_d may stands.
    let now = c.args.moment in
    let roomy = c.are_small-roomy.result in
    let path = c.self-2.view_is ∙ c.greet_client.ensures.same in
    let m = subst (MaySpeak flow x y cs ds w v) (sym c.self.view_is) stands in
    let d0 = g.D.Desk.value c.args.desk.now in
    let d1 = g.D.Desk.value c.speak.new.desk in
    let d2 = g.D.Desk.value c.greet_client.new.desk in
    let d3 = g.D.Desk.value c.speak-2.new.desk in
    let a = c.in_ok-speak.ensures.spoken in
    let said = spoken_of (controller_ends flow) roomy now c.self.inside.controller c.speak.new.self c.self.inside.to_controller c.speak.new.queue _ _ x cs v a c.in_ok-speak.ensures.ends at_c m.controller_stands m.to_controller_stands in
    let greeted = c.in_ok-greet_client.ensures.greets flow y ds at_d may m.client_stands in
    let hi = greetings flow c.args.number in
    let hello = record y { came = came_greeted flow c.args.number y.came } in
    let legs = subst (λ (s : SessionValue). IsLegBetween (client_ends flow) s.client s.to_client (record hello { ending = Unspoken } ∷ ds)) (sym c.self-2.view_is) greeted.stands in
    let b = c.in_err-speak-2.ensures.broken hello ds w at_d legs.stands (subst (λ (s : SessionValue). IsQueueOf s.to_client w) (sym path) m.to_client_stands) in
    let one = told_sent d0 d1 now a.outs a.packets c.speak.ensures.frame.lines in
    subst (λ r. SaysAmid flow now c.args.number x cs y ds w v r d0 d3) (c.are_small-roomy.ensures.value ∙ ap is_roomy c.self.view_is)
    (record {
      outs_c = a.outs;
      outs_d = b.outs;
      controller_right = right_of (controller_ends flow) _ _ (record x { ending = Spoke v roomy a.outs }) cs said;
      client_right = subst (λ (n : Ends). IsRight n ds (record hello { ending = Spoke w roomy b.outs })) legs.is b.right;
      amid = amid_as (at now a.outs ++ (at now hi ++ at now b.outs)) _ [] [] d0 d3 (ap (λ xs. at now a.outs ++ xs) (sym (at-append now hi b.outs)) ∙ sym (at-append now a.outs (hi ++ b.outs))) refl
          (amid_after (at now a.outs) (at now hi ++ at now b.outs) [] [] d0 d1 d3 one c.in_ok-speak.ensures.frame.rest
          (amid_after (at now hi) (at now b.outs) [] [] d1 d2 d3 greeted.told c.in_ok-greet_client.ensures.frame
          (amid_sent now b.outs d2 d3 b.breaks c.speak-2.ensures.frame)));
    }))
