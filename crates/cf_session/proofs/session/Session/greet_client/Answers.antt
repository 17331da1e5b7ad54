use Rattle.std.proofs.Common.{◌∷◌, [], true, false, not, refl, sym, ap, ◌∙◌, subst}
use Rattle.std.proofs.lemmas.Bool.{false≢true}
use Rattle.cf_leg.specs.Emits.{syn_ack_for}
use Rattle.cf_leg.specs.Event.{Unspoken}
use Rattle.cf_session.proofs.Greeting.{greeted_gets, greeted_stands, made_phase, own_of}
use Rattle.cf_session.specs.Parts.{IsLegBetween, SessionValue}
use Rattle.cf_session.specs.Session.{client_ends}
use Rattle.cf_session.specs.Told.{told}
use Rattle.cf_session.specs.Turn.{GreetsClient, IsSteady, MayGreet}
use Rattle.cf_session.proofs.Amid.{gets_sent, on_err}
use Rattle.cf_session.specs.Broken.{BreaksAmid}
use Rattle.cf_session.specs.Sent.{at}
use Rattle.cf_session.specs.Turn.{greetings}
use Rattle.cf_session.proofs.session.Session.greet_client.Goals as goal

pub greet-requires-clause-number : goal.greet-requires-clause-number
greet-requires-clause-number g c = own_of _ c.in-Some.number (subst (λ s. IsSteady s _) (sym c.self.view_is) c.requires.steady).passive

pub returns-then-not-is_made-clause-greets : goal.returns-then-not-is_made-clause-greets
returns-then-not-is_made-clause-greets g c = λ flow d ds at may legs.
    let may' = subst (λ n. MayGreet n d ds) c.in-Some.is may in
    let s = subst (λ (s : SessionValue). IsLegBetween (client_ends flow) s.client s.to_client (record d { ending = Unspoken } ∷ ds)) (sym c.self.view_is) legs in
    let made = made_phase c.open_legs_have_greeted.ensures (client_ends flow) c.self.inside.client c.self.inside.to_client d ds may'.0 may'.1 s in
    absurd (false≢true (c.if-not-is_made.ensures.greeted ∙ ap not made))

pub returns-clause-greets : goal.returns-clause-greets
returns-clause-greets g c = λ flow d ds at may legs.
    let may' = subst (λ n. MayGreet n d ds) c.in-Some.is may in
    let s = subst (λ (s : SessionValue). IsLegBetween (client_ends flow) s.client s.to_client (record d { ending = Unspoken } ∷ ds)) (sym c.self.view_is) legs in
    let law = c.open_legs_have_greeted.ensures in
    let n = c.in-Some.number in
    let now = c.args.moment in
    let e = c.in_ok-greet.ensures in
    let d0 = g.D.Desk.value c.args.desk.now in
    let d1 = g.D.Desk.value c.greet.new.desk in
    let new : SessionValue = record { client = c.greet.new.self; controller = c.self.inside.controller; lane = c.self.inside.lane; to_client = c.self.inside.to_client; to_controller = c.self.inside.to_controller; closed = c.self.inside.closed; limit = c.self.inside.limit; source = c.self.inside.source } in
    subst (λ x. GreetsClient flow now x d ds new (told d0) (told d1)) (sym c.in-Some.is)
    (record {
      stands = greeted_stands law (client_ends flow) c.self.inside.client c.self.inside.to_client d ds may'.0 may'.1 s flow refl n now c.greet.new.self d0 d1 false e.greeted e.ends at;
      told = gets_sent false now (syn_ack_for (client_ends flow) flow.syn.seq n ∷ []) d0 d1
          (greeted_gets law (client_ends flow) c.self.inside.client c.self.inside.to_client d ds may'.0 may'.1 s flow refl n now c.greet.new.self d0 d1 false e.greeted e.ends at) e.frame;
    })

pub returns-in_err-greet-clause-broken : goal.returns-in_err-greet-clause-broken
returns-in_err-greet-clause-broken g c =
    on_err c.from_residual.result (λ flow d ds moment may legs.
    let may' = subst (λ n. MayGreet n d ds) c.in-Some.is may in
    let s = subst (λ (s : SessionValue). IsLegBetween (client_ends flow) s.client s.to_client (record d { ending = Unspoken } ∷ ds)) (sym c.self.view_is) legs in
    let n = c.in-Some.number in
    let now = c.args.moment in
    let e = c.in_err-greet.ensures in
    let d0 = g.D.Desk.value c.args.desk.now in
    let d1 = g.D.Desk.value c.greet.new.desk in
    subst (λ x. BreaksAmid (at now (greetings flow x)) [] d0 d1) (sym c.in-Some.is)
    (gets_sent true now (syn_ack_for (client_ends flow) flow.syn.seq n ∷ []) d0 d1
    (greeted_gets c.open_legs_have_greeted.ensures (client_ends flow) c.self.inside.client c.self.inside.to_client d ds may'.0 may'.1 s flow refl n now c.greet.new.self d0 d1 true e.greeted e.ends moment) e.frame))
