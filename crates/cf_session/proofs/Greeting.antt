-- The client is greeted.
use Rattle.std.proofs.Common.{◌≡◌, ℕ, Bool, true, false, List, [], ◌∷◌, Option, Some, None, refl, sym, ap, ◌∙◌, subst}
use Rattle.std.specs.Option.{is_some, option_or}
use Rattle.std.proofs.lemmas.Bool.{cases_Bool, true≢false}
use Rattle.std.proofs.Common.{inl, inr}
use Rattle.cf_leg.specs.Calls.{Greeted, IsOwn, greeting_as, greeting_by, is_greeted_phase}
use Rattle.cf_leg.specs.Emits.{IsGreeting, syn_ack_for}
use Rattle.cf_leg.specs.Emitted.{GetsSegments}
use Rattle.cf_leg.specs.Event.{Came, Greeting, LegEvent, Nothing, Unspoken, moment}
use Rattle.cf_leg.specs.Heard.{opened}
use Rattle.cf_leg.specs.LegValue.{IsLegOf, LegValue, marks, phase_of}
use Rattle.cf_leg.specs.Told.{greeting, is_greeted}
use Rattle.cf_leg.specs.declared.Ends.{Ends}
use Rattle.cf_leg.specs.declared.Role.{Role}
use Rattle.cf_leg.specs.declared.Role.TheVariants as role
use Rattle.cf_outq.specs.SendQueue.{Queue}
use Rattle.cf_outside.specs.Desk.{DeskValue}
use Rattle.cf_packet.specs.Packet.{PacketValue}
use Rattle.cf_session.specs.Parts.{IsLegBetween, IsPassive}
use Rattle.cf_session.specs.Session.{Flow, client_ends}

pub own_of : (r : Role) (n : ℕ) → IsPassive r → IsOwn r n
own_of (role.Active own) n h = absurd h
own_of (role.Passive other mss) n h = tt

none_greeted : (o : Option PacketValue) → is_some o ≡ false → o ≡ None
none_greeted None e = refl
none_greeted (Some p) e = absurd (true≢false e)

pub nothing_came : (ends : Ends) (leg : LegValue) (q : Queue) (d : LegEvent) (ds : List LegEvent) → d.came ≡ Nothing → IsLegBetween ends leg q (record d { ending = Unspoken } ∷ ds) → IsLegBetween ends leg q (record d { came = Nothing; ending = Unspoken } ∷ ds)
nothing_came ends leg q d ds e h = subst (λ (x : Came). IsLegBetween ends leg q (record d { came = x; ending = Unspoken } ∷ ds)) e h

-- ---- a leg that was not greeted is made

abbrev pub OpenLegsHaveGreeted : Type 0
OpenLegsHaveGreeted = (r : Role) (es : List LegEvent) → opened r es ≡ true → is_greeted es ≡ true

not_open : (law : OpenLegsHaveGreeted) (r : Role) (es : List LegEvent) → is_greeted es ≡ false → opened r es ≡ false
not_open law r es e = elim (cases_Bool (opened r es)) [ inl b ↦ absurd (true≢false (sym (law r es b) ∙ e)) | inr b ↦ b ]

module _ (law : OpenLegsHaveGreeted) (ends : Ends) (leg : LegValue) (q : Queue) (d : LegEvent) (ds : List LegEvent) (none : d.came ≡ Nothing) (ungreeted : is_greeted ds ≡ false) (s : IsLegBetween ends leg q (record d { ending = Unspoken } ∷ ds)) where
  abbrev e : LegEvent
  e = record d { came = Nothing; ending = Unspoken }

  still : is_greeted (e ∷ ds) ≡ false
  still = ap (λ o. is_some (option_or o None)) (none_greeted (greeting ds) ungreeted)

  pub made_phase : is_greeted_phase leg.phase ≡ false
  made_phase =
      let h = nothing_came ends leg q d ds none s in
      ap is_greeted_phase (h.stands.of_phase ∙ ap (λ b. phase_of b (is_greeted (e ∷ ds))) (not_open law leg.ends.role (e ∷ ds) still) ∙ ap (phase_of false) still)

  module _ (flow : Flow) (is : ends ≡ client_ends flow) (n now : ℕ) (new : LegValue) (old_desk new_desk : DeskValue) (failed : Bool) (g : Greeted now n leg new old_desk new_desk failed) (same : new.ends ≡ leg.ends) (at : now ≡ moment d) where
    st : IsLegOf new (marks q) (record d { came = Greeting (greeting_by leg n); ending = Unspoken } ∷ ds)
    st = g.stands (marks q) d ds at (nothing_came ends leg q d ds none s).stands

    out_is : greeting_by leg n ≡ syn_ack_for (client_ends flow) flow.syn.seq n
    out_is = ap (λ (x : Ends). greeting_as x n leg.other x.role) (s.is ∙ is)
        ∙ subst (λ (x : Ends). IsGreeting x x.role (greeting_as x n leg.other x.role)) (s.is ∙ is) (subst (λ (x : Ends). IsGreeting x x.role (greeting_by leg n)) same st.of_right.0.came.0)

    pub greeted_stands : IsLegBetween (client_ends flow) new q (record d { came = Greeting (syn_ack_for (client_ends flow) flow.syn.seq n); ending = Unspoken } ∷ ds)
    greeted_stands = record { is = same ∙ s.is ∙ is; stands = subst (λ p. IsLegOf new (marks q) (record d { came = Greeting p; ending = Unspoken } ∷ ds)) out_is st }

    pub greeted_gets : GetsSegments failed now (syn_ack_for (client_ends flow) flow.syn.seq n ∷ []) old_desk new_desk
    greeted_gets = subst (λ p. GetsSegments failed now (p ∷ []) old_desk new_desk) out_is g.gets
