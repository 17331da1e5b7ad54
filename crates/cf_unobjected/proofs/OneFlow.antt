-- What a watcher sees of one session has no objection.
use Rattle.std.proofs.Common.{◌≡◌, ◌≤◌, ◌^◌, ◌++◌, ℕ, List, [], ◌∷◌, Option, Some, None, refl, sym, ap, ◌∙◌, subst, append_assoc}
use Rattle.cf_unobjected.proofs.Common.{AllByRecursion, AreEvents, Carried, Flow, GoesTo, HasConflict, IsConflictAfter, PacketValue, SessionEvent, client_of, controller_ends, controllers, copy_of, legs_right, none-some, packets_of, top_of}
use Rattle.cf_lane.specs.Caller.{newcomer}
use Rattle.cf_lane.specs.Output.{outputs}
use Rattle.cf_session.specs.Laws.{AreUncutBefore, CarriesOneStream, SegmentsCarryOneStream, WorkIsOfTheTaken}
use Rattle.cf_session.specs.Session.{history, work_of}
use Rattle.cf_session.specs.Work.{Work, Works}
use Rattle.cf_leg.specs.OneStream.{CarryAll}
use Rattle.cf_watch.specs.declared.flow.Conflict.{Conflict}
use Rattle.cf_unobjected.specs.Unobjected.{BeginningsAreUnobjected}
use Rattle.cf_watch.specs.OneStream.{CarryOneStream, SeesOneStream}
use Rattle.cf_unobjected.specs.OneFlow.{CarriedSession, HasNoObjection, OneFlowIsUnobjected}
use Rattle.cf_unobjected.proofs.Carrying.{CarryOne, IsPlain, carry_all, events_carry, silent_carry, silent_top}
use Rattle.cf_unobjected.proofs.Towards.{all_to}
use Rattle.cf_view.specs.declared.Side.TheVariants as side

-- ---- where there is no conflict, there is no other answer

still_none : (carried : List Carried) (c : Carried) (before now : Option Conflict) → before ≡ None → IsConflictAfter (copy_of carried) c None None → IsConflictAfter (copy_of carried) c before now → now ≡ None
still_none carried c (Some k) now e h g = absurd (none-some k (sym e))
still_none carried c None None e h g = refl
still_none carried c None (Some k) e h g = absurd (h g.place g.here)

was_none : (carried : List Carried) (c : Carried) (before : Option Conflict) → IsConflictAfter (copy_of carried) c before None → before ≡ None
was_none carried c None h = refl
was_none carried c (Some k) h = absurd (none-some k h)

only_none : (carried : List Carried) (conflict : Option Conflict) → HasConflict carried None → HasConflict carried conflict → conflict ≡ None
only_none [] conflict h g = g
only_none (c ∷ carried) conflict h g =
    let before = was_none carried c h.0 h.2 in
    let had : HasConflict carried None = subst (HasConflict carried) before h.1 in
    still_none carried c g.0 conflict (only_none carried g.0 had g.1) (subst (λ (b : Option Conflict). IsConflictAfter (copy_of carried) c b None) before h.2) g.2

-- ---- a session

plain_by : (f : Flow) (ps : List PacketValue) → AllByRecursion (GoesTo f) ps → AllByRecursion IsPlain ps
plain_by f [] h = tt
plain_by f (p ∷ ps) h = ((λ syn. subst (λ (q : PacketValue). IsPlain q) (sym (h.0.greets syn)) (λ x. refl) syn), plain_by f ps h.1)

module _ (carry : SegmentsCarryOneStream) (works : WorkIsOfTheTaken) (sees : CarryOneStream) (judges : BeginningsAreUnobjected)
    (f : Flow) (limit : ℕ) (es : List SessionEvent) (carried : List Carried) (small : limit ≤ 2 ^ 30) (are : AreEvents f limit es) (uncut : AreUncutBefore es)
    (h : CarriedSession f es carried) where
  said : CarriesOneStream (controller_ends f).role (controllers es) (work_of es).to_controller
  said = (carry f limit es small are uncut).0

  all_carry : CarryOne said.said carried
  all_carry =
      let ps = packets_of (controllers es) in
      let plain = plain_by f ps (all_to f (controllers es) (legs_right f limit es are).controller) in
      let all : CarryAll said.said f.syn.seq 0 ps = events_carry said.said f.syn.seq (controllers es) said.one in
      subst (CarryOne said.said) (sym h.is)
      (carry_all said.said f.syn.seq h.silent h.heard (subst (AllByRecursion IsPlain) (sym h.packets) plain)
      (subst (λ (qs : List PacketValue). CarryAll said.said f.syn.seq (top_of h.silent) qs) (sym h.packets)
      (subst (λ k. CarryAll said.said f.syn.seq k ps) (sym (silent_top h.silent h.are_silent)) all))
      (silent_carry said.said h.silent h.are_silent))

  seen : SeesOneStream said.said carried
  seen = sees said.said carried all_carry

  no_objection : HasNoObjection f carried
  no_objection =
      let w : Works f.site (client_of f) (history es) (work_of es) = works f limit es are in
      record {
        no_conflict = λ conflict g. only_none carried conflict seen.no_conflict g;
        unobjected = λ bytes born has.
            (let front = seen.bytes bytes has in
            let all : outputs f.site side.Controller [] w.judged ≡ bytes ++ (front.0 ++ said.goes_on.more) =
            sym (ap (λ (x : Work). x.to_controller.bytes) w.is_work) ∙ said.goes_on.bytes ∙ ap (λ (xs : List ℕ). xs ++ said.goes_on.more) front.1 ∙ append_assoc bytes front.0 said.goes_on.more in
            judges f.site (newcomer (client_of f).address) (history es) w.judged bytes (front.0 ++ said.goes_on.more) born w.are_judged all);
      }

pub one_flow : SegmentsCarryOneStream → WorkIsOfTheTaken → CarryOneStream → BeginningsAreUnobjected → OneFlowIsUnobjected
one_flow carry works sees judges f limit es carried small are uncut h = no_objection carry works sees judges f limit es carried small are uncut h
