-- The beginning of a session, where the desk failed amid it.
use Rattle.std.proofs.Common.{◌≡◌, ℕ, ◌+◌, Bool, true, false, List, [], ◌∷◌, refl, ◌∙◌, subst, inl, inr}
use Rattle.cf_audit.specs.Line.{Begun}
use Rattle.cf_lane.specs.Handled.{MayHaveAdded}
use Rattle.cf_leg.specs.Calls.{Greeted, SpeakingBreaks, greeting_by}
use Rattle.cf_leg.specs.Emits.{IsGreeting, syn}
use Rattle.cf_leg.specs.Emitted.{BreaksOff, GetsSegments}
use Rattle.cf_leg.specs.Event.{Greeting, begun}
use Rattle.cf_leg.specs.LegValue.{LegValue, marks}
use Rattle.cf_leg.specs.declared.Ends.{Ends}
use Rattle.cf_leg.specs.declared.Role.TheVariants as role
use Rattle.cf_outq.specs.SendQueue.{IsQueueOf, Queue}
use Rattle.cf_outside.specs.Desk.{DeskValue}
use Rattle.cf_packet.specs.Packet.{PacketValue}
use Rattle.cf_stream.specs.Stream.{no_letters}
use Rattle.cf_session.proofs.Amid.{amid_after, amid_before, amid_lines, amid_sent, lines_leave_none}
use Rattle.cf_session.proofs.Beginning.{is_first, the_first}
use Rattle.cf_session.proofs.Legs.{EventsBegin}
use Rattle.cf_outside.specs.Frames.{EmitsAndLogs, OnlyEmits, OnlyLogs}
use Rattle.cf_session.specs.Broken.{BreaksBeginning, KeepsLines}
use Rattle.cf_session.specs.Parts.{IsLegBetween}
use Rattle.cf_session.specs.Sent.{at, line}
use Rattle.cf_session.specs.Session.{Flow, controller_ends}
use Rattle.cf_session.specs.Told.{told, with_both}

-- the SYN went out, or failed
pub greeted_syn : {failed : Bool} (begin : EventsBegin) (ends : Ends) (number tick : ℕ) (leg next : LegValue) (q : Queue) (old new : DeskValue) → ends.role ≡ role.Active number → IsLegBetween ends leg q [] →
    next.ends ≡ leg.ends → Greeted (tick + 1) number leg next old new failed → GetsSegments failed (tick + 1) (syn ends number ∷ []) old new
greeted_syn {failed} begin ends number tick leg next q old new r s same g =
    let own = greeting_by leg number in
    let first = g.stands (marks q) (begun tick) [] refl (begin leg (marks q) tick [] refl s.stands) in
    let greeting = subst (λ (n : Ends). IsGreeting n n.role own) (same ∙ s.is) first.of_right.0.came.0 in
    subst (λ p. GetsSegments failed (tick + 1) (p ∷ []) old new) (subst (λ r. IsGreeting ends r own) r greeting) g.gets

-- the speech, which says nothing, did not fail amid a packet
pub speech_amid : (begin : EventsBegin) (ends : Ends) (tick : ℕ) (number : ℕ) (leg next : LegValue) (q : Queue) (old mid new : DeskValue) → IsLegBetween ends leg q [] → IsQueueOf q no_letters →
    Greeted (tick + 1) number leg next old mid false → SpeakingBreaks true (tick + 1) next q mid new → BreaksOff (tick + 1) [] mid new
speech_amid begin ends tick number leg next q old mid new s queue g h =
    let first = g.stands (marks q) (begun tick) [] refl (begin leg (marks q) tick [] refl s.stands) in
    let x = h (record (begun tick) { came = Greeting (greeting_by leg number) }) [] no_letters refl first queue in
    let none : x.outs ≡ [] = x.right.ending in
    subst (λ ps. BreaksOff (tick + 1) ps mid new) none x.breaks

module _ (f : Flow) (tick : ℕ) where
  abbrev syns : List PacketValue
  syns = syn (controller_ends f) f.syn.seq ∷ []

  abbrev begun_line : List (List ℕ)
  begun_line = line f (tick + 1) Begun ∷ []

  module _ (old mid new : DeskValue) where
    pub syn_failed : {failed : Bool} → BreaksOff (tick + 1) syns old new → OnlyEmits old new failed → BreaksBeginning f tick old new
    syn_failed h sends = record {
      event = the_first f tick;
      is_beginning = is_first f tick;
      amid = amid_before (at (tick + 1) syns) [] [] begun_line old new (amid_sent (tick + 1) syns old new h sends);
      order = inr (record { lines = sends.lines; line_part = sends.line_part });
    }

    module _ (sent : told mid ≡ with_both (told old) (at (tick + 1) syns) []) (frame : EmitsAndLogs old mid false) where
      pub speech_failed : {failed : Bool} → BreaksOff (tick + 1) [] mid new → OnlyEmits mid new failed → KeepsLines old new → BreaksBeginning f tick old new
      speech_failed h sends keeps = record {
        event = the_first f tick;
        is_beginning = is_first f tick;
        amid = amid_before (at (tick + 1) syns) [] [] begun_line old new (amid_after (at (tick + 1) syns) [] [] [] old mid new sent frame (amid_sent (tick + 1) [] mid new h sends));
        order = inr keeps;
      }

      pub line_failed : {failed : Bool} → MayHaveAdded begun_line mid new → OnlyLogs mid new failed → BreaksBeginning f tick old new
      line_failed h log = record {
        event = the_first f tick;
        is_beginning = is_first f tick;
        amid = amid_after (at (tick + 1) syns) [] [] begun_line old mid new sent frame (amid_lines begun_line mid new h log);
        order = inl (lines_leave_none (at (tick + 1) syns) [] begun_line old mid new sent frame h log);
      }
