-- What becomes of a client's I frame whose numbers are right.
use Rattle.cf_lane.specs.Rates.{Says}
use Rattle.cf_apci.specs.Apdu.{Info}
use Rattle.cf_audit.specs.declared.line.CutReason.{CutReason}
use Rattle.cf_lane.proofs.Handling.{push-nothing, with_lines-nothing}
use Rattle.cf_lane.specs.Iec104.{ack_octets, apdu_octets, apdu_output, fate_of_apdu, fate_of_asdu, or_cut, stamped}
use Rattle.cf_lane.specs.Judged.{Judged, has_ended}
use Rattle.cf_lane.specs.Log.{admission_lines, is_some_bytes, line_about, refusal_line, unit_lines, with_lines}
use Rattle.cf_lane.specs.Numbers.{events_of, has_mirror, info_cut, number_cut}
use Rattle.cf_lane.specs.Renumbered.{DoesApdu, Numbered, mirror_octets, numbered}
use Rattle.cf_lane.specs.Unit.{apdu_spelling}
use Rattle.cf_lane.specs.declared.fate.Admission.{Admission}
use Rattle.cf_lane.specs.declared.fate.Fate.{Fate}
use Rattle.cf_lane.specs.declared.fate.Refusal.{Refusal}
use Rattle.cf_asdu.specs.Mirror.{mirror_octet, mirrored}
use Rattle.cf_outq.specs.SendQueue.{Queue, after_push}
use Rattle.cf_policy.specs.declared.Asset.{Asset}
use Rattle.cf_renumber.specs.Counts.{Admitted, Refused, admitted_stamp, client_refusal, may_send, mirror_stamp, refused_stamp}
use Rattle.cf_renumber.specs.Numbers.{IsNumbersOf, NumbersValue}
use Rattle.cf_renumber.specs.declared.answer.NumberRefusal.{NumberRefusal}
use Rattle.cf_renumber.specs.declared.answer.RefusedStamp.{RefusedStamp}
use Rattle.cf_renumber.specs.declared.answer.Stamp.{Stamp}
use Rattle.cf_view.specs.declared.Endpoint.{Endpoint}
use Rattle.std.proofs.Common.{Bool, List, None, Option, Some, [], ap, arith, drop, false, length, nat_lt, ltb-true, refl, subst, sym, take, true, ℕ, ◌+◌, ◌<◌, ◌∙◌, ◌∷◌, ◌≡◌, ◌≤◌}
use Rattle.std.proofs.lemmas.List.{length-append, length-drop, length-take}
use Rattle.std.specs.Prelude.{IsSome, IsTrue, if◌then◌else◌, slice_index, ◌↔◌}
use Rattle.cf_audit.specs.declared.line.CutReason.TheVariants as cut
use Rattle.cf_lane.specs.declared.fate.Fate.TheVariants as fate
use Rattle.cf_view.specs.declared.Side.TheVariants as side

-- the numbers of a client's frame are right after earlier items, and it may be sent
pub record AreRight (send receive : ℕ) (earlier : List Judged) : Type 0 where
  pub may : may_send side.Client (events_of earlier) ≡ true
  pub none : client_refusal (events_of earlier) send receive ≡ None

-- a client's frame cuts before the client has started, and by its numbers
pub cut_unstarted : (earlier : List Judged) (send receive : ℕ) → may_send side.Client (events_of earlier) ≡ false → info_cut side.Client earlier send receive ≡ Some (cut.NotStarted side.Client)
cut_unstarted earlier send receive unstarted =
    ap (λ (b : Bool). if b then number_cut side.Client (client_refusal (events_of earlier) send receive) else Some (cut.NotStarted side.Client)) unstarted

pub cut_numbers : (earlier : List Judged) (send receive : ℕ) (refusal : NumberRefusal) (reason : CutReason) → may_send side.Client (events_of earlier) ≡ true →
    client_refusal (events_of earlier) send receive ≡ Some refusal → number_cut side.Client (Some refusal) ≡ Some reason → info_cut side.Client earlier send receive ≡ Some reason
cut_numbers earlier send receive refusal reason may refused is = rw (may, refused) is

-- one that cuts leaves nothing
pub does_cut : (asset : Asset) (says : Says) (client : Endpoint) (moment send receive : ℕ) (asdu : List ℕ) (old : Numbered) (earlier : List Judged) (reason : CutReason) (numbers : NumbersValue) →
    info_cut side.Client earlier send receive ≡ Some reason →
    DoesApdu asset says client moment side.Client (Info send receive asdu) (fate.Cuts reason) old (numbered numbers old.to_client old.to_controller old.lines) earlier
does_cut asset says client moment send receive asdu old earlier reason numbers is = record {
  fate = sym (ap (λ (c : Option CutReason). or_cut c (fate_of_asdu asset says asdu)) is);
  numbers = λ e. cc e;
  of_client = sym (push-nothing old.to_client);
  of_controller = sym (push-nothing old.to_controller);
  of_lines = sym (with_lines-nothing old.lines);
  client_quiet = λ e. refl;
  controller_quiet = λ e. refl;
}

module _ (asset : Asset) (says : Says) (client : Endpoint) (moment send receive : ℕ) (asdu : List ℕ) (old : Numbered) (earlier : List Judged) (right : AreRight send receive earlier) where
  is_fate : (f : Fate) → f ≡ fate_of_asdu asset says asdu → f ≡ fate_of_apdu asset says side.Client earlier (Info send receive asdu)
  is_fate f e = rw (right.may, right.none) e

  -- an admitted one goes on with its numbers towards the controller
  pub does_admitted : (used : Admission) (stamp : Stamp) (numbers : NumbersValue) (controller : Queue) (lines : Option (List (List ℕ))) → fate.Admitted used ≡ fate_of_asdu asset says asdu →
      stamp ≡ admitted_stamp (events_of earlier) receive → IsNumbersOf numbers (Admitted receive ∷ events_of earlier) →
      controller ≡ after_push old.to_controller (apdu_spelling (stamped stamp asdu)) → old.to_controller.ended ≡ false →
      lines ≡ with_lines old.lines (admission_lines asset client moment (apdu_octets (Info send receive asdu)) used) →
      DoesApdu asset says client moment side.Client (Info send receive asdu) (fate.Admitted used) old (numbered numbers old.to_client controller lines) earlier
  does_admitted used stamp numbers controller lines has is stands pushed goes l = record {
    fate = is_fate (fate.Admitted used) has;
    numbers = λ e. stands;
    of_client = sym (push-nothing old.to_client);
    of_controller = pushed ∙ ap (λ (t : Stamp). after_push old.to_controller (apdu_spelling (stamped t asdu))) is;
    of_lines = l;
    client_quiet = λ e. refl;
    controller_quiet = λ e. cc (e, goes);
  }

  module _ (refusal : Refusal) (replied : Bool) (here : replied ≡ has_mirror earlier asdu) (stamp : RefusedStamp) (is : stamp ≡ refused_stamp (events_of earlier) receive replied) where
    reply_by : (b : Bool) → mirror_octets (if b then Some (mirror_stamp (events_of earlier)) else None) asdu
        ≡ (if b then apdu_spelling (stamped (mirror_stamp (events_of earlier)) (mirrored asdu)) else [])
    reply_by true = refl
    reply_by false = refl

    pub reply_is : mirror_octets stamp.reply asdu ≡ apdu_output side.Client earlier (fate.Refused refusal) side.Client (Info send receive asdu)
    reply_is = rw (is, ← here) (reply_by replied)

    pub ack_is : ack_octets stamp.ack ≡ apdu_output side.Controller earlier (fate.Refused refusal) side.Client (Info send receive asdu)
    ack_is = rw is refl

    some_by : (b : Bool) → b ≡ is_some_bytes (if b then apdu_spelling (stamped (mirror_stamp (events_of earlier)) (mirrored asdu)) else [])
    some_by true = refl
    some_by false = refl

    pub replied_is : replied ≡ is_some_bytes (apdu_output side.Client earlier (fate.Refused refusal) side.Client (Info send receive asdu))
    replied_is = rw (← here) (some_by replied)

    quiet_by : (b : Bool) → has_ended side.Controller earlier ≡ true → b ≡ has_mirror earlier asdu →
        (if b then apdu_spelling (stamped (mirror_stamp (events_of earlier)) (mirrored asdu)) else []) ≡ []
    quiet_by true e is = (let none : has_mirror earlier asdu ≡ false = rw e refl in cc (is, none))
    quiet_by false e is = refl

    -- a refused one leaves its mirror, an S frame, and its line
    pub does_refused : (numbers : NumbersValue) (to_client to_controller : Queue) (lines : Option (List (List ℕ))) →
        fate.Refused refusal ≡ fate_of_asdu asset says asdu → IsNumbersOf numbers (Refused receive replied ∷ events_of earlier) →
        to_client ≡ after_push old.to_client (mirror_octets stamp.reply asdu) → to_controller ≡ after_push old.to_controller (ack_octets stamp.ack) →
        lines ≡ with_lines old.lines (line_about asset client moment (refusal_line asset refusal replied (apdu_octets (Info send receive asdu))) ∷ []) →
        old.to_client.ended ≡ has_ended side.Controller earlier → old.to_controller.ended ≡ false →
        DoesApdu asset says client moment side.Client (Info send receive asdu) (fate.Refused refusal) old (numbered numbers to_client to_controller lines) earlier
    does_refused numbers to_client to_controller lines has stands c k l ended goes = record {
      fate = is_fate (fate.Refused refusal) has;
      numbers = λ e. subst (λ (b : Bool). IsNumbersOf numbers (Refused receive b ∷ events_of earlier)) here stands;
      of_client = c ∙ ap (after_push old.to_client) reply_is;
      of_controller = k ∙ ap (after_push old.to_controller) ack_is;
      of_lines = l ∙ ap (λ (b : Bool). with_lines old.lines (line_about asset client moment (refusal_line asset refusal b (apdu_octets (Info send receive asdu))) ∷ [])) replied_is;
      client_quiet = λ e. rw (← here) (quiet_by replied (sym ended ∙ e) here);
      controller_quiet = λ e. cc (e, goes);
    }

    -- its line
    pub refused_lines : unit_lines asset client moment (is_some_bytes (apdu_output side.Client earlier (fate.Refused refusal) side.Client (Info send receive asdu))) side.Client
        (apdu_octets (Info send receive asdu)) (fate.Refused refusal) ≡ line_about asset client moment (refusal_line asset refusal replied (apdu_octets (Info send receive asdu))) ∷ []
    refused_lines = ap (λ (b : Bool). line_about asset client moment (refusal_line asset refusal b (apdu_octets (Info send receive asdu))) ∷ []) (sym replied_is)

-- a mirror is as long as its ASDU
pub length-mirrored : (asdu : List ℕ) → 9 ≤ length asdu → length (mirrored asdu) ≡ length asdu
length-mirrored asdu long =
    omega (arith, long, length-append (take 2 asdu) (mirror_octet (slice_index asdu 0) (slice_index asdu 2) ∷ drop 3 asdu), length-take 2 asdu, length-drop 3 asdu)

long_by : (e long b : Bool) → b ≡ (if e then false else long) → b ≡ true → long ≡ true
long_by true long b is h = cc (is, h)
long_by false long b is h = sym is ∙ h

-- a mirror takes no more octets than its APDU, and an S frame has six
pub mirror_most : (e b : Bool) (reply : Option Stamp) (asdu : List ℕ) → IsSome reply ↔ IsTrue b → b ≡ (if e then false else nat_lt 8 (length asdu)) →
    length (mirror_octets reply asdu) ≤ length asdu + 6
mirror_most e b None asdu told is = omega arith
mirror_most e b (Some stamp) asdu told is =
    let long : 8 < length asdu = ltb-true 8 (length asdu) (long_by e (nat_lt 8 (length asdu)) b is (told.0 refl)) in
    omega (arith, length-mirrored asdu (omega (arith, long)))

pub ack_most : (ack : Option ℕ) → length (ack_octets ack) ≤ 6
ack_most None = omega arith
ack_most (Some receive) = omega arith
