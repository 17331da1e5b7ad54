use Rattle.cf_lane.specs.Rings.{says_by}
use Rattle.std.proofs.Common.{rules, ◌≡◌, ◌+◌, ◌∷◌, [], List, Bool, ap, arith, length, refl, sym, subst, ◌∙◌, ℕ, false}
use Rattle.cf_lane.proofs.Failing.{on_err}
use Rattle.cf_lane.proofs.Logging.{logs_none}
use Rattle.cf_lane.proofs.Taking.{grows_push, grows_same, room_less}
use Rattle.cf_lane.specs.Handled.{Grows, MayHaveMore}
use Rattle.cf_lane.specs.Iec104.{ack_octets, apdu_octets}
use Rattle.cf_outq.specs.SendQueue.{Queue}
use Rattle.cf_lane.proofs.Renumbering.{AreRight, ack_most, cut_numbers, cut_unstarted, does_admitted, does_cut, does_refused, mirror_most, refused_lines}
use Rattle.cf_lane.specs.Numbers.{events_of, has_mirror}
use Rattle.cf_lane.specs.Renumbered.{MissesApdu, mirror_octets, numbered}
use Rattle.cf_lane.specs.Log.{admission_lines, line_about, refusal_line, with_lines}
use Rattle.cf_lane.specs.Judgement.{fate_of_judgement}
use Rattle.cf_apci.specs.Apdu.{Info}
use Rattle.std.specs.Prelude.{if◌then◌else◌, nat_lt}
use Rattle.cf_lane.specs.declared.fate.Fate.TheVariants as fate
use Rattle.cf_view.specs.declared.Side.TheVariants as side
use Rattle.cf_outside.specs.Desk.{DeskValue}
use Rattle.cf_lane.proofs.iec104.command.take_command.Goals as goal

pub returns-in_err-log_refusal-in-Refused-clause-misses :
    goal.returns-in_err-log_refusal-in-Refused-clause-misses
returns-in_err-log_refusal-in-Refused-clause-misses g c =
    let asset = c.args.asset.now in
    let client = c.args.client.now in
    let moment = c.args.moment in
    let asdu = c.args.asdu.now.bytes in
    let text = DeskValue.lines (g.D.Desk.value c.args.desk.now) in
    let old = numbered c.args.numbers.now c.args.to_client.now c.args.to_controller.now text in
    let r = c.in-Refused.refusal in
    let line = line_about asset client moment (refusal_line asset r c.has_mirror-replied.result (apdu_octets (Info c.args.send c.args.receive asdu))) in
    let shown : line_about asset client moment (refusal_line asset r c.has_mirror-replied.result c.args.octets.bytes) ≡ line =
    ap (λ (o : List ℕ). line_about asset client moment (refusal_line asset r c.has_mirror-replied.result o)) c.requires.octets in
    let missed : MissesApdu asset (says_by c.args.asset.now c.args.client.now.address c.args.rules.now c.args.moment) client moment side.Client (Info c.args.send c.args.receive asdu) old (DeskValue.lines (g.D.Desk.value c.log_refusal.new.desk)) (DeskValue.line_part (g.D.Desk.value c.log_refusal.new.desk)) = record {
      fate = fate.Refused r;
      uncut = refl;
      new = numbered c.refused-stamp.new.self c.push_refused.new.to_client c.push_refused.new.to_controller (with_lines text (line ∷ []));
      takes = λ earlier stands ended.
          (let right : AreRight c.args.send c.args.receive earlier = record { may = search rules; none = c.in_default.ensures.answer (events_of earlier) stands } in
          let awaits = c.in_default.ensures.stands (events_of earlier) stands in
          let here : c.has_mirror-replied.result ≡ has_mirror earlier asdu = c.has_mirror-replied.ensures ∙ ap (λ (b : Bool). if b then false else nat_lt 8 (length asdu)) ended in
          does_refused asset (says_by c.args.asset.now c.args.client.now.address c.args.rules.now c.args.moment) client moment c.args.send c.args.receive asdu old earlier right r c.has_mirror-replied.result here c.refused-stamp.result
          (c.refused-stamp.ensures.stamp (events_of earlier) c.args.receive awaits) _ _ _ _
          (sym (ap fate_of_judgement c.in-Refused.is) ∙ c.judge_asdu.ensures.fate c.args.client.now.address c.requires.rules) (c.refused-stamp.ensures.stands (events_of earlier) c.args.receive awaits)
          c.push_refused.ensures.client c.push_refused.ensures.controller refl ended c.requires.«open»);
      more = line ∷ [];
      are_more = λ earlier stands ended.
          (let right : AreRight c.args.send c.args.receive earlier = record { may = search rules; none = c.in_default.ensures.answer (events_of earlier) stands } in
          let awaits = c.in_default.ensures.stands (events_of earlier) stands in
          let here : c.has_mirror-replied.result ≡ has_mirror earlier asdu = c.has_mirror-replied.ensures ∙ ap (λ (b : Bool). if b then false else nat_lt 8 (length asdu)) ended in
          refused_lines asset (says_by c.args.asset.now c.args.client.now.address c.args.rules.now c.args.moment) client moment c.args.send c.args.receive asdu old earlier right r c.has_mirror-replied.result here c.refused-stamp.result
          (c.refused-stamp.ensures.stamp (events_of earlier) c.args.receive awaits));
      line = subst (λ (l : List ℕ). MayHaveMore (l ∷ []) text (DeskValue.lines (g.D.Desk.value c.log_refusal.new.desk)) (DeskValue.line_part (g.D.Desk.value c.log_refusal.new.desk))) shown
          c.in_err-log_refusal-in-Refused.ensures.fails;
    } in
    on_err _ _ missed

pub returns-in_ok-log_admission-in-Admitted-clause-takes : goal.returns-in_ok-log_admission-in-Admitted-clause-takes
returns-in_ok-log_admission-in-Admitted-clause-takes g c = λ earlier stands ended.
    (let right : AreRight c.args.send c.args.receive earlier = record {
      may = search rules;
      none = c.in_default.ensures.answer (events_of earlier) stands;
    } in
    let awaits = c.in_default.ensures.stands (events_of earlier) stands in
    let text = DeskValue.lines (g.D.Desk.value c.args.desk.now) in
    let old = numbered c.args.numbers.now c.args.to_client.now c.args.to_controller.now text in
    does_admitted c.args.asset.now (says_by c.args.asset.now c.args.client.now.address c.args.rules.now c.args.moment) c.args.client.now c.args.moment c.args.send c.args.receive c.args.asdu.now.bytes old earlier right c.in-Admitted.admission c.admitted-stamp.result _ _ _
    (sym (ap fate_of_judgement c.in-Admitted.is) ∙ c.judge_asdu.ensures.fate c.args.client.now.address c.requires.rules) (c.admitted-stamp.ensures.stamp (events_of earlier) c.args.receive awaits)
    (c.admitted-stamp.ensures.stands (events_of earlier) c.args.receive awaits) c.push_info.ensures.queue c.requires.«open»
    (c.in_ok-log_admission-in-Admitted.ensures.lines
    ∙ ap (λ (o : List ℕ). with_lines text (admission_lines c.args.asset.now c.args.client.now c.args.moment o c.in-Admitted.admission)) c.requires.octets))

pub returns-in_err-log_admission-in-Admitted-clause-misses :
    goal.returns-in_err-log_admission-in-Admitted-clause-misses
returns-in_err-log_admission-in-Admitted-clause-misses g c =
    let asset = c.args.asset.now in
    let client = c.args.client.now in
    let moment = c.args.moment in
    let asdu = c.args.asdu.now.bytes in
    let text = DeskValue.lines (g.D.Desk.value c.args.desk.now) in
    let log = DeskValue.lines (g.D.Desk.value c.log_admission.new.desk) in
    let part = DeskValue.line_part (g.D.Desk.value c.log_admission.new.desk) in
    let old = numbered c.args.numbers.now c.args.to_client.now c.args.to_controller.now text in
    let used = c.in-Admitted.admission in
    let own = admission_lines asset client moment (apdu_octets (Info c.args.send c.args.receive asdu)) used in
    let missed : MissesApdu asset (says_by asset client.address c.args.rules.now moment) client moment side.Client (Info c.args.send c.args.receive asdu) old log part = record {
      fate = fate.Admitted used;
      uncut = refl;
      new = numbered c.admitted-stamp.new.self c.args.to_client.now c.push_info.new.queue (with_lines text own);
      takes = λ earlier stands ended.
          (let right : AreRight c.args.send c.args.receive earlier = record { may = search rules; none = c.in_default.ensures.answer (events_of earlier) stands } in
          let awaits = c.in_default.ensures.stands (events_of earlier) stands in
          does_admitted asset (says_by asset client.address c.args.rules.now moment) client moment c.args.send c.args.receive asdu old earlier right used c.admitted-stamp.result _ _ _
          (sym (ap fate_of_judgement c.in-Admitted.is) ∙ c.judge_asdu.ensures.fate client.address c.requires.rules) (c.admitted-stamp.ensures.stamp (events_of earlier) c.args.receive awaits)
          (c.admitted-stamp.ensures.stands (events_of earlier) c.args.receive awaits) c.push_info.ensures.queue c.requires.«open» refl);
      more = own;
      are_more = λ earlier stands ended. refl;
      line = subst (λ (o : List ℕ). MayHaveMore (admission_lines asset client moment o used) text log part) c.requires.octets c.in_err-log_admission-in-Admitted.ensures.fails;
    } in
    on_err _ _ missed

pub returns-in_ok-log_refusal-in-Refused-clause-takes :
    goal.returns-in_ok-log_refusal-in-Refused-clause-takes
returns-in_ok-log_refusal-in-Refused-clause-takes g c = λ earlier stands ended.
    (let right : AreRight c.args.send c.args.receive earlier = record {
      may = search rules;
      none = c.in_default.ensures.answer (events_of earlier) stands;
    } in
    let awaits = c.in_default.ensures.stands (events_of earlier) stands in
    let text = DeskValue.lines (g.D.Desk.value c.args.desk.now) in
    let old = numbered c.args.numbers.now c.args.to_client.now c.args.to_controller.now text in
    let r = c.in-Refused.refusal in
    let here : c.has_mirror-replied.result ≡ has_mirror earlier c.args.asdu.now.bytes = c.has_mirror-replied.ensures ∙ ap (λ (b : Bool). if b then false else nat_lt 8 (length c.args.asdu.now.bytes)) ended in
    does_refused c.args.asset.now (says_by c.args.asset.now c.args.client.now.address c.args.rules.now c.args.moment) c.args.client.now c.args.moment c.args.send c.args.receive c.args.asdu.now.bytes old earlier right r c.has_mirror-replied.result here c.refused-stamp.result
    (c.refused-stamp.ensures.stamp (events_of earlier) c.args.receive awaits) _ _ _ _
    (sym (ap fate_of_judgement c.in-Refused.is) ∙ c.judge_asdu.ensures.fate c.args.client.now.address c.requires.rules) (c.refused-stamp.ensures.stands (events_of earlier) c.args.receive awaits)
    c.push_refused.ensures.client c.push_refused.ensures.controller
    (c.in_ok-log_refusal-in-Refused.ensures.lines
    ∙ ap (λ (o : List ℕ). with_lines text (line_about c.args.asset.now c.args.client.now c.args.moment (refusal_line c.args.asset.now r c.has_mirror-replied.result o) ∷ [])) c.requires.octets)
    ended c.requires.«open»)

pub returns-in_ok-log_refusal-in-Refused-clause-client_grows :
    goal.returns-in_ok-log_refusal-in-Refused-clause-client_grows
returns-in_ok-log_refusal-in-Refused-clause-client_grows g c =
    subst (λ (q : Queue). Grows (length c.args.asdu.now.bytes + 6) 0 0 c.args.to_client.now q) (sym c.push_refused.ensures.client)
    (grows_push (length c.args.asdu.now.bytes + 6) c.args.to_client.now (mirror_octets c.refused-stamp.result.reply c.args.asdu.now.bytes)
    (mirror_most c.args.to_client.now.ended c.has_mirror-replied.result c.refused-stamp.result.reply c.args.asdu.now.bytes c.refused-stamp.ensures.reply c.has_mirror-replied.ensures))

pub returns-in_ok-log_refusal-in-Refused-clause-controller_grows :
    goal.returns-in_ok-log_refusal-in-Refused-clause-controller_grows
returns-in_ok-log_refusal-in-Refused-clause-controller_grows g c =
    subst (λ (q : Queue). Grows (length c.args.asdu.now.bytes + 6) 0 0 c.args.to_controller.now q) (sym c.push_refused.ensures.controller)
    (grows_push (length c.args.asdu.now.bytes + 6) c.args.to_controller.now (ack_octets c.refused-stamp.result.ack) (omega (arith, ack_most c.refused-stamp.result.ack)))

pub returns-then-not-may_send-clause-client_grows : goal.returns-then-not-may_send-clause-client_grows
returns-then-not-may_send-clause-client_grows g c = grows_same _ _ _

pub returns-then-not-may_send-clause-controller_grows : goal.returns-then-not-may_send-clause-controller_grows
returns-then-not-may_send-clause-controller_grows g c = grows_same _ _ _

pub returns-then-not-may_send-clause-desk : goal.returns-then-not-may_send-clause-desk
returns-then-not-may_send-clause-desk g c = logs_none _ c.requires.whole

pub returns-in-Err-clause-client_grows : goal.returns-in-Err-clause-client_grows
returns-in-Err-clause-client_grows g c = grows_same _ _ _

pub returns-in-Err-clause-controller_grows : goal.returns-in-Err-clause-controller_grows
returns-in-Err-clause-controller_grows g c = grows_same _ _ _

pub returns-in-Err-clause-desk : goal.returns-in-Err-clause-desk
returns-in-Err-clause-desk g c = logs_none _ c.requires.whole

pub returns-in_ok-log_admission-in-Admitted-clause-client_grows : goal.returns-in_ok-log_admission-in-Admitted-clause-client_grows
returns-in_ok-log_admission-in-Admitted-clause-client_grows g c = grows_same _ _ _

pub returns-in_ok-log_admission-in-Admitted-clause-desk : goal.returns-in_ok-log_admission-in-Admitted-clause-desk
returns-in_ok-log_admission-in-Admitted-clause-desk g c = c.in_ok-log_admission-in-Admitted.ensures.desk

pub returns-in_ok-log_refusal-in-Refused-clause-desk : goal.returns-in_ok-log_refusal-in-Refused-clause-desk
returns-in_ok-log_refusal-in-Refused-clause-desk g c = c.in_ok-log_refusal-in-Refused.ensures.desk

pub returns-then-not-may_send-clause-takes : goal.returns-then-not-may_send-clause-takes
returns-then-not-may_send-clause-takes g c = λ earlier stands ended.
    does_cut c.args.asset.now (says_by c.args.asset.now c.args.client.now.address c.args.rules.now c.args.moment) c.args.client.now c.args.moment c.args.send c.args.receive c.args.asdu.now.bytes
    (numbered c.args.numbers.now c.args.to_client.now c.args.to_controller.now (DeskValue.lines (g.D.Desk.value c.args.desk.now))) earlier _ _
    (cut_unstarted earlier c.args.send c.args.receive (sym (c.may_send.ensures.answer (events_of earlier) stands) ∙ c.if-not-may_send.true))

pub returns-in-Err-clause-takes : goal.returns-in-Err-clause-takes
returns-in-Err-clause-takes g c = λ earlier stands ended.
    does_cut c.args.asset.now (says_by c.args.asset.now c.args.client.now.address c.args.rules.now c.args.moment) c.args.client.now c.args.moment c.args.send c.args.receive c.args.asdu.now.bytes
    (numbered c.args.numbers.now c.args.to_client.now c.args.to_controller.now (DeskValue.lines (g.D.Desk.value c.args.desk.now))) earlier _ _
    (cut_numbers earlier c.args.send c.args.receive c.in-Err.refusal _ (sym (c.may_send.ensures.answer (events_of earlier) stands) ∙ c.if-not-may_send.false)
    (c.in-Err.ensures.answer (events_of earlier) stands) c.number_cut.ensures)

pub push_info-requires-clause-room : goal.push_info-requires-clause-room
push_info-requires-clause-room g c = room_less _ _ _ (omega arith) c.requires.controller_room

pub returns-in_ok-log_admission-in-Admitted-clause-controller_grows :
    goal.returns-in_ok-log_admission-in-Admitted-clause-controller_grows
returns-in_ok-log_admission-in-Admitted-clause-controller_grows g c =
    subst (λ (q : Queue). Grows (length c.args.asdu.now.bytes + 6) 0 0 c.args.to_controller.now q) (sym c.push_info.ensures.queue)
    (grows_push (length c.args.asdu.now.bytes + 6) c.args.to_controller.now _ (omega arith))
