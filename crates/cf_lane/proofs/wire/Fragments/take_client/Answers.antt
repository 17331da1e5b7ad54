use Rattle.cf_lane.specs.Rings.{says_by}
use Rattle.std.proofs.Common.{List, [], ap, arith, length, subst, sym, ℕ, ◌+◌, ◌<◌, ◌∙◌, ◌∷◌, ◌≡◌, ◌≤◌}
use Rattle.cf_audit.specs.declared.line.Why.TheVariants as why
use Rattle.cf_dnptrans.specs.declared.assembly.SegmentAnswer.TheVariants as answers
use Rattle.cf_lane.proofs.Dnp3Segments.{fate_long, fate_short, misses_admitted, misses_quietly, misses_reply, recut_grows, recut_room, sends_one, stray_fragment, takes_admitted, takes_carried, takes_quietly, takes_reply}
use Rattle.cf_lane.proofs.Failing.{on_err}
use Rattle.cf_lane.proofs.Logging.{logs_none}
use Rattle.cf_lane.proofs.Taking.{grows_same, room_less}
use Rattle.cf_lane.specs.Fragments.{Sends, frames_exist, parts, recut_most}
use Rattle.cf_lane.specs.Dnp3.{IsOfFragment, fate_of_fragment, fate_of_segment, fragment_reply}
use Rattle.cf_lane.specs.Handled.{Grows, MayHaveMore}
use Rattle.cf_lane.specs.Judgement.{fate_of_judgement, fate_or_carried}
use Rattle.cf_lane.specs.Log.{admission_lines, line_about, refusal_line, with_lines}
use Rattle.cf_lane.specs.declared.fate.Fate.TheVariants as fate
use Rattle.cf_outside.specs.Desk.{DeskValue}
use Rattle.cf_view.specs.declared.Side.TheVariants as side
use Rattle.cf_lane.proofs.wire.Fragments.take_client.Goals as goal

pub returns-in_err-log_stray-clause-misses : goal.returns-in_err-log_stray-clause-misses
returns-in_err-log_stray-clause-misses g c =
    let f = c.args.self.now in
    let old = parts f c.args.to_client.now c.args.to_controller.now (DeskValue.lines (g.D.Desk.value c.args.desk.now)) in
    let short : length f.client.octets < 2 = omega (arith, c.if-len-lt2.true, c.len.ensures.length, ap length c.fragment-octets.ensures.octets) in
    on_err _ _ (misses_quietly c.args.asset.now (says_by c.args.asset.now c.args.client.now.address c.args.rules.now c.args.moment) c.args.client.now c.args.moment side.Client answers.Whole (f.client.octets ∷ []) (fate.Stray why.Short) old
    (fate_short c.args.asset.now (says_by c.args.asset.now c.args.client.now.address c.args.rules.now c.args.moment) side.Client f.client.octets short)
    (λ to. stray_fragment to side.Client c.args.to_client.now.ended why.Short (f.client.octets ∷ []))
    c.requires.to_client c.requires.to_controller _ _ c.in_err-log_stray.ensures.fails)

pub returns-in_err-log_refusal-in-Some-Refused-clause-misses :
    goal.returns-in_err-log_refusal-in-Some-Refused-clause-misses
returns-in_err-log_refusal-in-Some-Refused-clause-misses g c =
    let f = c.args.self.now in
    let old = parts f c.args.to_client.now c.args.to_controller.now (DeskValue.lines (g.D.Desk.value c.args.desk.now)) in
    let long : 2 ≤ length f.client.octets = omega (arith, c.if-len-lt2.false, c.len.ensures.length, ap length c.fragment-octets.ensures.octets) in
    let r = c.in-Some-Refused.refusal in
    let same : c.fragment-octets.result.bytes ≡ f.client.octets = c.fragment-octets.ensures.octets in
    let is : fate.Refused r ≡ fate_of_segment c.args.asset.now (says_by c.args.asset.now c.args.client.now.address c.args.rules.now c.args.moment) side.Client answers.Whole (f.client.octets ∷ []) =
    sym (ap fate_or_carried c.in-Some-Refused.is ∙ ap fate_of_judgement c.in-Some-Refused.field-0-is) ∙ c.judge_fragment.ensures.fate c.args.client.now.address c.requires.rules ∙ ap (λ xs. fate_of_fragment c.args.asset.now (says_by c.args.asset.now c.args.client.now.address c.args.rules.now c.args.moment) side.Client xs) same
    ∙ fate_long c.args.asset.now (says_by c.args.asset.now c.args.client.now.address c.args.rules.now c.args.moment) side.Client f.client.octets long in
    let put = λ (xs : List ℕ). fragment_reply c.args.to_client.now.ended (fate.Refused r) (xs ∷ []) in
    let sends = subst (λ xs. Sends c.args.asset.now side.Client (put xs) f.to_client c.args.to_client.now c.reply-replied.new.sequence c.reply-replied.new.to_client) same c.reply-replied.ensures.sends in
    let says = c.reply-replied.ensures.replied ∙ ap (λ xs. frames_exist c.args.asset.now side.Client f.to_client (put xs)) same in
    let P : List ℕ → Type 0 = λ xs. MayHaveMore (line_about c.args.asset.now c.args.client.now c.args.moment (refusal_line c.args.asset.now r c.reply-replied.result xs) ∷ [])
    (DeskValue.lines (g.D.Desk.value c.args.desk.now)) (DeskValue.lines (g.D.Desk.value c.log_refusal.new.desk)) (DeskValue.line_part (g.D.Desk.value c.log_refusal.new.desk)) in
    on_err _ _ (misses_reply c.args.asset.now (says_by c.args.asset.now c.args.client.now.address c.args.rules.now c.args.moment) c.args.client.now c.args.moment f.client.octets r old c.reply-replied.new.sequence c.reply-replied.new.to_client is sends
    c.requires.to_controller c.reply-replied.result _ _ says (subst P same c.in_err-log_refusal-in-Some-Refused.ensures.fails))

pub push_fragment-self-requires-clause-room : goal.push_fragment-self-requires-clause-room
push_fragment-self-requires-clause-room g c =
    recut_room c.args.asset.now side.Controller c.args.self.now.to_controller (length c.args.self.now.client.octets + 2) c.fragment-octets.result.bytes c.args.to_controller.now
    (omega (arith, ap length c.fragment-octets.ensures.octets)) c.requires.controller_room

pub push_fragment-self-requires-in-None-clause-room : goal.push_fragment-self-requires-in-None-clause-room
push_fragment-self-requires-in-None-clause-room g c =
    recut_room c.args.asset.now side.Controller c.args.self.now.to_controller (length c.args.self.now.client.octets + 2) c.fragment-octets.result.bytes c.args.to_controller.now
    (omega (arith, ap length c.fragment-octets.ensures.octets)) c.requires.controller_room

pub returns-in_ok-log_admission-in-Some-Admitted-clause-controller_grows : goal.returns-in_ok-log_admission-in-Some-Admitted-clause-controller_grows
returns-in_ok-log_admission-in-Some-Admitted-clause-controller_grows g c =
    recut_grows c.args.asset.now side.Controller c.args.self.now.to_controller (length c.args.self.now.client.octets + 2) c.fragment-octets.result.bytes c.args.to_controller.now _
    (omega (arith, ap length c.fragment-octets.ensures.octets)) c.push_fragment-self.ensures.queue

pub returns-in-None-clause-controller_grows : goal.returns-in-None-clause-controller_grows
returns-in-None-clause-controller_grows g c =
    recut_grows c.args.asset.now side.Controller c.args.self.now.to_controller (length c.args.self.now.client.octets + 2) c.fragment-octets.result.bytes c.args.to_controller.now _
    (omega (arith, ap length c.fragment-octets.ensures.octets)) c.push_fragment-self-in-None.ensures.queue

pub reply-replied-requires-clause-reason : goal.reply-replied-requires-clause-reason
reply-replied-requires-clause-reason g c =
    subst IsOfFragment (ap fate_or_carried c.in-Some-Refused.is ∙ ap fate_of_judgement c.in-Some-Refused.field-0-is) (c.judge_fragment.ensures.fragment c.args.client.now.address c.requires.rules)

pub returns-in_ok-log_admission-in-Some-Admitted-clause-takes :
    goal.returns-in_ok-log_admission-in-Some-Admitted-clause-takes
returns-in_ok-log_admission-in-Some-Admitted-clause-takes g c =
    let f = c.args.self.now in
    let asset = c.args.asset.now in
    let says = says_by asset c.args.client.now.address c.args.rules.now c.args.moment in
    let text = DeskValue.lines (g.D.Desk.value c.args.desk.now) in
    let old = parts f c.args.to_client.now c.args.to_controller.now text in
    let long : 2 ≤ length f.client.octets = omega (arith, c.if-len-lt2.false, c.len.ensures.length, ap length c.fragment-octets.ensures.octets) in
    let used = c.in-Some-Admitted.admission in
    let same : c.fragment-octets.result.bytes ≡ f.client.octets = c.fragment-octets.ensures.octets in
    let is : fate.Admitted used ≡ fate_of_segment asset says side.Client answers.Whole (f.client.octets ∷ []) =
    sym (ap fate_or_carried c.in-Some-Admitted.is ∙ ap fate_of_judgement c.in-Some-Admitted.field-0-is) ∙ c.judge_fragment.ensures.fate c.args.client.now.address c.requires.rules ∙ ap (λ xs. fate_of_fragment asset says side.Client xs) same
    ∙ fate_long asset says side.Client f.client.octets long in
    takes_admitted asset says c.args.client.now c.args.moment f.client.octets used old _ _ _ is c.requires.to_client
    (subst (λ xs. Sends asset side.Controller (xs ∷ []) f.to_controller c.args.to_controller.now c.push_fragment-self.result c.push_fragment-self.new.queue) same
    (sends_one asset side.Controller c.fragment-octets.result.bytes f.to_controller c.push_fragment-self.result c.args.to_controller.now c.push_fragment-self.new.queue c.requires.«open» c.push_fragment-self.ensures.sequence c.push_fragment-self.ensures.queue))
    (c.in_ok-log_admission-in-Some-Admitted.ensures.lines ∙ ap (λ xs. with_lines text (admission_lines asset c.args.client.now c.args.moment xs used)) same)

pub returns-in_err-log_admission-in-Some-Admitted-clause-misses :
    goal.returns-in_err-log_admission-in-Some-Admitted-clause-misses
returns-in_err-log_admission-in-Some-Admitted-clause-misses g c =
    let f = c.args.self.now in
    let asset = c.args.asset.now in
    let says = says_by asset c.args.client.now.address c.args.rules.now c.args.moment in
    let text = DeskValue.lines (g.D.Desk.value c.args.desk.now) in
    let log = DeskValue.lines (g.D.Desk.value c.log_admission.new.desk) in
    let part = DeskValue.line_part (g.D.Desk.value c.log_admission.new.desk) in
    let old = parts f c.args.to_client.now c.args.to_controller.now text in
    let long : 2 ≤ length f.client.octets = omega (arith, c.if-len-lt2.false, c.len.ensures.length, ap length c.fragment-octets.ensures.octets) in
    let used = c.in-Some-Admitted.admission in
    let same : c.fragment-octets.result.bytes ≡ f.client.octets = c.fragment-octets.ensures.octets in
    let is : fate.Admitted used ≡ fate_of_segment asset says side.Client answers.Whole (f.client.octets ∷ []) =
    sym (ap fate_or_carried c.in-Some-Admitted.is ∙ ap fate_of_judgement c.in-Some-Admitted.field-0-is) ∙ c.judge_fragment.ensures.fate c.args.client.now.address c.requires.rules ∙ ap (λ xs. fate_of_fragment asset says side.Client xs) same
    ∙ fate_long asset says side.Client f.client.octets long in
    on_err _ _ (misses_admitted asset says c.args.client.now c.args.moment f.client.octets used old c.push_fragment-self.result c.push_fragment-self.new.queue _ _ is c.requires.to_client
    (subst (λ xs. Sends asset side.Controller (xs ∷ []) f.to_controller c.args.to_controller.now c.push_fragment-self.result c.push_fragment-self.new.queue) same
    (sends_one asset side.Controller c.fragment-octets.result.bytes f.to_controller c.push_fragment-self.result c.args.to_controller.now c.push_fragment-self.new.queue c.requires.«open» c.push_fragment-self.ensures.sequence c.push_fragment-self.ensures.queue))
    (subst (λ xs. MayHaveMore (admission_lines asset c.args.client.now c.args.moment xs used) text log part) same c.in_err-log_admission-in-Some-Admitted.ensures.fails))

pub returns-then-len-lt2-clause-takes : goal.returns-then-len-lt2-clause-takes
returns-then-len-lt2-clause-takes g c =
    let f = c.args.self.now in
    let asset = c.args.asset.now in
    let says = says_by asset c.args.client.now.address c.args.rules.now c.args.moment in
    let old = parts f c.args.to_client.now c.args.to_controller.now (DeskValue.lines (g.D.Desk.value c.args.desk.now)) in
    let short : length f.client.octets < 2 = omega (arith, c.if-len-lt2.true, c.len.ensures.length, ap length c.fragment-octets.ensures.octets) in
    takes_quietly asset says c.args.client.now c.args.moment side.Client answers.Whole (f.client.octets ∷ []) (fate.Stray why.Short) old
    (fate_short asset says side.Client f.client.octets short)
    (λ to. stray_fragment to side.Client c.args.to_client.now.ended why.Short (f.client.octets ∷ []))
    c.requires.to_client c.requires.to_controller _ c.in_ok-log_stray.ensures.lines

pub returns-then-len-lt2-clause-client_grows : goal.returns-then-len-lt2-clause-client_grows
returns-then-len-lt2-clause-client_grows g c = grows_same _ _ _

pub returns-then-len-lt2-clause-controller_grows : goal.returns-then-len-lt2-clause-controller_grows
returns-then-len-lt2-clause-controller_grows g c = grows_same _ _ _

pub returns-in_ok-log_refusal-in-Some-Refused-clause-takes :
    goal.returns-in_ok-log_refusal-in-Some-Refused-clause-takes
returns-in_ok-log_refusal-in-Some-Refused-clause-takes g c =
    let f = c.args.self.now in
    let asset = c.args.asset.now in
    let says = says_by asset c.args.client.now.address c.args.rules.now c.args.moment in
    let text = DeskValue.lines (g.D.Desk.value c.args.desk.now) in
    let old = parts f c.args.to_client.now c.args.to_controller.now text in
    let long : 2 ≤ length f.client.octets = omega (arith, c.if-len-lt2.false, c.len.ensures.length, ap length c.fragment-octets.ensures.octets) in
    let r = c.in-Some-Refused.refusal in
    let same : c.fragment-octets.result.bytes ≡ f.client.octets = c.fragment-octets.ensures.octets in
    let is : fate.Refused r ≡ fate_of_segment asset says side.Client answers.Whole (f.client.octets ∷ []) =
    sym (ap fate_or_carried c.in-Some-Refused.is ∙ ap fate_of_judgement c.in-Some-Refused.field-0-is) ∙ c.judge_fragment.ensures.fate c.args.client.now.address c.requires.rules ∙ ap (λ xs. fate_of_fragment asset says side.Client xs) same
    ∙ fate_long asset says side.Client f.client.octets long in
    let put = λ (xs : List ℕ). fragment_reply c.args.to_client.now.ended (fate.Refused r) (xs ∷ []) in
    let sends = subst (λ xs. Sends asset side.Client (put xs) f.to_client c.args.to_client.now c.reply-replied.new.sequence c.reply-replied.new.to_client) same c.reply-replied.ensures.sends in
    let told = c.reply-replied.ensures.replied ∙ ap (λ xs. frames_exist asset side.Client f.to_client (put xs)) same in
    takes_reply asset says c.args.client.now c.args.moment f.client.octets r old c.reply-replied.new.sequence c.reply-replied.new.to_client is sends
    c.requires.to_controller c.reply-replied.result _ told
    (c.in_ok-log_refusal-in-Some-Refused.ensures.lines ∙ ap (λ xs. with_lines text (line_about asset c.args.client.now c.args.moment (refusal_line asset r c.reply-replied.result xs) ∷ [])) same)

pub reply-replied-requires-clause-room : goal.reply-replied-requires-clause-room
reply-replied-requires-clause-room g c = room_less _ _ _ (omega (arith, ap length c.fragment-octets.ensures.octets)) c.requires.client_room

pub returns-in_ok-log_refusal-in-Some-Refused-clause-client_grows :
    goal.returns-in_ok-log_refusal-in-Some-Refused-clause-client_grows
returns-in_ok-log_refusal-in-Some-Refused-clause-client_grows g c =
    subst (λ (n : ℕ). Grows (recut_most (n + 2)) 0 0 c.args.to_client.now c.reply-replied.new.to_client) (ap length c.fragment-octets.ensures.octets) c.reply-replied.ensures.grows

pub returns-in_ok-log_refusal-in-Some-Refused-clause-controller_grows :
    goal.returns-in_ok-log_refusal-in-Some-Refused-clause-controller_grows
returns-in_ok-log_refusal-in-Some-Refused-clause-controller_grows g c = grows_same _ _ _

pub returns-in_ok-log_admission-in-Some-Admitted-clause-client_grows :
    goal.returns-in_ok-log_admission-in-Some-Admitted-clause-client_grows
returns-in_ok-log_admission-in-Some-Admitted-clause-client_grows g c = grows_same _ _ _

pub returns-in-None-clause-takes : goal.returns-in-None-clause-takes
returns-in-None-clause-takes g c =
    let f = c.args.self.now in
    let asset = c.args.asset.now in
    let says = says_by asset c.args.client.now.address c.args.rules.now c.args.moment in
    let old = parts f c.args.to_client.now c.args.to_controller.now (DeskValue.lines (g.D.Desk.value c.args.desk.now)) in
    let long : 2 ≤ length f.client.octets = omega (arith, c.if-len-lt2.false, c.len.ensures.length, ap length c.fragment-octets.ensures.octets) in
    let same : c.fragment-octets.result.bytes ≡ f.client.octets = c.fragment-octets.ensures.octets in
    let is : fate.Carried ≡ fate_of_segment asset says side.Client answers.Whole (f.client.octets ∷ []) =
    sym (ap fate_or_carried c.in-None.is) ∙ c.judge_fragment.ensures.fate c.args.client.now.address c.requires.rules ∙ ap (λ xs. fate_of_fragment asset says side.Client xs) same
    ∙ fate_long asset says side.Client f.client.octets long in
    takes_carried asset says c.args.client.now c.args.moment f.client.octets old _ _ is c.requires.to_client
    (subst (λ xs. Sends asset side.Controller (xs ∷ []) f.to_controller c.args.to_controller.now c.push_fragment-self-in-None.result c.push_fragment-self-in-None.new.queue) same
    (sends_one asset side.Controller c.fragment-octets.result.bytes f.to_controller c.push_fragment-self-in-None.result c.args.to_controller.now c.push_fragment-self-in-None.new.queue c.requires.«open» c.push_fragment-self-in-None.ensures.sequence c.push_fragment-self-in-None.ensures.queue))

pub returns-in-None-clause-client_grows : goal.returns-in-None-clause-client_grows
returns-in-None-clause-client_grows g c = grows_same _ _ _

pub returns-in-None-clause-desk : goal.returns-in-None-clause-desk
returns-in-None-clause-desk g c = logs_none _ c.requires.desk
