use Rattle.std.proofs.Common.{◌∷◌, [], refl, sym, ap, ◌∙◌, subst}
use Rattle.cf_modbus.specs.Adu.{adu_value, spelling}
use Rattle.cf_outside.specs.Desk.{DeskValue}
use Rattle.cf_lane.specs.Log.{is_some_bytes, line_about, refusal_line, with_lines}
use Rattle.cf_lane.specs.Modbus.{adu_reply}
use Rattle.cf_policy.specs.Within.{IsAssetWithin}
use Rattle.cf_policy.specs.declared.Asset.{Asset}
use Rattle.cf_lane.specs.Handled.{LaneValue, MissesCommand, state}
use Rattle.cf_outq.specs.SendQueue.{Queue}
use Rattle.cf_lane.specs.declared.fate.Fate.TheVariants as fate
use Rattle.cf_lane.proofs.Failing.{on_err, misses_refused}
use Rattle.cf_lane.proofs.Parting.{within_at}
use Rattle.cf_lane.proofs.Taking.{takes_refused}
use Rattle.cf_lane.proofs.lane.Lane.answer.Goals as goal

pub returns-clause-takes : goal.returns-clause-takes
returns-clause-takes g c = λ to_controller.
    (let own = c.requires.refused.0 in
    let at = c.requires.refused.1 in
    let asset = c.asset-asset.result.now in
    let a = adu_value c.args.adu.now in
    let moment = c.args.moment in
    let r = c.args.refusal.now in
    let text = DeskValue.lines (g.D.Desk.value c.args.desk.now) in
    let replied = is_some_bytes (adu_reply c.args.to_client.now.ended (fate.Refused r) a) in
    takes_refused c.args.site.now c.args.place moment a c.requires.place _ _ (ap (λ (l : LaneValue). l.client) c.refuse.ensures)
    (ap (λ (l : LaneValue). l.wire) c.refuse.ensures) own at (c.requires.of_site.rules.each c.args.place own at) r c.requires.refused.2
    (ap (λ (l : LaneValue). l.rules) c.refuse.ensures) (ap (λ (l : LaneValue). l.admitted) c.refuse.ensures)
    (ap (λ (l : LaneValue). l.refused) c.refuse.ensures)
    c.reply-replied.ensures.queue refl
    (c.in_ok-log_refusal.ensures.lines
    ∙ ap (λ b. with_lines text (line_about asset c.self.inside.client moment (refusal_line asset r b c.args.octets.bytes) ∷ [])) c.reply-replied.ensures.replied
    ∙ ap (λ o. with_lines text (line_about asset c.self.inside.client moment (refusal_line asset r replied o) ∷ [])) c.requires.octets
    ∙ ap (λ (l : LaneValue). with_lines text (line_about asset l.client moment (refusal_line asset r replied (spelling a)) ∷ [])) c.self.view_is
    ∙ ap (λ (x : Asset). with_lines text (line_about x c.args.self.now.client moment (refusal_line x r replied (spelling a)) ∷ [])) c.asset-asset.ensures))

pub returns-in_err-log_refusal-clause-misses : goal.returns-in_err-log_refusal-clause-misses
returns-in_err-log_refusal-clause-misses g c =
    let own = c.requires.refused.0 in
    let at = c.requires.refused.1 in
    let asset = c.asset-asset.result.now in
    let a = adu_value c.args.adu.now in
    let moment = c.args.moment in
    let r = c.args.refusal.now in
    let replied = is_some_bytes (adu_reply c.args.to_client.now.ended (fate.Refused r) a) in
    let text = DeskValue.lines (g.D.Desk.value c.args.desk.now) in
    let log = DeskValue.lines (g.D.Desk.value c.log_refusal.new.desk) in
    let part = DeskValue.line_part (g.D.Desk.value c.log_refusal.new.desk) in
    let missed : (to_controller : Queue) → MissesCommand c.args.site.now moment a (state c.args.self.now c.args.to_client.now to_controller text) log part = λ to_controller.
    misses_refused c.args.site.now c.args.place moment a c.requires.place _ _ _ own at (c.requires.of_site.rules.each c.args.place own at) r c.requires.refused.2
    (line_about asset c.self.inside.client moment (refusal_line asset r c.reply-replied.result c.args.octets.bytes))
    (ap (λ b. line_about asset c.self.inside.client moment (refusal_line asset r b c.args.octets.bytes)) c.reply-replied.ensures.replied
    ∙ ap (λ o. line_about asset c.self.inside.client moment (refusal_line asset r replied o)) c.requires.octets
    ∙ ap (λ (l : LaneValue). line_about asset l.client moment (refusal_line asset r replied (spelling a))) c.self.view_is
    ∙ ap (λ (x : Asset). line_about x c.args.self.now.client moment (refusal_line x r replied (spelling a))) c.asset-asset.ensures)
    c.in_err-log_refusal.ensures.fails in
    on_err _ _ missed

pub log_refusal-requires-clause-within : goal.log_refusal-requires-clause-within
log_refusal-requires-clause-within g c = subst IsAssetWithin (sym c.asset-asset.ensures) (within_at c.args.site.now c.requires.within c.args.place)
