use Rattle.std.proofs.Common.{◌≡◌, ◌+◌, ◌%◌, ◌++◌, ◌∷◌, [], ◌∙◌, ℕ, List, sym, ap, arith, refl}
use Rattle.std.specs.List.{flat_map}
use Rattle.std.proofs.lemmas.List.{length-drop}
use Rattle.cf_dnpobj.specs.Fragment.{fragment_value}
use Rattle.cf_dnpobj.specs.Reply.{refused}
use Rattle.cf_dnpobj.proofs.Replies.{read_has, reply_with_objects}
use Rattle.cf_dnpobj.proofs.reply.reply_for.Goals as goal
use Rattle.std.proofs.lemmas.Grind.{common_steps}

pub push_refused-requires-clause-room : goal.push_refused-requires-clause-room
push_refused-requires-clause-room c = grind (arith, common_steps, read_has, length-drop)

pub returns-in-Ok : goal.returns-in-Ok
returns-in-Ok c =
    let xs = c.args.octets.bytes in
    let f = fragment_value c.in-Ok.fragment in
    let has = read_has xs f c.in-Ok.ensures.answer in
    let four : c.push-in-Ok.new.self.items ≡ (0xc0 + c.at.result % 16) ∷ 0x81 ∷ 0x00 ∷ 0x00 ∷ [] =
    rw (c.push-in-Ok.ensures.items, c.push-3.ensures.items, c.push-2.ensures.items, c.push.ensures.items, c.clear.ensures) refl in
    c.push_refused.ensures has.0 has.1
    ∙ ap (λ (ys : List ℕ). ys ++ flat_map (refused f.code) has.0) four
    ∙ ap (λ (o : ℕ). (0xc0 + o % 16) ∷ 0x81 ∷ 0x00 ∷ 0x00 ∷ flat_map (refused f.code) has.0) c.at.ensures.value
    ∙ sym (reply_with_objects xs f c.args.reason.now has.0 c.in-Ok.ensures.answer (sym c.answers_objects.ensures ∙ c.if-answers_objects.true) has.1)
