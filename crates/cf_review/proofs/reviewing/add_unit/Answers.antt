use Rattle.std.proofs.Common.{◌++◌, ◌∷◌, [], subst}
use Rattle.cf_judge.specs.Front.{IsReaderOf}
use Rattle.cf_judge.specs.Plain.{HasSiteFate, completed_in}
use Rattle.cf_watch.specs.FlowValue.{flow_value}
use Rattle.cf_review.proofs.Told.{refused_told}
use Rattle.cf_review.proofs.reviewing.add_unit.Goals as goal

-- the octets that are told are the first of the command
pub returns-in_ok-add-in-Refused-clause-remarks : goal.returns-in_ok-add-in-Refused-clause-remarks
returns-in_ok-add-in-Refused-clause-remarks c = λ client earlier u f reads at spells has counts.
    refused_told c.args.site.now (flow_value c.args.flow.now) earlier c.args.number c.args.place u c.in-Refused.refusal c.args.ruling f c.command_octets.result.bytes c.shown-octets.result.items _ _
    c.in-Refused.is counts c.shown-octets.ensures
    (λ r is. c.command_octets.ensures.octets client earlier c.args.number u r
    (subst (λ g. IsReaderOf c.args.site.now client (earlier ++ completed_in c.args.number u g ∷ []) c.args.reader.now) is reads) at spells
    (subst (HasSiteFate c.args.site.now client earlier u) is has))
    c.in_ok-add-in-Refused.ensures.remark
