use Rattle.std.proofs.Common.{◌≡◌, ◌∙◌, Some, true, ap, arith, length, subst, sym}
use Rattle.std.specs.Prelude.{slice_get}
use Rattle.std.proofs.lemmas.Option.{slice_get_within}
use Rattle.cf_lane.specs.Parts.{part}
use Rattle.cf_lane.specs.declared.fate.Fate.TheVariants as fate
use Rattle.cf_policy.specs.Site.{asset_of}
use Rattle.cf_policy.specs.declared.Protocol.TheVariants as protocol
use Rattle.cf_judge.specs.Plain.{HasPlainFate}
use Rattle.cf_judge.proofs.Readers.{own_refused}
use Rattle.cf_judge.proofs.Shown.{shown_adu, shown_apdu, shown_fragment}
use Rattle.cf_judge.proofs.front.Reader.command_octets.Goals as goal

pub returns-in-Modbus : goal.returns-in-Modbus
returns-in-Modbus c =
    let is : c.args.site.now.first.protocol ≡ protocol.Modbus = cc in
    record {
      octets = λ client earlier number u refusal h at s f.
          shown_adu (asset_of c.args.site.now c.args.place) (part c.args.site.now c.args.place earlier) c.args.site.now.first.protocol u c.args.unit.bytes is s;
    }

pub returns-in-Iec104 : goal.returns-in-Iec104
returns-in-Iec104 c =
    let is : c.args.site.now.first.protocol ≡ protocol.Iec104 = cc in
    record {
      octets = λ client earlier number u refusal h at s f.
          shown_apdu (asset_of c.args.site.now c.args.place) (part c.args.site.now c.args.place earlier) c.args.site.now.first.protocol u c.args.unit.bytes is s;
    }

-- the asset of the place has what is kept of it
pub own_at-requires : goal.own_at-requires
own_at-requires c =
    let is : c.args.site.now.first.protocol ≡ protocol.Dnp3 = cc in
    let own = c.requires.whole is in
    let inside = slice_get_within c.args.self.now.own.items c.args.place own.0 own.1 in
    omega (arith, inside, ap length c.as_slice.ensures.value)

pub fragment-requires : goal.fragment-requires
fragment-requires c =
    let is : c.args.site.now.first.protocol ≡ protocol.Dnp3 = cc in
    let own = c.requires.whole is in
    let both : Some own.0 ≡ Some c.own_at.result.now = sym own.1 ∙ ap (λ xs. slice_get xs c.args.place) (sym c.as_slice.ensures.value) ∙ c.own_at.ensures in
    let same : own.0 ≡ c.own_at.result.now = cc in
    subst (λ o. o.assembly.whole ≡ true) same own.2

pub returns-in-Dnp3 : goal.returns-in-Dnp3
returns-in-Dnp3 c =
    let site = c.args.site.now in
    let place = c.args.place in
    let is : site.first.protocol ≡ protocol.Dnp3 = cc in
    let here : slice_get c.args.self.now.own.items place ≡ Some c.own_at.result.now = ap (λ xs. slice_get xs place) (sym c.as_slice.ensures.value) ∙ c.own_at.ensures in
    record {
      octets = λ client earlier number u refusal h at s f.
          shown_fragment (asset_of site place) client (part site place earlier) number refusal c.own_at.result.now site.first.protocol u c.args.unit.bytes c.fragment.result.bytes is s
          c.fragment.ensures.fragment (own_refused site client earlier c.args.self.now number u (fate.Refused refusal) place c.own_at.result.now at here h)
          (subst (λ k. HasPlainFate (asset_of site k) client (part site k earlier) u (fate.Refused refusal)) (sym at) f);
    }
