use Rattle.cf_lane.specs.Caller.{none_before}
use Rattle.std.proofs.Common.{List, Option, ap, arith, inr, refl, subst, sym, ℕ, ◌∙◌, ◌∷◌, []}
use Rattle.cf_audit.specs.Line.{Begun}
use Rattle.cf_lane.specs.Log.{line_about, with_lines}
use Rattle.cf_outside.specs.Pair.{Moment, met_at}
use Rattle.cf_relay.proofs.Lined.{lines_none}
use Rattle.cf_relay.proofs.OnePair.{all_none, met_first, told_two}
use Rattle.cf_relay.proofs.Starting.{link_first, link_met, new_lane, write_told}
use Rattle.cf_relay.specs.Relaying.{RelayingValue, relaying_value}
use Rattle.cf_relay.specs.Stands.{StandsFor}
use Rattle.cf_relay.specs.declared.directions.Directions.TheVariants as both
use Rattle.cf_relay.proofs.top.relay_desk.Goals as goal

pub returns-in-Failed-clause-ends : goal.returns-in-Failed-clause-ends
returns-in-Failed-clause-ends g c =
    ([], c.in-Failed.ensures.entry ∙ all_none _, link_first both.Together c.args.site.now none_before c.args.listen c.args.most c.requires.most _ (lines_none _, c.requires.whole))

pub returns-in-Err-clause-ends : goal.returns-in-Err-clause-ends
returns-in-Err-clause-ends g c =
    (met_at c.args.listen c.args.site.now.first.endpoint c.in-Met.client ∷ [], (met_first _ _ c.args.listen _ _ c.in-Met.client c.first.ensures c.in-Met.ensures.entry), inr ((c.in-Met.client, refl), (lines_none _, c.requires.whole)))

pub returns-in-Failed-moment-clause-ends : goal.returns-in-Failed-moment-clause-ends
returns-in-Failed-moment-clause-ends g c = (
  met_at c.args.listen c.args.site.now.first.endpoint c.in-Met.client ∷ [],
  c.in-Failed-moment.ensures.entry ∙ (met_first _ _ c.args.listen _ _ c.in-Met.client c.first.ensures c.in-Met.ensures.entry),
  link_met both.Together c.args.site.now none_before c.args.listen c.args.most c.requires.most _ c.in-Met.client (lines_none _, c.requires.whole),
)

pub returns-in-Err-log_line-clause-ends : goal.returns-in-Err-log_line-clause-ends
returns-in-Err-log_line-clause-ends g c = (
  met_at c.args.listen c.args.site.now.first.endpoint c.in-Met.client ∷ Moment c.in-Told.moment ∷ [],
  told_two _ _ _ _ _ _ [] (met_first _ _ c.args.listen _ _ c.in-Met.client c.first.ensures c.in-Met.ensures.entry) c.in-Told.ensures.entry (all_none _),
  write_told both.Together c.args.site.now none_before c.args.listen c.args.most c.requires.most _ c.in-Met.client c.in-Told.moment _ (g.D.Desk.value c.log_line.new.desk).lines (g.D.Desk.value c.log_line.new.desk).line_part c.in-Err-log_line.ensures.fails (λ ls b. b),
)

pub returns-clause-ends : goal.returns-clause-ends
returns-clause-ends g c =
    let base = (g.D.Desk.value c.args.desk.now).lines in
    let client = c.in-Met.client in
    let m = c.in-Told.moment in
    let st = subst (λ (x : Option (List (List ℕ))). StandsFor c.args.site.now none_before (with_lines base (line_about c.args.site.now.first client m Begun ∷ [])) (met_at c.args.listen c.args.site.now.first.endpoint client ∷ Moment m ∷ []) (relaying_value c.begun-relaying.result) x)
    (sym c.in-Ok-log_line.ensures.lines)
    (c.begun-relaying.ensures.stands c.args.site.now none_before c.args.listen client (with_lines base (line_about c.args.site.now.first client m Begun ∷ [])) (new_lane _ none_before _ _ c.in-Ok.ensures.of_site c.in-Ok.ensures.client c.in-Ok.ensures.counts
    (λ q r x. c.in-Ok.ensures.follows none_before q r x refl))) in
    let e = c.relay_turns.ensures.ends base c.args.listen m st in
    (met_at c.args.listen c.args.site.now.first.endpoint client ∷ Moment m ∷ e.0, told_two _ _ _ _ _ _ e.0 (met_first _ _ c.args.listen _ _ c.in-Met.client c.first.ensures c.in-Met.ensures.entry) c.in-Told.ensures.entry e.1, e.2)

pub returns-clause-idle : goal.returns-clause-idle
returns-clause-idle g c =
    let base = (g.D.Desk.value c.args.desk.now).lines in
    let client = c.in-Met.client in
    let m = c.in-Told.moment in
    let st = subst (λ (x : Option (List (List ℕ))). StandsFor c.args.site.now none_before (with_lines base (line_about c.args.site.now.first client m Begun ∷ [])) (met_at c.args.listen c.args.site.now.first.endpoint client ∷ Moment m ∷ []) (relaying_value c.begun-relaying.result) x)
    (sym c.in-Ok-log_line.ensures.lines)
    (c.begun-relaying.ensures.stands c.args.site.now none_before c.args.listen client (with_lines base (line_about c.args.site.now.first client m Begun ∷ [])) (new_lane _ none_before _ _ c.in-Ok.ensures.of_site c.in-Ok.ensures.client c.in-Ok.ensures.counts
    (λ q r x. c.in-Ok.ensures.follows none_before q r x refl))) in
    c.relay_turns.ensures.idle base c.args.listen m st _ (omega (arith, ap (λ (v : RelayingValue). v.idle) c.begun-relaying.ensures.value, c.meet.ensures.idle, c.moment.ensures.idle))

pub relay_turns-requires-clause-sound : goal.relay_turns-requires-clause-sound
relay_turns-requires-clause-sound g c =
    c.begun-relaying.ensures.sound c.args.site.now none_before c.in-Met.client c.args.most c.requires.most (new_lane _ none_before _ _ c.in-Ok.ensures.of_site c.in-Ok.ensures.client c.in-Ok.ensures.counts
    (λ q r x. c.in-Ok.ensures.follows none_before q r x refl))
