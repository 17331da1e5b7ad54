-- Flows have one judgement.
use Rattle.std.proofs.Common.{◌≡◌, ◌∙◌, List, [], ◌∷◌, map, Option, None, Some, refl, sym, ap, subst}
use Rattle.cf_unobjected.proofs.Common.{AreRead, AreReadBy, Asset, SiteValue, site_from, FlowValue, IsReadBy, Reading, commands_in, objection_to, watched}
use Rattle.cf_judge.specs.Objections.{IsJudgementOf}
use Rattle.cf_judge.specs.declared.Judged.{Judged as Judgement}
use Rattle.cf_unobjected.specs.OneJudgement.{JudgementsAreOne, RecordsHaveOneJudgement}
use Rattle.cf_unobjected.proofs.OneList.{one_list}
use Rattle.cf_unobjected.proofs.OneReading.{one_reading}

-- ---- readings

same_reading : (r s : Reading) → r.flow ≡ s.flow → r.judged ≡ s.judged → r.ending ≡ s.ending → r ≡ s
same_reading r s a b c =
    ap (λ x. let t : Reading = record r { flow = x } in t) a
    ∙ ap (λ x. let t : Reading = record { flow = s.flow; judged = x; ending = r.ending } in t) b
    ∙ ap (λ x. let t : Reading = record s { ending = x } in t) c

one_read : (o : Option SiteValue) (r s : Reading) → r.flow ≡ s.flow → IsReadBy o r → IsReadBy o s → r ≡ s
one_read None r s e h g = absurd h
one_read (Some site) r s e h g =
    let moved = subst (λ (f : FlowValue). AreRead site f.client.address [] f.bytes f.born s.judged s.ending) (sym e) g in
    let same = one_reading site r.flow.client.address [] r.flow.bytes r.flow.born r.judged s.judged r.ending s.ending h moved in
    same_reading r s e same.0 same.1

one_readings : (assets : List Asset) (rs ss : List Reading) → map (λ r. r.flow) rs ≡ map (λ r. r.flow) ss → AreReadBy assets rs → AreReadBy assets ss → rs ≡ ss
one_readings assets [] [] e h g = refl
one_readings assets [] (s ∷ ss) e h g = cc
one_readings assets (r ∷ rs) [] e h g = cc
one_readings assets (r ∷ rs) (s ∷ ss) e h g =
    let first : r.flow ≡ s.flow = cc in
    let later : map (λ r. r.flow) rs ≡ map (λ r. r.flow) ss = cc in
    let here = one_read (site_from assets s.flow.asset) r s first (subst (λ (f : FlowValue). IsReadBy (site_from assets f.asset) r) first h.0) g.0 in
    ap (λ x. x ∷ rs) here ∙ ap (λ xs. s ∷ xs) (one_readings assets rs ss later h.1 g.1)

-- ---- judgements

same_judgement : (j k : Judgement) → j.flows ≡ k.flows → j.commands ≡ k.commands → j.objection ≡ k.objection → j ≡ k
same_judgement j k a b c =
    ap (λ x. let t : Judgement = record j { flows = x } in t) a
    ∙ ap (λ x. let t : Judgement = record { flows = k.flows; commands = x; objection = j.objection } in t) b
    ∙ ap (λ x. let t : Judgement = record k { objection = x } in t) c

pub one_judgement : JudgementsAreOne
one_judgement assets flows j k h g =
    let same = one_readings assets h.readings g.readings (h.of_flows ∙ sym g.of_flows) h.are_read g.are_read in
    same_judgement j k (h.counts ∙ sym g.counts) (h.commands ∙ ap (commands_in 0) same ∙ sym g.commands) (h.objection ∙ ap (objection_to assets None) same ∙ sym g.objection)

pub records_one : RecordsHaveOneJudgement
records_one assets newest j k h g =
    let same = one_list (watched assets newest) h.flows g.flows h.are_flows g.are_flows in
    one_judgement assets g.flows j k (subst (λ fs. IsJudgementOf assets fs j) same h.judges) g.judges
