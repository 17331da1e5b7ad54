-- The judgement of a front of the records of a capture, and the shortest front that has an objection.
use Rattle.std.proofs.Common.{◌≡◌, ◌≤◌, ◌+◌, ◌-◌, ◌∙◌, ℕ, Bool, true, false, if◌then◌else◌, nat_lt, List, [], ◌∷◌, ◌++◌, length, map, take, drop, Option, None, Some, option_map, refl, sym, ap, subst, inl, inr, arith, append_assoc, length-drop, take-append-drop}
use Rattle.cf_unobjected.proofs.Common.{AreFlowsOf, AreRead, AreReadBy, Asset, Conflict, Ending, Endpoint, FlowValue, HasBytes, IsFlowOf, IsReadBy, Judged, Objection, Reading, Record, SiteValue, Watched, append-nil, cases_lt, commands_in, false≢true, first_wrong, length-take-le, none-some, objected, objection_in, objection_of, objection_to, site_from, sooner, watched, wrong_by}
use Rattle.cf_judge.specs.Objections.{earlier}
use Rattle.cf_judge.specs.declared.Judged.{Judged as Judgement}
use Rattle.cf_unobjected.specs.ShortestFront.{FrontsAreJudged, HasObjection, ObjectionsAreOfShortestFronts, within}
use Rattle.cf_unobjected.proofs.FlowFront.{flow_front, record_of}
use Rattle.cf_unobjected.proofs.FlowFronts.{AreAfter, AreFronts, IsFrontOf, are_fronts}
use Rattle.cf_unobjected.proofs.FrontReading.{at_of, front_read, late}
use Rattle.cf_unobjected.proofs.OneJudgement.{records_one}
use Rattle.cf_unobjected.proofs.OneList.{one_bytes}
use Rattle.cf_unobjected.proofs.Within.{first_of, kept, kept_first, kept_high, kept_low, kept_map}

-- ---- what is kept of objections

earlier_is : (n : ℕ) (a b : Option Objection) → earlier a b ≡ first_of at_of n a b
earlier_is n None b = refl
earlier_is n (Some x) None = refl
earlier_is n (Some x) (Some y) = refl

within_is : (n : ℕ) (o : Option Objection) → within n o ≡ kept at_of n o
within_is n None = refl
within_is n (Some o) = refl

-- the objection to a flow by its conflict
abbrev conflict_told : FlowValue → Option Conflict → Option Objection
conflict_told f c = option_map (λ k. objected f (wrong_by k)) c

chosen : (f : FlowValue) (b : Bool) (v w : _) → option_map (objected f) (if b then Some w else Some v) ≡ (if b then Some (objected f w) else Some (objected f v))
chosen f true v w = refl
chosen f false v w = refl

-- the objection to a flow is the earlier one of that by its conflict and that to its bytes
told_sooner : (f : FlowValue) (c : Option Conflict) (first : _) → option_map (objected f) (sooner (option_map wrong_by c) first) ≡ earlier (conflict_told f c) (option_map (objected f) first)
told_sooner f None first = refl
told_sooner f (Some c) None = refl
told_sooner f (Some c) (Some w) = chosen f (nat_lt w.number c.at_record) (wrong_by c) w

module _ (n : ℕ) where
  abbrev keep : Option Objection → Option Objection
  keep o = kept at_of n o

  keep_earlier : (a b : Option Objection) → keep (earlier a b) ≡ earlier (keep a) (keep b)
  keep_earlier a b = ap keep (earlier_is n a b) ∙ kept_first at_of n a b ∙ sym (earlier_is n (keep a) (keep b))

  -- what is kept of the objection to a flow is by what is kept of its conflict, and of what is wrong in its bytes
  keep_objection : (site : SiteValue) (f : FlowValue) (js : List Judged) (ending : Ending) →
      keep (objection_of site f js ending) ≡ earlier (conflict_told f (kept record_of n f.conflict)) (keep (option_map (objected f) (first_wrong site js ending)))
  keep_objection site f js ending =
      ap keep (told_sooner f f.conflict (first_wrong site js ending))
      ∙ keep_earlier (conflict_told f f.conflict) (option_map (objected f) (first_wrong site js ending))
      ∙ ap (λ o. earlier o (keep (option_map (objected f) (first_wrong site js ending)))) (kept_map record_of at_of n (λ k. objected f (wrong_by k)) (λ k. refl) f.conflict)

objected_same : (f g : FlowValue) (o : _) → g.client ≡ f.client → g.asset ≡ f.asset → option_map (objected g) o ≡ option_map (objected f) o
objected_same f g None c a = refl
objected_same f g (Some w) c a =
    ap Some
    (ap (λ (x : Endpoint). let r : Objection = record { at_record = w.number; client = x; asset = g.asset + w.place; what = w.what } in r) c
    ∙ ap (λ x. let r : Objection = record { at_record = w.number; client = f.client; asset = x + w.place; what = w.what } in r) a)

nothing_earlier : (o : Option Objection) → earlier o None ≡ o
nothing_earlier None = refl
nothing_earlier (Some o) = refl

-- ---- one flow

module _ (n : ℕ) (assets : List Asset) where
  record ReadsOne (v : Watched) (r : Reading) (o : Option SiteValue) : Type 0 where
    reading : Reading
    of : IsFlowOf v reading.flow
    read : IsReadBy (site_from assets reading.flow.asset) reading
    objection : objection_in (site_from assets reading.flow.asset) reading ≡ keep n (objection_in o r)

  one_by : (v w : Watched) (r : Reading) (o : Option SiteValue) → IsFrontOf n v w → IsFlowOf w r.flow → site_from assets r.flow.asset ≡ o → IsReadBy o r → ReadsOne v r o
  one_by v w r None front of is are = absurd are
  one_by v w r (Some site) front of is are =
      let f = flow_front n v w r.flow front of in
      let read = front_read site r.flow.client.address r.flow n [] r.flow.bytes r.flow.born r.judged r.ending f.count
      (record { size = of.born.count; inside = f.inside; low = f.low; high = f.high }) are in
      let by_client = subst (λ (e : Endpoint). AreRead site e.address [] (take f.count r.flow.bytes) (take f.count r.flow.born) read.judged read.ending) (sym f.client) read.are_read in
      let by_bytes = subst (λ xs. AreRead site f.flow.client.address [] xs (take f.count r.flow.born) read.judged read.ending) (sym f.bytes) by_client in
      let by_born = subst (λ ys. AreRead site f.flow.client.address [] f.flow.bytes ys read.judged read.ending) (sym f.born) by_bytes in
      let now : Reading = record { flow = f.flow; judged = read.judged; ending = read.ending } in
      let there : site_from assets f.flow.asset ≡ Some site = ap (site_from assets) f.asset ∙ is in
      record {
        reading = now;
        of = f.of;
        read = subst (λ o. IsReadBy o now) (sym there) by_born;
        objection =
            ap (λ o. objection_in o now) there
            ∙ objected_same r.flow f.flow (sooner (option_map wrong_by f.flow.conflict) (first_wrong site read.judged read.ending)) f.client f.asset
            ∙ told_sooner r.flow f.flow.conflict (first_wrong site read.judged read.ending)
            ∙ ap (λ c. earlier (conflict_told r.flow c) (option_map (objected r.flow) (first_wrong site read.judged read.ending))) f.conflict
            ∙ ap (earlier (conflict_told r.flow (kept record_of n r.flow.conflict))) read.first
            ∙ sym (keep_objection n site r.flow r.judged r.ending);
      }

  -- a flow that began later
  abbrev emptied : Watched → Watched
  emptied w = record w { carried = [] }

  no_bytes : HasBytes [] []
  no_bytes = (_, record { bytes = λ p l. absurd (omega (arith, l)); ended = λ e. absurd (false≢true e); unfinished = λ e. refl })

  nothing_by : (w : Watched) (r : Reading) (o : Option SiteValue) → AreAfter n w.carried → IsFlowOf w r.flow → IsReadBy o r → keep n (objection_in o r) ≡ None
  nothing_by w r None later of are = absurd are
  nothing_by w r (Some site) later of are =
      let front : IsFrontOf n (emptied w) w = record { client = refl; asset = refl; midstream = refl; more = w.carried; carried = sym (append-nil w.carried); later = later; first = tt } in
      let f = flow_front n (emptied w) w r.flow front of in
      let none : kept record_of n r.flow.conflict ≡ None = sym f.conflict ∙ f.of.conflict in
      let empty : f.flow.bytes ≡ [] = one_bytes [] f.flow.bytes [] f.of.bytes no_bytes in
      let within_ = f.inside in
      let size : length (take f.count r.flow.bytes) ≡ f.count = length-take-le f.count r.flow.bytes within_ in
      let zero_ : length (take f.count r.flow.bytes) ≡ 0 = ap length (sym f.bytes ∙ empty) in
      let first = late site r.flow.client.address r.flow n [] r.flow.bytes r.flow.born r.judged r.ending of.born.count (λ i below. f.high i (omega (arith, size, zero_)) below) are in
      keep_objection n site r.flow r.judged r.ending
      ∙ ap (λ c. earlier (conflict_told r.flow c) (keep n (option_map (objected r.flow) (first_wrong site r.judged r.ending)))) none
      ∙ first

  -- ---- all flows

  record ReadsAll (vs : List Watched) (rs : List Reading) : Type 0 where
    readings : List Reading
    are_flows : AreFlowsOf vs (map (λ r. r.flow) readings)
    are_read : AreReadBy assets readings
    objection : (first : Option Objection) → objection_to assets (keep n first) readings ≡ keep n (objection_to assets first rs)

  reads_all : (vs ws : List Watched) (rs : List Reading) → AreFronts n vs ws → AreFlowsOf ws (map (λ r. r.flow) rs) → AreReadBy assets rs → ReadsAll vs rs
  reads_all [] [] [] fronts of read = record { readings = []; are_flows = refl; are_read = tt; objection = λ first. refl }
  reads_all [] [] (r ∷ rs) fronts of read = cc
  reads_all [] (w ∷ ws) [] fronts of read = absurd of
  reads_all [] (w ∷ ws) (r ∷ rs) fronts of read =
      let later = reads_all [] ws rs fronts.1 of.1 read.1 in
      let none = nothing_by w r (site_from assets r.flow.asset) fronts.0 of.0 read.0 in
      let all = objection_in (site_from assets r.flow.asset) r in
      record {
        readings = later.readings;
        are_flows = later.are_flows;
        are_read = later.are_read;
        objection = λ first.
            ap (λ o. objection_to assets o later.readings) (sym (keep_earlier n first all ∙ ap (earlier (keep n first)) none ∙ nothing_earlier (keep n first))) ∙ later.objection (earlier first all);
      }
  reads_all (v ∷ vs) [] rs fronts of read = absurd fronts
  reads_all (v ∷ vs) (w ∷ ws) [] fronts of read = absurd of
  reads_all (v ∷ vs) (w ∷ ws) (r ∷ rs) fronts of read =
      let later = reads_all vs ws rs fronts.1 of.1 read.1 in
      let one = one_by v w r (site_from assets r.flow.asset) fronts.0 of.0 refl read.0 in
      let all = objection_in (site_from assets r.flow.asset) r in
      record {
        readings = one.reading ∷ later.readings;
        are_flows = (one.of, later.are_flows);
        are_read = (one.read, later.are_read);
        objection = λ first.
            ap (λ o. objection_to assets o later.readings) (ap (earlier (keep n first)) one.objection ∙ sym (keep_earlier n first all)) ∙ later.objection (earlier first all);
      }

-- ---- the records

pub fronts : FrontsAreJudged
fronts assets newer older objection (j, is, e) =
    let n = length older in
    let of = subst (AreFlowsOf (watched assets (newer ++ older))) (sym is.judges.of_flows) is.are_flows in
    let f = reads_all n assets (watched assets older) (watched assets (newer ++ older)) is.judges.readings (are_fronts assets newer older) of is.judges.are_read in
    let k : Judgement = record { flows = length (map (λ r. r.flow) f.readings); commands = commands_in 0 f.readings; objection = objection_to assets None f.readings } in (
      k,
      record {
        flows = map (λ r. r.flow) f.readings;
        are_flows = f.are_flows;
        judges = record { readings = f.readings; of_flows = refl; are_read = f.are_read; counts = refl; commands = refl; objection = refl };
      },
      f.objection None ∙ ap (keep n) (sym is.judges.objection ∙ e) ∙ sym (within_is n objection),
    )

-- an objection comes with one of the records
comes_within : (assets : List Asset) (newest : List Record) (o : Objection) → HasObjection assets newest (Some o) → o.at_record ≤ length newest
comes_within assets newest o (j, is, e) =
    let (k, are, f) = fronts assets [] newest (Some o) (j, is, e) in
    let same : Some o ≡ within (length newest) (Some o) = sym e ∙ ap (λ (x : Judgement). x.objection) (records_one assets newest j k is are) ∙ f in
    elim (cases_lt (length newest) o.at_record) [
      | inl high ↦ absurd (none-some o (sym (within_is (length newest) (Some o) ∙ kept_high at_of (length newest) o high) ∙ sym same))
      | inr low ↦ low
    ]

pub shortest : ObjectionsAreOfShortestFronts
shortest assets newest o has =
    let low = comes_within assets newest o has in
    let count = length newest - o.at_record in
    let newer = take count newest in
    let front = drop count newest in
    let are : newest ≡ newer ++ front = sym (take-append-drop count newest) in
    let size : length front ≡ o.at_record = (let left = length-drop count newest in omega (arith, left, low)) in
    let here = fronts assets newer front (Some o) (subst (λ rs. HasObjection assets rs (Some o)) are has) in
    record {
      newer = newer;
      front = front;
      are = are;
      last = size;
      here = subst (HasObjection assets front) (within_is (length front) (Some o) ∙ kept_low at_of (length front) o (omega (arith, size))) here;
      shorter = λ later fewer split short.
          let whole : newest ≡ (newer ++ later) ++ fewer = are ∙ ap (λ rs. newer ++ rs) split ∙ sym (append_assoc newer later fewer) in
          let before = fronts assets (newer ++ later) fewer (Some o) (subst (λ rs. HasObjection assets rs (Some o)) whole has) in
          subst (HasObjection assets fewer) (within_is (length fewer) (Some o) ∙ kept_high at_of (length fewer) o (omega (arith, size, short))) before;
    }
