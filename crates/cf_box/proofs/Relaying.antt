-- An answer about a relay, as the answer of the command; and what an answer says of the pair's list.
use Rattle.cf_lane.specs.Caller.{none_before}
use Rattle.std.proofs.Common.{◌≡◌, ◌<◌, ◌⊎◌, ◌*◌, ℕ, List, None, Result, Ok, Err, refl, sym, subst, ap, ◌∙◌, inl, inr, [], ◌∷◌}
use Rattle.cf_lane.specs.Judged.{Judged}
use Rattle.cf_outside.specs.Faults.{HasCause, Rose}
use Rattle.cf_outside.specs.Files.{KeepsOthers}
use Rattle.cf_outside.specs.Pair.{Entry, FaultsBy}
use Rattle.cf_policy.specs.Site.{SiteValue}
use Rattle.cf_relay.specs.Answers.{idle_run, with_answers}
use Rattle.cf_relay.specs.Ends.{EndsAs, IdlesRose, IdlesRoseAt, LogContents, RelayEnds, file_log}
use Rattle.cf_relay.specs.Turn.{AreItemsOf, IsUnstopped, cut_at}
use Rattle.cf_relay.specs.declared.done.RelayDone.{RelayDone}
use Rattle.cf_relay.specs.declared.done.RelayEnd.{RelayEnd}
use Rattle.cf_relay.specs.declared.done.RelayEnd.TheVariants as ends
use Rattle.cf_relay.specs.declared.done.RelayFault.{RelayFault}
use Rattle.cf_relay.specs.declared.done.RelayFault.TheVariants as fault
use Rattle.cf_words.specs.Command.{Relay}
use Rattle.cf_box.specs.Ends.{Meets, PassesPolicy}
use Rattle.cf_ending.specs.Outside.{Outside, ReadsOnly}
use Rattle.cf_box.specs.PolicyFile.{FindsSite, StopsPolicy}
use Rattle.cf_box.specs.Relay.{HasRelayed, end_answer, relay_answer}
use Rattle.cf_ending.specs.declared.Done.{Done}
use Rattle.cf_ending.specs.declared.Stop.{Stop}
use Rattle.cf_ending.specs.declared.Stop.TheVariants as stop
use Rattle.cf_box.proofs.Passing.{found_passes}

-- ---- what an answer says of the list

-- the answers that say that no item cuts
abbrev pub IsUncutEnd : Result Done Stop → Type 0
IsUncutEnd (Ok d) = Unit {0}
IsUncutEnd (Err stop.LinkFault) = Unit {0}
IsUncutEnd (Err stop.IdleEnd) = Unit {0}
IsUncutEnd (Err s) = ⊥

-- those that say that fewer answers Idle came at the end than end a relay
abbrev pub GoesOn : Result Done Stop → Type 0
GoesOn (Ok d) = Unit {0}
GoesOn (Err stop.LinkFault) = Unit {0}
GoesOn (Err s) = ⊥

pub link_is_late : StopsPolicy stop.LinkFault ⊎ (stop.LinkFault ≡ stop.UnknownAsset) → ⊥
link_is_late (inl h) = h
link_is_late (inr e) = cc e

pub idle_is_late : StopsPolicy stop.IdleEnd ⊎ (stop.IdleEnd ≡ stop.UnknownAsset) → ⊥
idle_is_late (inl h) = h
idle_is_late (inr e) = cc e

pub record IsUncut (site : SiteValue) (es : List Entry) : Type 0 where
  pub judged : List Judged
  pub are_items : AreItemsOf site none_before es judged
  pub uncut : cut_at site es judged ≡ None

module _ (site : SiteValue) (listen most : ℕ) (log : LogContents) (same : Type 0) (es : List Entry) where
  unstopped : IsUnstopped site none_before most es → IsUncut site es
  unstopped goes = record { judged = goes.judged; are_items = goes.are_items; uncut = goes.uncut }

  uncut_at : (r : Result Done Stop) → IsUncutEnd r → (relayed : RelayDone) (end : RelayEnd) → end_answer relayed.admitted relayed.refused end ≡ r →
      EndsAs site listen most log es relayed end → IsUncut site es
  uncut_at r kind relayed ends.Done is h = unstopped h.goes
  uncut_at r kind relayed ends.IdleEnd is h = record { judged = h.judged; are_items = h.are_items; uncut = h.uncut }
  uncut_at r kind relayed (ends.Cut reason) is h = absurd (subst IsUncutEnd (sym is) kind)

  pub uncut_by : (r : Result Done Stop) → IsUncutEnd r → (answer : Result RelayDone RelayFault) → relay_answer answer ≡ r →
      RelayEnds site listen most log same es answer → IsUncut site es
  uncut_by r kind (Ok relayed) is h = uncut_at r kind relayed relayed.end is h
  uncut_by r kind (Err fault.Link) is h = unstopped h.goes
  uncut_by r kind (Err _) is h = absurd (subst IsUncutEnd (sym is) kind)

  few_at : (r : Result Done Stop) → GoesOn r → (relayed : RelayDone) (end : RelayEnd) → end_answer relayed.admitted relayed.refused end ≡ r →
      EndsAs site listen most log es relayed end → idle_run es < most
  few_at r kind relayed ends.Done is h = h.goes.idle
  few_at r kind relayed _ is h = absurd (subst GoesOn (sym is) kind)

  pub few_by : (r : Result Done Stop) → GoesOn r → (answer : Result RelayDone RelayFault) → relay_answer answer ≡ r →
      RelayEnds site listen most log same es answer → idle_run es < most
  few_by r kind (Ok relayed) is h = few_at r kind relayed relayed.end is h
  few_by r kind (Err fault.Link) is h = h.goes.idle
  few_by r kind (Err _) is h = absurd (subst GoesOn (sym is) kind)

-- ---- the answer of the command

module _ (policy name : List ℕ) (port idles : ℕ) (log : List ℕ) (before after : Outside) where
  module _ (answer : Result RelayDone RelayFault) (relayed : HasRelayed policy name port idles log before after answer) where
    passed : PassesPolicy (Relay policy name port idles log) before
    passed = found_passes (Relay policy name port idles log) before policy name relayed.site refl refl relayed.finds

  -- an end that no fault made
  ends_so : (done : RelayDone) (relayed : HasRelayed policy name port idles log before after (Ok done)) (end : RelayEnd) → done.end ≡ end →
      Meets (Relay policy name port idles log) before after (end_answer done.admitted done.refused end)
  ends_so done relayed ends.Done is = (Ok done, relayed, ap (end_answer done.admitted done.refused) is)
  ends_so done relayed ends.IdleEnd is =
      let ended = subst (EndsAs relayed.site port (2 * idles) _ relayed.answers done) is relayed.relayed in
      let rose = subst (IdlesRoseAt (2 * idles) before.pair.idles after.pair.idles) is relayed.idles_rose in (
        (record { answers = relayed.answers; told = relayed.told; last = ended.idle; counted = rose }, passed (Ok done) relayed),
        inr (Ok done, relayed, ap (end_answer done.admitted done.refused) is),
      )
  ends_so done relayed (ends.Cut reason) is =
      let ended = subst (EndsAs relayed.site port (2 * idles) _ relayed.answers done) is relayed.relayed in (
        (
          record {
            site = relayed.site;
            finds = relayed.finds;
            answers = relayed.answers;
            told = relayed.told;
            judged = ended.judged;
            are_items = ended.are_items;
            cuts = ended.is_cut;
          },
          passed (Ok done) relayed,
        ),
        inr (Ok done, relayed, ap (end_answer done.admitted done.refused) is),
      )

  pub relay_meets : (answer : Result RelayDone RelayFault) → HasRelayed policy name port idles log before after answer →
      (answer ≡ Err fault.Write → Rose before.files.write_faults after.files.write_faults) →
      Meets (Relay policy name port idles log) before after (relay_answer answer)
  relay_meets (Ok done) relayed write = ends_so done relayed done.end refl
  relay_meets (Err fault.Link) relayed write = ((relayed.faults.rose refl, passed (Err fault.Link) relayed), inr (Err fault.Link, relayed, refl))
  relay_meets (Err fault.Write) relayed write = ((inl (write refl), passed (Err fault.Write) relayed), inr (Err fault.Write, relayed, refl))
  relay_meets (Err fault.NoMemory) relayed write = (tt, inr (Err fault.NoMemory, relayed, refl))

-- the same after files were read, none of which changed
pub relay_after : (policy name : List ℕ) (port idles : ℕ) (log : List ℕ) (before middle after : Outside) (site : SiteValue) → FindsSite (before.files.content policy) name site →
    ReadsOnly (policy ∷ []) before.files middle.files → (answer : Result RelayDone RelayFault) (answers : List Entry) → after.pair.told ≡ with_answers before.pair.told answers →
    RelayEnds site port (2 * idles) (file_log (middle.files.content log) (after.files.content log)) (after.files.content log ≡ middle.files.content log) answers answer →
    IdlesRose (2 * idles) before.pair.idles after.pair.idles answer → KeepsOthers log middle.files.content after.files.content →
    FaultsBy before.pair.faults after.pair.faults (answer ≡ Err fault.Link) → HasCause middle.files.write_faults after.files.write_faults (answer ≡ Err fault.Write) →
    after.sink ≡ before.sink → Meets (Relay policy name port idles log) before after (relay_answer answer)
relay_after policy name port idles log before middle after site finds only answer answers told ends idles_rose others link write sink =
    relay_meets policy name port idles log before after answer
    (record {
      site = site;
      finds = finds;
      answers = answers;
      told = told;
      relayed = subst (λ k. RelayEnds site port (2 * idles) (file_log (k log) (after.files.content log)) (after.files.content log ≡ k log) answers answer) only.content ends;
      idles_rose = idles_rose;
      faults = link;
      others = λ other differs. others other differs ∙ ap (λ f. f other) only.content;
      sink = sink;
    }) (λ is. subst (λ n. Rose n after.files.write_faults) only.writes (write.rose is))
