-- Causes that stand in the input, where it is told: no other status comes but those to which they yield.
use Rattle.cf_lane.specs.Caller.{newcomer, none_before}
use Rattle.std.proofs.Common.{◌≡◌, ◌⊎◌, ◌++◌, ◌*◌, ℕ, List, All, None, Some, Result, Ok, Err, refl, sym, subst, ◌∙◌, ap, inl, inr, arith}
use Rattle.std.proofs.lemmas.List.{append_cancel_left}
use Rattle.cf_audit.specs.declared.line.CutReason.{CutReason}
use Rattle.cf_lane.specs.Judged.{Judged}
use Rattle.cf_lane.specs.Laws.{HasOneJudgement}
use Rattle.cf_outside.specs.Files.{Content}
use Rattle.cf_outside.specs.Pair.{Entry}
use Rattle.cf_relay.specs.Answers.{client_of, history_of, idle_run, with_answers}
use Rattle.cf_relay.specs.Turn.{AreItemsOf, cut_at}
use Rattle.cf_relay.specs.declared.done.RelayDone.{RelayDone}
use Rattle.cf_relay.specs.declared.done.RelayFault.{RelayFault}
use Rattle.cf_compare.specs.Outcome.{HasNothing}
use Rattle.cf_policy.specs.Site.{SiteValue}
use Rattle.cf_policy.specs.declared.Policy.{Policy}
use Rattle.cf_policylang.specs.Documents.{policy_meaning}
use Rattle.cf_policylang.specs.declared.PolicyRefusal.{PolicyRefusal}
use Rattle.cf_words.specs.Command.{Command, Check, Compare, Draft, Judge, Migrate, Packets, Review, Run, Relay, World, Sift, asset_name, policy_file, Learn}
use Rattle.cf_box.specs.Compare.{IsIncluded, OfPolicies, TellsNotIncluded}
use Rattle.cf_box.specs.Ends.{Does, LacksAsset, Meets, PassesPolicy, RefusesPolicy}
use Rattle.cf_box.specs.Draft.{Drafts}
use Rattle.cf_box.specs.Learn.{Learns}
use Rattle.cf_ending.specs.Outside.{Outside, ReadFailed, WriteFailed}
use Rattle.cf_box.specs.PolicyFile.{FindsSite, HasPolicy, IsRefusedBy, StopsPolicy, TellsSite, site_named}
use Rattle.cf_sift.specs.Laws.{HasOneCut}
use Rattle.cf_sift.specs.Names.{SiftNamesValue}
use Rattle.cf_sift.specs.Stored.{GoesUpTo, stored_history}
use Rattle.cf_box.specs.Relay.{HasRelayed, RelayLeaves, TellsRelay, relay_answer}
use Rattle.cf_box.specs.Review.{DoesReview, HoldsReview, NothingRemarked}
use Rattle.cf_review.specs.declared.Counts.{Counts}
use Rattle.cf_box.specs.Sift.{TakesStream, TellsCutStream}
use Rattle.cf_box.specs.Status.{IsExact, TellsCut, TellsDenial, TellsIdle, TellsNoAsset, TellsNoPolicy, TellsObjection, TellsRemark, TellsRemarks}
use Rattle.cf_box.specs.Status.{TellsTooManyRules, TellsTooMuch, TellsTooMuchRecorded}
use Rattle.cf_unobjected.specs.OneJudgement.{RecordsHaveOneJudgement}
use Rattle.cf_ending.specs.declared.Done.{Done}
use Rattle.cf_ending.specs.declared.Done.TheVariants as done
use Rattle.cf_ending.specs.declared.Stop.{Stop}
use Rattle.cf_ending.specs.declared.Stop.TheVariants as stop
use Rattle.cf_box.proofs.CaptureExact.{DueBehind, capture_from, capture_cut_from}
use Rattle.cf_box.proofs.Complete.{known_unrefused, not_cut_all, not_cut_watch, not_lacking, not_refused, not_refused_all, not_refused_watch, same_bytes, same_policy}
use Rattle.cf_box.proofs.OneJudgement.{judgement_told}
use Rattle.cf_box.proofs.Passing.{found_passes, one_policy, policy_passes}
use Rattle.cf_box.proofs.Relaying.{GoesOn, IsUncutEnd, few_by, idle_is_late, link_is_late, uncut_by}
use Rattle.cf_box.proofs.Sites.{asset_of_named, one_site}
use Rattle.cf_box.proofs.Statuses.{Explains, IsOf, Unprinted, explained, read_failed, stop_is, write_failed}

-- work that was done has passed the policy: a line a command
does_pass : (before after : Outside) (c : Command) (d : Done) → Does c before after d → PassesPolicy c before
does_pass before after (Check policy) d m = policy_passes (Check policy) before policy m.policy refl refl refl m.has
does_pass before after (Compare policy second) d m =
    let ours : Policy = m.includes.0 in
    let theirs : Policy = m.includes.1 in
    record {
      policy = λ file e. let same : policy ≡ file = cc in (ours, subst (λ f. HasPolicy (before.files.content f) ours) same m.includes.2.has_ours);
      other = λ file e. let same : second ≡ file = cc in (theirs, subst (λ f. HasPolicy (before.files.content f) theirs) same m.includes.2.has_theirs);
      asset = λ file name e f. cc f;
    }
does_pass before after (Draft policy out captures) d m =
    let l : Drafts policy captures before m.holds.draft = m.holds.drafts in policy_passes (Draft policy out captures) before policy l.known refl refl refl l.has_read.has_policy
does_pass before after (Judge policy capture) d m = policy_passes (Judge policy capture) before policy m.keeps.0 refl refl refl m.keeps.2.has_policy
does_pass before after (Migrate policy out) d m = policy_passes (Migrate policy out) before policy m.keeps.meaning refl refl refl m.keeps.has
does_pass before after (Learn policy capture out) d m =
    let l : Learns policy capture before m.holds.learned = m.holds.learns in policy_passes (Learn policy capture out) before policy l.known refl refl refl l.watched.has_policy
does_pass before after (Review policy captures log) (done.Reviewed counts) m =
    let h : HoldsReview policy captures log before after = m.0.holds in policy_passes (Review policy captures log) before policy h.known refl refl refl h.has.has_policy
does_pass before after (Review policy captures log) d m = absurd m
does_pass before after (Packets capture) d m = record { policy = λ file e. cc e; other = λ file e. cc e; asset = λ file name e f. cc e }
does_pass before after (Run policy names) d m = policy_passes (Run policy names) before policy m.1.policy refl refl refl m.1.has
does_pass before after (Relay policy asset port idles log) d m =
    found_passes (Relay policy asset port idles log) before policy asset m.1.site refl refl m.1.finds
does_pass before after (World seed sessions policy names) d m = record { policy = λ file e. cc e; other = λ file e. cc e; asset = λ file name e f. cc e }
does_pass before after (Sift policy name client names) d m = found_passes (Sift policy name client names) before policy name m.takes.site refl refl m.takes.finds

-- the site that is found is that of the policy that is told
found_site : (file : Content) (name : List ℕ) (t : TellsSite file name) (site : SiteValue) → FindsSite file name site → site ≡ t.site
found_site file name t site finds =
    let same : finds.policy ≡ t.policy = same_policy file t.bytes t.policy finds.policy t.told t.means finds.has in
    one_site name t.policy site t.site (subst (λ p. site_named name p ≡ Some site) same finds.named) t.named

-- no asset is lacking of which the site is told
not_lacking_told : (c : Command) (before : Outside) (file name : List ℕ) (t : TellsSite (before.files.content file) name) → policy_file c ≡ Some file → asset_name c ≡ Some name →
    LacksAsset c before → ⊥
not_lacking_told c before file name t of_policy of_asset cause =
    let found = asset_of_named name t.policy t.site t.named in
    not_lacking c before file name t.bytes t.policy found.0 t.told t.means found.1 of_policy of_asset cause

module _ (failed : Type 0) (status : ℕ) (before after : Outside) where
  -- the status that is due, or one of those to which it yields
  abbrev Due : Command → ℕ → Type 0
  Due c n = (status ≡ n) ⊎ (((status ≡ 3) × ReadFailed c before after) ⊎ (status ≡ 13))

  module _ (c : Command) (t : TellsNoPolicy c before) where
    no_policy : (p : Policy) → HasPolicy (before.files.content t.file) p → ⊥
    no_policy p has =
        let same : has.bytes ≡ t.bytes = same_bytes (before.files.content t.file) t.bytes has.bytes t.told has.whole in
        let means : policy_meaning t.bytes ≡ Ok p = ap policy_meaning (sym same) ∙ has.means in
        let refuses = t.means in
        cc

    not_passed : PassesPolicy c before → ⊥
    not_passed passed = elim t.needs [ inl e ↦ (let p = passed.policy t.file e in no_policy p.0 p.1) | inr e ↦ (let p = passed.other t.file e in no_policy p.0 p.1) ]

    lacking_in : (cause : LacksAsset c before) → policy_file c ≡ Some t.file → ⊥
    lacking_in cause e =
        let named = cause.2 in
        let same : cause.0 ≡ t.file = cc in
        no_policy cause.4.0 (subst (λ f. HasPolicy (before.files.content f) cause.4.0) same cause.4.1)

    -- a command that lacks an asset has a policy
    not_lacked : LacksAsset c before → ⊥
    not_lacked cause = elim t.needs [ inl e ↦ lacking_in cause e | inr e ↦ one_policy c t.file cause.1 e cause.3 ]

    refused_from : (r : Result Done Stop) → Meets c before after r → IsOf r failed status → Due c 5
    refused_from (Ok d) meets h = absurd (not_passed (does_pass before after c d meets))
    refused_from (Err stop.ReadFault) meets h = inr (inl (stop_is failed status stop.ReadFault h, meets.0))
    refused_from (Err stop.NoMemory) meets h = inr (inr (stop_is failed status stop.NoMemory h))
    refused_from (Err (stop.PolicyRefused r)) meets h = inl (stop_is failed status (stop.PolicyRefused r) h)
    refused_from (Err stop.UnknownAsset) meets h = absurd (not_lacked meets.0)
    refused_from (Err _) meets h = absurd (not_passed meets.0.1)

  module _ (c : Command) (t : TellsNoAsset c before) where
    not_found : PassesPolicy c before → ⊥
    not_found passed =
        let found = passed.asset t.file t.name t.needs t.asks in
        let same : found.0 ≡ t.meaning = same_policy (before.files.content t.file) t.bytes t.meaning found.0 t.told t.means found.1 in
        let none = t.lacks in
        let some = found.2.1 in
        cc

    unknown_from : (r : Result Done Stop) → Meets c before after r → IsOf r failed status → Due c 10
    unknown_from (Ok d) meets h = absurd (not_found (does_pass before after c d meets))
    unknown_from (Err stop.ReadFault) meets h = inr (inl (stop_is failed status stop.ReadFault h, meets.0))
    unknown_from (Err stop.NoMemory) meets h = inr (inr (stop_is failed status stop.NoMemory h))
    unknown_from (Err (stop.PolicyRefused r)) meets h = absurd (known_unrefused c before t.file t.bytes t.meaning r t.needs t.told t.means (λ second e. one_policy c second t.name e t.asks) meets.0)
    unknown_from (Err stop.UnknownAsset) meets h = inl (stop_is failed status stop.UnknownAsset h)
    unknown_from (Err _) meets h = absurd (not_found meets.0.1)

  module _ (one : HasOneCut) (file name : List ℕ) (client : ℕ) (names : SiftNamesValue) (t : TellsCutStream file name client names before) where
    -- the stream does not go on to its end
    not_uncut : TakesStream file name client names before after None → ⊥
    not_uncut taken =
        let s = taken.sifted in
        let site = found_site (before.files.content file) name t.known taken.site taken.finds in
        let stream = same_bytes (before.files.content names.stream) t.stream s.bytes t.stream_told s.whole in
        let goes = subst (λ a. GoesUpTo a client (stored_history t.stream) taken.taken.cut s.history s.judged) site
        (subst (λ b. GoesUpTo taken.site client (stored_history b) taken.taken.cut s.history s.judged) stream s.goes) in
        let cut = (one t.known.site client (stored_history t.stream) s.history t.history taken.taken.cut (Some t.reason) s.judged t.judged goes t.goes).2 in
        let none = taken.is_cut in
        cc

    cut_from : (r : Result Done Stop) → Meets (Sift file name client names) before after r → IsOf r failed status → DueBehind failed status before after (Sift file name client names) 12
    cut_from (Ok d) meets h = absurd (not_uncut meets.takes)
    cut_from (Err stop.ReadFault) meets h = inr (inr (inl (stop_is failed status stop.ReadFault h, meets.0)))
    cut_from (Err stop.NoMemory) meets h = inr (inr (inr (stop_is failed status stop.NoMemory h)))
    cut_from (Err (stop.PolicyRefused r)) meets h =
        absurd (known_unrefused (Sift file name client names) before file t.known.bytes t.known.policy r refl t.known.told t.known.means (λ second e. cc e) meets.0)
    cut_from (Err stop.UnknownAsset) meets h =
        absurd (not_lacking_told (Sift file name client names) before file name t.known refl refl meets.0)
    cut_from (Err stop.WriteFault) meets h = inr (inl (stop_is failed status stop.WriteFault h, inl meets.0.0))
    cut_from (Err (stop.Cut reason)) meets h = inl (stop_is failed status (stop.Cut reason) h)
    cut_from (Err _) meets h = absurd meets.0.0

  module _ (law : HasOneJudgement) (file name : List ℕ) (port idles : ℕ) (log : List ℕ) (t : TellsRelay file name before after.pair) where
    known_means : (r : PolicyRefusal) → RefusesPolicy (Relay file name port idles log) before r → ⊥
    known_means r cause = known_unrefused (Relay file name port idles log) before file t.known.bytes t.known.policy r refl t.known.told t.known.means (λ second e. cc e) cause

    known_asset : LacksAsset (Relay file name port idles log) before → ⊥
    known_asset cause = not_lacking_told (Relay file name port idles log) before file name t.known refl refl cause

    -- the answers that are told are the relay's, and so are their items
    relayed_answers : (es : List Entry) → after.pair.told ≡ with_answers before.pair.told es → es ≡ t.answers
    relayed_answers es told =
        let behind : after.pair.told ≡ Some (t.earlier ++ es) = subst (λ earlier. after.pair.told ≡ with_answers earlier es) t.earlier_told told in
        let all = t.answers_told in
        let same : t.earlier ++ es ≡ t.earlier ++ t.answers = cc in
        append_cancel_left t.earlier es t.answers same

    relayed_cut : (s : SiteValue) (es : List Entry) (js : List Judged) → FindsSite (before.files.content file) name s → after.pair.told ≡ with_answers before.pair.told es →
        AreItemsOf s none_before es js → cut_at s es js ≡ cut_at t.known.site t.answers t.judged
    relayed_cut s es js finds told are =
        let site : s ≡ t.known.site = found_site (before.files.content file) name t.known s finds in
        let answers : es ≡ t.answers = relayed_answers es told in
        let here : AreItemsOf t.known.site none_before t.answers js = subst (λ x. AreItemsOf x none_before t.answers js) site (subst (λ l. AreItemsOf s none_before l js) answers are) in
        let judged : js ≡ t.judged = law t.known.site (newcomer (client_of t.answers).address) (history_of t.answers) js t.judged here t.are_items in
        cc

    -- a relay that answered so was not cut
    not_cut : (reason : CutReason) → cut_at t.known.site t.answers t.judged ≡ Some reason → (r : Result Done Stop) → IsUncutEnd r → (answer : Result RelayDone RelayFault) →
        HasRelayed file name port idles log before after answer → relay_answer answer ≡ r → ⊥
    not_cut reason cut r kind answer h is =
        let uncut = uncut_by _ _ _ _ _ h.answers r kind answer is h.relayed in
        let same = relayed_cut h.site h.answers uncut.judged h.finds h.told uncut.are_items in
        let none = uncut.uncut in
        cc

    not_cut_stop : (reason : CutReason) → cut_at t.known.site t.answers t.judged ≡ Some reason → (s : Stop) → IsUncutEnd (Err s) →
        (StopsPolicy s ⊎ (s ≡ stop.UnknownAsset) → ⊥) → RelayLeaves file name port idles log before after s → ⊥
    not_cut_stop reason cut s kind late (inl l) = late l.0
    not_cut_stop reason cut s kind late (inr l) = not_cut reason cut (Err s) kind l.0 l.1 l.2

    relay_cut_from : (reason : CutReason) → cut_at t.known.site t.answers t.judged ≡ Some reason → (r : Result Done Stop) →
        Meets (Relay file name port idles log) before after r → IsOf r failed status → DueBehind failed status before after (Relay file name port idles log) 12
    relay_cut_from reason cut (Ok d) meets h = absurd (not_cut reason cut (Ok d) tt meets.0 meets.1 meets.2)
    relay_cut_from reason cut (Err stop.ReadFault) meets h = inr (inr (inl (stop_is failed status stop.ReadFault h, meets.0)))
    relay_cut_from reason cut (Err stop.NoMemory) meets h = inr (inr (inr (stop_is failed status stop.NoMemory h)))
    relay_cut_from reason cut (Err (stop.PolicyRefused r)) meets h = absurd (known_means r meets.0)
    relay_cut_from reason cut (Err stop.UnknownAsset) meets h = absurd (known_asset meets.0)
    relay_cut_from reason cut (Err stop.WriteFault) meets h = inr (inl (stop_is failed status stop.WriteFault h, inl meets.0.0))
    relay_cut_from reason cut (Err stop.LinkFault) meets h = absurd (not_cut_stop reason cut stop.LinkFault tt link_is_late meets.1)
    relay_cut_from reason cut (Err stop.IdleEnd) meets h = absurd (not_cut_stop reason cut stop.IdleEnd tt idle_is_late meets.1)
    relay_cut_from reason cut (Err (stop.Cut other)) meets h = inl (stop_is failed status (stop.Cut other) h)
    relay_cut_from reason cut (Err _) meets h = absurd meets.0.0

    -- nor did one go on that answered so
    not_idle : idle_run t.answers ≡ 2 * idles → (r : Result Done Stop) → GoesOn r → (answer : Result RelayDone RelayFault) →
        HasRelayed file name port idles log before after answer → relay_answer answer ≡ r → ⊥
    not_idle idle r kind answer h is =
        let few = few_by _ _ _ _ _ h.answers r kind answer is h.relayed in
        let same : h.answers ≡ t.answers = relayed_answers h.answers h.told in
        omega (arith, few, idle, ap idle_run same)

    relay_idle_from : cut_at t.known.site t.answers t.judged ≡ None → idle_run t.answers ≡ 2 * idles → (r : Result Done Stop) →
        Meets (Relay file name port idles log) before after r → IsOf r failed status → DueBehind failed status before after (Relay file name port idles log) 9
    relay_idle_from uncut idle (Ok d) meets h = absurd (not_idle idle (Ok d) tt meets.0 meets.1 meets.2)
    relay_idle_from uncut idle (Err stop.ReadFault) meets h = inr (inr (inl (stop_is failed status stop.ReadFault h, meets.0)))
    relay_idle_from uncut idle (Err stop.NoMemory) meets h = inr (inr (inr (stop_is failed status stop.NoMemory h)))
    relay_idle_from uncut idle (Err (stop.PolicyRefused r)) meets h = absurd (known_means r meets.0)
    relay_idle_from uncut idle (Err stop.UnknownAsset) meets h = absurd (known_asset meets.0)
    relay_idle_from uncut idle (Err stop.WriteFault) meets h = inr (inl (stop_is failed status stop.WriteFault h, inl meets.0.0))
    relay_idle_from uncut idle (Err stop.LinkFault) (cause, inl l) h = absurd (link_is_late l.0)
    relay_idle_from uncut idle (Err stop.LinkFault) (cause, inr l) h = absurd (not_idle idle (Err stop.LinkFault) tt l.0 l.1 l.2)
    relay_idle_from uncut idle (Err stop.IdleEnd) meets h = inl (stop_is failed status stop.IdleEnd h)
    relay_idle_from uncut idle (Err (stop.Cut reason)) meets h =
        let c = meets.0.0 in
        let same = relayed_cut c.site c.answers c.judged c.finds c.told c.are_items in
        let cuts = c.cuts in
        absurd (cc)
    relay_idle_from uncut idle (Err _) meets h = absurd meets.0.0

  -- answers that end in too many Idle: a line a command
  idle_from : HasOneJudgement → (c : Command) → TellsIdle c before after.pair → (r : Result Done Stop) → Meets c before after r → IsOf r failed status → DueBehind failed status before after c 9
  idle_from law (Relay policy asset port idles log) t r meets h = relay_idle_from law policy asset port idles log t.0 t.1 t.2 r meets h
  idle_from law _ t r meets h = absurd t

  -- a stream that is cut: a line a command
  stream_from : HasOneCut → HasOneJudgement → (c : Command) → TellsCut c before after.pair → (r : Result Done Stop) → Meets c before after r → IsOf r failed status → DueBehind failed status before after c 12
  stream_from one judgement (Relay policy asset port idles log) t r meets h = relay_cut_from judgement policy asset port idles log t.0 t.1.0 t.1.1 r meets h
  stream_from one judgement (Sift policy asset client names) t r meets h = cut_from one policy asset client names t r meets h
  stream_from one judgement _ t r meets h = absurd t

  -- what is due where the first of two policies is not included in the second
  abbrev DueDenied : Command → Type 0
  DueDenied c = ((status ≡ 15) ⊎ (status ≡ 17)) ⊎ (((status ≡ 3) × ReadFailed c before after) ⊎ (status ≡ 13))

  module _ (policy second : List ℕ) (t : TellsNotIncluded policy second before) where
    not_included : OfPolicies policy second before IsIncluded → ⊥
    not_included includes =
        let ours : includes.0 ≡ t.ours = same_policy (before.files.content policy) t.bytes t.ours includes.0 t.told t.means includes.2.has_ours in
        let theirs : includes.1 ≡ t.theirs =
        same_policy (before.files.content second) t.other_bytes t.theirs includes.1 t.other_told t.other_means includes.2.has_theirs in
        t.not_all (subst (λ p. All (HasNothing p) t.ours.assets) theirs (subst (λ p. All (HasNothing includes.1) p.assets) ours includes.3.nothing))

    both_mean : (r : PolicyRefusal) → RefusesPolicy (Compare policy second) before r → ⊥
    both_mean r (inl cause) =
        let e = cause.1 in
        let here : cause.0 ≡ policy = cc in
        not_refused (before.files.content policy) t.bytes t.ours r t.told t.means (subst (λ f. IsRefusedBy (before.files.content f) r) here cause.2)
    both_mean r (inr (inl cause)) =
        let e = cause.2 in
        let here : cause.0 ≡ second = cc in
        not_refused (before.files.content second) t.other_bytes t.theirs r t.other_told t.other_means
        (subst (λ f. IsRefusedBy (before.files.content f) r) here cause.4.2)
    both_mean r (inr (inr made)) = made

    denied_from : (r : Result Done Stop) → Meets (Compare policy second) before after r → IsOf r failed status → DueDenied (Compare policy second)
    denied_from (Ok d) meets h = absurd (not_included meets.includes)
    denied_from (Err stop.ReadFault) meets h = inr (inl (stop_is failed status stop.ReadFault h, meets.0))
    denied_from (Err stop.NoMemory) meets h = inr (inr (stop_is failed status stop.NoMemory h))
    denied_from (Err (stop.PolicyRefused r)) meets h = absurd (both_mean r meets.0)
    denied_from (Err stop.UnknownAsset) meets h = let cause : LacksAsset (Compare policy second) before = meets.0 in absurd (cc (cause.3))
    denied_from (Err stop.WriteFault) meets h = absurd (meets.1.unwritten refl)
    denied_from (Err (stop.Denied why)) meets h = inl (inl (stop_is failed status (stop.Denied why) h))
    denied_from (Err (stop.TooManyCells name)) meets h = inl (inr (stop_is failed status (stop.TooManyCells name) h))
    denied_from (Err _) meets h = absurd meets.0.0

  module _ (policy capture : List ℕ) (t : TellsObjection policy capture before) where
    objection_from : (r : Result Done Stop) → Meets (Judge policy capture) before after r → IsOf r failed status → DueDenied (Judge policy capture)
    objection_from (Ok d) meets h = absurd (t.not_clean d meets.keeps)
    objection_from (Err stop.ReadFault) meets h = inr (inl (stop_is failed status stop.ReadFault h, meets.0))
    objection_from (Err stop.NoMemory) meets h = inr (inr (stop_is failed status stop.NoMemory h))
    objection_from (Err (stop.PolicyRefused r)) meets h =
        absurd (known_unrefused (Judge policy capture) before policy t.files.known.bytes t.files.known.policy r refl t.files.known.told t.files.known.means (λ second e. cc e) meets.0)
    objection_from (Err stop.UnknownAsset) meets h = let cause : LacksAsset (Judge policy capture) before = meets.0 in absurd (cc (cause.3))
    objection_from (Err stop.WriteFault) meets h = absurd (meets.1.unwritten refl)
    objection_from (Err (stop.CaptureRefused r)) meets h = absurd (not_refused_watch t.files.bytes (t.files.ends, t.files.short) _ t.files.told r meets.0.0)
    objection_from (Err (stop.CaptureCut place)) meets h = absurd (not_cut_watch t.files.bytes (t.files.ends, t.files.short) _ t.files.told place meets.0.0)
    objection_from (Err (stop.Denied why)) meets h = inl (inl (stop_is failed status (stop.Denied why) h))
    objection_from (Err _) meets h = absurd meets.0.0

  module _ (policy : List ℕ) (captures : List (List ℕ)) (log : List ℕ) (t : TellsRemark policy captures before) where
    clean_of : (counts : Counts) → DoesReview policy captures log before after (done.Reviewed counts) → NothingRemarked policy captures before
    clean_of counts m = let h : HoldsReview policy captures log before after = m.0.holds in (h.known, h.stamps, h.reviewed, h.has, m.1)

    remark_from : (r : Result Done Stop) → Meets (Review policy captures log) before after r → IsOf r failed status → DueBehind failed status before after (Review policy captures log) 15
    remark_from (Ok (done.Reviewed counts)) meets h = absurd (t.not_clean (clean_of counts meets))
    remark_from (Ok d) meets h = absurd meets
    remark_from (Err stop.ReadFault) meets h = inr (inr (inl (stop_is failed status stop.ReadFault h, meets.0)))
    remark_from (Err stop.NoMemory) meets h = inr (inr (inr (stop_is failed status stop.NoMemory h)))
    remark_from (Err (stop.PolicyRefused r)) meets h =
        absurd (known_unrefused (Review policy captures log) before policy t.files.known.bytes t.files.known.policy r refl t.files.known.told t.files.known.means (λ second e. cc e) meets.0)
    remark_from (Err stop.UnknownAsset) meets h = let cause : LacksAsset (Review policy captures log) before = meets.0 in absurd (cc (cause.3))
    remark_from (Err stop.WriteFault) meets h = inr (inl (stop_is failed status stop.WriteFault h, inl meets.0.0))
    remark_from (Err (stop.CaptureRefused r)) meets h = absurd (not_refused_all before.files.content captures t.files.all r meets.0.0)
    remark_from (Err (stop.CaptureCut place)) meets h = absurd (not_cut_all before.files.content captures t.files.all place meets.0.0)
    remark_from (Err (stop.Denied why)) meets h = inl (stop_is failed status (stop.Denied why) h)
    remark_from (Err _) meets h = absurd meets.0.0

  remarked_from : (c : Command) → TellsRemarks c before → (r : Result Done Stop) → Meets c before after r → IsOf r failed status → DueBehind failed status before after c 15
  remarked_from (Review policy captures log) t r meets h = remark_from policy captures log t r meets h
  remarked_from c t r meets h = absurd t

  module _ (policy capture out : List ℕ) (t : TellsTooMuch policy capture before) where
    rules_from : (r : Result Done Stop) → Meets (Learn policy capture out) before after r → IsOf r failed status → Due (Learn policy capture out) 16
    rules_from (Ok d) meets h = absurd (t.none_learned meets.holds.learned meets.holds.learns)
    rules_from (Err stop.ReadFault) meets h = inr (inl (stop_is failed status stop.ReadFault h, meets.0))
    rules_from (Err stop.NoMemory) meets h = inr (inr (stop_is failed status stop.NoMemory h))
    rules_from (Err (stop.PolicyRefused r)) meets h =
        absurd (known_unrefused (Learn policy capture out) before policy t.files.known.bytes t.files.known.policy r refl t.files.known.told t.files.known.means (λ second e. cc e) meets.0)
    rules_from (Err stop.UnknownAsset) meets h = let cause : LacksAsset (Learn policy capture out) before = meets.0 in absurd (cc (cause.3))
    rules_from (Err stop.WriteFault) meets h = absurd (t.none_learned meets.1.learned meets.1.learns)
    rules_from (Err (stop.CaptureRefused r)) meets h = absurd (not_refused_watch t.files.bytes (t.files.ends, t.files.short) _ t.files.told r meets.0.0)
    rules_from (Err (stop.CaptureCut place)) meets h = absurd (not_cut_watch t.files.bytes (t.files.ends, t.files.short) _ t.files.told place meets.0.0)
    rules_from (Err (stop.TooManyRules name)) meets h = inl (stop_is failed status (stop.TooManyRules name) h)
    rules_from (Err _) meets h = absurd meets.0.0

  module _ (policy out : List ℕ) (captures : List (List ℕ)) (t : TellsTooMuchRecorded policy captures before) where
    draft_rules_from : (r : Result Done Stop) → Meets (Draft policy out captures) before after r → IsOf r failed status → Due (Draft policy out captures) 16
    draft_rules_from (Ok d) meets h = absurd (t.none_drafted meets.holds.draft meets.holds.drafts)
    draft_rules_from (Err stop.ReadFault) meets h = inr (inl (stop_is failed status stop.ReadFault h, meets.0))
    draft_rules_from (Err stop.NoMemory) meets h = inr (inr (stop_is failed status stop.NoMemory h))
    draft_rules_from (Err (stop.PolicyRefused r)) meets h =
        absurd (known_unrefused (Draft policy out captures) before policy t.files.known.bytes t.files.known.policy r refl t.files.known.told t.files.known.means (λ second e. cc e) meets.0)
    draft_rules_from (Err stop.UnknownAsset) meets h = let cause : LacksAsset (Draft policy out captures) before = meets.0 in absurd (cc (cause.3))
    draft_rules_from (Err stop.WriteFault) meets h = absurd (t.none_drafted meets.1.draft meets.1.drafts)
    draft_rules_from (Err (stop.CaptureRefused r)) meets h = absurd (not_refused_all before.files.content captures t.files.all r meets.0.0)
    draft_rules_from (Err (stop.CaptureCut place)) meets h = absurd (not_cut_all before.files.content captures t.files.all place meets.0.0)
    draft_rules_from (Err (stop.TooManyRules name)) meets h = inl (stop_is failed status (stop.TooManyRules name) h)
    draft_rules_from (Err _) meets h = absurd meets.0.0

  too_many_from : (c : Command) → TellsTooManyRules c before → (r : Result Done Stop) → Meets c before after r → IsOf r failed status → Due c 16
  too_many_from (Learn policy capture out) t r meets h = rules_from policy capture out t r meets h
  too_many_from (Draft policy out captures) t r meets h = draft_rules_from policy out captures t r meets h
  too_many_from c t r meets h = absurd t

  -- what is asked and is not so: a line a command that asks
  asked_from : (c : Command) → TellsDenial c before → (r : Result Done Stop) → Meets c before after r → IsOf r failed status → DueDenied c
  asked_from (Compare policy second) t r meets h = denied_from policy second t r meets h
  asked_from (Judge policy capture) t r meets h = objection_from policy capture t r meets h
  asked_from c t r meets h = absurd t

-- what is due at the answer is due at the end
later : (c : Command) (due : Type 0) (status : ℕ) (before middle after : Outside) → (ReadFailed c before middle → ReadFailed c before after) →
    due ⊎ (((status ≡ 3) × ReadFailed c before middle) ⊎ (status ≡ 13)) → due ⊎ (((status ≡ 3) × ReadFailed c before after) ⊎ (status ≡ 13))
later c due status before middle after rise (inl h) = inl h
later c due status before middle after rise (inr (inl h)) = inr (inl (h.0, rise h.1))
later c due status before middle after rise (inr (inr h)) = inr (inr h)

later_written : (c : Command) (failed : Type 0) (status n : ℕ) (before middle after : Outside) → (ReadFailed c before middle → ReadFailed c before after) →
    (WriteFailed before middle ⊎ failed → WriteFailed before after) → DueBehind failed status before middle c n →
    (status ≡ n) ⊎ (((status ≡ 4) × WriteFailed before after) ⊎ (((status ≡ 3) × ReadFailed c before after) ⊎ (status ≡ 13)))
later_written c failed status n before middle after rise wrote (inl h) = inl h
later_written c failed status n before middle after rise wrote (inr (inl h)) = inr (inl (h.0, wrote h.1))
later_written c failed status n before middle after rise wrote (inr (inr (inl h))) = inr (inr (inl (h.0, rise h.1)))
later_written c failed status n before middle after rise wrote (inr (inr (inr h))) = inr (inr (inr h))

pub exact_told : HasOneCut → HasOneJudgement → RecordsHaveOneJudgement → {c : Command} {before after : Outside} {status : ℕ} (e : Explains c before after status) → IsExact c before after status
exact_told one law once {c = c} {before = before} {after = after} {status = status} e = record {
  refused = λ t. later c (status ≡ 5) status before e.middle after (read_failed e)
      (refused_from (Unprinted e) status before e.middle c t e.r e.meets (explained e));
  unknown = λ t. later c (status ≡ 10) status before e.middle after (read_failed e)
      (unknown_from (Unprinted e) status before e.middle c t e.r e.meets (explained e));
  capture = λ t. later_written c (Unprinted e) status 6 before e.middle after (read_failed e) (write_failed e)
      (capture_from (Unprinted e) status before e.middle c t e.r e.meets (explained e));
  capture_cut = λ t. later_written c (Unprinted e) status 7 before e.middle after (read_failed e) (write_failed e)
      (capture_cut_from (Unprinted e) status before e.middle c t e.r e.meets (explained e));
  cut = λ t. later_written c (Unprinted e) status 12 before e.middle after (read_failed e) (write_failed e)
      (stream_from (Unprinted e) status before e.middle one law c (subst (λ p. TellsCut c before p) e.reports.pair t) e.r e.meets (explained e));
  idle = λ t. later_written c (Unprinted e) status 9 before e.middle after (read_failed e) (write_failed e)
      (idle_from (Unprinted e) status before e.middle law c (subst (λ p. TellsIdle c before p) e.reports.pair t) e.r e.meets (explained e));
  remarked = λ t. later_written c (Unprinted e) status 15 before e.middle after (read_failed e) (write_failed e)
      (remarked_from (Unprinted e) status before e.middle c t e.r e.meets (explained e));
  denied = λ t. later c ((status ≡ 15) ⊎ (status ≡ 17)) status before e.middle after (read_failed e)
      (asked_from (Unprinted e) status before e.middle c t e.r e.meets (explained e));
  rules = λ t. later c (status ≡ 16) status before e.middle after (read_failed e)
      (too_many_from (Unprinted e) status before e.middle c t e.r e.meets (explained e));
  judgement = λ policy capture p judged is t h. judgement_told once e policy capture is t p judged h;
}
