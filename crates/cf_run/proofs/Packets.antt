-- The second half of an event, by what the packet is to the table.
use Rattle.std.proofs.Common.{◌≡◌, ℕ, ◌-◌, List, [], Option, refl, sym, ◌∙◌, subst}
use Rattle.cf_lane.specs.Judged.{one_if}
use Rattle.cf_packet.specs.Packet.{PacketValue}
use Rattle.cf_policy.specs.declared.Asset.{Asset}
use Rattle.cf_session.specs.Session.{Flow}
use Rattle.cf_session.specs.Told.{Told, with_both}
use Rattle.cf_view.specs.declared.Side.{Side}
use Rattle.cf_run.specs.Engine.{AreAll}
use Rattle.cf_run.specs.Entries.{entry_match}
use Rattle.cf_run.specs.Fitting.{is_between_others}
use Rattle.cf_run.specs.Receiving.{AreTicked, BeginsOne, GoesOne, Receiving}
use Rattle.cf_run.specs.Table.{Begins, Session, match_of}
use Rattle.cf_run.specs.Trace.{Begun, NoRoom, NoSession, Received, Receives, Went}
use Rattle.cf_run.specs.declared.entry.Entry.{Entry}
use Rattle.cf_run.specs.declared.matching.Match.TheVariants as match
use Rattle.cf_run.specs.declared.second_half.Outcome.{Outcome}
use Rattle.cf_run.specs.declared.second_half.Outcome.TheVariants as outcome
use Rattle.cf_run.proofs.Matched.{there}
use Rattle.cf_run.proofs.Timers.{both_nothing}

module _ (assets : List Asset) (limit now : ℕ) (packet : PacketValue) (before after : List Entry) (old new : Told) (table : List Session)
    (ticked : AreTicked (now - 1) table) (all : AreAll assets now before table) where
  abbrev Answers : Outcome → Type 0
  Answers o = (received : Received) × Receiving assets limit now packet table after old new o received

  pub begun : (place : ℕ) (closed : Option ℕ) → entry_match assets before packet ≡ match.Begins place closed →
      BeginsOne assets now place closed packet before after old new → Answers outcome.Begun
  begun place closed e b =
      let (flow, m, at, syn, is) = there assets now before table packet all (match.Begins place closed) e in
      let h = b table flow all at syn is in
      let receives = subst (λ x. Receives limit (now - 1) table packet x (Begun flow h.0)) (sym m) (refl, h.1.is) in
      (Begun flow h.0, record { receives = receives; told = h.1.told; all = h.1.all; counts = tt })

  pub went : (place : ℕ) (from : Side) (o : Outcome) → entry_match assets before packet ≡ match.Goes place from →
      GoesOne assets limit now place from packet before after old new o → Answers o
  went place from o e g =
      let m = there assets now before table packet all (match.Goes place from) e in
      let h = g table ticked all in
      let receives = subst (λ x. Receives limit (now - 1) table packet x (Went place h.0)) (sym m) (refl, h.1.goes_on) in
      (Went place h.0, record { receives = receives; told = h.1.told; all = h.1.all; counts = h.1.counts })

  module _ (same : after ≡ before) (quiet : new ≡ old) where
    told_nothing : new ≡ with_both old [] []
    told_nothing = quiet ∙ sym (both_nothing old)

    all_stay : AreAll assets now after table
    all_stay = subst (λ xs. AreAll assets now xs table) (sym same) all

    pub full : entry_match assets before packet ≡ match.Full → Answers outcome.Full
    full e =
        let m = there assets now before table packet all match.Full e in
        let receives = subst (λ x. Receives limit (now - 1) table packet x NoRoom) (sym m) tt in
        (NoRoom, record { receives = receives; told = told_nothing; all = all_stay; counts = tt })

    pub outside : (foreign : ℕ) → foreign ≡ one_if (is_between_others assets packet) → entry_match assets before packet ≡ match.Outside → Answers (outcome.Outside foreign)
    outside foreign is e =
        let m = there assets now before table packet all match.Outside e in
        let receives = subst (λ x. Receives limit (now - 1) table packet x NoSession) (sym m) tt in
        (NoSession, record { receives = receives; told = told_nothing; all = all_stay; counts = is })

-- a packet that begins a session among those in memory does so at the table that they stand for
pub begins_there : (assets : List Asset) (now : ℕ) (packet : PacketValue) (entries : List Entry) (place : ℕ) (closed : Option ℕ) →
    entry_match assets entries packet ≡ match.Begins place closed →
    (table : List Session) → AreAll assets now entries table → (flow : Flow) × (match_of assets table packet ≡ Begins flow)
begins_there assets now packet entries place closed e table all =
    let (flow, m, at, syn, is) = there assets now entries table packet all (match.Begins place closed) e in
    (flow, m)
