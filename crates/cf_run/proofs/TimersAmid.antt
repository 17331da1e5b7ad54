-- The first halves of all sessions, where the desk failed amid one of them.
use Rattle.std.proofs.Common.{◌≡◌, ℕ, false, not, List, [], ◌∷◌, ◌++◌, drop, cond, Some, refl, sym, ap, ◌∙◌, subst, inl, inr}
use Rattle.std.specs.List.{flat_map}
use Rattle.std.proofs.lemmas.Bool.{cases_Bool}
use Rattle.std.proofs.lemmas.Grind.{flat_map-append}
use Rattle.std.proofs.lemmas.List.Concat.{flat_map-cons}
use Rattle.std.proofs.lemmas.List.Elements.{filter-append}
use Rattle.cf_outside.specs.Desk.{DeskValue}
use Rattle.cf_policy.specs.Site.{site_from}
use Rattle.cf_policy.specs.declared.Asset.{Asset}
use Rattle.cf_session.proofs.Amid.{amid_after, amid_as, amid_before}
use Rattle.cf_outside.specs.Frames.{EmitsAndLogs}
use Rattle.cf_session.specs.Broken.{BreaksTick}
use Rattle.cf_session.specs.Laws.{EachSessionHasATick}
use Rattle.cf_session.specs.Sent.{logged_first, sent_first}
use Rattle.cf_session.specs.Session.{Flow, SessionEvent, is_expired}
use Rattle.cf_session.specs.Stands.{IsSessionOf}
use Rattle.cf_session.specs.Told.{told}
use Rattle.cf_run.specs.Engine.{AreAll, IsOne, TickSome}
use Rattle.cf_run.specs.Half.{TicksBreak}
use Rattle.cf_run.specs.Table.{Session}
use Rattle.cf_run.specs.Trace.{AreTicks, kept, logged_ticks}
use Rattle.cf_run.specs.declared.entry.Entry.{Entry}
use Rattle.cf_run.proofs.Timers.{logged-append, ticks-append}

kept-append : (tick : ℕ) (xs ys : List Session) → kept tick (xs ++ ys) ≡ kept tick xs ++ kept tick ys
kept-append tick xs ys = filter-append (λ s. not (is_expired s.flow s.events tick)) xs ys

kept-more : (tick : ℕ) (s : Session) (ss : List Session) → is_expired s.flow s.events tick ≡ false → kept tick (s ∷ ss) ≡ s ∷ kept tick ss
kept-more tick s ss e = ap (λ b. cond (not b) (s ∷ kept tick ss) (kept tick ss)) e

module _ (law : EachSessionHasATick) (assets : List Asset) (last tick : ℕ) where
  -- the next first halves of sessions in memory
  abbrev HasTicks : List Session → Type 0
  HasTicks table = (ticks : List SessionEvent) × AreTicks tick (kept tick table) ticks

  one_more : (x : Entry) (flow : Flow) (events : List SessionEvent) (rest : List Session) → IsOne assets last x (record { flow = flow; events = events }) → HasTicks rest →
      HasTicks (record { flow = flow; events = events } ∷ rest)
  one_more x flow [] rest one r = absurd one
  one_more x flow (e ∷ es) rest one r =
      let s : Session = record { flow = flow; events = e ∷ es } in
      elim (cases_Bool (is_expired flow (e ∷ es) tick)) [
        | inl gone ↦ (r.0, subst (λ b. AreTicks tick (cond (not b) (s ∷ kept tick rest) (kept tick rest)) r.0) (sym gone) r.1)
        | inr still ↦ (let t = law flow x.session.limit es e tick one.stands.events one.stands.going still in (t.0 ∷ r.0, subst (λ table. AreTicks tick table (t.0 ∷ r.0)) (sym (kept-more tick s rest still)) (t.1, r.1)))
      ]

  have_ticks : (entries : List Entry) (table : List Session) → AreAll assets last entries table → HasTicks table
  have_ticks [] [] all = ([], refl)
  have_ticks (x ∷ entries) (s ∷ table) all = one_more x s.flow s.events table all.0 (have_ticks entries table all.1)
  have_ticks entries table all = absurd all

module _ (law : EachSessionHasATick) (assets : List Asset) (tick : ℕ) (known : List Session) (entries : List Entry) (place : ℕ) (d0 d1 d2 : DeskValue) (n : ℕ)
    (a : TickSome assets tick known entries place (told d0) (told d1) n) (frame : EmitsAndLogs d0 d1 false) (x : Entry) (xs : List Entry)
    (broken : (flow : Flow) (earlier : List SessionEvent) (event : SessionEvent) → IsSessionOf flow earlier event x.session → site_from assets x.asset ≡ Some flow.site → BreaksTick flow (event ∷ earlier) tick d1 d2) where
  breaks_one : (flow : Flow) (events : List SessionEvent) (rest : List Session) → a.rest ≡ record { flow = flow; events = events } ∷ rest → IsOne assets tick x (record { flow = flow; events = events }) → AreAll assets tick xs rest →
      TicksBreak tick known d0 d2
  breaks_one flow [] rest is one others = absurd one
  breaks_one flow (e ∷ es) rest is one others =
      let s : Session = record { flow = flow; events = e ∷ es } in
      let b = broken flow es e one.stands one.site in
      let r = have_ticks law assets tick tick xs rest others in
      let done = a.some in
      let us = b.event ∷ r.0 in
      let all : kept tick known ≡ kept tick a.done ++ (s ∷ kept tick rest) =
      ap (kept tick) (a.split ∙ ap (λ zs. a.done ++ zs) is) ∙ kept-append tick a.done (s ∷ rest) ∙ ap (λ zs. kept tick a.done ++ zs) (kept-more tick s rest b.kept) in
      record {
        ticks = done.ticks ++ us;
        are = subst (λ table. AreTicks tick table (done.ticks ++ us)) (sym all) (ticks-append tick (kept tick a.done) (s ∷ kept tick rest) done.ticks us done.are (b.is_tick, r.1));
        amid = amid_as (flat_map sent_first done.ticks ++ (sent_first b.event ++ flat_map sent_first r.0)) _ (logged_ticks (kept tick a.done) done.ticks ++ (logged_first flow b.event ++ logged_ticks (kept tick rest) r.0)) _ d0 d2
            (ap (λ zs. flat_map sent_first done.ticks ++ zs) (sym (flat_map-cons sent_first b.event r.0)) ∙ sym (flat_map-append sent_first done.ticks us))
            (sym (logged-append tick (kept tick a.done) (s ∷ kept tick rest) done.ticks us done.are) ∙ ap (λ table. logged_ticks table (done.ticks ++ us)) (sym all))
            (amid_after (flat_map sent_first done.ticks) (sent_first b.event ++ flat_map sent_first r.0) (logged_ticks (kept tick a.done) done.ticks) (logged_first flow b.event ++ logged_ticks (kept tick rest) r.0) d0 d1 d2 done.told frame
            (amid_before (sent_first b.event) (flat_map sent_first r.0) (logged_first flow b.event) (logged_ticks (kept tick rest) r.0) d1 d2 b.amid));
      }

  breaks_by : (rest : List Session) → a.rest ≡ rest → AreAll assets tick (x ∷ xs) rest → TicksBreak tick known d0 d2
  breaks_by [] is all = absurd all
  breaks_by (s ∷ rest) is all = breaks_one s.flow s.events rest is all.0 all.1

  -- the desk failed amid the first half of the session at a place
  pub ticks_break : drop place entries ≡ x ∷ xs → TicksBreak tick known d0 d2
  ticks_break here = breaks_by a.rest refl (subst (λ zs. AreAll assets tick zs a.rest) here a.others)
