-- A packet of a side that was heard, in the session's words, where the desk failed amid its lines.
use Rattle.std.proofs.Common.{◌≡◌, ℕ, List, ◌∷◌, ◌++◌, sym, ap, ◌∙◌, subst}
use Rattle.cf_lane.specs.History.{Element, ended_of}
use Rattle.cf_leg.specs.Event.{moment}
use Rattle.cf_outside.specs.Desk.{DeskValue}
use Rattle.cf_packet.specs.Packet.{PacketValue}
use Rattle.cf_policy.specs.Site.{SiteValue}
use Rattle.cf_view.specs.declared.Side.{Side}
use Rattle.cf_session.proofs.Events.{before_history}
use Rattle.cf_session.proofs.Parts.{both_taken}
use Rattle.cf_session.specs.Parts.{AreParts, SessionValue}
use Rattle.cf_session.specs.Session.{Flow, SessionEvent, client_of, history}
use Rattle.cf_session.specs.Turn.{HeardAmid, HearingAmid, IsHalf, ends_of, heard_half, leg_in, legs_of}
use Rattle.cf_session.specs.Work.{Works}

module _ (f : Flow) (es : List SessionEvent) (t : SessionEvent) (half : IsHalf t) (p : PacketValue) (old : SessionValue) (parts : AreParts f es t old) (d0 d1 : DeskValue) where
  abbrev Hears : Side → SiteValue → ℕ → Type 0
  Hears s a n = HearingAmid s (ends_of f s) a (client_of f) n (leg_in s t) (legs_of s es) p (history (t ∷ es)) t.work d0 d1

  heard_in : (s : Side) → Hears s f.site (moment t.client) → HeardAmid f es t s p d0 d1
  heard_in s h =
      let w = h.follows in
      let e = heard_half t s p h.letters w.work in
      record {
        letters = h.letters;
        work = w.work;
        are_taken = both_taken f es t half p old parts s h.letters w.work h.taken_is;
        unended = λ n. h.unended (ap (ended_of s) (before_history es t half.fed) ∙ n);
        works = subst (λ (x : List Element). Works f.site (client_of f) (x ++ e.fed) w.work) (before_history es t half.fed) w.works;
        lines = w.lines;
        log_is = w.log_is;
        amid = w.amid;
      }

  pub heard_amid : (site : SiteValue) → f.site ≡ site → (time : ℕ) → moment t.client ≡ time → (s : Side) → Hears s site time → HeardAmid f es t s p d0 d1
  heard_amid site is time at s h = heard_in s (subst (Hears s f.site) (sym at) (subst (λ a. Hears s a time) (sym is) h))
