-- What a leg was to say in a session is below the limit, so what it sent is one stream.
use Rattle.std.proofs.Common.{◌≡◌, ℕ, ◌^◌, ◌≤◌, Bool, true, false, ◌&&◌, if◌then◌else◌, cond, inl, inr, List, [], ◌∷◌, ◌++◌, map, Option, Some, None, refl, sym, ap, ◌∙◌, subst, append_assoc, arith}
use Rattle.std.specs.Option.{is_some, option_or}
use Rattle.std.proofs.lemmas.Bool.{cases_Bool, false≢true, true≢false, and_parts, or_left}
use Rattle.std.proofs.lemmas.List.{append-nil, map-append}
use Rattle.std.proofs.lemmas.List.Folds.{list_any-append}
use Rattle.cf_audit.specs.declared.CutReason.{CutReason}
use Rattle.cf_driver.proofs.Limits.{limit_short}
use Rattle.cf_lane.specs.History.{Element, ended_of, is_side}
use Rattle.cf_lane.specs.Laws.{QuietBehindEnd, StreamsGoOn}
use Rattle.cf_lane.specs.Limit.{limit_cut}
use Rattle.cf_leg.specs.Event.{LegEvent, stream_after}
use Rattle.cf_leg.specs.OneStream.{IsOneStream, IsRightRun}
use Rattle.cf_leg.specs.declared.Ends.{Ends}
use Rattle.cf_leg.specs.declared.Role.{Role}
use Rattle.cf_stream.proofs.Extends.{extends_none}
use Rattle.cf_stream.specs.Stream.{Byte, End, Extends, Letter, Stream, letter_count}
use Rattle.cf_view.specs.declared.Side.{Side}
use Rattle.cf_view.specs.declared.Side.TheVariants as side
use Rattle.cf_session.specs.Cuts.{reset_cut}
use Rattle.cf_session.specs.Event.{AreEvents}
use Rattle.cf_session.specs.Laws.{AreUncut, AreUncutBefore, CarriesOneStream, IsFront, IsReassembly, SegmentsCarryOneStream, parts_of}
use Rattle.cf_session.specs.Session.{Flow, SessionEvent, client_of, closed_at, history, is_closed, was_closed, work_of}
use Rattle.cf_session.specs.Turn.{ends_of, leg_in}
use Rattle.cf_session.specs.Work.{Work, Works, no_work}
use Rattle.cf_session.proofs.Fixed.{WorkIsOne, legs_right}
use Rattle.cf_session.proofs.OneStream.{all_parts, front, grown, leg_says, stream_of, works_of}

-- ---- a closed session has taken both Ends

ended_by : (s : Side) (h : List Element) (done : Bool) → ((ended_of side.Client h && ended_of side.Controller h) && done) ≡ true → ended_of s h ≡ true
ended_by side.Client h done e = (and_parts _ _ (and_parts _ done e).0).0
ended_by side.Controller h done e = (and_parts (ended_of side.Client h) _ (and_parts _ done e).0).1

closed_now : (o : Option ℕ) (now : Bool) (moment : ℕ) → is_some (option_or o (if now then Some moment else None)) ≡ true → is_some o ≡ false → now ≡ true
closed_now None true moment h e = refl
closed_now None false moment h e = h
closed_now (Some at) now moment h e = absurd (true≢false e)

closed_ended : (f : Flow) (es : List SessionEvent) (s : Side) → was_closed f es ≡ true → ended_of s (history es) ≡ true
closed_ended f [] s h = absurd (false≢true h)
closed_ended f (e ∷ es) s h = elim (cases_Bool (was_closed f es)) [
  | inl before ↦ list_any-append (λ x. is_side s x.side && x.letters.ended) (history es) e.fed ∙ or_left (ended_of s (history es)) (ended_of s e.fed) (closed_ended f es s before)
  | inr still ↦ ended_by s (history (e ∷ es)) _ (closed_now (closed_at f es) (is_closed f (e ∷ es)) _ h still)
]

-- ---- the streams of a session that was not cut

abbrev IsShortWork : ℕ → Work → Type 0
IsShortWork limit w = (s : Side) → letter_count (stream_of s w) ≤ limit

short_none : (limit : ℕ) → IsShortWork limit no_work
short_none limit side.Client = omega arith
short_none limit side.Controller = omega arith

or_none : (a b : Option CutReason) → option_or a b ≡ None → b ≡ None
or_none None b e = e
or_none (Some r) b e = cc e

short_by : (limit : ℕ) (h : List Element) (w : Work) → limit_cut limit h w.to_client w.to_controller ≡ None → IsShortWork limit w
short_by limit h w e side.Client = let l = (limit_short limit _ _ (letter_count w.to_client) (letter_count w.to_controller) e).2 in omega (arith, l)
short_by limit h w e side.Controller = let l = (limit_short limit _ _ (letter_count w.to_client) (letter_count w.to_controller) e).3 in omega (arith, l)

uncut_later : (es : List SessionEvent) → AreUncut es → AreUncutBefore es
uncut_later [] u = tt
uncut_later (e ∷ es) u = u.1

module _ (one : WorkIsOne) (f : Flow) (limit : ℕ) where
  packet_short : (es : List SessionEvent) (half : SessionEvent) (e : SessionEvent) → Works f.site (client_of f) (history es) (work_of es) → IsShortWork limit (work_of es) →
      (from : Side) → (ended_of from (history es) ≡ true → e.fed ≡ []) → Works f.site (client_of f) (history (e ∷ es)) e.work →
      None ≡ (if was_closed f es then None else option_or (reset_cut f es e) (option_or e.work.cut (limit_cut limit (history (e ∷ es)) e.work.to_client e.work.to_controller))) →
      IsShortWork limit e.work
  packet_short es half e works short from unended now cut = elim (cases_Bool (was_closed f es)) [
    | inl closed ↦
        let same : history (e ∷ es) ≡ history es = ap (λ x. history es ++ x) (unended (closed_ended f es from closed)) ∙ append-nil (history es) in
        subst (IsShortWork limit) (one f.site (client_of f) (history es) (work_of es) e.work works (subst (λ h. Works f.site (client_of f) h e.work) same now)) short
    | inr still ↦
        short_by limit (history (e ∷ es)) e.work
        (or_none e.work.cut _ (or_none (reset_cut f es e) _ (sym (cut ∙ ap (λ b. cond b None (option_or (reset_cut f es e) (option_or e.work.cut (limit_cut limit (history (e ∷ es)) e.work.to_client e.work.to_controller)))) still))))
  ]

  work_short : (es : List SessionEvent) → AreEvents f limit es → AreUncut es → IsShortWork limit (work_of es)
  work_short [] are uncut = short_none limit
  work_short (e ∷ []) are uncut = subst (IsShortWork limit) (sym are.0.work) (short_none limit)
  work_short (e ∷ (d ∷ es)) are uncut =
      let before = work_short (d ∷ es) are.1 uncut.1 in
      elim are.0 [
        | inl tick ↦ subst (IsShortWork limit) (sym tick.work) before
        | inr p ↦ packet_short (d ∷ es) p.0 e (works_of f limit (d ∷ es) are.1) before p.1 p.5.unended p.5.work (sym uncut.0 ∙ p.5.cut)
      ]

  -- what a leg was to say
  said_short : (s : Side) (es : List SessionEvent) → AreEvents f limit es → AreUncutBefore es → letter_count (stream_after (map (leg_in s) es)) ≤ limit
  said_short s [] are uncut = omega arith
  said_short s (e ∷ es) are uncut = elim (leg_says f limit es e s are.0) [
    | inl same ↦ subst (λ x. letter_count x ≤ limit) (sym same) (said_short s es are.1 (uncut_later es uncut))
    | inr said ↦ subst (λ x. letter_count x ≤ limit) (sym said.1) (work_short (e ∷ es) are (said.0, uncut) s)
  ]

-- ---- what begins a stream begins every one that goes on from it

abbrev tail : Stream → List Letter
tail v = if v.ended then End ∷ [] else []

front_open : (w v : Stream) (r : List Letter) → w.ended ≡ false → (e : Extends w v) → IsFront w r → IsFront v r
front_open w v r still e h = record {
  more = h.more ++ (map Byte e.more ++ tail v);
  is = ap (λ bs. map Byte bs ++ tail v) e.bytes
      ∙ ap (λ ls. ls ++ tail v) (map-append Byte w.bytes e.more)
      ∙ append_assoc (map Byte w.bytes) (map Byte e.more) (tail v)
      ∙ ap (λ ls. ls ++ (map Byte e.more ++ tail v)) (sym (append-nil (map Byte w.bytes)) ∙ ap (λ b. map Byte w.bytes ++ (if b then End ∷ [] else [])) (sym still) ∙ h.is)
      ∙ append_assoc r h.more (map Byte e.more ++ tail v);
}

front_extends : (w v : Stream) (r : List Letter) → Extends w v → IsFront w r → IsFront v r
front_extends w v r e h = elim (cases_Bool w.ended) [ inl ended ↦ subst (λ x. IsFront x r) (sym (e.ended ended)) h | inr still ↦ front_open w v r still e h ]

-- ---- one stream

-- what a leg said is one stream that its events carry
pub leg_run : (go : StreamsGoOn) (quiet : QuietBehindEnd) (one : WorkIsOne) (f : Flow) (limit : ℕ) (es : List SessionEvent) (s : Side) → limit ≤ 2 ^ 30 → AreEvents f limit es → AreUncutBefore es →
    IsRightRun (ends_of f s) (map (leg_in s) es) (stream_after (map (leg_in s) es))
leg_run go quiet one f limit es s small are uncut =
    let short = said_short one f limit s es are uncut in
    record { right = legs_right f limit es s are; grows = (grown go quiet f limit s es are).grows; on = extends_none _; limit = omega (arith, small, short) }

abbrev pub LegLaw : Type 0
LegLaw = (ends : Ends) (es : List LegEvent) (whole : Stream) → IsRightRun ends es whole → IsOneStream whole ends.role es

pub carries_one : LegLaw → StreamsGoOn → QuietBehindEnd → WorkIsOne → SegmentsCarryOneStream
carries_one law go quiet one f limit es small are uncut = (
  record { said = _; goes_on = (grown go quiet f limit side.Controller es are).on; one = law _ _ _ (leg_run go quiet one f limit es side.Controller small are uncut) },
  record { said = _; goes_on = (grown go quiet f limit side.Client es are).on; one = law _ _ _ (leg_run go quiet one f limit es side.Client small are uncut) },
)

pub carried_front : (r : Role) (ls : List LegEvent) (whole : Stream) (taken : List Letter) → CarriesOneStream r ls whole → IsReassembly (parts_of r ls) taken → IsFront whole taken
carried_front r ls whole taken c re = front_extends c.said whole taken c.goes_on (front c.said _ taken (all_parts c.said r ls c.one) re)
