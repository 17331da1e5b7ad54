-- Between two events of an open leg every letter that the peer lets in was sent.
use Rattle.std.proofs.Math.Bool.{or-false}
use Rattle.std.proofs.Common.{◌≡◌, min, max, ◌&&◌, ◌||◌, Bool, true, false, List, [], ◌∷◌, ◌++◌, refl, sym, ◌∙◌, ap, subst, arith}
use Rattle.std.specs.Prelude.{MatchBool}
use Rattle.std.proofs.lemmas.Bool.{false≢true}
use Rattle.cf_packet.specs.Packet.{PacketValue}
use Rattle.cf_stream.proofs.Extends.{extends_both}
use Rattle.cf_stream.specs.Stream.{Stream, letter_count}
use Rattle.cf_leg.proofs.Events.{no_greeting, open_is_greeted}
use Rattle.cf_leg.proofs.Reach.{carried_after}
use Rattle.cf_leg.proofs.Sent.{fired_repeats}
use Rattle.cf_leg.proofs.Streams.{along_run, count_grows}
use Rattle.cf_leg.specs.Emits.{EndsBy, Speaks, SpeaksOpen}
use Rattle.cf_leg.specs.Event.{Came, Cut, Ending, Greeting, LegEvent, Nothing, Packet, Spoke, Unspoken, greeted_by, is_idle, is_settled, is_spoken, is_unspoken, said_by, stream_after, stream_at}
use Rattle.cf_leg.specs.Heard.{opened, opens, end_state, shown, shown_by}
use Rattle.cf_leg.specs.OneStream.{IsRightRun}
use Rattle.cf_leg.specs.Told.{letters_sent, letters_sent_at, letters_sent_by_all, own_number}
use Rattle.cf_leg.specs.declared.ends.Ends.{Ends}

-- the letters sent are those of the queue's list below the greatest edge shown
abbrev Goal : Ends → List LegEvent → Type 0
Goal ends es = letters_sent ends.role es ≡ min (shown ends.role es) (letter_count (stream_after es))

module _ (ends : Ends) (e : LegEvent) (es : List LegEvent) (whole : Stream) (r : IsRightRun ends (e ∷ es) whole) (o : opened ends.role (e ∷ es) ≡ true) where
  by_speech : (said : Stream) (roomy : Bool) (outs : List PacketValue) → e.ending ≡ Spoke said roomy outs → Goal ends (e ∷ es)
  by_speech said roomy outs k =
      let speaks : Speaks ends es e said roomy outs = subst (EndsBy ends es e) k r.right.0.ending in
      let speaks_open = subst (λ (b : Bool). MatchBool b (SpeaksOpen ends es e said roomy outs) (outs ≡ [])) o speaks in
      let quiet = no_greeting ends es (opened ends.role es) (end_state ends.role es e) e.came (open_is_greeted ends.role es) r.right.0.came o in
      let stream : stream_after (e ∷ es) ≡ said = ap (λ n. stream_at n (stream_after es)) k in
      let own = own_number ends.role (e ∷ es) in
      let at = letters_sent_at ends.role es e in
      let edge = shown ends.role (e ∷ es) in
      let went : letters_sent ends.role (e ∷ es) ≡ max at (min edge (letter_count said)) =
      ap (λ (ps : List PacketValue). letters_sent_by_all own at (ps ++ said_by e.ending)) quiet ∙ ap (λ (n : Ending). letters_sent_by_all own at (said_by n)) k
      ∙ carried_after _ _ _ said _ edge at outs speaks_open.says in
      let along = along_run ends (e ∷ es) whole r in
      omega (arith, went, along.within, along.below, ap (λ (t : Stream). letter_count t) stream)

  earlier : IsRightRun ends es whole
  earlier = record { right = r.right.1; grows = r.grows.1; on = extends_both (stream_after es) (stream_after (e ∷ es)) whole r.grows.0 r.on; limit = r.limit }

  -- nothing came, and what was sent again was sent before
  by_nothing : e.ending ≡ Unspoken → e.came ≡ Nothing → (opened ends.role es ≡ true → Goal ends es) → Goal ends (e ∷ es)
  by_nothing k n before =
      let old = along_run ends es whole earlier in
      let same = (fired_repeats ends es earlier.right whole earlier.on r.limit old.within (count_grows (stream_after es) whole earlier.on) e r.right.0.fired).same in
      let still : letters_sent ends.role (e ∷ es) ≡ letters_sent_at ends.role es e =
      ap (λ (c : Came). letters_sent_by_all (own_number ends.role (e ∷ es)) (letters_sent_at ends.role es e) (greeted_by c ++ said_by e.ending)) n
      ∙ ap (λ (x : Ending). letters_sent_by_all (own_number ends.role (e ∷ es)) (letters_sent_at ends.role es e) (said_by x)) k in
      let edge : shown ends.role (e ∷ es) ≡ shown ends.role es = ap (λ (c : Came). shown_by (end_state ends.role es e) c (shown ends.role es)) n in
      let stream : stream_after (e ∷ es) ≡ stream_after es = ap (λ x. stream_at x (stream_after es)) k in
      let opens_not : opened ends.role (e ∷ es) ≡ (opened ends.role es || false) = ap (λ (c : Came). opened ends.role es || opens (end_state ends.role es e) c) n in
      let is_open : opened ends.role es ≡ true = sym (or-false (opened ends.role es)) ∙ sym opens_not ∙ o in
      omega (arith, before is_open, still, same, edge, ap (λ (t : Stream). letter_count t) stream)

  by_came : e.ending ≡ Unspoken → (c : Came) → e.came ≡ c → is_idle c ≡ true → (opened ends.role es ≡ true → Goal ends es) → Goal ends (e ∷ es)
  by_came k Nothing n idle before = by_nothing k n before
  by_came k (Greeting p) n idle before = absurd (false≢true idle)
  by_came k (Packet p) n idle before = absurd (false≢true idle)

  by_ending : (n : Ending) → e.ending ≡ n → (is_spoken n || (is_unspoken n && is_idle e.came)) ≡ true → (opened ends.role es ≡ true → Goal ends es) → Goal ends (e ∷ es)
  by_ending (Spoke said roomy outs) k over before = by_speech said roomy outs k
  by_ending Unspoken k over before = by_came k e.came refl over before
  by_ending (Cut p) k over before = absurd (false≢true over)

-- between two events of an open end every letter that the peer lets in was sent
pub reach : (ends : Ends) (es : List LegEvent) (whole : Stream) → IsRightRun ends es whole → is_settled es ≡ true → opened ends.role es ≡ true → Goal ends es
reach ends [] whole r over o = absurd (false≢true o)
reach ends (e ∷ es) whole r over o =
    by_ending ends e es whole r o e.ending refl over (reach ends es whole (earlier ends e es whole r o) r.right.0.over)
