-- A session is sound after a packet that did not cut it.
use Rattle.std.proofs.lemmas.Option.{none-some}
use Rattle.std.proofs.Common.{◌≡◌, ◌≢◌, ℕ, Bool, true, false, cond, Option, Some, None, refl, sym, ap, ◌∙◌, subst, arith}
use Rattle.std.specs.Option.{is_some, option_or}
use Rattle.std.proofs.lemmas.Bool.{true≢false, and_parts}
use Rattle.cf_audit.specs.declared.CutReason.{CutReason}
use Rattle.cf_driver.proofs.Limits.{limit_short}
use Rattle.cf_lane.specs.Handled.{IsLaneOf, LaneValue}
use Rattle.cf_leg.specs.declared.LegAnswer.{LegAnswer}
use Rattle.cf_outq.specs.SendQueue.{Queue, queue_length}
use Rattle.cf_policy.specs.Site.{IsSiteWithin, SiteValue}
use Rattle.cf_rebuild.specs.ReceiveWindow.{Window, base_of}
use Rattle.cf_view.specs.declared.Side.{Side}
use Rattle.cf_session.proofs.Heards.{full_of}
use Rattle.cf_session.specs.CutBy.{cut_by}
use Rattle.cf_session.specs.Cuts.{is_reset}
use Rattle.cf_session.specs.Parts.{SessionValue}
use Rattle.cf_session.specs.Stands.{IsSound}
use Rattle.cf_session.specs.Turn.{IsShort, IsSteady, OnlySpeaks, is_done_now}

some_closed : (o : Option ℕ) → is_some o ≡ true → o ≢ None
some_closed o e n = true≢false (sym e ∙ ap is_some n)

-- what the code asks is why the session is cut
pub reason_is : {x y : SessionValue} {closed reset : Bool} {full why : Option CutReason} (s : Side) (given : LegAnswer) (cut : Option CutReason) →
    x ≡ y → closed ≡ is_some x.closed → reset ≡ is_reset given → full ≡ full_of y → why ≡ cut_by closed reset s cut full → why ≡ cut_by (is_some y.closed) (is_reset given) s cut (full_of y)
reason_is s given cut same c r l asked = rw (c, r, l, same) at asked

-- where nothing cuts, the lane did not, and in a session that is not closed no stream is full
uncut_by : (closed reset : Bool) (s : Side) (cut full : Option CutReason) → None ≡ cut_by closed reset s cut full → (closed ≡ true → cut ≡ None) → (cut ≡ None) × (closed ≡ false → full ≡ None)
uncut_by true reset s cut full e done = (done refl, λ c. absurd (true≢false c))
uncut_by false true s cut full e done = absurd (none-some _ e)
uncut_by false false s None full e done = (refl, λ c. sym e)
uncut_by false false s (Some r) full e done = absurd (none-some r e)

uncut_at : (s : Side) (given : LegAnswer) (cut : Option CutReason) (x : SessionValue) → IsSteady x cut → None ≡ cut_by (is_some x.closed) (is_reset given) s cut (full_of x) →
    (cut ≡ None) × (is_some x.closed ≡ false → full_of x ≡ None)
uncut_at s given cut x steady because = uncut_by (is_some x.closed) (is_reset given) s cut (full_of x) because (λ b. steady.uncut (some_closed x.closed b))

pub lane_uncut : (s : Side) (given : LegAnswer) (cut : Option CutReason) (x : SessionValue) → IsSteady x cut → None ≡ cut_by (is_some x.closed) (is_reset given) s cut (full_of x) → cut ≡ None
lane_uncut s given cut x steady because = (uncut_at s given cut x steady because).0

short_by : (s : SessionValue) (cut : Option CutReason) (o : Option ℕ) → s.closed ≡ o → IsSteady s cut → (is_some o ≡ false → full_of s ≡ None) → IsShort s
short_by s cut None e h full =
    let x = limit_short s.limit (base_of s.client.window) (base_of s.controller.window) (queue_length s.to_client) (queue_length s.to_controller) (full refl) in
    record { client_letters = x.2; controller_letters = x.3; client_taken = x.0; controller_taken = x.1 }
short_by s cut (Some m) e h full = h.short (some_closed s.closed (ap is_some e))

pub is_short : (s : Side) (given : LegAnswer) (cut : Option CutReason) (x : SessionValue) → IsSteady x cut → None ≡ cut_by (is_some x.closed) (is_reset given) s cut (full_of x) → IsShort x
is_short s given cut x steady because = short_by x cut x.closed refl steady (uncut_at s given cut x steady because).1

short_on : (s1 s2 : SessionValue) → OnlySpeaks s1 s2 → IsShort s1 → IsShort s2
short_on s1 s2 o h =
    let l = ap (λ (x : SessionValue). x.limit) o.rest in
    record {
      client_letters = (let a = h.client_letters in let b = ap (λ (q : Queue). queue_length q) o.to_client in omega (arith, a, b, l));
      controller_letters = (let a = h.controller_letters in let b = ap (λ (q : Queue). queue_length q) o.to_controller in omega (arith, a, b, l));
      client_taken = (let a = h.client_taken in let b = ap (λ (w : Window). base_of w) o.client_window in omega (arith, a, b, l));
      controller_taken = (let a = h.controller_taken in let b = ap (λ (w : Window). base_of w) o.controller_window in omega (arith, a, b, l));
    }

-- what closes has ended on both sides
closed_done : (o : Option ℕ) (done : Bool) (now : ℕ) → option_or o (cond done (Some now) None) ≢ None → (P : Type 0) → (o ≢ None → P) → (done ≡ true → P) → P
closed_done (Some m) done now n P f g = f (some_closed (Some m) refl)
closed_done None true now n P f g = g refl
closed_done None false now n P f g = absurd (n refl)

pub sound_after : (site : SiteValue) (s1 s2 s3 : SessionValue) (now : ℕ) → IsSiteWithin site → IsLaneOf site s1.lane → OnlySpeaks s1 s2 → IsSteady s2 None → IsShort s1 →
    s3 ≡ record s2 { closed = s3.closed } → s3.closed ≡ option_or s2.closed (cond (is_done_now s2) (Some now) None) → IsSound site s3
sound_after site s1 s2 s3 now within serves only h short same closing =
    let x = short_on s1 s2 only short in
    let closed : s3.closed ≢ None → option_or s2.closed (cond (is_done_now s2) (Some now) None) ≢ None = λ n e. n (closing ∙ e) in
    subst (IsSound site) (sym same) (record {
      within = within;
      serves = subst (λ (l : LaneValue). IsLaneOf site l) (sym (ap (λ (s : SessionValue). s.lane) only.rest)) serves;
      passive = h.passive;
      limit = h.limit;
      client_letters = x.client_letters;
      controller_letters = x.controller_letters;
      client_taken = x.client_taken;
      controller_taken = x.controller_taken;
      client_rest = h.client_rest refl;
      controller_rest = h.controller_rest refl;
      client_open = h.client_open;
      controller_open = h.controller_open;
      client_done = λ n. closed_done s2.closed (is_done_now s2) now (closed n) (s2.client.window.ended ≡ true) h.client_done
          (λ d. (and_parts s2.client.window.ended s2.controller.window.ended (and_parts _ _ d).0).0);
      controller_done = λ n. closed_done s2.closed (is_done_now s2) now (closed n) (s2.controller.window.ended ≡ true) h.controller_done
          (λ d. (and_parts s2.client.window.ended s2.controller.window.ended (and_parts _ _ d).0).1);
      commands = h.commands;
      owed = h.owed;
      client_room = h.client_room;
      controller_room = h.controller_room;
    })
