-- Stages that are done one after the other, and those that break off.
use Rattle.std.proofs.Common.{Err, List, Ok, Result, ap, append_assoc, arith, refl, subst, sym, ℕ, ◌++◌, ◌∙◌, ◌≡◌, []}
use Rattle.std.specs.Prelude.{IfErr, OnOk}
use Rattle.std.proofs.lemmas.List.{append-nil}
use Rattle.cf_lane.specs.Handled.{WritesLog}
use Rattle.cf_lane.specs.Log.{with_lines}
use Rattle.cf_links.specs.Links.{with_answers}
use Rattle.cf_outside.proofs.Desks.{keeps_both, keeps_none}
use Rattle.cf_outside.specs.Desk.{DeskValue}
use Rattle.cf_outside.specs.Faults.{Rose}
use Rattle.cf_outside.specs.Pair.{Entry, FaultsBy}
use Rattle.cf_policy.specs.Site.{SiteValue}
use Rattle.cf_relay.proofs.Giving.{with_more, with_none}
use Rattle.cf_relay.proofs.Lined.{apart_more, apart_none}
use Rattle.cf_relay.proofs.Stages.{breaks_more, does_broken, does_then}
use Rattle.cf_relay.specs.Scene.{AddsAnswers, DoesBetween, Scene, StopsBetween, StopsBy}
use Rattle.cf_relay.specs.Stands.{StandsFor}
use Rattle.cf_relay.specs.Turn.{Stage}
use Rattle.cf_relay.specs.declared.stop.Stop.{Stop}
use Rattle.cf_relay.specs.declared.stop.Stop.TheVariants as stop

pub writes_none : (d : DeskValue) → WritesLog d d
writes_none d = record { packets = refl; packet_part = refl; stays = λ w. w; line_part = λ w. refl; keeps = keeps_none d }

writes_both : (d e f : DeskValue) → WritesLog d e → WritesLog e f → WritesLog d f
writes_both d e f h g = record {
  packets = g.packets ∙ h.packets;
  packet_part = g.packet_part ∙ h.packet_part;
  stays = λ w. h.stays (g.stays w);
  line_part = λ w. g.line_part w ∙ h.line_part (g.stays w);
  keeps = keeps_both d e f h.keeps g.keeps;
}

adds_both : (old mid new : Scene) (xs ys : List Entry) → AddsAnswers old mid xs → AddsAnswers mid new ys → AddsAnswers old new (xs ++ ys)
adds_both old mid new xs ys h g = record {
  tells = g.tells ∙ ap (λ t. with_answers t ys) h.tells ∙ with_more old.links.told xs ys;
  link = omega (arith, h.link, g.link);
  idles = λ start r. g.idles start (h.idles start r);
  log = writes_both old.desk mid.desk new.desk h.log g.log;
}

pub goes_none : (site : SiteValue) (most : ℕ) (now : Scene) → DoesBetween site most [] now now
goes_none site most now = record {
  answers = [];
  adds = record { tells = with_none now.links.told; link = omega arith; idles = λ start r. r; log = writes_none now.desk };
  still = refl;
  does = λ past first own es st. (refl, apart_none own now.desk.lines now.desk.lines (λ log. StandsFor site past first (es ++ []) now.relaying log) refl (subst (λ (x : List Entry). StandsFor site past first x now.relaying own) (sym (append-nil es)) st));
}

cause_later : (why : Stop) (old mid new : Scene) (xs : List Entry) → AddsAnswers old mid xs → mid.links.faults ≡ old.links.faults → StopsBy why mid new → StopsBy why old new
cause_later stop.Idle old mid new xs h still c = c ∙ still
cause_later (stop.Cut reason) old mid new xs h still c = c ∙ still
cause_later stop.Link old mid new xs h still c = omega (arith, h.link, c)
cause_later stop.Write old mid new xs h still c = (c.0 ∙ still, omega (arith, h.log.keeps.later, c.1))

module _ {site : SiteValue} {most : ℕ} {ps qs : List Stage} {old mid new : Scene} (h : DoesBetween site most ps old mid) where
  pub goes_then : DoesBetween site most qs mid new → DoesBetween site most (ps ++ qs) old new
  goes_then g = record {
    answers = h.answers ++ g.answers;
    adds = adds_both old mid new h.answers g.answers h.adds g.adds;
    still = g.still ∙ h.still;
    does = λ past first own es st.
        let a = h.does past first own es st in
        let b = g.does past first (with_lines own a.1.more) (es ++ h.answers) a.1.stands in (
          does_then site past most ps qs es h.answers g.answers a.0 b.0,
          apart_more own old.desk.lines mid.desk.lines new.desk.lines _ a.1.more a.1.added (rw (append_assoc es h.answers g.answers) at b.1),
        );
  }

  pub goes_stops : {why : Stop} → StopsBetween site most qs why mid new → StopsBetween site most (ps ++ qs) why old new
  goes_stops {why = why} g = record {
    answers = h.answers ++ g.answers;
    adds = adds_both old mid new h.answers g.answers h.adds g.adds;
    cause = cause_later why old mid new h.answers h.adds h.still g.cause;
    does = λ past first own es st.
        let a = h.does past first own es st in
        let b = g.does past first (with_lines own a.1.more) (es ++ h.answers) a.1.stands in (
          does_broken site past most ps qs es h.answers g.answers a.0 b.0,
          apart_more own old.desk.lines mid.desk.lines new.desk.lines _ a.1.more a.1.added (rw (append_assoc es h.answers g.answers) at b.1),
        );
  }

pub stops_more : {site : SiteValue} {most : ℕ} {ps : List Stage} (qs : List Stage) {why : Stop} {old new : Scene} →
    StopsBetween site most ps why old new → StopsBetween site most (ps ++ qs) why old new
stops_more {site = site} {most = most} {ps = ps} qs h = record {
  answers = h.answers;
  adds = h.adds;
  cause = h.cause;
  does = λ past first own es st. let a = h.does past first own es st in (breaks_more site past most ps qs es h.answers a.0, a.1);
}

pub on_ok : {T : Type 0} (r : Result T Stop) (P Q : Type 0) → (P → Q) → OnOk r P → OnOk r Q
on_ok (Ok x) P Q f p = f p
on_ok (Err e) P Q f p = tt

pub all_ok : {T : Type 0} (r : Result T Stop) (P : Type 0) → P → OnOk r P
all_ok (Ok x) P p = p
all_ok (Err e) P p = tt

pub if_err : {T : Type 0} (r : Result T Stop) (P Q : Stop → Type 0) → ((e : Stop) → P e → Q e) → IfErr r P → IfErr r Q
if_err (Ok x) P Q f p = tt
if_err (Err e) P Q f p = f e p

-- ---- the count of faults of a pair

-- no call on the pair failed
pub no_fault : {T : Type 0} (before now : ℕ) (r : Result T Stop) (x : T) → r ≡ Ok x → FaultsBy before now (r ≡ Err stop.Link) → now ≡ before
no_fault before now r x was link = link.still (λ is. cc)

pub faults_of : {T : Type 0} (before now : ℕ) (r : Result T Stop) (why : Stop) → r ≡ Err why → FaultsBy before now (r ≡ Err stop.Link) → FaultsBy before now (why ≡ stop.Link)
faults_of before now r why was link = record {
  later = link.later;
  rose = λ is. link.rose (was ∙ ap Err is);
  still = λ never. link.still (λ is. never cc);
}

pub stop_cause : (why : Stop) (old new : Scene) → FaultsBy old.links.faults new.links.faults (why ≡ stop.Link) → (why ≡ stop.Write → Rose old.desk.faults new.desk.faults) → StopsBy why old new
stop_cause stop.Link old new link write = link.rose refl
stop_cause stop.Idle old new link write = link.still (λ is. cc)
stop_cause stop.Write old new link write = (link.still (λ is. cc), write refl)
stop_cause (stop.Cut reason) old new link write = link.still (λ is. cc)
