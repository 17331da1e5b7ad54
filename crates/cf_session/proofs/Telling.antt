-- What a desk tells after calls of legs, lane and session.
use Rattle.std.proofs.Common.{◌≡◌, ℕ, List, [], ◌∷◌, ◌++◌, map, Option, Some, None, refl, sym, ap, ◌∙◌, append_assoc}
use Rattle.std.proofs.lemmas.List.{append-nil, map-append}
use Rattle.cf_audit.specs.Line.{WhatValue}
use Rattle.cf_lane.specs.Log.{line_about}
use Rattle.cf_leg.specs.Emitted.{with_segment, with_segments, spelled}
use Rattle.cf_outside.specs.Desk.{DeskValue, SentValue}
use Rattle.cf_packet.specs.Packet.{PacketValue}
use Rattle.cf_policy.specs.Site.{SiteValue}
use Rattle.cf_view.specs.declared.Endpoint.{Endpoint}
use Rattle.cf_session.specs.Sent.{Sent, at, line}
use Rattle.cf_session.specs.Session.{Flow, client_of}
use Rattle.cf_session.specs.Told.{Told, emitted, told, with_both, with_more}

more-more : {A : Type 0} (t : Option (List A)) (a b : List A) → with_more (with_more t a) b ≡ with_more t (a ++ b)
more-more None a b = refl
more-more (Some xs) a b = ap Some (append_assoc xs a b)

pub more-none : {A : Type 0} (t : Option (List A)) → t ≡ with_more t []
more-none None = refl
more-none (Some xs) = ap Some (sym (append-nil xs))

pub both_both : (t : Told) (a b : List Sent) (x y : List (List ℕ)) → with_both (with_both t a x) b y ≡ with_both t (a ++ b) (x ++ y)
both_both t a b x y = rw (more-more t.packets (map emitted a) (map emitted b), more-more t.lines x y, map-append emitted a b) refl

pub both_nothing : (t : Told) → with_both t [] [] ≡ t
both_nothing t = rw (← more-none t.packets, ← more-none t.lines) refl

pub at-append : (now : ℕ) (ps qs : List PacketValue) → at now (ps ++ qs) ≡ at now ps ++ at now qs
at-append now ps qs = map-append (λ p. let s : Sent = record { moment = now; packet = p } in s) ps qs

segments-more : (t : Option (List SentValue)) (now : ℕ) (ps : List PacketValue) → with_segments t now ps ≡ with_more t (map emitted (at now ps))
segments-more None now [] = refl
segments-more (Some xs) now [] = ap Some (sym (append-nil xs))
segments-more None now (p ∷ ps) = segments-more None now ps
segments-more (Some xs) now (p ∷ ps) =
    segments-more (with_segment (Some xs) now p) now ps ∙ ap Some (append_assoc xs (record { moment = now; bytes = spelled p } ∷ []) (map emitted (at now ps)))

-- segments were sent, and no line was put
pub told_by : (t0 t1 : Told) (now : ℕ) (ps : List PacketValue) → t1.packets ≡ with_segments t0.packets now ps → t1.lines ≡ t0.lines → t1 ≡ with_both t0 (at now ps) []
told_by t0 t1 now ps e d =
    ap (λ x. let r : Told = record { packets = x; lines = t1.lines } in r) (e ∙ segments-more t0.packets now ps)
    ∙ ap (λ x. let r : Told = record { packets = with_more t0.packets (map emitted (at now ps)); lines = x } in r) (d ∙ more-none t0.lines)

pub told_sent : (a b : DeskValue) (now : ℕ) (ps : List PacketValue) → b.packets ≡ with_segments a.packets now ps → b.lines ≡ a.lines → told b ≡ with_both (told a) (at now ps) []
told_sent a b now ps e d = told_by (told a) (told b) now ps e d

-- a call that put lines, and sent no segment
pub told_lines : (a b : DeskValue) (ls : List (List ℕ)) → b.packets ≡ a.packets → b.lines ≡ with_more a.lines ls → told b ≡ with_both (told a) [] ls
told_lines a b ls e d =
    ap (λ x. let r : Told = record { packets = x; lines = b.lines } in r) (e ∙ more-none a.packets)
    ∙ ap (λ x. let r : Told = record { packets = with_more a.packets []; lines = x } in r) d

-- a line about the client of a site, which are those of a flow
pub line_is : {site : SiteValue} {client : Endpoint} {now moment : ℕ} (f : Flow) (what : WhatValue) → f.site ≡ site → client ≡ client_of f → now ≡ moment → line_about site.first client now what ≡ line f moment what
line_is f what is source at = rw (source, is, at) refl

-- one call after another
pub then_told : (t0 t1 t2 : Told) (a b : List Sent) (x y : List (List ℕ)) → t1 ≡ with_both t0 a x → t2 ≡ with_both t1 b y → t2 ≡ with_both t0 (a ++ b) (x ++ y)
then_told t0 t1 t2 a b x y e d = d ∙ ap (λ t. with_both t b y) e ∙ both_both t0 a b x y

-- two calls that sent at one moment
pub then_sent : (t0 t1 t2 : Told) (now : ℕ) (ps qs : List PacketValue) → t1 ≡ with_both t0 (at now ps) [] → t2 ≡ with_both t1 (at now qs) [] → t2 ≡ with_both t0 (at now (ps ++ qs)) []
then_sent t0 t1 t2 now ps qs e d = then_told t0 t1 t2 (at now ps) (at now qs) [] [] e d ∙ ap (λ xs. with_both t0 xs []) (sym (at-append now ps qs))
