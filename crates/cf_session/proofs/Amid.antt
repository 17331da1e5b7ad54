-- A desk that failed amid packets and lines.
use Rattle.std.proofs.Common.{◌≡◌, ℕ, Bool, true, false, List, [], ◌∷◌, ◌++◌, length, refl, sym, ap, ◌∙◌, subst, append_assoc, arith, inl, inr, Result, Ok, Err}
use Rattle.std.specs.Prelude.{OnErr}
use Rattle.std.specs.List.{concat}
use Rattle.std.proofs.Math.Seq.{take-append_seam}
use Rattle.std.proofs.lemmas.Bool.{cases_lt}
use Rattle.std.proofs.lemmas.Grind.{flat_map-append}
use Rattle.std.proofs.lemmas.List.{append-nil, take-append-le, take_all}
use Rattle.std.proofs.lemmas.List.Concat.{flat_map-cons}
use Rattle.std.proofs.lemmas.List.Folds.{concat-append}
use Rattle.cf_lane.specs.Handled.{MayHaveAdded}
use Rattle.cf_leg.specs.Emitted.{BeginsNext, BreaksOff, GetsSegments, spelled}
use Rattle.cf_outside.specs.Desk.{DeskValue, SentValue}
use Rattle.cf_outside.specs.Frames.{EmitsAndLogs, OnlyEmits, OnlyLogs}
use Rattle.cf_packet.specs.Packet.{PacketValue}
use Rattle.cf_session.proofs.Telling.{at-append, more-none, then_told, told_lines, told_sent}
use Rattle.cf_session.specs.Broken.{BreaksAmid, Gets, IsPartOf, octets_of}
use Rattle.cf_session.specs.Sent.{Sent, at}
use Rattle.cf_session.specs.Told.{emitted, told, with_both, with_more}

-- what holds, holds on an error
pub on_err : {T E : Type 0} (r : Result T E) {P : Type 0} → P → OnErr r P
on_err (Ok x) h = tt
on_err (Err e) h = h

-- ---- what stands after the last whole packet or line

-- a beginning of octets is one of more octets
pub part_longer : (next more was now : List ℕ) → IsPartOf next was now → IsPartOf (next ++ more) was now
part_longer next more was now (inl same) = inl same
part_longer next more was now (inr (some, is)) =
    elim (cases_lt some (length next)) [
      | inl below ↦ inr (some, is ∙ sym (take-append-le some next more (omega (arith, below))))
      | inr past ↦ inr (length next, is ∙ take_all some next past ∙ sym (take-append_seam next more))
    ]

octets-append : (octets : SentValue → List ℕ) (a b : List Sent) → octets_of octets (a ++ b) ≡ octets_of octets a ++ octets_of octets b
octets-append octets a b = flat_map-append (λ (s : Sent). octets (emitted s)) a b

-- ---- amid packets and lines, and others after and before them

pub amid_before : (a b : List Sent) (x y : List (List ℕ)) (old new : DeskValue) → BreaksAmid a x old new → BreaksAmid (a ++ b) (x ++ y) old new
amid_before a b x y old new h = record {
  gone = h.gone;
  left = h.left ++ b;
  are_sent = ap (λ (s : List Sent). s ++ b) h.are_sent ∙ append_assoc h.gone h.left b;
  put = h.put;
  missing = h.missing ++ y;
  are_lines = ap (λ (l : List (List ℕ)). l ++ y) h.are_lines ∙ append_assoc h.put h.missing y;
  is_told = h.is_told;
  packet_part = subst (λ (xs : List ℕ). IsPartOf xs old.packet_part new.packet_part) (sym (octets-append old.octets h.left b))
      (part_longer (octets_of old.octets h.left) (octets_of old.octets b) old.packet_part new.packet_part h.packet_part);
  line_part = subst (λ (xs : List ℕ). IsPartOf xs old.line_part new.line_part) (sym (concat-append h.missing y))
      (part_longer (concat h.missing) (concat y) old.line_part new.line_part h.line_part);
}

pub amid_after : (a b : List Sent) (x y : List (List ℕ)) (old mid new : DeskValue) → told mid ≡ with_both (told old) a x → EmitsAndLogs old mid false →
    BreaksAmid b y mid new → BreaksAmid (a ++ b) (x ++ y) old new
amid_after a b x y old mid new first frame h = record {
  gone = a ++ h.gone;
  left = h.left;
  are_sent = ap (λ (s : List Sent). a ++ s) h.are_sent ∙ sym (append_assoc a h.gone h.left);
  put = x ++ h.put;
  missing = h.missing;
  are_lines = ap (λ (l : List (List ℕ)). x ++ l) h.are_lines ∙ sym (append_assoc x h.put h.missing);
  is_told = then_told (told old) (told mid) (told new) a h.gone x h.put first h.is_told;
  packet_part = subst (λ (f : SentValue → List ℕ). IsPartOf (octets_of f h.left) old.packet_part new.packet_part) frame.keeps.octets
      (subst (λ (was : List ℕ). IsPartOf (octets_of mid.octets h.left) was new.packet_part) (frame.packet_part refl) h.packet_part);
  line_part = subst (λ (was : List ℕ). IsPartOf (concat h.missing) was new.line_part) (frame.line_part refl) h.line_part;
}

pub amid_as : (a b : List Sent) (x y : List (List ℕ)) (old new : DeskValue) → a ≡ b → x ≡ y → BreaksAmid a x old new → BreaksAmid b y old new
amid_as a b x y old new s l h = subst (λ (v : List Sent). BreaksAmid v y old new) s (subst (λ (m : List (List ℕ)). BreaksAmid a m old new) l h)

-- ---- one call

next_part : (octets : SentValue → List ℕ) (now : ℕ) (left : List PacketValue) (part was : List ℕ) → BeginsNext octets now left part → IsPartOf (octets_of octets (at now left)) was part
next_part octets now [] part was none = inr (0, none)
next_part octets now (p ∷ ps) part was (some, is) =
    let one : Sent = record { moment = now; packet = p } in
    subst (λ (xs : List ℕ). IsPartOf xs was part) (sym (flat_map-cons (λ (s : Sent). octets (emitted s)) one (at now ps)))
    (part_longer (octets (record { moment = now; bytes = spelled p })) (octets_of octets (at now ps)) was part (inr (some, is)))

-- amid segments
pub amid_sent : {failed : Bool} (now : ℕ) (outs : List PacketValue) (old new : DeskValue) → BreaksOff now outs old new → OnlyEmits old new failed → BreaksAmid (at now outs) [] old new
amid_sent now outs old new h frame = record {
  gone = at now h.gone;
  left = at now h.left;
  are_sent = ap (at now) h.all ∙ at-append now h.gone h.left;
  put = [];
  missing = [];
  are_lines = refl;
  is_told = told_sent old new now h.gone h.packets frame.lines;
  packet_part = next_part old.octets now h.left new.packet_part old.packet_part h.part;
  line_part = inl frame.line_part;
}

-- amid lines, of which some were put whole
pub amid_put : {lines : List (List ℕ)} (put missing : List (List ℕ)) (old new : DeskValue) → lines ≡ put ++ missing → new.packets ≡ old.packets → new.packet_part ≡ old.packet_part → new.lines ≡ with_more old.lines put →
    IsPartOf (concat missing) old.line_part new.line_part → BreaksAmid [] lines old new
amid_put put missing old new are packets part added next = record {
  gone = [];
  left = [];
  are_sent = refl;
  put = put;
  missing = missing;
  are_lines = are;
  is_told = told_lines old new put packets added;
  packet_part = inl part;
  line_part = next;
}

pub amid_lines : {failed : Bool} (lines : List (List ℕ)) (old new : DeskValue) → MayHaveAdded lines old new → OnlyLogs old new failed → BreaksAmid [] lines old new
amid_lines lines old new (inl (same, part)) frame = amid_put [] lines old new refl frame.packets frame.packet_part (same ∙ more-none old.lines) (inr part)
amid_lines lines old new (inr (added, none)) frame = amid_put lines [] old new (sym (append-nil lines)) frame.packets frame.packet_part added (inr (0, none))

-- and they leave none of the packets that went before them
pub lines_leave_none : {failed : Bool} (a : List Sent) (x lines : List (List ℕ)) (old mid new : DeskValue) (first : told mid ≡ with_both (told old) a x) (frame : EmitsAndLogs old mid false)
    (h : MayHaveAdded lines mid new) (logs : OnlyLogs mid new failed) → (amid_after a [] x lines old mid new first frame (amid_lines lines mid new h logs)).left ≡ []
unfolding amid_after amid_lines amid_put
lines_leave_none a x lines old mid new first frame (inl h) logs = refl
lines_leave_none a x lines old mid new first frame (inr h) logs = refl

-- ---- as much of packets and lines as the desk got

pub gets_sent : (failed : Bool) (now : ℕ) (outs : List PacketValue) (old new : DeskValue) → GetsSegments failed now outs old new → OnlyEmits old new failed → Gets failed (at now outs) [] old new
gets_sent false now outs old new h frame = told_sent old new now outs h frame.lines
gets_sent true now outs old new h frame = amid_sent now outs old new h frame

pub gets_after : (failed : Bool) (a b : List Sent) (x y : List (List ℕ)) (old mid new : DeskValue) → Gets false a x old mid → EmitsAndLogs old mid false → Gets failed b y mid new → Gets failed (a ++ b) (x ++ y) old new
gets_after false a b x y old mid new first frame h = then_told (told old) (told mid) (told new) a b x y first h
gets_after true a b x y old mid new first frame h = amid_after a b x y old mid new first frame h
