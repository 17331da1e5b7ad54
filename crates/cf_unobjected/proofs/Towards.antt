-- The segments to a controller: who they are from and for, and which have letters.
use Rattle.std.proofs.Common.{◌≡◌, ℕ, ◌+◌, ◌/◌, ◌%◌, ◌==◌, Bool, true, false, List, [], ◌∷◌, length, refl, sym, ◌∙◌, subst, if◌then◌else◌}
use Rattle.cf_unobjected.proofs.Common.{AllByRecursion, Flow, GoesTo, LegEvent, Stream, all_both, controller_ends, false≢true, greeted_by, packets_of, said_by, syn, true≢false}
use Rattle.cf_isolation.proofs.Writing.{Sends, sends_all}
use Rattle.cf_leg.specs.Emits.{AllRight, IsRight, rst, way_of}
use Rattle.cf_leg.specs.Segment.{segment}
use Rattle.cf_leg.specs.declared.ends.Advertised.{Advertised}

pub no_syn : (a b : Bool) → ((16 + (if a then 0 else 8) + (if b then 1 else 0)) / 2 % 2 == 1) ≡ false
no_syn true true = refl
no_syn false true = refl
no_syn _ _ = refl

some_ack : (a b : Bool) → ((16 + (if a then 0 else 8) + (if b then 1 else 0)) / 16 % 2 == 1) ≡ true
some_ack true true = refl
some_ack false true = refl
some_ack _ _ = refl

segment_goes : (f : Flow) (es : List LegEvent) (t : Advertised) (n : ℕ) (s : Stream) → GoesTo f (segment (way_of (controller_ends f) es) t n s)
segment_goes f es t n s = record {
  source = refl;
  dest = refl;
  greets = λ h. absurd (false≢true (sym (no_syn (length s.bytes == 0) s.ended) ∙ h));
  answers = λ h. absurd (true≢false (sym (some_ack (length s.bytes == 0) s.ended) ∙ h));
}

syn_goes : (f : Flow) → GoesTo f (syn (controller_ends f) f.syn.seq)
syn_goes f = record { source = refl; dest = refl; greets = λ h. refl; answers = λ h. refl }

reset_goes : (f : Flow) (number ack : ℕ) → GoesTo f (rst (controller_ends f) number ack 20)
reset_goes f number ack = record { source = refl; dest = refl; greets = λ h. absurd (false≢true h); answers = λ h. refl }

back_goes : (f : Flow) (number : ℕ) → GoesTo f (rst (controller_ends f) number 0 4)
back_goes f number = record { source = refl; dest = refl; greets = λ h. absurd (false≢true h); answers = λ h. refl }

pub sends_to : (f : Flow) (es : List LegEvent) (e : LegEvent) → AllRight (controller_ends f) es → IsRight (controller_ends f) es e → Sends (GoesTo f) e
sends_to f es e h r =
    sends_all (controller_ends f) (GoesTo f) (λ xs t n s short. segment_goes f xs t n s) (λ p g. subst (GoesTo f) (sym g) (syn_goes f))
    (λ number ack. reset_goes f number ack) (λ number. back_goes f number) es e h r

pub all_to : (f : Flow) (es : List LegEvent) → AllRight (controller_ends f) es → AllByRecursion (GoesTo f) (packets_of es)
all_to f [] h = tt
all_to f (e ∷ es) h =
    let s = sends_to f es e h.1 h.0 in
    all_both (GoesTo f) (packets_of es) _ (all_to f es h.1)
    (all_both (GoesTo f) e.fired _ s.fired (all_both (GoesTo f) (greeted_by e.came) (said_by e.ending) s.greeted s.said))
