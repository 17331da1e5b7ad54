-- A session sends its SYN first.
use Rattle.std.proofs.Common.{◌≡◌, ℕ, false, List, [], ◌∷◌, ◌++◌, map, refl, sym, ap, ◌∙◌, subst}
use Rattle.cf_unobjected.proofs.Common.{AllByRecursion, AreEvents, Flow, GoesTo, LegEvent, Numbered, PacketValue, SessionEvent, SynsFirst, controller_ends, controllers, legs_right, packets_of, sent_in, syn}
use Rattle.cf_unobjected.specs.PairFlows.{SpeaksAs}
use Rattle.cf_unobjected.proofs.Order.{syns_first}
use Rattle.cf_unobjected.proofs.Towards.{all_to}

abbrev BeginsBy : Flow → List PacketValue → Type 0
BeginsBy f ps = (rest : List PacketValue) × (ps ≡ syn (controller_ends f) f.syn.seq ∷ rest)

begins_by : (f : Flow) (limit : ℕ) (e : SessionEvent) (es : List SessionEvent) → AreEvents f limit (e ∷ es) → BeginsBy f (packets_of (controllers (e ∷ es)))
begins_by f limit e [] h = ([], ap (λ (l : LegEvent). l.fired ++ sent_in l) h.0.controller)
begins_by f limit e (d ∷ es) h =
    let x = begins_by f limit d es h.1 in
    let more = e.controller.fired ++ sent_in e.controller in
    (x.0 ++ more, ap (λ (ps : List PacketValue). ps ++ more) x.1)

all_heard : (P : PacketValue → Type 0) (ns : List Numbered) → AllByRecursion P (map (λ n. n.packet) ns) → AllByRecursion (λ n. P n.packet) ns
all_heard P [] h = tt
all_heard P (n ∷ ns) h = (h.0, all_heard P ns h.1)

speaks_by : (f : Flow) (es : List SessionEvent) (ps : List PacketValue) (heard : List Numbered) → map (λ n. n.packet) heard ≡ ps → BeginsBy f ps → AllByRecursion (GoesTo f) ps → SynsFirst false ps → SpeaksAs f heard
speaks_by f es ps [] e b g o = cc (e ∙ b.1)
speaks_by f es ps (n ∷ ns) e b g o = record {
  session = record { flow = f; first = n; rest = ns };
  is_of = refl;
  is_heard = refl;
  is_spoken = record {
    greets = cc (e ∙ b.1);
    goes = all_heard (GoesTo f) (n ∷ ns) (subst (AllByRecursion (GoesTo f)) (sym e) g);
    order = subst (SynsFirst false) (sym e) o;
  };
}

-- the packets of a flow with whatever numbers of records
pub speaks : (f : Flow) (limit : ℕ) (e : SessionEvent) (es : List SessionEvent) (heard : List Numbered) → AreEvents f limit (e ∷ es) →
    map (λ n. n.packet) heard ≡ packets_of (controllers (e ∷ es)) → SpeaksAs f heard
speaks f limit e es heard are is =
    speaks_by f (e ∷ es) (packets_of (controllers (e ∷ es))) heard is (begins_by f limit e es are) (all_to f (controllers (e ∷ es)) (legs_right f limit (e ∷ es) are).controller)
    (syns_first f limit (e ∷ es) are)
