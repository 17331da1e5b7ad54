-- Calls that the desk broke off.
use Rattle.std.proofs.Common.{◌≡◌, ℕ, Bool, true, false, List, [], ◌∷◌, ◌++◌, Option, Result, Ok, Err, refl, sym, ◌∙◌, ap, subst, append_assoc, inl, inr}
use Rattle.std.specs.Prelude.{OnErr}
use Rattle.std.proofs.lemmas.List.{append-nil}
use Rattle.cf_outside.specs.Desk.{Adds, DeskValue, SentValue}
use Rattle.cf_outside.specs.declared.files.WriteAnswer.TheVariants as write
use Rattle.cf_packet.specs.Packet.{PacketValue}
use Rattle.cf_leg.specs.Emitted.{AllOrFirst, BeginsNext, BreaksOff, GetsSegments, spelled, with_segment, with_segments}

-- what holds, holds on an error
pub on_err : {T E : Type 0} (r : Result T E) {P : Type 0} → P → OnErr r P
on_err (Ok x) h = tt
on_err (Err e) h = h

-- one segment
pub broken_one : (now : ℕ) (p : PacketValue) (old new : DeskValue)
    → Adds {A = SentValue} (record { moment = now; bytes = spelled p }) (old.octets (record { moment = now; bytes = spelled p })) old.packets new.packets new.packet_part write.Failed
    → BreaksOff now (p ∷ []) old new
broken_one now p old new (inl h) = record { gone = []; left = p ∷ []; all = refl; packets = h.0; part = h.1 }
broken_one now p old new (inr h) = record { gone = p ∷ []; left = []; all = refl; packets = h.0; part = h.1 }

-- after others that went out
joined : (told : Option (List SentValue)) (now : ℕ) (xs ys : List PacketValue) → with_segments (with_segments told now xs) now ys ≡ with_segments told now (xs ++ ys)
joined told now [] ys = refl
joined told now (x ∷ xs) ys = joined (with_segment told now x) now xs ys

broken_after : (now : ℕ) (firsts outs : List PacketValue) (old mid new : DeskValue) → mid.packets ≡ with_segments old.packets now firsts → mid.octets ≡ old.octets
    → BreaksOff now outs mid new → BreaksOff now (firsts ++ outs) old new
broken_after now firsts outs old mid new sent octets h = record {
  gone = firsts ++ h.gone;
  left = h.left;
  all = ap (λ (ps : List PacketValue). firsts ++ ps) h.all ∙ sym (append_assoc firsts h.gone h.left);
  packets = h.packets ∙ ap (λ (told : Option (List SentValue)). with_segments told now h.gone) sent ∙ joined old.packets now firsts h.gone;
  part = subst (λ (f : SentValue → List ℕ). BeginsNext f now h.left new.packet_part) octets h.part;
}

pub gets_after : (failed : Bool) (now : ℕ) (firsts outs : List PacketValue) (old mid new : DeskValue) → mid.packets ≡ with_segments old.packets now firsts → mid.octets ≡ old.octets
    → GetsSegments failed now outs mid new → GetsSegments failed now (firsts ++ outs) old new
gets_after false now firsts outs old mid new sent octets h = h ∙ ap (λ (told : Option (List SentValue)). with_segments told now outs) sent ∙ joined old.packets now firsts outs
gets_after true now firsts outs old mid new sent octets h = broken_after now firsts outs old mid new sent octets h

-- all are the first ones, with none after them
pub all_or_first : (failed : Bool) (MaySay : List PacketValue → Type 0) (outs : List PacketValue) → MaySay outs → AllOrFirst failed MaySay outs
all_or_first false MaySay outs h = h
all_or_first true MaySay outs h = ([], subst MaySay (sym (append-nil outs)) h)

-- and with others after them
nothing_next : (octets : SentValue → List ℕ) (now : ℕ) (more : List PacketValue) (part : List ℕ) → part ≡ [] → BeginsNext octets now more part
nothing_next octets now [] part h = h
nothing_next octets now (p ∷ ps) part h = (0, h)

pub broken_before : (now : ℕ) (outs more : List PacketValue) (old new : DeskValue) → BreaksOff now outs old new → BreaksOff now (outs ++ more) old new
broken_before now outs more old new h = record {
  gone = h.gone;
  left = h.left ++ more;
  all = ap (λ (ps : List PacketValue). ps ++ more) h.all ∙ append_assoc h.gone h.left more;
  packets = h.packets;
  part = by h.left h.part;
}
  where
    by : (left : List PacketValue) → BeginsNext old.octets now left new.packet_part → BeginsNext old.octets now (left ++ more) new.packet_part
    by [] k = nothing_next old.octets now more new.packet_part k
    by (p ∷ ps) k = k
