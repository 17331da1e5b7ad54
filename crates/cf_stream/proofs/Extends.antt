-- Streams that go on.
use Rattle.std.proofs.Common.{◌≡◌, ℕ, false, List, [], ◌++◌, refl, sym, ◌∙◌, ap}
use Rattle.std.proofs.lemmas.List.{append-nil, append_assoc}
use Rattle.std.proofs.lemmas.Bool.{false≢true}
use Rattle.cf_stream.specs.Stream.{Stream, Extends, with_bytes, with_end}

pub extends_none : (s : Stream) → Extends s s
extends_none s = record { more = []; bytes = sym (append-nil s.bytes); ended = λ _. refl }

pub extends_both : (s t u : Stream) → Extends s t → Extends t u → Extends s u
extends_both s t u h g = record {
  more = h.more ++ g.more;
  bytes = g.bytes ∙ ap (λ (xs : List ℕ). xs ++ g.more) h.bytes ∙ append_assoc s.bytes h.more g.more;
  ended = λ e. (let same = h.ended e in g.ended (ap (λ (x : Stream). x.ended) same ∙ e) ∙ same);
}

pub extends_bytes : (s : Stream) (more : List ℕ) → s.ended ≡ false → Extends s (with_bytes s more)
extends_bytes s more o = record { more = more; bytes = refl; ended = λ e. absurd (false≢true (sym o ∙ e)) }

pub extends_end : (s : Stream) → s.ended ≡ false → Extends s (with_end s)
extends_end s o = record { more = []; bytes = sym (append-nil s.bytes); ended = λ e. absurd (false≢true (sym o ∙ e)) }
