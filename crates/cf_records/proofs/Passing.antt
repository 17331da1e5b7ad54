-- Blocks that are passed over.
use Rattle.std.proofs.Common.{◌≡◌, ◌≢◌, ℕ, zero, suc, ◌+◌, List, drop, refl, sym, ap, ◌∙◌, subst}
use Rattle.cf_outside.specs.Files.{Content, untold, absent, holds}
use Rattle.cf_records.specs.Capture.{Passes, at_place, form_behind}
use Rattle.cf_records.specs.Pieces.{EndsAs, FindsBehind, FindsPiece}
use Rattle.cf_records.specs.Reader.{PassesSome, PassesTo}
use Rattle.cf_records.specs.declared.form.Form.{Form}
use Rattle.cf_records.specs.declared.record_reader.NextRecord.TheVariants as next
use Rattle.cf_records.specs.declared.record_reader.Piece.{Piece}
use Rattle.cf_records.specs.declared.record_reader.Piece.TheVariants as piece

-- one more
passes_on : (all : List ℕ) (count : ℕ) (old f g : Form) (from place used : ℕ) → PassesTo all count old from f place →
    at_place f place (drop place all) ≡ Passes used → g ≡ form_behind f (drop place all) → PassesTo all (suc count) old from g (place + used)
passes_on all zero old f g from place used (same, here) at behind = (
  used,
  subst (λ n. at_place old n (drop n all) ≡ Passes used) here (subst (λ x. at_place x place (drop place all) ≡ Passes used) same at),
  (behind ∙ ap (λ x. form_behind x (drop place all)) same ∙ ap (λ n. form_behind old (drop n all)) here, ap (λ n. n + used) here),
)
passes_on all (suc count) old f g from place used (taken, first, rest) at behind =
    (taken, first, passes_on all count (form_behind old (drop from all)) f g (from + taken) place used rest at behind)

pub passes_none : (file : Content) (f : Form) (place : ℕ) → PassesSome file f place f place
passes_none untold f place = tt
passes_none absent f place = tt
passes_none (holds all) f place = (0, (refl, refl))

pub passes_more : (file : Content) (old f g : Form) (from place used : ℕ) (buffer : List ℕ) → PassesSome file old from f place →
    FindsPiece file f place g buffer (piece.Passed used) → PassesSome file old from g (place + used)
passes_more untold old f g from place used buffer p h = tt
passes_more absent old f g from place used buffer p h = tt
passes_more (holds all) old f g from place used buffer (count, p) (at, behind) = (suc count, passes_on all count old f g from place used p at behind)

moved : (all : List ℕ) (count : ℕ) (old f g : Form) (from place : ℕ) → PassesTo all count old from f place → g ≡ f → PassesTo all count old from g place
moved all count old f g from place p e = subst (λ x. PassesTo all count old from x place) (sym e) p

-- and then what is none of them
pub behind_all : (file : Content) (old f g : Form) (from place : ℕ) (buffer : List ℕ) (found : Piece) → PassesSome file old from f place →
    FindsPiece file f place g buffer found → ((used : ℕ) → found ≢ piece.Passed used) → FindsBehind file old from g place buffer found
behind_all untold old f g from place buffer found p h n = tt
behind_all absent old f g from place buffer found p h n = h
behind_all (holds all) old f g from place buffer (piece.Passed used) p h n = absurd (n used refl)
behind_all (holds all) old f g from place buffer (piece.Record stamp link at end used) (count, p) (here, behind) n = (count, f, p, here, behind)
behind_all (holds all) old f g from place buffer (piece.Ends next.Failed) (count, p) h n = (count, moved all count old f g from place p h)
behind_all (holds all) old f g from place buffer (piece.Ends (next.Whole stamp)) (count, p) (h, e) n = absurd h
behind_all (holds all) old f g from place buffer (piece.Ends answer) (count, p) (h, e) n =
    (count, moved all count old f g from place p e, subst (λ x. EndsAs answer (at_place x place (drop place all))) (sym e) h)
