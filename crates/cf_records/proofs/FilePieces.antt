-- What was read at a place of a file, as far as it is told.
use Rattle.std.proofs.Common.{◌≡◌, ℕ, ◌+◌, ◌-◌, ◌≤◌, List, length, take, drop, slice_range, refl, ap, ◌∙◌, arith}
use Rattle.std.proofs.lemmas.List.{length-take, drop-take, take-take}
use Rattle.cf_outside.specs.Files.{Content, untold, absent, holds}
use Rattle.cf_outside.specs.Part.{IsFilled}
use Rattle.cf_records.specs.Capture.{Fits, at_place}
use Rattle.cf_records.specs.Pieces.{EndsAs, FindsPiece, IsPieceInside, PieceAs}
use Rattle.cf_records.specs.declared.form.Form.{Form}
use Rattle.cf_records.specs.declared.record_reader.NextRecord.{NextRecord}
use Rattle.cf_records.specs.declared.record_reader.NextRecord.TheVariants as next
use Rattle.cf_records.specs.declared.record_reader.Piece.{Piece}
use Rattle.cf_records.specs.declared.record_reader.Piece.TheVariants as piece

-- a part of the octets that stand at the front of a buffer
range_take : (have from to : ℕ) (buffer : List ℕ) → from ≤ to → to ≤ length (take have buffer) → slice_range (take have buffer) from to ≡ slice_range buffer from to
range_take have from to buffer a b =
    let inside : to ≤ have = omega (arith, b, length-take have buffer) in
    let is : have ≡ from + (have - from) = omega (arith, a, inside) in
    ap (λ n. take (to - from) (drop from (take n buffer))) is ∙ ap (take (to - from)) (drop-take from (have - from) buffer)
    ∙ take-take (to - from) (have - from) (drop from buffer) (omega (arith, a, inside))

-- a failed read
pub failed_piece : (file : Content) (f : Form) (place : ℕ) (buffer : List ℕ) → FindsPiece file f place f buffer (piece.Ends next.Failed)
failed_piece untold f place buffer = tt
failed_piece absent f place buffer = refl
failed_piece (holds all) f place buffer = refl

ends_piece : (all : List ℕ) (f g : Form) (place : ℕ) (buffer : List ℕ) (answer : NextRecord) → EndsAs answer (at_place f place (drop place all)) → g ≡ f →
    FindsPiece (holds all) f place g buffer (piece.Ends answer)
ends_piece all f g place buffer next.Failed h e = absurd h
ends_piece all f g place buffer (next.Whole stamp) h e = absurd h
ends_piece all f g place buffer answer h e = (h, e)

-- the first octets say that no record is there
pub err_piece : (file : Content) (f : Form) (place count : ℕ) (first buffer : List ℕ) (answer : NextRecord) → IsFilled file place count first →
    ((octets : List ℕ) → first ≡ take count octets → EndsAs answer (at_place f place octets)) → FindsPiece file f place f buffer (piece.Ends answer)
err_piece untold f place count first buffer answer filled says = tt
err_piece absent f place count first buffer answer filled says = absurd filled
err_piece (holds all) f place count first buffer answer filled says = ends_piece all f f place buffer answer (says (drop place all) filled) refl

widen : (all : List ℕ) (f g : Form) (place have : ℕ) (buffer : List ℕ) (found : Piece) → PieceAs f place (drop place all) g (take have buffer) found →
    IsPieceInside place (length (take have buffer)) found → FindsPiece (holds all) f place g buffer found
widen all f g place have buffer (piece.Record stamp link from to used) (h, e) (a, b, some, near) =
    (h ∙ ap (λ body. Fits (record { stamp = stamp; link = link; body = body }) used) (range_take have from to buffer a b), e)
widen all f g place have buffer (piece.Passed used) h inside = h
widen all f g place have buffer (piece.Ends answer) (h, e) inside = ends_piece all f g place buffer answer h e

-- all octets say what is there
pub whole_piece : (file : Content) (f g : Form) (place count size have : ℕ) (first buffer : List ℕ) (found : Piece) →
    IsFilled file place count first → IsFilled file place size (take have buffer) →
    ((octets : List ℕ) → first ≡ take count octets → take have buffer ≡ take size octets → PieceAs f place octets g (take have buffer) found) →
    IsPieceInside place (length (take have buffer)) found → FindsPiece file f place g buffer found
whole_piece untold f g place count size have first buffer found filled whole says inside = tt
whole_piece absent f g place count size have first buffer found filled whole says inside = absurd filled
whole_piece (holds all) f g place count size have first buffer found filled whole says inside =
    widen all f g place have buffer found (says (drop place all) filled whole) inside
