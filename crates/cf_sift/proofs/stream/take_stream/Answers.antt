use Rattle.std.proofs.Common.{◌≡◌, ◌+◌, ◌<◌, ℕ, List, [], ◌++◌, ◌∷◌, Option, None, length, take, refl, sym, ap, ◌∙◌, subst, arith}
use Rattle.std.proofs.lemmas.List.{length-take-le}
use Rattle.cf_audit.specs.declared.line.CutReason.{CutReason}
use Rattle.cf_lane.specs.History.{Element, bytes_at, end_at}
use Rattle.cf_lane.specs.Laws.{HasOneJudgement}
use Rattle.cf_outside.proofs.Frames.{cause_on, cause_still}
use Rattle.cf_outside.proofs.Pieces.{none_read}
use Rattle.cf_outside.specs.Files.{Content}
use Rattle.cf_outside.specs.Part.{IsFilled}
use Rattle.cf_policy.specs.Site.{SiteValue}
use Rattle.cf_view.specs.declared.Endpoint.{Endpoint}
use Rattle.cf_view.specs.declared.Side.TheVariants as side
use Rattle.cf_sift.specs.Names.{SiftNamesValue, sift_names_value}
use Rattle.cf_sift.specs.Sifting.{IsSiftingAfter, IsSiftingOf, TakesElement}
use Rattle.cf_sift.specs.Taken.{IsTakenTo}
use Rattle.cf_sift.specs.declared.sifting.Sifting.{Sifting}
use Rattle.cf_sift.proofs.Streams.{ComesNext, ends, filled_at, goes_on, last_next, none_next, piece_next, read_stops, starts, stops}
use Rattle.cf_sift.proofs.stream.take_stream.Given.{Over}
use Rattle.cf_sift.proofs.stream.take_stream.Goals as goal
use Rattle.cf_sift.proofs.stream.take_stream.Goals.{In-Some}

-- a piece was read
module _ (g : Over) (c : In-Some g) (client : Endpoint) (first : List ℕ → Content)
    (sifting : IsSiftingOf c.args.site.now client (sift_names_value c.args.names.now) first (g.F.Files.content c.args.files.now) [] None c.args.sifting.now) where
  abbrev site : SiteValue
  site = c.args.site.now

  abbrev names : SiftNamesValue
  names = sift_names_value c.args.names.now

  abbrev old : List ℕ → Content
  old = g.F.Files.content c.args.files.now

  abbrev now : List ℕ → Content
  now = g.F.Files.content c.fill.new.files

  abbrev one : HasOneJudgement
  one = c.has_one_judgement.ensures

  abbrev piece : List ℕ
  piece = take c.in-Some.count c.fill.new.buffer

  -- what was taken before it
  t : IsTakenTo site client names first old now c.pieces.at c.pieces.sifting
  t = subst (λ f. IsTakenTo site client names first old f c.pieces.at c.pieces.sifting) (sym c.fill.ensures.reads.same) (c.pieces.invariant.taken client first sifting)

  size : length piece ≡ c.in-Some.count
  size = length-take-le c.in-Some.count c.fill.new.buffer (omega (arith, c.in-Some.ensures.inside, c.fill.ensures.length, c.pieces.invariant.piece))

  filled : IsFilled (old names.stream) (length t.bytes) 4096 piece
  filled = filled_at (old names.stream) (g.F.Files.content c.pieces.files names.stream) c.pieces.at (length t.bytes) 4096 piece
      (c.pieces.invariant.others names.stream (c.requires.apart.stream_out, (c.requires.apart.stream_replies, (c.requires.apart.stream_log, tt)))) t.size refl c.in-Some.ensures.filled

  none_is_next : c.in-Some.count ≡ 0 → ComesNext site client names first old now c.pieces.sifting (end_at 0 side.Client) []
  none_is_next none = none_next site client names first one old now c.pieces.at c.pieces.sifting t piece filled (omega (arith, size, none))

  piece_is_next : 0 < c.in-Some.count → (later : List Element) × ComesNext site client names first old now c.pieces.sifting (bytes_at 0 side.Client piece) later
  piece_is_next some = piece_next site client names first one old now c.pieces.at c.pieces.sifting t piece filled (omega (arith, size, some))
      (omega (arith, size, c.in-Some.ensures.inside, c.fill.ensures.length, c.pieces.invariant.piece))

  -- nothing cuts after it
  module _ (new : List ℕ → Content) (last : Sifting) (cut : Option CutReason) (is : cut ≡ None)
      (taken : TakesElement site names (bytes_at 0 side.Client piece) c.pieces.sifting last now new cut) where
    after : IsSiftingAfter site client names first new (t.history ++ bytes_at 0 side.Client piece ∷ []) None last
    after = subst (λ k. IsSiftingAfter site client names first new (t.history ++ bytes_at 0 side.Client piece ∷ []) k last) is (taken client first t.history t.sifting_of)

    piece_is_taken : c.in-Some.count ≡ 4096 → IsTakenTo site client names first old new (c.pieces.at + c.in-Some.count) last
    piece_is_taken full = subst (λ n. IsTakenTo site client names first old new (c.pieces.at + n) last) size
        (goes_on site client names first one old now c.pieces.at c.pieces.sifting t piece filled new last after (omega (arith, size, full)))

    end_is_next : 0 < c.in-Some.count → c.in-Some.count < 4096 → ComesNext site client names first old new last (end_at 0 side.Client) []
    end_is_next some less = last_next site client names first one old now c.pieces.at c.pieces.sifting t piece filled new last after
        (omega (arith, size, some)) (omega (arith, size, less))

pub pieces-init : goal.pieces-init
pieces-init g c = record {
  taken = λ client first sifting. starts c.args.site.now client (sift_names_value c.args.names.now) first c.has_one_judgement.ensures (g.F.Files.content c.args.files.now)
      c.args.sifting.now c.requires.ready sifting;
  ready = c.requires.ready;
  letters = c.requires.fresh;
  whole = c.requires.whole;
  others = λ other none. refl;
  piece = c.requires.piece;
  buffer = c.requires.buffer;
  reads = omega arith;
  writes = omega arith;
}

pub fill-requires-clause-begun : goal.fill-requires-clause-begun
fill-requires-clause-begun g c = none_read (g.F.Files.content c.pieces.files c.args.names.now.stream.now) c.pieces.at

pub returns-in_default-clause-read : goal.returns-in_default-clause-read
returns-in_default-clause-read g c = λ is client first sifting.
    let content = g.F.Files.content in
    let names = sift_names_value c.args.names.now in
    let site = c.args.site.now in
    let old = content c.args.files.now in
    let now = content c.fill.new.files in
    let inv = c.pieces.invariant in
    let t = subst (λ f. IsTakenTo site client names first old f c.pieces.at c.pieces.sifting) (sym c.fill.ensures.reads.same) (inv.taken client first sifting) in
    read_stops site client names first c.has_one_judgement.ensures old now c.pieces.at c.pieces.sifting t

pub returns-in_err-take_end-clause-write : goal.returns-in_err-take_end-clause-write
returns-in_err-take_end-clause-write g c = λ is client first sifting.
    let next = none_is_next g (goal.at.returns-in_err-take_end-clause-write g c).In-Some client first sifting (omega (arith, c.if-count-eq0.true)) in
    stops next _ c.in_err-take_end.ensures.fails

pub returns-then-count-eq0-clause-taken : goal.returns-then-count-eq0-clause-taken
returns-then-count-eq0-clause-taken g c = λ client first sifting.
    let next = none_is_next g (goal.at.returns-then-count-eq0-clause-taken g c).In-Some client first sifting (omega (arith, c.if-count-eq0.true)) in
    ends next c.has_one_judgement.ensures _ _ _ (λ e. refl) c.in_ok-take_end.ensures.taken

pub returns-in_err-reason-clause-write : goal.returns-in_err-reason-clause-write
returns-in_err-reason-clause-write g c = λ is client first sifting.
    let next = piece_is_next g (goal.at.returns-in_err-reason-clause-write g c).In-Some client first sifting (omega (arith, c.if-count-eq0.false)) in
    stops next.1 _ c.in_err-reason.ensures.fails

pub returns-in-Some-2-clause-taken : goal.returns-in-Some-2-clause-taken
returns-in-Some-2-clause-taken g c = λ client first sifting.
    let next = piece_is_next g (goal.at.returns-in-Some-2-clause-taken g c).In-Some client first sifting (omega (arith, c.if-count-eq0.false)) in
    ends next.1 c.has_one_judgement.ensures _ _ _ (λ e. cc) (rw c.in-Some-2.is at c.in_ok-reason.ensures.taken)

pub returns-in_err-take_end-2-clause-write : goal.returns-in_err-take_end-2-clause-write
returns-in_err-take_end-2-clause-write g c = λ is client first sifting.
    let next = end_is_next g (goal.at.returns-in_err-take_end-2-clause-write g c).In-Some client first sifting (g.F.Files.content c.take_piece.new.files)
    c.take_piece.new.sifting _ c.in_default-2.is c.in_ok-reason.ensures.taken (omega (arith, c.if-count-eq0.false)) c.if-count-lt-PIECE.true in
    stops next _ c.in_err-take_end-2.ensures.fails

pub returns-then-count-lt-PIECE-clause-taken : goal.returns-then-count-lt-PIECE-clause-taken
returns-then-count-lt-PIECE-clause-taken g c = λ client first sifting.
    let next = end_is_next g (goal.at.returns-then-count-lt-PIECE-clause-taken g c).In-Some client first sifting (g.F.Files.content c.take_piece.new.files)
    c.take_piece.new.sifting _ c.in_default-2.is c.in_ok-reason.ensures.taken (omega (arith, c.if-count-eq0.false)) c.if-count-lt-PIECE.true in
    ends next c.has_one_judgement.ensures _ _ _ (λ e. refl) c.in_ok-take_end-2.ensures.taken

pub pieces-preserved : goal.pieces-preserved
pieces-preserved g c =
    let inv = c.pieces.invariant in
    let f = c.in_ok-reason.ensures in
    let read = (goal.at.pieces-preserved g c).In-Some in
    let count : length (take c.in-Some.count c.fill.new.buffer) ≡ c.in-Some.count = length-take-le c.in-Some.count c.fill.new.buffer (omega (arith, c.in-Some.ensures.inside, c.fill.ensures.length, inv.piece)) in
    record {
      taken = λ client first sifting.
          piece_is_taken g read client first sifting (g.F.Files.content c.take_piece.new.files) c.take_piece.new.sifting _ c.in_default-2.is f.taken
          (omega (arith, c.if-count-lt-PIECE.false, c.in-Some.ensures.inside, c.fill.ensures.length, inv.piece));
      ready = f.ready c.in_default-2.is;
      letters = f.letters ∙ ap (λ n. n + length (take c.in-Some.count c.fill.new.buffer)) inv.letters ∙ ap (λ n. c.pieces.at + n) count;
      whole = f.whole;
      others = λ other none. f.writes.others other none ∙ ap (λ (k : List ℕ → Content). k other) c.fill.ensures.reads.same ∙ inv.others other none;
      piece = c.fill.ensures.length ∙ inv.piece;
      buffer = f.buffer;
      reads = cause_on inv.reads (cause_on c.fill.ensures.reads.cause (cause_still c.args.names.now.stream.now f.writes.reads (λ never. never)) (λ never. never)) (λ never. never);
      writes = omega (arith, inv.writes, c.fill.ensures.reads.writes, f.writes.cause.later);
    }
