use Rattle.std.proofs.Common.{ℕ, List, subst, sym, refl, ◌≡◌, ◌+◌, ◌-◌, ◌≤◌, length, take, drop, ◌∙◌, arith}
use Rattle.std.proofs.lemmas.List.{length-take, length-take-le, length-drop}
use Rattle.std.proofs.lemmas.Slice.{drop-put_mid, take-put_mid_below}
use Rattle.cf_outside.specs.Files.{Content, HasAt, IsAtEnd}
use Rattle.cf_outside.proofs.Frames.{cause_on}
use Rattle.cf_outside.specs.Part.{IsFilled}
use Rattle.cf_outside.proofs.Pieces.{filled_end, filled_length, filled_piece}
use Rattle.cf_outside.proofs.part.fill.Goals as goal

pub pieces-preserved : goal.pieces-preserved
pieces-preserved g c =
    let content = g.F.Files.content in
    let inv = c.pieces.invariant in
    let inside : c.pieces.have ≤ length c.pieces.buffer = omega (arith, inv.inside, inv.length, c.requires.room) in
    let (some, short, here) = c.in-Got.ensures.bytes in
    let part : length c.read_at.new.buf ≡ c.args.size - c.pieces.have =
    omega (arith, c.read_at.auto.buf, length-take (c.args.size - c.pieces.have) (drop c.pieces.have c.pieces.buffer), length-drop c.pieces.have c.pieces.buffer, inv.length, c.requires.room, inv.inside) in
    let read : HasAt (content c.args.files.now c.args.name.now) (c.args.place + c.pieces.have) (take c.in-Got.n c.read_at.new.buf) =
    subst (λ (f : List ℕ → Content). HasAt (f c.args.name.now) (c.args.place + c.pieces.have) (take c.in-Got.n c.read_at.new.buf)) inv.same here in
    record {
      some = omega (arith, inv.some);
      inside = omega (arith, part, short, c.pieces-test.true);
      length = filled_length c.pieces.have (c.args.size - c.pieces.have) c.pieces.buffer c.read_at.new.buf (omega (arith, c.pieces-test.true, inv.length, c.requires.room)) part ∙ inv.length;
      front = take-put_mid_below c.pieces.have (c.args.size - c.pieces.have) c.pieces.buffer c.read_at.new.buf c.args.before inv.some inside ∙ inv.front;
      behind = drop-put_mid c.pieces.have (c.args.size - c.pieces.have) c.pieces.buffer c.read_at.new.buf c.args.size (omega (arith, c.pieces-test.true)) inside part ∙ inv.behind;
      there = filled_piece (content c.args.files.now c.args.name.now) c.args.place c.pieces.have (c.args.size - c.pieces.have) c.in-Got.n
          c.pieces.buffer c.read_at.new.buf inside short inv.there read;
      same = c.in-Got.ensures.same ∙ inv.same;
      reads = cause_on inv.reads c.in-Got.ensures.cause (λ failed. absurd failed);
      writes = c.in-Got.ensures.writes ∙ inv.writes;
    }

pub returns-in-End : goal.returns-in-End
returns-in-End g c =
    let content = g.F.Files.content in
    let inv = c.pieces.invariant in
    let have = c.pieces.have in
    let count = c.args.size - have in
    let inside : have ≤ length c.pieces.buffer = omega (arith, inv.inside, inv.length, c.requires.room) in
    let part : length c.read_at.new.buf ≡ count =
    omega (arith, c.read_at.auto.buf, length-take count (drop have c.pieces.buffer), length-drop have c.pieces.buffer, inv.length, c.requires.room, inv.inside) in
    let file = content c.args.files.now c.args.name.now in
    let ends : IsAtEnd file (c.args.place + have) =
    subst (λ (f : List ℕ → Content). IsAtEnd (f c.args.name.now) (c.args.place + have)) inv.same c.in-End.ensures.bytes in
    let kept = take-put_mid_below have count c.pieces.buffer c.read_at.new.buf have (omega arith) inside in
    record {
      inside = inv.inside;
      filled = subst (IsFilled file c.args.place c.args.size) (sym kept)
          (filled_end file c.args.place c.args.size have (take have c.pieces.buffer) (length-take-le have c.pieces.buffer inside) inv.inside inv.there ends);
      front = take-put_mid_below have count c.pieces.buffer c.read_at.new.buf c.args.before inv.some inside ∙ inv.front;
      behind = drop-put_mid have count c.pieces.buffer c.read_at.new.buf c.args.size (omega (arith, c.pieces-test.true)) inside part ∙ inv.behind;
      some = inv.some;
      length = filled_length have count c.pieces.buffer c.read_at.new.buf (omega (arith, c.pieces-test.true, inv.length, c.requires.room)) part ∙ inv.length;
      reads = record {
        same = c.in-End.ensures.same ∙ inv.same;
        cause = cause_on inv.reads c.in-End.ensures.cause (λ failed. cc);
        writes = c.in-End.ensures.writes ∙ inv.writes;
      };
    }

pub returns-in-Failed : goal.returns-in-Failed
returns-in-Failed g c =
    let inv = c.pieces.invariant in
    let have = c.pieces.have in
    let count = c.args.size - have in
    let inside : have ≤ length c.pieces.buffer = omega (arith, inv.inside, inv.length, c.requires.room) in
    let part : length c.read_at.new.buf ≡ count =
    omega (arith, c.read_at.auto.buf, length-take count (drop have c.pieces.buffer), length-drop have c.pieces.buffer, inv.length, c.requires.room, inv.inside) in
    record {
      inside = tt;
      filled = tt;
      front = take-put_mid_below have count c.pieces.buffer c.read_at.new.buf c.args.before inv.some inside ∙ inv.front;
      behind = drop-put_mid have count c.pieces.buffer c.read_at.new.buf c.args.size (omega (arith, c.pieces-test.true)) inside part ∙ inv.behind;
      some = tt;
      length = filled_length have count c.pieces.buffer c.read_at.new.buf (omega (arith, c.pieces-test.true, inv.length, c.requires.room)) part ∙ inv.length;
      reads = record {
        same = c.in-Failed.ensures.same ∙ inv.same;
        cause = cause_on inv.reads c.in-Failed.ensures.cause (λ failed. refl);
        writes = c.in-Failed.ensures.writes ∙ inv.writes;
      };
    }
