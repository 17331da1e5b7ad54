use Rattle.std.proofs.Common.{◌∙◌, arith}
use Rattle.cf_outside.proofs.Content.{appends_both, appends_first}
use Rattle.cf_run.proofs.file_desk.append_parts.Goals as goal

pub returns-in-Done-clause-file : goal.returns-in-Done-clause-file
returns-in-Done-clause-file g c =
    let name = c.args.name.now in
    let content = g.F.Files.content in
    appends_both (content c.args.files.now name) (content c.append.new.self name) (content c.append-in-Done.new.self name) c.args.head.now c.args.packet.now c.append-in-Done.result c.in-Done.ensures.file c.append-in-Done.ensures.file

pub returns-in-Done-clause-writes : goal.returns-in-Done-clause-writes
returns-in-Done-clause-writes g c = record {
  others = λ other none. c.append-in-Done.ensures.others other none.0 ∙ c.in-Done.ensures.others other none.0;
  cause = record {
    later = omega (arith, c.in-Done.ensures.cause.later, c.append-in-Done.ensures.cause.later);
    rose = λ failed. omega (arith, c.in-Done.ensures.cause.later, c.append-in-Done.ensures.cause.rose failed);
  };
  reads = c.append-in-Done.ensures.reads ∙ c.in-Done.ensures.reads;
}

pub returns-in-Failed-clause-file : goal.returns-in-Failed-clause-file
returns-in-Failed-clause-file g c =
    let name = c.args.name.now in
    let content = g.F.Files.content in
    appends_first (content c.args.files.now name) (content c.append.new.self name) c.args.head.now c.args.packet.now c.in-Failed.ensures.file
