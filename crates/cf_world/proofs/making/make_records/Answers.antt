use Rattle.std.proofs.Common.{◌∙◌, arith, subst, sym}
use Rattle.std.proofs.lemmas.Result.{err_from_is_err_and}
use Rattle.cf_hosts.specs.Next.{IsSent}
use Rattle.cf_world.proofs.SoFar.{one_so_far, part_made}
use Rattle.cf_world.proofs.making.make_records.Goals as goal

pub records-preserved : goal.records-preserved
records-preserved g c =
    let before = c.records.invariant in
    let packet = c.deref.result.now in
    let sent = subst (λ octets. IsSent c.records.begun c.args.sessions c.records.last c.in-Sends.moment c.in-Sends.after octets) (sym c.deref.ensures.0) c.in-Sends.ensures in
    let done = c.in_ok-send-in-Sends.ensures in
    let content = g.F.Files.content in
    let name = c.args.capture.now in
    record {
      so_far = one_so_far c.records.records c.records.begun c.args.sessions c.records.last c.in-Sends.moment c.in-Sends.after packet
          (content c.args.files.now name) (content c.records.files name) (content c.send.new.files name) before.so_far sent
          (omega (arith, before.near, sent.soon, c.records-test.true)) done.again done.file;
      few = omega (arith, c.records-test.true);
      begun = sent.few;
      losses = omega arith;
      near = omega (arith, before.near, sent.soon);
      timely = sent.near;
      sound = done.sound;
      earlier = omega (arith, done.last);
      writes = record {
        others = λ other none. done.writes.others other none ∙ before.writes.others other none;
        cause = record { later = omega (arith, before.writes.cause.later, done.writes.cause.later); rose = λ failed. absurd failed };
        reads = done.writes.reads ∙ before.writes.reads;
      };
    }

pub returns-in_err-send-in-Sends-clause-made : goal.returns-in_err-send-in-Sends-clause-made
returns-in_err-send-in-Sends-clause-made g c =
    let before = c.records.invariant in
    let packet = c.deref.result.now in
    let sent = subst (λ octets. IsSent c.records.begun c.args.sessions c.records.last c.in-Sends.moment c.in-Sends.after octets) (sym c.deref.ensures.0) c.in-Sends.ensures in
    let failed = c.in_err-send-in-Sends.ensures in
    let content = g.F.Files.content in
    let name = c.args.capture.now in
    let p = err_from_is_err_and c.from_residual.result c.from_residual.ensures.1 in
    rw p.1 (part_made c.records.records c.records.begun c.args.sessions c.records.last c.in-Sends.moment c.in-Sends.after packet
    (content c.args.files.now name) (content c.records.files name) (content c.send.new.files name) before.so_far sent
    (omega (arith, before.near, sent.soon, c.records-test.true)) failed.again c.records-test.true failed.file)
