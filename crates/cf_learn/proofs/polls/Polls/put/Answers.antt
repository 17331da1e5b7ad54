use Rattle.std.proofs.Common.{◌∙◌, length, sym}
use Rattle.std.proofs.lemmas.Bool.{eqb-true}
use Rattle.cf_learn.proofs.Polled.{one_piece, put_at}
use Rattle.cf_learn.proofs.polls.Polls.put.Goals as goal

pub returns-then-place-len : goal.returns-then-place-len
returns-then-place-len c seen are has = record {
  requests = put_at c.args.self.now.places.items c.args.place (record { client = c.args.client; pdu = c.pieces.result.0 }) c.args.pdu.now.bytes
      (c.pieces.ensures.bytes ∙ one_piece c.pieces.result.0.now c.pieces.result.1.now (eqb-true (length c.pieces.result.1.now) 0 (sym c.is_empty.ensures ∙ c.if-is_empty.true)))
      seen are.requests has;
  fragments = are.fragments;
}
