-- A true answer is the only true one.
use Rattle.cf_view.proofs.Framing.{unit_only, more_only, broken_only}
use Rattle.cf_dnplink.specs.LinkFrame.{frame_value, SpellsFrame, frame_break}
use Rattle.cf_dnplink.proofs.Frames.{spelled_free, spelled_answer}
use Rattle.cf_dnplink.proofs.frame.next_frame.Goals as goal

pub returns-clause-true_answer : goal.returns-clause-true_answer
returns-clause-true_answer c = spelled_answer c.framed_frame.result c.args.bytes.bytes c.framed_frame.ensures

pub returns-clause-unit : goal.returns-clause-unit
returns-clause-unit c =
    unit_only SpellsFrame frame_break frame_value spelled_free c.framed_frame.result c.args.bytes.bytes
    (spelled_answer c.framed_frame.result c.args.bytes.bytes c.framed_frame.ensures)

pub returns-clause-more : goal.returns-clause-more
returns-clause-more c =
    more_only SpellsFrame frame_break frame_value spelled_free c.framed_frame.result c.args.bytes.bytes
    (spelled_answer c.framed_frame.result c.args.bytes.bytes c.framed_frame.ensures)

pub returns-clause-broken : goal.returns-clause-broken
returns-clause-broken c =
    broken_only SpellsFrame frame_break frame_value spelled_free c.framed_frame.result c.args.bytes.bytes
    (spelled_answer c.framed_frame.result c.args.bytes.bytes c.framed_frame.ensures)
