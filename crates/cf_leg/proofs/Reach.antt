-- What the segments of a speech carry.
use Rattle.std.proofs.Common.{◌≡◌, ℕ, min, max, Bool, List, refl, ◌∙◌, arith}
use Rattle.cf_packet.specs.Packet.{PacketValue}
use Rattle.cf_stream.specs.Position.{sequence_number}
use Rattle.cf_stream.specs.Stream.{Stream, letter_count, no_letters}
use Rattle.cf_leg.proofs.Speech.{carried_pieces, carried_segment, says_as}
use Rattle.cf_leg.specs.Emits.{SaysIf}
use Rattle.cf_leg.specs.Told.{letters_sent_by_all}
use Rattle.cf_leg.specs.declared.ends.Advertised.{Advertised}
use Rattle.cf_leg.specs.declared.ends.Way.{Way}

pub carried_after : (way : Way) (t : Advertised) (due : Bool) (whole : Stream) (mss edge from : ℕ) (outs : List PacketValue) → SaysIf way t due whole mss edge from outs → letters_sent_by_all way.own from outs ≡ max from (min edge (letter_count whole))
carried_after way t due whole mss edge from outs = says_as way t due whole mss edge from outs (λ ps. letters_sent_by_all way.own from ps ≡ max from (min edge (letter_count whole)))
    (λ below p. carried_pieces way t whole mss edge from outs p)
    (λ past d. carried_segment way t (sequence_number way.own from) no_letters from refl ∙ omega (arith, past))
    (λ past d. omega (arith, past))
