use Rattle.std.proofs.Common.{append_assoc}
use Rattle.cf_packet.proofs.write.push_header.Goals as goal

pub returns-clause-items : goal.returns-clause-items
returns-clause-items g c =
    rw (
      c.push_u32_be-2.ensures.items,
      c.push_u32_be.ensures.items,
      c.push_u16_be-6.ensures.items,
      c.push_u16_be-5.ensures.items,
      c.push_u16_be-4.ensures.items,
      c.push_u16_be-3.ensures.items,
      c.push_u16_be-2.ensures.items,
      c.push_u16_be.ensures.items,
      c.header_checksum-checksum.ensures,
      c.segment_length.ensures.value,
    )
    (simp append_assoc)
