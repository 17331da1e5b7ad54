-- The octets of a record without the VLAN tags of its frame, `untagged`, and their link kind, `untagged_kind`. IEEE 802.1Q-2018, section 9:
-- a tag has 4 octets, before the type of what it tags, and stands where this type stood.
use Rattle.std.specs.Prelude.{◌==◌, ◌+◌, ℕ, zero, suc, Bool, ◌&&◌, ◌||◌, nat_le, if◌then◌else◌, List, length, drop}
use Rattle.cf_view.specs.Octets.{u16_be_at}
use Rattle.cf_view.specs.declared.LinkKind.{LinkKind}
use Rattle.cf_view.specs.declared.LinkKind.TheVariants as link

-- the type of a frame, at this place, is that of a customer tag or of a service tag
abbrev pub has_tag : (type_at : ℕ) → List ℕ → Bool
has_tag type_at frame =
    nat_le (type_at + 2) (length frame) && ((u16_be_at frame type_at == 0x8100) || (u16_be_at frame type_at == 0x88A8))

-- a frame from 4 octets further on for each of its tags, of which there are at most so many: from its type on, at this place, it is the
-- same frame without them
abbrev pub without_tags : (type_at most : ℕ) → List ℕ → List ℕ
without_tags type_at zero frame = frame
without_tags type_at (suc most) frame = if has_tag type_at frame then without_tags type_at most (drop 4 frame) else frame

-- in the second version of Linux cooked captures the type stands first. Behind that of a tag, from octet 22 on, come the type and the rest
-- of an Ethernet frame, whose own type stands at octet 12
abbrev pub has_tag_in_front : List ℕ → Bool
has_tag_in_front frame = has_tag 0 frame && nat_le 24 (length frame)

-- a frame has fewer tags than octets; a packet that stands alone has none
abbrev pub untagged : LinkKind → List ℕ → List ℕ
untagged link.Ethernet frame = without_tags 12 (length frame) frame
untagged link.RawIp packet = packet
untagged link.LinuxCooked frame = without_tags 14 (length frame) frame
untagged link.LinuxCooked2 frame = if has_tag_in_front frame then without_tags 12 (length (drop 10 frame)) (drop 10 frame) else frame

-- what stands before the packet there
abbrev pub untagged_kind : LinkKind → List ℕ → LinkKind
untagged_kind link.LinuxCooked2 frame = if has_tag_in_front frame then link.Ethernet else link.LinuxCooked2
untagged_kind link.Ethernet frame = link.Ethernet
untagged_kind link.RawIp frame = link.RawIp
untagged_kind link.LinuxCooked frame = link.LinuxCooked
