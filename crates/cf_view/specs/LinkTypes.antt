-- What the number of a link type says of the records of a capture: link_kind. The numbers are those of tcpdump.org's list of link types;
-- which are read is this project's own.
use Rattle.std.specs.Prelude.{ℕ, ◌==◌, if◌then◌else◌, Option, Some, None}
use Rattle.cf_view.specs.declared.base.LinkKind.{LinkKind}
use Rattle.cf_view.specs.declared.base.LinkKind.TheVariants as link
use Rattle.cf_view.specs.declared.base.LinkSet.{LinkSet}
use Rattle.cf_view.specs.declared.base.LinkSet.TheVariants as set

-- LINKTYPE_LINUX_SLL and LINKTYPE_LINUX_SLL2
abbrev pub cooked_kind : ℕ → Option LinkKind
cooked_kind number = if number == 113 then Some link.LinuxCooked else if number == 276 then Some link.LinuxCooked2 else None

-- the kinds of a set besides Ethernet and raw IP
abbrev pub other_kind : LinkSet → ℕ → Option LinkKind
other_kind set.Plain number = None
other_kind set.Recorded number = cooked_kind number

-- LINKTYPE_ETHERNET and LINKTYPE_RAW, and what the set has besides
abbrev pub link_kind : LinkSet → ℕ → Option LinkKind
link_kind kinds number =
    if number == 1 then Some link.Ethernet else if number == 101 then Some link.RawIp else other_kind kinds number
