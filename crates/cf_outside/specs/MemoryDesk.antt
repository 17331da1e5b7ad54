-- Beside the proof: what a desk in memory holds, `MemoryDeskValue`, and what its calls do to it. The main definitions are that,
-- `desk_in_memory`, and `MemoryEmits` and `MemoryPutsLine`, one for each call.
use Rattle.std.specs.Prelude.{◌≡◌, ◌≢◌, ◌⊎◌, ℕ, ◌==◌, if◌then◌else◌, None, Some}
use Rattle.std.specs.Prelude.{List, [], ◌∷◌, ◌++◌, map, string_bytes}
use Rattle.cf_outside.specs.Desk.{SentValue, DeskValue}
use Rattle.cf_outside.specs.Files.{untold}
use Rattle.cf_outside.specs.Memory.{Counts, next_fail, after_call, after_fault, after_lack}
use Rattle.cf_outside.specs.declared.memory_desk.MemoryDesk.{MemoryDesk}
use Rattle.cf_outside.specs.declared.memory_desk.Sent.{Sent}
use Rattle.cf_outside.specs.declared.files.WriteAnswer.{WriteAnswer}
use Rattle.cf_outside.specs.declared.files.WriteAnswer.TheVariants as write

-- a packet that was emitted, with its bytes as a list
abbrev pub sent_value : Sent → SentValue
sent_value sent = record { moment = sent.moment; bytes = sent.bytes.items }

-- the fields of a desk in memory, with lists in place of vectors and texts
pub record MemoryDeskValue : Type 0 where
  pub packets : List SentValue
  pub lines : List (List ℕ)
  pub counts : Counts

abbrev pub memory_desk_value : MemoryDesk → MemoryDeskValue
memory_desk_value desk = record {
  packets = map sent_value desk.packets.items;
  lines = map string_bytes desk.lines.items;
  counts = record { fails = desk.fails.items; calls = desk.calls; faults = desk.faults; lacks = desk.lacks };
}

-- a desk with nothing emitted, no line, no script, and every count 0
abbrev pub empty_desk : MemoryDeskValue
empty_desk = record { packets = []; lines = []; counts = record { fails = []; calls = 0; faults = 0; lacks = 0 } }

-- a desk in memory as a desk: it tells both lists, is whole where no call failed, and lends no files
abbrev pub desk_in_memory : MemoryDesk → DeskValue
desk_in_memory desk = record {
  packets = Some (map sent_value desk.packets.items);
  lines = Some (map string_bytes desk.lines.items);
  packet_part = [];
  line_part = [];
  octets = λ sent. [];
  whole = desk.faults == 0;
  faults = desk.faults;
  lender = None;
  reads = λ _. 0;
  names = [];
  content = λ _. untold;
}

-- a list after a failure by the script, which adds the item all the same where it leaves more than 0
abbrev pub with_left : {A : Type 0} → ℕ → A → List A → List A
with_left left item items = if left == 0 then items else items ++ item ∷ []

-- a packet is added; want of memory adds none, and does not come where the script adds none
abbrev pub MemoryEmits : ℕ → List ℕ → MemoryDeskValue → MemoryDeskValue → WriteAnswer → Type 0
MemoryEmits moment packet old new write.Done =
    (next_fail old.counts ≡ None)
    × (new ≡ record old { packets = old.packets ++ record { moment = moment; bytes = packet } ∷ []; counts = after_call old.counts })
MemoryEmits moment packet old new write.Failed =
    ((left : ℕ) × (next_fail old.counts ≡ Some left)
    × (new ≡ record old {
      packets = with_left left (record { moment = moment; bytes = packet }) old.packets;
      counts = after_fault old.counts;
    }))
    ⊎ ((next_fail old.counts ≢ Some 0) × (new ≡ record old { counts = after_lack old.counts }))

-- a line is added; want of memory adds none, and does not come where the script adds none
abbrev pub MemoryPutsLine : List ℕ → MemoryDeskValue → MemoryDeskValue → WriteAnswer → Type 0
MemoryPutsLine text old new write.Done =
    (next_fail old.counts ≡ None) × (new ≡ record old { lines = old.lines ++ text ∷ []; counts = after_call old.counts })
MemoryPutsLine text old new write.Failed =
    ((left : ℕ) × (next_fail old.counts ≡ Some left)
    × (new ≡ record old { lines = with_left left text old.lines; counts = after_fault old.counts }))
    ⊎ ((next_fail old.counts ≢ Some 0) × (new ≡ record old { counts = after_lack old.counts }))
