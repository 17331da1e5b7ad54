-- Beside the proof: what a sink in memory holds, `MemorySinkValue`, and what a put does to it, `MemoryPuts`.
use Rattle.std.specs.Prelude.{◌≡◌, ◌≢◌, ◌⊎◌, ◌++◌, ℕ, List, None, Some, [], take}
use Rattle.cf_outside.specs.Memory.{Counts, next_fail, after_call, after_fault, after_lack}
use Rattle.cf_outside.specs.declared.memory_sink.MemorySink.{MemorySink}
use Rattle.cf_outside.specs.declared.files.WriteAnswer.{WriteAnswer}
use Rattle.cf_outside.specs.declared.files.WriteAnswer.TheVariants as write

-- the fields of a sink in memory, with lists in place of vectors
pub record MemorySinkValue : Type 0 where
  pub bytes : List ℕ
  pub counts : Counts

abbrev pub memory_sink_value : MemorySink → MemorySinkValue
memory_sink_value sink = record {
  bytes = sink.bytes.items;
  counts = record { fails = sink.fails.items; calls = sink.calls; faults = sink.faults; lacks = sink.lacks };
}

-- a sink with nothing put, no script, and every count 0
abbrev pub empty_sink : MemorySinkValue
empty_sink = record { bytes = []; counts = record { fails = []; calls = 0; faults = 0; lacks = 0 } }

-- all bytes are put; a failure by the script leaves as many as it says; want of memory leaves none, and does not come where
-- the script leaves none
abbrev pub MemoryPuts : List ℕ → MemorySinkValue → MemorySinkValue → WriteAnswer → Type 0
MemoryPuts bytes old new write.Done =
    (next_fail old.counts ≡ None) × (new ≡ record { bytes = old.bytes ++ bytes; counts = after_call old.counts })
MemoryPuts bytes old new write.Failed =
    ((left : ℕ) × (next_fail old.counts ≡ Some left)
    × (new ≡ record { bytes = old.bytes ++ take left bytes; counts = after_fault old.counts }))
    ⊎ ((next_fail old.counts ≢ Some 0) × (new ≡ record { bytes = old.bytes; counts = after_lack old.counts }))
