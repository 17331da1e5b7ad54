-- Steps of the proof: why a capture that was not opened is not watched: `open_fault`.
use Rattle.cf_records.specs.declared.record_reader.OpenFault.{OpenFault}
use Rattle.cf_records.specs.declared.record_reader.OpenFault.TheVariants as opened
use Rattle.cf_watch.specs.declared.fault.WatchFault.{WatchFault}
use Rattle.cf_watch.specs.declared.fault.WatchFault.TheVariants as fault
use Rattle.cf_watch.specs.declared.fault.WatchRefusal.TheVariants as refusal

abbrev pub open_fault : OpenFault → WatchFault
open_fault opened.NoMemory = fault.NoMemory
open_fault opened.Read = fault.Read
open_fault (opened.Refused of) = fault.Refused (refusal.Header of)
