use Rattle.std.proofs.Common.{take}
use Rattle.plus_reads.specs.Listing.{AddsReader}
use Rattle.plus_reads.proofs.readers.add_all.Given as goal

abbrev pub invariant-each : goal.invariant-each
invariant-each l = AddsReader l.initial.table l.table (take l.key-index l.keys) l.reader
