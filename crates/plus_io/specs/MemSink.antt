-- What a sink in memory stands for: the bytes that it took, and the failures that are to come.
use Rattle.std.specs.Prelude.{ℕ, ◌-◌, List, ◌++◌, vec_len, vec_capacity}
use Rattle.plus_io.specs.Faults.{one_more}
use Rattle.plus_io.specs.declared.mem_sink.MemSink.{MemSink}

pub record SinkState : Type 0 where
  pub bytes : List ℕ
  -- how many bytes one write takes at most
  pub most : ℕ
  -- the numbers of the writes that are to fail, from 1
  pub listed : List ℕ
  -- how many writes there were
  pub writes : ℕ
  pub faults : ℕ

abbrev pub sink_state : MemSink → SinkState
sink_state sink = record { bytes = sink.bytes.items; most = sink.most; listed = sink.listed.items; writes = sink.writes; faults = sink.faults }

-- how many bytes it takes before it asks for memory
abbrev pub room : MemSink → ℕ
room sink = vec_capacity sink.bytes - vec_len sink.bytes

-- after a write that took these bytes
abbrev pub after_write : SinkState → List ℕ → SinkState
after_write s bytes = record s { bytes = s.bytes ++ bytes; writes = one_more s.writes }

-- after a write that failed
abbrev pub after_failed_write : SinkState → SinkState
after_failed_write s = record s { writes = one_more s.writes; faults = one_more s.faults }
