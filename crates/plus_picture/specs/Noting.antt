-- Who notes what happens for a picture tells a sink nothing. Of the rows nothing is said.
use Rattle.std.specs.Prelude.{ℕ, List}
use Rattle.plus_picture.specs.declared.collector.Collector.{Collector}

-- what was handed on by one who notes, which is nothing
abbrev pub noted_told : List ℕ → Collector → List ℕ
noted_told sent rows = sent
