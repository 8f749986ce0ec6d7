use Rattle.std.proofs.Common.{◌≡◌, take}
use Rattle.plus_tokens.specs.Lowered.{lowered}
use Rattle.plus_tree.proofs.names.short_name.Given as goal

abbrev pub invariant-loop-b : goal.invariant-loop-b
invariant-loop-b l = record { items : l.bytes.items ≡ lowered (take l.b-index l.word); room : l.bytes.capacity ≡ 16 }
