-- The bytes so far are appended.
use Rattle.std.proofs.Common.{◌≡◌, ◌++◌, map, take}
use Rattle.plus_explain.specs.Marked.{shown_byte}
use Rattle.plus_explain.proofs.marked.append_shown.Given as goal

abbrev pub invariant-loop-byte : goal.invariant-loop-byte
invariant-loop-byte l = l.into.items ≡ l.initial.into.items ++ map shown_byte (take l.byte-index l.bytes)
