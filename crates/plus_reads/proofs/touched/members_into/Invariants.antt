use Rattle.std.proofs.Common.{◌≡◌, take, map}
use Rattle.plus_reads.proofs.touched.members_into.Given as goal

abbrev pub invariant-each : goal.invariant-each
invariant-each g l = map g.I.Conditional.number l.members.items ≡ take l.number-index l.numbers
