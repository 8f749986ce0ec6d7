use Rattle.std.proofs.Common.{◌≡◌, ◌++◌, take}
use Rattle.plus_translate.proofs.domain.put_copies.Given as goal

abbrev pub invariant-heads : goal.invariant-heads
invariant-heads l = l.into ≡ l.initial.into ++ take l.head-index l.heads
