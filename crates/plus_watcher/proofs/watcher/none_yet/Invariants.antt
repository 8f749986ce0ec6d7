use Rattle.std.proofs.Common.{◌≡◌, None, replicate}
use Rattle.plus_watcher.proofs.watcher.none_yet.Given as goal

abbrev pub invariant-each : goal.invariant-each
invariant-each l = l.firsts.items ≡ replicate l._one-index None
