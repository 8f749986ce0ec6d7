use Rattle.std.proofs.Common.{◌≡◌}
use Rattle.plus_number.specs.Frac.{fraction_of}
use Rattle.plus_watch.specs.Watched.{constraints_of, places_of}
use Rattle.plus_watch_lines.specs.Lines.{held_below}
use Rattle.plus_watch_lines.proofs.found.all_hold.Given as goal

abbrev pub invariant-each : goal.invariant-each
invariant-each l = l.all ≡ held_below (constraints_of fraction_of l.watched) (places_of fraction_of l.firsts) l.index
