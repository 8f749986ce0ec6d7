-- Where no limit of a constraint came, what is noted is what is found.
use Rattle.std.proofs.Common.{subst}
use Rattle.plus_number.specs.Frac.{IsFrac64}
use Rattle.plus_watch.proofs.AllFound.{watch_tells}
use Rattle.plus_watcher.specs.Stands.{constraints_in, HasSeen, StandsBy}
use Rattle.plus_watcher.specs.Laws.{WatchedIsFound}

pub watched_is_found : WatchedIsFound
watched_is_found P L h w p over fit tells going =
    let seen : HasSeen P h w = subst (StandsBy P h w) going (tells over fit) in
    record { places = seen.firsts; found = watch_tells IsFrac64 P L h (constraints_in w.rules) p seen.passed }
