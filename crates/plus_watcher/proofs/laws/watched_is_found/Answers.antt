use Rattle.plus_watcher.proofs.Finding.{watched_is_found}
use Rattle.plus_watcher.proofs.laws.watched_is_found.Goals as goal

pub returns : goal.returns
returns c = watched_is_found
