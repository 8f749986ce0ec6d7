use Rattle.std.proofs.Common.{refl, ap, ◌∙◌}
use Rattle.plus_number.specs.Frac.{fraction_of}
use Rattle.plus_watch.specs.Watched.{places_of}
use Rattle.plus_watcher.proofs.Calls.{none_noted}
use Rattle.plus_watcher.proofs.watcher.Watcher.new.Goals as goal

pub returns-clause-first : goal.returns-clause-first
returns-clause-first c = record {
  going = refl;
  since = c.zero.ensures;
  none = ap (places_of fraction_of) c.in_ok-firsts.ensures ∙ none_noted c.args.rules.watched.now;
}
