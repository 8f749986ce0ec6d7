use Rattle.std.proofs.Common.{◌≡◌, ◌++◌, suc, drop}
use Rattle.plus_translation.specs.Renamed.{renamed_from}
use Rattle.plus_renaming.proofs.renaming.events.Given as goal

-- the events so far
abbrev pub invariant-events : goal.invariant-events
invariant-events l = l.renamed.items ++ renamed_from (suc l.before) (drop l.before l.events) ≡ renamed_from 1 l.events
