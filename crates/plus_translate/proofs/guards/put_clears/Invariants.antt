use Rattle.std.proofs.Common.{◌≡◌, ◌++◌, take}
use Rattle.plus_translation.specs.Translated.{clears}
use Rattle.plus_translate.proofs.guards.put_clears.Given as goal

-- the events so far
abbrev pub invariant-events : goal.invariant-events
invariant-events l = l.into.items ≡ l.initial.into.items ++ clears 1 (take l.before l.events)
