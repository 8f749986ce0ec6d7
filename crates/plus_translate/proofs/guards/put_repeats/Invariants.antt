use Rattle.std.proofs.Common.{◌≡◌, ◌++◌, take}
use Rattle.plus_translation.specs.Translated.{none_repeats}
use Rattle.plus_translate.proofs.guards.put_repeats.Given as goal

-- the events so far
abbrev pub invariant-events : goal.invariant-events
invariant-events l = l.into.items ≡ l.initial.into.items ++ none_repeats 1 (take l.before l.events)
