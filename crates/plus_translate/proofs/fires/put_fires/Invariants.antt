use Rattle.std.proofs.Common.{◌≡◌, ◌++◌, take}
use Rattle.plus_translation.specs.Translated.{fires}
use Rattle.plus_translate.proofs.fires.put_fires.Given as goal

-- the events so far
abbrev pub invariant-events : goal.invariant-events
invariant-events l = l.into.items ≡ l.initial.into.items ++ fires 1 (take l.before l.events)
