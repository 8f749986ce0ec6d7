use Rattle.std.proofs.Common.{◌≡◌, ◌++◌, map, take}
use Rattle.plus_translate.specs.Single.{some_of}
use Rattle.plus_translate.proofs.guards.put_some.Given as goal

-- the events so far
abbrev pub invariant-events : goal.invariant-events
invariant-events l = l.into.items ≡ l.initial.into.items ++ map some_of (take l.event-index l.events)
