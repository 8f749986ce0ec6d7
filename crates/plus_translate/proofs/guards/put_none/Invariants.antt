use Rattle.std.proofs.Common.{◌≡◌, ◌++◌, map, take}
use Rattle.plus_translate.specs.Single.{none_of}
use Rattle.plus_translate.proofs.guards.put_none.Given as goal

-- the events so far
abbrev pub invariant-events : goal.invariant-events
invariant-events l = l.into.items ≡ l.initial.into.items ++ map none_of (take l.event-index l.events)
