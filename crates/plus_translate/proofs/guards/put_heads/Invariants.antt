use Rattle.std.proofs.Common.{◌≡◌, ◌++◌, take}
use Rattle.plus_translation.specs.Translated.{mark_heads}
use Rattle.plus_translate.proofs.guards.put_heads.Given as goal

-- the events so far
abbrev pub invariant-events : goal.invariant-events
invariant-events l = l.into ≡ l.initial.into ++ mark_heads 1 (take l.before l.events)
