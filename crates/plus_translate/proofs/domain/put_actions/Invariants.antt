use Rattle.std.proofs.Common.{◌≡◌, ◌++◌, map, take}
use Rattle.plus_translation.specs.Translated.{old_translated, none_hold, clears}
use Rattle.plus_translate.proofs.domain.put_actions.Given as goal

abbrev pub invariant-actions : goal.invariant-actions
invariant-actions l = l.into ≡ l.initial.into ++ map (old_translated (none_hold l.events) (clears 1 l.events)) (take l.action-index l.actions)
