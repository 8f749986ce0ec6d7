use Rattle.std.proofs.Common.{◌≡◌, [], ◌∷◌, ◌++◌, drop}
use Rattle.plus_expansion.specs.Numbers.{spaced, label_of}
use Rattle.plus_lift.proofs.lifting.label.Given as goal

-- with the names that are still to come, the text is the label
abbrev pub invariant-each : goal.invariant-each
invariant-each l = l.text.items ++ (spaced (drop l.arg-index l.arg-items) ++ 41 ∷ []) ≡ label_of l.call.name l.arg-items
