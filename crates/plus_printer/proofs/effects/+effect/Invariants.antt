use Rattle.std.proofs.Common.{drop}
use Rattle.plus_tree.specs.Effect.{effects_of}
use Rattle.plus_printer.specs.Canon.{effects_text}
use Rattle.plus_printer.proofs.AppendedLemmas.{Halfway}
use Rattle.plus_printer.proofs.effects.+effect.Given as goal

abbrev pub decreases-effect : goal.decreases-effect
decreases-effect l = goal.size-effect l

abbrev pub invariant-all : goal.invariant-all
invariant-all l =
    Halfway l.initial.text.items l.text.items (effects_text (effects_of l.member-items)) (effects_text (effects_of (drop l.member-index l.member-items)))
