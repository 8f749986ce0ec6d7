use Rattle.std.proofs.Common.{drop}
use Rattle.std.specs.List.{flat_map}
use Rattle.plus_tree.specs.declared.trees.Constraint.{Constraint}
use Rattle.plus_expansion.specs.Literals.{condition_literals}
use Rattle.plus_numbering.proofs.Unfits.{Left}
use Rattle.plus_rules.proofs.numbers.conditions.Given as goal

-- those of the constraints walked so far fit
abbrev pub invariant-rules : goal.invariant-rules
invariant-rules g l = Left g.Q.Exact.fits (flat_map (λ (c : Constraint). condition_literals c.cond) l.rules) (flat_map (λ (c : Constraint). condition_literals c.cond) (drop l.rule-index l.rules))
