use Rattle.std.proofs.Common.{drop}
use Rattle.std.specs.List.{flat_map}
use Rattle.plus_tree.specs.declared.trees.Constraint.{Constraint}
use Rattle.plus_rules.specs.Written.{times_of}
use Rattle.plus_numbering.proofs.Unfits.{Left}
use Rattle.plus_rules.proofs.numbers.times.Given as goal

-- those of the constraints walked so far fit
abbrev pub invariant-rules : goal.invariant-rules
invariant-rules g l = Left g.Q.Exact.fits (flat_map (λ (c : Constraint). times_of c.rule) l.rules) (flat_map (λ (c : Constraint). times_of c.rule) (drop l.rule-index l.rules))
