use Rattle.std.proofs.Common.{◌≡◌, map, take}
use Rattle.plus_translation.specs.Renamed.{renamed_expr}
use Rattle.plus_renaming.proofs.renaming.Renamer.+expression.Given as goal

abbrev pub decreases-expression : goal.decreases-expression
decreases-expression l = goal.size-expression l

-- the operands so far
abbrev pub invariant-sum : goal.invariant-sum
invariant-sum l = l.copy.items ≡ map (renamed_expr l.self.scope) (take l.member-index l.member-items)

abbrev pub invariant-product : goal.invariant-product
invariant-product l = l.copy.items ≡ map (renamed_expr l.self.scope) (take l.member-index l.member-items)
