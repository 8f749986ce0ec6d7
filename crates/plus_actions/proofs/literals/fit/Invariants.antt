use Rattle.std.proofs.Common.{drop}
use Rattle.std.specs.List.{flat_map}
use Rattle.plus_expansion.specs.Literals.{schema_literals}
use Rattle.plus_numbering.proofs.Unfits.{Left}
use Rattle.plus_actions.proofs.literals.fit.Given as goal

-- the literals of those walked so far fit
abbrev pub invariant-schemas : goal.invariant-schemas
invariant-schemas g l = Left g.Q.Exact.fits (flat_map schema_literals l.schemas) (flat_map schema_literals (drop l.schema-index l.schemas))
