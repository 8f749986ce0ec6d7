use Rattle.std.proofs.Common.{◌≡◌, [], map, take, drop}
use Rattle.plus_types.specs.Faults.{schemas_faults}
use Rattle.plus_types.specs.Known.{context}
use Rattle.plus_types.proofs.schemas.schemas.Given as goal

-- those walked so far have no fault, and their names are in the table
abbrev pub invariant-schemas : goal.invariant-schemas
invariant-schemas l = record {
  walked : schemas_faults (context l.known) l.process [] l.schemas ≡ schemas_faults (context l.known) l.process l.names (drop l.walked-index l.schemas);
  table : l.names ≡ map (λ a. a.name.name) (take l.walked-index l.schemas);
  left : l.vars ≡ [];
}
