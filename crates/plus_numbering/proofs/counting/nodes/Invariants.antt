use Rattle.std.proofs.Common.{◌≡◌, ◌+◌, drop}
use Rattle.plus_numbering.specs.Sizes.{held, schema_size, schemas_size}
use Rattle.plus_numbering.specs.Numbered.{context}
use Rattle.plus_numbering.proofs.counting.nodes.Given as goal

-- the nodes of the instances of the schemas seen so far
abbrev pub invariant-schemas : goal.invariant-schemas
invariant-schemas l = record {
  counted :
      held (l.total + schemas_size (context l.numbering) (schema_size (context l.numbering) l.process) (drop l.schema-index l.schemas))
      ≡ held (schemas_size (context l.numbering) (schema_size (context l.numbering) l.process) l.schemas);
  no_more : l.total ≡ held l.total;
}
