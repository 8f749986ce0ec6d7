use Rattle.std.proofs.Common.{◌≡◌, ◌+◌, drop}
use Rattle.plus_numbering.specs.Sizes.{held, instances}
use Rattle.plus_numbering.specs.Numbered.{context}
use Rattle.plus_numbering.proofs.counting.instances.Given as goal

-- the instances of the schemas seen so far
abbrev pub invariant-schemas : goal.invariant-schemas
invariant-schemas l = record {
  counted : held (l.total + instances (context l.numbering) (drop l.schema-index l.schemas)) ≡ held (instances (context l.numbering) l.schemas);
  no_more : l.total ≡ held l.total;
}
