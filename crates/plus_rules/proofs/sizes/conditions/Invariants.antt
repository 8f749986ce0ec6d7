use Rattle.std.proofs.Common.{◌≡◌, ◌+◌, drop}
use Rattle.plus_numbering.specs.Sizes.{held, conditions_size}
use Rattle.plus_numbering.specs.Numbered.{context}
use Rattle.plus_rules.specs.Written.{conditions_in}
use Rattle.plus_rules.proofs.sizes.conditions.Given as goal

-- one node, and those of the conditions seen so far
abbrev pub invariant-rules : goal.invariant-rules
invariant-rules l = record {
  counted : held (l.total + conditions_size (context l.numbering) (conditions_in (drop l.rule-index l.rules))) ≡ held (1 + conditions_size (context l.numbering) (conditions_in l.rules));
  no_more : l.total ≡ held l.total;
}
