use Rattle.std.proofs.Common.{◌≡◌, ◌*◌, drop}
use Rattle.plus_numbering.specs.Sizes.{held, choices}
use Rattle.plus_numbering.specs.Numbered.{context}
use Rattle.plus_numbering.proofs.sizes.choices.Given as goal

-- the environments for the variables seen so far
abbrev pub invariant-vars : goal.invariant-vars
invariant-vars l = record {
  counted : held (l.total * choices (context l.numbering) (drop l.var-index l.vars)) ≡ held (choices (context l.numbering) l.vars);
  no_more : l.total ≡ held l.total;
}
