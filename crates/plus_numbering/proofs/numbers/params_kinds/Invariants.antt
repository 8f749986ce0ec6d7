use Rattle.std.proofs.Common.{◌≡◌, take}
use Rattle.plus_numbering.specs.Tables.{list_numbers}
use Rattle.plus_numbering.proofs.numbers.params_kinds.Given as goal

-- the numbers for the parameters so far
abbrev pub invariant-params : goal.invariant-params
invariant-params l = l.kinds.items ≡ list_numbers l.extents.names (take l.param-index l.params)
