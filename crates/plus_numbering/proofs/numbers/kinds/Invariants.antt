use Rattle.std.proofs.Common.{◌≡◌, ℕ, Vec, Global, map, take}
use Rattle.plus_tree.specs.declared.trees.Head.{Head}
use Rattle.plus_numbering.specs.Tables.{list_numbers}
use Rattle.plus_numbering.proofs.numbers.kinds.Given as goal

-- the numbers for the predicates or functions so far
abbrev pub invariant-heads : goal.invariant-heads
invariant-heads l = map (λ (v : Vec ℕ Global). v.items) l.kinds.items ≡ map (λ (h : Head). list_numbers l.extents.names h.params) (take l.head-index l.heads)
