-- Worked rows of what is counted: the kinds in their order with their limits, and that a limit may be reached and not passed.
use Rattle.std.specs.Prelude.{◌≡◌, ℕ, [], ◌∷◌, map, Some, None}
use Rattle.plus_tree.specs.declared.trees.Domain.{Domain}
use Rattle.plus_tree.specs.declared.trees.Problem as tree
use Rattle.plus_expansion.specs.declared.counts.Count.{Count}
use Rattle.plus_expansion.specs.declared.counts.Count.TheVariants.{Objects, Atoms, Fluents, Processes, Events, Nodes}
use Rattle.plus_expansion.specs.Counts.{Counted, first_over}
use Rattle.plus_expansion.specs.Counting.{counts_of}

-- a count of this kind with its limit, and the number that it comes to
abbrev pub counted : Count → ℕ → ℕ → Counted
counted kind most number = record { kind = kind; most = most; number = number }

-- the six kinds; the first that passes its limit is told
pub record CountRows : Type 0 where
  pub limits :
      (d : Domain) (p : tree.Problem)
      → map {B = Count × ℕ} (λ (c : Counted). (c.kind, c.most)) (counts_of d p)
      ≡ (Objects, 10000) ∷ (Atoms, 200000) ∷ (Fluents, 50000) ∷ (Processes, 10000) ∷ (Events, 10000) ∷ (Nodes, 1000000) ∷ []
  pub reached : first_over (counted Objects 10000 10000 ∷ counted Atoms 200000 200000 ∷ []) ≡ None
  pub passed :
      first_over (counted Objects 10000 10000 ∷ counted Atoms 200000 200001 ∷ counted Nodes 1000000 1000001 ∷ [])
      ≡ Some (counted Atoms 200000 200001)
