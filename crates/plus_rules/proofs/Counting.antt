-- The nodes and the numbers of constraints.
use Rattle.std.proofs.Common.{◌≡◌, ℕ, ◌<◌, ◌≤◌, Bool, true, false, not, nat_lt, List, ap, sym, ◌∙◌, arith}
use Rattle.std.proofs.lemmas.Bool.Decides.{nat_tests}
use Rattle.plus_tree.specs.declared.trees.Constraint.{Constraint}
use Rattle.plus_tree.specs.declared.trees.Domain.{Domain}
use Rattle.plus_tree.specs.declared.trees.Problem.{Problem}
use Rattle.plus_types.specs.Faults.{problem_context}
use Rattle.plus_numbering.specs.Sizes.{held, problem_size}
use Rattle.plus_numbering.proofs.Holding.{over-held}
use Rattle.plus_numbering.proofs.LimitLemmas.{all-nodes}
use Rattle.plus_rules.specs.Written.{beside, nodes_of}

-- what is held of the nodes passes the limit exactly where they do
pub small_told : (d : Domain) (p : Problem) (cs : List Constraint) (n : ℕ) → n ≡ held (problem_size (problem_context d p) d (beside p cs))
    → nat_lt 1000000 n ≡ nat_lt 1000000 (nodes_of d p cs)
small_told d p cs n e =
    ap (nat_lt 1000000) e ∙ over-held 1000000 (problem_size (problem_context d p) d (beside p cs)) (omega arith) ∙ ap (nat_lt 1000000) (sym (all-nodes d (beside p cs)))

pub is_small : (most : ℕ) (b : Bool) (n : ℕ) → b ≡ not (nat_lt most n) → b ≡ true → n ≤ most
is_small most b n e t = let f : not (nat_lt most n) ≡ true = sym e ∙ t in grind (arith, nat_tests)

pub is_large : (most : ℕ) (b : Bool) (n : ℕ) → b ≡ not (nat_lt most n) → b ≡ false → most < n
is_large most b n e t = let f : not (nat_lt most n) ≡ false = sym e ∙ t in grind (arith, nat_tests)
