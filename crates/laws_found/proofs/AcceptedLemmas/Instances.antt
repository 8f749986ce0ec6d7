-- What is asked of the instances of lines passes where that of each line's call does.
use Rattle.std.proofs.Common.{ℕ, zero, suc, List, [], ◌∷◌}
use Rattle.std.specs.Prelude.{All, slice_get}
use Rattle.std.proofs.lemmas.List.Elements.{All-head, All-tail}
use Rattle.plus_number.specs.Frac.{IsFrac64}
use Rattle.plus_tree.specs.declared.trees.Domain.{Domain}
use Rattle.plus_tree.specs.declared.trees.Problem.{Problem}
use Rattle.plus_plan.specs.declared.forms.Line.{Line}
use Rattle.plus_plan.specs.declared.forms.Line.TheVariants.{Blank, Act, End, Step}
use Rattle.plus_state.proofs.Testing.{pass_none}
use Rattle.plus_stretch.specs.Tests.{Test, Passes, AllPass}
use Rattle.plus_validator.specs.Asking.{or_nothing, all_instances}
use Rattle.plus_validator.specs.Plans.{pair}
use Rattle.laws_found.specs.Passing.{InstancesPass, CallPasses}

-- each of these lists passes
abbrev PassEach : List (List Test) → Type 0
PassEach xs = (i : ℕ) → AllPass IsFrac64 (or_nothing (slice_get xs i))

none_listed : PassEach []
none_listed zero = pass_none (Passes IsFrac64)
none_listed (suc i) = pass_none (Passes IsFrac64)

one_more : (ts : List Test) (xs : List (List Test)) → AllPass IsFrac64 ts → PassEach xs → PassEach (ts ∷ xs)
one_more ts xs a f zero = a
one_more ts xs a f (suc i) = f i

module _ (d : Domain) (p : Problem) where
  line_passes : (l : Line) (ls : List Line) → CallPasses d p l → InstancesPass d p ls → InstancesPass d p (l ∷ ls)
  line_passes Blank ls a f = f
  line_passes (Act n t call) ls a f = one_more _ (all_instances (pair d p) ls) a f
  line_passes (End n t) ls a f = one_more [] (all_instances (pair d p) ls) (pass_none (Passes IsFrac64)) f
  line_passes (Step n call) ls a f = f

  pub instances_pass : (lines : List Line) → All (CallPasses d p) lines → InstancesPass d p lines
  instances_pass [] a = none_listed
  instances_pass (l ∷ ls) a = line_passes l ls (All-head (CallPasses d p) l ls a) (instances_pass ls (All-tail (CallPasses d p) l ls a))
