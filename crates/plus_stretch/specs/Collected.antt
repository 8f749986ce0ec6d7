-- What it tells to list the roots of a problem.
use Rattle.std.specs.Prelude.{◌≡◌, ℕ, List, map, Result, ◌++◌}
use Rattle.plus_fraction.specs.Fraction.{Fraction}
use Rattle.plus_model.specs.Terms.{Condition, State}
use Rattle.plus_state.specs.declared.outcome.Owner.{Owner}
use Rattle.plus_state.specs.declared.outcome.Limit.TheVariants.{Number, Nonlinear}
use Rattle.plus_crossing.specs.declared.node.CondStop.TheVariants as cond
use Rattle.plus_crossing.specs.declared.listing.RootsStop.{RootsStop}
use Rattle.plus_crossing.specs.declared.listing.RootsStop.TheVariants as roots
use Rattle.plus_stretch.specs.declared.halt.Halt.{Halt}
use Rattle.plus_stretch.specs.declared.halt.Halt.TheVariants.{Limit, Memory}
use Rattle.plus_stretch.specs.Tests.{Whose}
use Rattle.plus_stretch.specs.Crossings.{roots_in}
use Rattle.plus_stretch.specs.StretchTests.{root_tests_in}
use Rattle.plus_stretch.specs.Told.{Told, Never}

-- the stop of a condition, by its owner
abbrev pub of_roots : {Q : Type 0} → Owner → RootsStop Q → Halt Q
of_roots owner (roots.Condition (cond.Number o)) = Limit (Number o)
of_roots owner (roots.Condition (cond.Nonlinear k)) = Limit (Nonlinear owner k)
of_roots owner roots.Memory = Memory
