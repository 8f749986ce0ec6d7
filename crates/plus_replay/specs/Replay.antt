-- How a plan stands that is played again.
use Rattle.std.specs.Prelude.{◌≡◌, None}
use Rattle.plus_model.specs.Terms.{Problem}
use Rattle.plus_number.specs.declared.exact.Exact.{Ghosts}
use Rattle.plus_number.specs.declared.frac.Frac64.{Frac64}
use Rattle.plus_number.specs.Frac.{IsFrac64, fraction_of}
use Rattle.plus_state.specs.declared.problem.Ground.{Ground}
use Rattle.plus_state.specs.View.{problem_of}
use Rattle.plus_types.specs.declared.typed.Typed.{Typed}
use Rattle.plus_expansion.specs.Expansion.{expanded}
use Rattle.plus_instances.specs.Made.{AreMade}
use Rattle.plus_timeline.specs.Stops.{IsGoing}
use Rattle.plus_indexed.specs.Indexed.{IndexedView}
use Rattle.plus_indexed.specs.Knows.{Knows}
use Rattle.plus_replay.specs.declared.replay.Replay.{Replay}

-- a timeline goes on, with this problem
pub record Goes (P : Problem) (t : IndexedView) : Type 0 where
  pub knows : Knows IsFrac64 P t
  pub going : IsGoing t.line

-- and stands at a moment
pub record Rests (P : Problem) (t : IndexedView) : Type 0 where
  pub goes : Goes P t
  pub moment : t.line.now.running ≡ None

-- this is the ground form of a pair
pub record IsGroundOf {E : Ghosts Frac64} (t : Typed) (g : Ground Frac64 E) : Type 0 where
  pub expands : problem_of fraction_of g ≡ expanded t.domain t.problem

-- so stands a plan that is played again, over the ground form of its pair
pub record Stands {E : Ghosts Frac64} (g : Ground Frac64 E) (r : Replay) : Type 0 where
  pub rests : Rests (problem_of fraction_of g) r.timeline
  pub made : AreMade r.instances
  pub pair : IsGroundOf r.instances.numbering.now.typed.now g
