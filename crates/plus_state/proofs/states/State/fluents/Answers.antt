use Rattle.std.proofs.Common.{arith}
use Rattle.std.specs.Prelude.{option_map}
use Rattle.plus_state.proofs.MotionLemmas.{length-fluents}
use Rattle.plus_state.proofs.states.State.fluents.Goals as goal

pub returns : goal.returns
returns g c = omega (arith, c.len.ensures, length-fluents (option_map g.Q.Exact.value) c.self.inside.values.items c.self.inside.motions.items c.self.inside.truths c.args.self.now c.self.view_is)
