use Rattle.std.proofs.Common.{arith, ap, ◌∙◌}
use Rattle.std.specs.Prelude.{option_map, Some, set}
use Rattle.plus_state.proofs.MotionLemmas.{length-fluents, given_motion, given_past}
use Rattle.plus_state.proofs.states.State.set_motion.Goals as goal

pub index_mut-requires-else-fluent-len : goal.index_mut-requires-else-fluent-len
index_mut-requires-else-fluent-len g c = omega (arith, c.requires, length-fluents (option_map g.Q.Exact.value) c.self.inside.values.items c.self.inside.motions.items c.self.inside.truths c.args.self.now c.self.view_is)

pub returns-in-Some : goal.returns-in-Some
returns-in-Some g c =
    given_motion (option_map g.Q.Exact.value) c.self.inside.values.items c.self.inside.motions.items c.self.inside.truths c.args.self.now c.self.view_is c.args.fluent.0 c.set.new.self (omega arith)
    ∙ ap (λ x. record c.args.self.now { fluents = set c.args.self.now.fluents c.args.fluent.0 (Some x) }) c.set.ensures

pub returns-in_default : goal.returns-in_default
returns-in_default g c =
    given_motion (option_map g.Q.Exact.value) c.self.inside.values.items c.self.inside.motions.items c.self.inside.truths c.args.self.now c.self.view_is c.args.fluent.0 c.new.result (omega arith)
    ∙ ap (λ x. record c.args.self.now { fluents = set c.args.self.now.fluents c.args.fluent.0 (Some x) }) c.new.ensures

pub returns-else-fluent-len : goal.returns-else-fluent-len
returns-else-fluent-len g c =
    given_past (option_map g.Q.Exact.value) c.self.inside.values.items c.self.inside.motions.items c.self.inside.truths c.args.self.now c.self.view_is c.args.fluent.0 (Some c.value.result) (omega arith)
    ∙ ap (λ x. record c.args.self.now { fluents = set c.args.self.now.fluents c.args.fluent.0 (Some x) }) (c.value.ensures ∙ c.new-else-fluent-len.ensures)
