use Rattle.std.proofs.Common.{◌∙◌, ap}
use Rattle.plus_types.specs.Faults.{problem_context}
use Rattle.plus_state.specs.View.{timed_of}
use Rattle.plus_expansion.specs.Environments.{atom_number}
use Rattle.plus_ground.proofs.TimedLemmas.{added_at}
use Rattle.plus_ground.proofs.timed_literals.add_at.Goals as goal

pub returns : goal.returns
returns g c =
    let k = problem_context c.args.numbering.now.typed.now.domain c.args.numbering.now.typed.now.problem in
    let atom = c.in_ok-atom.ensures ∙ ap (λ env. atom_number k env c.args.used.now) c.new-none.ensures in
    added_at (timed_of g.Q.Exact.value) c.args.into.now.items _ _ c.args.time.now _ c.args.positive c.if-time.false c.in_ok-push.ensures.items
    (λ j. record { time = c.number.ensures j; atom = atom j; positive = c.args.positive })
