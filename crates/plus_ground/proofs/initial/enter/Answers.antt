use Rattle.plus_types.specs.Faults.{problem_context}
use Rattle.plus_ground.proofs.InitialLemmas.{holds_entered, value_entered}
use Rattle.plus_ground.proofs.initial.enter.Goals as goal

pub returns-in-Holds : goal.returns-in-Holds
returns-in-Holds g c =
    holds_entered (problem_context c.args.numbering.now.typed.now.domain c.args.numbering.now.typed.now.problem) _ c.args.member.now c.in-Holds.used _ c.args.state.now c.hold.new.state
    c.in-Holds.is c.new-none.ensures c.in_ok-atom-in-Holds.ensures c.hold.ensures

pub returns-in-Value : goal.returns-in-Value
returns-in-Value g c =
    value_entered (problem_context c.args.numbering.now.typed.now.domain c.args.numbering.now.typed.now.problem) _ c.args.member.now c.in-Value.used c.in-Value.value c.in-Value.field-2 _ c.args.state.now c.give.new.state
    c.in-Value.is c.new-none.ensures c.in_ok-fluent-in-Value.ensures c.give.ensures
