use Rattle.std.proofs.Common.{arith}
use Rattle.plus_plan_command.proofs.plan.searched.Goals as goal

pub plan-requires-clause-above : goal.plan-requires-clause-above
plan-requires-clause-above c = c.args.search.interval.above

pub plan-requires-clause-few : goal.plan-requires-clause-few
plan-requires-clause-few c = c.args.search.decisions.few

pub plan-requires-clause-tries : goal.plan-requires-clause-tries
plan-requires-clause-tries c = omega (arith, c.args.search.tries.few)

pub returns-in-Ok : goal.returns-in-Ok
returns-in-Ok c = c.in-Ok.ensures.planned

pub returns-in-Err : goal.returns-in-Err
returns-in-Err c = record { fault = c.in-Err.fault; cause = c.in-Err.ensures.unplanned; refusal_is = c.refuse_search.ensures }
