use Rattle.plus_lift.proofs.CommandLemmas.AgainLemmas.{spelled, refused}
use Rattle.plus_lift.proofs.command.again.read.Goals as goal

pub returns-in-Ok : goal.returns-in-Ok
returns-in-Ok c = spelled c.args.domain.now c.args.problem.now c.in-Ok.typed c.in-Ok.ensures.read c.in-Ok.typed.well_typed

pub returns-in-Err : goal.returns-in-Err
returns-in-Err c = refused c.args.domain.now c.args.problem.now c.in-Err.refusal c.refusal_printed.result c.in-Err.ensures.not_read c.refusal_printed.ensures
