use Rattle.std.proofs.Common.{refl}
use Rattle.plus_number.specs.Frac.{fraction_of}
use Rattle.plus_report.specs.Plans.{acts_of, plan_text}
use Rattle.plus_lift.specs.Command.Lift.{JudgesPlan}
use Rattle.plus_lift.proofs.CommandLemmas.CallsLemmas.{late_lifts, judged_lifts, memory_of, TellsLate}
use Rattle.plus_lift.proofs.command.calls.lifted.Goals as goal

pub returns-in-Ok-clause-lifts : goal.returns-in-Ok-clause-lifts
returns-in-Ok-clause-lifts c =
    judged_lifts (fraction_of c.args.interval.value) c.args.typed.now.domain c.args.typed.now.problem c.args.calls.now c.in-Ok.plan c.judged.result
    c.in-Ok.ensures c.judged.ensures

pub returns-in-Ok-clause-memory : goal.returns-in-Ok-clause-memory
returns-in-Ok-clause-memory c =
    memory_of (JudgesPlan c.args.typed.now.domain c.args.typed.now.problem
    (plan_text (acts_of fraction_of c.in-Ok.plan.acts.items) (fraction_of c.in-Ok.plan.«end»))) c.judged.result c.judged.ensures

pub returns-in-Err-Number-clause-lifts : goal.returns-in-Err-Number-clause-lifts
returns-in-Err-Number-clause-lifts c =
    let first = rw c.in-Err-Number.field-0-is at c.in-Err-Number.ensures in
    late_lifts c.args.interval.value c.args.typed.now.domain c.args.typed.now.problem c.args.calls.now c.in-Err-Number.overflow c.late.result
    first c.late.ensures

pub returns-in-Err-Number-clause-memory : goal.returns-in-Err-Number-clause-memory
returns-in-Err-Number-clause-memory c = memory_of (TellsLate c.in-Err-Number.overflow) c.late.result c.late.ensures

pub returns-in-Err-Memory-clause-memory : goal.returns-in-Err-Memory-clause-memory
returns-in-Err-Memory-clause-memory c = refl
