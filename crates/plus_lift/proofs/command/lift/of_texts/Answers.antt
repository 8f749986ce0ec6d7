use Rattle.plus_number.specs.Frac.{fraction_of}
use Rattle.plus_lift.proofs.CommandLemmas.CallsLemmas.{calls_plain}
use Rattle.plus_lift.proofs.CommandLemmas.LiftLemmas.{stop_told, stop_plain, stop_cause, calls_told, memory_cause}
use Rattle.plus_lift.proofs.command.lift.of_texts.Goals as goal

pub returns-in-Ok-clause-replies : goal.returns-in-Ok-clause-replies
returns-in-Ok-clause-replies g c =
    calls_told (fraction_of c.args.interval.value) c.args.typed.now.domain c.args.typed.now.problem c.args.again.now.domain c.args.again.now.problem _
    c.in-Ok.calls.items c.deref.result.now c.lifted.result c.deref.ensures.value c.in-Ok.ensures.plan c.lifted.ensures.lifts

pub returns-in-Ok-clause-plain : goal.returns-in-Ok-clause-plain
returns-in-Ok-clause-plain g c =
    calls_plain (fraction_of c.args.interval.value) c.args.typed.now.domain c.args.typed.now.problem c.deref.result.now c.lifted.result c.lifted.ensures.lifts

pub returns-in-Ok-clause-fault : goal.returns-in-Ok-clause-fault
returns-in-Ok-clause-fault g c = memory_cause _ _ c.lifted.result c.lifted.ensures.memory

pub returns-in-Ok-clause-reads : goal.returns-in-Ok-clause-reads
returns-in-Ok-clause-reads g c = c.in-Ok.ensures.reads

pub returns-in-Ok-clause-keeps : goal.returns-in-Ok-clause-keeps
returns-in-Ok-clause-keeps g c = c.in-Ok.ensures.keeps

pub returns-in-Err-clause-replies : goal.returns-in-Err-clause-replies
returns-in-Err-clause-replies g c =
    stop_told (fraction_of c.args.interval.value) c.args.typed.now.domain c.args.typed.now.problem c.args.again.now.domain c.args.again.now.problem _ _ _
    c.in-Err.stop c.stopped.result c.in-Err.ensures.stops c.stopped.ensures

pub returns-in-Err-clause-plain : goal.returns-in-Err-clause-plain
returns-in-Err-clause-plain g c = stop_plain c.in-Err.stop c.stopped.result c.stopped.ensures

pub returns-in-Err-clause-fault : goal.returns-in-Err-clause-fault
returns-in-Err-clause-fault g c =
    stop_cause c.args.again.now.domain c.args.again.now.problem _ _ _ c.in-Err.stop c.stopped.result c.in-Err.ensures.stops c.stopped.ensures

pub returns-in-Err-clause-reads : goal.returns-in-Err-clause-reads
returns-in-Err-clause-reads g c = c.in-Err.ensures.reads

pub returns-in-Err-clause-keeps : goal.returns-in-Err-clause-keeps
returns-in-Err-clause-keeps g c = c.in-Err.ensures.keeps
