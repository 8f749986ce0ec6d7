use Rattle.plus_indexed.proofs.Knowing.{woken_before}
use Rattle.plus_indexed.proofs.kept.Kept.wake_by_step.Goals as goal

pub returns-clause-processes : goal.returns-clause-processes
returns-clause-processes g c = λ w h. woken_before c.args.timeline.now _ _ _ c.wake_events.ensures.kept w (c.wake_processes.ensures.woken w h)
