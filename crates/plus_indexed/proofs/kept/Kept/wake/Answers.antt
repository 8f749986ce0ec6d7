use Rattle.plus_indexed.proofs.Knowing.{woken_before}
use Rattle.plus_indexed.proofs.kept.Kept.wake.Goals as goal

pub returns-in-Round-clause-processes : goal.returns-in-Round-clause-processes
returns-in-Round-clause-processes g c = λ w h. rw c.in-Round.is (woken_before c.args.timeline.now c.args.self.now _ _ c.wake_by_round.ensures.kept w (c.wake_processes.ensures.woken w h))
