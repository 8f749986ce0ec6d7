use Rattle.std.proofs.Common.{arith, ap, sym, ◌∙◌}
use Rattle.std.specs.Prelude.{Some, None}
use Rattle.plus_state.proofs.MotionLemmas.{copied_more}
use Rattle.plus_state.proofs.states.State.copy.Goals.{in-Some+in_ok-push-in-Some, in-None+in_ok-push-in-None}
use Rattle.plus_state.proofs.states.State.copy.Goals as goal

pub loop-motion-preserved : goal.loop-motion-preserved
loop-motion-preserved g c =
    elim c.match-motion.branch [
      | in-Some+in_ok-push-in-Some w ↦
          copied_more c.deref-motion-items.result.now c.loop-motion.motions.items c.match-motion.motions.items c.loop-motion.motion-index c.motion-item.result (Some w.copy-in-Some.result)
          (ap (λ v. v.items) w.motions-is ∙ w.in_ok-push-in-Some.ensures.items) c.loop-motion.invariant (ap Some w.copy-in-Some.ensures ∙ sym w.in-Some.is) c.motion-item.is (omega arith)
      | in-None+in_ok-push-in-None w ↦
          copied_more c.deref-motion-items.result.now c.loop-motion.motions.items c.match-motion.motions.items c.loop-motion.motion-index c.motion-item.result None
          (ap (λ v. v.items) w.motions-is ∙ w.in_ok-push-in-None.ensures.items) c.loop-motion.invariant (sym w.in-None.is) c.motion-item.is (omega arith)
    ]
