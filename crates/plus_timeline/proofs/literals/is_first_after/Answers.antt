use Rattle.std.proofs.Common.{sym, ◌∙◌, arith}
use Rattle.plus_timeline.specs.Literals.{is_by}
use Rattle.plus_timeline.proofs.InOrder.{by_parted, point_at, un_not}
use Rattle.plus_timeline.proofs.literals.is_first_after.Goals as goal
use Rattle.plus_timeline.proofs.literals.is_first_after.Goals.{else-place-gt0-via-then-place-gt0+else-not-is_by_at, else-place-gt0-via-else-place-gt0}

pub returns-clause-point : goal.returns-clause-point
returns-clause-point g c = λ e.
    point_at g.Q.Exact.value (is_by g.Q.Exact.value (g.Q.Exact.value c.args.time)) c.args.literals.now c.args.place (by_parted g.Q.Exact.value _ _ c.args.literals.now c.requires) c.if-place-literals.false
    (elim c.else-place-gt0.branch [
      | else-place-gt0-via-then-place-gt0+else-not-is_by_at w ↦ λ l d. let n = c.if-place-literals.false in sym (w.is_by_at.ensures (omega (arith, l, n)) d) ∙ w.if-not-is_by_at.false
      | else-place-gt0-via-else-place-gt0 w ↦ λ l. absurd (omega (arith, l, w.if-place-gt0.false))
    ])
    (λ l d. sym (c.is_by_at-2.ensures l d) ∙ un_not c.is_by_at-2.result e)
