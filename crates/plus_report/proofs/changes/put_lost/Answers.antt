use Rattle.std.proofs.Common.{◌+◌, length, refl, arith}
use Rattle.plus_report.specs.Text.{lost_line, lost_text}
use Rattle.plus_report.proofs.PutsLemmas.{stop}
use Rattle.plus_report.proofs.LineLemmas.{no_line, next_line, last_line, all_lines}
use Rattle.plus_report.proofs.changes.put_lost.Goals as goal

pub loop-index-init : goal.loop-index-init
loop-index-init g c = no_line _

pub returns-in_err-put_mark : goal.returns-in_err-put_mark
unfolding lost_text
returns-in_err-put_mark g c =
    let h = c.from_residual.ensures.0 in
    let labels = c.args.ground.now.atoms.items in
    last_line (lost_line c.args.mark.now labels c.args.before.now c.args.after.now) c.loop-index.index (length labels)
    c.loop-index.invariant (stop c.in_err-put_mark.ensures h) (cc) (omega (arith, c.len-index-end.ensures)) h

pub loop-index-preserved : goal.loop-index-preserved
loop-index-preserved g c = next_line _ c.loop-index.index (c.loop-index.index + 1) c.loop-index.invariant c.in_ok-put_mark.ensures (cc) refl

pub returns : goal.returns
unfolding lost_text
returns g c = all_lines _ c.loop-index.index _ c.loop-index.invariant (omega (arith, c.len-index-end.ensures))
