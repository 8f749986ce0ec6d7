use Rattle.std.proofs.Common.{◌+◌, length, refl, arith}
use Rattle.plus_report.specs.Text.{fluent_line, fluents_text}
use Rattle.plus_report.proofs.PutsLemmas.{stop}
use Rattle.plus_report.proofs.LineLemmas.{no_line, next_line, last_line, all_lines}
use Rattle.plus_report.proofs.changes.put_fluents.Goals as goal

pub loop-index-init : goal.loop-index-init
loop-index-init g c = no_line _

pub returns-in_err-put_new_value : goal.returns-in_err-put_new_value
unfolding fluents_text
returns-in_err-put_new_value g c =
    let h = c.from_residual.ensures.0 in
    let labels = c.args.ground.now.fluents.items in
    last_line (fluent_line c.args.indent.now labels c.args.before.now c.args.after.now) c.loop-index.index (length labels)
    c.loop-index.invariant (stop c.in_err-put_new_value.ensures h) (cc) (omega (arith, c.len-index-end.ensures)) h

pub loop-index-preserved : goal.loop-index-preserved
loop-index-preserved g c = next_line _ c.loop-index.index (c.loop-index.index + 1) c.loop-index.invariant c.in_ok-put_new_value.ensures (cc) refl

pub returns : goal.returns
unfolding fluents_text
returns g c = all_lines _ c.loop-index.index _ c.loop-index.invariant (omega (arith, c.len-index-end.ensures))
