use Rattle.plus_report.proofs.PutsLemmas.{worded, nothing}
use Rattle.plus_report.proofs.TextLemmas.{mark_line-same, mark_line-absent, mark_line-lost}
use Rattle.plus_report.proofs.changes.put_mark.Goals as goal

pub returns-then-is : goal.returns-then-is
returns-then-is g c = worded (nothing tt) (mark_line-same _ _ _ _ c.if-is.true)

pub returns-then-was : goal.returns-then-was
returns-then-was g c = worded c.put_three.ensures (mark_line-lost _ _ _ _ c.if-was.true c.if-is.false)

pub returns : goal.returns
returns g c = worded (nothing tt) (mark_line-absent _ _ _ _ c.if-was.false)
