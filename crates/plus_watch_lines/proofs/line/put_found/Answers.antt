use Rattle.plus_watch_lines.proofs.line.put_found.Goals as goal

pub returns-in-FailsAfter : goal.returns-in-FailsAfter
returns-in-FailsAfter g c = rw c.in-FailsAfter.is c.put_failing-in-FailsAfter.ensures
