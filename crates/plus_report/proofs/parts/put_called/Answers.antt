use Rattle.plus_report.proofs.parts.put_called.Goals as goal

pub returns : goal.returns
returns g c = rw c.bytes.ensures at c.put_three.ensures
