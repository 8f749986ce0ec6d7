use Rattle.plus_stretch.proofs.Marks.{marks_behind}
use Rattle.plus_stretch.proofs.search.behind.Goals as goal

pub returns : goal.returns
returns g c = marks_behind g.Q.Exact.value c.args.count c.args.marks.now
