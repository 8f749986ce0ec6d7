use Rattle.std.proofs.Common.{arith, ap, not}
use Rattle.plus_cut.proofs.LosingLemmas.{false_past}
use Rattle.plus_cut.proofs.losing.is_false.Goals as goal

pub returns-then-atom-atoms : goal.returns-then-atom-atoms
returns-then-atom-atoms g c = false_past c.args.state.now.atoms c.args.atom (omega arith)

pub returns : goal.returns
returns g c = ap not c.atom.ensures
