use Rattle.plus_cut.proofs.LosingLemmas.{false_here, true_here, all_true}
use Rattle.plus_cut.proofs.losing.is_some_false.Goals as goal

pub returns-then-is_false : goal.returns-then-is_false
returns-then-is_false g c =
    false_here c.args.atoms.now c.args.state.now c.atoms.atom-index c.atoms.invariant c.is_false.result c.atoms-test.true c.is_false.ensures c.if-is_false.true

pub atoms-preserved : goal.atoms-preserved
atoms-preserved g c =
    true_here c.args.atoms.now c.args.state.now c.atoms.atom-index c.atoms.invariant c.is_false.result c.atoms-test.true c.is_false.ensures c.if-is_false.false

pub returns : goal.returns
returns g c = all_true c.args.atoms.now c.args.state.now c.atoms.atom-index c.atoms.invariant c.atoms-test.false
