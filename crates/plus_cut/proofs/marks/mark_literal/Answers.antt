use Rattle.plus_cut.proofs.MarkLemmas.{mark_not, mark_so}
use Rattle.plus_cut.proofs.marks.mark_literal.Goals as goal

pub returns-then-not-positive : goal.returns-then-not-positive
returns-then-not-positive c = mark_not c.args.marks.now c.args.atom.0 c.args.positive c.if-not-positive.true

pub returns : goal.returns
returns c = mark_so _ _ c.args.atom.0 c.args.positive c.if-not-positive.false c.mark.ensures
