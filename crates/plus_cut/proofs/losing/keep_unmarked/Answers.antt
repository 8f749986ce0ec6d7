use Rattle.std.proofs.Common.{refl}
use Rattle.plus_cut.proofs.LosingLemmas.{kept_none, kept_one}
use Rattle.plus_cut.proofs.losing.keep_unmarked.Goals as goal

pub returns-then-is_marked : goal.returns-then-is_marked
returns-then-is_marked c = kept_none c.args.marks.now c.args.atoms.now.items _ c.args.atom c.is_marked.result c.is_marked.ensures c.if-is_marked.true refl

pub returns : goal.returns
returns c = kept_one c.args.marks.now c.args.atoms.now.items _ c.args.atom c.is_marked.result c.is_marked.ensures c.if-is_marked.false c.in_ok-push.ensures.items
