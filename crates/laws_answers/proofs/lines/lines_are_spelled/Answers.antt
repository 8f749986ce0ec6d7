use Rattle.laws_answers.proofs.LineLemmas as lines
use Rattle.laws_answers.proofs.lines.lines_are_spelled.Goals as goal

pub returns : goal.returns
returns c = lines.lines_are_spelled c.read_as_spelled.ensures
