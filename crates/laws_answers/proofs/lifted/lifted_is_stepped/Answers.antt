use Rattle.laws_answers.proofs.LiftedLemmas as laws
use Rattle.laws_answers.proofs.lifted.lifted_is_stepped.Goals as goal

pub returns : goal.returns
returns c = laws.lifted_is_stepped
