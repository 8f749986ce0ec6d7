use Rattle.laws_answers.proofs.PairOrRefused as laws
use Rattle.laws_answers.proofs.existing.pair_or_refusal.Goals as goal

pub returns : goal.returns
returns c = laws.pair_or_refused
