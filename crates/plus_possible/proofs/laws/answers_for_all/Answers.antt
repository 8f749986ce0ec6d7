use Rattle.plus_possible.proofs.AnswersLemmas.{answers_for_all}
use Rattle.plus_possible.proofs.laws.answers_for_all.Goals as goal

pub returns : goal.returns
returns g c = answers_for_all g.Q.Exact.value g.Q.Exact.fits
