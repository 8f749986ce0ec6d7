use Rattle.laws_translation.proofs.SameLemmas.SameLaws.{spans_mean_nothing}
use Rattle.laws_translation.proofs.same.spans_mean_nothing.Goals as goal

pub returns : goal.returns
returns c = spans_mean_nothing
