use Rattle.laws_found.proofs.TextLemmas.Whole.{reads_back}
use Rattle.laws_found.proofs.text.written_plan_reads_back.Goals as goal

pub returns : goal.returns
returns c = reads_back
