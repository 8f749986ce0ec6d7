use Rattle.laws_answers.proofs.Told as told
use Rattle.laws_answers.proofs.beginnings.told_on_way_begins.Goals as goal

pub returns : goal.returns
returns c = told.told_on_way_begins
