use Rattle.laws_translation.proofs.TextLemmas.TextLaws.{spells_within_its_depth}
use Rattle.laws_translation.proofs.text.spells_within_its_depth.Goals as goal

pub returns : goal.returns
returns c = spells_within_its_depth
