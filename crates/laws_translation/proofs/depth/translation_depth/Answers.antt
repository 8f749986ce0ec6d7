use Rattle.laws_translation.proofs.DepthLemmas.DepthLaws.{translation_depth}
use Rattle.laws_translation.proofs.depth.translation_depth.Goals as goal

pub returns : goal.returns
returns c = translation_depth
