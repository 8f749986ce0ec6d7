use Rattle.plus_explain.proofs.PlaceLemmas.{line_is}
use Rattle.plus_explain.proofs.place.line_around.Goals as goal

pub returns : goal.returns
returns c =
    line_is _ _ _ _ c.line_start.ensures.within c.line_end.ensures.behind c.line_start.ensures.start c.line_end.ensures.«end»
