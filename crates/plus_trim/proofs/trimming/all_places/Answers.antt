use Rattle.std.proofs.Common.{ap, ◌∙◌, ◌++◌, ◌∷◌, []}
use Rattle.plus_trim.proofs.Round.{places_more}
use Rattle.plus_trim.proofs.trimming.all_places.Goals as goal

pub loop-place-preserved : goal.loop-place-preserved
loop-place-preserved c = c.in_ok-push.ensures.items ∙ ap (λ ps. ps ++ c.loop-place.place ∷ []) c.loop-place.invariant ∙ places_more c.loop-place.place
