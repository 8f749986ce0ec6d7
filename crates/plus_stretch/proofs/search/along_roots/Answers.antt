use Rattle.plus_state.specs.View.{problem_of}
use Rattle.plus_stretch.proofs.SearchLemmas.{all_left}
use Rattle.plus_stretch.proofs.WalkLemmas.{still_marked}
use Rattle.plus_stretch.proofs.search.along_roots.Goals as goal

pub walk-requires-clause-roots : goal.walk-requires-clause-roots
walk-requires-clause-roots g c =
    all_left (problem_of g.Q.Exact.value c.args.ground.now) _ _ _ _ _ (rw c.deref-in-Ok.ensures.value c.in-Ok.ensures.different) c.requires.marked.roots

pub walk-requires-clause-marked : goal.walk-requires-clause-marked
walk-requires-clause-marked g c =
    rw c.deref-in-Ok-2.ensures.value (still_marked (problem_of g.Q.Exact.value c.args.ground.now) _ _ _ _ c.requires.marked.are c.rising.ensures.kept c.rising.ensures.no_other)

pub walk-requires-clause-ascending : goal.walk-requires-clause-ascending
walk-requires-clause-ascending g c = rw c.deref-in-Ok-2.ensures.value c.rising.ensures.ascending
