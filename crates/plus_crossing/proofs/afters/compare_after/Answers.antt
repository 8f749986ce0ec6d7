use Rattle.std.proofs.Common.{rules, ap, sym, ◌∙◌}
use Rattle.plus_crossing.specs.Pieces.{piece_of}
use Rattle.plus_crossing.proofs.TruthAfter.{compares, truth_right_missing}
use Rattle.plus_crossing.proofs.afters.compare_after.Goals as goal

pub returns-in-None-2 : goal.returns-in-None-2
returns-in-None-2 g c = (
  search (rules, compares),
  truth_right_missing _ _ _ _ _ _ _ _ _
      (ap (piece_of g.Q.Exact.value) (sym c.in-Some.is) ∙ c.in_ok-piece.ensures.1)
      (ap (piece_of g.Q.Exact.value) (sym c.in-None-2.is) ∙ c.in_ok-piece-in-Some.ensures.1)
      c.signed-in-None-2.ensures,
)
