use Rattle.std.proofs.Common.{rules, ap, sym, ◌∙◌}
use Rattle.plus_crossing.specs.Pieces.{piece_of}
use Rattle.plus_crossing.proofs.NextRoot.{sides, none_right, none_lines}
use Rattle.plus_crossing.proofs.crossings.compare_next.Goals as goal

pub returns-in-None-2 : goal.returns-in-None-2
returns-in-None-2 g c = (
  search (rules, sides),
  none_right _ _ _ _ _ _
      (ap (piece_of g.Q.Exact.value) (sym c.in-Some.is) ∙ c.in_ok-piece.ensures.1)
      (ap (piece_of g.Q.Exact.value) (sym c.in-None-2.is) ∙ c.in_ok-piece-in-Some.ensures.1),
)

pub returns-in-None-3 : goal.returns-in-None-3
returns-in-None-3 g c =
    let h = rw c.in-None-3.is at c.in_ok-root-in-Some-2.ensures.1 in (
      search (rules, sides),
      none_lines _ _ _ _ _ _ _ _ h
          (ap (piece_of g.Q.Exact.value) (sym c.in-Some.is) ∙ c.in_ok-piece.ensures.1)
          (ap (piece_of g.Q.Exact.value) (sym c.in-Some-2.is) ∙ c.in_ok-piece-in-Some.ensures.1),
    )
