use Rattle.std.proofs.Common.{rules, ap, sym, ◌∙◌}
use Rattle.plus_crossing.specs.Pieces.{piece_of}
use Rattle.plus_crossing.proofs.RootLists.{sides, list_lines}
use Rattle.plus_crossing.proofs.listing.compare_root.Goals as goal

pub returns-in_ok-root-in-Some-2 : goal.returns-in_ok-root-in-Some-2
returns-in_ok-root-in-Some-2 g c = (
  search (rules, sides),
  list_lines g.Q.Exact.value _ _ _ _ _ _ _ c.in_ok-root-in-Some-2.ensures.1
      (ap (piece_of g.Q.Exact.value) (sym c.in-Some.is) ∙ c.in_ok-piece.ensures.1)
      (ap (piece_of g.Q.Exact.value) (sym c.in-Some-2.is) ∙ c.in_ok-piece-in-Some.ensures.1),
)
