use Rattle.std.proofs.Common.{rules, ap, sym, ◌∙◌}
use Rattle.plus_crossing.specs.Pieces.{piece_of}
use Rattle.plus_crossing.proofs.Joins.{joins, piece_sum, piece_difference, piece_product, piece_quotient}
use Rattle.plus_crossing.proofs.pieces.+calculated.Goals as goal

pub returns-in_ok-sum-in-Some-3 : goal.returns-in_ok-sum-in-Some-3
returns-in_ok-sum-in-Some-3 g t c = (
  search (rules, joins),
  let h = piece_sum _ _ _ _ _ _ _ c.in_ok-sum-in-Some-3.ensures.1
      (ap (piece_of g.Q.Exact.value) (sym c.in-Some-2.is) ∙ c.in_ok-calculated-in-Add.ensures.1)
      (ap (piece_of g.Q.Exact.value) (sym c.in-Some-3.is) ∙ c.in_ok-calculated-in-Some-2.ensures.1) in
      rw c.in-Add.is cc,
)

pub returns-in_ok-difference-in-Some-5 : goal.returns-in_ok-difference-in-Some-5
returns-in_ok-difference-in-Some-5 g t c = (
  search (rules, joins),
  let h = piece_difference _ _ _ _ _ _ _ c.in_ok-difference-in-Some-5.ensures.1
      (ap (piece_of g.Q.Exact.value) (sym c.in-Some-4.is) ∙ c.in_ok-calculated-in-Sub.ensures.1)
      (ap (piece_of g.Q.Exact.value) (sym c.in-Some-5.is) ∙ c.in_ok-calculated-in-Some-4.ensures.1) in
      rw c.in-Sub.is cc,
)

pub returns-in_ok-product-in-Some-7 : goal.returns-in_ok-product-in-Some-7
returns-in_ok-product-in-Some-7 g t c = (
  search (rules, joins),
  let h = piece_product _ _ _ _ _ _ _ c.in_ok-product-in-Some-7.ensures.1
      (ap (piece_of g.Q.Exact.value) (sym c.in-Some-6.is) ∙ c.in_ok-calculated-in-Mul.ensures.1)
      (ap (piece_of g.Q.Exact.value) (sym c.in-Some-7.is) ∙ c.in_ok-calculated-in-Some-6.ensures.1) in
      rw c.in-Mul.is cc,
)

pub returns-in_ok-quotient-in-Some-9 : goal.returns-in_ok-quotient-in-Some-9
returns-in_ok-quotient-in-Some-9 g t c = (
  search (rules, joins),
  let h = piece_quotient _ _ _ _ _ _ _ c.in_ok-quotient-in-Some-9.ensures.1
      (ap (piece_of g.Q.Exact.value) (sym c.in-Some-8.is) ∙ c.in_ok-calculated-in-Div.ensures.1)
      (ap (piece_of g.Q.Exact.value) (sym c.in-Some-9.is) ∙ c.in_ok-calculated-in-Some-8.ensures.1) in
      rw c.in-Div.is cc,
)
