-- Amounts of rates that are not `#t` and one more factor.
use Rattle.std.specs.Prelude.{◌≡◌, ◌<◌, ◌≤◌, List, [], ◌∷◌, length, refl}
use Rattle.std.proofs.Common.{arith}
use Rattle.plus_tree.specs.Expr.{Expr, exprs_of}
use Rattle.plus_translation.specs.Translated.{flow_factor}

pub factor_few : (q : Expr) (es : List Expr) → length es < 2 → flow_factor q (exprs_of es) ≡ q
factor_few q [] h = refl
factor_few q (e ∷ []) h = refl
factor_few q (e ∷ f ∷ es) h = absurd (omega (arith, h))

pub factor_many : (q : Expr) (es : List Expr) → 3 ≤ length es → flow_factor q (exprs_of es) ≡ q
factor_many q [] h = absurd (omega (arith, h))
factor_many q (e ∷ []) h = absurd (omega (arith, h))
factor_many q (e ∷ f ∷ []) h = absurd (omega (arith, h))
factor_many q (e ∷ f ∷ g ∷ es) h = refl

pub ruleset others = (factor_few, factor_many)
