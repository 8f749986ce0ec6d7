-- Sums and products, operand by operand; which conditions ask all of their members.
use Rattle.std.specs.Prelude.{Bool, true, false, List, [], ◌∷◌, Option, Some, None, unwrap_or, pos}
use Rattle.plus_fraction.specs.Fraction.{whole}
use Rattle.plus_model.specs.Terms as model
use Rattle.plus_model.specs.Terms.{Expression, Sum, Difference, Product, Quotient}
use Rattle.plus_state.specs.declared.term.Sign.{Sign}
use Rattle.plus_state.specs.declared.term.Sign.TheVariants.{Plus, Minus, Times, Divide}
use Rattle.plus_tree.specs.Cond.{Cond, c_all, c_forall}
use Rattle.plus_expansion.specs.Expansion.{grouped}

abbrev pub operation : Sign → Expression → Expression → Expression
operation Plus = Sum
operation Minus = Difference
operation Times = Product
operation Divide = Quotient

-- the first operand, or one more after a total
abbrev pub link : (Expression → Expression → Expression) → Option Expression → Expression → Expression
link op None e = e
link op (Some total) e = op total e

-- the total of these operands, where there is one
abbrev pub total : (Expression → Expression → Expression) → List Expression → Option Expression
total op [] = None
total op (e ∷ es) = Some (grouped op e es)

-- the total, or 0 where there is none
abbrev pub total_or_zero : Option Expression → Expression
total_or_zero t = unwrap_or t (model.Number (whole (pos 0)))

-- the conditions that ask all of their members
abbrev pub asks_all : Cond → Bool
asks_all (c_all fs s) = true
asks_all (c_forall vs f s) = true
asks_all _ = false
