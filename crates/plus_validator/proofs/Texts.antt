-- The lines of a text and the plan that they are, as they are read one by one.
use Rattle.std.proofs.Common.{◌≡◌, Bool, List, [], ◌∷◌, ◌++◌, ap, sym, ◌∙◌, append_assoc, append-nil}
use Rattle.plus_plan.specs.declared.forms.Line.{Line}
use Rattle.plus_validator.specs.Plans.{Pair, line_meant, lines_meant, plan_of}

-- one more line of the text
pub lines_meant-append : (d : Pair) (ls : List Line) (l : Line) → lines_meant d (ls ++ l ∷ []) ≡ lines_meant d ls ++ line_meant d l
lines_meant-append d [] l = append-nil (line_meant d l)
lines_meant-append d (x ∷ ls) l =
    ap (λ t. line_meant d x ++ t) (lines_meant-append d ls l) ∙ sym (append_assoc (line_meant d x) (lines_meant d ls) (line_meant d l))

pub plan_of-append : (d : Pair) (ls : List Line) (l : Line) (closed : Bool) → plan_of d (ls ++ l ∷ []) closed ≡ record { lines = lines_meant d ls ++ line_meant d l; closed = closed }
plan_of-append d ls l closed = λ i. record { lines = lines_meant-append d ls l i; closed = closed }
