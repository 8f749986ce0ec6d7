-- Lines one behind the other.
use Rattle.std.proofs.Common.{◌≡◌, List, [], ◌∷◌, ◌++◌, length, sym, subst, ◌∙◌, inl, append_assoc}
use Rattle.std.specs.Prelude.{Some, slice_get}
use Rattle.plus_fraction.specs.Fraction.{Fraction}
use Rattle.plus_model.specs.Plan.{Line, EndLine, Plan, IsInOrder}
use Rattle.plus_model.specs.History.{View}
use Rattle.plus_model.specs.Trajectory.{HasBegun, next_line}
use Rattle.plus_planner.proofs.Waiting.{at_more}
use Rattle.plus_trim.specs.Acts.{Act, lines_of, whole, AreAhead}
use Rattle.plus_trim.specs.Standing.{Continues}

-- a plan that goes on with one line more
pub one_fewer : (xs : List Line) (x : Line) (L : Plan) → Continues (xs ++ x ∷ []) L → Continues xs L
one_fewer xs x L c = record { begun = c.begun; ordered = c.ordered; more = x ∷ c.more; is = c.is ∙ append_assoc xs (x ∷ []) c.more }

-- the line that is next
pub next_is : (xs : List Line) (x : Line) (L : Plan) (v : View) → Continues (xs ++ x ∷ []) L → v.acted ≡ length xs → next_line L v ≡ Some x
next_is xs x L v c e =
    subst (λ k. slice_get L.lines k ≡ Some x) (sym e)
    (subst (λ ls. slice_get ls (length xs) ≡ Some x) (sym (c.is ∙ append_assoc xs (x ∷ []) c.more)) (at_more xs x c.more))

some_lines : (xs : List Line) (x : Line) (ys : List Line) → xs ++ x ∷ ys ≡ [] → ⊥
some_lines [] x ys e = cc e
some_lines (z ∷ xs) x ys e = cc e

-- a whole plan goes on from each of its beginnings
pub whole_begun : (xs : List Line) (last : Fraction) → HasBegun (whole xs last)
whole_begun xs last = inl (some_lines xs (EndLine last) [])

pub acts_ordered : (t : Fraction) (xs : List Act) (last : Fraction) → AreAhead t xs last → IsInOrder (lines_of xs ++ EndLine last ∷ [])
acts_ordered t [] last a = tt
acts_ordered t (x ∷ []) last a = (a.1, tt)
acts_ordered t (x ∷ y ∷ ys) last a = (a.1.0, acts_ordered x.0 (y ∷ ys) last a.1)
