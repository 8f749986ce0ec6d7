-- The lines of constraints, put by a loop over their places.
use Rattle.std.proofs.Common.{◌≡◌, ℕ, zero, suc, ◌+◌, ◌<◌, List, [], ◌∷◌, map, length, get_or, ap, ap₂, sym, ◌∙◌, arith}
use Rattle.std.specs.Prelude.{Option, Some, slice_get}
use Rattle.plus_number.specs.declared.frac.Frac64.{Frac64}
use Rattle.plus_number.specs.Frac.{fraction_of}
use Rattle.plus_constraints.specs.Constraint.{Constraint}
use Rattle.plus_constraints.specs.Found.{Found}
use Rattle.plus_constraints.specs.Place.{Place}
use Rattle.plus_watch.specs.declared.watched.Watched.{Watched}
use Rattle.plus_watch.specs.View.{when_of}
use Rattle.plus_watch.specs.Watched.{constraint_of, constraints_of}
use Rattle.plus_watch_lines.specs.Lines.{rule_line, found_at, line_of, line_at}

-- what is read at a place, as it is seen
pub seen_at : {A B : Type 0} (f : A → B) (xs : List A) (i : ℕ) (x : A) → i < length xs → x ≡ get_or xs i x → slice_get (map f xs) i ≡ Some (f x)
seen_at f [] i x l e = absurd (omega (arith, l))
seen_at f (y ∷ xs) zero x l e = ap (λ z. Some (f z)) (sym e)
seen_at f (y ∷ xs) (suc i) x l e = seen_at f xs i x (omega (arith, l)) e

-- the line of the one that is read there
pub line_is :
    (ws : List (Watched Frac64)) (os : List (Option Place)) (i n : ℕ) (x : Watched Frac64) (f : Found) → i < length ws → x ≡ get_or ws i x → n ≡ i + 1
    → f ≡ found_at (constraint_of fraction_of x) (slice_get os i) → rule_line n (when_of fraction_of x.rule) f ≡ line_at (constraints_of fraction_of ws) os i
line_is ws os i n x f l e s g =
    let next : n ≡ suc i = omega (arith, s) in
    ap₂ (λ (m : ℕ) (h : Found). rule_line m (when_of fraction_of x.rule) h) next g
    ∙ ap (λ (k : Option Constraint). line_of i k (slice_get os i)) (sym (seen_at (constraint_of fraction_of) ws i x l e))
