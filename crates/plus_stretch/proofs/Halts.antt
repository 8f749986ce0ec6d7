-- A halt told of a part of a call and of the call.
use Rattle.std.proofs.Common.{ℕ, List, ◌++◌}
use Rattle.plus_fraction.specs.Fraction.{Fraction}
use Rattle.plus_state.proofs.Testing.{fail_left, fail_right}
use Rattle.plus_stretch.specs.declared.halt.Halt.{Halt}
use Rattle.plus_stretch.specs.declared.halt.Halt.TheVariants as halts
use Rattle.plus_stretch.specs.Tests.{Test, Passes, AllPass}
use Rattle.plus_stretch.specs.Told.{HaltTold}

-- the halt of a first part is that of the whole
pub halt_left : {Q : Type 0} (v : Q → Fraction) (fits : Fraction → Type 0) (xs ys : List Test) (Means Means' : ℕ → Fraction → Type 0) (h : Halt Q) → ((e : ℕ) (t : Fraction) → Means e t → Means' e t) → HaltTold v fits xs Means h → HaltTold v fits (xs ++ ys) Means' h
halt_left v fits xs ys Means Means' (halts.NoFirstMoment e t) f u = (fail_left (Passes fits) xs ys _ u.0, f _ _ u.1)
halt_left v fits xs ys Means Means' (halts.Limit l) f u = fail_left (Passes fits) xs ys _ u
halt_left v fits xs ys Means Means' halts.Memory f u = tt

-- and of a second one where the first passes
pub halt_right : {Q : Type 0} (v : Q → Fraction) (fits : Fraction → Type 0) (xs ys : List Test) (Means Means' : ℕ → Fraction → Type 0) (h : Halt Q) → AllPass fits xs → ((e : ℕ) (t : Fraction) → Means e t → Means' e t) → HaltTold v fits ys Means h → HaltTold v fits (xs ++ ys) Means' h
halt_right v fits xs ys Means Means' (halts.NoFirstMoment e t) a f u = (fail_right (Passes fits) xs ys _ a u.0, f _ _ u.1)
halt_right v fits xs ys Means Means' (halts.Limit l) a f u = fail_right (Passes fits) xs ys _ a u
halt_right v fits xs ys Means Means' halts.Memory a f u = tt
