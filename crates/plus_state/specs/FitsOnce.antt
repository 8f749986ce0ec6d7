-- A problem fits in one way at most, so that a value can keep it.
use Rattle.std.specs.Prelude.{ℕ, List, [], ◌∷◌}
use Rattle.std.specs.Coded.{×_prop, Unit-prop}
use Rattle.std.proofs.Props.{props}
use Rattle.plus_fraction.specs.Fraction.{Fraction}
use Rattle.plus_model.specs.Terms.{Expression, Number, Fluent, Sum, Difference, Product, Quotient, Condition, Always, Never, Both, Either, Atom, Compare, Write, Add, Delete, Assign, Increase, Decrease, ScaleUp, ScaleDown, Effect, Event, Process, Timed, Problem}
use Rattle.plus_state.specs.Fits.{IsIn, Fits, WriteFits, AllEffectsFit, EventFits, ProcessFits, AreInOrder, ProblemFits}

IsIn-prop : (n : ℕ) (e : Expression) → IsProp (IsIn n e)
IsIn-prop n (Number x) = Unit-prop
IsIn-prop n (Fluent f) = hlevel props
IsIn-prop n (Sum a b) = ×_prop (IsIn-prop n a) (IsIn-prop n b)
IsIn-prop n (Difference a b) = ×_prop (IsIn-prop n a) (IsIn-prop n b)
IsIn-prop n (Product a b) = ×_prop (IsIn-prop n a) (IsIn-prop n b)
IsIn-prop n (Quotient a b) = ×_prop (IsIn-prop n a) (IsIn-prop n b)

pub Fits-prop : (atoms fluents : ℕ) (c : Condition) → IsProp (Fits atoms fluents c)
Fits-prop atoms fluents Always = Unit-prop
Fits-prop atoms fluents Never = Unit-prop
Fits-prop atoms fluents (Both c d) = ×_prop (Fits-prop atoms fluents c) (Fits-prop atoms fluents d)
Fits-prop atoms fluents (Either c d) = ×_prop (Fits-prop atoms fluents c) (Fits-prop atoms fluents d)
Fits-prop atoms fluents (Atom a positive) = hlevel props
Fits-prop atoms fluents (Compare test left right positive) = ×_prop (IsIn-prop fluents left) (IsIn-prop fluents right)

WriteFits-prop : (atoms fluents : ℕ) (w : Write) → IsProp (WriteFits atoms fluents w)
WriteFits-prop atoms fluents (Add a) = hlevel props
WriteFits-prop atoms fluents (Delete a) = hlevel props
WriteFits-prop atoms fluents (Assign f e) = hlevel (props, IsIn-prop)
WriteFits-prop atoms fluents (Increase f e) = hlevel (props, IsIn-prop)
WriteFits-prop atoms fluents (Decrease f e) = hlevel (props, IsIn-prop)
WriteFits-prop atoms fluents (ScaleUp f e) = hlevel (props, IsIn-prop)
WriteFits-prop atoms fluents (ScaleDown f e) = hlevel (props, IsIn-prop)

pub AllEffectsFit-prop : (atoms fluents : ℕ) (es : List Effect) → IsProp (AllEffectsFit atoms fluents es)
AllEffectsFit-prop atoms fluents [] = Unit-prop
AllEffectsFit-prop atoms fluents (e ∷ es) =
    ×_prop (×_prop (Fits-prop atoms fluents e.guard) (WriteFits-prop atoms fluents e.write)) (AllEffectsFit-prop atoms fluents es)

EventFits-prop : (atoms fluents : ℕ) (e : Event) → IsProp (EventFits atoms fluents e)
EventFits-prop atoms fluents e = hlevel (props, Fits-prop, AllEffectsFit-prop)

ProcessFits-prop : (atoms fluents : ℕ) (p : Process) → IsProp (ProcessFits atoms fluents p)
ProcessFits-prop atoms fluents p = hlevel (props, Fits-prop, IsIn-prop)

AreInOrder-prop : (from : Fraction) (ts : List Timed) → IsProp (AreInOrder from ts)
AreInOrder-prop from [] = Unit-prop
AreInOrder-prop from (t ∷ ts) = ×_prop (hlevel props) (AreInOrder-prop t.time ts)

pub ProblemFits-prop : (P : Problem) → IsProp (ProblemFits P)
ProblemFits-prop P = hlevel (props, EventFits-prop, ProcessFits-prop, AreInOrder-prop, Fits-prop)
