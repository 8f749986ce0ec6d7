-- What an evaluation answers: all nodes fit and the value is meant, or the first node that does not fit.
use Rattle.std.specs.Prelude.{List, Result, MatchResult}
use Rattle.plus_fraction.specs.Fraction.{Fraction}
use Rattle.plus_state.specs.declared.term.Overflow.{Overflow}
use Rattle.plus_state.specs.Node.{Node}
use Rattle.plus_state.specs.View.{overflow_of}
use Rattle.plus_state.specs.Asked.{AllFit, FirstUnfit}

abbrev pub Tells : {Q A : Type 0} → (Q → Fraction) → (Fraction → Type 0) → List Node → (A → Type 0) → Result A (Overflow Q) → Type 0
Tells v fits ns ok r = MatchResult r (λ x. AllFit fits ns × ok x) (λ w. FirstUnfit fits ns (overflow_of v w))
