-- A worked row: one process raises (x) from 0 by 1, one event has the condition (>= (x) 5); a set with the process runs, up to 8.
use Rattle.std.specs.Prelude.{◌≡◌, ℕ, true, false, [], ◌∷◌, Some, pos}
use Rattle.plus_fraction.specs.Fraction.{Fraction, whole}
use Rattle.plus_model.specs.Terms.{Number, Fluent, AtLeast, Always, Compare, Problem}
use Rattle.plus_model.specs.Plan.{Plan, EndLine}
use Rattle.plus_model.specs.History.{View}
use Rattle.plus_state.specs.declared.term.Sign.TheVariants.{Plus, Minus, Times, Divide}
use Rattle.plus_state.specs.Asked.{node}
use Rattle.plus_stretch.specs.Tests.{asks}
use Rattle.plus_timeline.specs.Asked.{asked}

abbrev pub number : ℕ → Fraction
number n = whole (pos n)

abbrev pub ramp : Problem
ramp = record {
  atoms = 0;
  fluents = 1;
  processes = record { label = []; condition = Always; rates = record { fluent = 0; up = true; amount = Number (number 1) } ∷ [] } ∷ [];
  events = record { label = []; condition = Compare AtLeast (Fluent 0) (Number (number 5)) true; effects = [] } ∷ [];
  timed = [];
  initial = record { atoms = []; fluents = Some (number 0) ∷ [] };
  goal = Always;
}

abbrev pub plan : Plan
plan = record { lines = EndLine (number 8) ∷ []; closed = false }

abbrev pub running : View
running = record { time = number 0; state = ramp.initial; fired = []; running = Some (0 ∷ []); acted = 0 }

-- the time that is left; the root of the event, which is 5; and there the moment and the moved value, where the entry begins
abbrev pub RampRow : Type 0
RampRow =
    asked ramp plan 10 (λ _. []) 1 running
    ≡ asks (node Minus (number 8) (number 0)) ∷ asks (node Minus (number 5) (number 0)) ∷ asks (node Minus (number 1) (number 0)) ∷ asks (node Divide (number 5) (number 1))
    ∷ asks (node Plus (number 0) (number 5)) ∷ asks (node Times (number 1) (number 5)) ∷ asks (node Plus (number 0) (number 5)) ∷ []
