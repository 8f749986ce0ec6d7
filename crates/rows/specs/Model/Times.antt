-- Worked rows of what time moves, of rounds of events, of literals and of the order of lines.
-- The fluents are 0 (6), 1 (4) and 2 (no value).
use Rattle.std.specs.Prelude.{◌≡◌, ℕ, Bool, true, false, List, [], ◌∷◌, Some, None, Ok, Err, pos, negsuc}
use Rattle.plus_fraction.specs.Fraction.{Fraction, whole, over}
use Rattle.plus_model.specs.Terms.{Expression, Number, Fluent, Sum, Quotient, Condition, Always, Atom, Write, Add, Delete, Effect, Rate, Event, Process, State, Problem}
use Rattle.plus_model.specs.Firing.{firing, first_shared, effects_of, Cascade}
use Rattle.plus_model.specs.Running.{rates, moved, holding, first_coupled}
use Rattle.plus_model.specs.Plan.{UnknownAction, Line, ActLine, EndLine, Plan, IsInOrder}
use Rattle.plus_model.specs.History.{View}
use Rattle.plus_model.specs.Trajectory.{literals, until, next_line}
use Rattle.rows.specs.Model.Values.{some_values, unknown}

abbrev pub rate_of : ℕ → Expression → Rate
rate_of fluent amount = record { fluent = fluent; up = true; amount = amount }

abbrev pub fall_of : ℕ → Expression → Rate
fall_of fluent amount = record { fluent = fluent; up = false; amount = amount }

abbrev pub runs : Condition → List Rate → Process
runs condition rates = record { label = []; condition = condition; rates = rates }

-- processes: 0 lifts fluent 0 by 5 and lowers fluent 1 by 1/2, 1 lowers fluent 0 by fluent 1, 2
-- lifts fluent 1 by what has no value, 3 lifts what has no value, 4 lifts fluent 1 by a quotient
-- that reads fluent 0
abbrev pub works : Problem
works = record {
  atoms = 2;
  fluents = 3;
  processes =
      runs (Atom 0 true) (rate_of 0 (Number (whole (pos 5))) ∷ fall_of 1 (Number (over (pos 1) 2)) ∷ [])
      ∷ runs Always (fall_of 0 (Fluent 1) ∷ [])
      ∷ runs (Atom 1 true) (rate_of 1 unknown ∷ [])
      ∷ runs (Atom 1 true) (rate_of 2 (Number (whole (pos 1))) ∷ [])
      ∷ runs (Atom 0 false) (rate_of 1 (Quotient (Number (whole (pos 1))) (Sum (Fluent 2) (Fluent 0))) ∷ [])
      ∷ [];
  events = [];
  timed = [];
  initial = some_values;
  goal = Always;
}

abbrev pub valued : Fraction → Fraction → State
valued x y = record { atoms = true ∷ false ∷ []; fluents = Some x ∷ Some y ∷ None ∷ [] }

abbrev pub three_rates : Fraction → Fraction → Fraction → List Fraction
three_rates x y z = x ∷ y ∷ z ∷ []

pub record RateRows : Type 0 where
  pub hold : holding works some_values ≡ 0 ∷ 1 ∷ []
  pub none :
      rates works some_values [] ≡ Ok (three_rates (whole (pos 0)) (whole (pos 0)) (whole (pos 0)))
  pub one :
      rates works some_values (0 ∷ []) ≡ Ok (three_rates (whole (pos 5)) (over (negsuc 0) 2) (whole (pos 0)))
  pub both :
      rates works some_values (0 ∷ 1 ∷ []) ≡ Ok (three_rates (whole (pos 1)) (over (negsuc 0) 2) (whole (pos 0)))
  pub no_amount : rates works some_values (0 ∷ 2 ∷ []) ≡ Err 1
  pub no_value : rates works some_values (0 ∷ 3 ∷ []) ≡ Err 2
  pub first : rates works some_values (3 ∷ 2 ∷ []) ≡ Err 2
  pub later :
      moved some_values (three_rates (whole (pos 1)) (over (negsuc 0) 2) (whole (pos 7))) (whole (pos 3)) ≡ valued (whole (pos 9)) (over (pos 5) 2)
  pub uncoupled :
      first_coupled works (0 ∷ 1 ∷ []) (three_rates (whole (pos 5)) (whole (pos 0)) (whole (pos 0))) ≡ None
  pub coupled :
      first_coupled works (0 ∷ 1 ∷ []) (three_rates (whole (pos 0)) (whole (pos 1)) (whole (pos 0))) ≡ Some (1, 1)
  pub first_named :
      first_coupled works (1 ∷ 4 ∷ []) (three_rates (whole (pos 1)) (whole (pos 0)) (whole (pos 1))) ≡ Some (4, 2)
  pub second_named :
      first_coupled works (1 ∷ 4 ∷ []) (three_rates (whole (pos 1)) (whole (pos 0)) (whole (pos 0))) ≡ Some (4, 0)

abbrev pub does : Write → Effect
does write = record { guard = Always; write = write }

abbrev pub fires : ℕ → Effect → Effect → Event
fires atom one other = record { label = []; condition = Atom atom true; effects = one ∷ other ∷ [] }

-- events that hand on a token: 0 from atom 0 to 1, 1 from atom 0 to 2, 2 from atom 1 to 3, 3 from
-- atom 4 to itself
abbrev pub chain : Problem
chain = record {
  atoms = 5;
  fluents = 0;
  processes = [];
  events =
      fires 0 (does (Delete 0)) (does (Add 1))
      ∷ fires 0 (does (Delete 0)) (does (Add 2))
      ∷ fires 1 (does (Delete 1)) (does (Add 3))
      ∷ fires 4 (does (Delete 4)) (does (Add 4))
      ∷ [];
  timed =
      record { time = whole (pos 2); atom = 0; positive = true }
      ∷ record { time = whole (pos 2); atom = 1; positive = true }
      ∷ record { time = whole (pos 2); atom = 1; positive = false }
      ∷ record { time = whole (pos 2); atom = 2; positive = false }
      ∷ record { time = whole (pos 5); atom = 0; positive = false }
      ∷ [];
  initial = record { atoms = []; fluents = [] };
  goal = Always;
}

abbrev pub tokens : List Bool → State
tokens atoms = record { atoms = atoms; fluents = [] }

abbrev pub no_token : State
no_token = tokens (false ∷ false ∷ false ∷ false ∷ false ∷ [])

abbrev pub one_token : State
one_token = tokens (true ∷ false ∷ false ∷ false ∷ false ∷ [])

abbrev pub two_tokens : State
two_tokens = tokens (false ∷ true ∷ true ∷ false ∷ false ∷ [])

abbrev pub last_tokens : State
last_tokens = tokens (false ∷ false ∷ true ∷ true ∷ false ∷ [])

abbrev pub loop_token : State
loop_token = tokens (false ∷ false ∷ false ∷ false ∷ true ∷ [])

pub record RoundRows : Type 0 where
  pub none : firing chain no_token ≡ []
  pub together : firing chain one_token ≡ 0 ∷ 1 ∷ []
  pub next : firing chain two_tokens ≡ 2 ∷ []
  pub fresh : first_shared (2 ∷ []) (0 ∷ 1 ∷ []) ≡ None
  pub repeats : first_shared (0 ∷ 2 ∷ 3 ∷ []) (3 ∷ 2 ∷ []) ≡ Some 2
  pub effects :
      effects_of chain (0 ∷ 3 ∷ []) ≡ does (Delete 0) ∷ does (Add 1) ∷ does (Delete 4) ∷ does (Add 4) ∷ []
  pub empty : Cascade chain [] no_token [] no_token
  pub cascade :
      Cascade chain [] one_token ((0 ∷ 1 ∷ [], two_tokens) ∷ (2 ∷ [], last_tokens) ∷ []) last_tokens
  pub endless : firing chain loop_token ≡ 3 ∷ []

abbrev pub at_time : ℕ → ℕ → View
at_time t acted =
    record { time = whole (pos t); state = no_token; fired = []; running = None; acted = acted }

abbrev pub called : ℕ → Line
called t = ActLine (whole (pos t)) (UnknownAction [])

abbrev pub lines_to_nine : Plan
lines_to_nine =
    record { lines = called 1 ∷ called 4 ∷ called 4 ∷ EndLine (whole (pos 9)) ∷ []; closed = false }

pub record TimeRows : Type 0 where
  pub set :
      literals chain (whole (pos 2)) two_tokens ≡ tokens (true ∷ true ∷ false ∷ false ∷ false ∷ [])
  pub untouched : literals chain (whole (pos 3)) two_tokens ≡ two_tokens
  pub cleared : literals chain (whole (pos 5)) one_token ≡ no_token
  pub to_line : until chain lines_to_nine (at_time 0 0) ≡ whole (pos 1)
  pub to_literal : until chain lines_to_nine (at_time 1 1) ≡ whole (pos 2)
  pub past_literal : until chain lines_to_nine (at_time 2 1) ≡ whole (pos 4)
  pub now : until chain lines_to_nine (at_time 4 2) ≡ whole (pos 4)
  pub before_end : until chain lines_to_nine (at_time 4 3) ≡ whole (pos 5)
  pub to_end : until chain lines_to_nine (at_time 5 3) ≡ whole (pos 9)
  pub no_line : until chain (record { lines = []; closed = true }) (at_time 1 0) ≡ whole (pos 1)
  pub last : next_line lines_to_nine (at_time 4 3) ≡ Some (EndLine (whole (pos 9)))
  pub in_order : IsInOrder lines_to_nine.lines
  pub goes_back : IsInOrder (called 4 ∷ called 3 ∷ []) → ⊥
  pub after_end : IsInOrder (EndLine (whole (pos 1)) ∷ called 1 ∷ []) → ⊥
