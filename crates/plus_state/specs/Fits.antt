-- Ids fit: an id is a place in the list of its kind, so it is below the number of members there.
use Rattle.std.specs.Prelude.{◌≡◌, ℕ, ◌<◌, ◌+◌, ◌^◌, List, [], ◌∷◌, length, All, pos}
use Rattle.plus_fraction.specs.Fraction.{Fraction, whole, ◌≤ℚ◌}
use Rattle.plus_model.specs.Terms.{Expression, Number, Fluent, Sum, Difference, Product, Quotient, Condition, Always, Never, Both, Either, Atom, Compare, Write, Add, Delete, Assign, Increase, Decrease, ScaleUp, ScaleDown, Effect, Rate, Action, Event, Process, Timed, State, Problem}

-- each fluent of an expression is below this number
abbrev pub IsIn : ℕ → Expression → Type 0
IsIn n (Number x) = Unit {0}
IsIn n (Fluent f) = f < n
IsIn n (Sum a b) = IsIn n a × IsIn n b
IsIn n (Difference a b) = IsIn n a × IsIn n b
IsIn n (Product a b) = IsIn n a × IsIn n b
IsIn n (Quotient a b) = IsIn n a × IsIn n b

-- each atom of a condition is below the first number, each fluent below the second
abbrev pub Fits : ℕ → ℕ → Condition → Type 0
Fits atoms fluents Always = Unit {0}
Fits atoms fluents Never = Unit {0}
Fits atoms fluents (Both c d) = Fits atoms fluents c × Fits atoms fluents d
Fits atoms fluents (Either c d) = Fits atoms fluents c × Fits atoms fluents d
Fits atoms fluents (Atom a positive) = a < atoms
Fits atoms fluents (Compare test left right positive) = IsIn fluents left × IsIn fluents right

abbrev pub WriteFits : ℕ → ℕ → Write → Type 0
WriteFits atoms fluents (Add a) = a < atoms
WriteFits atoms fluents (Delete a) = a < atoms
WriteFits atoms fluents (Assign f e) = (f < fluents) × IsIn fluents e
WriteFits atoms fluents (Increase f e) = (f < fluents) × IsIn fluents e
WriteFits atoms fluents (Decrease f e) = (f < fluents) × IsIn fluents e
WriteFits atoms fluents (ScaleUp f e) = (f < fluents) × IsIn fluents e
WriteFits atoms fluents (ScaleDown f e) = (f < fluents) × IsIn fluents e

abbrev pub EffectFits : ℕ → ℕ → Effect → Type 0
EffectFits atoms fluents e = Fits atoms fluents e.guard × WriteFits atoms fluents e.write

abbrev pub AllEffectsFit : ℕ → ℕ → List Effect → Type 0
AllEffectsFit atoms fluents [] = Unit {0}
AllEffectsFit atoms fluents (e ∷ es) = EffectFits atoms fluents e × AllEffectsFit atoms fluents es

abbrev pub RateFits : ℕ → Rate → Type 0
RateFits fluents r = (r.fluent < fluents) × IsIn fluents r.amount

abbrev pub ActionFits : ℕ → ℕ → Action → Type 0
ActionFits atoms fluents a = Fits atoms fluents a.condition × AllEffectsFit atoms fluents a.effects

-- how many comparisons a condition has
abbrev pub comparisons : Condition → ℕ
comparisons Always = 0
comparisons Never = 0
comparisons (Both c d) = comparisons c + comparisons d
comparisons (Either c d) = comparisons c + comparisons d
comparisons (Atom a positive) = 0
comparisons (Compare test left right positive) = 1

-- the comparisons of an event and of a process are numbered by 32 bits
pub record EventFits (atoms fluents : ℕ) (e : Event) : Type 0 where
  pub condition : Fits atoms fluents e.condition
  pub effects : AllEffectsFit atoms fluents e.effects
  pub few : comparisons e.condition < 2 ^ 32

pub record ProcessFits (atoms fluents : ℕ) (p : Process) : Type 0 where
  pub condition : Fits atoms fluents p.condition
  pub rates : All (RateFits fluents) p.rates
  pub few : comparisons p.condition < 2 ^ 32

-- a state is one for these numbers of atoms and fluents
pub record StateFits (atoms fluents : ℕ) (s : State) : Type 0 where
  pub atoms_fit : length s.atoms ≡ atoms
  pub fluents_fit : length s.fluents ≡ fluents

-- the times of these literals do not fall, from this time on
abbrev pub AreInOrder : Fraction → List Timed → Type 0
AreInOrder from [] = Unit {0}
AreInOrder from (t ∷ ts) = (from ≤ℚ t.time) × AreInOrder t.time ts

-- all ids of a ground problem fit, its initial state is one for its atoms and fluents, its timed literals come in the order
-- of their times, none before 0, and an id has 32 bits
pub record ProblemFits (P : Problem) : Type 0 where
  pub processes : All (ProcessFits P.atoms P.fluents) P.processes
  pub events : All (EventFits P.atoms P.fluents) P.events
  pub timed : All (λ (t : Timed). t.atom < P.atoms) P.timed
  pub in_order : AreInOrder (whole (pos 0)) P.timed
  pub initial : StateFits P.atoms P.fluents P.initial
  pub goal : Fits P.atoms P.fluents P.goal
  pub few_atoms : P.atoms < 2 ^ 32
  pub few_fluents : P.fluents < 2 ^ 32
  pub few_processes : length P.processes < 2 ^ 32
  pub few_events : length P.events < 2 ^ 32
