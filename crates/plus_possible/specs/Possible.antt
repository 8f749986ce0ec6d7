-- Which actions may be done, as far as atoms alone tell. One may not where its condition asks an atom, in the positive, that is false
-- at the beginning and that nothing adds: no effect of a ground action or event, and no timed literal. It asks it alone, as a member
-- of an `and`, or by each member of an `or`.
use Rattle.std.specs.Prelude.{◌≡◌, ℕ, Bool, true, false, not, ◌&&◌, ◌||◌, List, filter, Some, slice_get, slice_index_or}
use Rattle.plus_model.specs.Terms.{Condition, Always, Never, Both, Either, Atom, Compare, Action, State, Problem}
use Rattle.plus_model.specs.Value.{atom_of}
use Rattle.plus_state.specs.Fits.{ActionFits}
use Rattle.plus_planner.specs.Grid.{Task}
use Rattle.plus_never.specs.Adds.{something_adds}

-- the atom is true at the beginning, or something adds it
abbrev pub may_be_true : Problem → List Action → ℕ → Bool
may_be_true P actions a = atom_of P.initial a || something_adds a P actions

-- the condition may hold where no atoms but these are ever true
abbrev pub may_hold : (ℕ → Bool) → Condition → Bool
may_hold may Always = true
may_hold may Never = false
may_hold may (Both c d) = may_hold may c && may_hold may d
may_hold may (Either c d) = may_hold may c || may_hold may d
may_hold may (Atom a positive) = not positive || may a
may_hold may (Compare test left right positive) = true

-- one of these actions may be done
abbrev pub possible : Problem → List Action → Action → Bool
possible P actions x = may_hold (may_be_true P actions) x.condition

-- those of these actions that may be done, in their order
abbrev pub possible_actions : Problem → List Action → List Action
possible_actions P actions = filter (possible P actions) actions

-- the search over these alone
abbrev pub narrowed : Task → Task
narrowed task = record {
  problem = task.problem;
  actions = possible_actions task.problem task.actions;
  interval = task.interval;
  most = task.most;
}

-- the atom is true in the state, or it is marked
abbrev pub may_by : List Bool → State → ℕ → Bool
may_by marks s a = atom_of s a || slice_index_or marks a false

-- the ids of each of these actions are those of the problem
abbrev pub AllFit : Problem → List Action → Type 0
AllFit P actions = (k : ℕ) (action : Action) → slice_get actions k ≡ Some action → ActionFits P.atoms P.fluents action
