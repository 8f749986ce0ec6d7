-- A goal that can never be reached any more, as far as atoms alone tell.
use Rattle.std.specs.Prelude.{ℕ, Bool, true, false, not, ◌||◌, List, [], ◌∷◌, if◌then◌else◌}
use Rattle.plus_model.specs.Terms.{Condition, Both, Atom, Action, State, Problem}
use Rattle.plus_model.specs.Value.{atom_of}
use Rattle.plus_never.specs.Adds.{something_adds}

-- where the condition is a positive atom, it stands before these
abbrev pub before_atoms : Condition → List ℕ → List ℕ
before_atoms (Atom a true) rest = a ∷ rest
before_atoms _ rest = rest

-- the positive atoms among the members of the goal, or the goal where it is one
abbrev pub goal_atoms : Condition → List ℕ
goal_atoms (Both c d) = before_atoms c (goal_atoms d)
goal_atoms (Atom a true) = a ∷ []
goal_atoms _ = []

-- those that nothing adds
abbrev pub never_added : Problem → List Action → List ℕ → List ℕ
never_added P actions [] = []
never_added P actions (a ∷ bs) =
    if something_adds a P actions then never_added P actions bs else a ∷ never_added P actions bs

-- those of the goal
abbrev pub lost_atoms : Problem → List Action → List ℕ
lost_atoms P actions = never_added P actions (goal_atoms P.goal)

-- one of these atoms is false in the state
abbrev pub some_false : List ℕ → State → Bool
some_false [] s = false
some_false (a ∷ bs) s = not (atom_of s a) || some_false bs s

-- the cut: a member of the goal is an atom that is false in the state, and nothing adds it
abbrev pub lost : Problem → List Action → State → ℕ → Bool
lost P actions s m = some_false (lost_atoms P actions) s
