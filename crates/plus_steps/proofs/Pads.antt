-- States of the translation by the events that have fired.
use Rattle.std.specs.Prelude.{ℕ, suc, Bool, List, [], ◌∷◌}
use Rattle.plus_model.specs.Terms.{Event, State, Problem}
use Rattle.plus_model.specs.Firing.{is_in}
use Rattle.plus_steps.specs.Translation.{with_marks}

-- the marks of the events from number k on
abbrev pub marks_from : List ℕ → ℕ → List Event → List Bool
marks_from fired k [] = []
marks_from fired k (e ∷ events) = is_in fired k ∷ marks_from fired (suc k) events

abbrev pub pad : Problem → List ℕ → ℕ → State → State
pad P fired n s = with_marks P (marks_from fired 0 P.events) n s
