-- Worked rows of running sets over two fluents x and y: sets that do not confirm themselves, and
-- rates that name fluents. Plans end at 8.
use Rattle.std.specs.Prelude.{true, false, List, [], ◌∷◌}
use Rattle.plus_model.specs.Terms.{Number, Fluent, Product, AtMost, Above, Always, Problem}
use Rattle.plus_model.specs.History.{Part, Run}
use Rattle.rows.specs.Model.Rises.{n, values, if_x, moves, up, world, world_of, enter}

-- x is 5, where process 1 holds, which raises it; so process 0 holds just after and is chosen. But it
-- lowers x, and so at its own rate it does not hold just after.
abbrev pub stopping_world : Problem
stopping_world =
    world_of (values 5 0) (moves (if_x Above 5) 0 false (Number (n 1)) ∷ moves (if_x AtMost 5) 0 true (Number (n 1)) ∷ []) []

-- x is 5, where both hold; just after, process 1 does not, and so process 0 is chosen alone. At its
-- rate, which moves y, it runs, and process 1 would run beside it.
abbrev pub second_world : Problem
second_world =
    world_of (values 5 0) (moves Always 1 true (Number (n 1)) ∷ moves (if_x AtMost 5) 0 true (Number (n 1)) ∷ []) []

-- the rate of x is 0 * y, and y moves
abbrev pub times_zero_world : Problem
times_zero_world =
    world (moves Always 0 true (Product (Number (n 0)) (Fluent 1)) ∷ moves Always 1 true (Number (n 1)) ∷ []) []

-- the rate of x is x
abbrev pub self_world : Problem
self_world = world_of (values 1 0) (moves Always 0 true (Fluent 0) ∷ []) []

-- x goes up and down by 1, and the rate of y is x
abbrev pub cancelling_world : Problem
cancelling_world =
    world_of (values 3 0) (up ∷ moves Always 0 false (Number (n 1)) ∷ moves Always 1 true (Fluent 0) ∷ []) []

abbrev pub cancelling_history : List Part
cancelling_history =
    enter 0 (values 3 0) ∷ Run (0 ∷ 1 ∷ 2 ∷ [])
    ∷ enter 8 (values 3 24)
    ∷ []

-- x falls by 1 while it is above 3
abbrev pub falling_world : Problem
falling_world = world_of (values 8 0) (moves (if_x Above 3) 0 false (Number (n 1)) ∷ []) []

abbrev pub falling_history : List Part
falling_history =
    enter 0 (values 8 0) ∷ Run (0 ∷ [])
    ∷ enter 5 (values 3 0) ∷ Run []
    ∷ enter 8 (values 3 0)
    ∷ []
