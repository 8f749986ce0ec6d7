-- The tests that are asked along a running set, in the order of evaluation (this project's profile): events just after the
-- present moment, the time that is left, all roots, and then from crossing to crossing up to the end.
use Rattle.std.specs.Prelude.{ℕ, suc, List, [], ◌∷◌, ◌++◌, map, Option, Some, None, Result, Ok, Err, if◌then◌else◌}
use Rattle.plus_fraction.specs.Fraction.{Fraction, ◌+ℚ◌, ◌-ℚ◌}
use Rattle.plus_model.specs.Terms.{Condition, Event, State, Problem}
use Rattle.plus_model.specs.Firing.{firing}
use Rattle.plus_model.specs.Running.{rates, moved}
use Rattle.plus_model.specs.Piece.{after}
use Rattle.plus_model.specs.Live.{live}
use Rattle.plus_model.specs.History.{View}
use Rattle.plus_model.specs.Breach as model
use Rattle.plus_state.specs.declared.term.Sign.TheVariants.{Plus, Minus}
use Rattle.plus_state.specs.Asked.{node}
use Rattle.plus_cascade.specs.Steps.{condition_nodes}
use Rattle.plus_crossing.specs.Asked.{Ask}
use Rattle.plus_crossing.specs.Conds.{live_asks}
use Rattle.plus_crossing.specs.Next.{cross_asks}
use Rattle.plus_crossing.specs.Moves.{moved_nodes}
use Rattle.plus_settle.specs.Confirms.{go_steps, first_other}
use Rattle.plus_stretch.specs.Tests.{Whose, event, process, Test, asks, breach, of_ask, of_settle}
use Rattle.plus_stretch.specs.Crossings.{all_roots, rising_below}

abbrev pub owned : Whose → List Ask → List Test
owned w ts = map (of_ask w) ts

-- events from number k on, up to the first that holds just after the moment t: it has no first moment. Then comes the rest
abbrev pub after_tests : Fraction → ℕ → List Event → State → List Fraction → List Test → List Test
after_tests t k [] s rs rest = rest
after_tests t k (e ∷ es) s rs rest =
    owned (event k) (live_asks 0 e.condition s rs)
    ++ (if after (live e.condition s) s rs then breach (model.NoFirstMoment k t) ∷ [] else after_tests t (suc k) es s rs rest)

-- what it asks to find the roots of the conditions of a list, from number k on
abbrev pub root_tests_in : {A : Type 0} → (ℕ → Whose) → (A → Condition) → ℕ → List A → State → List Fraction → List Test
root_tests_in whose condition k [] s rs = []
root_tests_in whose condition k (x ∷ xs) s rs = owned (whose k) (cross_asks 0 (condition x) s rs) ++ root_tests_in whose condition (suc k) xs s rs

unfoldable pub root_tests : Problem → State → List Fraction → List Test
root_tests P s rs = root_tests_in event (λ e. e.condition) 0 P.events s rs ++ root_tests_in process (λ p. p.condition) 0 P.processes s rs

abbrev pub if_none : {A : Type 0} → Option A → List Test → List Test
if_none None ts = ts
if_none (Some x) ts = []

abbrev pub if_empty : List ℕ → List Test → List Test
if_empty [] ts = ts
if_empty (x ∷ xs) ts = []

-- in a state on the way, at the time t: all events there; where none holds all processes just after, up to the first that
-- differs; where none does all events just after, and then the rest
unfoldable pub here_tests : Problem → Fraction → State → List ℕ → List Fraction → List Test → List Test
here_tests P t s R rs rest =
    map asks (condition_nodes P.events s)
    ++ if_empty (firing P s) (map of_settle (go_steps P R s rs) ++ if_none (first_other R 0 P.processes s rs) (after_tests t 0 P.events s rs rest))

-- at one crossing, r after the beginning at the time t: the moment, the moved state, and what is asked there
unfoldable pub crossing_tests : Problem → Fraction → State → List ℕ → List Fraction → Fraction → List Test → List Test
crossing_tests P t s R rs r rest = (asks (node Plus t r) ∷ map asks (moved_nodes s.fluents rs r)) ++ here_tests P (t +ℚ r) (moved s rs r) R rs rest

-- from crossing to crossing, and then to the end
abbrev pub walk_tests : Problem → Fraction → State → List ℕ → List Fraction → Fraction → List Fraction → List Test
walk_tests P t s R rs len [] = map asks (moved_nodes s.fluents rs len)
walk_tests P t s R rs len (r ∷ roots) = crossing_tests P t s R rs r (walk_tests P t s R rs len roots)

abbrev pub with_rates : Result (List Fraction) ℕ → (List Fraction → List Test) → List Test
with_rates (Err f) more = []
with_rates (Ok rs) more = more rs

-- along a running set up to the moment u
unfoldable pub stretch_tests : Problem → Fraction → View → List ℕ → List Test
stretch_tests P u v R = with_rates (rates P v.state R) (λ rs.
    after_tests v.time 0 P.events v.state rs (asks (node Minus u v.time) ∷ (root_tests P v.state rs
    ++ walk_tests P v.time v.state R rs (u -ℚ v.time) (rising_below (u -ℚ v.time) (all_roots P v.state rs)))))
