use Rattle.std.proofs.Common.{◌≡◌, ℕ, List, drop}
use Rattle.plus_state.specs.View.{problem_of}
use Rattle.plus_state.specs.Numbers.{event_numbers}
use Rattle.plus_state.specs.Walk.{event_conditions}
use Rattle.plus_state.proofs.LookingLemmas.{Looking}
use Rattle.plus_stretch.specs.Here.{is_some_of}
use Rattle.plus_stretch.proofs.crossing.event_holds.Given as goal

-- those that were looked at so far and hold, and whether there is one
abbrev pub invariant-each : goal.invariant-each
invariant-each g l =
    (held : List ℕ) × Looking g.Q.Exact.fits held (event_numbers (drop l.event-index l.events)) (event_numbers l.events) (event_conditions (problem_of g.Q.Exact.value l.ground)) l.state
    × (l.found ≡ is_some_of held)
