-- Worked rows of moments with literals, and of changes.
use Rattle.std.specs.Prelude.{◌≡◌, true, false, [], ◌∷◌, Some, None, pos, negsuc, codes}
use Rattle.plus_fraction.specs.Fraction.{over, whole}
use Rattle.plus_model.specs.Terms.{Problem}
use Rattle.plus_model.specs.Plan.{EndLine}
use Rattle.plus_model.specs.History.{Enter, Round, Act, Run}
use Rattle.plus_state.specs.View.{Labels}
use Rattle.plus_report.specs.Report.{report_of}
use Rattle.plus_report.specs.Rows.{problem_with, state_with, act_line, plan_of, tank_labels, tank_at, tank}

-- literals at 0 and at 2, the second of which changes nothing
abbrev pub at_zero : Problem
at_zero = tank (record { time = whole (pos 0); atom = 0; positive = true } ∷ record { time = whole (pos 2); atom = 0; positive = true } ∷ [])

-- literals stand behind the new values of a moment, also where they change nothing
abbrev pub ZeroRow : Type 0
ZeroRow =
    report_of tank_labels at_zero (plan_of (EndLine (whole (pos 2)) ∷ []))
    (Enter (whole (pos 0)) (tank_at false 0) (tank_at true 0) ∷ Run (0 ∷ []) ∷ Enter (whole (pos 2)) (tank_at true 4) (tank_at true 4) ∷ [])
    ≡ codes "at 0\n  literals\n    + (open)\n  run (fill)\nat 2\n  (level) = 4\n  literals\n"

-- three atoms and three fluents
abbrev pub labels : Labels
labels = record { atoms = codes "(a)" ∷ codes "(b)" ∷ codes "(c)" ∷ []; fluents = codes "(x)" ∷ codes "(y)" ∷ codes "(z)" ∷ [] }

-- atoms lost, then gained, then fluents with another value, a first one too, in ground order; and two events and processes
abbrev pub ChangesRow : Type 0
ChangesRow =
    report_of labels
    (problem_with (codes "(p0)" ∷ codes "(p1)" ∷ []) (codes "(e0)" ∷ codes "(e1)" ∷ codes "(e2)" ∷ []) [] (state_with (false ∷ true ∷ true ∷ []) (Some (whole (pos 1)) ∷ None ∷ Some (whole (pos 3)) ∷ [])))
    (plan_of (act_line (whole (pos 0)) (codes "(first a)") ∷ act_line (whole (pos 0)) (codes "(second)") ∷ []))
    (Enter (whole (pos 0)) (state_with (false ∷ true ∷ true ∷ []) (Some (whole (pos 1)) ∷ None ∷ Some (whole (pos 3)) ∷ [])) (state_with (false ∷ true ∷ true ∷ []) (Some (whole (pos 1)) ∷ None ∷ Some (whole (pos 3)) ∷ []))
    ∷ Round (0 ∷ 2 ∷ []) (state_with (true ∷ false ∷ false ∷ []) (Some (over (negsuc 0) 2) ∷ Some (whole (pos 0)) ∷ Some (whole (pos 3)) ∷ []))
    ∷ Act 0 (state_with (true ∷ false ∷ false ∷ []) (Some (over (negsuc 0) 2) ∷ Some (whole (pos 0)) ∷ Some (whole (pos 3)) ∷ []))
    ∷ Act 1 (state_with (true ∷ false ∷ true ∷ []) (Some (over (negsuc 0) 2) ∷ Some (whole (pos 0)) ∷ Some (whole (pos 3)) ∷ []))
    ∷ Run (0 ∷ 1 ∷ []) ∷ [])
    ≡ codes "at 0\n  events (e0) (e2)\n    - (b)\n    - (c)\n    + (a)\n    (x) = -1/2\n    (y) = 0\n  act (first a)\n  act (second)\n    + (c)\n  run (p0) (p1)\n"
