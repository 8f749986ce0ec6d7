-- The laws of reports that a writer of reports stands on.
use Rattle.std.specs.Prelude.{◌≡◌, Bool, List, [], ◌∷◌, ◌++◌}
use Rattle.plus_model.specs.Terms.{Problem}
use Rattle.plus_model.specs.Plan.{Line, Plan}
use Rattle.plus_model.specs.History.{Part}
use Rattle.plus_model.specs.Trajectory.{Prefix, view_of}
use Rattle.plus_state.specs.View.{Labels}
use Rattle.plus_report.specs.Report.{part_text, report_of}

-- one more part adds its text, after the state of the view
abbrev pub ReportGrows : Type 0
ReportGrows =
    (N : Labels) (P : Problem) (L : Plan) (h : List Part) (part : Part)
    → Prefix P L h
    → report_of N P L (h ++ part ∷ []) ≡ report_of N P L h ++ part_text N P L (view_of P h).state part

-- lines that come later in the plan, and its end, change nothing in the report of what was done
abbrev pub ReportStays : Type 0
ReportStays =
    (N : Labels) (P : Problem) (L : Plan) (more : List Line) (closed : Bool) (h : List Part)
    → Prefix P L h
    → report_of N P (record { lines = L.lines ++ more; closed = closed }) h ≡ report_of N P L h
