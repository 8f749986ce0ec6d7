-- The lines of constraints that are watched (this project's profile).
use Rattle.std.specs.Prelude.{ℕ, zero, suc, Bool, true, false, ◌&&◌, List, [], ◌++◌, length, Option, Some, None, slice_get, codes, decimal}
use Rattle.plus_number.specs.declared.frac.Frac64.{Frac64}
use Rattle.plus_number.specs.Frac.{fraction_of}
use Rattle.plus_state.specs.declared.term.Overflow.{Overflow}
use Rattle.plus_crossing.specs.declared.node.CondStop.{CondStop}
use Rattle.plus_crossing.specs.declared.node.CondStop.TheVariants.{Number, Nonlinear}
use Rattle.plus_report.specs.Text.{newline, fraction_text, lines_below}
use Rattle.plus_report.specs.Verdicts.{sign_text}
use Rattle.plus_constraints.specs.Constraint.{When, Always, Sometime, Within, HoldAfter, Constraint}
use Rattle.plus_constraints.specs.Found.{Found, Holds, Never, FailsAt, FailsAfter}
use Rattle.plus_constraints.specs.Place.{Place, told}

-- ---- what is found

abbrev pub rule_name : When → List ℕ
rule_name Always = codes "always"
rule_name Sometime = codes "sometime"
rule_name (Within t) = codes "within"
rule_name (HoldAfter t) = codes "hold-after"

-- the number of a constraint and its name
unfoldable pub rule_text : ℕ → When → List ℕ
rule_text k w = ([] ++ decimal k ++ codes " ") ++ rule_name w

abbrev pub found_text : Found → List ℕ
found_text Holds = codes ": holds\n"
found_text Never = codes ": never\n"
found_text (FailsAt t) = codes ": fails at " ++ (fraction_text t ++ newline)
found_text (FailsAfter t) = codes ": fails after " ++ (fraction_text t ++ newline)

-- `K NAME: holds`, and so on
unfoldable pub rule_line : ℕ → When → Found → List ℕ
rule_line k w f = rule_text k w ++ found_text f

-- what the first place of a constraint tells, if one is told of it
abbrev pub found_at : Constraint → Option (Option Place) → Found
found_at c None = told c.when None
found_at c (Some o) = told c.when o

-- the line of the constraint at a place of a list, which counts from 0
abbrev pub line_of : ℕ → Option Constraint → Option (Option Place) → List ℕ
line_of i None o = []
line_of i (Some c) o = rule_line (suc i) c.when (found_at c o)

abbrev pub line_at : List Constraint → List (Option Place) → ℕ → List ℕ
line_at cs os i = line_of i (slice_get cs i) (slice_get os i)

-- a line for each
unfoldable pub found_lines : List Constraint → List (Option Place) → List ℕ
found_lines cs os = lines_below (line_at cs os) (length cs)

-- ---- whether all hold

abbrev pub is_held : Found → Bool
is_held Holds = true
is_held Never = false
is_held (FailsAt t) = false
is_held (FailsAfter t) = false

abbrev pub holds_at : Option Constraint → Option (Option Place) → Bool
holds_at None o = true
holds_at (Some c) o = is_held (found_at c o)

-- the first n of them do
abbrev pub held_below : List Constraint → List (Option Place) → ℕ → Bool
held_below cs os zero = true
held_below cs os (suc n) = held_below cs os n && holds_at (slice_get cs n) (slice_get os n)

unfoldable pub all_held : List Constraint → List (Option Place) → Bool
all_held cs os = held_below cs os (length cs)

-- ---- a limit

-- `A + B`
unfoldable pub operation_at : Overflow Frac64 → List ℕ
operation_at o = fraction_text (fraction_of o.left) ++ (sign_text o.sign ++ fraction_text (fraction_of o.right))

unfoldable pub number_text : ℕ → Overflow Frac64 → List ℕ
number_text k o = codes "beyond: number " ++ (operation_at o ++ (codes " in constraint " ++ decimal k ++ newline))

unfoldable pub nonlinear_text : ℕ → ℕ → List ℕ
nonlinear_text k j = (codes "beyond: nonlinear in constraint " ++ decimal k ++ codes ", comparison ") ++ ([] ++ decimal j ++ newline)

-- the condition of the constraint with this number meets this limit
abbrev pub limit_line : ℕ → CondStop Frac64 → List ℕ
limit_line k (Number o) = number_text k o
limit_line k (Nonlinear j) = nonlinear_text k j
