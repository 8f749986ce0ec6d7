-- The lines of a timed plan (this project's profile): each action behind its time, and the end.
use Rattle.std.specs.Prelude.{ℕ, List, ◌++◌, map, codes}
use Rattle.std.specs.List.{flat_map}
use Rattle.plus_fraction.specs.Fraction.{Fraction}
use Rattle.plus_report.specs.Text.{newline, fraction_text}

-- an action by its label, with its time
abbrev pub Timed : Type 0
Timed = Fraction × List ℕ

-- the times as fractions
abbrev pub acts_of : {Q : Type 0} → (Q → Fraction) → List (Q × List ℕ) → List Timed
acts_of v acts = map (λ a. (v a.0, a.1)) acts

-- `T: (a b)`
abbrev pub act_line : Timed → List ℕ
act_line a = fraction_text a.0 ++ (codes ": " ++ a.1 ++ newline)

-- `T: @end`
abbrev pub end_line : Fraction → List ℕ
end_line t = fraction_text t ++ codes ": @end\n"

abbrev pub plan_text : List Timed → Fraction → List ℕ
plan_text acts t = flat_map act_line acts ++ end_line t
