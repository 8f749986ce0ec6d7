-- The lines of a plan text by the tokens that spell them, as a domain and a problem are told.
use Rattle.std.specs.Prelude.{◌≡◌, ◌↔◌, ℕ, ◌+◌, List, [], ◌∷◌, map, Ok}
use Rattle.plus_plan.specs.declared.forms.Line.{Line}
use Rattle.plus_plan.specs.declared.forms.PlanForm.{PlanForm}
use Rattle.plus_plan.specs.Cut.{lines_of}
use Rattle.plus_plan.specs.Lines.{plan_lines}
use Rattle.plus_plan.specs.Spells.{Spells}

-- each of these pieces of a text spells its line, of which the first has this number
abbrev pub SpellsEach : PlanForm → ℕ → List (List ℕ) → List Line → Type 0
SpellsEach form n [] [] = Unit {0}
SpellsEach form n [] (line ∷ lines) = ⊥
SpellsEach form n (bytes ∷ rest) [] = ⊥
SpellsEach form n (bytes ∷ rest) (line ∷ lines) = Spells form n line bytes × SpellsEach form (n + 1) rest lines

-- a text, cut at each LF, is said to have these lines exactly where each piece spells its line
abbrev pub LinesAreSpelled : Type 0
LinesAreSpelled =
    (form : PlanForm) (text : List ℕ) (lines : List Line)
    → (plan_lines form text ≡ map Ok lines) ↔ SpellsEach form 1 (lines_of text) lines
