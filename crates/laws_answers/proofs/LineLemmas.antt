-- The lines of a plan text are those that its pieces spell.
use Rattle.std.proofs.Common.{◌≡◌, ◌↔◌, ℕ, ◌+◌, List, [], ◌∷◌, refl, ap, ◌∙◌, map}
use Rattle.std.specs.Prelude.{Result, Ok}
use Rattle.plus_plan.specs.declared.faults.PlanFault.{PlanFault}
use Rattle.plus_plan.specs.declared.forms.Line.{Line}
use Rattle.plus_plan.specs.declared.forms.PlanForm.{PlanForm}
use Rattle.plus_plan.specs.Cut.{lines_of}
use Rattle.plus_plan.specs.Lines.{read_line, numbered}
use Rattle.plus_plan.specs.Spells.{Spells}
use Rattle.laws_answers.specs.Lines.{SpellsEach, LinesAreSpelled}

-- the law on one line, as it is stated there
abbrev ReadAsSpelled : Type 0
ReadAsSpelled = (form : PlanForm) (n : ℕ) (bytes : List ℕ) (l : Line) → (read_line form n bytes ≡ Ok l) ↔ Spells form n l bytes

module _ (law : ReadAsSpelled) (form : PlanForm) where
  spelled : (n : ℕ) (pieces : List (List ℕ)) (lines : List Line) → numbered form n pieces ≡ map Ok lines → SpellsEach form n pieces lines
  spelled n [] [] e = tt
  spelled n [] (line ∷ lines) e = cc e
  spelled n (bytes ∷ rest) [] e = cc e
  spelled n (bytes ∷ rest) (line ∷ lines) e =
      let f : read_line form n bytes ∷ numbered form (n + 1) rest ≡ Ok line ∷ map Ok lines = e in
      let head : read_line form n bytes ≡ Ok line = cc f in
      let tail : numbered form (n + 1) rest ≡ map Ok lines = cc f in
      ((law form n bytes line).0 head, spelled (n + 1) rest lines tail)

  numbered_so : (n : ℕ) (pieces : List (List ℕ)) (lines : List Line) → SpellsEach form n pieces lines → numbered form n pieces ≡ map Ok lines
  numbered_so n [] [] h = refl
  numbered_so n [] (line ∷ lines) h = absurd h
  numbered_so n (bytes ∷ rest) [] h = absurd h
  numbered_so n (bytes ∷ rest) (line ∷ lines) h =
      ap (λ (x : Result Line PlanFault). x ∷ numbered form (n + 1) rest) ((law form n bytes line).1 h.0)
      ∙ ap (λ (xs : List (Result Line PlanFault)). Ok line ∷ xs) (numbered_so (n + 1) rest lines h.1)

pub lines_are_spelled : ReadAsSpelled → LinesAreSpelled
lines_are_spelled law form text lines = (spelled law form 1 (lines_of text) lines, numbered_so law form 1 (lines_of text) lines)
