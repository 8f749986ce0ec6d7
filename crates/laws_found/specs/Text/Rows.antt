-- Plans written out, byte by byte, and one read line by line.
use Rattle.std.specs.Prelude.{◌≡◌, [], ◌∷◌, codes, map, pos, Ok}
use Rattle.plus_fraction.specs.Fraction.{over, whole}
use Rattle.plus_plan.specs.Grammar.{time}
use Rattle.plus_plan.specs.Lines.{plan_lines}
use Rattle.plus_plan.specs.declared.forms.Line.TheVariants as lines
use Rattle.plus_plan.specs.declared.forms.PlanForm.TheVariants as forms
use Rattle.laws_found.specs.Text.Written.{TimedCall, written_plan}

abbrev pub opens : TimedCall
opens = (whole (pos 0), record { name = codes "open-valve"; args = [] })

abbrev pub closes : TimedCall
closes = (over (pos 6) 4, record { name = codes "close-valve"; args = codes "tank-1" ∷ [] })

-- times are reduced, and a whole one has no `/`
abbrev pub WrittenRow : Type 0
WrittenRow = written_plan (opens ∷ closes ∷ []) (whole (pos 10)) ≡ codes "0: (open-valve)\n3/2: (close-valve tank-1)\n10: @end\n"

-- a plan of no calls is its end
abbrev pub EmptyRow : Type 0
EmptyRow = written_plan [] (over (pos 1) 3) ≡ codes "1/3: @end\n"

-- the lines of the first text, with the places of their times
abbrev pub ReadRow : Type 0
ReadRow =
    plan_lines forms.Timed (codes "0: (open-valve)\n3/2: (close-valve tank-1)\n10: @end\n")
    ≡ map Ok (lines.Act 1 (time 0 1 (record { start = 0; «end» = 1 })) opens.1 ∷ lines.Act 2 (time 3 2 (record { start = 0; «end» = 3 })) closes.1
    ∷ lines.End 3 (time 10 1 (record { start = 0; «end» = 2 })) ∷ [])
