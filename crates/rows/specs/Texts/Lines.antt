-- Worked rows of lines of plans, and of the places of those that are none.
use Rattle.std.specs.Prelude.{◌≡◌, ℕ, List, [], ◌∷◌, Ok, Err, codes, map, replicate}
use Prim.Native.String.{String}
use Rattle.plus_tokens.specs.declared.span.Span.{Span}
use Rattle.plus_tree.specs.declared.trees.Call.{Call}
use Rattle.plus_plan.specs.declared.forms.Line.{Line}
use Rattle.plus_plan.specs.declared.forms.Line.TheVariants as lines
use Rattle.plus_plan.specs.declared.forms.PlanForm.{PlanForm}
use Rattle.plus_plan.specs.declared.forms.PlanForm.TheVariants.{Timed, Untimed}
use Rattle.plus_plan.specs.declared.faults.PlanFault.TheVariants as faults
use Rattle.plus_plan.specs.Grammar.{time}
use Rattle.plus_plan.specs.Cut.{lines_of}
use Rattle.plus_plan.specs.Lines.{read_line}

-- as the third line of a plan the text says this
abbrev pub Reads : PlanForm → String → Line → Type 0
Reads form text line = read_line form 3 (codes text) ≡ Ok line

-- a place in the line, and a call
abbrev pub place : ℕ → ℕ → Span
place start last = record { start = start; «end» = last }

abbrev pub call : String → List String → Call
call name args = record { name = codes name; args = map codes args }

-- it says this call at the time `top / bottom`, which stands first and ends there
abbrev pub Acts : String → ℕ → ℕ → ℕ → Call → Type 0
Acts text top bottom last c = Reads Timed text (lines.Act 3 (time top bottom (place 0 last)) c)

-- what lines say: nothing, an action, the end, a step of a plan without time
pub record LineRows : Type 0 where
  pub empty : Reads Timed "" lines.Blank
  pub blank : Reads Timed " \t\r" lines.Blank
  pub comment : Reads Timed " ; 1: (a)" lines.Blank
  pub act : Acts "1: (a)" 1 1 1 (call "a" [])
  pub as_planners_print : Acts "1.000: (OPEN-VALVE ) [0.001]\r" 1000 1000 5 (call "open-valve" [])
  pub quotient : Acts "7/2:(a b C)" 7 2 3 (call "a" ("b" ∷ "c" ∷ []))
  pub spaced_quotient : Acts "7 / 2 : (and) ; c" 7 2 5 (call "and" [])
  pub negative_duration : Acts "0: (a) [-0.5]" 0 1 1 (call "a" [])
  pub last : Reads Timed "10.0: @END" (lines.End 3 (time 100 10 (place 0 4)))
  pub step : Reads Untimed "( a b)" (lines.Step 3 (call "a" ("b" ∷ [])))

-- it is no line: no line of the grammar goes on behind the token at this place
abbrev pub NoLine : PlanForm → String → ℕ → ℕ → Type 0
NoLine form text start last = read_line form 3 (codes text) ≡ Err (faults.NotLine 3 start last)

-- where lines are refused, and how long one may be
pub record FaultRows : Type 0 where
  pub unclosed : NoLine Timed "1: (open-valve" 14 14
  pub no_colon : NoLine Timed "1 (a)" 2 3
  pub keyword : NoLine Timed "1:a" 1 3
  pub negative : NoLine Timed "-0: (a)" 0 2
  pub point_above : NoLine Timed "1.5/2: (a)" 3 4
  pub point_below : NoLine Timed "1/2.0: (a)" 2 5
  pub zero : NoLine Timed "1/00: (a)" 2 4
  pub no_name : NoLine Timed "1: ()" 4 5
  pub variable : NoLine Timed "1: (a ?x)" 6 8
  pub behind : NoLine Timed "1: (a) b" 7 8
  pub behind_the_end : NoLine Timed "1: @end x" 8 9
  pub no_duration : NoLine Timed "1: (a) [x]" 8 9
  pub open_duration : NoLine Timed "1: (a) [1 ; ]" 13 13
  pub untimed : NoLine Timed "(a)" 0 1
  pub no_token : NoLine Timed "1.: (a)" 1 2
  pub name_of_65 : read_line Timed 3 (replicate 65 97) ≡ Err (faults.NotLine 3 0 1)
  pub timed : NoLine Untimed "1: (a)" 0 1
  pub step_with_duration : NoLine Untimed "(a) [1]" 4 5
  pub short : read_line Timed 3 (replicate 4096 32) ≡ Ok lines.Blank
  pub long : read_line Timed 3 (replicate 4097 32) ≡ Err (faults.LineTooLong 3)

-- a last line counts where it has a byte
pub record CutRows : Type 0 where
  pub nothing : lines_of [] ≡ []
  pub no_lf : lines_of (codes "a") ≡ codes "a" ∷ []
  pub lf : lines_of (codes "a\n") ≡ codes "a" ∷ []
  pub lf_alone : lines_of (codes "\n") ≡ [] ∷ []
  pub empty_line : lines_of (codes "a\r\n\nb") ≡ codes "a\r" ∷ [] ∷ codes "b" ∷ []
