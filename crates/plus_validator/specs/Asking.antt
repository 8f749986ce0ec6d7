-- What is asked of a plan at a history of it, in order, by the lines of its text: the tests of the timeline, and before an
-- action is done the limits of its instance.
use Rattle.std.specs.Prelude.{ℕ, ◌+◌, Bool, not, ◌&&◌, List, [], ◌∷◌, ◌++◌, length, Option, Some, None, slice_get, nat_lt, unsigned_abs, if◌then◌else◌}
use Rattle.plus_fraction.specs.Fraction.{Fraction}
use Rattle.plus_model.specs.Terms.{Problem}
use Rattle.plus_model.specs.Plan.{Called, Instance, Plan}
use Rattle.plus_model.specs.History.{Part, Enter, Round, Act, Run}
use Rattle.plus_number.specs.Frac.{IsFrac64}
use Rattle.plus_tree.specs.declared.terms.Literal.{Literal}
use Rattle.plus_tree.specs.declared.trees.Call.{Call}
use Rattle.plus_literal.specs.Value.{literal_value}
use Rattle.plus_plan.specs.declared.forms.Line.{Line}
use Rattle.plus_plan.specs.declared.forms.Line.TheVariants as lines
use Rattle.plus_expansion.specs.Nodes.{action_nodes}
use Rattle.plus_expansion.specs.Literals.{call_literals}
use Rattle.plus_expansion.specs.Calls.{called_of}
use Rattle.plus_expansion.specs.Counting.{most_nodes}
use Rattle.plus_stretch.specs.Tests.{Test, too_many_nodes, no_number, AllPass, FirstFailing}
use Rattle.plus_timeline.specs.Played as played
use Rattle.plus_timeline.specs.Played.{asked_at}
use Rattle.plus_validator.specs.Plans.{Pair}

-- how many events fire in a history
abbrev pub firings_of : List Part → ℕ
firings_of [] = 0
firings_of (Enter t a s ∷ h) = firings_of h
firings_of (Round events s ∷ h) = length events + firings_of h
firings_of (Act i s ∷ h) = firings_of h
firings_of (Run running ∷ h) = firings_of h

-- ---- the instance of an action

abbrev pub is_within : Fraction → Bool
is_within q = not (nat_lt 9223372036854775807 (unsigned_abs q.top)) && not (nat_lt 9223372036854775807 q.bottom)

-- a literal is a value of the type of numbers
abbrev pub is_value : Literal → Bool
is_value l = not (nat_lt 9 l.places) && is_within (literal_value l)

-- each literal has to be a value
abbrev pub literal_tests : List Literal → List Test
literal_tests [] = []
literal_tests (l ∷ ls) = (if is_value l then [] else no_number l.span.start l.span.«end» ∷ []) ++ literal_tests ls

-- an instance has at most 1,000,000 nodes
abbrev pub size_tests : Called → List Test
size_tests (Instance action) = if nat_lt most_nodes (action_nodes action) then too_many_nodes most_nodes ∷ [] else []
size_tests called = []

-- what is asked of the instance that a call names: its size, and then the literals of its action
abbrev pub call_tests : Pair → Call → List Test
call_tests d c = size_tests (called_of d.domain d.problem c.name c.args) ++ literal_tests (call_literals d.domain c.name)

-- what is asked of the instances of lines of the text, a list for each line of the plan
abbrev pub line_instances : Pair → Line → List (List Test)
line_instances d lines.Blank = []
line_instances d (lines.Act n t c) = call_tests d c ∷ []
line_instances d (lines.End n t) = [] ∷ []
line_instances d (lines.Step n c) = []

abbrev pub all_instances : Pair → List Line → List (List Test)
all_instances d [] = []
all_instances d (l ∷ ls) = line_instances d l ++ all_instances d ls

abbrev pub or_nothing : Option (List Test) → List Test
or_nothing None = []
or_nothing (Some ts) = ts

-- what is asked of the instance of action i of the plan
abbrev pub instances_of : Pair → List Line → ℕ → List Test
instances_of d ls i = or_nothing (slice_get (all_instances d ls) i)

-- ---- what is asked at a history

-- all that is asked there passes; `instance` gives what is asked of the instance of each action
abbrev pub NoneFails : Problem → Plan → ℕ → (ℕ → List Test) → List Part → Type 0
NoneFails P L most instance h = AllPass IsFrac64 (asked_at P L most instance h)

-- this is the first that fails
abbrev pub Fails : Problem → Plan → ℕ → (ℕ → List Test) → List Part → Test → Type 0
Fails P L most instance h test = FirstFailing IsFrac64 (asked_at P L most instance h) test

-- all that is asked at each shorter history passes
abbrev pub IsClear : Problem → Plan → ℕ → (ℕ → List Test) → List Part → Type 0
IsClear P L most instance h = played.IsClear IsFrac64 P L most instance h
