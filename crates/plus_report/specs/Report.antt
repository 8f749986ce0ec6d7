-- The report of a history: the texts of its parts, one after the other.
use Rattle.std.specs.Prelude.{ℕ, Bool, false, ◌||◌, List, [], ◌∷◌, ◌++◌, Option, Some, None, slice_get, if◌then◌else◌}
use Rattle.plus_fraction.specs.Fraction.{Fraction, compared}
use Rattle.plus_model.specs.Terms.{Same, Timed, State, Problem}
use Rattle.plus_model.specs.Value.{passes}
use Rattle.plus_model.specs.Plan.{Instance, UnknownAction, WrongArguments, Line, ActLine, EndLine, Plan}
use Rattle.plus_model.specs.History.{Part, Enter, Round, Act, Run}
use Rattle.plus_state.specs.View.{Labels}
use Rattle.plus_report.specs.Text.{entry_text, literals_text, round_text, act_text, run_text}

-- a timed initial literal has this time
abbrev pub has_literal : Fraction → List Timed → Bool
has_literal t [] = false
has_literal t (l ∷ ls) = passes Same (compared l.time t) || has_literal t ls

-- the label of the ground action that a line calls
abbrev pub called_label : Option Line → List ℕ
called_label None = []
called_label (Some (EndLine t)) = []
called_label (Some (ActLine t (Instance action))) = action.label
called_label (Some (ActLine t (UnknownAction name))) = []
called_label (Some (ActLine t (WrongArguments name))) = []

-- the lines of a moment's literals, where it has one
unfoldable pub literals_part : Labels → Problem → Fraction → State → State → List ℕ
literals_part N P t arrival after = if has_literal t P.timed then literals_text N arrival after else []

-- the text of a part that comes after this state
abbrev pub part_text : Labels → Problem → Plan → State → Part → List ℕ
part_text N P L s (Enter t arrival after) = entry_text N t s arrival ++ literals_part N P t arrival after
part_text N P L s (Round events after) = round_text N P events s after
part_text N P L s (Act i after) = act_text N (called_label (slice_get L.lines i)) s after
part_text N P L s (Run running) = run_text P running

abbrev pub state_after : State → Part → State
state_after s (Enter t arrival after) = after
state_after s (Round events after) = after
state_after s (Act i after) = after
state_after s (Run running) = s

-- the texts of parts that come after this state
unfoldable pub report_from : Labels → Problem → Plan → State → List Part → List ℕ
report_from N P L s [] = []
report_from N P L s (part ∷ parts) = part_text N P L s part ++ report_from N P L (state_after s part) parts

-- the report of a history. At the first entry the state before it and on arrival are the initial one
unfoldable pub report_of : Labels → Problem → Plan → List Part → List ℕ
report_of N P L h = report_from N P L P.initial h
