-- The lines of a report: what stands for each part of a history. Each line ends in LF, and indents
-- are spaces (this project's profile).
use Rattle.std.specs.Prelude.{ℕ, zero, suc, Bool, ◌&&◌, not, ◌==◌, List, [], ◌∷◌, ◌++◌, Option, Some, None, length, codes, decimal, if◌then◌else◌}
use Rattle.std.specs.Fmt.{signed_decimal}
use Rattle.std.specs.List.{flat_map}
use Rattle.plus_fraction.specs.Fraction.{Fraction, compared}
use Rattle.plus_model.specs.Terms.{Same, State, Problem}
use Rattle.plus_model.specs.Value.{passes, atom_of, fluent_of}
use Rattle.plus_state.specs.View.{Labels}
use Rattle.plus_report.specs.Labels.{label_at, event_label, process_label}

abbrev pub newline : List ℕ
newline = 10 ∷ []

-- `/d`, and nothing where d is 1
unfoldable pub bottom_text : ℕ → List ℕ
bottom_text d = if d == 1 then [] else codes "/" ++ decimal d

-- `n` or `n/d`, in decimal digits, with a `-` before n where it is negative
unfoldable pub fraction_text : Fraction → List ℕ
fraction_text x = signed_decimal x.top ++ bottom_text x.bottom

-- the lines of the first n things of a kind, one after the other
unfoldable pub lines_below : (ℕ → List ℕ) → ℕ → List ℕ
lines_below line zero = []
lines_below line (suc n) = lines_below line n ++ line n

-- the label behind a mark, where the first is so and the second is not
unfoldable pub mark_line : List ℕ → List ℕ → Bool → Bool → List ℕ
mark_line mark label was is = if was && not is then mark ++ label ++ newline else []

abbrev pub lost_line : List ℕ → List (List ℕ) → State → State → ℕ → List ℕ
lost_line mark labels s s' a = mark_line mark (label_at labels a) (atom_of s a) (atom_of s' a)

-- `(f a) = v` behind an indent
unfoldable pub value_line : List ℕ → List ℕ → Fraction → List ℕ
value_line indent label v = indent ++ label ++ codes " = " ++ (fraction_text v ++ newline)

-- the new value, where there is one and it is not the old one
unfoldable pub new_value_line : List ℕ → List ℕ → Option Fraction → Option Fraction → List ℕ
new_value_line indent label old None = []
new_value_line indent label None (Some new) = value_line indent label new
new_value_line indent label (Some old) (Some new) =
    if passes Same (compared old new) then [] else value_line indent label new

abbrev pub fluent_line : List ℕ → List (List ℕ) → State → State → ℕ → List ℕ
fluent_line indent labels s s' f =
    new_value_line indent (label_at labels f) (fluent_of s f) (fluent_of s' f)

-- the fluents whose value is another one in the second state
unfoldable pub fluents_text : List ℕ → Labels → State → State → List ℕ
fluents_text indent N s s' = lines_below (fluent_line indent N.fluents s s') (length N.fluents)

-- the atoms behind a mark that are in the first state and not in the second
unfoldable pub lost_text : List ℕ → Labels → State → State → List ℕ
lost_text mark N s s' = lines_below (lost_line mark N.atoms s s') (length N.atoms)

-- from one state to the next: atoms lost, atoms gained, fluents with another value, in ground order
unfoldable pub changes_text : Labels → State → State → List ℕ
changes_text N s s' =
    lost_text (codes "    - ") N s s' ++ lost_text (codes "    + ") N s' s
    ++ fluents_text (codes "    ") N s s'

-- the labels of these numbers, each after one space
unfoldable pub labels_text : (ℕ → List ℕ) → List ℕ → List ℕ
labels_text label ids = flat_map (λ i. codes " " ++ label i) ids

-- a moment: its time, and each fluent whose value on arrival is not the one before the stretch
unfoldable pub entry_text : Labels → Fraction → State → State → List ℕ
entry_text N t before arrival =
    codes "at " ++ (fraction_text t ++ newline) ++ fluents_text (codes "  ") N before arrival

-- what the timed initial literals of a moment change
unfoldable pub literals_text : Labels → State → State → List ℕ
literals_text N arrival after = codes "  literals\n" ++ changes_text N arrival after

-- the events that fire, and what they change
unfoldable pub round_text : Labels → Problem → List ℕ → State → State → List ℕ
round_text N P events before after =
    codes "  events" ++ labels_text (event_label P) events ++ newline ++ changes_text N before after

-- an action, by its label, and what it changes
unfoldable pub act_text : Labels → List ℕ → State → State → List ℕ
act_text N label before after = codes "  act " ++ label ++ newline ++ changes_text N before after

-- the processes that run
unfoldable pub run_text : Problem → List ℕ → List ℕ
run_text P running = codes "  run" ++ labels_text (process_label P) running ++ newline
