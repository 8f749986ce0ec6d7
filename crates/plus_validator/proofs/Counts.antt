-- A history has no more moments and events than its report has bytes.
use Rattle.std.proofs.Common.{◌≡◌, ℕ, ◌+◌, ◌≤◌, List, [], ◌∷◌, ◌++◌, length, length-append, arith}
use Rattle.std.specs.Prelude.{codes}
use Rattle.plus_fraction.specs.Fraction.{Fraction}
use Rattle.plus_model.specs.Terms.{State, Problem}
use Rattle.plus_model.specs.Plan.{Plan}
use Rattle.plus_model.specs.History.{Part, Enter, Round, Act, Run}
use Rattle.plus_state.specs.View.{Labels}
use Rattle.plus_report.specs.Labels.{event_label}
use Rattle.plus_report.specs.Report.{part_text, state_after, literals_part, report_from, report_of}
use Rattle.plus_report.specs.Text.{newline, fraction_text, fluents_text, labels_text, entry_text, round_text, changes_text}
use Rattle.plus_timeline.specs.Played.{entries_of}
use Rattle.plus_validator.specs.Asking.{firings_of}
use Rattle.plus_validator.specs.Laws.{CountsFit}

-- a moment has a byte
entry_bytes : (N : Labels) (t : Fraction) (s a : State) → 1 ≤ length (entry_text N t s a)
unfolding entry_text
entry_bytes N t s a =
    omega (arith, length-append (codes "at " ++ (fraction_text t ++ newline)) (fluents_text (codes "  ") N s a), length-append (codes "at ") (fraction_text t ++ newline))

-- a label behind its space has a byte
labels_bytes : (label : ℕ → List ℕ) (ids : List ℕ) → length ids ≤ length (labels_text label ids)
unfolding labels_text
labels_bytes label [] = omega arith
labels_bytes label (i ∷ ids) =
    let rest : length ids ≤ length (labels_text label ids) = labels_bytes label ids in
    omega (arith, length-append (codes " " ++ label i) (labels_text label ids), length-append (codes " ") (label i))

-- each event of a round has its label
round_bytes : (N : Labels) (P : Problem) (events : List ℕ) (s a : State) → length events ≤ length (round_text N P events s a)
unfolding round_text
round_bytes N P events s a =
    let labels = labels_text (event_label P) events in
    let some : length events ≤ length labels = labels_bytes (event_label P) events in
    omega (arith, length-append (codes "  events" ++ labels ++ newline) (changes_text N s a), length-append (codes "  events" ++ labels) newline, length-append (codes "  events") labels)

-- what a part counts
part_bytes : (N : Labels) (P : Problem) (L : Plan) (s : State) (part : Part) → entries_of (part ∷ []) + firings_of (part ∷ []) ≤ length (part_text N P L s part)
part_bytes N P L s (Enter t arrival after) =
    let some : 1 ≤ length (entry_text N t s arrival) = entry_bytes N t s arrival in
    omega (arith, length-append (entry_text N t s arrival) (literals_part N P t arrival after))
part_bytes N P L s (Round events after) = let some : length events ≤ length (round_text N P events s after) = round_bytes N P events s after in omega arith
part_bytes N P L s (Act i after) = omega arith
part_bytes N P L s (Run running) = omega arith

counts_add : (part : Part) (h : List Part) → entries_of (part ∷ h) + firings_of (part ∷ h) ≡ (entries_of (part ∷ []) + firings_of (part ∷ [])) + (entries_of h + firings_of h)
counts_add (Enter t arrival after) h = omega arith
counts_add (Round events after) h = omega arith
counts_add (Act i after) h = omega arith
counts_add (Run running) h = omega arith

bytes_from : (N : Labels) (P : Problem) (L : Plan) (s : State) (h : List Part) → entries_of h + firings_of h ≤ length (report_from N P L s h)
unfolding report_from
bytes_from N P L s [] = omega arith
bytes_from N P L s (part ∷ h) =
    let here = part_bytes N P L s part in
    let there = bytes_from N P L (state_after s part) h in
    let sum = counts_add part h in
    omega (arith, length-append (part_text N P L s part) (report_from N P L (state_after s part) h))

pub counts_fit : CountsFit
unfolding report_of
counts_fit N P L h = bytes_from N P L P.initial h
