-- The labels that a report shows: `(name arg arg)` for each ground thing, by its number.
use Rattle.std.specs.Prelude.{ℕ, List, [], option_map, slice_get, unwrap_or}
use Rattle.plus_model.specs.Terms.{Event, Process, Problem}

-- the label of this number
abbrev pub label_at : List (List ℕ) → ℕ → List ℕ
label_at labels i = unwrap_or (slice_get labels i) []

abbrev pub event_label : Problem → ℕ → List ℕ
event_label P e = unwrap_or (option_map (λ (event : Event). event.label) (slice_get P.events e)) []

abbrev pub process_label : Problem → ℕ → List ℕ
process_label P p = unwrap_or (option_map (λ (process : Process). process.label) (slice_get P.processes p)) []
