-- The set of the events that have fired in a cascade: one truth for each event, by its number.
use Rattle.std.specs.Prelude.{◌≡◌, ℕ, Bool, true, false, List, [], ◌∷◌, Option, find, slice_get, slice_set, unwrap_or}
use Rattle.plus_model.specs.Firing.{is_in}
pub use Rattle.plus_state.specs.Numbers.{event_numbers}

-- whether the event has fired
abbrev pub has_fired : List Bool → ℕ → Bool
has_fired fired e = unwrap_or (slice_get fired e) false

-- the first of these events that has fired
unfoldable pub first_repeated : List Bool → List ℕ → Option ℕ
first_repeated fired events = find (has_fired fired) events

-- the set with these events too
abbrev pub with_fired : List Bool → List ℕ → List Bool
with_fired fired [] = fired
with_fired fired (e ∷ events) = with_fired (slice_set fired e true) events

-- exactly the events of this list are in the set
pub record IsSetOf (fired : List Bool) (events : List ℕ) : Type 0 where
  pub same : (e : ℕ) → has_fired fired e ≡ is_in events e
