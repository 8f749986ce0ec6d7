-- What lets a `Model` hold changes, and a state with the one before it.
use Rattle.std.specs.Prelude.{ℕ, Bool, List, Option, refl}
use Rattle.std.specs.Coded.{Coded, code_by, coded_ℕ, coded_bool, coded_list, coded_option, coded×}
use Rattle.plus_fraction.specs.Fraction.{Fraction}
use Rattle.plus_fraction.specs.FractionCode.{coded_fraction}
use Rattle.plus_model.specs.Terms.{State}
use Rattle.plus_model.specs.Codes.{coded_state}
use Rattle.plus_state.specs.Changes.{Changes, TrailView}

abbrev pub coded_changes : Coded Changes
coded_changes = code_by (List (ℕ × Bool) × List (ℕ × Option Fraction)) (coded× (coded_list (coded× coded_ℕ coded_bool)) (coded_list (coded× coded_ℕ (coded_option coded_fraction))))
    (λ c. (c.atoms, c.fluents)) (λ p. record { atoms = p.0; fluents = p.1 }) (λ _. refl)

abbrev pub coded_trail : Coded TrailView
coded_trail = code_by (State × State) (coded× coded_state coded_state) (λ t. (t.state, t.before)) (λ p. record { state = p.0; before = p.1 }) (λ _. refl)
