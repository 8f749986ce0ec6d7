-- What lets a `Model` hold a state, a view and the parts of a history.
use Rattle.std.specs.Prelude.{ℕ, Bool, List, Option, refl}
use Rattle.std.specs.Coded.{Coded, code_by, coded_ℕ, coded_bool, coded_list, coded_option, coded×}
use Rattle.plus_fraction.specs.Fraction.{Fraction}
use Rattle.plus_fraction.specs.FractionCode.{coded_fraction}
use Rattle.plus_model.specs.Terms.{State}
use Rattle.plus_model.specs.History.{View}

abbrev pub coded_state : Coded State
coded_state =
    code_by (List Bool × List (Option Fraction))
    (coded× (coded_list coded_bool) (coded_list (coded_option coded_fraction)))
    (λ s. (s.atoms, s.fluents)) (λ p. record { atoms = p.0; fluents = p.1 }) (λ _. refl)

abbrev pub coded_view : Coded View
coded_view = code_by ((Fraction × State) × ((List ℕ × Option (List ℕ)) × ℕ))
    (coded× (coded× coded_fraction coded_state)
    (coded× (coded× (coded_list coded_ℕ) (coded_option (coded_list coded_ℕ))) coded_ℕ))
    (λ v. ((v.time, v.state), ((v.fired, v.running), v.acted)))
    (λ p. record { time = p.0.0; state = p.0.1; fired = p.1.0.0; running = p.1.0.1; acted = p.1.1 })
    (λ _. refl)
