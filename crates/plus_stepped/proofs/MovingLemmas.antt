-- Each way out of moving on.
use Rattle.std.proofs.Common.{◌≡◌, ℕ, List, [], ◌∷◌, ◌++◌, map, refl, ap, sym, subst, ◌∙◌, inl, inr}
use Rattle.std.specs.Prelude.{Result, Ok, Err}
use Rattle.plus_fraction.specs.Fraction.{Fraction}
use Rattle.plus_model.specs.Terms.{State, Problem}
use Rattle.plus_model.specs.Joint as model
use Rattle.plus_model.specs.Running.{rates, holding}
use Rattle.plus_state.specs.Node.{Node}
use Rattle.plus_state.specs.View.{overflow_of}
use Rattle.plus_state.specs.Asked.{AllFit, FirstUnfit}
use Rattle.plus_state.specs.Tested as tested
use Rattle.plus_state.proofs.Testing.{pass_append, fail_left, fail_right, fail_here, carry_pass, carry_fail}
use Rattle.plus_crossing.specs.declared.moves.MoveStop.{MoveStop}
use Rattle.plus_crossing.specs.declared.moves.MoveStop.TheVariants as move
use Rattle.plus_crossing.specs.Moves.{moved_nodes, MoveStops}
use Rattle.plus_settle.specs.declared.stops.RateStop.{RateStop}
use Rattle.plus_settle.specs.declared.stops.RateStop.TheVariants as rate
use Rattle.plus_settle.specs.Steps as settle
use Rattle.plus_settle.specs.Steps.{SettleStep}
use Rattle.plus_settle.specs.Rates.{rates_steps, RateStops, NoRates}
use Rattle.plus_settle.specs.Settles.{condition_nodes}
use Rattle.plus_stepped.specs.declared.stop.StepStop.{StepStop}
use Rattle.plus_stepped.specs.declared.stop.StepStop.TheVariants.{Precondition, Repeats, Conflict, NoValue, Number, GoalFails, Memory}
use Rattle.plus_stepped.specs.Stops.{of_rate_stop, of_move}
use Rattle.plus_stepped.specs.Tests.{StepTest, asks, fails, Passes, AllPass, FirstFailing}
use Rattle.plus_stepped.specs.Asked.{where_ok}
use Rattle.plus_stepped.specs.Ticks.{of_rate, of_rates, moving_tests}
use Rattle.plus_stepped.specs.Told.{Told}
use Rattle.plus_stepped.specs.Moving.{CannotMove, ConditionStops}
use Rattle.plus_stepped.proofs.Layers.{nodes_carry}

-- ---- net rates, test by test
pass_rate : (fits : Fraction → Type 0) (t : SettleStep) → settle.Passes fits t → AllPass fits (of_rate t)
unfolding settle.Passes Passes tested.AllPass
pass_rate fits (settle.asks n) h = (h, tt)
pass_rate fits (settle.no_value f) h = absurd h
pass_rate fits (settle.straight p k b) h = tt
pass_rate fits (settle.unsettled p) h = tt
pass_rate fits (settle.coupled p f) h = tt

rates_pass : (fits : Fraction → Type 0) (ts : List SettleStep) → settle.AllPass fits ts → AllPass fits (of_rates ts)
unfolding of_rates tested.AllPass
rates_pass fits [] h = tt
rates_pass fits (t ∷ ts) h = pass_append (Passes fits) (of_rate t) (of_rates ts) (pass_rate fits t h.0) (rates_pass fits ts h.1)

-- a test of net rates, as one of the step
rates_fail : (fits : Fraction → Type 0) (ts : List SettleStep) (m : SettleStep) (k : StepTest) → of_rate m ≡ k ∷ [] → (Passes fits k → settle.Passes fits m) → settle.FirstStop fits ts m → FirstFailing fits (of_rates ts) k
unfolding of_rates tested.FirstFailing
rates_fail fits [] m k e n h = absurd h
rates_fail fits (t ∷ ts) m k e n h = elim h [
  | inl x ↦ (
      let is : of_rate t ≡ k ∷ [] = ap of_rate (sym x.1) ∙ e in
      subst (λ (xs : List StepTest). FirstFailing fits (xs ++ of_rates ts) k) (sym is) (fail_here (Passes fits) k (of_rates ts) (λ p. x.0 (subst (settle.Passes fits) x.1 (n p))))
      )
  | inr y ↦ fail_right (Passes fits) (of_rate t) (of_rates ts) k (pass_rate fits t y.0) (rates_fail fits ts m k e n y.1)
]

module _ (fits : Fraction → Type 0) (P : Problem) (q : Fraction) (s : State) where
  abbrev then_moves : Result (List Fraction) ℕ → List StepTest
  then_moves r = where_ok r (λ rs. map asks (moved_nodes s.fluents rs q))

  conditions_pass : AllFit fits (condition_nodes P.processes s) → AllPass fits (map asks (condition_nodes P.processes s))
  conditions_pass a = carry_pass (nodes_carry fits) _ a

  pub conditions_fail : (m : Node) → FirstUnfit fits (condition_nodes P.processes s) m → FirstFailing fits (moving_tests P q s) (asks m)
  unfolding moving_tests
  conditions_fail m u = fail_left (Passes fits) _ _ _ (carry_fail (nodes_carry fits) _ m u)

  rates_fail_here : (k : StepTest) → AllFit fits (condition_nodes P.processes s) → FirstFailing fits (of_rates (rates_steps P s (holding P s))) k → FirstFailing fits (moving_tests P q s) k
  unfolding moving_tests
  rates_fail_here k a u = fail_right (Passes fits) _ _ _ (conditions_pass a) (fail_left (Passes fits) _ _ _ u)

  pub moves_fail : (rs : List Fraction) (m : Node) → AllFit fits (condition_nodes P.processes s) → settle.AllPass fits (rates_steps P s (holding P s)) → rates P s (holding P s) ≡ Ok rs → FirstUnfit fits (moved_nodes s.fluents rs q) m → FirstFailing fits (moving_tests P q s) (asks m)
  unfolding moving_tests
  moves_fail rs m a b r u = fail_right (Passes fits) _ _ _ (conditions_pass a) (fail_right (Passes fits) _ _ _ (rates_pass fits _ b)
      (subst (λ (x : Result (List Fraction) ℕ). FirstFailing fits (then_moves x) (asks m)) (sym r) (carry_fail (nodes_carry fits) _ m u)))

  pub moves_pass : (rs : List Fraction) → AllFit fits (condition_nodes P.processes s) → settle.AllPass fits (rates_steps P s (holding P s)) → rates P s (holding P s) ≡ Ok rs → AllFit fits (moved_nodes s.fluents rs q) → AllPass fits (moving_tests P q s)
  unfolding moving_tests
  moves_pass rs a b r u = pass_append (Passes fits) _ _ (conditions_pass a) (pass_append (Passes fits) _ _ (rates_pass fits _ b)
      (subst (λ (x : Result (List Fraction) ℕ). AllPass fits (then_moves x)) (sym r) (carry_pass (nodes_carry fits) _ u)))

  module _ {Q A : Type 0} (v : Q → Fraction) (Done : A → Type 0) where
    abbrev Answer : StepStop Q → Type 0
    Answer stop = Told v fits (moving_tests P q s) Done (CannotMove P s) (let r : Result A (StepStop Q) = Err stop in r)

    pub conditions_told : (stop : StepStop Q) → ConditionStops v fits (condition_nodes P.processes s) stop → Answer stop
    conditions_told (Number o) u = conditions_fail (overflow_of v o) u
    conditions_told Memory u = tt
    conditions_told Precondition u = absurd u
    conditions_told (Repeats e) u = absurd u
    conditions_told (Conflict f) u = absurd u
    conditions_told (NoValue f) u = absurd u
    conditions_told GoalFails u = absurd u

    pub rates_told : (stop : RateStop Q) → AllFit fits (condition_nodes P.processes s) → RateStops v fits (rates_steps P s (holding P s)) stop → NoRates (rates P s (holding P s)) stop → Answer (of_rate_stop stop)
    unfolding settle.Passes Passes
    rates_told (rate.NoValue f) a u n = record {
      first = rates_fail_here (fails (model.NoValue f.0)) a (rates_fail fits _ (settle.no_value f.0) (fails (model.NoValue f.0)) refl (λ p. p) u);
      never = λ rs e. let d : rates P s (holding P s) ≡ Err f.0 = n in cc;
    }
    rates_told (rate.Number o) a u n = rates_fail_here (asks (overflow_of v o)) a (rates_fail fits _ (settle.asks (overflow_of v o)) (asks (overflow_of v o)) refl (λ p. p) u)
    rates_told rate.Memory a u n = tt

    pub moves_told : (rs : List Fraction) (stop : MoveStop Q) → AllFit fits (condition_nodes P.processes s) → settle.AllPass fits (rates_steps P s (holding P s)) → rates P s (holding P s) ≡ Ok rs → MoveStops v fits (moved_nodes s.fluents rs q) stop → Answer (of_move stop)
    moves_told rs (move.Number o) a b r u = moves_fail rs (overflow_of v o) a b r u
    moves_told rs move.Memory a b r u = tt
