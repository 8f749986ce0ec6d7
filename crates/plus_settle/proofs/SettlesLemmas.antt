-- What settling comes to, by what its parts come to.
use Rattle.std.proofs.Common.{◌≡◌, ℕ, List, ◌++◌, sym, subst, inl, inr}
use Rattle.std.specs.Prelude.{Option, Some, None, Result, Ok}
use Rattle.plus_fraction.specs.Fraction.{Fraction}
use Rattle.plus_model.specs.Terms.{State, Problem}
use Rattle.plus_model.specs.Running.{holding, rates, GoesOn, Chosen, first_coupled}
use Rattle.plus_state.specs.Asked.{AllFit}
use Rattle.plus_settle.specs.declared.stops.GoStop.{GoStop}
use Rattle.plus_settle.specs.declared.stops.GoStop.TheVariants as go
use Rattle.plus_settle.specs.declared.stops.RateStop.{RateStop}
use Rattle.plus_settle.specs.declared.stops.RateStop.TheVariants as rate
use Rattle.plus_settle.specs.declared.stops.SettleStop.{SettleStop}
use Rattle.plus_settle.specs.declared.stops.SettleStop.TheVariants.{Unsettled, Coupled, NoValue, Number, Nonlinear, Memory}
use Rattle.plus_settle.specs.Steps.{SettleStep, unsettled, coupled, AllPass, FirstStop, Passes}
use Rattle.plus_settle.specs.Rates.{after_sums, rates_steps, RateStops, NoRates}
use Rattle.plus_settle.specs.Confirms.{go_steps, first_other, GoStops}
use Rattle.plus_settle.specs.Settles.{condition_nodes, chosen_steps, running_soon, end_steps, own_then, members_then, first_then, settle_steps, StopIs, ConditionStops, ChosenStops, of_rate, of_go, LacksValue, NotConfirmed, NotSettled, IsRunning}
use Rattle.plus_settle.specs.Laws.{OneRunningSet}
use Rattle.plus_model.proofs.Steps.{one_chosen}
use Rattle.plus_state.proofs.Testing.{pass_none, pass_append, fail_left, fail_right, fail_here, carry_pass, carry_fail}
use Rattle.plus_settle.proofs.StepsLemmas.{nodes_carry}

module _ {Q : Type 0} (v : Q → Fraction) (fits : Fraction → Type 0) where
  -- stops in longer lists
  pub stops_left : (xs ys : List SettleStep) (e : SettleStop Q) → StopIs v fits xs e → StopIs v fits (xs ++ ys) e
  stops_left xs ys (Unsettled p) h = fail_left (Passes fits) xs ys _ h
  stops_left xs ys (Coupled p f) h = fail_left (Passes fits) xs ys _ h
  stops_left xs ys (NoValue f) h = fail_left (Passes fits) xs ys _ h
  stops_left xs ys (Number o) h = fail_left (Passes fits) xs ys _ h
  stops_left xs ys (Nonlinear p k) h = fail_left (Passes fits) xs ys _ h
  stops_left xs ys Memory h = tt

  pub stops_right : (xs ys : List SettleStep) (e : SettleStop Q) → AllPass fits xs → StopIs v fits ys e → StopIs v fits (xs ++ ys) e
  stops_right xs ys (Unsettled p) a h = fail_right (Passes fits) xs ys _ a h
  stops_right xs ys (Coupled p f) a h = fail_right (Passes fits) xs ys _ a h
  stops_right xs ys (NoValue f) a h = fail_right (Passes fits) xs ys _ a h
  stops_right xs ys (Number o) a h = fail_right (Passes fits) xs ys _ a h
  stops_right xs ys (Nonlinear p k) a h = fail_right (Passes fits) xs ys _ a h
  stops_right xs ys Memory a h = tt

  stops_after : (r : Result (List Fraction) ℕ) (sums : List Fraction) (more : List Fraction → List SettleStep) (e : SettleStop Q) → r ≡ Ok sums → StopIs v fits (more sums) e → StopIs v fits (after_sums r more) e
  stops_after r sums more e d h = subst (λ (x : Result (List Fraction) ℕ). StopIs v fits (after_sums x more) e) (sym d) h

  -- ---- own rates
  pub rates_stop : (ns : List SettleStep) (r : Result (List Fraction) ℕ) (e : RateStop Q) → RateStops v fits ns e → NoRates r e → StopIs v fits ns (of_rate e) × LacksValue r (of_rate e)
  rates_stop ns r (rate.NoValue f) h n = (h, n)
  rates_stop ns r (rate.Number o) h n = (h, tt)
  rates_stop ns r rate.Memory h n = (tt, tt)

  module _ (P : Problem) (s : State) where
    -- ---- confirmed
    module _ (members : List ℕ) (own : List Fraction) where
      pub go_stop : (e : GoStop Q) → GoStops v fits (go_steps P members s own) e → StopIs v fits (own_then P s members own) (of_go e) × NotConfirmed P s members own (of_go e)
      unfolding own_then
      go_stop (go.Number o) h = (fail_left (Passes fits) _ _ _ h, tt)
      go_stop (go.Nonlinear p k) h = (fail_left (Passes fits) _ _ _ h, tt)

      pub unsettled_stop : (p : ℕ) → AllPass fits (go_steps P members s own) → Some p ≡ first_other members 0 P.processes s own → FirstStop fits (own_then P s members own) (unsettled p)
      unfolding own_then Passes
      unsettled_stop p a e =
          fail_right (Passes fits) _ _ _ a (subst (λ (o : Option ℕ). FirstStop fits (end_steps o (first_coupled P members own)) (unsettled p)) e (fail_here (Passes fits) _ _ (λ z. z)))

      pub coupled_stop : (p f : ℕ) → AllPass fits (go_steps P members s own) → None ≡ first_other members 0 P.processes s own → Some (p, f) ≡ first_coupled P members own → FirstStop fits (own_then P s members own) (coupled p f)
      unfolding own_then Passes
      coupled_stop p f a e d =
          fail_right (Passes fits) _ _ _ a (subst (λ (o : Option ℕ). FirstStop fits (end_steps o (first_coupled P members own)) (coupled p f)) e (subst (λ (c : Option (ℕ × ℕ)). FirstStop fits (end_steps None c) (coupled p f)) d (fail_here (Passes fits) _ _ (λ z. z))))

      pub own_pass : AllPass fits (go_steps P members s own) → None ≡ first_other members 0 P.processes s own → None ≡ first_coupled P members own → AllPass fits (own_then P s members own)
      unfolding own_then
      own_pass a e d =
          pass_append (Passes fits) _ _ a (subst (λ (o : Option ℕ). AllPass fits (end_steps o (first_coupled P members own))) e (subst (λ (c : Option (ℕ × ℕ)). AllPass fits (end_steps None c)) d (pass_none (Passes fits))))

    -- ---- settle, stage by stage
    pub holding_stop : (e : SettleStop Q) → ConditionStops v fits (condition_nodes P.processes s) e → StopIs v fits (settle_steps P s) e × NotSettled P s e
    unfolding settle_steps
    holding_stop (Unsettled p) h = absurd h
    holding_stop (Coupled p f) h = absurd h
    holding_stop (NoValue f) h = absurd h
    holding_stop (Number o) h = (fail_left (Passes fits) _ _ _ (carry_fail (nodes_carry fits) _ _ h), tt)
    holding_stop (Nonlinear p k) h = absurd h
    holding_stop Memory h = (tt, tt)

    first_lacks : (e : SettleStop Q) → LacksValue (rates P s (holding P s)) e → NotSettled P s e
    first_lacks (Unsettled p) h = absurd h
    first_lacks (Coupled p f) h = absurd h
    first_lacks (NoValue f) h = inl h
    first_lacks (Number o) h = tt
    first_lacks (Nonlinear p k) h = absurd h
    first_lacks Memory h = tt

    pub first_stop : (present : List ℕ) (e : SettleStop Q) → AllFit fits (condition_nodes P.processes s) → present ≡ holding P s → StopIs v fits (rates_steps P s present) e → LacksValue (rates P s present) e → StopIs v fits (settle_steps P s) e × NotSettled P s e
    unfolding settle_steps
    first_stop present e a k h n = (
      stops_right _ _ e (carry_pass (nodes_carry fits) _ a) (stops_left _ _ e (subst (λ (x : List ℕ). StopIs v fits (rates_steps P s x) e) k h)),
      first_lacks e (subst (λ (x : List ℕ). LacksValue (rates P s x) e) k n),
    )

    module _ (present : List ℕ) (first : List Fraction) (a : AllFit fits (condition_nodes P.processes s)) (k : present ≡ holding P s) (b : AllPass fits (rates_steps P s present)) (r : rates P s present ≡ Ok first) where
      first_is : rates P s (holding P s) ≡ Ok first
      first_is = subst (λ (x : List ℕ). rates P s x ≡ Ok first) k r

      first_late : (e : SettleStop Q) → StopIs v fits (first_then P s first) e → StopIs v fits (settle_steps P s) e
      unfolding settle_steps
      first_late e h =
          stops_right _ _ e (carry_pass (nodes_carry fits) _ a) (stops_right _ _ e (subst (λ (x : List ℕ). AllPass fits (rates_steps P s x)) k b) (stops_after _ first (first_then P s) e first_is h))

      first_pass : AllPass fits (first_then P s first) → AllPass fits (settle_steps P s)
      unfolding settle_steps
      first_pass h =
          pass_append (Passes fits) _ _ (carry_pass (nodes_carry fits) _ a) (pass_append (Passes fits) _ _ (subst (λ (x : List ℕ). AllPass fits (rates_steps P s x)) k b)
          (subst (λ (x : Result (List Fraction) ℕ). AllPass fits (after_sums x (first_then P s))) (sym first_is) h))

      pub chosen_stop : (e : SettleStop Q) → ChosenStops v fits (chosen_steps 0 P.processes s first) e → StopIs v fits (settle_steps P s) e × NotSettled P s e
      unfolding first_then
      chosen_stop (Unsettled p) h = absurd h
      chosen_stop (Coupled p f) h = absurd h
      chosen_stop (NoValue f) h = absurd h
      chosen_stop (Number o) h = (first_late (Number o) (fail_left (Passes fits) _ _ _ h), tt)
      chosen_stop (Nonlinear p c) h = (first_late (Nonlinear p c) (fail_left (Passes fits) _ _ _ h), tt)
      chosen_stop Memory h = (tt, tt)

      module _ (members : List ℕ) (d : AllPass fits (chosen_steps 0 P.processes s first)) (m : members ≡ running_soon P s first) (g : GoesOn P s first (running_soon P s first)) where
        choice : Chosen P s members
        choice = record { first = first; first_is = first_is; chosen = subst (GoesOn P s first) (sym m) g }

        members_late : (e : SettleStop Q) → StopIs v fits (members_then P s members) e → StopIs v fits (settle_steps P s) e
        unfolding first_then
        members_late e h = first_late e (stops_right _ _ e d (subst (λ (x : List ℕ). StopIs v fits (members_then P s x) e) m h))

        members_pass : AllPass fits (members_then P s members) → AllPass fits (settle_steps P s)
        unfolding first_then
        members_pass h = first_pass (pass_append (Passes fits) _ _ d (subst (λ (x : List ℕ). AllPass fits (members_then P s x)) m h))

        second_lacks : (e : SettleStop Q) → LacksValue (rates P s members) e → NotSettled P s e
        second_lacks (Unsettled p) h = absurd h
        second_lacks (Coupled p f) h = absurd h
        second_lacks (NoValue f) h = inr (members, choice, h)
        second_lacks (Number o) h = tt
        second_lacks (Nonlinear p c) h = absurd h
        second_lacks Memory h = tt

        pub second_stop : (e : SettleStop Q) → StopIs v fits (rates_steps P s members) e → LacksValue (rates P s members) e → StopIs v fits (settle_steps P s) e × NotSettled P s e
        unfolding members_then
        second_stop e h n = (members_late e (stops_left _ _ e h), second_lacks e n)

        module _ (own : List Fraction) (w : AllPass fits (rates_steps P s members)) (o : rates P s members ≡ Ok own) where
          own_late : (e : SettleStop Q) → StopIs v fits (own_then P s members own) e → StopIs v fits (settle_steps P s) e
          unfolding members_then
          own_late e h = members_late e (stops_right _ _ e w (stops_after _ own (own_then P s members) e o h))

          not_settled : (e : SettleStop Q) → NotConfirmed P s members own e → NotSettled P s e
          not_settled (Unsettled p) n = record { running = members; chosen = choice; own = own; own_is = o; first = n }
          not_settled (Coupled p f) n = record { running = members; own = own; settled = record { choice = choice; own_is = o; confirmed = n.0 }; first = n.1 }
          not_settled (NoValue f) n = absurd n
          not_settled (Number q) n = tt
          not_settled (Nonlinear p c) n = tt
          not_settled Memory n = tt

          pub last_stop : (e : SettleStop Q) → StopIs v fits (own_then P s members own) e → NotConfirmed P s members own e → StopIs v fits (settle_steps P s) e × NotSettled P s e
          last_stop e h n = (own_late e h, not_settled e n)

          pub settles : AllPass fits (own_then P s members own) → GoesOn P s own members → first_coupled P members own ≡ None → AllPass fits (settle_steps P s) × IsRunning P s members own
          unfolding members_then
          settles h c u = (
            members_pass (pass_append (Passes fits) _ _ w (subst (λ (x : Result (List Fraction) ℕ). AllPass fits (after_sums x (own_then P s members))) (sym o) h)),
            record { settled = record { choice = choice; own_is = o; confirmed = c }; uncoupled = u },
          )

-- ---- one running set
pub one_running_set : OneRunningSet
one_running_set P s members others own rs a b =
    let e = one_chosen P s members others a.settled.choice b.settled.choice in
    let o : rates P s others ≡ Ok own = subst (λ (x : List ℕ). rates P s x ≡ Ok own) e a.settled.own_is in
    let p = b.settled.own_is in
    (e, cc)
