-- The plans of the rows, by computation; the stepped plans by the law.
use Rattle.std.proofs.Common.{◌≡◌, ℕ, Bool, true, false, List, [], ◌∷◌, Some, refl, subst, arith, pos, All}
use Rattle.std.specs.Prelude.{codes}
use Rattle.std.proofs.lemmas.Int.{ints}
use Rattle.std.proofs.lemmas.List.Elements.{All-nil, All-cons}
use Rattle.plus_fraction.specs.Gcd.{gcd, gcd_within}
use Rattle.plus_fraction.specs.Fraction.{Fraction, whole, over as fraction_over, compared, ◌+ℚ◌, ◌*ℚ◌, ◌/ℚ◌, ◌<ℚ◌}
use Rattle.plus_fraction.proofs.FractionLaws.{Is-over}
use Rattle.plus_fraction.proofs.FractionRing.{Is-whole}
use Rattle.plus_fraction.proofs.FractionOrder.{lt_by}
use Rattle.plus_model.specs.Terms.{Action, Always, State}
use Rattle.plus_model.specs.Value.{holds}
use Rattle.plus_model.specs.Joint.{joint}
use Rattle.plus_model.specs.Plan.{Called, Instance}
use Rattle.plus_tree.specs.declared.terms.Literal.{Literal}
use Rattle.plus_types.specs.Types.{is_above_within, is_above, is_under}
use Rattle.plus_types.specs.Faults.{listed_faults, member_faults, head_faults, leaf_faults, schema_faults, declaration_faults, rule_faults, state_faults, problem_faults}
use Rattle.plus_literal.specs.Value.{literal_value}
use Rattle.plus_expansion.specs.Expansion.{expanded}
use Rattle.plus_steps.specs.Laws.{CallName, IsOnGrid}
use Rattle.plus_steps.specs.Numeric.{CallDoes}
use Rattle.plus_steps.proofs.OneState.{one_call}
use Rattle.plus_translation.specs.Translated.{natural, times_of, translated_domain, translated_problem}
use Rattle.plus_translation.specs.Laws.{called_in_pair, IsPlanOfTranslation, CanBeTranslated}
use Rattle.plus_translation.specs.Rows.{tank, literal_problem, full_problem, call, step, FourSteps, TwoSteps, HalfSteps}
use Rattle.plus_translation.proofs.StepLength.{whole_above}
use Rattle.plus_translation.proofs.TreeLaws.{translated_plans_are_stepped}

-- the action of a call that names one
abbrev action_of : Called → Action
action_of (Instance a) = a
action_of _ = record { label = []; condition = Always; effects = [] }

abbrev number : ℕ → Fraction
number n = whole (pos n)

-- open or not, with its event's mark or not; the level and the clock
abbrev clocked : Bool → ℕ → ℕ → State
clocked opened level clock = record { atoms = opened ∷ false ∷ []; fluents = Some (number level) ∷ Some (number clock) ∷ [] }

abbrev in_literals : CallName → Called
in_literals c = called_in_pair (translated_domain (number 1) tank literal_problem) (translated_problem (number 1) tank literal_problem) c

first_step : CallDoes in_literals step (clocked false 0 0) (clocked false 0 1)
unfolding is_above_within is_above is_under joint fraction_over gcd gcd_within compared ◌+ℚ◌ ◌*ℚ◌ ◌/ℚ◌
first_step = record { action = action_of (in_literals step); called = refl; does = record { may = refl; effect = refl } }

second_step : CallDoes in_literals step (clocked false 0 1) (clocked true 0 2)
unfolding is_above_within is_above is_under joint fraction_over gcd gcd_within compared ◌+ℚ◌ ◌*ℚ◌ ◌/ℚ◌
second_step = record { action = action_of (in_literals step); called = refl; does = record { may = refl; effect = refl } }

third_step : CallDoes in_literals step (clocked true 0 2) (clocked false 2 3)
unfolding is_above_within is_above is_under joint fraction_over gcd gcd_within compared ◌+ℚ◌ ◌*ℚ◌ ◌/ℚ◌
third_step = record { action = action_of (in_literals step); called = refl; does = record { may = refl; effect = refl } }

fourth_step : CallDoes in_literals step (clocked false 2 3) (clocked false 2 4)
unfolding is_above_within is_above is_under joint fraction_over gcd gcd_within compared ◌+ℚ◌ ◌*ℚ◌ ◌/ℚ◌
fourth_step = record { action = action_of (in_literals step); called = refl; does = record { may = refl; effect = refl } }

literal_grid : All (λ (t : Literal). IsOnGrid (number 1) (literal_value t)) (times_of literal_problem)
unfolding fraction_over gcd gcd_within ◌*ℚ◌
literal_grid =
    All-cons (λ (t : Literal). IsOnGrid (number 1) (literal_value t)) (natural 2) (natural 3 ∷ []) (record { steps = 2; at = refl })
    (All-cons (λ (t : Literal). IsOnGrid (number 1) (literal_value t)) (natural 3) [] (record { steps = 3; at = refl }) (All-nil (λ (t : Literal). IsOnGrid (number 1) (literal_value t))))

literal_can : CanBeTranslated tank literal_problem (number 1)
unfolding is_above_within is_above is_under listed_faults member_faults head_faults leaf_faults schema_faults declaration_faults rule_faults state_faults problem_faults fraction_over gcd gcd_within compared
literal_can = record { passes = whole_above 1 (omega arith); typed = refl; names = refl; grid = literal_grid }

four_calls : IsPlanOfTranslation tank literal_problem (number 1) (step ∷ step ∷ step ∷ step ∷ [])
unfolding is_above_within is_above is_under fraction_over gcd gcd_within compared ◌/ℚ◌
four_calls = (clocked false 0 1, first_step, (clocked true 0 2, second_step, (clocked false 2 3, third_step, (clocked false 2 4, fourth_step, refl))))

pub four_steps : FourSteps
four_steps = (four_calls, translated_plans_are_stepped tank literal_problem (number 1) (step ∷ step ∷ step ∷ step ∷ []) literal_can four_calls)

-- the states that two steps lead to are these, and the goal does not hold
pub two_steps : TwoSteps
unfolding is_above_within is_above is_under fraction_over gcd gcd_within compared ◌/ℚ◌
two_steps h =
    let first : h.0 ≡ clocked false 0 1 = one_call CallName in_literals step (clocked false 0 0) h.0 (clocked false 0 1) h.1 first_step in
    let k : CallDoes in_literals step (clocked false 0 1) h.2.0 = subst (λ (s : State). CallDoes in_literals step s h.2.0) first h.2.1 in
    let second : h.2.0 ≡ clocked true 0 2 = one_call CallName in_literals step (clocked false 0 1) h.2.0 (clocked true 0 2) k second_step in
    let g : holds (expanded (translated_domain (number 1) tank literal_problem) (translated_problem (number 1) tank literal_problem)).goal (clocked true 0 2) ≡ true =
    subst (λ (s : State). holds (expanded (translated_domain (number 1) tank literal_problem) (translated_problem (number 1) tank literal_problem)).goal s ≡ true) second h.2.2 in
    cc

-- ---- the tank in steps of 1/2

abbrev half : Fraction
half = fraction_over (pos 1) 2

-- open or not, with its event's mark or not; the level
abbrev filled : Bool → Bool → ℕ → State
filled opened marked level = record { atoms = opened ∷ marked ∷ []; fluents = Some (number level) ∷ [] }

abbrev in_halves : CallName → Called
in_halves c = called_in_pair (translated_domain half tank full_problem) (translated_problem half tank full_problem) c

valve_opened : CallDoes in_halves (call (codes "open-valve")) (filled false false 0) (filled true false 0)
unfolding is_above_within is_above is_under joint fraction_over gcd gcd_within compared ◌+ℚ◌ ◌*ℚ◌ ◌/ℚ◌
valve_opened = record { action = action_of (in_halves (call (codes "open-valve"))); called = refl; does = record { may = refl; effect = refl } }

step_from_0 : CallDoes in_halves step (filled true false 0) (filled true false 1)
unfolding is_above_within is_above is_under joint fraction_over gcd gcd_within compared ◌+ℚ◌ ◌*ℚ◌ ◌/ℚ◌
step_from_0 = record { action = action_of (in_halves step); called = refl; does = record { may = refl; effect = refl } }

step_from_1 : CallDoes in_halves step (filled true false 1) (filled true false 2)
unfolding is_above_within is_above is_under joint fraction_over gcd gcd_within compared ◌+ℚ◌ ◌*ℚ◌ ◌/ℚ◌
step_from_1 = record { action = action_of (in_halves step); called = refl; does = record { may = refl; effect = refl } }

step_from_2 : CallDoes in_halves step (filled true false 2) (filled true false 3)
unfolding is_above_within is_above is_under joint fraction_over gcd gcd_within compared ◌+ℚ◌ ◌*ℚ◌ ◌/ℚ◌
step_from_2 = record { action = action_of (in_halves step); called = refl; does = record { may = refl; effect = refl } }

step_from_3 : CallDoes in_halves step (filled true false 3) (filled true false 4)
unfolding is_above_within is_above is_under joint fraction_over gcd gcd_within compared ◌+ℚ◌ ◌*ℚ◌ ◌/ℚ◌
step_from_3 = record { action = action_of (in_halves step); called = refl; does = record { may = refl; effect = refl } }

step_from_4 : CallDoes in_halves step (filled true false 4) (filled true false 5)
unfolding is_above_within is_above is_under joint fraction_over gcd gcd_within compared ◌+ℚ◌ ◌*ℚ◌ ◌/ℚ◌
step_from_4 = record { action = action_of (in_halves step); called = refl; does = record { may = refl; effect = refl } }

round_fired : CallDoes in_halves (call (codes "pp-fire")) (filled true false 5) (filled false true 5)
unfolding is_above_within is_above is_under joint fraction_over gcd gcd_within compared ◌+ℚ◌ ◌*ℚ◌ ◌/ℚ◌
round_fired = record { action = action_of (in_halves (call (codes "pp-fire"))); called = refl; does = record { may = refl; effect = refl } }

half_above : whole (pos 0) <ℚ half
half_above = lt_by (Is-whole (pos 0)) (Is-over (pos 1) 2 (omega arith)) (omega (arith, ints))

half_can : CanBeTranslated tank full_problem half
unfolding is_above_within is_above is_under listed_faults member_faults head_faults leaf_faults schema_faults declaration_faults rule_faults state_faults problem_faults
half_can = record { passes = half_above; typed = refl; names = refl; grid = All-nil (λ (t : Literal). IsOnGrid half (literal_value t)) }

abbrev half_calls : List CallName
half_calls = call (codes "open-valve") ∷ step ∷ step ∷ step ∷ step ∷ step ∷ call (codes "pp-fire") ∷ []

seven_calls : IsPlanOfTranslation tank full_problem half half_calls
unfolding is_above_within is_above is_under fraction_over gcd gcd_within compared ◌/ℚ◌
seven_calls = (
  filled true false 0,
  valve_opened,
  (
    filled true false 1,
    step_from_0,
    (filled true false 2, step_from_1, (filled true false 3, step_from_2, (filled true false 4, step_from_3, (filled true false 5, step_from_4, (filled false true 5, round_fired, refl))))),
  ),
)

pub half_steps : HalfSteps
half_steps = (seven_calls, translated_plans_are_stepped tank full_problem half half_calls half_can seven_calls)
