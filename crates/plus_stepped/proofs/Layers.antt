-- Tests of the layers below, as tests of a call.
use Rattle.plus_fraction.specs.Fraction.{Fraction}
use Rattle.plus_state.specs.Tested.{Carries}
use Rattle.plus_state.specs.Asked.{NodeFits}
use Rattle.plus_state.specs.Steps as steps
use Rattle.plus_cascade.specs.Steps as cascade
use Rattle.plus_stepped.specs.Tests.{asks, Passes, of_step, of_round}

pub nodes_carry : (fits : Fraction → Type 0) → Carries asks (NodeFits fits) (Passes fits)
unfolding Passes
nodes_carry fits = record { there = λ n h. h; back = λ n h. h }

pub steps_carry : (fits : Fraction → Type 0) → Carries of_step (steps.Passes fits) (Passes fits)
unfolding steps.Passes Passes
steps_carry fits = record {
  there = λ t. elim t as (λ t. steps.Passes fits t → Passes fits (of_step t)) [ steps.asks n ↦ λ h. h | steps.fault f ↦ λ h. h ];
  back = λ t. elim t as (λ t. Passes fits (of_step t) → steps.Passes fits t) [ steps.asks n ↦ λ h. h | steps.fault f ↦ λ h. h ];
}

pub rounds_carry : (fits : Fraction → Type 0) → Carries of_round (cascade.Passes fits) (Passes fits)
unfolding cascade.Passes Passes
rounds_carry fits = record {
  there = λ t. elim t as (λ t. cascade.Passes fits t → Passes fits (of_round t)) [ cascade.asks n ↦ λ h. h | cascade.fails f ↦ λ h. h | cascade.repeats e ↦ λ h. h ];
  back = λ t. elim t as (λ t. Passes fits (of_round t) → cascade.Passes fits t) [ cascade.asks n ↦ λ h. h | cascade.fails f ↦ λ h. h | cascade.repeats e ↦ λ h. h ];
}
