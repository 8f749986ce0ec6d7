-- Tests of the layers below, as tests of a history.
use Rattle.plus_fraction.specs.Fraction.{Fraction}
use Rattle.plus_model.specs.Joint as joint
use Rattle.plus_state.specs.Tested.{Carries}
use Rattle.plus_state.specs.Asked.{NodeFits}
use Rattle.plus_state.specs.Steps as steps
use Rattle.plus_crossing.specs.Asked as crossing
use Rattle.plus_stretch.specs.Tests.{Whose, asks, Passes, of_ask, of_fault, of_step}

pub nodes_carry : (fits : Fraction → Type 0) → Carries asks (NodeFits fits) (Passes fits)
unfolding Passes
nodes_carry fits = record { there = λ n h. h; back = λ n h. h }

-- a test of an owner passes where that of its condition does
pub asks_carry : (fits : Fraction → Type 0) (w : Whose) → Carries (of_ask w) (crossing.Passes fits) (Passes fits)
unfolding crossing.Passes Passes
asks_carry fits w = record {
  there = λ t. elim t as (λ t. crossing.Passes fits t → Passes fits (of_ask w t)) [ crossing.asks n ↦ λ h. h | crossing.straight k b ↦ λ h. h ];
  back = λ t. elim t as (λ t. Passes fits (of_ask w t) → crossing.Passes fits t) [ crossing.asks n ↦ λ h. h | crossing.straight k b ↦ λ h. h ];
}

fault_stands : (fits : Fraction → Type 0) (f : joint.Fault) → Passes fits (of_fault f) → ⊥
unfolding Passes
fault_stands fits (joint.NoValue f) h = h
fault_stands fits (joint.Conflict f) h = h

pub steps_carry : (fits : Fraction → Type 0) → Carries of_step (steps.Passes fits) (Passes fits)
unfolding steps.Passes Passes
steps_carry fits = record {
  there = λ t. elim t as (λ t. steps.Passes fits t → Passes fits (of_step t)) [ steps.asks n ↦ λ h. h | steps.fault f ↦ λ h. absurd h ];
  back = λ t. elim t as (λ t. Passes fits (of_step t) → steps.Passes fits t) [ steps.asks n ↦ λ h. h | steps.fault f ↦ λ h. fault_stands fits f h ];
}
