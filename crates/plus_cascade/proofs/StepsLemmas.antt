-- Steps of a round that are those of a layer below.
use Rattle.plus_fraction.specs.Fraction.{Fraction}
use Rattle.plus_state.specs.Tested.{Carries}
use Rattle.plus_state.specs.Asked.{NodeFits}
use Rattle.plus_state.specs.Steps as joint
use Rattle.plus_cascade.specs.Steps.{asks, Passes, of_step}

pub nodes_carry : (fits : Fraction → Type 0) → Carries asks (NodeFits fits) (Passes fits)
unfolding Passes
nodes_carry fits = record { there = λ n h. h; back = λ n h. h }

pub joint_carries : (fits : Fraction → Type 0) → Carries of_step (joint.Passes fits) (Passes fits)
unfolding joint.Passes Passes
joint_carries fits = record {
  there = λ t. elim t as (λ t. joint.Passes fits t → Passes fits (of_step t)) [ joint.asks n ↦ λ h. h | joint.fault f ↦ λ h. h ];
  back = λ t. elim t as (λ t. Passes fits (of_step t) → joint.Passes fits t) [ joint.asks n ↦ λ h. h | joint.fault f ↦ λ h. h ];
}
