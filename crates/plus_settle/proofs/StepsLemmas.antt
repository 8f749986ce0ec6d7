-- Steps of settling that are those of a layer below.
use Rattle.std.proofs.Common.{ℕ, List}
use Rattle.plus_fraction.specs.Fraction.{Fraction}
use Rattle.plus_state.specs.Tested.{Carries}
use Rattle.plus_state.specs.Asked.{NodeFits}
use Rattle.plus_state.proofs.Testing.{carry_pass, carry_fail}
use Rattle.plus_crossing.specs.Asked as crossing
use Rattle.plus_crossing.specs.Asked.{Ask}
use Rattle.plus_settle.specs.Steps.{asks, Passes, AllPass, FirstStop, of_ask, owned}

pub nodes_carry : (fits : Fraction → Type 0) → Carries asks (NodeFits fits) (Passes fits)
unfolding Passes
nodes_carry fits = record { there = λ n h. h; back = λ n h. h }

pub asks_carry : (fits : Fraction → Type 0) (p : ℕ) → Carries (of_ask p) (crossing.Passes fits) (Passes fits)
unfolding crossing.Passes Passes
asks_carry fits p = record {
  there = λ t. elim t as (λ t. crossing.Passes fits t → Passes fits (of_ask p t)) [ crossing.asks n ↦ λ h. h | crossing.straight k b ↦ λ h. h ];
  back = λ t. elim t as (λ t. Passes fits (of_ask p t) → crossing.Passes fits t) [ crossing.asks n ↦ λ h. h | crossing.straight k b ↦ λ h. h ];
}

pub pass_owned : (fits : Fraction → Type 0) (p : ℕ) (ts : List Ask) → crossing.AllPass fits ts → AllPass fits (owned p ts)
unfolding owned
pass_owned fits p ts h = carry_pass (asks_carry fits p) ts h

pub stop_owned : (fits : Fraction → Type 0) (p : ℕ) (ts : List Ask) (m : Ask) → crossing.FirstFailing fits ts m → FirstStop fits (owned p ts) (of_ask p m)
unfolding owned
stop_owned fits p ts m h = carry_fail (asks_carry fits p) ts m h
