-- With all numbers listed there is no other.
use Rattle.std.proofs.Common.{◌≡◌, ℕ, List, length}
use Rattle.plus_fraction.specs.Fraction.{Fraction}
use Rattle.plus_model.specs.Terms.{Condition, State, Problem}
use Rattle.plus_state.specs.Numbers.{numbers_from}
use Rattle.plus_state.specs.Walk.{event_conditions, process_conditions}
use Rattle.plus_state.proofs.LookingLemmas.{no_other, all_are_members}
use Rattle.plus_settle.specs.Still.Others.{OthersStill}
use Rattle.plus_stretch.specs.Among.{AreKnownAlong}

all_still : (fits : Fraction → Type 0) (cs : List Condition) (s : State) (rs : List Fraction) (listed : List ℕ) → listed ≡ numbers_from 0 (length cs) → OthersStill fits cs s rs listed
all_still fits cs s rs listed e = record { stand = λ k c g m. absurd (no_other cs listed k c e g m); pass = λ k c g m. absurd (no_other cs listed k c e g m) }

pub all_known_along : (fits : Fraction → Type 0) (P : Problem) (s : State) (rs : List Fraction) (events processes : List ℕ) → events ≡ numbers_from 0 (length (event_conditions P)) → processes ≡ numbers_from 0 (length (process_conditions P)) → AreKnownAlong fits P s rs events processes
all_known_along fits P s rs events processes e p = record {
  event_members = all_are_members (length (event_conditions P)) events e;
  process_members = all_are_members (length (process_conditions P)) processes p;
  events_still = all_still fits (event_conditions P) s rs events e;
  events_silent = λ k c g m. absurd (no_other (event_conditions P) events k c e g m);
  processes_still = all_still fits (process_conditions P) s rs processes p;
}
