-- Processes of which it is known, without a look at them, that they agree with their membership: all others of a list.
use Rattle.std.specs.Prelude.{◌≡◌, ℕ, false, List, Some, slice_get}
use Rattle.plus_fraction.specs.Fraction.{Fraction}
use Rattle.plus_model.specs.Terms.{Process, State, Problem}
use Rattle.plus_model.specs.Firing.{is_in}
use Rattle.plus_crossing.specs.Asked.{AllPass}
use Rattle.plus_crossing.specs.Conds.{live_asks}
use Rattle.plus_settle.specs.Members.{soon}

-- it holds just after exactly where it is a member, and what it asks passes
pub record IsConfirmed (fits : Fraction → Type 0) (members : List ℕ) (s : State) (rs : List Fraction) (k : ℕ) (p : Process) : Type 0 where
  pub pass : AllPass fits (live_asks 0 p.condition s rs)
  pub agrees : soon p s rs ≡ is_in members k

-- each process that is not listed
abbrev pub OthersConfirmed : (Fraction → Type 0) → Problem → List ℕ → State → List Fraction → List ℕ → Type 0
OthersConfirmed fits P members s rs listed =
    (k : ℕ) (p : Process) → slice_get P.processes k ≡ Some p → is_in listed k ≡ false → IsConfirmed fits members s rs k p
