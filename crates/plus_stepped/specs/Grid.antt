-- Timed literals in steps of one length.
use Rattle.std.specs.Prelude.{◌≡◌, ℕ, suc, ◌+◌, ◌<◌, ◌≤◌, ◌^◌, Bool, List, [], ◌∷◌, map, take, All, IfSome, slice_get, slice_set, if◌then◌else◌}
use Rattle.plus_fraction.specs.Fraction.{Fraction, ◌≤ℚ◌, compared}
use Rattle.plus_model.specs.Terms.{Same, Timed}
use Rattle.plus_model.specs.Value.{passes, signed}
use Rattle.plus_model.specs.Joint.{Change, Gains, Loses}
use Rattle.plus_steps.specs.Stepped.{time_of_step}

-- the time is a whole number of steps, of 63 bits
pub record OnGrid (q time : Fraction) : Type 0 where
  pub steps : ℕ
  pub few : steps < 2 ^ 63
  pub at : time ≡ time_of_step q steps

abbrev pub AllOnGrid : Fraction → List Timed → Type 0
AllOnGrid q timed = All (λ (l : Timed). OnGrid q l.time) timed

-- no time is below that of the literal before
abbrev pub InTime : List Timed → Type 0
InTime [] = Unit {0}
InTime (l ∷ []) = Unit {0}
InTime (l ∷ next ∷ timed) = (l.time ≤ℚ next.time) × InTime (next ∷ timed)

-- After n steps the literals before this place have come, and the one there, if there is one, comes so many steps later.
pub record IsAt (timed : List Timed) (q : Fraction) (n place ticks : ℕ) : Type 0 where
  pub past : All (λ (l : Timed). l.time ≤ℚ time_of_step q n) (take place timed)
  pub next : IfSome (slice_get timed place) (λ (l : Timed). (1 ≤ ticks) × (l.time ≡ time_of_step q (n + ticks)))

-- what literals do, whatever their times
abbrev pub changes_of : List Timed → List Change
changes_of timed = map (λ (l : Timed). if l.positive then Gains l.atom else Loses l.atom) timed

-- how many of the first literals have this time
abbrev pub run_of : Fraction → List Timed → ℕ
run_of t [] = 0
run_of t (l ∷ timed) = if passes Same (compared l.time t) then suc (run_of t timed) else 0

-- the literals of this sign are put, one after the other
abbrev pub put_signed : Bool → List Timed → List Bool → List Bool
put_signed positive [] atoms = atoms
put_signed positive (l ∷ timed) atoms =
    put_signed positive timed (if signed positive l.positive then slice_set atoms l.atom positive else atoms)

-- the literals are of this time or earlier; of this time or later
abbrev pub UpTo : Fraction → List Timed → Type 0
UpTo t timed = All (λ (l : Timed). l.time ≤ℚ t) timed

abbrev pub From : Fraction → List Timed → Type 0
From t [] = Unit {0}
From t (l ∷ timed) = (t ≤ℚ l.time) × From t timed
