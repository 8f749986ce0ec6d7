-- What the timed literals of one time change.
use Rattle.std.specs.Prelude.{◌≡◌, ◌↔◌, Bool, false, not, List, [], map}
use Rattle.plus_fraction.specs.Fraction.{Fraction}
use Rattle.plus_model.specs.Terms.{State, Problem}
use Rattle.plus_model.specs.Trajectory.{is_below, literals}
use Rattle.plus_state.specs.declared.problem.Timed.{Timed}
use Rattle.plus_state.specs.Changes.{Changes, patched, RisesIn}
use Rattle.plus_state.specs.Due.{Due, puts}
use Rattle.plus_state.specs.Fits.{StateFits}
use Rattle.plus_timeline.specs.Timeline.{has_literal}

-- in any state the changes come to the literals of this time; they are of atoms alone, and there are some exactly where there
-- is such a literal
pub record AreLiterals (P : Problem) (t : Fraction) (c : Changes) : Type 0 where
  pub is : (s : State) → patched s c ≡ literals P t s
  pub rises : (s : State) → StateFits P.atoms P.fluents s → RisesIn s c
  pub only : c.fluents ≡ []
  pub some : (has_literal P t ≡ false) ↔ (c.atoms ≡ [])

-- the literal comes before this time; it does not come after it
abbrev pub is_before : {Q : Type 0} → (Q → Fraction) → Fraction → Timed Q → Bool
is_before value t l = is_below (value l.time) t

abbrev pub is_by : {Q : Type 0} → (Q → Fraction) → Fraction → Timed Q → Bool
is_by value t l = not (is_below t (value l.time))

-- what literals put
abbrev pub put_of : {Q : Type 0} → Timed Q → Due
put_of l = puts l.atom.0 l.positive

abbrev pub puts_of : {Q : Type 0} → List (Timed Q) → List Due
puts_of ls = map put_of ls
