-- When an entry is to be closed.
use Rattle.std.specs.Prelude.{◌≡◌, ◌<◌, false}
use Rattle.plus_fraction.specs.Fraction.{Fraction, ◌<ℚ◌}
use Rattle.plus_model.specs.Terms.{Problem}
use Rattle.plus_model.specs.Trajectory.{is_below, least}
use Rattle.plus_timeline.specs.Timeline.{TimelineView}

-- time is to go on, and a further entry is allowed
pub record CanClose (P : Problem) (until : Fraction) (v : TimelineView) : Type 0 where
  pub later : v.now.time <ℚ least v.now.time until P.timed
  pub room : v.entries < v.most

-- time goes no further
abbrev pub IsReachedBy : Problem → Fraction → TimelineView → Type 0
IsReachedBy P until v = is_below v.now.time (least v.now.time until P.timed) ≡ false
