-- When a timeline has ended.
use Rattle.std.specs.Prelude.{◌≡◌, false}
use Rattle.plus_timeline.specs.Timeline.{TimelineView}

-- no call was refused, and the goal was not tested
abbrev pub IsGoing : TimelineView → Type 0
IsGoing v = v.ended ≡ false
