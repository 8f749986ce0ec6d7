use Rattle.plus_crossing.proofs.Meeting.{fall_differs, meeting_pass}
use Rattle.plus_crossing.proofs.roots.meeting.Goals as goal

pub over-requires : goal.over-requires
over-requires g c = fall_differs _ _ _ _ _ c.in_ok-fall.ensures.0 c.requires

pub returns : goal.returns
returns g c = meeting_pass _ _ _ _ _ _ _ _ c.in_ok-rise.ensures.0 c.in_ok-rise.ensures.1 c.in_ok-fall.ensures.0 c.in_ok-fall.ensures.1 c.in_ok-place.ensures.0 c.in_ok-place.ensures.1 c.requires
