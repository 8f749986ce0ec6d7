-- A timeline that goes on from a moment at which nothing is due, and forgets how it came there.
use Rattle.std.specs.Prelude.{◌≡◌, [], IfSome}
use Rattle.plus_timeline.specs.Timeline.{TimelineView}

-- as before, but for what the accessors answer of the last steps
abbrev pub forked : TimelineView → TimelineView
forked v = record v { before = v.now.state; arrival = v.now.state; events = []; running = []; rates = [] }

-- a timeline may become that: it is for as many atoms, fluents and events, and where both have a root it is the same
pub record CanRefork (old from : TimelineView) : Type 0 where
  pub atoms : old.atoms ≡ from.atoms
  pub fluents : old.fluents ≡ from.fluents
  pub events : old.event_count ≡ from.event_count
  pub root : IfSome old.root (λ r. IfSome from.root (λ s. r ≡ s))
