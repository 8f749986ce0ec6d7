-- Which problems a timeline is played with.
use Rattle.std.specs.Prelude.{◌≡◌, ℕ, false, List, [], length, Some}
use Rattle.plus_model.specs.Terms.{Problem}
use Rattle.plus_model.specs.Firing.{firing}
use Rattle.plus_model.specs.Running.{Settled}
use Rattle.plus_timeline.specs.declared.next.Next.TheVariants.{There}
use Rattle.plus_timeline.specs.Timeline.{TimelineView}

-- a problem that may be handed in: it has as many atoms, fluents and events as the one that the timeline was begun with; along
-- a running set, the set and its rates are those that settling gives in the present state; and where the last answer is
-- `There` and no action came after it, no event holds
pub record Serves (P : Problem) (v : TimelineView) : Type 0 where
  pub atoms : v.atoms ≡ P.atoms
  pub fluents : v.fluents ≡ P.fluents
  pub events : v.event_count ≡ length P.events
  pub runs : (R : List ℕ) → v.now.running ≡ Some R → Settled P v.now.state R v.rates
  pub still : v.answer ≡ Some There → v.acted ≡ false → firing P v.now.state ≡ []
