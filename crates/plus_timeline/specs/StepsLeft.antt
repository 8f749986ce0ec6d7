-- How far a timeline may be carried, and how many steps it takes at most. Behind each step that closes or begins an entry there is a
-- round for each event.
use Rattle.std.specs.Prelude.{ℕ, zero, suc, ◌+◌, ◌-◌, ◌*◌, ◌<◌, ◌≤◌, List, Option, Some, None, if◌then◌else◌}
use Rattle.plus_fraction.specs.Fraction.{Fraction}
use Rattle.plus_model.specs.Firing.{is_in}
use Rattle.plus_timeline.specs.declared.next.Next.{Next}
use Rattle.plus_timeline.specs.declared.next.Next.TheVariants.{Round, Run, Entry}
use Rattle.plus_timeline.specs.Timeline.{TimelineView}
use Rattle.plus_timeline.specs.Stops.{IsGoing}
use Rattle.plus_timeline.specs.Advance.{IsAhead}

-- the timeline goes on; of the problem that it is played with this is known
pub record CanGoOn (Known : Type 0) (t : TimelineView) : Type 0 where
  pub knows : Known
  pub going : IsGoing t
  pub within : t.entries ≤ t.most

-- a further entry is allowed where a set runs
abbrev pub HasRoom : Option (List ℕ) → ℕ → ℕ → Type 0
HasRoom None entries most = Unit {0}
HasRoom (Some running) entries most = entries < most

-- it may be carried up to the time u
pub record CanReach (Known : Type 0) (u : Fraction) (t : TimelineView) : Type 0 where
  pub goes : CanGoOn Known t
  pub ahead : IsAhead t.now.running t.now.time u
  pub room : HasRoom t.now.running t.entries t.most

-- the parts that an entry has left: one that closes it, and none where a set runs
abbrev pub pending : Option (List ℕ) → ℕ
pending None = 1
pending (Some running) = 0

-- how many of the events below this number are not among those that fired
abbrev pub unfired : ℕ → List ℕ → ℕ
unfired zero fired = 0
unfired (suc n) fired = (if is_in fired n then 0 else 1) + unfired n fired

-- how many steps are left at most
unfoldable pub steps_left : TimelineView → ℕ
steps_left t = (2 * (t.most - t.entries) + pending t.now.running) * (t.event_count + 1) + unfired t.event_count t.now.fired

-- the answer is not `There`: a part was added
pub data IsMore {Q : Type 0} : Next Q → Type 0 where
  a_round : IsMore Round
  a_run : IsMore Run
  an_entry : (t : Q) → IsMore (Entry t)
