-- What the calls of one who watches do at a part of a history.
use Rattle.std.specs.Prelude.{◌≡◌, suc, Bool, true, false, List, length, Result, Ok, Err}
use Rattle.plus_fraction.specs.Fraction.{Fraction, ◌-ℚ◌}
use Rattle.plus_model.specs.Terms.{State}
use Rattle.plus_number.specs.declared.frac.Frac64.{Frac64}
use Rattle.plus_number.specs.Frac.{fraction_of, IsFrac64}
use Rattle.plus_state.specs.Tested as tested
use Rattle.plus_crossing.specs.Asked.{cond_stop_of}
use Rattle.plus_constraints.specs.Constraint.{Constraint}
use Rattle.plus_watch.specs.declared.watching.WatchHalt.{WatchHalt}
use Rattle.plus_watch.specs.declared.watching.WatchHalt.TheVariants as halts
use Rattle.plus_watch.specs.Asked.{Passes, AllPass}
use Rattle.plus_timeline.specs.Timeline.{TimelineView}
use Rattle.plus_watch.specs.Looks.{Look, moment_looks}
use Rattle.plus_watch.specs.Watched.{asked_by, found_by, both_looks, ending_looks, places_of}
use Rattle.plus_watcher.specs.declared.watcher.Standing.{Standing}
use Rattle.plus_watcher.specs.declared.watcher.Standing.TheVariants.{Going, Limit, Lost}
use Rattle.plus_watcher.specs.declared.watcher.Watcher.{Watcher}
use Rattle.plus_watcher.specs.Stands.{constraints_in}

-- whether all parts so far are looked at
abbrev pub is_going : Standing → Bool
is_going Going = true
is_going (Limit index stop) = false
is_going Lost = false

-- the states are of the problem of the constraints, and there is a place for each
pub record IsReady (w : Watcher) (s : State) : Type 0 where
  pub atoms : length s.atoms ≡ w.rules.atoms
  pub fluents : length s.fluents ≡ w.rules.fluents
  pub each : length w.firsts.items ≡ length w.rules.watched.now

-- what the looks tell is noted; want of memory is told otherwise
abbrev pub Notes : Watcher → Watcher → Result (Unit {0}) (WatchHalt Frac64) → Type 0
Notes old new (Ok u) = new ≡ old
Notes old new (Err (halts.Limit index stop)) = new ≡ record old { standing = Limit index stop }
Notes old new (Err halts.Memory) = ⊥

-- where all parts before were looked at, and the constraints took these looks
abbrev pub SeesBy : (Constraint → List Look) → Watcher → Watcher → Standing → Type 0
SeesBy looks old new Going =
    AllPass IsFrac64 (asked_by looks 1 (constraints_in old.rules) (places_of fraction_of old.firsts.items))
    × (places_of fraction_of new.firsts.items ≡ found_by looks (constraints_in old.rules) (places_of fraction_of old.firsts.items))
SeesBy looks old new (Limit index stop) =
    tested.FirstFailing (Passes IsFrac64) (asked_by looks 1 (constraints_in old.rules) (places_of fraction_of old.firsts.items)) (suc index, cond_stop_of fraction_of stop)
SeesBy looks old new Lost = ⊥

-- the last moment is at this time
pub record Sees (time : Fraction) (looks : Constraint → List Look) (old new : Watcher) : Type 0 where
  pub rules : new.rules ≡ old.rules
  pub since : fraction_of new.since ≡ time
  pub told : SeesBy looks old new new.standing

-- what a call does at a part: nothing, where a limit came before; it looks; or it is lost, where it could not be ready
pub data Looked (Ready : Type 0) (time : Fraction) (looks : Constraint → List Look) (old new : Watcher) : Type 0 where
  still : is_going old.standing ≡ false → new ≡ old → Looked Ready time looks old new
  seen : is_going old.standing ≡ true → Sees time looks old new → Looked Ready time looks old new
  lost : is_going old.standing ≡ true → (Ready → ⊥) → new.rules ≡ old.rules → Looked Ready time looks old new

-- in the state after a round or an action
abbrev pub state_looks : Watcher → State → Constraint → List Look
state_looks w s c = moment_looks c.when c.condition (fraction_of w.since) s

abbrev pub LooksAfter : State → Watcher → Watcher → Type 0
LooksAfter s old new = Looked (IsReady old s) (fraction_of old.since) (state_looks old s) old new

-- at the moment that the timeline entered, which ended no stretch
abbrev pub first_looks : TimelineView → Constraint → List Look
first_looks t c = both_looks t.now.time t.arrival t.now.state c

abbrev pub LooksFirst : TimelineView → Watcher → Watcher → Type 0
LooksFirst t old new = Looked (IsReady old t.now.state) t.now.time (first_looks t) old new

-- at one that ended a stretch, which has a length
pub record IsEntered (w : Watcher) (t : TimelineView) : Type 0 where
  pub ready : IsReady w t.now.state
  pub passed : IsFrac64 (t.now.time -ℚ fraction_of w.since)

abbrev pub entry_looks : Watcher → TimelineView → Constraint → List Look
entry_looks w t c = ending_looks (fraction_of w.since) t.before t.rates t.now.time t.arrival t.now.state c

abbrev pub LooksEntering : TimelineView → Watcher → Watcher → Type 0
LooksEntering t old new = Looked (IsEntered old t) t.now.time (entry_looks old t) old new
