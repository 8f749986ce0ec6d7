-- Each way out of `advance`.
use Rattle.std.proofs.Common.{◌≡◌, ℕ, ◌<◌, Bool, true, false, List, [], ◌∷◌, ◌&&◌, refl, ap, sym, subst, ◌∙◌}
use Rattle.std.specs.Prelude.{Option, Some, None, Ok, Err, All, MatchBool, length, if◌then◌else◌}
use Rattle.std.specs.declared.cmp.Ordering.{Ordering}
use Rattle.std.specs.declared.cmp.Ordering.TheVariants.{Less, Equal, Greater}
use Rattle.plus_fraction.specs.Fraction.{Fraction, ◌<ℚ◌, ◌≤ℚ◌, compared}
use Rattle.plus_fraction.proofs.Compared.{compared-equal, compared-greater}
use Rattle.plus_model.specs.Terms.{Below, Timed, Problem}
use Rattle.plus_model.specs.Value.{passes}
use Rattle.plus_model.specs.Firing.{firing}
use Rattle.plus_model.specs.History.{view_after, Round as Rounds, Run as Runs}
use Rattle.plus_model.specs.Trajectory.{least, literals, is_below}
use Rattle.plus_model.proofs.Moments.{not_below, from_below}
use Rattle.plus_state.specs.declared.outcome.Limit.TheVariants.{Happenings}
use Rattle.plus_state.specs.Changes.{Changes, patched}
use Rattle.plus_cascade.specs.declared.rounds.CascadeStop.{CascadeStop}
use Rattle.plus_cascade.specs.declared.rounds.DueRound.{DueRound}
use Rattle.plus_cascade.proofs.SetLemmas.{firing_all}
use Rattle.plus_settle.specs.declared.settling.Running.{Running}
use Rattle.plus_settle.specs.declared.stops.SettleStop.{SettleStop}
use Rattle.plus_settle.specs.Settles.{SettleAnswers}
use Rattle.plus_stretch.specs.declared.halt.Halt.{Halt}
use Rattle.plus_stretch.specs.declared.arrival.Arrival.{Arrival}
use Rattle.plus_stretch.specs.Arrives.{StretchTold}
use Rattle.plus_stretch.specs.Tests.{AllPass}
use Rattle.plus_stretch.proofs.Rising.{to_below}
use Rattle.plus_timeline.specs.declared.next.Next.TheVariants.{Round, Run, Entry, There}
use Rattle.plus_timeline.specs.declared.stop.Stop.{Stop}
use Rattle.plus_timeline.specs.declared.stop.Stop.TheVariants.{Breach, Limit, Ended, Memory}
use Rattle.plus_timeline.specs.Timeline.{TimelineView, has_literal, event_numbers, process_numbers}
use Rattle.plus_timeline.specs.Asked.{round_tests}
use Rattle.plus_timeline.specs.Due.{DueTold}
use Rattle.plus_timeline.specs.Advance.{IsAhead, EntersAt, Advances, AdvanceTold}
use Rattle.plus_timeline.specs.Stopping.{of_cascade, of_settle_stop, of_halt}
use Rattle.plus_timeline.proofs.Rounds.{none_due, round_passes, round_stops, round_is}
use Rattle.plus_timeline.proofs.Closings.{there_passes, full_stops, close_passes, settle_stops, run_may}
use Rattle.plus_timeline.proofs.Stretches.{stretch_passes, stretch_enters, halt_stops}

pub where_true : (b : Bool) (A B : Type 0) → b ≡ true → MatchBool b A B → A
where_true b A B e m = subst (λ (x : Bool). MatchBool x A B) e m

pub where_false : (b : Bool) (A B : Type 0) → b ≡ false → MatchBool b A B → B
where_false b A B e m = subst (λ (x : Bool). MatchBool x A B) e m

-- ---- times

-- a later time is not reached before the next literal
pub least_later : (time bound : Fraction) (ls : List Timed) → time <ℚ bound → time <ℚ least time bound ls
least_later time bound [] h = h
least_later time bound (l ∷ ls) h =
    go (is_below time l.time) (is_below l.time bound) refl (least_later time l.time ls) (least_later time bound ls h)
  where
    go : (p q : Bool) → is_below time l.time ≡ p → (time <ℚ l.time → time <ℚ least time l.time ls) → time <ℚ least time bound ls → time <ℚ (if p && q then least time l.time ls else least time bound ls)
    go true true e f k = f (from_below _ _ e)
    go true false e f k = k
    go false q e f k = k

not_later : (time bound : Fraction) → is_below time bound ≡ false → time <ℚ bound → ⊥
not_later time bound e h = let k = to_below time bound h in cc (e, k)

-- a time that is not passed, and not below the one asked for, is that one
pub is_reached : (time until : Fraction) (ls : List Timed) → time ≤ℚ until → is_below time (least time until ls) ≡ false → time ≡ until
is_reached time until ls a e = go (compared time until) refl
  where
    go : (o : Ordering) → compared time until ≡ o → time ≡ until
    go Less c = absurd (not_later time (least time until ls) e (least_later time until ls (from_below time until (ap (passes Below) c))))
    go Equal c = compared-equal time until c
    go Greater c = absurd (not_below until time (compared-greater time until c) a)

-- whether the time up to which it may go is later, by the code's values
pub as_asked : (ls : List Timed) (b : Bool) (time' time until bound : Fraction) → b ≡ is_below time' bound → time' ≡ time → bound ≡ least time' until ls → is_below time (least time until ls) ≡ b
as_asked ls b time' time until bound e p q = sym (e ∙ ap (is_below time') q ∙ ap (λ (x : Fraction). is_below x (least x until ls)) p)

pub as_later : (ls : List Timed) (time' time until bound : Fraction) → true ≡ is_below time' bound → time' ≡ time → bound ≡ least time' until ls → time <ℚ least time until ls
as_later ls time' time until bound e p q = from_below _ _ (as_asked ls true time' time until bound e p q)

module _ {Q : Type 0} (value : Q → Fraction) (fits : Fraction → Type 0) (P : Problem) (until : Fraction) (old : TimelineView) where
  -- what is told of a refusal does not depend on how the timeline is left
  pub refused : (new new' : TimelineView) (stop : Stop Q) → AdvanceTold value fits P until old new (Err stop) → AdvanceTold value fits P until old new' (Err stop)
  refused new new' (Breach b) h = h
  refused new new' (Limit l) h = h
  refused new new' Ended h = h
  refused new new' Memory h = h

  module _ (g : old.ended ≡ false) (new : TimelineView) where
    -- ---- a round
    module _ (moment : old.now.running ≡ None) where
      pub fires : (r : DueRound Q) → DueTold value fits P old.now.fired old.now.state (Ok (Some r)) → new ≡ record old { now = view_after old.now (Rounds (event_numbers r.events.items) (patched old.now.state r.changes)); before = old.now.state; events = event_numbers r.events.items; answer = Some Round; acted = false } → AdvanceTold value fits P until old new (Ok Round)
      fires r d n = record {
        going = g;
        pass = round_passes value fits P d.set old.now d.set_is old.most old.entries (least old.now.time until P.timed) moment r d.told;
        does = record {
          moment = moment;
          fired = event_numbers r.events.items;
          after = patched old.now.state r.changes;
          round = round_is value fits P d.set old.now d.set_is r d.size d.told;
          is = n;
        };
      }

      pub round_refused : (e : CascadeStop Q) → DueTold value fits P old.now.fired old.now.state (Err e) → AdvanceTold value fits P until old new (Err (of_cascade e))
      round_refused e d =
          round_stops value fits P d.set old.now d.set_is old.most old.entries (least old.now.time until P.timed) moment old.now.acted old.ended (Advances value P until old new) e g d.told

      -- ---- no event holds
      module _ (pass : AllPass fits (round_tests P old.now.fired old.now.state)) (still : firing P old.now.state ≡ []) where
        pub there : is_below old.now.time (least old.now.time until P.timed) ≡ false → old.now.time ≤ℚ until → new ≡ record old { now = record old.now { running = None }; answer = Some There; acted = false } → AdvanceTold value fits P until old new (Ok There)
        there e a n = record {
          going = g;
          pass = there_passes value fits P old.most old.entries (least old.now.time until P.timed) old.now moment pass still e;
          does = record {
            moment = moment;
            still = still;
            time = is_reached old.now.time until P.timed a e;
            is = n ∙ ap (λ (o : Option (List ℕ)). record old { now = record old.now { running = o }; answer = Some There; acted = false }) (sym moment);
          };
        }

        module _ (later : old.now.time <ℚ least old.now.time until P.timed) where
          pub full : old.entries ≡ old.most → AdvanceTold value fits P until old new (Err (Limit (Happenings old.most)))
          full e = full_stops value fits P old.most old.entries (least old.now.time until P.timed) old.now moment pass still later old.now.acted old.ended (Advances value P until old new) g e

          module _ (room : old.entries < old.most) where
            pub closed : (r : Running Q) → SettleAnswers value fits P old.now.state (Ok r) → new ≡ record old { now = view_after old.now (Runs (process_numbers r.members.items)); running = process_numbers r.members.items; rates = r.rates; answer = Some Run; acted = false } → AdvanceTold value fits P until old new (Ok Run)
            closed r h n = record {
              going = g;
              pass = close_passes value fits P old.most old.entries (least old.now.time until P.timed) old.now moment pass still later room r h;
              does = record {
                moment = moment;
                room = room;
                members = process_numbers r.members.items;
                may = run_may P (least old.now.time until P.timed) old.now (process_numbers r.members.items) r.rates still later h.1;
                is = n;
              };
            }

            pub unsettled : (e : SettleStop Q) → SettleAnswers value fits P old.now.state (Err e) → AdvanceTold value fits P until old new (Err (of_settle_stop e))
            unsettled e h =
                settle_stops value fits P old.most old.entries (least old.now.time until P.timed) old.now moment pass still later room old.now.acted old.ended (Advances value P until old new) e g h

    -- ---- along a running set
    module _ (R : List ℕ) (rs : List Fraction) (runs : old.now.running ≡ Some R) where
      pub enters : (a : Arrival Q) → StretchTold value fits P (least old.now.time until P.timed) old.now.time old.now.state R rs (Ok a) → EntersAt (value a.time) (patched old.now.state a.changes) (literals P (value a.time) (patched old.now.state a.changes)) (has_literal P (value a.time)) old new → AdvanceTold value fits P until old new (Ok (Entry a.time))
      enters a h n = record {
        going = g;
        pass = stretch_passes value fits P old.most old.entries (least old.now.time until P.timed) old.now R runs h.0;
        does = record {
          members = R;
          runs = runs;
          arrived = patched old.now.state a.changes;
          after = literals P (value a.time) (patched old.now.state a.changes);
          may = stretch_enters value fits P old.most old.entries (least old.now.time until P.timed) old.now R runs rs a h.1;
          is = n;
        };
      }

      pub halted : (h : Halt Q) → StretchTold value fits P (least old.now.time until P.timed) old.now.time old.now.state R rs (Err h) → AdvanceTold value fits P until old new (Err (of_halt h))
      halted h t = halt_stops value fits P old.most old.entries (least old.now.time until P.timed) old.now R runs old.now.acted old.ended (Advances value P until old new) h g t

-- ---- what the steps ask for

-- the events of a round that is due are among those that there are
pub due_inside : {Q : Type 0} (value : Q → Fraction) (fits : Fraction → Type 0) (P : Problem) (old : TimelineView) (r : DueRound Q) → length P.events ≡ old.event_count → DueTold value fits P old.now.fired old.now.state (Ok (Some r)) → All (λ e. e < old.event_count) (event_numbers r.events.items)
due_inside value fits P old r n d = firing_all P old.now.state old.event_count (event_numbers r.events.items) n d.told.1.all

pub none_holds : {Q : Type 0} (value : Q → Fraction) (fits : Fraction → Type 0) (P : Problem) (old : TimelineView) → DueTold {Q = Q} value fits P old.now.fired old.now.state (Ok None) → AllPass fits (round_tests P old.now.fired old.now.state) × (firing P old.now.state ≡ [])
none_holds value fits P old d = none_due value fits P d.set old.now d.set_is d.told

-- after a running set the time asked for is later, and at a moment it is not below the present one
pub later_by : (o : Option (List ℕ)) (R : List ℕ) (time until : Fraction) → o ≡ Some R → IsAhead o time until → time <ℚ until
later_by o R time until e a = subst (λ (x : Option (List ℕ)). IsAhead x time until) e a

pub not_before : (o : Option (List ℕ)) (time until : Fraction) → o ≡ None → IsAhead o time until → time ≤ℚ until
not_before o time until e a = subst (λ (x : Option (List ℕ)). IsAhead x time until) e a

-- how far a stretch may go, by the code's values
pub bound_as : (ls : List Timed) (time' time until bound : Fraction) → time' ≡ time → bound ≡ least time' until ls → bound ≡ least time until ls
bound_as ls time' time until bound p q = q ∙ ap (λ (x : Fraction). least x until ls) p

pub later_there : (ls : List Timed) (time' time until bound : Fraction) → time' ≡ time → bound ≡ least time' until ls → time <ℚ until → time <ℚ bound
later_there ls time' time until bound p q h = subst (λ (x : Fraction). time <ℚ x) (sym (bound_as ls time' time until bound p q)) (least_later time until ls h)

-- the search for the next entry leaves the timeline as it is
pub enters_as : (t : Fraction) (moves : Changes) (P : Problem) (old mid new : TimelineView) → mid ≡ old → EntersAt t (patched mid.now.state moves) (literals P t (patched mid.now.state moves)) (has_literal P t) mid new → EntersAt t (patched old.now.state moves) (literals P t (patched old.now.state moves)) (has_literal P t) old new
enters_as t moves P old mid new e n = subst (λ (v : TimelineView). EntersAt t (patched v.now.state moves) (literals P t (patched v.now.state moves)) (has_literal P t) v new) e n
